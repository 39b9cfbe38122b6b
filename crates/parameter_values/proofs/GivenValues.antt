-- What is told of an outcome tells what a parameter is given.
use Rattle.std.proofs.Common.{◌≡◌, refl, ap, sym, ◌∙◌, subst, ℕ, suc, List, [], ◌∷◌, length, map, Option, Some, None, slice_get, option_map, option_and_then}
use Rattle.std.proofs.lemmas.Option.{slice_get-map}
use Rattle.std.proofs.Math.Path.{fun_ext}
use Rattle.sync_values.specs.declared.value.Value.{Value}
use Rattle.mo_order.specs.Values.{Slots, Rules, Larger, Answers, AreAll}
use Rattle.mo_order.specs.declared.queue.Given.{Given}
use Rattle.mo_order.proofs.Queueing.{larger_self}
use Rattle.mo_parser.specs.declared.tree.ClassDef.{ClassDef}
use Rattle.mo_parser.specs.declared.tree.TreeExpr.{TreeExpr}
use Rattle.flat_model.specs.declared.model.NameKind.{NameKind}
use Rattle.flat_model.specs.declared.model.NameKind.TheVariants as kind
use Rattle.flat_model.specs.Operators.{Answer, Is, Fails, Absent}
use Rattle.parameter_values.specs.declared.evaluate.Outcome.{Outcome}
use Rattle.parameter_values.specs.declared.evaluate.Outcome.TheVariants as out
use Rattle.parameter_values.specs.declared.evaluate.Parameter.{Parameter}
use Rattle.class_scopes.specs.Spelled.{Ident}
use Rattle.class_scopes.specs.Tables.{Numbered}
use Rattle.flat_instances.specs.Instances.{Placed, Variable}
use Rattle.parameter_values.specs.Values.{Values, of_kind, zero_of, answer, value_by, value_expr, value_from}
use Rattle.parameter_values.specs.Slots.{seen, rules_of, parameters}
use Rattle.parameter_values.specs.Outcomes.{outcome}
use Rattle.parameter_values.specs.Givens.{given_value, given_of, Valued, valued, valued_of, rules_by, value_with, HaveValues}
use Rattle.class_scopes.specs.Types.{kind_of}
use Rattle.parameter_values.proofs.Slots.{found_values}
use Rattle.parameter_values.proofs.OutcomeMeaning.{Matches, outcome_matches}

kind_absent : (k : Option NameKind) → of_kind k Absent ≡ None
kind_absent None = refl
kind_absent (Some kind.Integer) = refl
kind_absent (Some kind.Boolean) = refl
kind_absent (Some kind.Clock) = refl

kind_fails : (k : Option NameKind) (f : _) → of_kind k (Fails f) ≡ None
kind_fails None f = refl
kind_fails (Some kind.Integer) f = refl
kind_fails (Some kind.Boolean) f = refl
kind_fails (Some kind.Clock) f = refl

-- what is the same from all larger values is told
pub always : (rules : Rules) (slots : Slots) (x : ℕ) (r : Option Value) → ((new : Slots) → Larger slots new → rules new x ≡ r) → Answers rules slots x (given_value r)
always rules slots x (Some v) same = same
always rules slots x None same = same

module _ (rules : Rules) (slots : Slots) (x : ℕ) (k : Option NameKind) (answers : Slots → Answer) (same : (new : Slots) → rules new x ≡ of_kind k (answers new)) where
  pub given_tells : (o : Outcome) → ((new : Slots) (larger : Larger slots new) → Matches slots new larger o (answers new)) → Answers rules slots x (given_of k o)
  given_tells (out.Known v) m = always rules slots x (of_kind k (Is v)) (λ new larger. same new ∙ ap (of_kind k) ((m new larger).told tt))
  given_tells (out.Failing f) m = λ new larger. same new ∙ ap (of_kind k) ((m new larger).told tt) ∙ kind_fails k f
  given_tells (out.Missing None) m = λ new larger. same new ∙ ap (of_kind k) ((m new larger).told tt) ∙ kind_absent k
  given_tells (out.Missing (Some n)) m =
      ((m slots (larger_self slots)).blocked, λ new larger none. same new ∙ ap (of_kind k) ((m new larger).told none) ∙ kind_absent k)

-- of a parameter with an expression
pub expr_tells : (text : List ℕ) (table : Numbered) (items : List Valued) (slots : Slots) (x : ℕ) (k : Option NameKind) (scope : Ident) (expr : TreeExpr)
    → slice_get items x ≡ Some (k, Some (record { scope = scope; expr = expr })) → Answers (rules_by text table items) slots x (given_of k (outcome text table slots scope expr))
expr_tells text table items slots x k scope expr at =
    given_tells (rules_by text table items) slots x k (λ new. answer text [] (seen table new) scope expr)
    (λ new. ap (option_and_then (value_with text table new)) at) (outcome text table slots scope expr)
    (λ new larger. outcome_matches slots new larger text [] table scope expr)

-- of one without
pub zero_tells : (text : List ℕ) (table : Numbered) (items : List Valued) (slots : Slots) (x : ℕ) (k : Option NameKind)
    → slice_get items x ≡ Some (k, None) → Answers (rules_by text table items) slots x (given_value (zero_of k))
zero_tells text table items slots x k at =
    always (rules_by text table items) slots x (zero_of k) (λ new larger. ap (option_and_then (value_with text table new)) at)

-- the parameter that is kept, as it is seen
pub kept_at : (items : List Parameter) (x : ℕ) (p : Parameter) (placed : Option Placed) → slice_get items x ≡ Some p
    → option_map (λ expr. record { scope = p.scope; expr = expr.now }) p.expr ≡ placed → slice_get (map valued items) x ≡ Some (p.kind, placed)
kept_at items x p placed at is = slice_get-map valued items x ∙ ap (option_map valued) at ∙ ap (λ z. Some (p.kind, z)) is

pub told_as : (rules : Rules) (slots : Slots) (x : ℕ) (given want : Given) → given ≡ want → Answers rules slots x want → Answers rules slots x given
told_as rules slots x given want same told = subst (Answers rules slots x) (sym same) told

-- the classes say nothing of an answer
answer_classes : (text : List ℕ) (classes : List ClassDef) (values : Values) (scope : Ident) (expr : TreeExpr) → answer text [] values scope expr ≡ answer text classes values scope expr
unfolding answer
answer_classes text classes values scope expr = refl

module _ (text : List ℕ) (classes : List ClassDef) (table : Numbered) where
  with_classes : (slots : Slots) (k : Option NameKind) (placed : Option Placed) → value_by text [] (seen table slots) k placed ≡ value_by text classes (seen table slots) k placed
  with_classes slots k None = refl
  with_classes slots k (Some placed) = ap (of_kind k) (answer_classes text classes (seen table slots) placed.scope placed.expr)

  same_rule : (all : List Variable) (slots : Slots) (x : ℕ) → rules_by text table (map (valued_of text classes) all) slots x ≡ rules_of text classes all table slots x
  same_rule all slots x = ap (option_and_then (value_with text table slots)) (slice_get-map (valued_of text classes) all x) ∙ by (slice_get all x)
    where
      by : (v : Option Variable) → option_and_then (value_with text table slots) (option_map (valued_of text classes) v) ≡ option_and_then (value_from text classes (seen table slots)) v
      by None = refl
      by (Some v) = with_classes slots (kind_of text classes v.type) (value_expr text classes v)

  same_rules : (all : List Variable) → rules_by text table (map (valued_of text classes) all) ≡ rules_of text classes all table
  same_rules all = fun_ext (λ slots. fun_ext (λ x. same_rule all slots x))

long_map : {A B : Type 0} (f : A → B) (xs : List A) → length (map f xs) ≡ length xs
long_map f [] = refl
long_map f (x ∷ xs) = ap suc (long_map f xs)

-- what is found by the rules of kept parameters are the values of the model's
pub have_values : (text : List ℕ) (table : Numbered) (items : List Parameter) (found : Slots) → AreAll (rules_by text table (map valued items)) (length items) found
    → HaveValues text table (map valued items) found
have_values text table items found are classes all is_table same =
    let size : length items ≡ length (parameters all) = sym (long_map valued items) ∙ ap length same ∙ long_map (valued_of text classes) (parameters all) in
    let rules : rules_by text table (map valued items) ≡ rules_of text classes (parameters all) table = ap (rules_by text table) same ∙ same_rules text classes table (parameters all) in
    found_values text classes all table is_table found
    (subst (λ r. AreAll r (length (parameters all)) found) rules (subst (λ n. AreAll (rules_by text table (map valued items)) n found) size are))
