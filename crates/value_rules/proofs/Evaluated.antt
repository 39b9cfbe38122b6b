-- What evaluating an expression by numbers tells of its value.
use Rattle.std.proofs.Common.{◌≡◌, refl, ap, ◌∙◌, ℕ, Bool, List, [], Option, Some, None, is_some, not}
use Rattle.mo_order.specs.Values.{Slots}
use Rattle.mo_order.proofs.Queueing.{larger_self}
use Rattle.mo_parser.specs.declared.tree.ClassDef.{ClassDef}
use Rattle.mo_parser.specs.declared.tree.TreeExpr.{TreeExpr}
use Rattle.flat_model.specs.declared.model.NameKind.{NameKind}
use Rattle.class_scopes.specs.Spelled.{Ident}
use Rattle.class_scopes.specs.Tables.{Numbered}
use Rattle.flat_instances.specs.Instances.{Placed}
use Rattle.parameter_values.specs.Values.{Values, of_kind, answer, value_by}
use Rattle.parameter_values.specs.Outcomes.{outcome}
use Rattle.parameter_values.specs.Givens.{value_with}
use Rattle.parameter_values.proofs.OutcomeMeaning.{outcome_matches}
use Rattle.value_rules.specs.private.Missing.{is_no_value, unless_value, missing_of}

-- the classes say nothing of an answer
answer_classes : (text : List ℕ) (classes : List ClassDef) (values : Values) (scope : Ident) (expr : TreeExpr) → answer text [] values scope expr ≡ answer text classes values scope expr
unfolding answer
answer_classes text classes values scope expr = refl

pub with_classes : (text : List ℕ) (classes : List ClassDef) (values : Values) (k : Option NameKind) (placed : Option Placed)
    → value_by text [] values k placed ≡ value_by text classes values k placed
with_classes text classes values k None = refl
with_classes text classes values k (Some placed) = ap (of_kind k) (answer_classes text classes values placed.scope placed.expr)

module _ (text : List ℕ) (table : Numbered) (slots : Slots) where
  pub evaluated : (k : Option NameKind) (scope : Ident) (expr : TreeExpr)
      → not (is_some (value_with text table slots (k, Some (record { scope = scope; expr = expr })))) ≡ is_no_value k (outcome text table slots scope expr)
  evaluated k scope expr =
      let m = outcome_matches slots slots (larger_self slots) text [] table scope expr in
      ap (λ a. not (is_some (of_kind k a))) (m.told m.blocked)

  -- whether there is no value decides what is missing
  pub missing_is : (count : ℕ) (k : Option NameKind) (placed : Option Placed) (scope : Ident) (expr : TreeExpr) → placed ≡ Some (record { scope = scope; expr = expr })
      → (b : Bool) → is_no_value k (outcome text table slots scope expr) ≡ b
      → missing_of text table slots count (k, placed) ≡ unless_value text table slots count b (record { scope = scope; expr = expr })
  missing_is count k placed scope expr is b same =
      ap (λ p. missing_of text table slots count (k, p)) is
      ∙ ap (λ t. unless_value text table slots count t (record { scope = scope; expr = expr })) (evaluated k scope expr ∙ same)
