-- The names of variables.
use Rattle.std.proofs.Common.{◌≡◌, refl, ap, sym, ◌∙◌, ℕ, ◌+◌, ◌<◌, Bool, true, false, cond, not, List, [], ◌∷◌, ◌++◌, map, flat_map, filter, subst, take, length, get_or, Some, None, Option, if◌then◌else◌, append-nil}
use Rattle.std.specs.List.{AllZip}
use Rattle.sync_values.specs.declared.value.Value.{Value}
use Rattle.mo_order.specs.Values.{Slots}
use Rattle.mo_order.proofs.Queueing.{larger_self}
use Rattle.mo_parser.specs.declared.tree.ClassDef.{ClassDef}
use Rattle.mo_parser.specs.declared.tree.TreeExpr.{TreeExpr}
use Rattle.flat_model.specs.declared.model.FlatName.{FlatName}
use Rattle.flat_model.specs.declared.model.NameKind.{NameKind}
use Rattle.class_scopes.specs.Spelled.{Ident}
use Rattle.class_scopes.specs.Tables.{Numbered}
use Rattle.flat_instances.specs.declared.item.Item.{Item}
use Rattle.flat_instances.specs.declared.item.Variable.{Variable as KeptVariable}
use Rattle.flat_instances.specs.declared.item.Item.TheVariants.{Declared, Own}
use Rattle.flat_instances.specs.Instances.{Variable, variables}
use Rattle.flat_instances.specs.Kept.{seen, seen_variable}
use Rattle.parameter_values.specs.Values.{of_kind, answer, is_fixed, is_parameter}
use Rattle.parameter_values.specs.Outcomes.{outcome, answer_of}
use Rattle.parameter_values.specs.Slots.{seen as seen_values}
use Rattle.parameter_values.proofs.OutcomeMeaning.{outcome_matches}
use Rattle.flat_answer.specs.Model.{plain}
use Rattle.flat_names.specs.private.Naming.{plain_in}

-- what evaluating by numbers gives is the answer
pub evaluated : (text : List ℕ) (classes : List ClassDef) (table : Numbered) (slots : Slots) (kind : Option NameKind) (scope : Ident) (expr : TreeExpr)
    → of_kind kind (answer_of (outcome text table slots scope expr)) ≡ of_kind kind (answer text classes (seen_values table slots) scope expr)
evaluated text classes table slots kind scope expr =
    let m = outcome_matches slots slots (larger_self slots) text classes table scope expr in
    ap (of_kind kind) (sym (m.told m.blocked))

pub zip_push : {A B : Type 0} (R : A → B → Type 0) (xs : List A) (ys : List B) (x : A) (y : B) → AllZip R xs ys → R x y → AllZip R (xs ++ x ∷ []) (ys ++ y ∷ [])
zip_push R [] [] x y all here = (here, tt)
zip_push R [] (z ∷ ys) x y all here = absurd all
zip_push R (w ∷ xs) [] x y all here = absurd all
zip_push R (w ∷ xs) (z ∷ ys) x y all here = (all.0, zip_push R xs ys x y all.1 here)

pub zip_none : {A B : Type 0} (R : A → B → Type 0) (xs : List A) (ys : List B) → AllZip R xs ys → AllZip R (xs ++ []) ys
zip_none R [] ys all = all
zip_none R (x ∷ xs) [] all = absurd all
zip_none R (x ∷ xs) (y ∷ ys) all = (all.0, zip_none R xs ys all.1)

module _ (text : List ℕ) (classes : List ClassDef) where
  -- the name of a variable but a parameter or constant is added
  pub adds_plain : (R : Variable → FlatName → Type 0) (item : Item) (v : KeptVariable) (before : List Variable) (old new : List FlatName) (name : FlatName)
      → item ≡ Declared v → is_fixed v.element.now.variability ≡ false → new ≡ old ++ name ∷ [] → AllZip R before old → R (seen_variable text classes v) name
      → AllZip R (before ++ plain_in text classes item) new
  adds_plain R item v before old new name is plain added all here =
      let same : plain_in text classes item ≡ seen_variable text classes v ∷ [] =
      ap (plain_in text classes) is ∙ ap (λ b. if not b then seen_variable text classes v ∷ [] else []) plain in
      subst (AllZip R (before ++ plain_in text classes item)) (sym added)
      (subst (λ vs. AllZip R (before ++ vs) (old ++ name ∷ [])) (sym same) (zip_push R before old (seen_variable text classes v) name all here))

  one_more : (v : Variable) (b : Bool) (rest others : List Variable) → rest ≡ others → (if b then v ∷ [] else []) ++ rest ≡ cond b (v ∷ others) others
  one_more v true rest others same = ap (λ z. v ∷ z) same
  one_more v false rest others same = same

  -- the names of items are those of the plain variables among them
  pub plain_all : (items : List Item) → flat_map (plain_in text classes) items ≡ plain (variables text classes (map (seen text classes) items))
  plain_all [] = refl
  plain_all (Declared v ∷ items) = one_more (seen_variable text classes v) (not (is_parameter (seen_variable text classes v))) _ _ (plain_all items)
  plain_all (Own scope class ∷ items) = plain_all items
