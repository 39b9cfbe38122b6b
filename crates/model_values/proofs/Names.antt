-- The names of parameters, and their table.
use Rattle.std.proofs.Common.{◌≡◌, refl, ap, sym, ◌∙◌, subst, ℕ, ◌+◌, ◌<◌, Bool, true, false, cond, List, [], ◌∷◌, ◌++◌, map, flat_map, take, length, get_or, if◌then◌else◌, arith}
use Rattle.std.proofs.lemmas.List.{take_more, length-take-le}
use Rattle.mo_parser.specs.declared.tree.ClassDef.{ClassDef}
use Rattle.class_scopes.specs.Spelled.{Ident}
use Rattle.class_scopes.specs.Tables.{Numbered, Declares, IsTableOf}
use Rattle.class_scopes.proofs.Numbers.{old_name, new_name}
use Rattle.flat_instances.specs.declared.item.Item.{Item}
use Rattle.flat_instances.specs.declared.item.Item.TheVariants.{Declared, Own}
use Rattle.flat_instances.specs.Instances.{Variable, variables}
use Rattle.flat_instances.specs.Kept.{seen, seen_variable}
use Rattle.parameter_values.specs.Values.{is_parameter}
use Rattle.parameter_values.specs.Slots.{names_of, parameters}
use Rattle.model_values.specs.private.ItemNeeds.{names_in}

module _ (text : List ℕ) (classes : List ClassDef) where
  one_more : (v : Variable) (b : Bool) (rest : List Ident) (others : List Variable) → rest ≡ names_of others
      → (if b then v.name ∷ [] else []) ++ rest ≡ names_of (cond b (v ∷ others) others)
  one_more v true rest others same = ap (λ z. v.name ∷ z) same
  one_more v false rest others same = same

  pub names_all : (items : List Item) → flat_map names_in items ≡ names_of (parameters (variables text classes (map (seen text classes) items)))
  names_all [] = refl
  names_all (Declared v ∷ items) = one_more (seen_variable text classes v) (is_parameter (seen_variable text classes v)) _ _ (names_all items)
  names_all (Own scope class ∷ items) = names_all items

module _ (names : List Ident) (i : ℕ) (x : Ident) (within : i < length names) (is : x ≡ get_or names i x) (table after : Numbered) (before : IsTableOf (take i names) table) where
  taken : take (i + 1) names ≡ take i names ++ x ∷ []
  taken = take_more names i x within ∙ ap (λ y. take i names ++ y ∷ []) (sym is)

  count : length (take i names) ≡ i
  count = length-take-le i names (omega (arith, within))

  by : (b : Bool) → Declares table x (length (take i names)) b after → IsTableOf (take i names ++ x ∷ []) after
  by true told = (new_name (take i names) x table after before told).0
  by false told = (old_name (take i names) x table after before told).0

  -- one more name is declared
  pub table_next : (name : Ident) (added : Bool) → name ≡ x → Declares table name i added after → IsTableOf (take (i + 1) names) after
  table_next name added same told =
      let here : Declares table x i added after = subst (λ n. Declares table n i added after) same told in
      subst (λ n. IsTableOf n after) (sym taken) (by added (subst (λ k. Declares table x k added after) (sym count) here))
