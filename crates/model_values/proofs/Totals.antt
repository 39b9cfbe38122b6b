-- The parts of all items are those of the variables.
use Rattle.std.proofs.Common.{◌≡◌, refl, ap, ◌∙◌, ℕ, ◌≤◌, Bool, true, false, cond, List, [], ◌∷◌, ◌++◌, map, flat_map, filter, take, length, if◌then◌else◌}
use Rattle.std.proofs.lemmas.List.{take_all}
use Rattle.mo_parser.specs.declared.tree.ClassDef.{ClassDef}
use Rattle.flat_instances.specs.declared.item.Item.{Item}
use Rattle.flat_instances.specs.declared.item.Item.TheVariants.{Declared, Own}
use Rattle.flat_instances.specs.Instances.{Variable, variables}
use Rattle.flat_instances.specs.Kept.{seen, seen_variable}
use Rattle.parameter_values.specs.Values.{is_parameter}
use Rattle.parameter_values.specs.Givens.{Valued, valued_of}
use Rattle.value_rules.specs.Needs.{needs_of}
use Rattle.model_values.specs.private.ItemNeeds.{needs_in, parameters_in}

module _ (text : List ℕ) (classes : List ClassDef) where
  all_needs : (items : List Item) → flat_map (needs_in text classes) items ≡ map (needs_of text classes) (variables text classes (map (seen text classes) items))
  all_needs [] = refl
  all_needs (Declared v ∷ items) = ap (λ rest. needs_of text classes (seen_variable text classes v) ∷ rest) (all_needs items)
  all_needs (Own scope class ∷ items) = all_needs items

  one_more : (v : Variable) (b : Bool) (rest : List Valued) (others : List Variable) → rest ≡ map (valued_of text classes) others
      → (if b then valued_of text classes v ∷ [] else []) ++ rest ≡ map (valued_of text classes) (cond b (v ∷ others) others)
  one_more v true rest others same = ap (λ z. valued_of text classes v ∷ z) same
  one_more v false rest others same = same

  all_parameters : (items : List Item) → flat_map (parameters_in text classes) items ≡ map (valued_of text classes) (filter is_parameter (variables text classes (map (seen text classes) items)))
  all_parameters [] = refl
  all_parameters (Declared v ∷ items) = one_more (seen_variable text classes v) (is_parameter (seen_variable text classes v)) _ _ (all_parameters items)
  all_parameters (Own scope class ∷ items) = all_parameters items

  pub needs_all : (items : List Item) (i : ℕ) → length items ≤ i
      → flat_map (needs_in text classes) (take i items) ≡ map (needs_of text classes) (variables text classes (map (seen text classes) items))
  needs_all items i past = ap (flat_map (needs_in text classes)) (take_all i items past) ∙ all_needs items

  pub parameters_all : (items : List Item) (i : ℕ) → length items ≤ i
      → flat_map (parameters_in text classes) (take i items) ≡ map (valued_of text classes) (filter is_parameter (variables text classes (map (seen text classes) items)))
  parameters_all items i past = ap (flat_map (parameters_in text classes)) (take_all i items past) ∙ all_parameters items
