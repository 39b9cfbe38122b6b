-- What the walk adds that counts.
use Rattle.std.proofs.Common.{◌≡◌, ap, sym, ◌∙◌, ℕ, zero, suc, ◌-◌, ◌<◌, ◌≤◌, Bool, false, List, [], ◌∷◌, ◌++◌, map, flat_map, filter, length, take, Some, None, arith, append_assoc, Contains}
use Rattle.std.proofs.lemmas.List.{take_all}
use Rattle.std.proofs.lemmas.List.Elements.{filter-append}
use Rattle.mo_parser.specs.declared.tree.Element.{Element}
use Rattle.mo_parser.specs.declared.tree.ClassDef.{ClassDef}
use Rattle.mo_order.specs.Marks.{is_marked}
use Rattle.class_scopes.specs.declared.type_name.TypeName.TheVariants.{Class}
use Rattle.class_scopes.specs.Reached.{HasPart, IsReached}
use Rattle.class_scopes.specs.Spelled.{Ident}
use Rattle.class_scopes.specs.Types.{elements_of, type_of, short_of}
use Rattle.class_order.specs.Content.{IsFilled, AreFilled}
use Rattle.flat_instances.specs.Instances.{Step, Item, Own, items, in_type, in_class}
use Rattle.flat_instances.specs.declared.item.Item.{Item as KeptItem}
use Rattle.flat_instances.specs.declared.modifiers.Modifiers.{Modifiers}
use Rattle.flat_instances.specs.Kept.{seen}
use Rattle.flat_instances.specs.Force.{listed}
use Rattle.flat_instances.specs.private.Walks.{component_items, AddsAlong}
use Rattle.flat_instances.proofs.Forces.{none_force}
use Rattle.filled_instances.specs.Counting.{counts}
use Rattle.filled_instances.specs.private.Counted.{own_items, component_counts, class_counts, AreFilledIn}
use Rattle.filled_instances.proofs.Empty.{kept_parts, nothing_counts}

module _ (text : List ℕ) (classes : List ClassDef) where
  -- what is reached from the class of a component is reached from the class that has it
  reached_through : (class part : ℕ) → HasPart text classes class part → (other : ℕ) → IsReached text classes part other → IsReached text classes class other
  reached_through class part has other IsReached.itself = IsReached.part class part IsReached.itself has
  reached_through class part has other (IsReached.part from to before more) = IsReached.part from to (reached_through class part has from before) more

  module _ (own marks : List Bool) where
    pub filled_in : (class : ℕ) (element : Element) → Contains (elements_of text classes class) element → AreFilled text classes class own marks
        → AreFilledIn text classes own marks element
    filled_in class element at filled part typed other from =
        filled other (reached_through class part (record { element = element; declared = at; typed = typed }) other from)

    -- a component of a class that is not marked has nothing that counts
    pub unmarked : (levels : ℕ) (scope : Ident) (path : List Step) (element : Element) (part : ℕ)
        → type_of text classes element.base ≡ Some (Class part) → short_of text classes part ≡ None → is_marked marks part ≡ false
        → AreFilledIn text classes own marks element → component_counts text classes own levels scope element path ≡ []
    unmarked levels scope path element part typed long none filled =
        ap (λ t. filter (counts own) (in_type text classes (items text classes levels) scope path element t)) typed
        ∙ ap (λ s. filter (counts own) (in_class text classes (items text classes levels) scope path element (Class part) part s)) long
        ∙ nothing_counts text classes own part empty levels _ _
      where
        empty : IsFilled text classes own part → ⊥
        empty full = let is = (filled part typed part IsReached.itself).1 full in absurd (cc (is, none))

  module _ (own : List Bool) where
    pub no_levels : (levels : ℕ) (scope : Ident) (path : List Step) (class : ℕ) → levels ≡ 0 → class_counts text classes own levels scope class path ≡ []
    no_levels levels scope path class none = ap (λ n. class_counts text classes own n scope class path) none

    pub all_counted : (levels : ℕ) (scope : Ident) (path : List Step) (class i : ℕ) (elements : List Element) (base old new : List Item)
        → 0 < levels → elements ≡ elements_of text classes class → length elements ≤ i
        → old ≡ base ++ flat_map (λ e. component_counts text classes own (levels - 1) scope e path) (take i elements) → new ≡ old ++ own_items own scope class
        → new ≡ base ++ class_counts text classes own levels scope class path
    all_counted zero scope path class i elements base old new some these past before added = absurd (omega (arith, some))
    all_counted (suc n) scope path class i elements base old new some these past before added =
        let less : suc n - 1 ≡ n = omega arith in
        let parts : Element → List Item = λ e. component_items text classes n scope e path in
        added ∙ ap (λ t. t ++ own_items own scope class) (before ∙ ap (λ m. base ++ flat_map (λ e. component_counts text classes own m scope e path) (take i elements)) less
        ∙ ap (λ t. base ++ flat_map (λ e. component_counts text classes own n scope e path) t) (take_all i elements past ∙ these))
        ∙ append_assoc base (flat_map (λ e. component_counts text classes own n scope e path) (elements_of text classes class)) (own_items own scope class)
        ∙ ap (λ t. base ++ t) (ap (λ t. t ++ own_items own scope class) (sym (kept_parts (counts own) parts (elements_of text classes class)))
        ∙ sym (filter-append (counts own) (flat_map parts (elements_of text classes class)) (Own scope class ∷ [])))

-- all that is found from the chosen class on
pub from_start : (text : List ℕ) (classes : List ClassDef) (own : List Bool) (class levels : ℕ) (old new : List KeptItem) (scope : Ident) (modifiers : Modifiers) → old ≡ [] → scope ≡ []
    → ((name : Ident) → listed modifiers name ≡ [])
    → AddsAlong text classes scope modifiers (class_counts text classes own levels scope class) old new
    → map (seen text classes) new ≡ filter (counts own) (items text classes levels [] [] class)
from_start text classes own class levels old new scope modifiers none empty nothing added =
    added [] (none_force text scope modifiers nothing) ∙ ap (λ o. map (seen text classes) o ++ class_counts text classes own levels scope class []) none
    ∙ ap (λ s. class_counts text classes own levels s class []) empty
