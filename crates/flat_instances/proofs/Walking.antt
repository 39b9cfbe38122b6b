-- The walk over instances.
use Rattle.std.proofs.Common.{◌≡◌, ap, sym, ◌∙◌, ℕ, zero, suc, ◌+◌, ◌-◌, ◌<◌, ◌≤◌, List, [], ◌∷◌, ◌++◌, map, flat_map, length, take, get_or, Option, Some, None, option_map, arith, append_assoc, is_some, false}
use Rattle.std.proofs.lemmas.List.{take_all, map-append}
use Rattle.mo_parser.specs.declared.tree.Element.{Element}
use Rattle.class_scopes.proofs.Leasts.{one_more}
use Rattle.mo_parser.specs.declared.tree.ClassDef.{ClassDef}
use Rattle.std.specs.Borrow.{Bor}
use Rattle.std.specs.Option.{option_copied, option_or}
use Rattle.class_scopes.specs.declared.type_name.TypeName.{TypeName}
use Rattle.class_scopes.specs.declared.type_name.TypeName.TheVariants.{Class}
use Rattle.flat_instances.specs.declared.item.Variable.{Variable as KeptVariable}
use Rattle.flat_instances.specs.declared.item.Item.{Item as KeptItem}
use Rattle.flat_instances.specs.declared.item.Item.TheVariants as kept
use Rattle.flat_instances.specs.declared.modifiers.Modifiers.{Modifiers}
use Rattle.class_scopes.specs.Spelled.{Ident, spelled}
use Rattle.class_scopes.specs.Types.{elements_of, type_of, short_of}
use Rattle.flat_instances.specs.Instances.{Step, Placed, Item, Own, Declared, Variable, short_start, items, in_type, in_class}
use Rattle.flat_instances.specs.Kept.{seen, seen_variable, placed_in}
use Rattle.flat_instances.specs.Force.{listed, stepped}
use Rattle.flat_instances.specs.private.Walks.{AddsAlong, component_items, class_items}
use Rattle.flat_instances.proofs.Forces.{none_force}

module _ {A B : Type 0} (f : A → List B) (xs : List A) (i : ℕ) (x : A) (within : i < length xs) (is : x ≡ get_or xs i x) where
  -- what one more part adds
  pub added_more : (base old new : List B) → old ≡ base ++ flat_map f (take i xs) → new ≡ old ++ f x → new ≡ base ++ flat_map f (take (i + 1) xs)
  added_more base old new before added = added ∙ ap (λ t. t ++ f x) before ∙ append_assoc base (flat_map f (take i xs)) (f x) ∙ ap (λ t. base ++ t) (sym (one_more f xs i x within is))

module _ (text : List ℕ) (classes : List ClassDef) where
  pub no_levels : (levels : ℕ) (scope : Ident) (path : List Step) (class : ℕ) → levels ≡ 0 → class_items text classes levels scope class path ≡ []
  no_levels levels scope path class none = ap (λ n. class_items text classes n scope class path) none

  pub all_items : (levels : ℕ) (scope : Ident) (path : List Step) (class i : ℕ) (elements : List Element) (base old new : List Item)
      → 0 < levels → elements ≡ elements_of text classes class → length elements ≤ i
      → old ≡ base ++ flat_map (λ e. component_items text classes (levels - 1) scope e path) (take i elements) → new ≡ old ++ Own scope class ∷ []
      → new ≡ base ++ class_items text classes levels scope class path
  all_items zero scope path class i elements base old new some these past before added = absurd (omega (arith, some))
  all_items (suc n) scope path class i elements base old new some these past before added =
      let less : suc n - 1 ≡ n = omega arith in
      added ∙ ap (λ t. t ++ Own scope class ∷ []) (before ∙ ap (λ m. base ++ flat_map (λ e. component_items text classes m scope e path) (take i elements)) less
      ∙ ap (λ t. base ++ flat_map (λ e. component_items text classes n scope e path) t) (take_all i elements past ∙ these))
      ∙ append_assoc base (flat_map (λ e. component_items text classes n scope e path) (elements_of text classes class)) (Own scope class ∷ [])

  -- a variable by what is given to it
  pub variable_seen : (v : KeptVariable) (name : Ident) (element : Element) (type : TypeName) (binding start : Option Placed)
      → v.name ≡ name → v.element.now ≡ element → v.type_name ≡ type → option_map (placed_in v.name) v.binding ≡ binding → option_map (placed_in v.name) v.start ≡ start
      → seen_variable text classes v ≡ record { name = name; element = element; type = type; binding = binding; start = option_or start (short_start text classes type) }
  variable_seen v name element type binding start name_is element_is type_is bound started =
      ap (λ n. parts n v.element.now v.type_name (option_map (placed_in v.name) v.binding) (option_map (placed_in v.name) v.start)) name_is
      ∙ ap (λ e. parts name e v.type_name (option_map (placed_in v.name) v.binding) (option_map (placed_in v.name) v.start)) element_is
      ∙ ap (λ t. parts name element t (option_map (placed_in v.name) v.binding) (option_map (placed_in v.name) v.start)) type_is
      ∙ ap (λ b. parts name element type b (option_map (placed_in v.name) v.start)) bound
      ∙ ap (λ s. parts name element type binding s) started
    where
      parts : Ident → Element → TypeName → Option Placed → Option Placed → Variable
      parts n e t b s = record { name = n; element = e; type = t; binding = b; start = option_or s (short_start text classes t) }

  -- a variable that is added
  pub declares : (found new : List KeptItem) (v : KeptVariable) (w : Variable) → seen_variable text classes v ≡ w
      → new ≡ found ++ kept.Declared v ∷ [] → map (seen text classes) new ≡ map (seen text classes) found ++ Declared w ∷ []
  declares found new v w same added =
      ap (map (seen text classes)) added ∙ map-append (seen text classes) found (kept.Declared v ∷ [])
      ∙ ap (λ w. map (seen text classes) found ++ Declared w ∷ []) same

  -- an instance inside
  pub inner_items : (levels : ℕ) (scope : Ident) (path : List Step) (element : Element) (class : ℕ) (inner : Ident)
      → type_of text classes element.base ≡ Some (Class class) → short_of text classes class ≡ None
      → inner ≡ (scope ++ spelled text element.name) ++ 46 ∷ []
      → class_items text classes levels inner class (stepped scope path element) ≡ component_items text classes levels scope element path
  inner_items levels scope path element class inner typed long inner_is =
      ap (λ s. items text classes levels s (stepped scope path element) class) inner_is
      ∙ sym (ap (in_type text classes (items text classes levels) scope path element) typed
      ∙ ap (in_class text classes (items text classes levels) scope path element (Class class) class) long)

  pub own_added : (found new : List KeptItem) (scope text_of : Ident) (class : ℕ) → text_of ≡ scope → new ≡ found ++ kept.Own text_of class ∷ []
      → map (seen text classes) new ≡ map (seen text classes) found ++ Own scope class ∷ []
  own_added found new scope text_of class same added =
      ap (map (seen text classes)) added ∙ map-append (seen text classes) found (kept.Own text_of class ∷ []) ∙ ap (λ s. map (seen text classes) found ++ Own s class ∷ []) same

pub none_behind : {A : Type 0} (x : Option (Bor A)) (y : Option A) → is_some x ≡ false → option_copied x ≡ y → y ≡ None
none_behind None y is same = sym same
none_behind (Some a) y is same = absurd (cc is)

-- all that is found from the chosen class on
pub from_start : (text : List ℕ) (classes : List ClassDef) (class levels : ℕ) (old new : List KeptItem) (scope : Ident) (modifiers : Modifiers) → old ≡ [] → scope ≡ []
    → ((name : Ident) → listed modifiers name ≡ [])
    → AddsAlong text classes scope modifiers (class_items text classes levels scope class) old new → map (seen text classes) new ≡ items text classes levels [] [] class
from_start text classes class levels old new scope modifiers none empty nothing added =
    added [] (none_force text scope modifiers nothing) ∙ ap (λ o. map (seen text classes) o ++ class_items text classes levels scope class []) none
    ∙ ap (λ s. class_items text classes levels s class []) empty
