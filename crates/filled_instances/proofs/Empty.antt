-- Classes that have nothing in them.
use Rattle.std.proofs.Common.{◌≡◌, refl, ap, ap₂, ◌∙◌, ℕ, zero, suc, Bool, true, false, cond, List, [], ◌∷◌, ◌++◌, flat_map, filter, Option, Some, None, is_some, Contains}
use Rattle.std.proofs.lemmas.List.Elements.{filter-append}
use Rattle.mo_parser.specs.declared.tree.ClassDef.{ClassDef}
use Rattle.mo_parser.specs.declared.tree.Element.{Element}
use Rattle.mo_parser.specs.declared.tree.Short.{Short}
use Rattle.mo_order.specs.Marks.{is_marked}
use Rattle.class_scopes.specs.declared.type_name.TypeName.{TypeName}
use Rattle.class_scopes.specs.declared.type_name.TypeName.TheVariants.{Simple, Foreign, Class}
use Rattle.class_scopes.specs.Reached.{HasPart}
use Rattle.class_scopes.specs.Spelled.{Ident}
use Rattle.class_scopes.specs.Types.{type_of, elements_of, short_of}
use Rattle.class_order.specs.Content.{IsFilled}
use Rattle.class_order.proofs.Lists.{in_head, in_tail}
use Rattle.flat_instances.specs.Instances.{Step, Own, in_class, in_type, in_component, items}
use Rattle.filled_instances.specs.Counting.{counts}
use Rattle.filled_instances.specs.Laws.{NothingCountsLaw}

-- what is kept of several lists is what is kept of each
pub kept_parts : {A B : Type 0} (p : B → Bool) (f : A → List B) (xs : List A) → filter p (flat_map f xs) ≡ flat_map (λ x. filter p (f x)) xs
kept_parts p f [] = refl
kept_parts p f (x ∷ xs) = filter-append p (f x) (flat_map f xs) ∙ ap (λ ys. filter p (f x) ++ ys) (kept_parts p f xs)

no_parts : {A B : Type 0} (f : A → List B) (xs : List A) → ((x : A) → Contains xs x → f x ≡ []) → flat_map f xs ≡ []
no_parts f [] none = refl
no_parts f (x ∷ xs) none = ap₂ (λ ys zs. ys ++ zs) (none x (in_head x xs)) (no_parts f xs (λ y at. none y (in_tail x xs y at)))

not_own : (b : Bool) → (b ≡ true → ⊥) → b ≡ false
not_own true none = absurd (none refl)
not_own false none = refl

module _ (text : List ℕ) (classes : List ClassDef) (own : List Bool) where
  abbrev IsEmpty : ℕ → Type 0
  IsEmpty class = IsFilled text classes own class → ⊥

  -- an instance of an empty class has nothing that counts, down to so many levels
  abbrev HasNothing : ℕ → Type 0
  HasNothing levels = (class : ℕ) → IsEmpty class → (scope : Ident) (path : List Step) → filter (counts own) (items text classes levels scope path class) ≡ []

  module _ (levels : ℕ) (below : HasNothing levels) (class : ℕ) (none : IsEmpty class) (scope : Ident) (path : List Step)
      (element : Element) (at : Contains (elements_of text classes class) element) where
    no_class : (part : ℕ) → type_of text classes element.base ≡ Some (Class part) → (s : Option Short) → short_of text classes part ≡ s
        → filter (counts own) (in_class text classes (items text classes levels) scope path element (Class part) part s) ≡ []
    no_class part is (Some short) behind = absurd (none (IsFilled.variable class element (Class part) at is (ap is_some behind)))
    no_class part is None behind =
        let has : HasPart text classes class part = record { element = element; declared = at; typed = is } in
        below part (λ filled. none (IsFilled.part class part has filled)) _ _

    no_type : (t : Option TypeName) → type_of text classes element.base ≡ t → filter (counts own) (in_type text classes (items text classes levels) scope path element t) ≡ []
    no_type None is = refl
    no_type (Some Foreign) is = refl
    no_type (Some (Simple kind)) is = absurd (none (IsFilled.variable class element (Simple kind) at is refl))
    no_type (Some (Class part)) is = no_class part is (short_of text classes part) refl

  nothing : (levels : ℕ) → HasNothing levels
  nothing zero class none scope path = refl
  nothing (suc n) class none scope path =
      filter-append (counts own) (flat_map (in_component text classes (items text classes n) scope path) (elements_of text classes class)) (Own scope class ∷ [])
      ∙ ap₂ (λ ys zs. ys ++ zs)
      (kept_parts (counts own) (in_component text classes (items text classes n) scope path) (elements_of text classes class)
      ∙ no_parts (λ e. filter (counts own) (in_component text classes (items text classes n) scope path e)) (elements_of text classes class)
      (λ e at. no_type n (nothing n) class none scope path e at (type_of text classes e.base) refl))
      (ap (λ b. cond b (Own scope class ∷ []) []) (not_own (is_marked own class) (λ is. none (IsFilled.itself class is))))

pub nothing_counts : NothingCountsLaw
nothing_counts text classes own class none levels scope path = nothing text classes own levels class none scope path
