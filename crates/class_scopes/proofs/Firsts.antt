-- The first broken rule of names.
use Rattle.std.proofs.Common.{◌≡◌, refl, ap, ap₂, sym, ◌∙◌, subst, ℕ, ◌<◌, ◌≤◌, ◌⊎◌, inl, inr, List, [], ◌∷◌, ◌++◌, map, flat_map, length, Option, Some, None, Contains, arith}
use Rattle.std.proofs.lemmas.List.Elements.{Contains-append_left, Contains-append_right, Contains-append_cases}
use Rattle.mo_parser.specs.declared.tree.ClassDef.{ClassDef}
use Rattle.mo_parser.specs.declared.tree.Element.{Element}
use Rattle.mo_parser.specs.declared.tree.Span.{Span}
use Rattle.class_scopes.specs.Faults.{IsFirstOf, IsKept, IsFirstPlace}
use Rattle.class_scopes.specs.N1 as N1
use Rattle.class_scopes.specs.N2 as N2
use Rattle.class_scopes.specs.Places.{lesser, least, repeats}
use Rattle.class_scopes.specs.Reached.{IsReached, AreReached, chosen_by, In}
use Rattle.class_scopes.specs.Spelled.{Ident, spelled}
use Rattle.class_scopes.specs.Tables.{Numbered, IsTableOf, span_entry}
use Rattle.class_scopes.specs.Types.{elements_of, element_names}
use Rattle.class_scopes.proofs.Leasts.{IsLeast, least-append, least_is, least_none, into_all, out_of_all}
use Rattle.class_scopes.proofs.Marks.{class_within}

module _ (text : List ℕ) (classes : List ClassDef) (choice : Option ℕ) where
  module _ (root : ℕ) (reached : List ℕ) (chosen : choice ≡ Some root) (are : AreReached text classes root reached) where
    pub inward : (places : ℕ → List ℕ) (p : ℕ) → In text classes choice places p → Contains (flat_map places reached) p
    inward places p (class, (other, named, inside), place) =
        let same : other ≡ root = cc (chosen, named) in
        into_all places reached class p (are.every class (subst (λ r. IsReached text classes r class) same inside)) place

    pub outward : (places : ℕ → List ℕ) (p : ℕ) → Contains (flat_map places reached) p → In text classes choice places p
    outward places p at =
        let r = out_of_all places reached p at in
        (r.0, (root, chosen, subst (IsReached text classes root) r.1.2 (are.only r.1.0 r.0 r.1.1)), r.2)

    -- the first place of a rule that lists its places for each class
    pub first_place : (places : ℕ → List ℕ) (r : Option ℕ) → r ≡ least (flat_map places reached) → IsFirstPlace (In text classes choice places) r
    first_place places (Some p) is =
        let all = least_is _ p (sym is) in
        record {
          broken = outward places p all.is;
          least = λ other broken. all.least other (inward places other broken);
        }
    first_place places None is = λ place broken. least_none _ (sym is) place (inward places place broken)

    one_less : (p : ℕ) → IsLeast (flat_map (N1.unknown_types text classes) reached) p → (other : ℕ) → N1.Breaks text classes choice other → p ≤ other
    one_less p all other (N1.Breaks.not_there none) = absurd (cc (none, chosen))
    one_less p all other (N1.Breaks.unknown place at) = all.least other (inward (N1.unknown_types text classes) other at)

    pub first_one : (p : ℕ) → least (flat_map (N1.unknown_types text classes) reached) ≡ Some p → IsFirstOf (N1.Breaks text classes choice) p
    first_one p is =
        let all = least_is _ p is in
        record {
          broken = N1.Breaks.unknown p (outward (N1.unknown_types text classes) p all.is);
          least = λ other breaks. one_less p all other breaks;
        }

    pub none_one : least (flat_map (N1.unknown_types text classes) reached) ≡ None → IsKept (N1.Breaks text classes choice)
    none_one none place (N1.Breaks.not_there absent) = cc (absent, chosen)
    none_one none place (N1.Breaks.unknown other at) = least_none _ none place (inward (N1.unknown_types text classes) place at)

    seconds : List ℕ
    seconds = N2.repeated_classes text classes ++ flat_map (N2.repeated_elements text classes) reached

    two_in : (p : ℕ) → N2.Breaks text classes choice p → Contains seconds p
    unfolding seconds
    two_in p (N2.Breaks.second_class place at) = Contains-append_left (N2.repeated_classes text classes) (flat_map (N2.repeated_elements text classes) reached) p at
    two_in p (N2.Breaks.second_element place at) =
        Contains-append_right (N2.repeated_classes text classes) (flat_map (N2.repeated_elements text classes) reached) p (inward (N2.repeated_elements text classes) p at)

    two_out : (p : ℕ) → Contains seconds p → N2.Breaks text classes choice p
    unfolding seconds
    two_out p at = by (Contains-append_cases (N2.repeated_classes text classes) (flat_map (N2.repeated_elements text classes) reached) p at)
      where
        by : Contains (N2.repeated_classes text classes) p ⊎ Contains (flat_map (N2.repeated_elements text classes) reached) p → N2.Breaks text classes choice p
        by (inl one) = N2.Breaks.second_class p one
        by (inr other) = N2.Breaks.second_element p (outward (N2.repeated_elements text classes) p other)

    module _ (r s : Option ℕ) (first : r ≡ least (N2.repeated_classes text classes)) (others : s ≡ least (flat_map (N2.repeated_elements text classes) reached)) where
      whole : lesser r s ≡ least seconds
      unfolding seconds
      whole = ap₂ lesser first others ∙ sym (least-append (N2.repeated_classes text classes) (flat_map (N2.repeated_elements text classes) reached))

      pub first_two : (p : ℕ) → lesser r s ≡ Some p → IsFirstOf (N2.Breaks text classes choice) p
      first_two p is =
          let all = least_is seconds p (sym whole ∙ is) in
          record {
            broken = two_out p all.is;
            least = λ other breaks. all.least other (two_in other breaks);
          }

      pub none_two : lesser r s ≡ None → IsKept (N2.Breaks text classes choice)
      none_two none place breaks = least_none seconds (sym whole ∙ none) place (two_in place breaks)

  not_least : choice ≡ None → (other : ℕ) → N1.Breaks text classes choice other → length text ≤ other
  not_least none other (N1.Breaks.not_there absent) = omega arith
  not_least none other (N1.Breaks.unknown place (class, (root, named, inside), at)) = absurd (cc (none, named))

  pub first_absent : choice ≡ None → IsFirstOf (N1.Breaks text classes choice) (length text)
  first_absent none = record {
    broken = N1.Breaks.not_there none;
    least = λ other breaks. not_least none other breaks;
  }

-- the element entries of a class
element_entries : (text : List ℕ) (elements : List Element) → map (span_entry text) (map (λ element. element.name) elements) ≡ map (N2.element_entry text) elements
element_entries text [] = refl
element_entries text (element ∷ elements) = ap (λ rest. span_entry text element.name ∷ rest) (element_entries text elements)

pub elements_repeated : (text : List ℕ) (classes : List ClassDef) (class : ℕ) (at : List Span) (elements : List Element) → elements ≡ elements_of text classes class
    → at ≡ map (λ element. element.name) elements → least (repeats [] (map (span_entry text) at)) ≡ least (N2.repeated_elements text classes class)
elements_repeated text classes class at elements these same =
    ap (λ s. least (repeats [] (map (span_entry text) s))) same ∙ ap (λ es. least (repeats [] es)) (element_entries text elements)
    ∙ ap (λ es. least (repeats [] (map (N2.element_entry text) es))) these

pub chosen_within : (text : List ℕ) (classes : List ClassDef) (class : Option Ident) (root : ℕ) → chosen_by text classes class ≡ Some root → root < length classes
chosen_within text classes (Some name) root is = class_within text classes name root is
chosen_within text [] None root is = absurd (cc is)
chosen_within text (class ∷ classes) None root is = let same : length classes ≡ root = cc is in omega (arith, same)

element_spellings : (text : List ℕ) (elements : List Element) → map (spelled text) (map (λ element. element.name) elements) ≡ map (λ element. spelled text element.name) elements
element_spellings text [] = refl
element_spellings text (element ∷ elements) = ap (λ rest. spelled text element.name ∷ rest) (element_spellings text elements)

pub elements_tabled : (text : List ℕ) (classes : List ClassDef) (class : ℕ) (at : List Span) (elements : List Element) (table : Numbered) → elements ≡ elements_of text classes class
    → at ≡ map (λ element. element.name) elements → IsTableOf (map (spelled text) at) table → IsTableOf (element_names text classes class) table
elements_tabled text classes class at elements table these same is =
    subst (λ names. IsTableOf names table)
    (ap (map (spelled text)) same ∙ element_spellings text elements ∙ ap (map (λ element. spelled text element.name)) these) is
