-- Components by their names.
use Rattle.std.proofs.Common.{◌≡◌, refl, ap, sym, ◌∙◌, subst, ℕ, zero, suc, ◌+◌, ◌<◌, ◌≤◌, ◌⊎◌, inl, inr, Bool, true, false, cond, List, [], ◌∷◌, ◌++◌, map, length, drop, get_or, find, slice_get, Option, Some, None, option_and_then, bytes_eq, arith}
use Rattle.std.specs.List.{position_from}
use Rattle.std.proofs.Math.Seq.{drop-cons}
use Rattle.mo_parser.specs.declared.tree.ClassDef.{ClassDef}
use Rattle.mo_parser.specs.declared.tree.Element.{Element}
use Rattle.mo_parser.specs.declared.tree.Span.{Span}
use Rattle.class_scopes.specs.Spelled.{Ident, spelled}
use Rattle.class_scopes.specs.Tables.{Numbered, number_of, IsTableOf}
use Rattle.class_scopes.specs.Types.{elements_of, element_names}
use Rattle.scope_names.specs.Scopes.{element_named, class_of, element_along}
use Rattle.scope_names.specs.private.Tabled.{AreTabled}

module _ (text : List ℕ) (name : Ident) where
  abbrev is_named : Element → Bool
  is_named element = bytes_eq name (spelled text element.name)

  abbrev names : List Element → List Ident
  names elements = map (λ element. spelled text element.name) elements

  -- a name that has no place is that of no component
  found_none : (i : ℕ) (elements : List Element) → position_from (bytes_eq name) i (names elements) ≡ None → find (is_named) elements ≡ None
  found_none i [] none = refl
  found_none i (element ∷ elements) none = by (is_named element) none (found_none (i + 1) elements)
    where
      by : (b : Bool) → cond b (Some i) (position_from (bytes_eq name) (i + 1) (names elements)) ≡ None
          → (position_from (bytes_eq name) (i + 1) (names elements) ≡ None → find (is_named) elements ≡ None) → cond b (Some element) (find (is_named) elements) ≡ None
      by true none again = absurd (cc none)
      by false none again = again none

  -- one that has is that of the component there
  found_some : (i n : ℕ) (elements : List Element) → position_from (bytes_eq name) i (names elements) ≡ Some n
      → (k : ℕ) × (n ≡ i + k) × (find (is_named) elements ≡ slice_get elements k)
  found_some i n [] some = absurd (cc some)
  found_some i n (element ∷ elements) some = by (is_named element) some (found_some (i + 1) n elements)
    where
      by : (b : Bool) → cond b (Some i) (position_from (bytes_eq name) (i + 1) (names elements)) ≡ Some n
          → (position_from (bytes_eq name) (i + 1) (names elements) ≡ Some n → (k : ℕ) × (n ≡ i + 1 + k) × (find (is_named) elements ≡ slice_get elements k))
          → (k : ℕ) × (n ≡ i + k) × (cond b (Some element) (find (is_named) elements) ≡ slice_get (element ∷ elements) k)
      by true some again = let here : i ≡ n = cc some in (0, omega (arith, here), refl)
      by false some again = let r = again some in (suc r.0, omega (arith, r.1), r.2)

module _ (text : List ℕ) (classes : List ClassDef) (class : ℕ) (name : Ident) (table : Numbered) (is : IsTableOf (element_names text classes class) table) where
  pub named_none : number_of table name ≡ None → element_named text classes class name ≡ None
  named_none none = found_none text name 0 (elements_of text classes class) (sym (is name) ∙ none)

  pub named_some : (n : ℕ) → number_of table name ≡ Some n → element_named text classes class name ≡ slice_get (elements_of text classes class) n
  named_some n some =
      let r = found_some text name 0 n (elements_of text classes class) (sym (is name) ∙ some) in
      let same : r.0 ≡ n = omega (arith, r.1) in
      r.2 ∙ ap (slice_get (elements_of text classes class)) same

-- a class past the last has no components
none_in : (text : List ℕ) (name : Ident) (elements : List Element) → elements ≡ [] → find (is_named text name) elements ≡ None
none_in text name elements none = ap (find (is_named text name)) none

pub named_past : (text : List ℕ) (classes : List ClassDef) (class : ℕ) (name : Ident) → elements_of text classes class ≡ [] → element_named text classes class name ≡ None
named_past text classes class name none = none_in text name (elements_of text classes class) none

pub elements_past : (text : List ℕ) (classes : List ClassDef) (class : ℕ) → length classes ≤ class → elements_of text classes class ≡ []
elements_past text [] class past = refl
elements_past text (c ∷ classes) zero past = absurd (omega (arith, past))
elements_past text (c ∷ classes) (suc class) past = elements_past text classes class (omega (arith, past))

-- the items of a longer list are those before and the last
get_push : (xs : List Numbered) (y : Numbered) (i : ℕ) (x : Numbered) → slice_get (xs ++ y ∷ []) i ≡ Some x → (slice_get xs i ≡ Some x) ⊎ ((i ≡ length xs) × (y ≡ x))
get_push [] y zero x at = inr (refl, cc at)
get_push [] y (suc i) x at = absurd (cc at)
get_push (z ∷ xs) y zero x at = inl at
get_push (z ∷ xs) y (suc i) x at = by (get_push xs y i x at)
  where
    by : (slice_get xs i ≡ Some x) ⊎ ((i ≡ length xs) × (y ≡ x)) → (slice_get xs i ≡ Some x) ⊎ ((suc i ≡ suc (length xs)) × (y ≡ x))
    by (inl old) = inl old
    by (inr same) = inr (ap suc same.0, same.1)

-- tables of the first classes
pub none_tabled : (text : List ℕ) (classes : List ClassDef) → AreTabled text classes 0 []
none_tabled text classes = record { size = refl; each = λ class table at. absurd (cc at) }

pub more_tabled : (text : List ℕ) (classes : List ClassDef) (n : ℕ) (tables new : List Numbered) (table : Numbered) → AreTabled text classes n tables
    → IsTableOf (element_names text classes n) table → new ≡ tables ++ table ∷ [] → AreTabled text classes (n + 1) new
more_tabled text classes n tables new table are is pushed = record {
  size = ap length pushed ∙ longer tables ∙ ap (λ k. k + 1) are.size;
  each = λ class other at. by class other (get_push tables table class other (subst (λ t. slice_get t class ≡ Some other) pushed at));
}
  where
    longer : (xs : List Numbered) → length (xs ++ table ∷ []) ≡ length xs + 1
    longer [] = refl
    longer (x ∷ xs) = omega (arith, longer xs)

    by : (class : ℕ) (other : Numbered) → (slice_get tables class ≡ Some other) ⊎ ((class ≡ length tables) × (table ≡ other)) → IsTableOf (element_names text classes class) other
    by class other (inl old) = are.each class other old
    by class other (inr same) = subst (IsTableOf (element_names text classes class)) same.1 (subst (λ c. IsTableOf (element_names text classes c) table) (sym (same.0 ∙ are.size)) is)

module _ (text : List ℕ) (classes : List ClassDef) where
  along_more : (x : Ident) (rest : List Ident) (class : ℕ) → 0 < length rest → element_along text classes (x ∷ rest) class
      ≡ option_and_then (λ element. option_and_then (element_along text classes rest) (class_of text classes element)) (element_named text classes class x)
  along_more x [] class some = absurd (omega (arith, some))
  along_more x (y ∷ rest) class some = refl

  module _ (parts : List Span) (i : ℕ) (x : Span) (within : i < length parts) (is : x ≡ get_or parts i x) (class : ℕ) where
    split : drop i parts ≡ x ∷ drop (i + 1) parts
    split =
        let next : suc i ≡ i + 1 = omega arith in
        drop-cons parts i x within ∙ ap (λ y. y ∷ drop (suc i) parts) (sym is) ∙ ap (λ n. x ∷ drop n parts) next

    abbrev left : ℕ → List Ident
    left n = map (spelled text) (drop n parts)

    -- the last part
    pub along_last : (element : Option Element) → element_named text classes class (spelled text x) ≡ element → i + 1 ≡ length parts → element_along text classes (left i) class ≡ element
    along_last element named last =
        ap (λ p. element_along text classes (map (spelled text) p) class) (split ∙ ap (λ rest. x ∷ rest) (ended parts (i + 1) last)) ∙ named
      where
        ended : (xs : List Span) (n : ℕ) → n ≡ length xs → drop n xs ≡ []
        ended xs n all = ap (λ m. drop m xs) all ∙ none xs
          where
            none : (xs : List Span) → drop (length xs) xs ≡ []
            none [] = refl
            none (x ∷ xs) = none xs

    -- a part that nothing has
    pub along_none : element_named text classes class (spelled text x) ≡ None → element_along text classes (left i) class ≡ None
    along_none named = ap (λ p. element_along text classes (map (spelled text) p) class) split ∙ by (left (i + 1)) named
      where
        by : (rest : List Ident) → element_named text classes class (spelled text x) ≡ None → element_along text classes (spelled text x ∷ rest) class ≡ None
        by [] named = named
        by (y ∷ rest) named = ap (option_and_then (λ element. option_and_then (element_along text classes (y ∷ rest)) (class_of text classes element))) named

    -- a part before others
    pub along_next : (element : Element) → element_named text classes class (spelled text x) ≡ Some element → i + 1 < length parts
        → element_along text classes (left i) class ≡ option_and_then (element_along text classes (left (i + 1))) (class_of text classes element)
    along_next element named more =
        ap (λ p. element_along text classes (map (spelled text) p) class) split ∙ along_more (spelled text x) (left (i + 1)) class (longer (drop (i + 1) parts) (some parts (i + 1) more))
        ∙ ap (option_and_then (λ e. option_and_then (element_along text classes (left (i + 1))) (class_of text classes e))) named
      where
        some : (xs : List Span) (n : ℕ) → n < length xs → 0 < length (drop n xs)
        some xs zero within = within
        some [] (suc n) within = absurd (omega (arith, within))
        some (y ∷ xs) (suc n) within = some xs n (omega (arith, within))

        longer : (xs : List Span) → 0 < length xs → 0 < length (map (spelled text) xs)
        longer [] within = absurd (omega (arith, within))
        longer (y ∷ xs) within = omega arith
