-- Tables of names.
use Rattle.std.proofs.Common.{◌≡◌, refl, ap, sym, ◌∙◌, subst, ℕ, ◌+◌, ◌<◌, ◌≤◌, ◌||◌, Bool, true, false, cond, List, [], ◌∷◌, ◌++◌, map, take, length, get_or, Some, is_some, not, bytes_eq, arith}
use Rattle.std.proofs.lemmas.List.{take_more, take_all, length-take-le, map-append, length-map}
use Rattle.std.specs.List.{position_from}
use Rattle.class_scopes.specs.Places.{is_among}
use Rattle.class_scopes.specs.Spelled.{Ident}
use Rattle.class_scopes.specs.Tables.{Numbered, number_of, Declares, IsTableOf}
use Rattle.class_scopes.proofs.Numbers.{old_name, new_name}

-- the names of the first elements of a list, and one more
module _ {A : Type 0} (name : A → Ident) (xs : List A) (i : ℕ) (x : A) (within : i < length xs) (is : x ≡ get_or xs i x) (table after : Numbered)
    (before : IsTableOf (map name (take i xs)) table) where
  taken : map name (take (i + 1) xs) ≡ map name (take i xs) ++ name x ∷ []
  taken = ap (map name) (take_more xs i x within) ∙ map-append name (take i xs) (get_or xs i x ∷ []) ∙ ap (λ y. map name (take i xs) ++ name y ∷ []) (sym is)

  count : length (map name (take i xs)) ≡ i
  count = length-map (take i xs) name ∙ length-take-le i xs (omega (arith, within))

  by : (b : Bool) → Declares table (name x) (length (map name (take i xs))) b after → IsTableOf (map name (take i xs) ++ name x ∷ []) after
  by true told = (new_name (map name (take i xs)) (name x) table after before told).0
  by false told = (old_name (map name (take i xs)) (name x) table after before told).0

  pub table_next : (key : Ident) (added : Bool) → key ≡ name x → Declares table key i added after → IsTableOf (map name (take (i + 1) xs)) after
  table_next key added same told =
      let here : Declares table (name x) i added after = subst (λ n. Declares table n i added after) same told in
      subst (λ n. IsTableOf n after) (sym taken) (by added (subst (λ k. Declares table (name x) k added after) (sym count) here))

  tells : (b : Bool) → Declares table (name x) (length (map name (take i xs))) b after → is_among (map name (take i xs)) (name x) ≡ not b
  tells true told = (new_name (map name (take i xs)) (name x) table after before told).1
  tells false told = (old_name (map name (take i xs)) (name x) table after before told).1

  -- whether it was among them
  pub table_told : (key : Ident) (added : Bool) → key ≡ name x → Declares table key i added after → is_among (map name (take i xs)) (name x) ≡ not added
  table_told key added same told =
      let here : Declares table (name x) i added after = subst (λ n. Declares table n i added after) same told in
      tells added (subst (λ k. Declares table (name x) k added after) (sym count) here)

among_some : (name : Ident) (i : ℕ) (names : List Ident) → is_some (position_from (bytes_eq name) i names) ≡ is_among names name
among_some name i [] = refl
among_some name i (x ∷ names) = by (bytes_eq name x) (among_some name (i + 1) names)
  where
    by : (b : Bool) → is_some (position_from (bytes_eq name) (i + 1) names) ≡ is_among names name
        → is_some (cond b (Some i) (position_from (bytes_eq name) (i + 1) names)) ≡ (b || is_among names name)
    by true again = refl
    by false again = again

-- a name of a table is one of its names
pub is_tabled : (names : List Ident) (table : Numbered) (name : Ident) → IsTableOf names table → is_some (number_of table name) ≡ is_among names name
is_tabled names table name tabled = ap is_some (tabled name) ∙ among_some name 0 names

-- a list of names itself
abbrev pub itself : Ident → Ident
itself name = name

all_themselves : (names : List Ident) → map itself names ≡ names
all_themselves [] = refl
all_themselves (x ∷ names) = ap (λ z. x ∷ z) (all_themselves names)

pub table_all : (names : List Ident) (i : ℕ) (table : Numbered) → length names ≤ i → IsTableOf (map itself (take i names)) table → IsTableOf names table
table_all names i table past is = subst (λ n. IsTableOf n table) (all_themselves (take i names) ∙ take_all i names past) is
