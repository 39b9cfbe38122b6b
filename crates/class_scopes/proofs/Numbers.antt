-- Tables of names.
use Rattle.std.proofs.Common.{◌≡◌, refl, ap, ap₂, sym, ◌∙◌, subst, ℕ, suc, ◌+◌, Bool, true, false, cond, ◌||◌, List, [], ◌∷◌, ◌++◌, map, length, take, drop, get_or, Some, None, Option, Vec, is_some, bytes_eq, if◌then◌else◌, arith, ◌<◌, ◌≤◌}
use Rattle.std.proofs.lemmas.List.{take_more, drop_all, map-append, take_all, length-map, length-take-le}
use Rattle.std.proofs.Math.Seq.{drop-cons}
use Rattle.std.specs.Global.{Global}
use Rattle.std.specs.List.{position_from}
use Rattle.std.specs.Option.{option_or}
use Rattle.std.proofs.lemmas.Slice.Eq.{bytes_eq-Decides}
use Rattle.std.specs.Map.{lookup}
use Rattle.indexmap.specs.IndexMap.{insert_entry}
use Rattle.mo_parser.specs.declared.tree.Span.{Span}
use Rattle.class_scopes.specs.Spelled.{Ident, spelled}
use Rattle.class_scopes.specs.Places.{Entry, lesser, least, repeats, if_among, is_among}
use Rattle.class_scopes.specs.Tables.{Numbered, either, number_of, Declares, IsTableOf, span_entry}

abbrev pub Keys : Type 0
Keys = List (Vec ℕ Global × ℕ)

abbrev pub row : Vec ℕ Global × ℕ → Ident × ℕ
row entry = (entry.0.items, entry.1)

abbrev pub rows : Keys → Numbered
rows keys = map row keys

cond_either : (b : Bool) (n : ℕ) (others : Option ℕ) → cond b (Some n) others ≡ either b n others
cond_either true n others = refl
cond_either false n others = refl

pub looked_up : (name : Ident) (keys : Keys) → lookup (λ key. bytes_eq name key.items) keys ≡ number_of (rows keys) name
looked_up name [] = refl
looked_up name (key ∷ keys) = cond_either (bytes_eq name key.0.items) key.1 _ ∙ ap (either (bytes_eq name key.0.items) key.1) (looked_up name keys)

-- a new key goes to the end
pub inserted : (keys : Keys) (key : Vec ℕ Global) (n : ℕ) → number_of (rows keys) key.items ≡ None
    → rows (insert_entry (λ a b. bytes_eq a.items b.items) keys key n) ≡ rows keys ++ (key.items, n) ∷ []
inserted [] key n none = refl
inserted (first ∷ keys) key n none = by (bytes_eq key.items first.0.items) refl none (inserted keys key n)
  where
    by : (b : Bool) → bytes_eq key.items first.0.items ≡ b → either b first.1 (number_of (rows keys) key.items) ≡ None
        → (number_of (rows keys) key.items ≡ None → rows (insert_entry (λ a b. bytes_eq a.items b.items) keys key n) ≡ rows keys ++ (key.items, n) ∷ [])
        → rows (if b then (first.0, n) ∷ keys else (first ∷ insert_entry (λ a b. bytes_eq a.items b.items) keys key n)) ≡ row first ∷ (rows keys ++ (key.items, n) ∷ [])
    by true is none more = absurd (cc none)
    by false is none more = ap (λ rest. row first ∷ rest) (more none)

-- the least of places
pub lesser_assoc : (a b c : Option ℕ) → lesser (lesser a b) c ≡ lesser a (lesser b c)
lesser_assoc None b c = refl
lesser_assoc (Some a) None c = refl
lesser_assoc (Some a) (Some b) None = refl
lesser_assoc (Some a) (Some b) (Some c) = ap Some (omega arith)

pub least_more : (b : Bool) (r : Option ℕ) (place : ℕ) (rest : List ℕ)
    → lesser r (least (if_among b place ++ rest)) ≡ lesser (if b then lesser r (Some place) else r) (least rest)
least_more true r place rest = sym (lesser_assoc r (Some place) (least rest))
least_more false r place rest = refl

-- names at their first places
from_more : (test : Ident → Bool) (i : ℕ) (names : List Ident) (y : Ident)
    → position_from test i (names ++ y ∷ []) ≡ option_or (position_from test i names) (cond (test y) (Some (i + length names)) None)
from_more test i [] y = ap (λ n. cond (test y) (Some n) None) (omega arith)
from_more test i (x ∷ names) y =
    by (test x) (from_more test (i + 1) names y ∙ ap (λ n. option_or (position_from test (i + 1) names) (cond (test y) (Some n) None)) (omega arith))
  where
    by : (b : Bool) → position_from test (i + 1) (names ++ y ∷ []) ≡ option_or (position_from test (i + 1) names) (cond (test y) (Some (i + suc (length names))) None)
        → cond b (Some i) (position_from test (i + 1) (names ++ y ∷ []))
        ≡ option_or (cond b (Some i) (position_from test (i + 1) names)) (cond (test y) (Some (i + suc (length names))) None)
    by true again = refl
    by false again = again

from_first : (test : Ident → Bool) (names : List Ident) (y : Ident)
    → position_from test 0 (names ++ y ∷ []) ≡ option_or (position_from test 0 names) (cond (test y) (Some (length names)) None)
from_first test names y = from_more test 0 names y ∙ ap (λ n. option_or (position_from test 0 names) (cond (test y) (Some n) None)) (omega arith)

number_more : (table : Numbered) (name : Ident) (n : ℕ) (other : Ident)
    → number_of (table ++ (name, n) ∷ []) other ≡ option_or (number_of table other) (either (bytes_eq other name) n None)
number_more [] name n other = refl
number_more (first ∷ table) name n other = by (bytes_eq other first.0) (number_more table name n other)
  where
    by : (b : Bool) → number_of (table ++ (name, n) ∷ []) other ≡ option_or (number_of table other) (either (bytes_eq other name) n None)
        → either b first.1 (number_of (table ++ (name, n) ∷ []) other) ≡ option_or (either b first.1 (number_of table other)) (either (bytes_eq other name) n None)
    by true again = refl
    by false again = again

among_some : (name : Ident) (i : ℕ) (names : List Ident) → is_some (position_from (bytes_eq name) i names) ≡ is_among names name
among_some name i [] = refl
among_some name i (x ∷ names) = by (bytes_eq name x) (among_some name (i + 1) names)
  where
    by : (b : Bool) → is_some (position_from (bytes_eq name) (i + 1) names) ≡ is_among names name
        → is_some (cond b (Some i) (position_from (bytes_eq name) (i + 1) names)) ≡ (b || is_among names name)
    by true again = refl
    by false again = again

pub none_of : (x : Option ℕ) → is_some x ≡ false → x ≡ None
none_of None is = refl
none_of (Some n) is = absurd (cc is)

cond_same : (b : Bool) (n : ℕ) → cond b (Some n) None ≡ either b n None
cond_same true n = refl
cond_same false n = refl

or_there : (x y : Option ℕ) → is_some x ≡ true → option_or x y ≡ x
or_there (Some n) y is = refl
or_there None y is = absurd (cc is)

module _ (names : List Ident) (name : Ident) (table after : Numbered) (is : IsTableOf names table) where
  -- a name that was there
  pub old_name : Declares table name (length names) false after → IsTableOf (names ++ name ∷ []) after × (is_among names name ≡ true)
  old_name told = (all, there)
    where
      there : is_among names name ≡ true
      there = sym (among_some name 0 names) ∙ ap is_some (sym (is name)) ∙ told.0

      same : (other : Ident) (b : Bool) → bytes_eq other name ≡ b → option_or (position_from (bytes_eq other) 0 names) (cond b (Some (length names)) None) ≡ position_from (bytes_eq other) 0 names
      same other true eq =
          let this : other ≡ name = (bytes_eq-Decides other name).0 eq in
          or_there _ _ (among_some other 0 names ∙ ap (is_among names) this ∙ there)
      same other false eq = or_none (position_from (bytes_eq other) 0 names)
        where
          or_none : (x : Option ℕ) → option_or x None ≡ x
          or_none None = refl
          or_none (Some n) = refl

      all : IsTableOf (names ++ name ∷ []) after
      all other = ap (λ t. number_of t other) told.1 ∙ is other ∙ sym (from_first (bytes_eq other) names name ∙ same other (bytes_eq other name) refl)

  -- a new one
  pub new_name : Declares table name (length names) true after → IsTableOf (names ++ name ∷ []) after × (is_among names name ≡ false)
  new_name told = (all, there)
    where
      there : is_among names name ≡ false
      there = sym (among_some name 0 names) ∙ ap is_some (sym (is name)) ∙ ap is_some told.0

      all : IsTableOf (names ++ name ∷ []) after
      all other = ap (λ t. number_of t other) told.1 ∙ number_more table name (length names) other
          ∙ ap₂ option_or (is other) (sym (cond_same (bytes_eq other name) (length names))) ∙ sym (from_first (bytes_eq other) names name)

-- the table of the first names, and what is repeated among all
pub record IsTabled (text : List ℕ) (spans : List Span) (i : ℕ) (table : Numbered) (repeated : Option ℕ) : Type 0 where
  pub table_is : IsTableOf (map (spelled text) (take i spans)) table
  pub repeated_is : lesser repeated (least (repeats (map (spelled text) (take i spans)) (map (span_entry text) (drop i spans))))
      ≡ least (repeats [] (map (span_entry text) spans))

module _ (text : List ℕ) (spans : List Span) (i : ℕ) (x : Span) (within : i < length spans) (is : x ≡ get_or spans i x) where
  abbrev names : List Ident
  names = map (spelled text) (take i spans)

  taken : map (spelled text) (take (i + 1) spans) ≡ names ++ spelled text x ∷ []
  taken = ap (map (spelled text)) (take_more spans i x within) ∙ map-append (spelled text) (take i spans) (get_or spans i x ∷ [])
      ∙ ap (λ y. names ++ spelled text y ∷ []) (sym is)

  left : drop i spans ≡ x ∷ drop (i + 1) spans
  left =
      let next : suc i ≡ i + 1 = omega arith in
      drop-cons spans i x within ∙ ap (λ y. y ∷ drop (suc i) spans) (sym is) ∙ ap (λ n. x ∷ drop n spans) next

  count : length names ≡ i
  count = length-map (take i spans) (spelled text) ∙ length-take-le i spans (omega (arith, within))

  abbrev entries : ℕ → List Entry
  entries n = map (span_entry text) (drop n spans)

  one_more : (b : Bool) (r : Option ℕ) → is_among names (spelled text x) ≡ b
      → lesser r (least (repeats names (entries i))) ≡ lesser (if b then lesser r (Some x.at) else r) (least (repeats (map (spelled text) (take (i + 1) spans)) (entries (i + 1))))
  one_more b r among =
      ap (λ rest. lesser r (least (repeats names (map (span_entry text) rest)))) left
      ∙ least_more (is_among names (spelled text x)) r x.at (repeats (names ++ spelled text x ∷ []) (entries (i + 1)))
      ∙ ap₂ (λ c n. lesser (if c then lesser r (Some x.at) else r) (least (repeats n (entries (i + 1))))) among (sym taken)

  module _ (table after : Numbered) (name : Ident) (number : ℕ) (r : Option ℕ) (same : name ≡ spelled text x) (at : number ≡ i) where
    pub tabled_old : IsTabled text spans i table r → Declares table name number false after → IsTabled text spans (i + 1) after (lesser r (Some x.at))
    tabled_old before told =
        let named : Declares table (spelled text x) (length names) false after = subst (λ n. Declares table n number false after) same told in
        let both = old_name names (spelled text x) table after before.table_is named in
        record {
          table_is = subst (λ n. IsTableOf n after) (sym taken) both.0;
          repeated_is = sym (one_more true r both.1) ∙ before.repeated_is;
        }

    pub tabled_new : IsTabled text spans i table r → Declares table name number true after → IsTabled text spans (i + 1) after r
    tabled_new before told =
        let named : Declares table (spelled text x) (length names) true after = subst (λ n. Declares table (spelled text x) n true after) (at ∙ sym count)
        (subst (λ n. Declares table n number true after) same told) in
        let both = new_name names (spelled text x) table after before.table_is named in
        record {
          table_is = subst (λ n. IsTableOf n after) (sym taken) both.0;
          repeated_is = sym (one_more false r both.1) ∙ before.repeated_is;
        }

pub tabled_start : (text : List ℕ) (spans : List Span) → IsTabled text spans 0 [] None
tabled_start text spans = record { table_is = λ name. refl; repeated_is = refl }

pub tabled_all : (text : List ℕ) (spans : List Span) (i : ℕ) (table : Numbered) (r : Option ℕ) → length spans ≤ i → IsTabled text spans i table r
    → IsTableOf (map (spelled text) spans) table × (r ≡ least (repeats [] (map (span_entry text) spans)))
tabled_all text spans i table r past all = (subst (λ s. IsTableOf (map (spelled text) s) table) (take_all i spans past) all.table_is, ends r ∙ ap (λ s. lesser r (least (repeats (map (spelled text) (take i spans)) (map (span_entry text) s)))) (sym (drop_all i spans past)) ∙ all.repeated_is)
  where
    ends : (r : Option ℕ) → r ≡ lesser r None
    ends None = refl
    ends (Some n) = refl
