-- The unit that reaches a name, found use by use.
use Rattle.std.proofs.Common.{◌≡◌, ◌≢◌, refl, ap, sym, subst, ◌∙◌, ℕ, zero, suc, ◌+◌, ◌<◌, ◌≤◌, List, [], ◌∷◌, ◌++◌, take, drop, length, length-set, Option, Some, None, slice_get, slice_set, ◌⊎◌, inl, inr, arith}
use Rattle.std.proofs.lemmas.Bool.{cases_eq, cases_lt}
use Rattle.std.proofs.lemmas.Option.{none-some, same_Some, slice_get_past}
use Rattle.std.proofs.lemmas.List.{take-append-le, take_all}
use Rattle.eq_order.specs.declared.uses.Use as answered
use Rattle.flat_model.specs.Setting.{flattened}
use Rattle.part_groups.specs.private.Owners.{Owns, AreOwners}

set_same : {A : Type 0} (xs : List A) (i : ℕ) (a : A) → i < length xs → slice_get (slice_set xs i a) i ≡ Some a
set_same [] i a h = absurd (omega (arith, h))
set_same (x ∷ xs) zero a h = refl
set_same (x ∷ xs) (suc i) a h = set_same xs i a (omega (arith, h))

set_other : {A : Type 0} (xs : List A) (i j : ℕ) (a : A) → j ≢ i → slice_get (slice_set xs i a) j ≡ slice_get xs j
set_other [] i j a h = refl
set_other (x ∷ xs) zero zero a h = absurd (h refl)
set_other (x ∷ xs) zero (suc j) a h = refl
set_other (x ∷ xs) (suc i) zero a h = refl
set_other (x ∷ xs) (suc i) (suc j) a h = set_other xs i j a (λ e. h (ap suc e))

-- a list of the same length in place of all of an old one
pub whole_back : {A : Type 0} (n : ℕ) (old new : List A) → n ≡ length old → length new ≡ length old → take n (new ++ drop (length new) old) ≡ new
whole_back n old new all same = take-append-le n new (drop (length new) old) (omega (arith, all, same)) ∙ take_all n new (omega (arith, all, same))

module _ (names : ℕ) (order : List answered.Use) (units : List (Option ℕ)) where
  -- before any use no name has a unit
  pub owners_first : (owners : List (Option ℕ)) → length owners ≡ names → ((x : ℕ) → flattened (slice_get owners x) ≡ None) → AreOwners names order units 0 owners
  owners_first owners size none = record {
    size = size;
    own = λ x a is. absurd (none-some a (sym (none x) ∙ is));
    last = λ i x a lt within owns later. absurd (omega (arith, lt));
  }

  -- a use of no unit
  pub owners_still : (at : ℕ) (owners : List (Option ℕ)) → flattened (slice_get units at) ≡ None → AreOwners names order units at owners → AreOwners names order units (at + 1) owners
  owners_still at owners none so = record {
    size = so.size;
    own = λ x a is. (let (i, lt, owns) = so.own x a is in (i, omega (arith, lt), owns));
    last = λ i x a lt within owns later. elim (cases_lt i at) [
      | inl before ↦ so.last i x a before within owns (λ j b after below. later j b after (omega (arith, below)))
      | inr past ↦ absurd (none-some a (sym none ∙ ap (λ k. flattened (slice_get units k)) (let same : at ≡ i = omega (arith, lt, past) in same) ∙ owns.unit))
    ];
  }

  -- a use of a unit
  module _ (at unit : ℕ) (entry : answered.Use) (old new : List (Option ℕ)) (found : slice_get order at ≡ Some entry) (own_unit : flattened (slice_get units at) ≡ Some unit)
      (is : new ≡ slice_set old entry.name (Some unit)) (so : AreOwners names order units at old) where
    here : Owns order units at entry.name unit
    here = record { entry = entry; found = found; name = refl; unit = own_unit }

    at_name : entry.name < names → slice_get new entry.name ≡ Some (Some unit)
    at_name within = ap (λ os. slice_get os entry.name) is ∙ set_same old entry.name (Some unit) (let size = so.size in omega (arith, within, size))

    at_other : (x : ℕ) → x ≢ entry.name → slice_get new x ≡ slice_get old x
    at_other x other = ap (λ os. slice_get os x) is ∙ set_other old entry.name x (Some unit) other

    size : length new ≡ names
    size = ap length is ∙ length-set old entry.name (Some unit) ∙ so.size

    own : (x a : ℕ) → flattened (slice_get new x) ≡ Some a → (i : ℕ) × (i < at + 1) × Owns order units i x a
    own x a there = elim (cases_eq x entry.name) [
      | inl same ↦ by_place same (cases_lt x names)
      | inr other ↦ let (i, lt, owns) = so.own x a (ap flattened (sym (at_other x other)) ∙ there) in (i, omega (arith, lt), owns)
    ]
      where
        by_place : x ≡ entry.name → (x < names) ⊎ (names ≤ x) → (i : ℕ) × (i < at + 1) × Owns order units i x a
        by_place same (inl within) =
            let value : Some unit ≡ Some a = sym (ap flattened (at_name (subst (λ y. y < names) same within))) ∙ ap (λ y. flattened (slice_get new y)) (sym same) ∙ there in
            (at, omega arith, subst (λ y. Owns order units at y a) (sym same) (subst (Owns order units at entry.name) (same_Some unit a value) here))
        by_place same (inr past) = absurd (none-some a (sym (ap flattened (slice_get_past new x (let long = size in omega (arith, past, long)))) ∙ there))

    last : (i x a : ℕ) → i < at + 1 → x < names → Owns order units i x a → ((j b : ℕ) → i < j → j < at + 1 → Owns order units j x b → ⊥) → flattened (slice_get new x) ≡ Some a
    last i x a lt within owns later = elim (cases_lt i at) [
      | inl before ↦ elim (cases_eq x entry.name) [
        | inl same ↦ absurd (later at unit before (omega arith) (subst (λ y. Owns order units at y unit) (sym same) here))
        | inr other ↦ ap flattened (at_other x other) ∙ so.last i x a before within owns (λ j b after below. later j b after (omega (arith, below)))
      ]
      | inr past ↦
          let at_it : i ≡ at = omega (arith, lt, past) in
          let own_entry : owns.entry ≡ entry = same_Some owns.entry entry (sym owns.found ∙ ap (slice_get order) at_it ∙ found) in
          let named : entry.name ≡ x = sym (ap (λ e. e.name) own_entry) ∙ owns.name in
          let own_a : Some unit ≡ Some a = sym own_unit ∙ ap (λ k. flattened (slice_get units k)) (sym at_it) ∙ owns.unit in
          ap (λ y. flattened (slice_get new y)) (sym named) ∙ ap flattened (at_name (subst (λ y. y < names) (sym named) within)) ∙ own_a
    ]

    pub owners_more : AreOwners names order units (at + 1) new
    owners_more = record { size = size; own = own; last = last }
