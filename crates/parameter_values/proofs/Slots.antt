-- Values that are found by numbers are those of the names.
use Rattle.std.proofs.Common.{◌≡◌, refl, ap, sym, ◌∙◌, ℕ, zero, suc, ◌+◌, ◌-◌, ◌<◌, ◌≤◌, ◌⊎◌, inl, inr, Bool, true, false, cond, List, [], ◌∷◌, map, filter, find, length, Option, Some, None, option_and_then, slice_get, slice_set, bytes_eq, ◌&&◌, arith}
use Rattle.std.specs.List.{position_from}
use Rattle.sync_values.specs.declared.value.Value.{Value}
use Rattle.mo_order.specs.Values.{Slots, IsFound, AreAll, nothing}
use Rattle.mo_order.proofs.Places.{get_within, set_back}
use Rattle.mo_parser.specs.declared.tree.ClassDef.{ClassDef}
use Rattle.class_scopes.specs.Spelled.{Ident}
use Rattle.class_scopes.specs.Tables.{Numbered, number_of}
use Rattle.flat_instances.specs.Instances.{Variable}
use Rattle.parameter_values.specs.Values.{Values, is_parameter, value_from, parameter_named, derived, AreValues}
use Rattle.parameter_values.specs.Slots.{value_at, itself, seen, parameters, names_of, rules_of, IsTableOfParameters}
use Rattle.parameter_values.proofs.Derivations.{Below, IsSound, IsClosed, rises}
use Rattle.parameter_values.proofs.MoreValues.{value_grows, table_of_values}

from_least : {A : Type 0} (test : A → Bool) (i k : ℕ) (xs : List A) → position_from test i xs ≡ Some k → i ≤ k
from_least test i k [] is = absurd (cc is)
from_least test i k (x ∷ xs) is = by (test x) is (from_least test (i + 1) k xs)
  where
    by : (b : Bool) → cond b (Some i) (position_from test (i + 1) xs) ≡ Some k → (position_from test (i + 1) xs ≡ Some k → i + 1 ≤ k) → i ≤ k
    by true is again = let this : i ≡ k = cc is in omega (arith, this)
    by false is again = let more = again is in omega (arith, more)

-- the element at the first place that passes is the first that does
module _ {A B : Type 0} (f : A → B) (test : B → Bool) where
  abbrev at_from : ℕ → List A → ℕ → Option A
  at_from i ys k = slice_get ys (k - i)

  by_position : (i : ℕ) (ys : List A) → option_and_then (at_from i ys) (position_from test i (map f ys)) ≡ find (λ y. test (f y)) ys
  by_position i [] = refl
  by_position i (y ∷ ys) = by (test (f y)) (position_from test (i + 1) (map f ys)) refl (by_position (i + 1) ys)
    where
      by : (b : Bool) (p : Option ℕ) → position_from test (i + 1) (map f ys) ≡ p → option_and_then (at_from (i + 1) ys) p ≡ find (λ z. test (f z)) ys
          → option_and_then (at_from i (y ∷ ys)) (cond b (Some i) p) ≡ cond b (Some y) (find (λ z. test (f z)) ys)
      by true p is again = let e : i - i ≡ 0 = omega arith in ap (slice_get (y ∷ ys)) e
      by false None is again = again
      by false (Some k) is again =
          let low = from_least test (i + 1) k (map f ys) is in
          let e : k - i ≡ suc (k - (i + 1)) = omega (arith, low) in
          ap (slice_get (y ∷ ys)) e ∙ again

find_filtered : {A : Type 0} (p t : A → Bool) (xs : List A) → find t (filter p xs) ≡ find (λ x. p x && t x) xs
find_filtered p t [] = refl
find_filtered p t (x ∷ xs) = by (p x) (t x) refl (find_filtered p t xs)
  where
    by : (a b : Bool) → t x ≡ b → find t (filter p xs) ≡ find (λ y. p y && t y) xs → find t (cond a (x ∷ filter p xs) (filter p xs)) ≡ cond (a && b) (Some x) (find (λ y. p y && t y) xs)
    by true true is again = ap (λ b. cond b (Some x) (find t (filter p xs))) is
    by true false is again = ap (λ b. cond b (Some x) (find t (filter p xs))) is ∙ again
    by false b is again = again

module _ (text : List ℕ) (classes : List ClassDef) (all : List Variable) (table : Numbered) (is_table : IsTableOfParameters all table) where
  -- the parameter of a name is that of its number
  pub numbered : (name : Ident) → option_and_then (slice_get (parameters all)) (number_of table name) ≡ parameter_named text classes all name
  numbered name =
      ap (option_and_then (slice_get (parameters all))) (is_table name)
      ∙ from_zero (position_from (bytes_eq name) 0 (names_of (parameters all)))
      ∙ by_position (λ v. v.name) (bytes_eq name) 0 (parameters all)
      ∙ find_filtered is_parameter (λ v. bytes_eq name v.name) all
    where
      from_zero : (p : Option ℕ) → option_and_then (slice_get (parameters all)) p ≡ option_and_then (at_from (λ v. v.name) (bytes_eq name) 0 (parameters all)) p
      from_zero None = refl
      from_zero (Some k) = let e : k ≡ k - 0 = omega arith in ap (slice_get (parameters all)) e

  abbrev rules : Slots → ℕ → Option Value
  rules = rules_of text classes (parameters all) table

  abbrev IsSoundAt : Slots → Type 0
  IsSoundAt slots = IsSound text classes all (value_grows text classes) (seen table slots)

  none_at : (count x : ℕ) → value_at (nothing count) x ≡ None
  none_at zero x = refl
  none_at (suc count) zero = refl
  none_at (suc count) (suc x) = none_at count x

  sound_nothing : (count : ℕ) → IsSoundAt (nothing count)
  sound_nothing count = (zero, λ name v is. absurd (by (number_of table name) v is))
    where
      by : (k : Option ℕ) (v : Value) → option_and_then (value_at (nothing count)) k ≡ Some v → ⊥
      by None v is = cc is
      by (Some k) v is = let e = none_at count k in cc (e, is)

  with_rule : (a b : Values) → Below a b → (p : Option Variable) (v : Value) → option_and_then (value_from text classes a) p ≡ Some v → option_and_then (value_from text classes b) p ≡ Some v
  with_rule a b below None v is = absurd (cc is)
  with_rule a b below (Some p) v is = value_grows text classes a b below p v is

  -- a name whose number is x has the parameter x
  by_rule : (slots : Slots) (n x : ℕ) (v : Value) (name : Ident) → Below (seen table slots) (derived text classes all n) → rules slots x ≡ Some v
      → number_of table name ≡ Some x → derived text classes all (suc n) name ≡ Some v
  by_rule slots n x v name below gives at =
      let parameter : slice_get (parameters all) x ≡ parameter_named text classes all name = sym (ap (option_and_then (slice_get (parameters all))) at) ∙ numbered name in
      ap (option_and_then (value_from text classes (derived text classes all n))) (sym parameter)
      ∙ with_rule (seen table slots) (derived text classes all n) below (slice_get (parameters all) x) v gives

  slot_value : (slots : Slots) (k : ℕ) (w : Value) → value_at slots k ≡ Some w → slice_get slots k ≡ Some (Some w)
  slot_value slots k w is = by (slice_get slots k) is
    where
      by : (s : Option (Option Value)) → option_and_then itself s ≡ Some w → s ≡ Some (Some w)
      by None at = absurd (cc at)
      by (Some s) at = ap Some at

  -- what a name has in larger values, it had, or it is the one that was found
  sound_found : (slots : Slots) (x : ℕ) (v : Value) → IsSoundAt slots → rules slots x ≡ Some v → IsSoundAt (slice_set slots x (Some v))
  sound_found slots x v sound gives = (suc sound.0, λ name w is. by name w (number_of table name) refl is)
    where
      by : (name : Ident) (w : Value) (k : Option ℕ) → number_of table name ≡ k → option_and_then (value_at (slice_set slots x (Some v))) k ≡ Some w → derived text classes all (suc sound.0) name ≡ Some w
      by name w None at is = absurd (cc is)
      by name w (Some k) at is = which (set_back slots x (Some v) k (Some w) (slot_value (slice_set slots x (Some v)) k w is))
        where
          which : ((x ≡ k) × (Some v ≡ Some w)) ⊎ (slice_get slots k ≡ Some (Some w)) → derived text classes all (suc sound.0) name ≡ Some w
          which (inl this) = by_rule slots sound.0 x v name sound.1 gives (at ∙ ap Some (sym this.0)) ∙ this.1
          which (inr old) =
              let before : seen table slots name ≡ Some w = ap (option_and_then (value_at slots)) at ∙ ap (option_and_then itself) old in
              rises text classes all (value_grows text classes) sound.0 name w (sound.1 name w before)

  sound : (count : ℕ) (slots : Slots) → IsFound rules count slots → IsSoundAt slots
  sound count slots IsFound.start = sound_nothing count
  sound count slots (IsFound.more before x v found gives none) = sound_found before x v (sound count before found) gives

  closed : (slots : Slots) → AreAll rules (length (parameters all)) slots → IsClosed text classes all (value_grows text classes) (seen table slots)
  closed slots are name w is = by (number_of table name) refl (ap (option_and_then (value_from text classes (seen table slots))) (numbered name) ∙ is)
    where
      by : (k : Option ℕ) → number_of table name ≡ k
          → option_and_then (value_from text classes (seen table slots)) (option_and_then (slice_get (parameters all)) (number_of table name)) ≡ Some w → seen table slots name ≡ Some w
      by None at gives = absurd (let e = ap (λ n. option_and_then (value_from text classes (seen table slots)) (option_and_then (slice_get (parameters all)) n)) at in cc (e, gives))
      by (Some k) at gives =
          let given : rules slots k ≡ Some w = sym (ap (λ n. option_and_then (value_from text classes (seen table slots)) (option_and_then (slice_get (parameters all)) n)) at) ∙ gives in
          let there = are.closed k w (inside k given) given in
          ap (option_and_then (value_at slots)) at ∙ ap (option_and_then itself) there
        where
          inside : (j : ℕ) → rules slots j ≡ Some w → j < length (parameters all)
          inside j given = which (slice_get (parameters all) j) refl given
            where
              which : (p : Option Variable) → slice_get (parameters all) j ≡ p → option_and_then (value_from text classes (seen table slots)) p ≡ Some w → j < length (parameters all)
              which None here e = absurd (cc e)
              which (Some p) here e = get_within (parameters all) j p here

  -- the values that are found by numbers, and to which nothing can be added, are the values of the parameters
  pub found_values : (slots : Slots) → AreAll rules (length (parameters all)) slots → AreValues text classes all (seen table slots)
  found_values slots are = table_of_values text classes all (seen table slots) (sound (length (parameters all)) slots are.found) (closed slots are)
