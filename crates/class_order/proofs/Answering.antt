-- No call has two answers.
use Rattle.std.proofs.Common.{◌≡◌, refl, sym, subst, ℕ, zero, suc, ◌<◌, Bool, true, false, List, Some, slice_get, arith}
use Rattle.mo_order.specs.Marks.{is_marked}
use Rattle.mo_parser.specs.declared.tree.ClassDef.{ClassDef}
use Rattle.class_scopes.specs.Reached.{IsReached}
use Rattle.class_order.specs.Laws.{NeverBothLaw, OnePlaceLaw, OneMarkLaw}
use Rattle.class_order.specs.N4 as N4
use Rattle.class_order.specs.Orders.{ArePartsFirst}

module _ (text : List ℕ) (classes : List ClassDef) (chosen : ℕ) (order : List ℕ) (first : ArePartsFirst text classes chosen order) where
  -- what a class has inside stands before it
  stands_before : (class other : ℕ) → N4.IsInside text classes class other → (i : ℕ) → slice_get order i ≡ Some class → (j : ℕ) × (j < i) × (slice_get order j ≡ Some other)
  stands_before class other (N4.IsInside.directly a b has) i at = first.before i class other at has
  stands_before class other (N4.IsInside.through a part b has more) i at =
      let here = first.before i class part at has in
      let there = stands_before part other more here.0 here.2 in
      let one = here.1 in
      let two = there.1 in
      (there.0, omega (arith, one, two), there.2)

  -- so from a place on there is always an earlier one, which cannot be
  falls : (fuel class i : ℕ) → N4.IsInside text classes class class → i < fuel → slice_get order i ≡ Some class → ⊥
  falls zero class i inside less at = omega (arith, less)
  falls (suc fuel) class i inside less at =
      let before = stands_before class class inside i at in
      let low = before.1 in
      falls fuel class before.0 inside (omega (arith, less, low)) before.2

pub never_both : NeverBothLaw
never_both text classes chosen place order first (class, (root, named, from), inside, told) =
    let same : root ≡ chosen = cc named in
    let at = first.every class (subst (λ r. IsReached text classes r class) same from) in
    falls text classes chosen order first (suc at.0) class at.0 inside (omega arith) at.1

pub one_place : OnePlaceLaw
one_place text classes chosen a b one other =
    let low = one.least b other.broken in
    let high = other.least a one.broken in
    omega (arith, low, high)

same_bool : (a b : Bool) → (a ≡ true → b ≡ true) → (b ≡ true → a ≡ true) → a ≡ b
same_bool true b to from = sym (to refl)
same_bool false true to from = from refl
same_bool false false to from = refl

pub one_mark : OneMarkLaw
one_mark text classes chosen own a b one other class from =
    same_bool (is_marked a class) (is_marked b class)
    (λ is. (other class from).1 ((one class from).0 is)) (λ is. (one class from).1 ((other class from).0 is))
