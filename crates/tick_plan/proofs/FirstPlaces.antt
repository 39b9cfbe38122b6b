-- The keys and the place before the first moment.
use Rattle.std.proofs.lemmas.Option.{slice_get-get_or}
use Rattle.std.proofs.Common.{Contains, ◌≡◌, refl, sym, subst, ap, ◌∙◌, ℕ, zero, suc, ◌+◌, ◌*◌, ◌<◌, ◌≤◌, List, length, get_or, slice_get, min, Some, None, arith, mul-pos}
use Rattle.rational_time.specs.declared.ratio.Ratio.{Ratio}
use Rattle.flat_model.specs.declared.clock.Clock.{Clock}
use Rattle.tick_tree.specs.Tree.{IsTree, leaf_of}
use Rattle.tick_plan.specs.private.Grid.{AreUnits, CountsTo, HaveFactors, IsScaled}
use Rattle.tick_plan.specs.private.Axis.{IsKey, IsLimit, IsPlaced}
use Rattle.flat_model.specs.Tables.{AreTimes, IsTime}
use Rattle.tick_plan.specs.private.Fraction.{IsWhole}
use Rattle.tick_plan.specs.Making.{AreCountable, IsCommonOf}
use Rattle.tick_plan.specs.private.Course.{IsRisingFromZero, IsPeriodic}
use Rattle.tick_plan.specs.private.Leaves.{IsLeafOf, leaf_at}
use Rattle.tick_plan.specs.NewPlan.{IsFirstCourse}
use Rattle.tick_plan.specs.declared.course.Course.{Course}
use Rattle.tick_plan.specs.declared.leaves.Leaf.{Leaf}
use Rattle.tick_plan.proofs.Growing.{placed, has}
use Rattle.tick_plan.proofs.Times.{rising_from_zero}

at_first : (f e limit : ℕ) → min f limit < limit → min f limit ≡ f + 0 * e
at_first f e limit lt = omega (arith, lt)

not_above : (f e limit k : ℕ) → min f limit ≤ f + k * e
not_above f e limit k = omega arith

pub key_starts : (den limit : ℕ) (period start : Ratio) (first step : ℕ) → AreUnits den limit period start first step → IsKey den limit period start None first step
key_starts den limit period start first step is = record {
  first = is.from;
  every = is.every;
  first_is = is.from_is;
  every_is = is.every_is;
  some = is.some;
  step_is = is.step_is;
  within = omega (arith, is.first_is);
  tick = λ lt. (0, is.first_is ∙ at_first is.from is.every limit (omega (arith, lt, is.first_is)));
  later = tt;
  least = λ k past. let le = not_above is.from is.every limit k in omega (arith, le, is.first_is);
}

-- the units of a clock that was counted
pub units_are : (den limit : ℕ) (period start : Ratio) (first step : ℕ) → 0 < den → 0 < period.num → CountsTo den limit start first → CountsTo den limit period step → AreUnits den limit period start first step
units_are den limit period start first step grain moving f s = record {
  from = f.0;
  every = s.0;
  from_is = f.1;
  every_is = s.1;
  some = above_zero s.0 period.den (den * period.num) s.1 (mul-pos grain moving);
  first_is = f.2;
  step_is = s.2;
}
  where
    above_zero : (a b c : ℕ) → a * b ≡ c → 0 < c → 0 < a
    above_zero zero b c e some = absurd (omega (arith, e, some))
    above_zero (suc a) b c e some = omega arith

-- the place before the first moment, over leaves that are the starts of the clocks
pub placed_first : (clocks : List Clock) (times : List Ratio) (stop : Ratio) (den limit : ℕ) (nodes steps : List ℕ) → IsTree nodes → length nodes ≡ length steps + length steps → 0 < den
    → IsLimit den stop limit → IsRisingFromZero times
    → ((j : ℕ) → j < length steps → (i : ℕ) × (period : Ratio) × (start : Ratio) × IsPeriodic clocks i period start × AreUnits den limit period start (leaf_of nodes j) (get_or steps j 0))
    → ((i : ℕ) (period start : Ratio) → IsPeriodic clocks i period start → (j : ℕ) × (j < length steps) × AreUnits den limit period start (leaf_of nodes j) (get_or steps j 0))
    → IsPlaced (record { clocks = clocks; times = times; stop = stop; row = 0; given = None }) den limit nodes steps
placed_first clocks times stop den limit nodes steps tree long grain limit_is rising leaf clock = record {
  tree = tree;
  long = long;
  grain = grain;
  limit_is = limit_is;
  rows = record { rising = rising; row_is = record { passed = λ j v is lt later. omega (arith, lt); ahead = λ j v is le. tt } };
  leaf = λ j lt. let l = leaf j lt in (l.0, l.1, l.2, l.3, key_starts den limit l.1 l.2 (leaf_of nodes j) (get_or steps j 0) l.4);
  clock = λ i period start is. let c = clock i period start is in (c.0, c.1, key_starts den limit period start (leaf_of nodes c.0) (get_or steps c.0 0) c.2);
}

pub course_is : (clocks : List Clock) (times : List Ratio) (stop : Ratio) (c : Course) → IsFirstCourse clocks times stop c → c ≡ record { clocks = clocks; times = times; stop = stop; row = 0; given = None }
course_is clocks times stop c is = λ i. record { clocks = is.clocks_are i; times = is.times_are i; stop = is.stop_is i; row = is.row_is i; given = is.given_is i }

-- the same over the leaves of the clocks
module _ (c : Course) (den limit : ℕ) (nodes firsts steps keys strides : List ℕ) (leaves : List Leaf) (first : IsFirstCourse c.clocks c.times c.stop c) (times : AreTimes c.times) (grain : 0 < den)
    (limit_is : IsLimit den c.stop limit) (scaled : IsScaled c.clocks den limit firsts steps)
    (each : (leaf : Leaf) → Contains leaves leaf → IsLeafOf c.clocks firsts steps leaf)
    (all : (i : ℕ) (period start : Ratio) → IsPeriodic c.clocks i period start → Contains leaves (leaf_at firsts steps i))
    (keys_long : length keys ≡ length leaves) (strides_long : length strides ≡ length leaves)
    (parts : (j : ℕ) (leaf : Leaf) → slice_get leaves j ≡ Some leaf → (get_or keys j 0 ≡ leaf.first) × (get_or strides j 0 ≡ leaf.step))
    (tree : IsTree nodes) (long : length nodes ≡ length keys + length keys) (leaves_are : (j : ℕ) → j < length keys → leaf_of nodes j ≡ get_or keys j 0) where
  units_at : (j i : ℕ) (period start : Ratio) (leaf : Leaf) → j < length strides → slice_get leaves j ≡ Some leaf → leaf ≡ leaf_at firsts steps i → IsPeriodic c.clocks i period start
      → AreUnits den limit period start (leaf_of nodes j) (get_or strides j 0)
  units_at j i period start leaf lt at is of =
      let own = parts j leaf at in
      let key : leaf_of nodes j ≡ get_or firsts i 0 = leaves_are j (omega (arith, lt, keys_long, strides_long)) ∙ own.0 ∙ ap (λ l. l.first) is in
      let step : get_or strides j 0 ≡ get_or steps i 0 = own.1 ∙ ap (λ l. l.step) is in
      rw (key, step) (scaled.units i period start of)

  pub first_placed : IsPlaced c den limit nodes strides
  first_placed = subst (λ x. IsPlaced x den limit nodes strides) (sym (course_is c.clocks c.times c.stop c first))
      (placed_first c.clocks c.times c.stop den limit nodes strides tree (omega (arith, long, keys_long, strides_long)) grain limit_is (rising_from_zero c.times times)
      (λ j lt.
      let leaf = get_or leaves j (leaf_at firsts steps 0) in
      let at : slice_get leaves j ≡ Some leaf = slice_get-get_or leaves j (leaf_at firsts steps 0) (omega (arith, lt, strides_long)) in
      let of = each leaf (has leaves j leaf at) in
      (of.clock, of.period, of.start, of.is, units_at j of.clock of.period of.start leaf lt at of.leaf_is of.is))
      (λ i period start is.
      let h = all i period start is in
      (h.0, omega (arith, h.1, strides_long), units_at h.0 i period start (leaf_at firsts steps i) (omega (arith, h.1, strides_long)) (placed leaves h.0 (leaf_at firsts steps i) h.1 h.2) refl is)))

-- a course before its first moment, whose clocks can be counted
pub first_whole : (clocks : List Clock) (times : List Ratio) (stop : Ratio) (c : Course) → IsFirstCourse clocks times stop c → AreTimes times → AreCountable clocks → HaveFactors clocks → IsCommonOf clocks → IsTime stop → IsWhole c
first_whole clocks times stop c first are countable factors common range = subst IsWhole (sym (course_is clocks times stop c first)) (record {
  rows = record { rising = rising_from_zero times are; row_is = record { passed = λ j v is lt later. omega (arith, lt); ahead = λ j v is le. tt } };
  countable = countable;
  factors = factors;
  common = common;
  early = range.0;
  within = tt;
})
