-- The keys go on past the instant that is next.
use Rattle.std.proofs.Common.{◌≡◌, ◌≢◌, refl, sym, subst, ap, ◌∙◌, ℕ, ◌+◌, ◌*◌, ◌<◌, ◌≤◌, ◌⊎◌, ⊎_elim, List, length, get_or, min, Option, Some, arith, Bool, true, false, ◌==◌, if◌then◌else◌, eq-eqb, mul-le-mul_right, le_of_mul-le-mul_right}
use Rattle.std.proofs.lemmas.Bool.{eqb-true, false≢true}
use Rattle.std.proofs.Math.Nat.{eq_of_mul-eq-mul_right}
use Rattle.rational_time.specs.declared.ratio.Ratio.{Ratio}
use Rattle.rational_time.proofs.Order.{cross_le_trans, cross_le_lt_trans}
use Rattle.flat_model.specs.declared.clock.Moment.{Moment}
use Rattle.flat_model.specs.declared.clock.Moment.TheVariants.{At}
use Rattle.tick_plan.specs.declared.axis.Axis.{Axis}
use Rattle.flat_model.specs.NextInstant.{IsAfter, IsNext}
use Rattle.tick_tree.specs.Tree.{IsTree, leaf_of}
use Rattle.tick_plan.specs.declared.course.Course.{Course}
use Rattle.tick_plan.specs.private.Course.{IsRow}
use Rattle.tick_plan.specs.private.Axis.{IsKey, IsPlaced, IsAxis, passed_key}
use Rattle.tick_plan.proofs.Keys.{units_after, key_stays, key_moves}
use Rattle.flat_model.proofs.Ratios.{ratio_of}
use Rattle.tick_tree.proofs.Roots.{root_least}
use Rattle.tick_plan.proofs.Firsts.{tick_some}
use Rattle.tick_plan.proofs.Nexts.{tick_due}

abbrev NextOf : Course → Ratio → Type 0
NextOf c t = IsNext c.clocks c.times c.stop c.given t

not_equal : (a b : ℕ) → (a ≡ b → ⊥) → (a == b) ≡ false
not_equal a b other = by_test (a == b) refl
  where
    by_test : (c : Bool) → (a == b) ≡ c → (a == b) ≡ false
    by_test true e = absurd (other (eqb-true a b e))
    by_test false e = e

either : (i j : ℕ) → (i < j) ⊎ (j ≤ i)
either i j = grind arith

-- a key that is not before an instant goes past it
pub key_passes : (den limit key step : ℕ) (period start : Ratio) (given : Option Moment) (t : Ratio) → IsKey den limit period start given key step → IsAfter given t → 0 < den → t.num * den ≤ key * t.den
    → (key * t.den ≡ t.num * den → key < limit) → IsKey den limit period start (Some (At t)) (passed_key den limit t key step) step
key_passes den limit key step period start given t is later grain le below = by_test (key * t.den == t.num * den) refl
  where
    by_test : (b : Bool) → (key * t.den == t.num * den) ≡ b → IsKey den limit period start (Some (At t)) (passed_key den limit t key step) step
    by_test true e = let same = eqb-true (key * t.den) (t.num * den) e in rw e (key_moves den limit key step period start given t is (below same) (sym same) grain)
    by_test false e = rw e (key_stays den limit key step period start given t is later (let other : key * t.den ≢ t.num * den = λ same. false≢true (sym e ∙ eq-eqb _ _ same) in omega (arith, le, other)))

-- an instant of u units within the stop is below the limit
pub below_limit : (a : Axis) → IsAxis a → (t : Ratio) → NextOf a.course t → (u : ℕ) → u * t.den ≡ t.num * a.den → u < a.limit
below_limit a is t next u at = (is.limit_is u).1 (le_of_mul-le-mul_right {k = t.den} (omega (arith, ap (λ z. z * a.course.stop.den) at, mul-le-mul_right a.den next.due.within)) t.positive)

-- the root is not before an instant that is next
pub root_not_before : (a : Axis) → IsAxis a → (t : Ratio) → NextOf a.course t → 1 < length a.nodes.items → t.num * a.den ≤ get_or a.nodes.items 1 0 * t.den
root_not_before a is t next some = ⊎_elim
    (λ alive.
    let ticks = tick_some a is some alive in
    let at = ratio_of (get_or a.nodes.items 1 0) a.den is.grain in
    let first = next.first at.0 (tick_due a.course at.0 (ticks.ticks at.0 at.1)) (units_after a.course.given at.0 a.den (get_or a.nodes.items 1 0) at.1 ticks.later) in
    cross_le_trans t.num t.den at.0.num at.0.den (get_or a.nodes.items 1 0) a.den at.0.positive first (omega (arith, at.1)))
    (λ past.
    let over : a.course.stop.num * a.den < get_or a.nodes.items 1 0 * a.course.stop.den =
    ⊎_elim (λ lt. lt) (λ le. let lt = (is.limit_is (get_or a.nodes.items 1 0)).1 le in absurd (omega (arith, lt, past))) (either (a.course.stop.num * a.den) (get_or a.nodes.items 1 0 * a.course.stop.den)) in
    let less : t.num * a.den < get_or a.nodes.items 1 0 * t.den = cross_le_lt_trans t.num t.den a.course.stop.num a.course.stop.den (get_or a.nodes.items 1 0) a.den t.positive next.due.within over in
    omega (arith, less))
    (either (get_or a.nodes.items 1 0) a.limit)

-- no leaf is before an instant that is next
leaf_not_before : (a : Axis) → IsAxis a → (t : Ratio) → NextOf a.course t → (j : ℕ) → j < length a.steps.items → t.num * a.den ≤ leaf_of a.nodes.items j * t.den
leaf_not_before a is t next j lt =
    let root = root_not_before a is t next (omega (arith, is.long, lt)) in
    let least = root_least a.nodes.items is.tree j (omega (arith, is.long, lt)) in
    omega (arith, root, mul-le-mul_right t.den least)

pub keys_pass : (a : Axis) → IsAxis a → (t : Ratio) → NextOf a.course t → (j : ℕ) → j < length a.steps.items → (period start : Ratio)
    → IsKey a.den a.limit period start a.course.given (leaf_of a.nodes.items j) (get_or a.steps.items j 0)
    → IsKey a.den a.limit period start (Some (At t)) (passed_key a.den a.limit t (leaf_of a.nodes.items j) (get_or a.steps.items j 0)) (get_or a.steps.items j 0)
keys_pass a is t next j lt period start key = key_passes a.den a.limit (leaf_of a.nodes.items j) (get_or a.steps.items j 0) period start a.course.given t key next.later is.grain
    (leaf_not_before a is t next j lt) (below_limit a is t next (leaf_of a.nodes.items j))

-- the place behind an instant that was next
pub placed_behind : (a : Axis) → IsAxis a → (t : Ratio) → NextOf a.course t → (row : ℕ) → IsRow a.course.times (Some (At t)) row → (nodes : List ℕ) → IsTree nodes → length nodes ≡ length a.nodes.items
    → ((j : ℕ) → j < length a.steps.items → leaf_of nodes j ≡ passed_key a.den a.limit t (leaf_of a.nodes.items j) (get_or a.steps.items j 0))
    → IsPlaced (record { clocks = a.course.clocks; times = a.course.times; stop = a.course.stop; row = row; given = Some (At t) }) a.den a.limit nodes a.steps.items
placed_behind a is t next row row_is nodes tree long leaves = record {
  tree = tree;
  long = long ∙ is.long;
  grain = is.grain;
  limit_is = is.limit_is;
  rows = record { rising = is.rows.rising; row_is = row_is };
  leaf = λ j lt. let old = is.leaf j lt in (old.0, old.1, old.2, old.3, moved j lt old.1 old.2 old.4);
  clock = λ i period start of. let old = is.clock i period start of in (old.0, old.1, moved old.0 old.1 period start old.2);
}
  where
    moved : (j : ℕ) → j < length a.steps.items → (period start : Ratio) → IsKey a.den a.limit period start a.course.given (leaf_of a.nodes.items j) (get_or a.steps.items j 0)
        → IsKey a.den a.limit period start (Some (At t)) (leaf_of nodes j) (get_or a.steps.items j 0)
    moved j lt period start key = subst (λ k. IsKey a.den a.limit period start (Some (At t)) k (get_or a.steps.items j 0)) (sym (leaves j lt)) (keys_pass a is t next j lt period start key)

-- every step moves on, where a number of units is below the limit
pub steps_rise : (a : Axis) → IsAxis a → (j : ℕ) → j < length a.steps.items → 0 < get_or a.steps.items j 0
steps_rise a is j lt =
    let key = is.leaf j lt in
    let some : 0 < a.limit = (is.limit_is 0).1 (omega arith) in
    omega (arith, key.4.step_is, key.4.some, some)

-- a leaf is at the instant of the root just where it is the root
pub moved_passed : (den limit root old step : ℕ) (t : Ratio) → root * t.den ≡ t.num * den → (if old == root then min (old + step) limit else old) ≡ passed_key den limit t old step
moved_passed den limit root old step t at = by_test (old == root) refl
  where
    by_test : (b : Bool) → (old == root) ≡ b → (if old == root then min (old + step) limit else old) ≡ passed_key den limit t old step
    by_test true e =
        let same = eqb-true old root e in
        let test = eq-eqb (old * t.den) (t.num * den) (ap (λ k. k * t.den) same ∙ at) in rw (e, test) refl
    by_test false e =
        let test = not_equal (old * t.den) (t.num * den) (λ same. false≢true (sym e ∙ eq-eqb old root (eq_of_mul-eq-mul_right t.den t.positive old root (same ∙ sym at)))) in rw (e, test) refl

-- a leaf that no leaf is before stays where the root is not at the instant
pub kept_passed : (den limit root old step : ℕ) (t : Ratio) → t.num * den ≤ root * t.den → (root * t.den ≡ t.num * den → ⊥) → root ≤ old → old ≡ passed_key den limit t old step
kept_passed den limit root old step t le other least =
    let more = mul-le-mul_right t.den least in
    let test = not_equal (old * t.den) (t.num * den) (λ same. other (omega (arith, le, more, same))) in rw test refl

-- the same over the slices of the nodes and of the steps
pub passed_of : (a : Axis) (t : Ratio) (new nodes steps : List ℕ) → nodes ≡ a.nodes.items → steps ≡ a.steps.items
    → ((j : ℕ) → j < length steps → leaf_of new j ≡ passed_key a.den a.limit t (leaf_of nodes j) (get_or steps j 0))
    → (j : ℕ) → j < length a.steps.items → leaf_of new j ≡ passed_key a.den a.limit t (leaf_of a.nodes.items j) (get_or a.steps.items j 0)
passed_of a t new nodes steps n s leaves = subst (λ xs. (j : ℕ) → j < length xs → leaf_of new j ≡ passed_key a.den a.limit t (leaf_of a.nodes.items j) (get_or xs j 0)) s
    (subst (λ ys. (j : ℕ) → j < length steps → leaf_of new j ≡ passed_key a.den a.limit t (leaf_of ys j) (get_or steps j 0)) n leaves)
