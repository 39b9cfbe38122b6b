-- The root of the tree is the first tick after the moment given last.
use Rattle.std.proofs.Common.{◌≡◌, sym, subst, ap, ◌∙◌, ℕ, ◌+◌, ◌*◌, ◌<◌, ◌≤◌, List, length, get_or, Some, None, arith, mul-le-mul_right, le_of_mul-le-mul_right}
use Rattle.rational_time.specs.declared.ratio.Ratio.{Ratio}
use Rattle.rational_time.specs.Fraction.{IsFraction}
use Rattle.tick_plan.specs.declared.axis.Axis.{Axis}
use Rattle.flat_model.specs.NextInstant.{IsAfter, AreUnitsAfter}
use Rattle.tick_tree.specs.Tree.{leaf_of}
use Rattle.tick_tree.proofs.Roots.{root_least, attained}
use Rattle.tick_plan.specs.private.Course.{IsTickOf, TickAhead}
use Rattle.tick_plan.specs.private.Axis.{IsAxis}
use Rattle.tick_plan.proofs.Keys.{tick_in_units, units_are_tick, after_units, units_after}

-- an instant of u units that is within the stop, and back
pub within_units : (t : Ratio) (u den sn sd : ℕ) → 0 < den → t.num * den ≡ u * t.den → u * sd ≤ sn * den → t.num * sd ≤ sn * t.den
within_units t u den sn sd grain at le = le_of_mul-le-mul_right {k = den} (omega (arith, ap (λ z. z * sd) at, mul-le-mul_right t.den le)) grain

pub units_within : (t : Ratio) (u den sn sd : ℕ) → t.num * den ≡ u * t.den → t.num * sd ≤ sn * t.den → u * sd ≤ sn * den
units_within t u den sn sd at le = le_of_mul-le-mul_right {k = t.den} (omega (arith, ap (λ z. z * sd) at, mul-le-mul_right den le)) t.positive

-- the root is not above a tick to come, in units
root_before : (a : Axis) → IsAxis a → (t : Ratio) → (tick : IsTickOf a.course t) → IsAfter a.course.given t
    → (u : ℕ) × (t.num * a.den ≡ u * t.den) × (1 < length a.nodes.items) × (get_or a.nodes.items 1 0 ≤ u)
root_before a is t tick later =
    let at = is.clock tick.clock tick.period tick.start tick.is in
    let key = at.2 in
    let units = tick_in_units a.den a.limit (leaf_of a.nodes.items at.0) (get_or a.steps.items at.0 0) tick.k tick.period tick.start a.course.given key t tick.at in
    let least = key.least tick.k (after_units a.course.given t a.den (key.first + tick.k * key.every) is.grain units later) in
    let root = root_least a.nodes.items is.tree at.0 (omega (arith, at.1, is.long)) in
    (key.first + tick.k * key.every, units, omega (arith, at.1, is.long), omega (arith, root, least))

-- the first tick to come, in units
pub record IsFirstUnits (a : Axis) (u : ℕ) : Type 0 where
  pub ticks : (t : Ratio) → t.num * a.den ≡ u * t.den → IsTickOf a.course t
  pub later : AreUnitsAfter a.course.given u a.den
  pub least : (t : Ratio) → IsTickOf a.course t → IsAfter a.course.given t → u * t.den ≤ t.num * a.den

pub tick_some : (a : Axis) → IsAxis a → 1 < length a.nodes.items → get_or a.nodes.items 1 0 < a.limit → IsFirstUnits a (get_or a.nodes.items 1 0)
tick_some a is some below =
    let at = attained a.nodes.items is.tree some in
    let leaf = is.leaf at.0 (omega (arith, at.1, is.long)) in
    let key = leaf.4 in
    let tick = key.tick (omega (arith, at.2, below)) in record {
      ticks = λ t same. record {
        clock = leaf.0;
        period = leaf.1;
        start = leaf.2;
        is = leaf.3;
        k = tick.0;
        at = units_are_tick a.den a.limit (leaf_of a.nodes.items at.0) (get_or a.steps.items at.0 0) tick.0 leaf.1 leaf.2 a.course.given key t is.grain (same ∙ ap (λ z. z * t.den) (sym at.2 ∙ tick.1));
        within = within_units t (get_or a.nodes.items 1 0) a.den a.course.stop.num a.course.stop.den is.grain same ((is.limit_is (get_or a.nodes.items 1 0)).0 below);
      };
      later = subst (λ z. AreUnitsAfter a.course.given z a.den) at.2 key.later;
      least = λ t due later. let before = root_before a is t due later in omega (arith, before.1, mul-le-mul_right t.den before.3);
    }

-- an instant of that many units is the first tick
pub first_made : (a : Axis) → IsAxis a → (u : ℕ) → IsFirstUnits a u → (t : Ratio) → IsFraction t u a.den → TickAhead a.course (Some t)
first_made a is u first t at = (
  first.ticks t at,
  units_after a.course.given t a.den u at first.later,
  λ v due later. let le = first.least v due later in le_of_mul-le-mul_right {k = a.den} (omega (arith, ap (λ z. z * v.den) at, mul-le-mul_right t.den le)) is.grain,
)

pub tick_none : (a : Axis) → IsAxis a → a.limit ≤ get_or a.nodes.items 1 0 → TickAhead a.course None
tick_none a is past t tick later =
    let before = root_before a is t tick later in
    let below = (is.limit_is before.0).1 (units_within t before.0 a.den a.course.stop.num a.course.stop.den before.1 tick.within) in
    omega (arith, below, past, before.3)

pub tick_empty : (a : Axis) → IsAxis a → length a.nodes.items < 2 → TickAhead a.course None
tick_empty a is few t tick later = let before = root_before a is t tick later in omega (arith, before.2, few)

-- the same over the slice of the nodes
pub tick_some_of : (a : Axis) → IsAxis a → (nodes : List ℕ) → nodes ≡ a.nodes.items → 1 < length nodes → get_or nodes 1 0 < a.limit → (t : Ratio) → IsFraction t (get_or nodes 1 0) a.den → TickAhead a.course (Some t)
tick_some_of a is nodes same some below t at =
    first_made a is (get_or a.nodes.items 1 0) (tick_some a is (subst (λ xs. 1 < length xs) same some) (subst (λ xs. get_or xs 1 0 < a.limit) same below)) t (subst (λ xs. IsFraction t (get_or xs 1 0) a.den) same at)

pub tick_none_of : (a : Axis) → IsAxis a → (nodes : List ℕ) → nodes ≡ a.nodes.items → a.limit ≤ get_or nodes 1 0 → TickAhead a.course None
tick_none_of a is nodes same past = tick_none a is (subst (λ xs. a.limit ≤ get_or xs 1 0) same past)

pub tick_empty_of : (a : Axis) → IsAxis a → (nodes : List ℕ) → nodes ≡ a.nodes.items → length nodes < 2 → TickAhead a.course None
tick_empty_of a is nodes same few = tick_empty a is (subst (λ xs. length xs < 2) same few)
