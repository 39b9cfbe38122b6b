use Rattle.std.proofs.Common.{rules, ◌≡◌, ◌↔◌, ◌<◌, ◌+◌, ℕ, true, false, sym, subst, length, take, slice_index_or}
use Rattle.clock_spread.specs.Least.{IsLeastOf}
use Rattle.clock_check.specs.private.Holding.{HasHold, IsHoldingAt}
use Rattle.clock_check.proofs.Marks.{holding_more}
use Rattle.clock_check.proofs.condition.held_condition.Goals as goal

pub loop-j-preserved : goal.loop-j-preserved
loop-j-preserved c =
    let within : c.loop-j.j < length c.args.nodes.now = search rules in
    let items : c.deref.result.now ≡ c.in_ok-marks.marks.items = search rules in
    let are = subst (λ l. (k : ℕ) → (slice_index_or l k false ≡ true) ↔ HasHold c.args.class_of.now c.args.holds.now k) (sym items) c.in_ok-marks.ensures.marks in
    subst (λ o. IsLeastOf (IsHoldingAt c.args.class_of.now c.args.holds.now (take (c.loop-j.j + 1) c.args.nodes.now) c.args.first) o) (sym c.lesser-least.ensures)
    (holding_more c.args.class_of.now c.args.holds.now c.args.nodes.now c.args.first c.loop-j.j _ c.deref.result.now c.loop-j.least c.is_holding.result within are c.is_holding.ensures c.loop-j.invariant)
