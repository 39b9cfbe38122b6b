use Rattle.std.proofs.Common.{◌^◌, refl, inl, inr}
use Rattle.rational_time.proofs.Fractions.{IsLowest-ratio, below_limits}
use Rattle.rational_time.proofs.time_text.fine.Goals as goal
use Rattle.rational_time.proofs.time_text.fine.Goals.{else-time-via-then-time+else-time-2, else-time-via-else-time}

pub returns-then-time-2-clause-none : goal.returns-then-time-2-clause-none
returns-then-time-2-clause-none c =
    let form = IsLowest-ratio c.in_ok-time.time c.args.num c.args.den c.in_ok-time.ensures.value in
    (λ e. absurd cc, λ over. absurd (below_limits (2 ^ 60) (2 ^ 32) _ _ _ _ c.requires form c.if-time.true c.if-time-2.true over))

pub returns-else-time-clause-none : goal.returns-else-time-clause-none
returns-else-time-clause-none c =
    let form = IsLowest-ratio c.in_ok-time.time c.args.num c.args.den c.in_ok-time.ensures.value in
    (λ _. (_, _, form, elim c.else-time.branch [ else-time-via-then-time+else-time-2 w ↦ inr w.if-time-2.false | else-time-via-else-time w ↦ inl w.if-time.false ]), λ _. refl)
