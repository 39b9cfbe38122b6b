use Rattle.std.proofs.Common.{sym}
use Rattle.eq_order.proofs.Meetings.{pair_grid}
use Rattle.eq_order.proofs.clocks.classes_meet.Goals as goal

pub clocks_meet-requires-clause-grid : goal.clocks_meet-requires-clause-grid
clocks_meet-requires-clause-grid c =
    pair_grid c.args.clocking.now.clocks c.in-Some.a c.in-Some-b.b c.in-Some-get.a.now c.in-Some-get-2.b.now 1099511627776
    (sym c.in-Some-get.ensures.value) (sym c.in-Some-get-2.ensures.value) c.requires.grid
