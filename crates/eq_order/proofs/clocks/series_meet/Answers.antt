use Rattle.eq_order.proofs.Meetings.{is_whole, whole_grid, series}
use Rattle.eq_order.proofs.clocks.series_meet.Goals as goal

pub share_instant-requires-clause-grain : goal.share_instant-requires-clause-grain
share_instant-requires-clause-grain c =
    whole_grid c.make.result c.make-2.result c.make-3.result c.make-4.result c.args.step c.args.first c.args.other_step c.args.other_first
    (is_whole _ _ c.make.ensures) (is_whole _ _ c.make-2.ensures) (is_whole _ _ c.make-3.ensures) (is_whole _ _ c.make-4.ensures)

pub returns : goal.returns
returns c =
    series c.make.result c.make-2.result c.make-3.result c.make-4.result c.args.step c.args.first c.args.other_step c.args.other_first c.share_instant.result
    (is_whole _ _ c.make.ensures) (is_whole _ _ c.make-2.ensures) (is_whole _ _ c.make-3.ensures) (is_whole _ _ c.make-4.ensures) c.share_instant.ensures
