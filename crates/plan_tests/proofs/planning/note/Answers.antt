use Rattle.std.proofs.Common.{◌≡◌, subst, sym, length}
use Rattle.tick_plan.specs.Plans.{CanRise}
use Rattle.plan_tests.proofs.Risings.{first_can, second_can, two_left, maybe_risen}
use Rattle.plan_tests.proofs.planning.note.Goals as goal

pub note_one-requires : goal.note_one-requires
note_one-requires g c = first_can _ c.requires.at.0 c.requires.at.1 c.requires.fresh

pub note_one-requires-2 : goal.note_one-requires-2
note_one-requires-2 g c = subst (λ plan. CanRise plan 1) (sym c.note_one.ensures) (second_can (g.P.TickSource.planned c.args.plan.now) c.requires.at.0 c.requires.at.1 c.requires.fresh c.args.first)

pub returns : goal.returns
returns g c = subst (λ plan. length plan.noted ≡ 2) (sym c.note_one-2.ensures)
    (subst (λ plan. length (maybe_risen c.args.second plan 1).noted ≡ 2) (sym c.note_one.ensures) (two_left (g.P.TickSource.planned c.args.plan.now) c.requires.at.0 c.requires.at.1 c.requires.fresh c.args.first c.args.second))
