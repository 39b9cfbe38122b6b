use Rattle.std.proofs.Common.{rules, arith, ◌≡◌, refl, ap, sym, ◌∙◌, ◌<◌, ◌≤◌, length, Some, slice_get}
use Rattle.std.proofs.lemmas.Option.{slice_get_read}
use Rattle.partition_step.specs.private.Stepping.{elapsed_at, shown_at}
use Rattle.partition_step.proofs.Laid.{told_next}
use Rattle.partition_step.proofs.Lists.{written_last}
use Rattle.partition_step.proofs.showing.show.Goals as goal

pub loop-j-preserved : goal.loop-j-preserved
loop-j-preserved g c =
    let size = c.loop-j.invariant.size in
    let same = c.requires in
    let within : c.loop-j.j < length c.loop-j.clocks = omega (arith, c.loop-j-test.true, size) in
    let found : slice_get c.args.classes.now c.loop-j.j ≡ Some c.index-classes-j.result = slice_get_read c.args.classes.now (length c.args.classes.now) c.loop-j.j c.index-classes-j.result refl (omega (arith, within, size, same)) c.index-classes-j.is in
    told_next (g.T.Ticking.ticks c.args.ticks.now) c.args.moment c.args.classes.now c.args.clocks.now c.loop-j.clocks c.loop-j.j c.index-classes-j.result c.index-clocks-j.result c.ticking.result c.is_none.result c.elapsed.result
    c.loop-j.invariant within found c.index-clocks-j.is c.ticking.ensures (search rules)
    (c.elapsed.ensures ∙ ap (λ z. elapsed_at c.index-classes-j.result.clock c.index-classes-j.result.ticked c.args.moment z.interval) (sym c.index-clocks-j.is))

pub returns : goal.returns
returns g c =
    let all : length c.args.clocks.now ≤ c.loop-j.j = search rules in
    written_last (shown_at (g.T.Ticking.ticks c.args.ticks.now) c.args.moment c.args.classes.now) c.args.clocks.now c.loop-j.clocks c.loop-j.j c.loop-j.invariant all
