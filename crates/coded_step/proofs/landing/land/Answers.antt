use Rattle.std.proofs.Common.{rules, arith, ap, ◌∙◌, get_or, length, ◌≤◌}
use Rattle.coded_step.specs.private.Landing.{with_value, value_of}
use Rattle.coded_step.proofs.Lists.{written_next, written_last}
use Rattle.coded_step.proofs.landing.land.Goals as goal

pub loop-i-preserved : goal.loop-i-preserved
loop-i-preserved c =
    let size = c.loop-i.invariant.size in
    written_next (λ i cell. with_value (value_of c.args.clocks.now c.args.entries.now c.args.landings.now c.args.words.now i) cell) c.args.cells.now c.loop-i.cells c.loop-i.i c.landed.result _ c.loop-i.invariant (omega (arith, c.loop-i-test.true, size))
    (c.landed.ensures ∙ ap (λ v. with_value v (get_or c.loop-i.cells c.loop-i.i _)) c.value_of.ensures)

pub returns : goal.returns
returns c =
    let all : length c.args.cells.now ≤ c.loop-i.i = search rules in
    let is = written_last (λ i cell. with_value (value_of c.args.clocks.now c.args.entries.now c.args.landings.now c.args.words.now i) cell) c.args.cells.now c.loop-i.cells c.loop-i.i c.loop-i.invariant all in
    record { size = is.0; each = is.1 }
