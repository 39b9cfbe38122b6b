use Rattle.std.proofs.Common.{rules, refl}
use Rattle.part_code.proofs.Growing.{sides_next}
use Rattle.part_code.proofs.Refusing.{due_err, no_side}
use Rattle.part_code.proofs.sides.sides_for.Goals as goal

pub loop-entry-preserved : goal.loop-entry-preserved
loop-entry-preserved c =
    sides_next c.args.flat.now.equations c.args.entries.now c.loop-entry.entry-index c.loop-entry.sides.items c.push.new.self.items _ c.in_ok-side.side c.loop-entry.invariant c.loop-entry-test.true
    c.in_ok-side.ensures.side (search rules)

pub returns-in_err-side-clause-refused : goal.returns-in_err-side-clause-refused
returns-in_err-side-clause-refused c =
    due_err (no_side c.args.flat.now.equations c.args.flat.now.names c.args.entries.now c.loop-entry.entry-index _ _ c.loop-entry-test.true refl) c.from_residual.result c.in_err-side.field-0.0
    c.from_residual.ensures.1 c.in_err-side.ensures.refused
