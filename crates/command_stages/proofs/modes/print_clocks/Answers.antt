use Rattle.command_words.specs.declared.command.Mode.TheVariants.{Clocks}
use Rattle.command_stages.specs.Segments.{HaltsIn}
use Rattle.command_stages.proofs.Halting.{passed}
use Rattle.command_stages.proofs.Printing.{clocks_halt}
use Rattle.command_stages.proofs.modes.print_clocks.Goals as goal

pub returns-in_err-clocking-clause-ended : goal.returns-in_err-clocking-clause-ended
returns-in_err-clocking-clause-ended c =
    let end = c.in_err-clocking.field-0.0 in
    passed (HaltsIn Clocks c.args.flat.now) c.from_residual.result end c.from_residual.ensures.1 (clocks_halt c.args.flat.now end c.in_err-clocking.ensures.ended)
