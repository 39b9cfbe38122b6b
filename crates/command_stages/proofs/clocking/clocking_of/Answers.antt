use Rattle.command_answer.specs.Actions.{clocking_of}
use Rattle.command_stages.specs.Ends.{Halts, IsPrintable, of_classes}
use Rattle.command_stages.proofs.Clocked.{fit_together, known_factors, unclassed, unsolved, unchecked, clocked}
use Rattle.command_stages.proofs.Halting.{passed}
use Rattle.command_stages.proofs.Placed.{solve_placed, check_placed}
use Rattle.command_stages.proofs.Short.{classes_short, places_short}
use Rattle.command_stages.proofs.clocking.clocking_of.Goals as goal

pub returns-in_err-classes-clause-ended : goal.returns-in_err-classes-clause-ended
returns-in_err-classes-clause-ended c =
    let end = c.in_err-classes.field-0.0 in
    passed (Halts (clocking_of c.args.flat.now)) c.from_residual-in_err-classes.result (of_classes end) c.from_residual-in_err-classes.ensures.1
    (unclassed c.args.flat.now c.in_ok-terms.terms c.in_ok-terms.ensures.said end c.in_err-classes.ensures)

pub returns-in_err-classes-clause-short : goal.returns-in_err-classes-clause-short
returns-in_err-classes-clause-short c =
    let end = c.in_err-classes.field-0.0 in
    passed IsPrintable c.from_residual-in_err-classes.result (of_classes end) c.from_residual-in_err-classes.ensures.1
    (classes_short c.args.flat.now c.requires end c.in_err-classes.ensures)

pub solve-requires : goal.solve-requires
solve-requires c = fit_together c.args.flat.now c.in_ok-terms.terms c.in_ok-classes.classes c.requires c.in_ok-terms.ensures.said c.in_ok-classes.ensures

pub no_clocks-requires-clause-within : goal.no_clocks-requires-clause-within
no_clocks-requires-clause-within c = solve_placed c.args.flat.now c.in_ok-classes.classes c.in_ok-classes.ensures.are c.in_ok-terms.terms c.in-Err.end c.in-Err.ensures

pub no_clocks-requires-clause-short : goal.no_clocks-requires-clause-short
no_clocks-requires-clause-short c = places_short c.args.flat.now c.in_ok-classes.classes c.requires c.in_ok-classes.ensures.are

pub returns-in-Err-clause-ended : goal.returns-in-Err-clause-ended
returns-in-Err-clause-ended c =
    unsolved c.args.flat.now c.in_ok-terms.terms c.in_ok-terms.ensures.said c.in_ok-classes.classes c.in-Err.end c.no_clocks.result c.in_ok-classes.ensures c.in-Err.ensures c.no_clocks.ensures.told

pub check-requires-clause-fit : goal.check-requires-clause-fit
check-requires-clause-fit c = fit_together c.args.flat.now c.in_ok-terms.terms c.in_ok-classes.classes c.requires c.in_ok-terms.ensures.said c.in_ok-classes.ensures

pub check-requires-clause-factors : goal.check-requires-clause-factors
check-requires-clause-factors c = known_factors c.args.flat.now c.in_ok-terms.terms c.in_ok-classes.classes c.requires c.in_ok-terms.ensures.said c.in_ok-classes.ensures

pub returns-in-Ok-check-clause-made : goal.returns-in-Ok-check-clause-made
returns-in-Ok-check-clause-made c =
    clocked c.args.flat.now c.in_ok-terms.terms c.in_ok-terms.ensures.said c.in_ok-classes.classes c.in-Ok.grids c.in-Ok-check.clocking c.in_ok-classes.ensures c.in-Ok.ensures c.in-Ok-check.ensures

pub no_clocking-requires-clause-within : goal.no_clocking-requires-clause-within
no_clocking-requires-clause-within c = check_placed c.args.flat.now c.in_ok-classes.classes c.in_ok-classes.ensures.are c.in_ok-terms.terms c.in-Ok.grids c.in-Err-check.end c.in-Err-check.ensures

pub no_clocking-requires-clause-short : goal.no_clocking-requires-clause-short
no_clocking-requires-clause-short c = places_short c.args.flat.now c.in_ok-classes.classes c.requires c.in_ok-classes.ensures.are

pub returns-clause-ended : goal.returns-clause-ended
returns-clause-ended c =
    unchecked c.args.flat.now c.in_ok-terms.terms c.in_ok-terms.ensures.said c.in_ok-classes.classes c.in-Ok.grids c.in-Err-check.end c.no_clocking.result c.in_ok-classes.ensures c.in-Ok.ensures c.in-Err-check.ensures
    c.no_clocking.ensures.told
