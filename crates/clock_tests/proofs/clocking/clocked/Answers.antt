use Rattle.std.proofs.Common.{rules}
use Rattle.clock_terms.specs.Said.{AreTermsOf}
use Rattle.clock_terms.specs.Classing.{AreClassesOf}
use Rattle.clock_tests.proofs.clocking.clocked.Goals as goal

pub solved-requires-clause-fit : goal.solved-requires-clause-fit
solved-requires-clause-fit g c =
    let said : AreTermsOf c.args.flat.now c.expect-terms.result = search rules in
    let are : AreClassesOf c.args.flat.now c.in-Ok.classes = search rules in
    (c.fit_law.ensures c.args.flat.now c.expect-terms.result c.in-Ok.classes c.requires said are).0

pub solved-requires-clause-factors : goal.solved-requires-clause-factors
solved-requires-clause-factors g c =
    let said : AreTermsOf c.args.flat.now c.expect-terms.result = search rules in
    let are : AreClassesOf c.args.flat.now c.in-Ok.classes = search rules in
    (c.fit_law.ensures c.args.flat.now c.expect-terms.result c.in-Ok.classes c.requires said are).1
