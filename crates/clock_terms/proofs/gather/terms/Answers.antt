use Rattle.std.proofs.Common.{rules, ◌≡◌}
use Rattle.clock_terms.specs.Gathered.{terms_of}
use Rattle.clock_terms.proofs.Whole.{terms_said}
use Rattle.clock_terms.proofs.gather.terms.Goals as goal

pub returns-clause-said : goal.returns-clause-said
returns-clause-said c =
    let e : c.all_terms.new.terms ≡ terms_of c.args.flat.now = search rules in
    terms_said c.args.flat.now c.all_terms.new.terms e
