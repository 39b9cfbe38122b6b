use Rattle.std.proofs.Common.{subst, length}
use Rattle.clock_tests.specs.Raws.{AreWhole}
use Rattle.clock_tests.proofs.Whole.{is_raw}
use Rattle.clock_tests.proofs.raw.raw_of.Goals as goal

pub returns : goal.returns
returns g c =
    let whole = c.are_whole.ensures c.if-not-are_whole.false in
    let fit = subst (λ equations. AreWhole equations (length c.as_slice-5.result.now)) c.as_slice-4.ensures whole in
    is_raw c.in_ok-names.names c.read.new.equations c.read.new.clauses c.in_ok-names.ensures
    (subst (λ clauses. AreWhole c.read.new.equations (length clauses)) c.as_slice-5.ensures fit) c.in_ok-read.ensures.equations c.in_ok-read.ensures.clauses
