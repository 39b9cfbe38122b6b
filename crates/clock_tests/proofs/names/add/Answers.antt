use Rattle.std.proofs.Common.{◌≢◌, ◌<◌, length, subst, All}
use Rattle.clock_tests.proofs.Declared.{names_more}
use Rattle.clock_tests.proofs.names.add.Goals as goal

pub returns : goal.returns
returns g c =
    let follows = c.may_follow.ensures c.if-not-may_follow.false in
    rw c.in_ok-push.ensures.ok (names_more c.args.names.now c.args.name c.requires.names c.requires.name
    (subst (λ names. length names < 65536) c.as_slice.ensures follows.0)
    (subst (All (λ other. other.text ≢ c.args.name.text)) c.as_slice.ensures follows.1))
