use Rattle.std.proofs.Common.{rules, ◌≡◌, subst, true}
use Rattle.std.specs.Prelude.{IfSome}
use Rattle.part_code.specs.Coded.{IsCodeOf}
use Rattle.partition_step.proofs.coding.take_any.Goals as goal

pub returns-then-take_coded-clause-takes : goal.returns-then-take_coded-clause-takes
returns-then-take_coded-clause-takes c = λ s uses before after partition S m base start is.
    let whole : c.take_coded.result ≡ true = search rules in
    c.take_coded.ensures.takes whole s uses before after partition S m base start
    (subst (λ code. IfSome code (IsCodeOf c.args.scene.now.flat.now.equations s.model.names c.args.entries.now)) c.in-Some.is is)
