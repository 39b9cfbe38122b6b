use Rattle.std.proofs.Common.{◌∙◌}
use Rattle.class_scopes.proofs.Numbers.{looked_up}
use Rattle.argument_rules.proofs.paths.Seen.number.Goals as goal

pub returns : goal.returns
returns c = rw (← c.self.view_is) (c.copied.ensures ∙ c.get.ensures.value ∙ looked_up c.args.path.now c.self.inside.numbers.entries)
