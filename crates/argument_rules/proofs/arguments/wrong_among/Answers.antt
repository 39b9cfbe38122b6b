use Rattle.class_scopes.proofs.Leasts.{least_both}
use Rattle.argument_rules.specs.Targets.{misplaced_in}
use Rattle.argument_rules.specs.Paths.{given_twice}
use Rattle.argument_rules.proofs.arguments.wrong_among.Goals as goal

pub returns : goal.returns
returns c =
    let text = c.args.scopes.now.named.file.text.now in
    let classes = c.args.scopes.now.named.file.classes.now in
    least_both c.misplaced_in-misplaced.result c.lesser.result c.in_ok-twice.twice (misplaced_in text classes c.args.modified c.args.args.now) (given_twice text c.args.args.now)
    c.misplaced_in-misplaced.ensures c.lesser.ensures c.in_ok-twice.ensures
