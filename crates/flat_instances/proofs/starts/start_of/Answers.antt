use Rattle.flat_instances.proofs.ShortStarts.{start_given}
use Rattle.flat_instances.proofs.starts.start_of.Goals as goal

pub returns-in-Some : goal.returns-in-Some
returns-in-Some c = start_given c.args.file.now.text.now c.args.file.now.classes.now c.args.variable.now c.in-Some.given c.in-Some.is
