use Rattle.std.proofs.Common.{◌≡◌, drop}
use Rattle.class_rules.specs.N8.{same_members}
use Rattle.class_rules.proofs.connects.same_members.Given as goal

abbrev pub invariant-loop-number : goal.invariant-loop-number
invariant-loop-number l = same_members l.file.text.now l.file.classes.now (drop l.number l.a) (drop l.number l.b) ≡ same_members l.file.text.now l.file.classes.now l.a l.b
