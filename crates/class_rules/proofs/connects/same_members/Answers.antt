use Rattle.std.proofs.Common.{◌≡◌, sym, length, arith}
use Rattle.std.proofs.lemmas.Bool.Decides.{nat_tests}
use Rattle.class_rules.proofs.Shapes.{unlike_lengths}
use Rattle.class_rules.proofs.connects.same_members.Goals as goal

pub returns-then-a-b : goal.returns-then-a-b
returns-then-a-b c =
    let differ : length c.args.a.now ≡ length c.args.b.now → ⊥ = λ same. grind (arith, nat_tests, c.if-a-b.true, same) in
    sym (unlike_lengths c.args.file.now.text.now c.args.file.now.classes.now c.args.a.now c.args.b.now differ)
