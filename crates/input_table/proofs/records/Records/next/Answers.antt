use Rattle.std.proofs.Common.{◌≡◌, refl, subst, sym, false, []}
use Rattle.input_table.specs.private.Plain.{has_quote}
use Rattle.input_table.proofs.Standing.{left_of, took_plain, took_last}
use Rattle.input_table.proofs.records.Records.next.Goals as goal

pub returns-in-Ok-None-clause-took : goal.returns-in-Ok-None-clause-took
returns-in-Ok-None-clause-took c text rows is =
    let left = left_of text rows c.args.self.now c.in-Some.text is c.in-Some.is in
    let none : has_quote c.in-Some.text.now ≡ false = subst (λ t. has_quote t ≡ false) (sym left.1) left.2 in
    took_last text rows c.args.self.now c.args.self.now c.in-Some.text [] is c.in-Some.is (rw c.in-Ok-None.field-0-is at (c.in-Ok-None.ensures none))

pub returns-in-Ok-Some-clause-took : goal.returns-in-Ok-Some-clause-took
returns-in-Ok-Some-clause-took c text rows is =
    let left = left_of text rows c.args.self.now c.in-Some.text is c.in-Some.is in
    let none : has_quote c.in-Some.text.now ≡ false = subst (λ t. has_quote t ≡ false) (sym left.1) left.2 in
    took_plain text rows c.args.self.now _ c.in-Some.text c.in-Ok-Some.rest is c.in-Some.is refl (rw c.in-Ok-Some.field-0-is at (c.in-Ok-Some.ensures none))
