use Rattle.std.proofs.Common.{◌≡◌, rules, w64, to_z, of_z}
use Rattle.input_table.proofs.Fronts.{minus_front, plus_front, plain_front}
use Rattle.input_table.proofs.front.integer_front.Goals as goal

pub returns-in-Some : goal.returns-in-Some
returns-in-Some c =
    let whole : to_z w64 (of_z w64 c.signed.result) ≡ c.signed.result = search rules in
    rw (whole, c.signed.ensures) (minus_front c.args.text.now c.in-Some.digits.now c.in_ok-size.rest.now c.in_ok-size.size c.in-Some.ensures c.in_ok-size.ensures)

pub returns-in-Some-behind : goal.returns-in-Some-behind
returns-in-Some-behind c =
    let whole : to_z w64 (of_z w64 c.signed-in-Some-behind.result) ≡ c.signed-in-Some-behind.result = search rules in
    rw (whole, c.signed-in-Some-behind.ensures) (plus_front c.args.text.now c.in-Some-behind.others.now c.in_ok-number.back.now c.in_ok-number.number c.in-Some-behind.ensures c.in_ok-number.ensures)

pub returns : goal.returns
returns c =
    let whole : to_z w64 (of_z w64 c.signed-2.result) ≡ c.signed-2.result = search rules in
    rw (whole, c.signed-2.ensures) (plain_front c.args.text.now c.in_ok-value.end.now c.in_ok-value.value c.in_ok-value.ensures)
