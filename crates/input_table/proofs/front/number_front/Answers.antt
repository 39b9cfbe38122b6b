use Rattle.std.proofs.Common.{rules, arith, ◌<◌, ◌≤◌, ◌≡◌, ◌^◌, get_or}
use Rattle.std.specs.Char.{digit_value}
use Rattle.input_table.proofs.Numbers.{digit_more, digits_small}
use Rattle.input_table.proofs.Fronts.{number_taken}
use Rattle.input_table.proofs.front.number_front.Goals as goal

pub loop-at-preserved : goal.loop-at-preserved
loop-at-preserved c =
    let below : digit_value (get_or c.args.text.now c.loop-at.at 0) < 10 = search rules in
    let digit : digit_value (get_or c.args.text.now c.loop-at.at 0) ≡ c.from.result = search rules in
    let more = digit_more c.args.text.now c.loop-at.at c.loop-at.value c.from.result c.loop-at-test.true c.loop-at.invariant.digits c.loop-at.invariant.value below digit in
    record { few = search rules; digits = more.0; value = more.1 }

pub overflow_mul-value : goal.overflow_mul-value
overflow_mul-value c =
    let few : c.loop-at.at ≤ 18 = search rules in
    let small = digits_small c.args.text.now c.loop-at.at (search rules) few c.loop-at.invariant.digits in
    let value : c.loop-at.value < 10 ^ 18 = rw c.loop-at.invariant.value small in
    search rules

pub overflow_add-value : goal.overflow_add-value
overflow_add-value c =
    let few : c.loop-at.at ≤ 18 = search rules in
    let small = digits_small c.args.text.now c.loop-at.at (search rules) few c.loop-at.invariant.digits in
    let value : c.loop-at.value < 10 ^ 18 = rw c.loop-at.invariant.value small in
    let digit : c.from.result < 10 = search rules in
    search rules

pub returns-then-not-is_ascii_digit : goal.returns-then-not-is_ascii_digit
returns-then-not-is_ascii_digit c =
    number_taken c.args.text.now c.split_at.result.0.now c.split_at.result.1.now c.loop-at.at c.loop-at.value c.if-at-eq0.false c.loop-at.invariant.few (omega (arith, c.loop-at-test.true))
    c.split_at.ensures.front c.split_at.ensures.by_index.0 c.loop-at.invariant.digits c.loop-at.invariant.value
