use Rattle.std.proofs.Common.{rules, ◌<◌, ◌≤◌, ◌≡◌, ◌^◌, get_or}
use Rattle.std.specs.Char.{digit_value}
use Rattle.rational_time.proofs.TimeTexts.{one_digit_more, value_below, no_digit}
use Rattle.command_words.proofs.workers.number.Goals as goal

pub returns-then-not-is_ascii_digit : goal.returns-then-not-is_ascii_digit
returns-then-not-is_ascii_digit c =
    let big : 10 ≤ digit_value (get_or c.args.digits.now c.loop-digit.digit-index 0) = search rules in
    λ numeral. no_digit c.args.digits.now c.loop-digit.digit-index c.loop-digit-test.true big numeral.digits

pub overflow_mul-value : goal.overflow_mul-value
overflow_mul-value c =
    let few : c.loop-digit.digit-index ≤ 18 = search rules in
    let small = value_below c.args.digits.now c.loop-digit.digit-index (search rules) few c.loop-digit.invariant.digits in
    let value : c.loop-digit.value < 10 ^ 18 = rw c.loop-digit.invariant.value small in
    search rules

pub overflow_add-value : goal.overflow_add-value
overflow_add-value c =
    let few : c.loop-digit.digit-index ≤ 18 = search rules in
    let small = value_below c.args.digits.now c.loop-digit.digit-index (search rules) few c.loop-digit.invariant.digits in
    let value : c.loop-digit.value < 10 ^ 18 = rw c.loop-digit.invariant.value small in
    let digit : c.from.result < 10 = search rules in
    search rules

pub loop-digit-preserved : goal.loop-digit-preserved
loop-digit-preserved c =
    let below : digit_value (get_or c.args.digits.now c.loop-digit.digit-index 0) < 10 = search rules in
    let digit : digit_value (get_or c.args.digits.now c.loop-digit.digit-index 0) ≡ c.from.result = search rules in
    let more = one_digit_more c.args.digits.now c.loop-digit.digit-index c.loop-digit.value c.from.result c.loop-digit-test.true c.loop-digit.invariant.digits c.loop-digit.invariant.value below digit in
    record { digits = more.0; value = more.1 }
