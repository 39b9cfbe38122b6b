use Rattle.std.proofs.Common.{rules, ◌<◌, ◌≤◌, ◌≡◌, ◌+◌, ◌^◌, subst, get_or, length, take}
use Rattle.std.specs.Char.{digit_value}
use Rattle.std.specs.Str.Parse.{AllDigits}
use Rattle.std.proofs.lemmas.Int.Digits.{digits_more}
use Rattle.rational_time.proofs.TimeTexts.{one_digit_more, value_below, long_front}
use Rattle.rational_time.proofs.time_text.front_number.Goals as goal

pub loop-at-preserved : goal.loop-at-preserved
loop-at-preserved c =
    let below : digit_value (get_or c.args.text.now c.loop-at.at 0) < 10 = search rules in
    let digit : digit_value (get_or c.args.text.now c.loop-at.at 0) ≡ c.from.result = search rules in
    let more = one_digit_more c.args.text.now c.loop-at.at c.loop-at.value c.from.result c.loop-at-test.true c.loop-at.invariant.digits c.loop-at.invariant.value below digit in
    record { few = search rules; digits = more.0; value = more.1 }

pub overflow_mul-value : goal.overflow_mul-value
overflow_mul-value c =
    let few : c.loop-at.at ≤ 18 = search rules in
    let small = value_below c.args.text.now c.loop-at.at (search rules) few c.loop-at.invariant.digits in
    let value : c.loop-at.value < 10 ^ 18 = rw c.loop-at.invariant.value small in
    search rules

pub overflow_add-value : goal.overflow_add-value
overflow_add-value c =
    let few : c.loop-at.at ≤ 18 = search rules in
    let small = value_below c.args.text.now c.loop-at.at (search rules) few c.loop-at.invariant.digits in
    let value : c.loop-at.value < 10 ^ 18 = rw c.loop-at.invariant.value small in
    let digit : c.from.result < 10 = search rules in
    search rules

pub returns-then-at-most : goal.returns-then-at-most
returns-then-at-most c =
    let below : digit_value (get_or c.args.text.now c.loop-at.at 0) < 10 = search rules in
    let all = digits_more 10 c.args.text.now c.loop-at.at c.loop-at-test.true c.loop-at.invariant.digits below in
    let at : c.loop-at.at ≡ c.args.most = c.if-at-most.true in
    long_front c.args.most c.args.text.now (subst (λ k. k < length c.args.text.now) at c.loop-at-test.true) (subst (λ k. AllDigits 10 (take (k + 1) c.args.text.now)) at all)
