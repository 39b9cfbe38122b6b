use Rattle.std.proofs.Common.{arith, ◌≢◌, ◌≡◌, ◌∷◌}
use Rattle.rational_time.proofs.TimeTexts.{split_at_front, front_of, parts_of, no_mark, slash_outcome, point_outcome}
use Rattle.rational_time.proofs.time_text.written.Goals as goal

pub returns-in_err-whole : goal.returns-in_err-whole
returns-in_err-whole c =
    rw c.from_residual.ensures (λ n d w. let front = front_of c.args.text.now n d w in c.in_err-whole.ensures front.0 front.1 front.2)

pub returns-in-47 : goal.returns-in-47
returns-in-47 c =
    let front = c.in_ok-whole.ensures in
    let rest : c.in_ok-whole.rest.now ≡ 47 ∷ c.in-Some.last.now = rw c.in-47.is at c.in-Some.ensures.cases.0 in
    slash_outcome _ _ _ c.in-Some.last.now c.in_ok-whole.whole c.quotient.result (split_at_front _ _ _ front) rest front.numeral front.is c.quotient.ensures

pub returns-in-46 : goal.returns-in-46
returns-in-46 c =
    let front = c.in_ok-whole.ensures in
    let rest : c.in_ok-whole.rest.now ≡ 46 ∷ c.in-Some.last.now = rw c.in-46.is at c.in-Some.ensures.cases.0 in
    point_outcome _ _ _ c.in-Some.last.now c.in_ok-whole.whole c.decimal.result (split_at_front _ _ _ front) rest front.numeral front.is c.decimal.ensures

pub returns-in_default-mark : goal.returns-in_default-mark
returns-in_default-mark c =
    let slash : c.in-Some.mark.now ≢ 47 = omega arith in
    let dot : c.in-Some.mark.now ≢ 46 = omega arith in
    λ n d w. no_mark _ _ c.in-Some.last.now c.in-Some.mark.now n d c.in-Some.ensures.cases.0 slash dot (parts_of _ _ _ n d (split_at_front _ _ _ c.in_ok-whole.ensures) w)
