use Rattle.input_table.proofs.Fronts.{instant_written, instant_added}
use Rattle.input_table.proofs.front.instant_front.Goals as goal

pub returns-in_ok-num-in-None : goal.returns-in_ok-num-in-None
returns-in_ok-num-in-None c =
    let time = c.in_ok-num-in-None in
    instant_written c.args.form c.args.before c.args.text.now time.rest.now time.num time.den c.make.result time.ensures.0 time.ensures.1 c.make.ensures

pub returns-in_ok-sum-in-Some : goal.returns-in_ok-sum-in-Some
returns-in_ok-sum-in-Some c =
    let time = c.in_ok-num-in-Some in
    instant_added c.args.form c.args.before c.args.text.now c.in-Some.more.now time.rest.now time.num time.den c.in_ok-sum-in-Some.sum c.in-Some.ensures time.ensures.0 time.ensures.1
    c.in_ok-sum-in-Some.ensures
