use Rattle.std.proofs.Common.{◌<◌, arith}
use Rattle.input_table.proofs.Fronts.{written_whole, written_quotient, decimal_written}
use Rattle.input_table.proofs.front.written_front.Goals as goal

pub returns-in-Some : goal.returns-in-Some
returns-in-Some c =
    decimal_written c.args.text.now c.in_ok-whole.rest.now c.in-Some.part.now c.in_ok-whole.whole c.decimal_front.result c.in_ok-whole.ensures c.in-Some.ensures c.decimal_front.ensures

pub returns-in-Some-behind : goal.returns-in-Some-behind
returns-in-Some-behind c =
    let some : 0 < c.in_ok-under.under = omega (arith, c.if-under-eq0.false) in (
      some,
      written_quotient c.args.text.now c.in_ok-whole.rest.now c.in-Some-behind.below.now c.in_ok-under.others.now c.in_ok-whole.whole c.in_ok-under.under c.in_ok-whole.ensures c.in-Some-behind.ensures
          c.in_ok-under.ensures some,
    )

pub returns : goal.returns
returns c = (omega arith, written_whole c.args.text.now c.in_ok-whole.rest.now c.in_ok-whole.whole c.in_ok-whole.ensures)
