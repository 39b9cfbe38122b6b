use Rattle.std.proofs.Common.{◌≡◌, ◌⊎◌}
use Rattle.input_table.proofs.PlainRecords.{passed, none_in_rest}
use Rattle.input_table.proofs.plain.without_line_ends.Goals as goal

pub loop-first-preserved : goal.loop-first-preserved
loop-first-preserved c =
    let is = c.in-Some.ensures.cases.0 in
    let end : (c.in-Some.first.now ≡ 13) ⊎ (c.in-Some.first.now ≡ 10) = c.if-not-is_line_end.ensures in record {
      same = passed c.args.text.now c.loop-first.rest.now c.in-Some.others.now c.in-Some.first.now is end c.loop-first.invariant.same;
      quotes = λ none. none_in_rest c.loop-first.rest.now c.in-Some.others.now c.in-Some.first.now is (c.loop-first.invariant.quotes none);
    }
