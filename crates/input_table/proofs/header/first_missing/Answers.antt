use Rattle.std.proofs.Common.{arith, sym, ◌∙◌}
use Rattle.std.proofs.lemmas.Bool.{false≢true}
use Rattle.input_table.proofs.Columns.{is_missing, are_whole, checked_more, name_at}
use Rattle.input_table.proofs.header.first_missing.Goals as goal
use Rattle.input_table.proofs.header.first_missing.Goals.{else-name-via-then-name+else-not-seen-at, else-name-via-else-name}

pub returns-then-not-seen-at : goal.returns-then-not-seen-at
returns-then-not-seen-at c header columns are first noted =
    let found = name_at c.args.names.now c.loop-at.at c.index-names-at.result c.loop-at-test.true c.index-names-at.is in
    is_missing c.args.names.now are header columns c.args.seen.now c.loop-at.at c.index-names-at.result first noted found c.if-name.true c.if-not-seen-at.true c.loop-at.invariant

pub loop-at-preserved : goal.loop-at-preserved
loop-at-preserved c =
    checked_more c.args.names.now c.args.seen.now c.loop-at.at c.index-names-at.result c.loop-at-test.true c.index-names-at.is
    (elim c.else-name.branch [
      | else-name-via-then-name+else-not-seen-at w ↦ λ input. w.if-not-seen-at.false
      | else-name-via-else-name w ↦ λ input. absurd (false≢true (sym w.if-name.false ∙ input))
    ])
    c.loop-at.invariant

pub returns : goal.returns
returns c header columns are first noted =
    are_whole c.args.names.now are header columns c.args.seen.now first noted (λ y other less found input. c.loop-at.invariant y other (omega (arith, less)) found input)
