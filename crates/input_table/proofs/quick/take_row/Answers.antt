use Rattle.std.proofs.Common.{◌*◌, ◌<◌, subst, rules, List, ℕ, Option}
use Rattle.std.specs.Borrow.{Bor}
use Rattle.input_table.specs.private.Quick.{CellsTaken}
use Rattle.input_table.proofs.OnePass.{row_taken}
use Rattle.input_table.proofs.quick.take_row.Goals as goal

pub returns-in_ok-push-in-Some-2 : goal.returns-in_ok-push-in-Some-2
returns-in_ok-push-in-Some-2 c =
    let before = c.in-Some.before in
    let start = c.without_line_ends in
    let instant = c.in-Some-instant_front in
    let rises : before.num * instant.time.den < instant.time.num * before.den = search rules in
    let cells = subst (λ (o : Option (Bor (List ℕ))). CellsTaken c.args.names.now c.args.columns.now instant.row.now c.args.cells.now o c.take_cells.new.cells) c.in-Some-2.is c.in_ok-take_cells.ensures in
    row_taken c.args.form c.args.names.now c.args.columns.now c.args.text.now start.result.now instant.row.now before instant.time c.args.times.now c.push.new.self c.args.cells.now c.take_cells.new.cells
    c.in-Some-2.rest c.in-Some.ensures.is start.ensures.same start.ensures.start start.ensures.quotes instant.ensures rises cells c.in_ok-push-in-Some-2.ensures.ok
