use Rattle.std.proofs.Common.{refl, subst, List, ℕ, Option}
use Rattle.std.specs.Borrow.{Bor}
use Rattle.input_table.specs.private.Quick.{RowTaken}
use Rattle.input_table.proofs.Whole.{reads_plain}
use Rattle.input_table.proofs.read.read_plain.Goals as goal

pub returns-in-Some-2-clause-read : goal.returns-in-Some-2-clause-read
returns-in-Some-2-clause-read c =
    let taken = subst (λ (o : Option (Bor (List ℕ))). RowTaken c.args.form c.args.names.now c.args.columns.now c.in-Some.text.now c.args.times.now c.args.cells.now o c.take_row.new.times c.take_row.new.cells)
    c.in-Some-2.is c.in_ok-take_row.ensures in
    reads_plain c.args.form c.args.names.now c.args.columns.now c.args.times.now c.take_row.new.times c.args.cells.now c.take_row.new.cells c.args.records.now _ c.in-Some.text c.in-Some-2.rest
    c.in-Some.is refl taken
