use Rattle.std.proofs.Common.{◌∷◌, subst, Ok, Err}
use Rattle.csv.specs.Records.{fields_of}
use Rattle.csv.specs.declared.record.ByteRecord.{ByteRecord}
use Rattle.input_table.specs.private.Reading.{RowAnswers}
use Rattle.input_table.proofs.Whole.{reads_more, reads_none, row_breaks}
use Rattle.input_table.proofs.read.read_next.Goals as goal

pub returns-in-Ok-false : goal.returns-in-Ok-false
returns-in-Ok-false c text header reading =
    let same = rw c.if-branch.false at c.in_ok-read_plain.ensures.read in
    let at = reads_none c.args.form c.args.names.now c.args.columns.now text header c.args.number c.args.times.now c.read_plain.new.times c.args.cells.now c.read_plain.new.cells
    c.args.records.now c.read_plain.new.records same reading in
    (c.read_plain.new.records, at, rw c.in-Ok-false.field-0-test at (c.in-Ok-false.ensures.took text (header ∷ at.records_) at.standing))

pub returns-in-Err-read_row : goal.returns-in-Err-read_row
returns-in-Err-read_row c text header reading =
    let form = c.args.form in
    let names = c.args.names.now in
    let columns = c.args.columns.now in
    let number = c.args.number in
    let end = c.in-Err-read_row.end in
    let same = rw c.if-branch.false at c.in_ok-read_plain.ensures.read in
    let at = reads_none form names columns text header number c.args.times.now c.read_plain.new.times c.args.cells.now c.read_plain.new.cells c.args.records.now c.read_plain.new.records same reading in
    let took = rw c.in-Ok-true.field-0-test at (c.in-Ok-true.ensures.took text (header ∷ at.records_) at.standing) in
    let answers = subst (λ (row : ByteRecord). RowAnswers form names columns at.rows (fields_of row) number (Err end) c.read_row.new.times c.read_row.new.cells) c.row.ensures
    (c.in-Err-read_row.ensures at.rows at.hold) in
    row_breaks form names columns text header (fields_of c.next.new.self.row) number c.read_plain.new.times c.read_row.new.times c.read_plain.new.cells c.read_row.new.cells
    c.read_plain.new.records c.next.new.self end at took.0 answers

pub returns-in-Ok : goal.returns-in-Ok
returns-in-Ok c text header reading =
    let form = c.args.form in
    let names = c.args.names.now in
    let columns = c.args.columns.now in
    let number = c.args.number in
    let same = rw c.if-branch.false at c.in_ok-read_plain.ensures.read in
    let at = reads_none form names columns text header number c.args.times.now c.read_plain.new.times c.args.cells.now c.read_plain.new.cells c.args.records.now c.read_plain.new.records same reading in
    let took = rw c.in-Ok-true.field-0-test at (c.in-Ok-true.ensures.took text (header ∷ at.records_) at.standing) in
    let answers = subst (λ (row : ByteRecord). RowAnswers form names columns at.rows (fields_of row) number (Ok tt) c.read_row.new.times c.read_row.new.cells) c.row.ensures
    (c.in-Ok.ensures at.rows at.hold) in
    reads_more form names columns text header (fields_of c.next.new.self.row) number c.read_plain.new.times c.read_row.new.times c.read_plain.new.cells c.read_row.new.cells
    c.read_plain.new.records c.next.new.self tt at took.0 answers
