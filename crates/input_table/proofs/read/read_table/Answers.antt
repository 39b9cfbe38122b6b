use Rattle.std.proofs.Common.{◌≡◌, ◌∙◌, ap, sym, subst, arith, [], ◌∷◌, All, length}
use Rattle.csv.specs.Records.{fields_of}
use Rattle.csv.specs.declared.record.ByteRecord.{ByteRecord}
use Rattle.flat_model.specs.Tables.{IsInput}
use Rattle.input_table.specs.Tables.{records_of}
use Rattle.input_table.proofs.Standing.{they_begin}
use Rattle.input_table.proofs.Whole.{no_records, no_form, columns_fault, whole_moved, rows_answer, rows_table}
use Rattle.input_table.proofs.read.read_table.Goals as goal

pub returns-in-Ok-false-clause-answers : goal.returns-in-Ok-false-clause-answers
returns-in-Ok-false-clause-answers c =
    let text = c.args.bytes.now in
    let all = rw c.in-Ok-false.field-0-test at (c.in-Ok-false.ensures.took text [] c.new-records.ensures) in
    no_records c.args.flat.now.names (records_of text) c.fault.result all c.fault.ensures

pub returns-in_default-clause-answers : goal.returns-in_default-clause-answers
returns-in_default-clause-answers c =
    let text = c.args.bytes.now in
    let took = rw c.in-Ok-true.field-0-test at (c.in-Ok-true.ensures.took text [] c.new-records.ensures) in
    let header = fields_of c.next.new.self.row in
    let begin = they_begin text (header ∷ []) c.next.new.self took.0 in
    no_form c.args.flat.now.names (records_of text) header (fields_of c.row.result.now) begin.0 c.fault-in_default.result begin.1
    (ap (λ (r : ByteRecord). fields_of r) c.row.ensures) c.in_default.ensures c.fault-in_default.ensures

pub columns_of-requires-clause-short : goal.columns_of-requires-clause-short
columns_of-requires-clause-short c =
    let text = c.args.bytes.now in
    let took = rw c.in-Ok-true.field-0-test at (c.in-Ok-true.ensures.took text [] c.new-records.ensures) in
    let same : length (fields_of c.row-2.result.now) ≡ length (fields_of c.next.new.self.row) = ap (λ (r : ByteRecord). length (fields_of r)) c.row-2.ensures in
    omega (arith, same, took.1, c.requires.short)

pub returns-in-Err-columns_of-clause-answers : goal.returns-in-Err-columns_of-clause-answers
returns-in-Err-columns_of-clause-answers c =
    let text = c.args.bytes.now in
    let took = rw c.in-Ok-true.field-0-test at (c.in-Ok-true.ensures.took text [] c.new-records.ensures) in
    let header = fields_of c.next.new.self.row in
    let begin = they_begin text (header ∷ []) c.next.new.self took.0 in
    columns_fault c.args.flat.now.names c.as_slice.result.now (records_of text) header (fields_of c.row.result.now) (fields_of c.row-2.result.now) begin.0 c.in-Some.form c.in-Err-columns_of.end
    begin.1 c.as_slice.ensures (ap (λ (r : ByteRecord). fields_of r) c.row.ensures) (ap (λ (r : ByteRecord). fields_of r) c.row-2.ensures) c.in-Some.ensures c.in-Err-columns_of.ensures

pub read_rows-requires-clause-inputs : goal.read_rows-requires-clause-inputs
read_rows-requires-clause-inputs c =
    subst (λ ns. All (IsInput ns) c.in-Ok.columns) (c.as_slice.ensures ∙ sym c.as_slice-in-Ok.ensures) c.in-Ok.ensures.are.inputs

pub read_rows-requires-clause-few : goal.read_rows-requires-clause-few
read_rows-requires-clause-few c =
    let text = c.args.bytes.now in
    let took = rw c.in-Ok-true.field-0-test at (c.in-Ok-true.ensures.took text [] c.new-records.ensures) in
    let same : length (fields_of c.row-2.result.now) ≡ length (fields_of c.next.new.self.row) = ap (λ (r : ByteRecord). length (fields_of r)) c.row-2.ensures in
    omega (arith, same, took.1, c.requires.short, c.in-Ok.ensures.long)

pub read_rows-requires-clause-standing : goal.read_rows-requires-clause-standing
read_rows-requires-clause-standing c =
    let took = rw c.in-Ok-true.field-0-test at (c.in-Ok-true.ensures.took c.args.bytes.now [] c.new-records.ensures) in
    (fields_of c.next.new.self.row, took.0)

pub returns-clause-answers : goal.returns-clause-answers
returns-clause-answers c =
    let text = c.args.bytes.now in
    let names = c.args.flat.now.names in
    let took = rw c.in-Ok-true.field-0-test at (c.in-Ok-true.ensures.took text [] c.new-records.ensures) in
    let header = fields_of c.next.new.self.row in
    let whole = whole_moved names c.as_slice.result.now header (fields_of c.row-2.result.now) c.in-Ok.columns c.as_slice.ensures (ap (λ (r : ByteRecord). fields_of r) c.row-2.ensures) c.in-Ok.ensures in
    rows_answer names c.as_slice-in-Ok.result.now (records_of text) header (fields_of c.row.result.now) c.in-Some.form c.in-Ok.columns c.read_rows.result c.as_slice-in-Ok.ensures
    (ap (λ (r : ByteRecord). fields_of r) c.row.ensures) c.in-Some.ensures whole (c.read_rows.ensures header took.0)

pub returns-clause-table : goal.returns-clause-table
returns-clause-table c =
    let text = c.args.bytes.now in
    let names = c.args.flat.now.names in
    let took = rw c.in-Ok-true.field-0-test at (c.in-Ok-true.ensures.took text [] c.new-records.ensures) in
    let header = fields_of c.next.new.self.row in
    let whole = whole_moved names c.as_slice.result.now header (fields_of c.row-2.result.now) c.in-Ok.columns c.as_slice.ensures (ap (λ (r : ByteRecord). fields_of r) c.row-2.ensures) c.in-Ok.ensures in
    rows_table c.args.flat.now c.as_slice-in-Ok.result.now (records_of text) header c.in-Some.form c.in-Ok.columns c.read_rows.result c.as_slice-in-Ok.ensures whole (c.read_rows.ensures header took.0)
