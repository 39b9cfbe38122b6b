use Rattle.std.proofs.Common.{◌≡◌, ◌≢◌, ◌∙◌, ◌+◌, ap, sym, length, min, ℕ}
use Rattle.csv.specs.Records.{fields_of}
use Rattle.flat_model.specs.declared.place.Place.TheVariants as place
use Rattle.input_table.specs.declared.ends.TableCode.TheVariants.{I7}
use Rattle.input_table.specs.declared.ends.TableEnd.TheVariants.{Fault}
use Rattle.input_table.specs.Rows.{length_}
use Rattle.input_table.proofs.Cells.{row_fault, time_fault, cells_break, row_read}
use Rattle.input_table.proofs.rows.read_row.Goals as goal

pub returns-then-len-width : goal.returns-then-len-width
returns-then-len-width c rows hold =
    let fields = fields_of c.args.record_.now in
    let columns = c.args.columns.now in
    let is : c.fault.result ≡ Fault I7 (place.Cell c.args.number (min (length fields) (length columns + 1) + 1)) =
    c.fault.ensures ∙ ap (λ (n : ℕ). Fault I7 (place.Cell c.args.number (n + 1))) (c.min.ensures ∙ ap (λ (m : ℕ). min m (length columns + 1)) c.len-then-len-width.ensures) in
    let other : length fields ≢ length columns + 1 = λ e. c.if-len-width.true (c.len.ensures ∙ e) in
    row_fault c.args.form c.args.names.now columns fields rows c.args.number _ I7 c.fault.result c.args.times.now c.args.cells.now is (length_ other)

pub returns-in-Err : goal.returns-in-Err
returns-in-Err c rows hold =
    let full : length (fields_of c.args.record_.now) ≡ length c.args.columns.now + 1 = sym c.len.ensures ∙ c.if-len-width.false in
    time_fault c.args.form c.args.names.now c.args.columns.now (fields_of c.args.record_.now) rows c.args.times.now c.args.cells.now c.last_of.result c.text_in.result.now c.in-Err.code c.args.number
    c.fault-in-Err.result c.args.times.now c.args.cells.now hold c.last_of.ensures.is c.text_in.ensures full c.in-Err.ensures c.fault-in-Err.ensures

pub returns-in-Err-read_cells : goal.returns-in-Err-read_cells
returns-in-Err-read_cells c rows hold =
    let full : length (fields_of c.args.record_.now) ≡ length c.args.columns.now + 1 = sym c.len.ensures ∙ c.if-len-width.false in
    cells_break c.args.form c.args.names.now c.args.columns.now (fields_of c.args.record_.now) rows c.args.times.now c.args.cells.now c.read_cells.new.cells c.last_of.result c.text_in.result.now
    c.in-Ok.time c.args.number c.in-Err-read_cells.end c.args.times.now hold c.last_of.ensures.is c.text_in.ensures full c.in-Ok.ensures c.in-Err-read_cells.ensures

pub returns-in_ok-push-in-Ok-read_cells : goal.returns-in_ok-push-in-Ok-read_cells
returns-in_ok-push-in-Ok-read_cells c rows hold =
    let full : length (fields_of c.args.record_.now) ≡ length c.args.columns.now + 1 = sym c.len.ensures ∙ c.if-len-width.false in
    row_read c.args.form c.args.names.now c.args.columns.now (fields_of c.args.record_.now) rows c.args.times.now c.push.new.self c.args.cells.now c.read_cells.new.cells c.last_of.result c.text_in.result.now
    c.in-Ok.time c.args.number tt hold c.last_of.ensures.is c.text_in.ensures full c.in-Ok.ensures c.in-Ok-read_cells.ensures c.in_ok-push-in-Ok-read_cells.ensures.ok
