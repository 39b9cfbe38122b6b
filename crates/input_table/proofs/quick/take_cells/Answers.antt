use Rattle.std.proofs.Common.{get_or}
use Rattle.std.proofs.lemmas.Option.{slice_get_within, slice_get-get_or}
use Rattle.input_table.proofs.Columns.{name_at}
use Rattle.input_table.proofs.OnePass.{no_cells, cells_more}
use Rattle.input_table.proofs.quick.take_cells.Goals as goal

pub loop-column-init : goal.loop-column-init
loop-column-init c = no_cells c.args.names.now c.args.columns.now c.args.text.now c.args.cells.now

pub bounds-names-columns : goal.bounds-names-columns
bounds-names-columns c =
    let is = c.requires.inputs c.loop-column.column 0 c.loop-column-test.true in
    slice_get_within c.args.names.now (get_or c.args.columns.now c.loop-column.column 0) is.0 is.1

pub loop-column-preserved : goal.loop-column-preserved
loop-column-preserved c =
    let names = c.args.names.now in
    let columns = c.args.columns.now in
    let k = c.loop-column.column in
    let x = get_or columns k 0 in
    let name = c.index-names-columns.result in
    let less = c.loop-column-test.true in
    let is = c.requires.inputs k 0 less in
    let column = slice_get-get_or columns k 0 less in
    let found = name_at names x name (slice_get_within names x is.0 is.1) c.index-names-columns.is in
    let value = c.in-Some-value_front in
    cells_more names columns c.args.text.now c.args.cells.now c.loop-column.cells c.push.new.self k x c.loop-column.rest.now c.in-Some.field.now value.others.now name value.value
    c.loop-column.invariant c.in-Some.ensures value.ensures column found c.in_ok-push.ensures.ok
