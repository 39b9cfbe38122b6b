use Rattle.std.proofs.Common.{◌∙◌, ◌++◌, ◌∷◌, ap, sym, subst, refl, arith, List, [], get_or, length}
use Rattle.std.proofs.lemmas.List.{append-nil, append_assoc, length-append}
use Rattle.std.proofs.lemmas.Option.{slice_get_within, slice_get-get_or}
use Rattle.csv.specs.Records.{fields_of}
use Rattle.sync_values.specs.declared.value.Value.{Value}
use Rattle.input_table.specs.Rows.{ValueIs}
use Rattle.input_table.specs.private.Reading.{above_in, above_next}
use Rattle.input_table.proofs.Cells.{cell_fault, no_value, is_value, taken_more}
use Rattle.input_table.proofs.Columns.{name_at}
use Rattle.input_table.proofs.Held.{above_is}
use Rattle.input_table.proofs.rows.read_cells.Goals as goal

pub loop-column-init : goal.loop-column-init
loop-column-init c = ([], sym (append-nil c.args.cells.now), refl, λ k v is. cc)

pub bounds-names-columns : goal.bounds-names-columns
bounds-names-columns c =
    let is = c.requires.inputs c.loop-column.column 0 c.loop-column-test.true in
    slice_get_within c.args.names.now (get_or c.args.columns.now c.loop-column.column 0) is.0 is.1

pub returns-in_default : goal.returns-in_default
returns-in_default c =
    let names = c.args.names.now in
    let columns = c.args.columns.now in
    let fields = fields_of c.args.record_.now in
    let k = c.loop-column.column in
    let x = get_or columns k 0 in
    let name = c.index-names-columns.result in
    let inv = c.loop-column.invariant in
    let less = c.loop-column-test.true in
    let is = c.requires.inputs k 0 less in
    let column = slice_get-get_or columns k 0 less in
    let found = name_at names x name (slice_get_within names x is.0 is.1) c.index-names-columns.is in
    let above = c.value_above-above.ensures ∙ ap (λ (vs : List Value). above_next (length columns) vs) inv.1 ∙ above_is (length columns) c.args.cells.now inv.0 k inv.2 less in
    cell_fault c.args.form names columns fields c.args.number k c.args.cells.now c.loop-column.cells inv.0 c.fault.result c.fault.ensures less inv.3 inv.2
    (no_value c.args.form names columns fields k x name c.value_above-above.result (above_in (length columns) c.args.cells.now k) c.text_in.result.now column found above c.text_in.ensures c.in_default.ensures)

pub loop-column-preserved : goal.loop-column-preserved
loop-column-preserved c =
    let names = c.args.names.now in
    let columns = c.args.columns.now in
    let fields = fields_of c.args.record_.now in
    let k = c.loop-column.column in
    let x = get_or columns k 0 in
    let name = c.index-names-columns.result in
    let inv = c.loop-column.invariant in
    let less = c.loop-column-test.true in
    let is = c.requires.inputs k 0 less in
    let column = slice_get-get_or columns k 0 less in
    let found = name_at names x name (slice_get_within names x is.0 is.1) c.index-names-columns.is in
    let above = c.value_above-above.ensures ∙ ap (λ (vs : List Value). above_next (length columns) vs) inv.1 ∙ above_is (length columns) c.args.cells.now inv.0 k inv.2 less in
    let value = is_value c.args.form names columns fields k x name c.value_above-above.result (above_in (length columns) c.args.cells.now k) c.text_in.result.now c.in-Some.value column found above c.text_in.ensures c.in-Some.ensures in (
      inv.0 ++ c.in-Some.value ∷ [],
      c.in_ok-push.ensures.ok ∙ ap (λ (vs : List Value). vs ++ c.in-Some.value ∷ []) inv.1 ∙ append_assoc c.args.cells.now inv.0 (c.in-Some.value ∷ []),
      omega (arith, length-append inv.0 (c.in-Some.value ∷ []), inv.2),
      taken_more c.args.form names columns fields c.args.cells.now inv.0 c.in-Some.value inv.3
          (subst (λ n. ValueIs c.args.form names columns (above_in (length columns) c.args.cells.now n) fields n c.in-Some.value) (sym inv.2) value),
    )
