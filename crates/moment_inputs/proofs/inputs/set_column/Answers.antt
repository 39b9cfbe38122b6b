use Rattle.std.proofs.Common.{◌≡◌, ◌∙◌, ap, ap₂, sym, subst, ◌<◌, ◌+◌, ◌*◌, ℕ, Some, length, get_or, set}
use Rattle.std.proofs.lemmas.Option.{slice_get-get_or, get_or_from_slice_get}
use Rattle.sync_values.specs.declared.value.Value.{Value}
use Rattle.sync_values.specs.declared.value.Value.TheVariants as value
use Rattle.moment_inputs.proofs.SetInputs.{column_within, cell_there}
use Rattle.moment_inputs.proofs.inputs.set_column.Goals as goal

pub bounds-now-name : goal.bounds-now-name
bounds-now-name c =
    subst (λ xs. get_or xs c.args.column 0 < length c.args.now.now) (sym c.as_slice.ensures)
    (column_within (length c.args.now.now) c.args.table.now c.args.column _ c.requires.fits (slice_get-get_or c.args.table.now.columns c.args.column 0 c.requires.column))

pub returns : goal.returns
returns c = λ x found.
    let zero_value : Value = value.Int (lib.IntN.pos 0) in
    let place : ℕ = c.args.row * length c.args.table.now.columns + c.args.column in
    let name_is : get_or c.as_slice.result.now c.args.column 0 ≡ x = ap (λ xs. get_or xs c.args.column 0) c.as_slice.ensures ∙ get_or_from_slice_get c.args.table.now.columns c.args.column x 0 found in
    let read : get_or c.as_slice-2.result.now (c.args.row * c.len.result + c.args.column) zero_value ≡ get_or c.args.table.now.cells place zero_value =
    ap₂ (λ xs n. get_or xs (c.args.row * n + c.args.column) zero_value) c.as_slice-2.ensures c.len.ensures in
    let there = cell_there (length c.args.now.now) c.args.table.now c.args.row c.args.column c.requires.fits c.requires.row c.requires.column in
    ap₂ (λ y v. set c.args.now.now y v) name_is (ap Some read ∙ sym (slice_get-get_or c.args.table.now.cells place zero_value there))
