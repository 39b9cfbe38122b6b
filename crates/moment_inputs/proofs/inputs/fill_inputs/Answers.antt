use Rattle.std.proofs.Common.{◌≡◌, ◌∙◌, ◌==◌, ap, position}
use Rattle.flat_model.specs.Moments.{cell_of, row_of}
use Rattle.moment_inputs.proofs.SetInputs.{hold_inputs}
use Rattle.moment_inputs.proofs.inputs.fill_inputs.Goals as goal

pub returns-clause-inputs : goal.returns-clause-inputs
returns-clause-inputs c =
    let row_is : c.row_at-row.result ≡ row_of c.args.table.now.times c.args.at = c.row_at-row.ensures ∙ ap (λ times. row_of times c.args.at) c.as_slice.ensures in
    hold_inputs c.args.table.now c.args.at c.set_inputs.new.now
    (λ x. c.set_inputs.ensures.values x ∙ ap (λ row. cell_of c.args.table.now row (position (λ column. column == x) c.args.table.now.columns)) row_is)
