use Rattle.std.proofs.Common.{refl, [], ◌∷◌}
use Rattle.cell_keys.specs.declared.key.CellKey.TheVariants.{Value}
use Rattle.cell_keys.specs.declared.sight.Sight.TheVariants.{Now}
use Rattle.part_layout.specs.Reads.{keys_read, keys_of_line}
use Rattle.part_layout.proofs.Reading.{adds_err}
use Rattle.part_layout.proofs.lines.add_line.Goals as goal

pub returns-in_err-add : goal.returns-in_err-add
returns-in_err-add c =
    adds_err c.args.keys.now (keys_of_line c.args.line.now) c.args.keys.now (Value c.args.line.now.name ∷ []) (keys_read c.args.line.now.side.now c.args.line.now.class Now) _
    c.from_residual.result c.in_err-add.field-0.0 c.from_residual.ensures.0 c.from_residual.ensures.1 refl c.in_err-add.ensures.adds
