use Rattle.std.proofs.Common.{rules, ◌≡◌, ap, ◌∙◌, sym, w64, to_z, of_z}
use Rattle.cell_keys.specs.declared.key.CellKey.TheVariants.{Constant}
use Rattle.cell_keys.specs.Cells.{cell_of}
use Rattle.keyed_code.proofs.Tables.{const_is}
use Rattle.keyed_code.proofs.table.constant_cell.Goals as goal

pub returns : goal.returns
returns c =
    let whole : to_z w64 (of_z w64 c.word_of.result) ≡ c.word_of.result = search rules in
    c.number.ensures ∙ ap (λ word. cell_of c.args.table.now.keys.now (Constant word)) (whole ∙ c.word_of.ensures)
    ∙ sym (const_is c.args.table.now.keys.now c.args.table.now.names.now c.args.table.now.clock c.args.table.now.sight c.args.value)
