use Rattle.std.proofs.Common.{◌≡◌, subst, sym, Some, None}
use Rattle.std.specs.Prelude.{MatchOption}
use Rattle.part_layout.specs.Keyed.{keyed_cells}
use Rattle.keyed_code.specs.Table.{cells_from}
use Rattle.keyed_code.proofs.table.measured.Goals as goal

pub returns-in-Now : goal.returns-in-Now
returns-in-Now c =
    subst (λ sight. MatchOption c.measured_now.result ((cells_from sight (keyed_cells c.args.table.now.keys.now c.args.table.now.names.now c.args.table.now.clock) 0).interval c.args.times ≡ None)
    (λ m. ((cells_from sight (keyed_cells c.args.table.now.keys.now c.args.table.now.names.now c.args.table.now.clock) 0).interval c.args.times ≡ Some m.cell)
    × ((cells_from sight (keyed_cells c.args.table.now.keys.now c.args.table.now.names.now c.args.table.now.clock) 0).unfit c.args.times ≡ m.unfit)))
    (sym c.in-Now.is) c.measured_now.ensures
