-- A file stands for one table, or breaks one first rule.
use Rattle.std.specs.Prelude.{◌≡◌, ◌⊎◌, List, Result, Err}
use Rattle.flat_model.specs.Models.{AreNames}
use Rattle.flat_model.specs.declared.model.FlatName.{FlatName}
use Rattle.flat_model.specs.declared.table.Table.{Table}
use Rattle.input_table.specs.Fields.{Record}
use Rattle.input_table.specs.Tables.{Answers}
use Rattle.input_table.specs.declared.ends.TableEnd.TheVariants.{NoMemory}
use Rattle.input_table.specs.declared.ends.TableEnd.{TableEnd}

-- two answers to one file are one, but for want of memory
abbrev pub TableLaw : Type 0
TableLaw = (names : List FlatName) (all : List Record) (a b : Result Table TableEnd) → AreNames names → Answers names all a → Answers names all b
    → (a ≡ b) ⊎ ((a ≡ Err NoMemory) ⊎ (b ≡ Err NoMemory))
