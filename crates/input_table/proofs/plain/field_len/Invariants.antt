use Rattle.std.proofs.Common.{take}
use Rattle.csv.specs.Machine.{Runs}
use Rattle.csv.specs.Reading.{default_config}
use Rattle.csv.specs.declared.parser.State.TheVariants as st
use Rattle.input_table.proofs.plain.field_len.Given as goal

-- the bytes passed join a field
abbrev pub invariant-loop-at : goal.invariant-loop-at
invariant-loop-at l = Runs default_config st.InField (take l.at l.text)
