use Rattle.std.proofs.Common.{ℕ, List}
use Rattle.input_table.specs.private.Finding.{number_of}
use Rattle.input_table.proofs.Found.{FoundBelow}
use Rattle.input_table.proofs.header.inputs.Given as goal

abbrev pub invariant-loop-at : goal.invariant-loop-at
invariant-loop-at l = (text : List ℕ) → FoundBelow l.names l.at text (number_of text l.found.entries)
