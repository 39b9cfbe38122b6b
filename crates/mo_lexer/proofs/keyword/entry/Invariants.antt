use Rattle.std.proofs.Common.{◌≡◌, length}
use Rattle.mo_lexer.specs.Keywords.{entries, entry_of}
use Rattle.mo_lexer.proofs.keyword.entry.Given as goal

abbrev pub invariant-loop-table : goal.invariant-loop-table
invariant-loop-table l = entry_of l.word (entries l.table) ≡ entry_of l.word (entries l.initial.table)

abbrev pub decreases-loop-table : goal.decreases-loop-table
decreases-loop-table l = length l.table
