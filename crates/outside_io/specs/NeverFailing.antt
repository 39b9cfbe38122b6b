-- A shelf in memory of which no read fails.
use Rattle.std.specs.Prelude.{ℕ, List, [], Option, Some, None}
use Rattle.outside_io.specs.Files.{Files, first_named}
use Rattle.outside_io.specs.FilesInMemory.{part_of_file}
use Rattle.outside_io.specs.declared.shelf.Read.{Read}

-- the bytes of a file, none where there is no file
abbrev pub or_empty : Option (List ℕ) → List ℕ
or_empty (Some file) = file
or_empty None = []

-- what a read of a name from a place on into a buffer of this length answers: as many bytes as there are and have
-- room, and the end behind them
abbrev pub sure_answer : Files → List ℕ → ℕ → ℕ → Read
sure_answer files name at len = part_of_file at len (Some (or_empty (first_named name files)))
