-- What a read of a file gives.
use Rattle.std.specs.Prelude.{◌<◌, ◌≤◌, ℕ, List, length}
use Rattle.outside_io.specs.declared.shelf.Read.{Read}
use Rattle.outside_io.specs.declared.shelf.Read.TheVariants.{Bytes, End, Failed}
use Rattle.outside_io.specs.Counts.{next}
use Rattle.outside_io.specs.Files.{Known, IsPart, IsPastEnd}

-- what a read from a place on may answer of a file, with what it left in the buffer
abbrev pub Gives : Known → ℕ → List ℕ → Read → Type 0
Gives file at into (Bytes count) = (0 < count) × (count ≤ length into) × IsPart file at into count
Gives file at into End = IsPastEnd file at
Gives file at into Failed = Unit {0}

-- a count of faults after a read
abbrev pub faults_after_read : ℕ → Read → ℕ
faults_after_read faults (Bytes count) = faults
faults_after_read faults End = faults
faults_after_read faults Failed = next faults
