-- What a put does to a text.
use Rattle.std.specs.Prelude.{◌≡◌, ℕ, ◌<◌, ◌≤◌, List, Option, length, take}
use Rattle.outside_io.specs.declared.sink.Put.{Put}
use Rattle.outside_io.specs.declared.sink.Put.TheVariants.{Taken, Failed}
use Rattle.outside_io.specs.Counts.{next}
use Rattle.outside_io.specs.Texts.{grown}

-- the text grew by the first bytes of the piece, at least one of them, or stayed as it was
abbrev pub Takes : List ℕ → Option (List ℕ) → Option (List ℕ) → Put → Type 0
Takes piece old new (Taken count) = (0 < count) × (count ≤ length piece) × (new ≡ grown (take count piece) old)
Takes piece old new Failed = new ≡ old

-- a count of faults after a put
abbrev pub faults_after_put : ℕ → Put → ℕ
faults_after_put faults (Taken count) = faults
faults_after_put faults Failed = next faults
