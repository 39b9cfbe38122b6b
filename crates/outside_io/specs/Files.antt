-- Files by their names, and what is known of one.
use Rattle.std.specs.Prelude.{◌≡◌, ◌≤◌, ◌<◌, ◌+◌, ℕ, List, [], ◌∷◌, take, drop, length, Bool, true, false, Option, Some, None, if◌then◌else◌}
use Rattle.std.specs.Str.{bytes_eq}

-- files with their names; of two with one name the first counts
abbrev pub Files : Type 0
Files = List (List ℕ × List ℕ)

-- the bytes of the first file of a name
abbrev pub first_named : List ℕ → Files → Option (List ℕ)
first_named name [] = None
first_named name (file ∷ rest) = if bytes_eq file.0 name then Some file.1 else first_named name rest

-- what is known of a name: nothing, that no file of it is held, or the bytes of its file
pub data Known : Type 0 where
  Unknown : Known
  NotHeld : Known
  File : (bytes : List ℕ) → Known

-- what is known of a name with this file or none, where the flag says that unheld names are empty files
abbrev pub known_of : Bool → Option (List ℕ) → Known
known_of empty (Some bytes) = File bytes
known_of true None = File []
known_of false None = NotHeld

-- what the held files, where they are known, and the flag say of a name
abbrev pub known : Option Files → Bool → List ℕ → Known
known None empty name = Unknown
known (Some files) empty name = known_of empty (first_named name files)

-- the first `count` bytes of a buffer are those of the file from a place on
abbrev pub IsPart : Known → ℕ → List ℕ → ℕ → Type 0
IsPart Unknown at into count = Unit {0}
IsPart NotHeld at into count = ⊥
IsPart (File bytes) at into count = (at + count ≤ length bytes) × (take count into ≡ take count (drop at bytes))

-- a place is not below the length of the file
abbrev pub IsPastEnd : Known → ℕ → Type 0
IsPastEnd Unknown at = Unit {0}
IsPastEnd NotHeld at = ⊥
IsPastEnd (File bytes) at = length bytes ≤ at

-- these bytes are the whole file
abbrev pub IsWhole : Known → List ℕ → Type 0
IsWhole Unknown whole = Unit {0}
IsWhole NotHeld whole = ⊥
IsWhole (File bytes) whole = whole ≡ bytes

-- the file has more bytes than the limit
abbrev pub IsLonger : Known → ℕ → Type 0
IsLonger Unknown limit = Unit {0}
IsLonger NotHeld limit = ⊥
IsLonger (File bytes) limit = limit < length bytes
