-- A shelf in memory.
use Rattle.std.specs.Prelude.{ℕ, ◌+◌, ◌-◌, ◌^◌, min, Bool, true, false, List, length, map, Option, Some, None, nat_le, if◌then◌else◌, string_bytes, String, Vec}
use Rattle.std.specs.Global.{Global}
use Rattle.outside_io.specs.Counts.{next, is_listed}
use Rattle.outside_io.specs.Files.{Files, first_named}
use Rattle.outside_io.specs.declared.shelf.Read.{Read}
use Rattle.outside_io.specs.declared.shelf.Read.TheVariants.{Bytes, End, Failed}

-- the bytes of names and files
abbrev pub files_of : List (String Global × Vec ℕ Global) → Files
files_of files = map (λ f. (string_bytes f.0, f.1.items)) files

-- its files, the most bytes that a read gives, the numbers of the reads that are to fail, and how many
-- reads there were, how many of them failed as they were to, and how many were of names that are not held
pub record MemoryShelf : Type 0 where
  pub files : Files
  pub chunk : ℕ
  pub failing : List ℕ
  pub reads : ℕ
  pub listed : ℕ
  pub unheld : ℕ

-- a shelf that was not read yet
abbrev pub new_shelf : Files → ℕ → List ℕ → MemoryShelf
new_shelf files chunk failing =
    record { files = files; chunk = chunk; failing = failing; reads = 0; listed = 0; unheld = 0 }

-- the faults of a name with this file or none
abbrev pub faults_at : ℕ → ℕ → Option (List ℕ) → ℕ
faults_at listed unheld (Some file) = listed
faults_at listed unheld None = min (listed + unheld) (2 ^ 64 - 1)

-- the faults of a name: the reads that failed as they were to, and the reads of names that are not held
-- where it is such a name
abbrev pub faults_of : MemoryShelf → List ℕ → ℕ
faults_of shelf name = faults_at shelf.listed shelf.unheld (first_named name shelf.files)

-- what a read of at most so many bytes from a place on answers of a file or none
abbrev pub part_of_file : ℕ → ℕ → Option (List ℕ) → Read
part_of_file at most None = Failed
part_of_file at most (Some file) = if nat_le (length file) at then End else Bytes (min most (length file - at))

-- what a read of a name from a place on into a buffer of this length answers
abbrev pub read_answer : MemoryShelf → List ℕ → ℕ → ℕ → Read
read_answer shelf name at len =
    if is_listed shelf.failing (next shelf.reads)
    then Failed
    else part_of_file at (min shelf.chunk len) (first_named name shelf.files)

-- the count of reads of names that are not held, after one of a name with this file or none
abbrev pub unheld_after : ℕ → Option (List ℕ) → ℕ
unheld_after unheld (Some file) = unheld
unheld_after unheld None = next unheld

-- the count of reads that failed as they were to, after one that was to fail or not
abbrev pub listed_after : ℕ → Bool → ℕ
listed_after listed true = next listed
listed_after listed false = listed

-- the shelf after a read of a name
abbrev pub after_read : MemoryShelf → List ℕ → MemoryShelf
after_read shelf name =
    record shelf {
      reads = next shelf.reads;
      listed = listed_after shelf.listed (is_listed shelf.failing (next shelf.reads));
      unheld = unheld_after shelf.unheld (first_named name shelf.files);
    }
