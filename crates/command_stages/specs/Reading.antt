-- Files that are read in the midst of a call. This project's own.
use Rattle.std.specs.Prelude.{◌≡◌, ◌≤◌, ℕ, Bool, List, Option, option_map}
use Rattle.std.specs.Borrow.{Bor}
use Rattle.outside_io.specs.Files.{Files}
use Rattle.command_answer.specs.Calls.{Outside}

-- reads change no file, nor how names without one are read, and no count of faults falls
pub record KeepsShelf (held held' : Option Files) (empty empty' : Bool) (faults faults' : List ℕ → ℕ) : Type 0 where
  pub holds : held' ≡ held
  pub flag : empty' ≡ empty
  pub counts : (name : List ℕ) → faults name ≤ faults' name

-- a step of a call: the files are known as at its start, and each count lies between those before and after the call
pub record IsStepOf (o : Outside) (held : Option Files) (empty : Bool) (before after : List ℕ → ℕ) : Type 0 where
  pub holds : held ≡ o.held
  pub flag : empty ≡ o.empty
  pub since : (name : List ℕ) → o.faults name ≤ before name
  pub until : (name : List ℕ) → after name ≤ o.faults_after name

-- a name that may be given, as its bytes
abbrev pub name_of : Option (Bor (List ℕ)) → Option (List ℕ)
name_of given = option_map (λ (name : Bor (List ℕ)). name.now) given
