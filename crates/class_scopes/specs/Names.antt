-- What looking up the classes and the names of a file answers.
use Rattle.std.specs.Prelude.{◌≡◌, ℕ, List, Option, Some, Result, Ok, Err, ⊤}
use Rattle.mo_parser.specs.declared.tree.ClassDef.{ClassDef}
use Rattle.class_scopes.specs.declared.end.NameCode.TheVariants.{N1, N2}
use Rattle.class_scopes.specs.declared.end.RuleEnd.{RuleEnd}
use Rattle.class_scopes.specs.declared.end.RuleEnd.TheVariants.{Broken, NoMemory}
use Rattle.class_scopes.specs.declared.named.Named.{Named}
use Rattle.class_scopes.specs.Faults.{IsFirstOf, IsKept}
use Rattle.class_scopes.specs.Reached.{AreReached}
use Rattle.class_scopes.specs.N1 as N1
use Rattle.class_scopes.specs.N2 as N2

-- the file with its chosen class and the classes that are reached from it, where N1 and N2 are kept
pub record AreNamed (text : List ℕ) (classes : List ClassDef) (choice : Option ℕ) (named : Named) : Type 0 where
  pub text_is : named.file.text.now ≡ text
  pub classes_are : named.file.classes.now ≡ classes
  pub chosen : choice ≡ Some named.chosen
  pub reached : AreReached text classes named.chosen named.reached.items
  pub types : IsKept (N1.Breaks text classes choice)
  pub names : IsKept (N2.Breaks text classes choice)

-- N2 is asked where N1 is kept; each is told at its first place
abbrev pub Names : List ℕ → List ClassDef → Option ℕ → Result Named RuleEnd → Type 0
Names text classes choice (Ok named) = AreNamed text classes choice named
Names text classes choice (Err (Broken N1 at)) = IsFirstOf (N1.Breaks text classes choice) at
Names text classes choice (Err (Broken N2 at)) = IsKept (N1.Breaks text classes choice) × IsFirstOf (N2.Breaks text classes choice) at
Names text classes choice (Err (Broken code at)) = ⊥
Names text classes choice (Err NoMemory) = ⊤
