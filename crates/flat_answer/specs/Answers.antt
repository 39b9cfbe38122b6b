-- What flattening answers.
use Rattle.std.specs.Prelude.{◌≡◌, ◌≢◌, ℕ, List, slice_get, Option, Result, Ok, Err, ⊤}
use Rattle.mo_parser.specs.declared.tree.ClassDef.{ClassDef}
use Rattle.flat_model.specs.declared.place.Place.{Place}
use Rattle.flat_model.specs.declared.raw.RawModel.{RawModel}
use Rattle.class_scopes.specs.declared.end.NameCode.{NameCode}
use Rattle.class_scopes.specs.declared.end.NameCode.TheVariants as code
use Rattle.flat_instances.specs.Instances.{Variable}
use Rattle.flat_answer.specs.declared.end.FlattenEnd.{FlattenEnd}
use Rattle.flat_answer.specs.declared.end.FlattenEnd.TheVariants.{Fault, NoMemory}
use Rattle.flat_answer.specs.Broken.{KeepsAll, IsFirst}
use Rattle.flat_answer.specs.Flat.{IsFlat}
use Rattle.flat_answer.specs.Model.{variables_of}
use Rattle.flat_answer.specs.Places.{place_at, name_of}
use Rattle.value_rules.specs.N6.{parameters}

-- a place as it is told, by the variables of the instances
abbrev pub told_among : List ℕ → List ClassDef → List Variable → NameCode → ℕ → Place
told_among text classes all code.N6 x = name_of (slice_get (parameters text classes all) x)
told_among text classes all code.N7 x = name_of (slice_get all x)
told_among text classes all _ at = place_at text at

module _ (text : List ℕ) (classes : List ClassDef) (chosen : Option ℕ) where
  abbrev pub told : NameCode → ℕ → Place
  told code at = told_among text classes (variables_of text classes chosen) code at

  -- the flat model where no rule is broken, and else the first broken rule; want of memory is a free answer
  abbrev pub Answers : Result RawModel FlattenEnd → Type 0
  Answers (Ok model) = KeepsAll text classes chosen × IsFlat text classes chosen model
  Answers (Err (Fault code place)) = (at : ℕ) × IsFirst text classes chosen code at × (place ≡ told code at)
  Answers (Err NoMemory) = ⊤

-- only one answer is right for a choice of a class, but want of memory
abbrev pub OneAnswerLaw : Type 0
OneAnswerLaw = (text : List ℕ) (classes : List ClassDef) (chosen : Option ℕ) (a b : Result RawModel FlattenEnd) → Answers text classes chosen a → Answers text classes chosen b
    → a ≢ Err NoMemory → b ≢ Err NoMemory → a ≡ b
