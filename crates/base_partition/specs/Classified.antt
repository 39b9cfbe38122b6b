-- What `classes` answers: the classes of a model, or the first rule of classes that the model breaks. MLS 3.6, chapter 16, "Base-Clock Partitioning", in this project's profile; the order of the rules is this project's own.
use Rattle.std.specs.Prelude.{◌≡◌, ℕ, ◌==◌, Bool, true, false, ◌&&◌, List, Some, Result, Ok, Err, slice_get}
use Rattle.std.specs.List.{list_any, filter}
use Rattle.flat_model.specs.declared.model.FlatModel.{FlatModel}
use Rattle.flat_model.specs.declared.place.Place.{Place}
use Rattle.clock_terms.specs.declared.data.Classes.{Classes}
use Rattle.clock_terms.specs.declared.data.Constructor.{Constructor}
use Rattle.clock_terms.specs.Classing.{AreClassesOf, HasMark, class_in, is_clocked, partition_in}
use Rattle.clock_terms.specs.Least.{IsLeast}
use Rattle.clock_terms.specs.Listed.{constructors_of}
use Rattle.clock_terms.specs.Said.{IsMarkedClocked, IsMarkedUnclocked}
use Rattle.clock_terms.specs.Source.{Kind, Inferred, Every, AtSite, Other, kind_of}
use Rattle.base_partition.specs.declared.kinds.ClassEnd.{ClassEnd}
use Rattle.base_partition.specs.declared.kinds.ClassEnd.TheVariants as end

-- a class has both marks
abbrev pub IsMixed : FlatModel → Classes → ℕ → Type 0
IsMixed model classes c = HasMark model (IsMarkedClocked model) (class_in classes) c × HasMark model (IsMarkedUnclocked model) (class_in classes) c

abbrev pub NoneMixed : FlatModel → Classes → Type 0
NoneMixed model classes = (c : ℕ) → IsMixed model classes c → ⊥

abbrev pub gives_clock : Kind → Bool
gives_clock (Every counter resolution) = true
gives_clock AtSite = true
gives_clock Inferred = false
gives_clock Other = false

abbrev pub gives_site : Kind → Bool
gives_site AtSite = true
gives_site (Every counter resolution) = false
gives_site Inferred = false
gives_site Other = false

-- a constructor that is not inferred
abbrev pub is_source : Constructor → Bool
is_source constructor = gives_clock (kind_of constructor.clock)

-- an event constructor
abbrev pub is_event : Constructor → Bool
is_event constructor = gives_site (kind_of constructor.clock)

-- a constructor stands in a clocked class of base partition p
abbrev pub stands_in : Classes → ℕ → Constructor → Bool
stands_in classes p constructor =
    is_clocked classes (class_in classes constructor.node) && (partition_in classes (class_in classes constructor.node) == p)

-- those of base partition p that are not inferred, in their order
abbrev pub sources_in : Classes → ℕ → List Constructor → List Constructor
sources_in classes p constructors = filter (λ constructor. is_source constructor && stands_in classes p constructor) constructors

-- base partition p has an event constructor and another one that is not inferred, and the second of these is of equation e
pub record IsSecondOf (classes : Classes) (constructors : List Constructor) (p e : ℕ) : Type 0 where
  pub event : list_any is_event (sources_in classes p constructors) ≡ true
  pub second : Constructor
  pub is_second : slice_get (sources_in classes p constructors) 1 ≡ Some second
  pub equation : second.equation ≡ e

-- some base partition has them
abbrev pub IsBaseMixed : FlatModel → Classes → ℕ → Type 0
IsBaseMixed model classes e = (p : ℕ) × IsSecondOf classes (constructors_of model) p e

abbrev pub NoneBaseMixed : FlatModel → Classes → Type 0
NoneBaseMixed model classes = (e : ℕ) → IsBaseMixed model classes e → ⊥

-- no class has both marks, and no base partition has an event constructor and another one
pub record AreApart (model : FlatModel) (classes : Classes) : Type 0 where
  pub are : AreClassesOf model classes
  pub classes_apart : NoneMixed model classes
  pub bases_apart : NoneBaseMixed model classes

-- the least class with both marks is at this place
pub record IsMixedAt (model : FlatModel) (place : Place) : Type 0 where
  pub classes : Classes
  pub are : AreClassesOf model classes
  pub class : ℕ
  pub least : IsLeast (IsMixed model classes) class
  pub is_place : slice_get classes.places class ≡ Some place

-- no class has both marks, and the least equation of a second constructor is this one
pub record IsBaseMixedAt (model : FlatModel) (equation : ℕ) : Type 0 where
  pub classes : Classes
  pub are : AreClassesOf model classes
  pub classes_apart : NoneMixed model classes
  pub least : IsLeast (IsBaseMixed model classes) equation

-- the answer for a model; want of memory may come at any
abbrev pub Classifies : FlatModel → Result Classes ClassEnd → Type 0
Classifies model (Ok classes) = AreApart model classes
Classifies model (Err (end.Mixed place)) = IsMixedAt model place
Classifies model (Err (end.BaseMixed equation)) = IsBaseMixedAt model equation
Classifies model (Err end.NoMemory) = Unit {0}
