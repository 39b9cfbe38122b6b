-- Laws of the classes of a model.
use Rattle.std.specs.Prelude.{◌≡◌, ◌≢◌, Result, Err}
use Rattle.flat_model.specs.declared.model.FlatModel.{FlatModel}
use Rattle.clock_terms.specs.declared.data.Classes.{Classes}
use Rattle.clock_terms.specs.Classing.{AreClassesOf}
use Rattle.base_partition.specs.Classified.{Classifies}
use Rattle.base_partition.specs.declared.kinds.ClassEnd.{ClassEnd}
use Rattle.base_partition.specs.declared.kinds.ClassEnd.TheVariants.{NoMemory}

-- a model has one list of classes
abbrev pub ClassesOnceLaw : Type 0
ClassesOnceLaw = (model : FlatModel) (one other : Classes) → AreClassesOf model one → AreClassesOf model other → one ≡ other

-- two answers are one, but for want of memory
abbrev pub AnswerOnceLaw : Type 0
AnswerOnceLaw = (model : FlatModel) (one other : Result Classes ClassEnd) → Classifies model one → Classifies model other → one ≢ Err NoMemory → other ≢ Err NoMemory → one ≡ other
