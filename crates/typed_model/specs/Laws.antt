-- Laws of the typed model of a raw one.
use Rattle.std.specs.Prelude.{◌≡◌, Some, All}
use Rattle.flat_model.specs.declared.equation.Equation.{Equation}
use Rattle.flat_model.specs.declared.equation.Equation.TheVariants.{Valued, Clocks}
use Rattle.flat_model.specs.declared.model.FlatModel.{FlatModel}
use Rattle.flat_model.specs.declared.model.NameKind.{NameKind}
use Rattle.flat_model.specs.declared.raw.RawModel.{RawModel}
use Rattle.flat_model.specs.Models.{IsModel}
use Rattle.flat_model.specs.RawModels.{IsRawModel}
use Rattle.flat_model.specs.Typing.{Types, types_in, type_of}
use Rattle.flat_types.specs.Typed.{IsTypedAs}

-- the typed model is a flat model
abbrev pub ModelLaw : Type 0
ModelLaw = (raw : RawModel) (flat : FlatModel) → IsRawModel raw → IsTypedAs raw flat → IsModel flat

-- both sides of an equation between values have one type
abbrev pub HasOneType : Types → Equation → Type 0
HasOneType types (Valued left right clause) = (type : NameKind) × (type_of types left ≡ Some type) × (type_of types right ≡ Some type)
HasOneType types (Clocks left right clause) = Unit {0}

-- so it is in each equation of the typed model
abbrev pub SidesLaw : Type 0
SidesLaw = (raw : RawModel) (flat : FlatModel) → IsRawModel raw → IsTypedAs raw flat → All (HasOneType (types_in flat.names)) flat.equations
