-- When the uses of a base partition have no code. This project's own.
use Rattle.std.specs.Prelude.{◌≡◌, ℕ, ◌+◌, ◌*◌, ◌≤◌, ◌^◌, Bool, true, List, [], ◌∷◌, length, Option, Some, slice_get}
use Rattle.flat_model.specs.declared.clock.ClockExpr.TheFolds.{fold-Expr}
use Rattle.flat_model.specs.declared.clock.ClockExpr.TheOpen.{Expr-F}
use Rattle.flat_model.specs.declared.equation.Equation.{Equation}
use Rattle.flat_model.specs.declared.equation.Equation.TheVariants.{Valued}
use Rattle.flat_model.specs.declared.expression.Expr.{Expr}
use Rattle.flat_model.specs.declared.model.FlatName.{FlatName}
use Rattle.flat_model.specs.declared.model.NameKind.{NameKind}
use Rattle.flat_model.specs.Samples.{samples_are_plain}
use Rattle.flat_model.specs.Typing.{types_in, type_of}
use Rattle.cell_keys.specs.declared.sight.Sight.TheVariants.{Now}
use Rattle.eq_orient.specs.Solving.{AreWellMade}
use Rattle.eq_orient.specs.Spine.{IsSpineOf}
use Rattle.part_layout.specs.Reads.{keys_read}
use Rattle.tree_step.specs.declared.taking.Entry.{Entry}
use Rattle.tree_step.specs.Starts.{IsAmong}
use Rattle.undone_side.specs.Undone.{IsUnsolved}
use Rattle.part_code.specs.Coded.{IsSideOf}

-- the equation of an entry is not there, or cannot be solved for the entry's name
abbrev pub HasNoSide : List Equation → Entry → Type 0
HasNoSide equations entry = (equation : Equation) → slice_get equations entry.equation ≡ Some equation → IsUnsolved entry.name equation

-- a side has a type, and what stands in its samples may do so
pub record IsTypedSide (names : List FlatName) (side : Expr) : Type 0 where
  pub type : NameKind
  pub typed : type_of (types_in names) side ≡ Some type
  pub plain : samples_are_plain side ≡ true

-- the sum of several numbers
abbrev pub total : List ℕ → ℕ
total [] = 0
total (n ∷ ns) = n + total ns

-- how many instructions a level of an expression needs at most with its parts: one for each value, operator and function, and two for the jumps of each branch
abbrev pub instructions_of_level : Expr-F (Unit {0}) ℕ → ℕ
instructions_of_level (Expr-F.Chain parts ops) = total parts + length parts
instructions_of_level (Expr-F.Relation rel left right) = left + right + 1
instructions_of_level (Expr-F.Neg part) = part + 1
instructions_of_level (Expr-F.Not part) = part + 1
instructions_of_level (Expr-F.If conditions branches other) = total conditions + total branches + other + 2 * length branches
instructions_of_level (Expr-F.Apply function parts) = total parts + 1
instructions_of_level (Expr-F.Sample part clock) = part
instructions_of_level _ = 1

-- the same of a whole expression
unfoldable pub most_instructions : Expr → ℕ
most_instructions = fold-Expr (Unit {0}) ℕ (λ _. tt) instructions_of_level

-- each side is what the name of its entry is
abbrev pub AreSidesOf : List Equation → List Entry → List Expr → Type 0
AreSidesOf equations [] [] = Unit {0}
AreSidesOf equations (entry ∷ entries) (side ∷ sides) = IsSideOf equations entry side × AreSidesOf equations entries sides
AreSidesOf equations _ _ = ⊥

-- how many cells and instructions entries with these sides need at most: each has a cell for its name, and those that its side reads
abbrev pub most_needed : List Entry → List Expr → ℕ
most_needed (entry ∷ entries) (side ∷ sides) = 1 + length (keys_read side entry.clock Now) + most_instructions side + most_needed entries sides
most_needed _ _ = 0

-- entries may need so many cells and instructions that these have no numbers of 32 bits
abbrev pub AreTooLarge : List Equation → List Entry → Type 0
AreTooLarge equations entries = (sides : List Expr) × AreSidesOf equations entries sides × (2 ^ 32 ≤ most_needed entries sides)

-- why entries have no code: the equation of one has no side, the side of one has no type, or they are too large
pub data HasNoCode (equations : List Equation) (names : List FlatName) (entries : List Entry) : Type 0 where
  unsolved : (entry : Entry) → IsAmong entry entries → HasNoSide equations entry → HasNoCode equations names entries
  untyped : (entry : Entry) → IsAmong entry entries → (side : Expr) → IsSideOf equations entry side → (IsTypedSide names side → ⊥) → HasNoCode equations names entries
  large : AreTooLarge equations entries → HasNoCode equations names entries

-- the equation of an entry is typed and well made, and can be solved for the entry's name
pub record IsSolvable (equations : List Equation) (names : List FlatName) (entry : Entry) : Type 0 where
  pub left : Expr
  pub right : Expr
  pub clause : Option ℕ
  pub found : slice_get equations entry.equation ≡ Some (Valued left right clause)
  pub made : AreWellMade (Valued left right clause)
  pub on_left : Bool
  pub spine : IsSpineOf entry.name (Valued left right clause) on_left
  pub type : NameKind
  pub left_typed : type_of (types_in names) left ≡ Some type
  pub right_typed : type_of (types_in names) right ≡ Some type

-- entries whose equations are all so have no code only where they are too large
abbrev pub SizeLaw : Type 0
SizeLaw = (equations : List Equation) (names : List FlatName) (entries : List Entry) → ((entry : Entry) → IsAmong entry entries → IsSolvable equations names entry) → HasNoCode equations names entries → AreTooLarge equations entries
