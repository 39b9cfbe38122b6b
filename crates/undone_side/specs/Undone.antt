-- What a name is by an equation in which it stands in sums, behind `-` or `not`: the operators on the way to it, undone.
use Rattle.std.specs.Prelude.{◌≡◌, ℕ, ◌+◌, ◌⊎◌, Bool, true, false, List, [], ◌∷◌, ◌++◌, length, map, reverse, Option, Some, Ok}
use Rattle.sync_values.specs.declared.value.Value.{Value}
use Rattle.sync_values.specs.declared.value.ChainOp.{ChainOp}
use Rattle.sync_values.specs.declared.value.ChainOp.TheVariants.{Plus, Minus}
use Rattle.flat_model.specs.declared.expression.Expr.{Expr}
use Rattle.flat_model.specs.declared.expression.Expr.TheVariants.{Read, Chain, Neg, Not}
use Rattle.flat_model.specs.declared.equation.Equation.{Equation}
use Rattle.flat_model.specs.declared.equation.Equation.TheVariants.{Valued, Clocks}
use Rattle.flat_model.specs.declared.model.NameKind.{NameKind}
use Rattle.flat_model.specs.Asks.{Asking, OfNow, asked, AsksFor}
use Rattle.flat_model.specs.Meaning.{value_of}
use Rattle.flat_model.specs.Occurrences.{bare_count, is_reached}
use Rattle.flat_model.specs.Operators.{Is}
use Rattle.flat_model.specs.Samples.{samples_are_plain}
use Rattle.flat_model.specs.Typing.{Types, valued_type, type_of}
use Rattle.flat_model.specs.Views.{Views}
use Rattle.eq_orient.specs.Solving.{Fits, AreWellMade, Solves}
use Rattle.eq_orient.specs.Spine.{IsSpineOf}

-- the operator that undoes one of a sum
abbrev pub inverse : ChainOp → ChainOp
inverse Plus = Minus
inverse Minus = Plus
inverse op = op

-- what is left of a sum without its last parts, which are undone from the last one on
abbrev pub without_back : Expr → List ChainOp → List Expr → Expr
without_back whole ops [] = whole
without_back whole ops (part ∷ parts) = Chain (whole ∷ reverse (part ∷ parts)) (reverse (map inverse ops))

-- the first parts of a sum
abbrev pub front_part : List Expr → List ChainOp → Expr
front_part (part ∷ []) ops = part
front_part parts ops = Chain parts ops

-- one expression less another
abbrev pub difference : Expr → Expr → Expr
difference left right = Chain (left ∷ (right ∷ [])) (Minus ∷ [])

-- what is left of a sum without its first parts, behind which this operator stands
abbrev pub without_front : ChainOp → Expr → Expr → Expr
without_front Minus front whole = difference front whole
without_front op front whole = difference whole front

-- where an expression is equal to `whole`, the name x in it is equal to `side`
pub data UndoesTo (x : ℕ) : Expr → Expr → Expr → Type 0 where
  own : (e side : Expr) → e ≡ Read x → UndoesTo x e side side
  negation : (e part whole side : Expr) → e ≡ Neg part → UndoesTo x part (Neg whole) side → UndoesTo x e whole side
  inversion : (e part whole side : Expr) → e ≡ Not part → UndoesTo x part (Not whole) side → UndoesTo x e whole side
  first : (e part : Expr) (back : List Expr) (ops : List ChainOp) (whole side : Expr) → e ≡ Chain (part ∷ back) ops → is_reached x part ≡ true → length ops ≡ length back
      → UndoesTo x part (without_back whole ops back) side → UndoesTo x e whole side
  later : (e : Expr) (front : List Expr) (part : Expr) (back : List Expr) (ahead : List ChainOp) (op : ChainOp) (behind : List ChainOp) (whole side : Expr)
      → e ≡ Chain (front ++ part ∷ back) (ahead ++ op ∷ behind) → is_reached x part ≡ true → length front ≡ length ahead + 1 → length behind ≡ length back
      → UndoesTo x part (without_front op (front_part front ahead) (without_back whole behind back)) side → UndoesTo x e whole side

-- the side of an equation that is solved for a name: what the name is by the other side and the operators on the way to it
abbrev pub IsSolvedSide : ℕ → Equation → Expr → Type 0
IsSolvedSide x (Valued left right clause) side =
    (IsSpineOf x (Valued left right clause) true × UndoesTo x left right side) ⊎ (IsSpineOf x (Valued left right clause) false × UndoesTo x right left side)
IsSolvedSide x (Clocks left right clause) side = ⊥

-- an equation cannot be solved for a name, or is not well made
abbrev pub IsUnsolved : ℕ → Equation → Type 0
IsUnsolved x equation = AreWellMade equation → (left : Bool) → IsSpineOf x equation left → ⊥

-- the value of an expression, where it has one, has 64 bits
abbrev pub IsFitting : Views → Expr → Type 0
IsFitting views e = (v : Value) → value_of e views ≡ Is v → Fits v

-- the law of a side that is solved for a name: where it has a value over views in which the sides of the equation fit, this is the solution
abbrev pub UndoneLaw : Type 0
UndoneLaw = (x : ℕ) (left right : Expr) (clause : Option ℕ) (side : Expr) → IsSolvedSide x (Valued left right clause) side → AreWellMade (Valued left right clause)
    → (views : Views) → (bare_count x left ≡ 0 → IsFitting views left) → (bare_count x right ≡ 0 → IsFitting views right) → (v : Value) → value_of side views ≡ Is v → Solves x (Valued left right clause) views (Ok v)

-- what the side that is solved for a name has of the equation: its type is the name's, what stands in its samples may do so, and it asks for what the equation asks for, but not for the name
pub record IsSideKnown (types : Types) (x : ℕ) (left right side : Expr) : Type 0 where
  pub type : NameKind
  pub side_type : type_of types side ≡ Some type
  pub name_type : valued_type (types x) ≡ Some type
  pub plain : samples_are_plain side ≡ true
  pub asks : (d : ℕ) (q : Asking) → AsksFor side d q → AsksFor left d q ⊎ AsksFor right d q
  pub other : asked side 0 (OfNow x) ≡ 0

-- the law of such a side
abbrev pub KnownLaw : Type 0
KnownLaw = (types : Types) (x : ℕ) (left right : Expr) (clause : Option ℕ) (side : Expr) → IsSolvedSide x (Valued left right clause) side → AreWellMade (Valued left right clause)
    → (type : NameKind) → type_of types left ≡ Some type → type_of types right ≡ Some type → IsSideKnown types x left right side
