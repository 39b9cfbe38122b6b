-- What an equation reads now, for which names it is solvable, and which equation reaches which name. This project's own.
use Rattle.std.specs.Prelude.{◌≡◌, ◌≢◌, ℕ, ◌+◌, ◌<◌, ◌⊎◌, true, false, List, [], ◌∷◌, ◌++◌, Option, Some, slice_get, map, Contains}
use Rattle.flat_model.specs.declared.clock.Clock.{Clock}
use Rattle.flat_model.specs.declared.clock.Clock.TheVariants.{Event}
use Rattle.flat_model.specs.declared.expression.Expr.{Expr}
use Rattle.flat_model.specs.declared.equation.Equation.{Equation}
use Rattle.flat_model.specs.declared.equation.Equation.TheVariants.{Valued, Clocks}
use Rattle.flat_model.specs.declared.model.FlatName.{FlatName}
use Rattle.flat_model.specs.declared.model.NameKind.TheVariants as kind
use Rattle.flat_model.specs.Clocks.{ShareInstant}
use Rattle.flat_model.specs.Setting.{Setting, class_of_name, class_of_equation, clock_of}
use Rattle.flat_model.specs.Occurrences.{bare_count, held_count, converted_count, is_reached}

-- the clocks of two classes share an instant
abbrev pub ClassesMeet : Setting → Option ℕ → Option ℕ → Type 0
ClassesMeet s a b = (p : Clock) × (q : Clock) × (clock_of s a ≡ Some p) × (clock_of s b ≡ Some q) × ShareInstant p q

-- an expression of equation i reads name x now: bare, under `hold`, or under a conversion where their clocks share an instant
abbrev pub ReadsIn : Setting → ℕ → Expr → ℕ → Type 0
ReadsIn s i e x =
    (0 < bare_count x e) ⊎ (0 < held_count x e) ⊎ ((0 < converted_count x e) × ClassesMeet s (class_of_equation s i) (class_of_name s x))

-- a side of equation i reads x now
abbrev pub EquationReads : Setting → ℕ → Equation → ℕ → Type 0
EquationReads s i (Valued left right clause) x = ReadsIn s i left x ⊎ ReadsIn s i right x
EquationReads s i (Clocks left right clause) x = ⊥

abbrev pub Reads : Setting → ℕ → ℕ → Type 0
Reads s i x = (equation : Equation) × (slice_get s.model.equations i ≡ Some equation) × EquationReads s i equation x

-- how often a name stands in an expression, bare or as an argument of `hold` or a conversion
abbrev pub occurrences : ℕ → Expr → ℕ
occurrences x e = bare_count x e + held_count x e + converted_count x e

-- an equation is solvable for a name that stands in it once, bare, and is reached from the root of one side
abbrev pub IsSolvableFor : ℕ → Equation → Type 0
IsSolvableFor x (Valued left right clause) =
    (occurrences x left + occurrences x right ≡ 1) × ((is_reached x left ≡ true) ⊎ (is_reached x right ≡ true))
IsSolvableFor x (Clocks left right clause) = ⊥

-- a use: this equation reaches this name
pub record Use : Type 0 where
  pub equation : ℕ
  pub name : ℕ

abbrev pub used_equations : List Use → List ℕ
used_equations uses = map (λ entry. entry.equation) uses

abbrev pub reached_names : List Use → List ℕ
reached_names uses = map (λ entry. entry.name) uses

-- an Integer or Boolean name that is no input and not reached by these uses
pub record IsUnreached (s : Setting) (uses : List Use) (x : ℕ) : Type 0 where
  pub name : FlatName
  pub found : slice_get s.model.names x ≡ Some name
  pub valued : name.kind ≢ kind.Clock
  pub own : name.input ≡ false
  pub later : Contains (reached_names uses) x → ⊥

-- behind these uses, equation i reads exactly one unreached name, x, and is solvable for it
pub record CanReach (s : Setting) (uses : List Use) (i x : ℕ) : Type 0 where
  pub equation : Equation
  pub found : slice_get s.model.equations i ≡ Some equation
  pub unused : Contains (used_equations uses) i → ⊥
  pub reads : EquationReads s i equation x
  pub unreached : IsUnreached s uses x
  pub only : (y : ℕ) → EquationReads s i equation y → IsUnreached s uses y → y ≡ x
  pub solvable : IsSolvableFor x equation

-- the next use: the first equation that can reach a name
pub record IsNextUse (s : Setting) (uses : List Use) (entry : Use) : Type 0 where
  pub reaches : CanReach s uses entry.equation entry.name
  pub first : (j y : ℕ) → j < entry.equation → CanReach s uses j y → ⊥

-- the uses that follow these, to the end, where no equation can reach a name
abbrev pub AreUsesAfter : Setting → List Use → List Use → Type 0
AreUsesAfter s uses [] = (i x : ℕ) → CanReach s uses i x → ⊥
AreUsesAfter s uses (entry ∷ rest) = IsNextUse s uses entry × AreUsesAfter s (uses ++ entry ∷ []) rest

-- all uses of a model, in order
abbrev pub AreUses : Setting → List Use → Type 0
AreUses s uses = AreUsesAfter s [] uses

-- the condition of a class's site, where its clock is an Event clock, reads y
abbrev pub SiteReads : Setting → Option ℕ → ℕ → Type 0
SiteReads s class y = (site : ℕ) × (factor : ℕ) × (shift : ℕ) × (condition : Expr) × (clock_of s class ≡ Some (Event site factor shift))
    × (slice_get s.clocking.sites site ≡ Some condition) × (0 < bare_count y condition)
