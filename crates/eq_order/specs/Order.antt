-- When a model has an order of its equations, and which rule is broken where it has none. This project's own.
use Rattle.std.specs.Prelude.{◌≡◌, ◌≢◌, ℕ, ◌<◌, ◌⊎◌, false, List, [], ◌∷◌, length, take, map, Option, Some, slice_get, Contains, Result, Ok, Err}
use Rattle.std.specs.List.Sorted.{IsStrictlyIncreasing}
use Rattle.flat_model.specs.declared.expression.Expr.{Expr}
use Rattle.flat_model.specs.declared.equation.Equation.{Equation}
use Rattle.flat_model.specs.declared.equation.Equation.TheVariants.{Valued}
use Rattle.flat_model.specs.declared.model.FlatName.{FlatName}
use Rattle.flat_model.specs.declared.model.NameKind.TheVariants as kind
use Rattle.flat_model.specs.declared.place.Place.{Place}
use Rattle.flat_model.specs.declared.place.Place.TheVariants as place
use Rattle.flat_model.specs.Setting.{Setting}
use Rattle.flat_model.specs.Uses as uses_of_model
use Rattle.flat_model.specs.Uses.{EquationReads, Reads, IsSolvableFor, IsUnreached, AreUses, used_equations, reached_names}
use Rattle.eq_orient.specs.Spine.{IsSpineOf}
use Rattle.eq_order.specs.declared.uses.Use.{Use}
use Rattle.eq_order.specs.declared.ends.OrderCode.{OrderCode}
use Rattle.eq_order.specs.declared.ends.OrderCode.TheVariants.{Q1, Q2, Q3, Q4}
use Rattle.eq_order.specs.declared.ends.OrderEnd.{OrderEnd}
use Rattle.eq_order.specs.declared.ends.OrderEnd.TheVariants.{Fault, NoMemory}

-- the least number of which something holds
pub record IsLeast (P : ℕ → Type 0) (i : ℕ) : Type 0 where
  pub holds : P i
  pub least : (j : ℕ) → j < i → P j → ⊥

-- all the numbers of which something holds, rising
pub record AreAll (P : ℕ → Type 0) (xs : List ℕ) : Type 0 where
  pub rising : IsStrictlyIncreasing xs
  pub just : (x : ℕ) → Contains xs x → P x
  pub whole : (x : ℕ) → P x → Contains xs x

module _ (s : Setting) (uses : List uses_of_model.Use) where
  -- an equation between values that no use takes
  abbrev pub IsUnused : ℕ → Type 0
  IsUnused i = (left : Expr) × (right : Expr) × (clause : Option ℕ) × (slice_get s.model.equations i ≡ Some (Valued left right clause))
      × (Contains (used_equations uses) i → ⊥)

  -- an equation that reads a name that no use reaches
  abbrev pub ReadsUnreached : ℕ → Type 0
  ReadsUnreached i = (x : ℕ) × Reads s i x × IsUnreached s uses x

  -- an equation that reads just one unreached name, and is not solvable for it
  pub record IsStuck (i : ℕ) : Type 0 where
    pub equation : Equation
    pub found : slice_get s.model.equations i ≡ Some equation
    pub name : ℕ
    pub reads : EquationReads s i equation name
    pub unreached : IsUnreached s uses name
    pub only : (y : ℕ) → EquationReads s i equation y → IsUnreached s uses y → y ≡ name
    pub unsolvable : IsSolvableFor name equation → ⊥

  -- the unreached names outnumber the equations that read one
  abbrev pub AreTooFew : Type 0
  AreTooFew = (names : List ℕ) × (equations : List ℕ) × AreAll (IsUnreached s uses) names × AreAll ReadsUnreached equations
      × (length equations < length names)

  -- the broken rule, once no equation can reach a name
  abbrev pub Breaks : OrderCode → Place → Type 0
  Breaks Q1 (place.Equation i) = ((x : ℕ) → IsUnreached s uses x → ⊥) × IsLeast IsUnused i
  Breaks Q3 (place.Equation i) = IsLeast IsStuck i
  Breaks Q2 (place.Name text) = ((i : ℕ) → IsStuck i → ⊥) × AreTooFew
      × ((x : ℕ) × (name : FlatName) × IsLeast (IsUnreached s uses) x × (slice_get s.model.names x ≡ Some name) × (text ≡ name.text))
  Breaks Q4 (place.Equation i) = ((j : ℕ) → IsStuck j → ⊥) × (AreTooFew → ⊥) × IsLeast ReadsUnreached i
  Breaks _ _ = ⊥

-- the uses of an answer, as the definitions have them
abbrev pub use_of : Use → uses_of_model.Use
use_of entry = record { equation = entry.equation; name = entry.name }

-- a use has the side on which its name stands in its equation
abbrev pub HasSpine : List Equation → Use → Type 0
HasSpine equations entry = (equation : Equation) × (slice_get equations entry.equation ≡ Some equation) × IsSpineOf entry.name equation entry.spine.left

abbrev pub HaveSpines : List Equation → List Use → Type 0
HaveSpines equations [] = Unit {0}
HaveSpines equations (entry ∷ rest) = HasSpine equations entry × HaveSpines equations rest

-- all names are reached and all equations used
pub record IsOrder (s : Setting) (uses : List uses_of_model.Use) : Type 0 where
  pub uses_are : AreUses s uses
  pub reached : (x : ℕ) → IsUnreached s uses x → ⊥
  pub used : (i : ℕ) → IsUnused s uses i → ⊥

-- what `order` answers: the uses in their order, each with its side, or the rule that is broken where they end
abbrev pub Answers : Setting → Result (List Use) OrderEnd → Type 0
Answers s (Ok order) = IsOrder s (map use_of order) × HaveSpines s.model.equations order
Answers s (Err (Fault code at)) = (uses : List uses_of_model.Use) × AreUses s uses × Breaks s uses code at
Answers s (Err NoMemory) = Unit {0}

-- the law of one answer: but for want of memory, a model and its clocking have one
abbrev pub AnswerLaw : Type 0
AnswerLaw = (s : Setting) (a b : Result (List Use) OrderEnd) → Answers s a → Answers s b → (a ≡ Err NoMemory → ⊥) → (b ≡ Err NoMemory → ⊥) → a ≡ b

-- an Integer or Boolean name that is no input
abbrev pub IsOwn : Setting → ℕ → Type 0
IsOwn s x = (name : FlatName) × (slice_get s.model.names x ≡ Some name) × (name.kind ≢ kind.Clock) × (name.input ≡ false)

-- just one use, the k-th, has this
abbrev pub HasOneUse : (uses_of_model.Use → ℕ) → List uses_of_model.Use → ℕ → Type 0
HasOneUse part uses x = (k : ℕ) × (entry : uses_of_model.Use) × (slice_get uses k ≡ Some entry) × (part entry ≡ x)
    × ((j : ℕ) (other : uses_of_model.Use) → slice_get uses j ≡ Some other → part other ≡ x → j ≡ k)

-- the law of an order: each name is in one use, each valued equation in one use, and what a use reads now, but for the
-- name that it reaches, is in an earlier use where it is a name of the order
pub record IsLawful (s : Setting) (uses : List uses_of_model.Use) : Type 0 where
  pub names : (x : ℕ) → IsOwn s x → HasOneUse (λ entry. entry.name) uses x
  pub equations : (i : ℕ) (left right : Expr) (clause : Option ℕ) → slice_get s.model.equations i ≡ Some (Valued left right clause)
      → HasOneUse (λ entry. entry.equation) uses i
  pub earlier : (k : ℕ) (entry : uses_of_model.Use) → slice_get uses k ≡ Some entry → (y : ℕ) → Reads s entry.equation y → IsOwn s y
      → (y ≡ entry.name) ⊎ Contains (reached_names (take k uses)) y

abbrev pub OrderLaw : Type 0
OrderLaw = (s : Setting) (uses : List uses_of_model.Use) → IsOrder s uses → IsLawful s uses
