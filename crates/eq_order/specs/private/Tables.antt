-- What the lists of names and the flags hold for a model.
use Rattle.std.specs.Prelude.{◌≡◌, ℕ, ◌+◌, ◌<◌, ◌≤◌, ◌↔◌, ◌⊎◌, Bool, true, false, ◌||◌, ◌&&◌, not, cond, [], Some, slice_get, slice_index_or, zero, suc, List, Option, Result, Ok, Err, Contains}
use Rattle.std.specs.List.Sorted.{IsStrictlyIncreasing}
use Rattle.flat_model.specs.declared.clock.Clocking.{Clocking}
use Rattle.flat_model.specs.declared.expression.Expr.{Expr}
use Rattle.flat_model.specs.declared.equation.Equation.{Equation}
use Rattle.flat_model.specs.declared.equation.Equation.TheVariants.{Valued, Clocks}
use Rattle.flat_model.specs.declared.model.FlatName.{FlatName}
use Rattle.flat_model.specs.declared.model.NameKind.{NameKind}
use Rattle.flat_model.specs.declared.model.NameKind.TheVariants as kind
use Rattle.flat_model.specs.declared.place.Place.TheVariants as place
use Rattle.flat_model.specs.Occurrences.{bare_count, held_count, converted_count}
use Rattle.flat_model.specs.Setting.{Setting, class_of_name}
use Rattle.flat_model.specs.Uses.{Reads, ClassesMeet, reached_names, used_equations, IsUnreached, CanReach}
use Rattle.flat_model.specs.Uses as uses_of_model
use Rattle.eq_order.specs.Order.{IsOwn, IsUnused, Breaks}
use Rattle.eq_orient.specs.Gathered.{count_of}
use Rattle.eq_order.specs.private.Reaching.{list_at, is_waiting}
use Rattle.eq_order.specs.declared.ends.OrderCode.TheVariants.{Q2}
use Rattle.eq_order.specs.declared.ends.OrderEnd.{OrderEnd}
use Rattle.eq_order.specs.declared.ends.OrderEnd.TheVariants.{Fault, NoMemory}

-- a name that needs no equation: an input or a Clock
abbrev pub is_clock_kind : NameKind → Bool
is_clock_kind kind.Clock = true
is_clock_kind _ = false

abbrev pub is_known : FlatName → Bool
is_known name = name.input || is_clock_kind name.kind

-- an expression on the clock of a class reads x now
abbrev pub ReadsBy : Setting → Option ℕ → Expr → ℕ → Type 0
ReadsBy s class e x = (0 < bare_count x e) ⊎ (0 < held_count x e) ⊎ ((0 < converted_count x e) × ClassesMeet s class (class_of_name s x))

-- a list has the names that an equation of a class reads now, of those that the flags leave, rising
abbrev pub IsRow : Clocking → List Bool → Option ℕ → Equation → List ℕ → Type 0
IsRow clocking reached class (Valued left right clause) row = IsStrictlyIncreasing row
    × ((s : Setting) → s.clocking ≡ clocking → (x : ℕ) → Contains row x ↔ ((is_waiting reached x ≡ true) × (ReadsBy s class left x ⊎ ReadsBy s class right x)))
IsRow clocking reached class (Clocks left right clause) row = row ≡ []

-- the list of each equation has the own names that it reads now, each once
pub record AreReads (s : Setting) (reads : List (List ℕ)) : Type 0 where
  pub sound : (i x : ℕ) → Contains (list_at reads i) x → Reads s i x × IsOwn s x
  pub whole : (i x : ℕ) → Reads s i x → IsOwn s x → Contains (list_at reads i) x
  pub once : (i x : ℕ) → count_of x (list_at reads i) ≤ 1

-- the names that these flags leave are those that the uses do not reach
abbrev pub AreFlags : Setting → List Bool → List uses_of_model.Use → Type 0
AreFlags s reached uses = (x : ℕ) → (is_waiting reached x ≡ true) ↔ IsUnreached s uses x

-- an equation that is used reads no unreached name
abbrev pub AreDone : Setting → List uses_of_model.Use → Type 0
AreDone s uses = (i x : ℕ) → Contains (used_equations uses) i → Reads s i x → IsUnreached s uses x → ⊥

-- the uses are at their end, with these flags
pub record HaveEnded (s : Setting) (reached : List Bool) (uses : List uses_of_model.Use) : Type 0 where
  pub flags : AreFlags s reached uses
  pub done : AreDone s uses
  pub ended : (i x : ℕ) → CanReach s uses i x → ⊥

-- how many numbers below n pass a test
abbrev pub count_below : (ℕ → Bool) → ℕ → ℕ
count_below p zero = 0
count_below p (suc n) = count_below p n + cond (p n) 1 0

-- an equation between values without its flag
abbrev pub is_valued : Equation → Bool
is_valued (Valued left right clause) = true
is_valued (Clocks left right clause) = false

abbrev pub is_idle : Equation → List Bool → ℕ → Bool
is_idle equation used i = is_valued equation && not (slice_index_or used i true)

abbrev pub IsIdle : List Equation → List Bool → ℕ → Type 0
IsIdle equations used i = (equation : Equation) × (slice_get equations i ≡ Some equation) × (is_idle equation used i ≡ true)

-- the end at a name: the rule of names that outnumber the equations, with the name's text
abbrev pub IsAtName : List FlatName → ℕ → OrderEnd → Type 0
IsAtName names x NoMemory = Unit {0}
IsAtName names x (Fault code at) = (name : FlatName) × (slice_get names x ≡ Some name) × (code ≡ Q2) × (at ≡ place.Name name.text)

-- no rule is broken, or this one is
abbrev pub EndsAs : Setting → List uses_of_model.Use → Result (Unit {0}) OrderEnd → Type 0
EndsAs s uses (Ok done) = ((x : ℕ) → IsUnreached s uses x → ⊥) × ((i : ℕ) → IsUnused s uses i → ⊥)
EndsAs s uses (Err (Fault code at)) = Breaks s uses code at
EndsAs s uses (Err NoMemory) = Unit {0}
