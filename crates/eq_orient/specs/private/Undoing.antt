-- What the steps of solving an equation answer: operations undone, and parts beside the way checked.
use Rattle.std.specs.Prelude.{◌≡◌, ℕ, ℤ, true, List, [], ◌∷◌, Result, Ok, Err}
use Rattle.sync_values.specs.declared.value.Value.{Value}
use Rattle.sync_values.specs.declared.value.Value.TheVariants as value
use Rattle.sync_values.specs.declared.value.ChainOp.{ChainOp}
use Rattle.sync_values.specs.declared.value.Fail.{Fail}
use Rattle.sync_values.specs.declared.value.Fail.TheVariants.{TooLarge}
use Rattle.flat_model.specs.declared.expression.Expr.{Expr}
use Rattle.flat_model.specs.Operators.{Answer, Is, Fails, Absent, chain}
use Rattle.flat_model.specs.Views.{Views}
use Rattle.flat_model.specs.Meaning.{value_of, seen_by}
use Rattle.flat_model.specs.Occurrences.{bare_count, is_reached}
use Rattle.flat_model.specs.Samples.{samples_are_plain}
use Rattle.flat_model.specs.Ways.{way_to, kind_of}
use Rattle.eq_orient.specs.Solving.{Fits, with_now, is_formed}

-- a number as a value, where it has come out
abbrev pub whole_of : Result ℤ Fail → Result Value Fail → Type 0
whole_of (Ok z) result = result ≡ Ok (value.Int z)
whole_of (Err kind) result = result ≡ Err kind

-- an answer that is no value, or one of 64 bits
abbrev pub AnswerFits : Answer → Type 0
AnswerFits (Is v) = Fits v
AnswerFits (Fails kind) = Unit {0}
AnswerFits Absent = Unit {0}

-- an expression has a value
abbrev pub HasValue : Views → Expr → Type 0
HasValue views expr = (v : Value) × (value_of expr views ≡ Is v)

-- what an expression is with each value of a name
abbrev pub answers_by : ℕ → Expr → Views → Value → Answer
answers_by x expr views v = value_of expr (with_now x v views)

-- the only answer of 64 bits from which an operation gives the target; or there is none
abbrev pub UndoneBy : (Answer → Answer) → Value → Result Value Fail → Type 0
UndoneBy operation target (Ok t) = Fits t × (operation (Is t) ≡ Is target) × ((a : Answer) → AnswerFits a → operation a ≡ Is target → a ≡ Is t)
UndoneBy operation target (Err kind) = (kind ≡ TooLarge) × ((a : Answer) → AnswerFits a → operation a ≡ Is target → ⊥)

-- the only value of 64 bits with which something is the target; or there is none
abbrev pub Undoes : (Value → Answer) → Value → Result Value Fail → Type 0
Undoes answer target (Ok v) = Fits v × (answer v ≡ Is target) × ((w : Value) → Fits w → answer w ≡ Is target → w ≡ v)
Undoes answer target (Err kind) = (kind ≡ TooLarge) × ((w : Value) → Fits w → answer w ≡ Is target → ⊥)

-- answers that are all values
abbrev pub AreValues : List Answer → Type 0
AreValues [] = Unit {0}
AreValues (a ∷ rest) = ((v : Value) × (a ≡ Is v)) × AreValues rest

-- what stands in a chain before a part, as one answer; none where nothing stands there
abbrev pub front_of : List ChainOp → List Answer → List Answer
front_of ops [] = []
front_of ops (first ∷ rest) = chain ops (first ∷ rest) ∷ []

-- an expression on the way to a name
pub record IsOnWay (x : ℕ) (e : Expr) : Type 0 where
  pub formed : is_formed e ≡ true
  pub reached : is_reached x e ≡ true
  pub once : bare_count x e ≡ 1
  pub plain : samples_are_plain e ≡ true

-- the answers of the parts beside the way
abbrev pub beside : ℕ → Expr → Views → List Answer
beside x e views = seen_by views (way_to x e).beside

-- answers are all values; or the first that is none fails so
abbrev pub ChecksAll : List Answer → Result (Unit {0}) Fail → Type 0
ChecksAll parts (Ok done) = AreValues parts
ChecksAll parts (Err kind) = (kind ≡ kind_of parts) × (AreValues parts → ⊥)

-- the parts beside the way have values; or the first that has none fails so, and then the expression has no value, whatever the name's is
abbrev pub Checks : ℕ → Expr → Views → Result (Unit {0}) Fail → Type 0
Checks x e views (Ok done) = AreValues (beside x e views)
Checks x e views (Err kind) = ChecksAll (beside x e views) (Err kind) × ((w v : Value) → value_of e (with_now x w views) ≡ Is v → ⊥)
