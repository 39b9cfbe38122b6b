-- The operators on values: the exact result, how they fail, or nothing where a part has no value.
use Rattle.std.specs.Prelude.{true, false, not, List, [], ◌∷◌, ℤ, ◌+ℤ◌, ◌-ℤ◌, ◌*ℤ◌, neg_ℤ, Option, Some, None, Result, Ok, Err}
use Rattle.sync_values.specs.Arithmetic.{fitted}
use Rattle.sync_values.specs.declared.value.Value.{Value}
use Rattle.sync_values.specs.declared.value.Value.TheVariants as value
use Rattle.sync_values.specs.declared.value.Fail.{Fail}
use Rattle.sync_values.specs.declared.value.ChainOp.{ChainOp}
use Rattle.sync_values.specs.declared.value.ChainOp.TheVariants.{Plus, Minus, Times, And, Or}
use Rattle.sync_values.specs.declared.value.Rel.{Rel}
use Rattle.sync_values.specs.Relation.{related}

-- what an expression gives at a moment: a value, its leftmost failure, or nothing where it evaluates a part that has no value
pub data Answer : Type 0 where
  Is : (v : Value) → Answer
  Fails : (kind : Fail) → Answer
  Absent : Answer

-- an exact whole number that fits, or the failure of one that does not
abbrev pub settled : Result ℤ Fail → Answer
settled (Ok z) = Is (value.Int z)
settled (Err kind) = Fails kind

-- a value that may be there
abbrev pub read : Option Value → Answer
read (Some v) = Is v
read None = Absent

-- an operator of a chain between two values; no value where they are not of its types
abbrev pub applied : ChainOp → Value → Value → Answer
applied Plus (value.Int a) (value.Int b) = settled (fitted (a +ℤ b))
applied Minus (value.Int a) (value.Int b) = settled (fitted (a -ℤ b))
applied Times (value.Int a) (value.Int b) = settled (fitted (a *ℤ b))
applied And (value.Bool a) (value.Bool b) = Is (value.Bool b)
applied Or (value.Bool a) (value.Bool b) = Is (value.Bool b)
applied _ _ _ = Absent

-- one more part of a chain, evaluated only where it is needed
abbrev pub joined : ChainOp → Answer → Answer → Answer
joined And (Is (value.Bool false)) r = Is (value.Bool false)
joined Or (Is (value.Bool true)) r = Is (value.Bool true)
joined op (Is a) (Is b) = applied op a b
joined op (Is a) r = r
joined op l r = l

-- a chain whose first parts have this answer, grouped to the left
abbrev pub chained : Answer → List ChainOp → List Answer → Answer
chained first (op ∷ ops) (part ∷ parts) = chained (joined op first part) ops parts
chained first _ _ = first

abbrev pub chain : List ChainOp → List Answer → Answer
chain ops [] = Absent
chain ops (first ∷ parts) = chained first ops parts

abbrev pub negated : Answer → Answer
negated (Is (value.Int a)) = settled (fitted (neg_ℤ a))
negated (Is (value.Bool b)) = Absent
negated other = other

abbrev pub inverted : Answer → Answer
inverted (Is (value.Bool b)) = Is (value.Bool (not b))
inverted (Is (value.Int a)) = Absent
inverted other = other

-- a relation between two values of one type
abbrev pub compared : Rel → Value → Value → Answer
compared rel (value.Int a) (value.Int b) = Is (value.Bool (related rel (value.Int a) (value.Int b)))
compared rel (value.Bool a) (value.Bool b) = Is (value.Bool (related rel (value.Bool a) (value.Bool b)))
compared rel _ _ = Absent

abbrev pub relation : Rel → Answer → Answer → Answer
relation rel (Is a) (Is b) = compared rel a b
relation rel (Is a) r = r
relation rel l r = l

-- the branch of the first condition that is true, else the last branch
abbrev pub chosen : List Answer → List Answer → Answer → Answer
chosen (Is (value.Bool true) ∷ conditions) (branch ∷ branches) other = branch
chosen (Is (value.Bool false) ∷ conditions) (branch ∷ branches) other = chosen conditions branches other
chosen (Fails kind ∷ conditions) branches other = Fails kind
chosen [] branches other = other
chosen (_ ∷ conditions) branches other = Absent
