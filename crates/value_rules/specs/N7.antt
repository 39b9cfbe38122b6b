-- N7: a value that is needed is not given, though all parameters that its expression reads have values. This project's own code.
use Rattle.std.specs.Prelude.{◌≡◌, ℕ, List, slice_get, Some, None, true}
use Rattle.mo_parser.specs.declared.tree.ClassDef.{ClassDef}
use Rattle.class_scopes.specs.Types.{kind_of}
use Rattle.flat_instances.specs.Instances.{Placed, Variable}
use Rattle.parameter_values.specs.Values.{Values, AreValues, is_parameter, value_expr, value_from, start_from, zero_of}
use Rattle.value_rules.specs.N6.{Misses}

module _ (text : List ℕ) (classes : List ClassDef) (all : List Variable) where
  -- a variable needs the value of an expression, of its start or of its own where it is a parameter, and there is none
  pub data Lacks (values : Values) (v : Variable) : Placed → Type 0 where
    start : (placed : Placed) → v.start ≡ Some placed → start_from text classes values v ≡ None → Lacks values v placed
    own : (placed : Placed) → is_parameter v ≡ true → value_expr text classes v ≡ Some placed → value_from text classes values v ≡ None → Lacks values v placed

  -- a variable lacks the value of an expression, which misses no value of a parameter
  pub record FailsAt (values : Values) (x : ℕ) : Type 0 where
    pub v : Variable
    pub expr : Placed
    pub stands : slice_get all x ≡ Some v
    pub lacks : Lacks values v expr
    pub reads : (y : ℕ) → Misses text classes all values expr y → ⊥

  -- the variables that break the rule, by their numbers in flat order
  abbrev pub Breaks : ℕ → Type 0
  Breaks x = (values : Values) × AreValues text classes all values × FailsAt values x

  -- the parameters and constants are of type Integer or Boolean
  abbrev pub AreTyped : Type 0
  AreTyped = (x : ℕ) (v : Variable) → slice_get all x ≡ Some v → is_parameter v ≡ true → zero_of (kind_of text classes v.type) ≡ None → ⊥

  -- each variable has all values that it needs
  abbrev pub HasAll : Values → Type 0
  HasAll values = (x : ℕ) (v : Variable) (placed : Placed) → slice_get all x ≡ Some v → Lacks values v placed → ⊥
