-- N6: the value of a parameter, a constant or a start depends on itself. This project's own code.
use Rattle.std.specs.Prelude.{◌≡◌, ℕ, List, map, filter, slice_get, Contains, Option, Some, None, false, bytes_eq}
use Rattle.std.specs.List.{position_from}
use Rattle.mo_parser.specs.declared.tree.ClassDef.{ClassDef}
use Rattle.mo_parser.specs.declared.tree.Path.{Path}
use Rattle.class_scopes.specs.Spelled.{Ident, idents, is_time}
use Rattle.scope_names.specs.Written.{names_in}
use Rattle.flat_instances.specs.Instances.{Placed, Variable}
use Rattle.parameter_values.specs.Values.{Values, AreValues, flat_name, is_parameter, value_expr, value_from}

module _ (text : List ℕ) (classes : List ClassDef) (all : List Variable) where
  -- the parameters and constants, in flat order
  abbrev pub parameters : List Variable
  parameters = filter is_parameter all

  -- the number of the parameter that a flat name stands for
  abbrev pub number_named : Ident → Option ℕ
  number_named name = position_from (bytes_eq name) 0 (map (λ v. v.name) parameters)

  -- an expression reads a parameter, as it is written, and that has no value
  pub record Misses (values : Values) (placed : Placed) (y : ℕ) : Type 0 where
    pub path : Path
    pub written : Contains (names_in placed.expr) path
    pub declared : is_time (idents text path) ≡ false
    pub number : number_named (flat_name text classes placed.scope (idents text path)) ≡ Some y
    pub none : values (flat_name text classes placed.scope (idents text path)) ≡ None

  -- a parameter has no value, and the expression of its value misses that of another
  pub record WaitsFor (values : Values) (x y : ℕ) : Type 0 where
    pub one : Variable
    pub expr : Placed
    pub stands : slice_get parameters x ≡ Some one
    pub valued : value_expr text classes one ≡ Some expr
    pub none : value_from text classes values one ≡ None
    pub misses : Misses values expr y

  -- a chain of such steps leads from a parameter to a parameter
  pub data Waits (values : Values) : ℕ → ℕ → Type 0 where
    directly : (x y : ℕ) → WaitsFor values x y → Waits values x y
    through : (x y z : ℕ) → WaitsFor values x y → Waits values y z → Waits values x z

  -- the parameters that break the rule, by their numbers among the parameters
  abbrev pub Breaks : ℕ → Type 0
  Breaks x = (values : Values) × AreValues text classes all values × Waits values x x
