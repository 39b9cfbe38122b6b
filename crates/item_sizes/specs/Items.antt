-- What an item of instances counts: equations and source tokens. This project's own.
use Rattle.std.specs.Prelude.{ℕ, ◌+◌, List, Option, Some, None, Bool, if◌then◌else◌}
use Rattle.mo_lexer.specs.declared.token.Token.{Token}
use Rattle.mo_parser.specs.declared.tree.ClassDef.{ClassDef}
use Rattle.flat_instances.specs.Instances.{Placed, Item, Declared, Own}
use Rattle.parameter_values.specs.Values.{is_parameter}
use Rattle.class_sizes.specs.Equations.{own_equations}
use Rattle.class_sizes.specs.Tokens.{expr_tokens, own_tokens}

-- a binding of a variable is an equation, and one of a parameter or constant is none
abbrev pub given_equations : Option Placed → ℕ
given_equations None = 0
given_equations (Some placed) = 1

abbrev pub binding_equations : Bool → Option Placed → ℕ
binding_equations fixed binding = if fixed then 0 else given_equations binding

module _ (tokens : List Token) where
  -- what is given has the tokens of its expression
  abbrev pub given_tokens : Option Placed → ℕ
  given_tokens None = 0
  given_tokens (Some placed) = expr_tokens tokens placed.expr

  -- and two more where it is an equation: the name of the variable, and the sign behind it
  abbrev pub equation_tokens : Option Placed → ℕ
  equation_tokens None = 0
  equation_tokens (Some placed) = expr_tokens tokens placed.expr + 2

  abbrev pub binding_tokens : Bool → Option Placed → ℕ
  binding_tokens fixed binding = if fixed then given_tokens binding else equation_tokens binding

module _ (text : List ℕ) (classes : List ClassDef) where
  -- the equations of an item, without those of connections
  abbrev pub item_equations : Item → ℕ
  item_equations (Declared v) = binding_equations (is_parameter v) v.binding
  item_equations (Own scope class) = own_equations text classes class

  -- the tokens of an item: of what a variable is given, or of the own equations of a class
  abbrev pub item_tokens : List Token → Item → ℕ
  item_tokens tokens (Declared v) = binding_tokens tokens (is_parameter v) v.binding + given_tokens tokens v.start
  item_tokens tokens (Own scope class) = own_tokens text classes tokens class
