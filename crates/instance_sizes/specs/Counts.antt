-- What instances count: names, equations and source tokens. This project's own.
use Rattle.std.specs.Prelude.{ℕ, ◌+◌, List, length, map, filter, sum_by, Option, not, bytes_eq}
use Rattle.std.specs.List.{position_from}
use Rattle.mo_lexer.specs.declared.token.Token.{Token}
use Rattle.mo_parser.specs.declared.tree.ClassDef.{ClassDef}
use Rattle.class_scopes.specs.Spelled.{Ident}
use Rattle.flat_instances.specs.Instances.{Variable, Item, variables}
use Rattle.parameter_values.specs.Values.{is_parameter}
use Rattle.connection_equations.specs.Connections.{pairs}
use Rattle.item_sizes.specs.Items.{item_equations, item_tokens}

module _ (text : List ℕ) (classes : List ClassDef) where
  -- the names of a model are its variables but parameters and constants, in flat order
  abbrev pub named : List Item → List Variable
  named all = filter (λ v. not (is_parameter v)) (variables text classes all)

  -- the number of a flat name among them
  abbrev pub number_in : List Item → Ident → Option ℕ
  number_in all name = position_from (bytes_eq name) 0 (map (λ v. v.name) (named all))

  -- the equations of instances; each pair of members that a connect joins counts as one
  abbrev pub equation_count : List Item → ℕ
  equation_count all = sum_by (item_equations text classes) all + length (pairs text classes (number_in all) all)

  -- the tokens of instances
  abbrev pub token_count : List Token → List Item → ℕ
  token_count tokens all = sum_by (item_tokens text classes tokens) all
