-- The parts of a flat model, from all that the instances of its class have.
use Rattle.std.specs.Prelude.{◌≡◌, ℕ, ◌<◌, ◌≤◌, ◌^◌, List, ◌++◌, length, Some}
use Rattle.std.specs.List.{AllZip}
use Rattle.flat_model.specs.declared.raw.RawEq.{RawEq}
use Rattle.flat_model.specs.declared.raw.RawModel.{RawModel}
use Rattle.scope_names.specs.declared.scopes.Scopes.{Scopes}
use Rattle.flat_instances.specs.Instances.{Item, Variable, variables}
use Rattle.parameter_values.specs.Values.{Values}
use Rattle.flat_expressions.specs.Equations.{groups, equations_from, clocks_of}
use Rattle.flat_expressions.specs.Expressions.{NumberOf}
use Rattle.flat_expressions.specs.declared.items.Lowered.{Lowered}
use Rattle.connection_equations.specs.Connections.{pairs}
use Rattle.connection_equations.specs.Sets.{AreEquations}
use Rattle.flat_answer.specs.Flat.{IsNameOf}
use Rattle.flat_answer.specs.Model.{plain, number_in}
use Rattle.flat_model.specs.Models.{size_limit}

module _ (scopes : Scopes) (items : List Item) where
  abbrev pub named : List Variable
  named = plain (variables scopes.named.file.text.now scopes.named.file.classes.now items)

  -- there are at most 65,536 names
  abbrev pub HasFewNames : Type 0
  HasFewNames = length named ≤ size_limit

  -- the clauses can be counted in 32 bits
  abbrev pub HasFewClauses : Type 0
  HasFewClauses = (values : Values) (number : NumberOf) → length (clocks_of (groups scopes.named.file.text.now values number scopes.named.file.classes.now items)) < 2 ^ 32

  module _ (values : Values) where
    -- the equations and clauses of the items, without those of connections
    pub record IsLowered (number : NumberOf) (lowered : Lowered) : Type 0 where
      pub equations : lowered.equations ≡ equations_from 0 (groups scopes.named.file.text.now values number scopes.named.file.classes.now items)
      pub clauses : lowered.clauses ≡ clocks_of (groups scopes.named.file.text.now values number scopes.named.file.classes.now items)

    -- the flat model of the items
    pub record IsModelOf (model : RawModel) : Type 0 where
      pub names : AllZip (IsNameOf scopes.named.file.text.now scopes.named.file.classes.now (Some scopes.named.chosen) values) named model.names
      pub connections : List RawEq
      pub connected : AreEquations (length named) (pairs scopes.named.file.text.now scopes.named.file.classes.now (number_in named) items) connections
      pub equations : model.equations ≡ equations_from 0 (groups scopes.named.file.text.now values (number_in named) scopes.named.file.classes.now items) ++ connections
      pub clauses : model.clauses ≡ clocks_of (groups scopes.named.file.text.now values (number_in named) scopes.named.file.classes.now items)
