-- That nothing of a model is lost with the items that have no part in it, what a model that is not too large has, and that no
-- call has two answers.
use Rattle.std.specs.Prelude.{◌≡◌, ℕ, ◌+◌, ◌≤◌, List, length, filter, Option, Some}
use Rattle.mo_lexer.specs.declared.token.Token.{Token}
use Rattle.mo_parser.specs.declared.tree.ClassDef.{ClassDef}
use Rattle.class_scopes.specs.Faults.{IsFirstOf, IsKept}
use Rattle.class_scopes.specs.Spelled.{Ident}
use Rattle.flat_instances.specs.Instances.{Item, instances, variables}
use Rattle.parameter_values.specs.Values.{Values}
use Rattle.flat_expressions.specs.Expressions.{NumberOf}
use Rattle.flat_expressions.specs.Equations.{groups, equations_from}
use Rattle.connection_equations.specs.Connections.{pairs}
use Rattle.flat_model.specs.Models.{size_limit}
use Rattle.instance_sizes.specs.Counts.{number_in}
use Rattle.instance_sizes.specs.Contributing.{contributes}
use Rattle.instance_sizes.specs.N10 as N10

-- the items that have a part have the variables, the equations and the pairs of all
abbrev pub SameVariablesLaw : Type 0
SameVariablesLaw = (text : List ℕ) (classes : List ClassDef) (all : List Item)
    → variables text classes (filter (contributes text classes) all) ≡ variables text classes all

abbrev pub SameGroupsLaw : Type 0
SameGroupsLaw = (text : List ℕ) (classes : List ClassDef) (values : Values) (number : NumberOf) (all : List Item)
    → groups text values number classes (filter (contributes text classes) all) ≡ groups text values number classes all

abbrev pub SamePairsLaw : Type 0
SamePairsLaw = (text : List ℕ) (classes : List ClassDef) (number : Ident → Option ℕ) (all : List Item)
    → pairs text classes number (filter (contributes text classes) all) ≡ pairs text classes number all

-- where N10 is kept, a model has at most so many names, and equations with the pairs of its connects
abbrev pub FewNamesLaw : Type 0
FewNamesLaw = (text : List ℕ) (classes : List ClassDef) (tokens : List Token) (chosen : ℕ) → IsKept (N10.Breaks text classes tokens (Some chosen))
    → length (variables text classes (instances text classes chosen)) ≤ size_limit

abbrev pub FewEquationsLaw : Type 0
FewEquationsLaw = (text : List ℕ) (classes : List ClassDef) (tokens : List Token) (chosen : ℕ) → IsKept (N10.Breaks text classes tokens (Some chosen))
    → (values : Values) (number : NumberOf) (clause : ℕ)
    → length (equations_from clause (groups text values number classes (instances text classes chosen)))
    + length (pairs text classes (number_in text classes (instances text classes chosen)) (instances text classes chosen)) ≤ size_limit

-- N10 is broken at one place
abbrev pub OnePlaceLaw : Type 0
OnePlaceLaw = (text : List ℕ) (classes : List ClassDef) (tokens : List Token) (chosen a b : ℕ) → IsFirstOf (N10.Breaks text classes tokens (Some chosen)) a
    → IsFirstOf (N10.Breaks text classes tokens (Some chosen)) b → a ≡ b
