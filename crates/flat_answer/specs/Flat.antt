-- The flat model of a class. MLS 3.6, chapter 5, "Flattening Process", in this project's profile.
use Rattle.std.specs.Prelude.{◌≡◌, ℕ, pos, List, ◌++◌, length, Option, Some}
use Rattle.std.specs.List.{AllZip}
use Rattle.sync_values.specs.declared.value.Value.{Value}
use Rattle.sync_values.specs.declared.value.Value.TheVariants as value
use Rattle.mo_parser.specs.declared.tree.ClassDef.{ClassDef}
use Rattle.flat_model.specs.declared.model.FlatName.{FlatName}
use Rattle.flat_model.specs.declared.model.NameKind.{NameKind}
use Rattle.flat_model.specs.declared.model.NameKind.TheVariants as kind
use Rattle.flat_model.specs.declared.raw.RawEq.{RawEq}
use Rattle.flat_model.specs.declared.raw.RawModel.{RawModel}
use Rattle.class_scopes.specs.Types.{kind_of}
use Rattle.flat_instances.specs.Instances.{Variable}
use Rattle.parameter_values.specs.Values.{Values, AreValues, start_from}
use Rattle.flat_expressions.specs.Equations.{groups, equations_from, clocks_of}
use Rattle.connection_equations.specs.Connections.{pairs}
use Rattle.connection_equations.specs.Sets.{AreEquations}
use Rattle.flat_answer.specs.Inputs.{is_model_input}
use Rattle.flat_answer.specs.Model.{items_of, variables_of, named, number_in}

-- a Clock has no start, and 0 in its place
abbrev pub start_of : NameKind → Option Value → Option Value
start_of kind.Clock start = Some (value.Int (pos 0))
start_of _ start = start

module _ (text : List ℕ) (classes : List ClassDef) (chosen : Option ℕ) where
  -- the name of a variable, with its type, its start and whether it is an input
  pub record IsNameOf (values : Values) (v : Variable) (name : FlatName) : Type 0 where
    pub text_is : name.text ≡ v.name
    pub kind_is : kind_of text classes v.type ≡ Some name.kind
    pub start_is : start_of name.kind (start_from text classes values v) ≡ Some name.start
    pub input_is : name.input ≡ is_model_input text classes chosen v name.kind

  -- the names and equations of all instances in flat order, with the values of parameters put in; the equations of the
  -- connection sets come last
  pub record IsFlat (model : RawModel) : Type 0 where
    pub values : Values
    pub given : AreValues text classes (variables_of text classes chosen) values
    pub names : AllZip (IsNameOf values) (named text classes chosen) model.names
    pub connections : List RawEq
    pub connected : AreEquations (length (named text classes chosen)) (pairs text classes (number_in (named text classes chosen)) (items_of text classes chosen)) connections
    pub equations : model.equations ≡ equations_from 0 (groups text values (number_in (named text classes chosen)) classes (items_of text classes chosen)) ++ connections
    pub clauses : model.clauses ≡ clocks_of (groups text values (number_in (named text classes chosen)) classes (items_of text classes chosen))
