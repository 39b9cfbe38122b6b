-- The parts of a flat model.
use Rattle.std.proofs.Common.{◌≡◌, refl, ap, ap₂, sym, ◌∙◌, subst, ℕ, suc, ◌+◌, ◌<◌, ◌≤◌, ◌^◌, List, [], ◌∷◌, ◌++◌, map, length, Option, Some, Result, Ok, Err, IfOk, bytes_eq, arith}
use Rattle.std.proofs.Math.Path.{fun_ext}
use Rattle.std.proofs.lemmas.List.{length-map}
use Rattle.std.specs.List.{AllZip, position_from}
use Rattle.std.specs.declared.alloc.AllocError.{AllocError}
use Rattle.mo_parser.specs.declared.tree.ClassDef.{ClassDef}
use Rattle.flat_model.specs.declared.model.FlatName.{FlatName}
use Rattle.flat_model.specs.declared.raw.RawEq.{RawEq}
use Rattle.flat_model.specs.declared.raw.RawExpr.{RawExpr}
use Rattle.flat_model.specs.declared.raw.RawModel.{RawModel}
use Rattle.class_scopes.specs.Spelled.{Ident}
use Rattle.class_scopes.specs.Tables.{Numbered, number_of, IsTableOf}
use Rattle.scope_names.specs.declared.scopes.Scopes.{Scopes}
use Rattle.flat_instances.specs.Instances.{Item, Variable}
use Rattle.parameter_values.specs.Values.{Values}
use Rattle.flat_expressions.specs.Following.{NumbersFit}
use Rattle.flat_expressions.specs.Equations.{groups, equations_from, clocks_of}
use Rattle.flat_expressions.specs.Expressions.{NumberOf}
use Rattle.flat_expressions.specs.declared.items.Lowered.{Lowered}
use Rattle.connection_equations.specs.Connections.{pairs, NumbersBelow}
use Rattle.connection_equations.specs.Sets.{AreEquations}
use Rattle.connection_equations.proofs.Tabled.{table_below}
use Rattle.flat_answer.specs.Flat.{IsNameOf}
use Rattle.flat_answer.specs.Model.{names_of, number_in}
use Rattle.mo_flatten.specs.private.Models.{named, IsLowered, IsModelOf}

-- the numbers of a table of few names
pub few_numbers : (names : List FlatName) (table : Numbered) → IsTableOf (map (λ name. name.text) names) table → NumbersBelow (length names) (number_of table)
few_numbers names table tabled =
    let long = length-map names (λ (name : FlatName). name.text) in
    table_below (map (λ name. name.text) names) table (length names) tabled (omega (arith, long))

pub numbers_fit : (names : List FlatName) (table : Numbered) → length names ≤ 65536 → IsTableOf (map (λ name. name.text) names) table → NumbersFit table
numbers_fit names table few tabled name n is =
    let below : n < length names = few_numbers names table tabled name n is in
    omega (arith, below, few)

module _ (text : List ℕ) (classes : List ClassDef) (chosen : Option ℕ) (values : Values) where
  texts_are : (vs : List Variable) (names : List FlatName) → AllZip (IsNameOf text classes chosen values) vs names → map (λ name. name.text) names ≡ names_of vs
  texts_are [] [] all = refl
  texts_are [] (n ∷ names) all = absurd all
  texts_are (v ∷ vs) [] all = absurd all
  texts_are (v ∷ vs) (n ∷ names) all = ap₂ (λ x xs. x ∷ xs) all.0.text_is (texts_are vs names all.1)

  pub as_many : (vs : List Variable) (names : List FlatName) → AllZip (IsNameOf text classes chosen values) vs names → length names ≡ length vs
  as_many [] [] all = refl
  as_many [] (n ∷ names) all = absurd all
  as_many (v ∷ vs) [] all = absurd all
  as_many (v ∷ vs) (n ∷ names) all = ap suc (as_many vs names all.1)

  pub numbers_are : (vs : List Variable) (names : List FlatName) (table : Numbered) → AllZip (IsNameOf text classes chosen values) vs names
      → IsTableOf (map (λ name. name.text) names) table → number_of table ≡ number_in vs
  numbers_are vs names table all tabled = fun_ext (λ name. tabled name ∙ ap (position_from (bytes_eq name) 0) (texts_are vs names all))

pub is_lowered : (scopes : Scopes) (items : List Item) (values : Values) (number : NumberOf) (r : Result Lowered AllocError)
    → IfOk r (λ found. found.equations ≡ equations_from 0 (groups scopes.named.file.text.now values number scopes.named.file.classes.now items))
    → IfOk r (λ found. found.clauses ≡ clocks_of (groups scopes.named.file.text.now values number scopes.named.file.classes.now items))
    → IfOk r (IsLowered scopes items values number)
is_lowered scopes items values number (Ok lowered) one other = record { equations = one; clauses = other }
is_lowered scopes items values number (Err end) one other = tt

module _ (scopes : Scopes) (items : List Item) (values : Values) (names : List FlatName) (table : Numbered)
    (zipped : AllZip (IsNameOf scopes.named.file.text.now scopes.named.file.classes.now (Some scopes.named.chosen) values) (named scopes items) names)
    (tabled : IsTableOf (map (λ name. name.text) names) table) where
  abbrev text : List ℕ
  text = scopes.named.file.text.now

  abbrev classes : List ClassDef
  classes = scopes.named.file.classes.now

  numbers : number_of table ≡ number_in (named scopes items)
  numbers = numbers_are text classes (Some scopes.named.chosen) values (named scopes items) names table zipped tabled

  many : length names ≡ length (named scopes items)
  many = as_many text classes (Some scopes.named.chosen) values (named scopes items) names zipped

  pub modelled : (equations lowered connections : List RawEq) (clauses : List RawExpr)
      → lowered ≡ equations_from 0 (groups text values (number_of table) classes items) → clauses ≡ clocks_of (groups text values (number_of table) classes items)
      → AreEquations (length names) (pairs text classes (number_of table) items) connections → equations ≡ lowered ++ connections
      → IsModelOf scopes items values (record { names = names; equations = equations; clauses = clauses })
  modelled equations lowered connections clauses lowered_are clauses_are connected joined = record {
    names = zipped;
    connections = connections;
    connected = subst (λ n. AreEquations n (pairs text classes (number_in (named scopes items)) items) connections) many
        (subst (λ f. AreEquations (length names) (pairs text classes f items) connections) numbers connected);
    equations = joined ∙ ap (λ t. t ++ connections) (lowered_are ∙ ap (λ f. equations_from 0 (groups text values f classes items)) numbers);
    clauses = clauses_are ∙ ap (λ f. clocks_of (groups text values f classes items)) numbers;
  }
