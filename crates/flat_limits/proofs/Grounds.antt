-- The names of a flat model keep their limits, and the constants of its equations are values.
use Rattle.std.proofs.Common.{◌≡◌, ◌≢◌, refl, subst, sym, ap, ◌∙◌, ℕ, zero, suc, ℤ, pos, negsuc, ◌+◌, ◌≤◌, ◌<◌, ◌^◌, nat_lt, Bool, true, false, ◌&&◌, List, [], ◌∷◌, ◌++◌, map, flat_map, length, Option, Some, None, Result, Ok, Err, is_ok, All, if◌then◌else◌, arith}
use Rattle.std.specs.List.{AllZip}
use Rattle.sync_values.specs.Arithmetic.{fitted}
use Rattle.sync_values.specs.declared.value.Fail.{Fail}
use Rattle.sync_values.specs.declared.value.Fail.TheVariants.{TooLarge}
use Rattle.sync_values.specs.declared.value.Value.{Value}
use Rattle.sync_values.specs.declared.value.Value.TheVariants as value
use Rattle.mo_parser.specs.declared.tree.ClassDef.{ClassDef}
use Rattle.mo_parser.specs.declared.tree.TreeEq.{TreeEq}
use Rattle.mo_parser.specs.declared.tree.TreeEq.TheOpen.{TreeEq-F}
use Rattle.mo_parser.specs.declared.tree.TreeEq.TheViews.{out-TreeEq}
use Rattle.flat_model.specs.Assignment.{IsOfKind}
use Rattle.flat_model.specs.Models.{IsName}
use Rattle.flat_model.specs.RawModels.{HasConstants}
use Rattle.flat_model.specs.declared.model.FlatName.{FlatName}
use Rattle.flat_model.specs.declared.model.NameKind.{NameKind}
use Rattle.flat_model.specs.declared.model.NameKind.TheVariants as kind
use Rattle.flat_model.specs.declared.raw.RawEq.{RawEq}
use Rattle.flat_model.specs.declared.raw.RawExpr.{RawExpr}
use Rattle.flat_limits.proofs.Fitting.{fits-Name}
use Rattle.class_scopes.specs.Spelled.{Ident}
use Rattle.class_scopes.specs.Types.{kind_of, class_equations}
use Rattle.flat_instances.specs.Instances.{Placed, Variable, Item, Declared, Own, variables}
use Rattle.flat_model.specs.Operators.{Answer, Is, Fails, Absent}
use Rattle.parameter_values.specs.Values.{Values, answer, of_kind, value_by, start_from, is_parameter}
use Rattle.flat_expressions.specs.Expressions.{NumberOf, name_by, expr_of}
use Rattle.flat_expressions.specs.Equations.{Sides, sides, Group, Alone, Clause, in_clause, equations_from, clocks_of, clause, sides_by, sides_at, sides_in, groups_by, groups_at, binding_sides, groups_of, groups}
use Rattle.connection_equations.specs.Sets.{equal, equations_of_set}
use Rattle.flat_answer.specs.Flat.{start_of, IsNameOf}
use Rattle.flat_answer.specs.Inputs.{has_input, is_outer, is_valued, is_model_input}
use Rattle.flat_limits.proofs.Spelled.{Every, Maybe}
use Rattle.flat_limits.proofs.Tokens.{IsValue}
use Rattle.flat_limits.proofs.Trees.{SidesBy, AreSides, EquationBy, IsEquation}
use Rattle.flat_limits.proofs.Placings.{Gives, PlacedIs, VariableIs, ItemIs, ClassIs, every_append, every_flat_map, every_map}
use Rattle.flat_limits.proofs.Tokens.{IsNameSpan}
use Rattle.flat_limits.proofs.Worth.{Fit, AreFit, IsWorth, name_fits, value_by_fits}

-- ---- lists by their places

all_none : {A : Type 0} (P : A → Type 0) → All P []
all_none P k d below = absurd (omega (arith, below))

pub all_of : {A : Type 0} (P : A → Type 0) (xs : List A) → Every P xs → All P xs
all_of P [] all = all_none P
all_of P (x ∷ xs) all = by (all_of P xs all.1)
  where
    by : All P xs → All P (x ∷ xs)
    by rest zero d below = all.0
    by rest (suc k) d below = rest k d (omega (arith, below))

-- ---- names

fitted_by : (m : ℕ) (z : ℤ) (b : Bool) → is_ok (if b then Ok z else Err TooLarge) ≡ true → (if b then Ok z else Err TooLarge) ≡ Ok z
fitted_by m z true is = refl
fitted_by m z false is = absurd (cc is)

fitted_whole : (z : ℤ) → IsValue (value.Int z) → fitted z ≡ Ok z
fitted_whole (pos n) is = fitted_by n (pos n) (nat_lt n (2 ^ 63)) is
fitted_whole (negsuc n) is = fitted_by n (negsuc n) (nat_lt n (2 ^ 63)) is

integer_only : (a : Answer) (b : Bool) → of_kind (Some kind.Integer) a ≡ Some (value.Bool b) → ⊥
integer_only (Is (value.Int z)) b same = cc same
integer_only (Is (value.Bool c)) b same = cc same
integer_only (Fails f) b same = cc same
integer_only Absent b same = cc same

boolean_only : (a : Answer) (z : ℤ) → of_kind (Some kind.Boolean) a ≡ Some (value.Int z) → ⊥
boolean_only (Is (value.Int y)) z same = cc same
boolean_only (Is (value.Bool c)) z same = cc same
boolean_only (Fails f) z same = cc same
boolean_only Absent z same = cc same

module _ (text : List ℕ) (classes : List ClassDef) (values : Values) (fit : AreFit values) where
  abbrev FromKind : NameKind → Option Placed → Option Value
  FromKind type start = start_of type (value_by text classes values (Some type) start)

  start_kind : (type : NameKind) (start : Option Placed) (v : Value) → Maybe (PlacedIs text (IsWorth text classes)) start → FromKind type start ≡ Some v → type ≢ kind.Clock → IsOfKind type v
  start_kind kind.Clock start v is same other = absurd (other refl)
  start_kind kind.Integer start (value.Int z) is same other = fitted_whole z (value_by_fits text classes values fit (Some kind.Integer) start (value.Int z) is same)
  start_kind kind.Boolean start (value.Bool b) is same other = tt
  start_kind kind.Integer None (value.Bool b) is same other = absurd (cc same)
  start_kind kind.Integer (Some there) (value.Bool b) is same other = absurd (integer_only (answer text classes values there.scope there.expr) b same)
  start_kind kind.Boolean None (value.Int z) is same other = absurd (cc same)
  start_kind kind.Boolean (Some there) (value.Int z) is same other = absurd (boolean_only (answer text classes values there.scope there.expr) z same)

  input_by : (a b : Bool) (type : NameKind) → (a && b && is_valued type) ≡ true → type ≢ kind.Clock
  input_by true true kind.Clock is same = cc is
  input_by true false kind.Clock is same = cc is
  input_by false b kind.Clock is same = cc is
  input_by a b kind.Integer is same = cc same
  input_by a b kind.Boolean is same = cc same

  name_is : (chosen : Option ℕ) (v : Variable) (name : FlatName) → VariableIs text (IsWorth text classes) v → IsNameOf text classes chosen values v name → IsName name
  name_is chosen v name is of = record {
    short = subst (λ x. length x ≤ 4127) (sym of.text_is) is.short;
    start = λ other.
        start_kind name.kind v.start name.start is.start (ap (λ type. start_of name.kind (value_by text classes values type v.start)) (sym of.kind_is) ∙ of.start_is) other;
    input = λ yes. input_by (has_input text classes v) (is_outer text classes chosen v.name) name.kind (sym of.input_is ∙ yes);
  }

  pub names_are : (chosen : Option ℕ) (vs : List Variable) (names : List FlatName) → Every (VariableIs text (IsWorth text classes)) vs → AllZip (IsNameOf text classes chosen values) vs names
      → Every IsName names
  names_are chosen [] [] are all = tt
  names_are chosen [] (name ∷ names) are all = absurd all
  names_are chosen (v ∷ vs) [] are all = tt
  names_are chosen (v ∷ vs) (name ∷ names) are all = (name_is chosen v name are.0 all.0, names_are chosen vs names are.1 all.1)

-- ---- equations

abbrev SidesFit : Sides → Type 0
SidesFit s = Fit s.left × Fit s.right

abbrev GroupFit : Group → Type 0
GroupFit (Alone s) = SidesFit s
GroupFit (Clause clock inside) = Fit clock × Every SidesFit inside

in_clause_fits : (k : Option ℕ) (inside : List Sides) → Every SidesFit inside → Every HasConstants (map (in_clause k) inside)
in_clause_fits k [] all = tt
in_clause_fits k (s ∷ rest) all = (all.0, in_clause_fits k rest all.1)

equations_fit : (k : ℕ) (all : List Group) → Every GroupFit all → Every HasConstants (equations_from k all)
equations_fit k [] fit = tt
equations_fit k (Alone s ∷ rest) fit = (fit.0, equations_fit k rest fit.1)
equations_fit k (Clause clock inside ∷ rest) fit =
    every_append HasConstants (map (in_clause (Some k)) inside) (equations_from (suc k) rest) (in_clause_fits (Some k) inside fit.0.1) (equations_fit (suc k) rest fit.1)

clocks_fit : (all : List Group) → Every GroupFit all → Every Fit (clocks_of all)
clocks_fit [] fit = tt
clocks_fit (Alone s ∷ rest) fit = clocks_fit rest fit.1
clocks_fit (Clause clock inside ∷ rest) fit = (fit.0.0, clocks_fit rest fit.1)

clause_fits : (clock : RawExpr) (inside : List Sides) → Fit clock → Every SidesFit inside → Every GroupFit (clause clock inside)
clause_fits clock [] is all = tt
clause_fits clock (s ∷ rest) is all = ((is, all), tt)

alone_fits : (all : List Sides) → Every SidesFit all → Every GroupFit (map Alone all)
alone_fits [] fit = tt
alone_fits (s ∷ rest) fit = (fit.0, alone_fits rest fit.1)

module _ (text : List ℕ) (classes : List ClassDef) (values : Values) (fit : AreFit values) (number : NumberOf) where
  abbrev Equation : TreeEq → Type 0
  Equation = IsEquation (IsNameSpan text) (IsWorth text classes) (Gives text (IsWorth text classes))

  sides_by_fit : (scope : Ident) (y : TreeEq-F TreeEq) → SidesBy (IsNameSpan text) (IsWorth text classes) (Gives text (IsWorth text classes)) y → Every SidesFit (sides_by text values number scope y)
  sides_by_fit scope (TreeEq-F.Equal left right) is = ((is.0.told values number scope fit, is.1.told values number scope fit), tt)
  sides_by_fit scope (TreeEq-F.Connect a b) is = tt
  sides_by_fit scope (TreeEq-F.When clock inside) is = tt

  inside_fits : (scope : Ident) (inside : List TreeEq) → Every (AreSides (IsNameSpan text) (IsWorth text classes) (Gives text (IsWorth text classes))) inside
      → Every SidesFit (sides_in text values number scope inside)
  inside_fits scope [] all = tt
  inside_fits scope (e ∷ es) all =
      every_append SidesFit (sides_at text values number scope e) (sides_in text values number scope es) (sides_by_fit scope (out-TreeEq e) all.0) (inside_fits scope es all.1)

  group_by_fit : (scope : Ident) (y : TreeEq-F TreeEq) → EquationBy (IsNameSpan text) (IsWorth text classes) (Gives text (IsWorth text classes)) y → Every GroupFit (groups_by text values number scope y)
  group_by_fit scope (TreeEq-F.Equal left right) is = ((is.0.told values number scope fit, is.1.told values number scope fit), tt)
  group_by_fit scope (TreeEq-F.When clock inside) is =
      clause_fits (expr_of text values number scope clock) (sides_in text values number scope inside) (is.0.told values number scope fit) (inside_fits scope inside is.1)
  group_by_fit scope (TreeEq-F.Connect a b) is = tt

  own_fit : (scope : Ident) (es : List TreeEq) → Every Equation es → Every GroupFit (flat_map (groups_at text values number scope) es)
  own_fit scope [] all = tt
  own_fit scope (e ∷ es) all =
      every_append GroupFit (groups_at text values number scope e) (flat_map (groups_at text values number scope) es) (group_by_fit scope (out-TreeEq e) all.0) (own_fit scope es all.1)

  binding_fit : (fixed : Bool) (name : Ident) (o : Option Placed) → Maybe (PlacedIs text (IsWorth text classes)) o → Every SidesFit (binding_sides text values number fixed name o)
  binding_fit fixed name None is = tt
  binding_fit true name (Some there) is = tt
  binding_fit false name (Some there) is = ((name_fits text classes values fit number name, is.told values number there.scope fit), tt)

  own_are : (all : List ClassDef) (class : ℕ) → Every (ClassIs text (IsWorth text classes)) all → Every Equation (class_equations text all class)
  own_are [] class are = tt
  own_are (c ∷ cs) zero are = are.0.equations
  own_are (c ∷ cs) (suc n) are = own_are cs n are.1

  item_fits : Every (ClassIs text (IsWorth text classes)) classes → (item : Item) → ItemIs text (IsWorth text classes) item → Every GroupFit (groups_of text values number classes item)
  item_fits are (Declared v) is = alone_fits (binding_sides text values number (is_parameter v) v.name v.binding) (binding_fit (is_parameter v) v.name v.binding is.binding)
  item_fits are (Own scope class) is = own_fit scope (class_equations text classes class) (own_are classes class are)

  groups_fit : Every (ClassIs text (IsWorth text classes)) classes → (items : List Item) → Every (ItemIs text (IsWorth text classes)) items → Every GroupFit (groups text values number classes items)
  groups_fit are [] all = tt
  groups_fit are (item ∷ items) all =
      every_append GroupFit (groups_of text values number classes item) (groups text values number classes items) (item_fits are item all.0) (groups_fit are items all.1)

  pub told_fits : Every (ClassIs text (IsWorth text classes)) classes → (items : List Item) → Every (ItemIs text (IsWorth text classes)) items
      → Every HasConstants (equations_from 0 (groups text values number classes items))
  told_fits are items all = equations_fit 0 (groups text values number classes items) (groups_fit are items all)

  pub clauses_fit : Every (ClassIs text (IsWorth text classes)) classes → (items : List Item) → Every (ItemIs text (IsWorth text classes)) items
      → Every Fit (clocks_of (groups text values number classes items))
  clauses_fit are items all = clocks_fit (groups text values number classes items) (groups_fit are items all)

-- ---- connections

set_fits : (first : ℕ) (others : List ℕ) → Every HasConstants (map (equal first) others)
set_fits first [] = tt
set_fits first (x ∷ others) = ((fits-Name first, fits-Name x), set_fits first others)

pub connections_fit : (sets : List (List ℕ)) → Every HasConstants (flat_map equations_of_set sets)
connections_fit [] = tt
connections_fit ([] ∷ sets) = connections_fit sets
connections_fit ((first ∷ others) ∷ sets) = every_append HasConstants (map (equal first) others) (flat_map equations_of_set sets) (set_fits first others) (connections_fit sets)
