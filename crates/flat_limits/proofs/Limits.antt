-- The flat model of a text is a raw model.
use Rattle.std.proofs.Common.{◌≡◌, ◌≢◌, refl, subst, sym, ap, ◌∙◌, ℕ, suc, ◌+◌, ◌≤◌, ◌<◌, Bool, true, false, cond, not, List, [], ◌∷◌, ◌++◌, map, flat_map, filter, length, Option, Some, None, All, AllPairs, length-append, arith}
use Rattle.std.specs.List.{AllZip}
use Rattle.mo_lexer.specs.Tokens.{AreTokens, mark_len}
use Rattle.mo_lexer.specs.declared.token.Token.{Token}
use Rattle.mo_parser.specs.declared.tree.ClassDef.{ClassDef}
use Rattle.mo_parser.specs.declared.tree.Element.{Element}
use Rattle.mo_parser.specs.declared.tree.Tree.{Tree}
use Rattle.mo_parser.specs.grammar.Faults.{Derives}
use Rattle.flat_model.specs.Models.{IsName}
use Rattle.flat_model.specs.RawModels.{IsRawModel, HasConstants, constants_fit}
use Rattle.flat_model.specs.declared.model.FlatName.{FlatName}
use Rattle.flat_model.specs.declared.raw.RawModel.{RawModel}
use Rattle.class_scopes.specs.Faults.{IsKept}
use Rattle.class_scopes.specs.Types.{elements_of}
use Rattle.class_scopes.specs.declared.end.NameCode.TheVariants as code
use Rattle.class_order.specs.N11.{HasDepth}
use Rattle.class_order.specs.Places.{name_at}
use Rattle.class_scopes.specs.N1 as N1
use Rattle.flat_instances.specs.Instances.{Item, Variable, instances, variables}
use Rattle.parameter_values.specs.Values.{Values}
use Rattle.flat_expressions.specs.Equations.{Group, groups, equations_from, clocks_of}
use Rattle.connection_equations.specs.Connections.{pairs}
use Rattle.connection_counts.proofs.Counted.{count_law}
use Rattle.instance_sizes.specs.N10 as N10
use Rattle.instance_sizes.proofs.Laws.{few_names, few_equations}
use Rattle.flat_answer.specs.Broken.{KeepsAll}
use Rattle.flat_answer.specs.Flat.{IsFlat, IsNameOf}
use Rattle.flat_answer.specs.Model.{plain, number_in}
use Rattle.flat_limits.specs.Laws.{FlatLimitsLaw}
use Rattle.flat_limits.proofs.Spelled.{Every}
use Rattle.flat_limits.proofs.Tokens.{IsValue, IsNameSpan, IsGood, all_good, good_literal, good_name}
use Rattle.flat_limits.proofs.Trees.{told_file}
use Rattle.flat_limits.proofs.Placings.{Gives, gathers, ClassIs, ElementIs, ItemIs, VariableIs, instances_are, variables_are, elements_are, every_append, every_filter, every_more}
use Rattle.flat_limits.proofs.Worth.{Fit, AreFit, IsWorth, worth_rises, values_fit}
use Rattle.flat_limits.proofs.Grounds.{all_of, names_are, told_fits, clauses_fit, connections_fit}
use Rattle.flat_limits.proofs.Apart.{IsNamed, NamesDiffer, apart_filter, instances_apart, names_apart}
use Rattle.flat_limits.proofs.Clauses.{are_full}
use Rattle.flat_limits.proofs.Raws.{raw_model}

shorter : {A : Type 0} (test : A → Bool) (xs : List A) → length (filter test xs) ≤ length xs
shorter test [] = omega arith
shorter test (x ∷ xs) = by (test x) (shorter test xs)
  where
    by : (b : Bool) → length (filter test xs) ≤ length xs → length (cond b (x ∷ filter test xs) (filter test xs)) ≤ length (x ∷ xs)
    by true less = omega (arith, less)
    by false less = omega (arith, less)

as_many : (text : List ℕ) (classes : List ClassDef) (chosen : Option ℕ) (values : Values) (vs : List Variable) (names : List FlatName)
    → AllZip (IsNameOf text classes chosen values) vs names → length names ≡ length vs
as_many text classes chosen values [] [] all = refl
as_many text classes chosen values [] (n ∷ names) all = absurd all
as_many text classes chosen values (v ∷ vs) [] all = absurd all
as_many text classes chosen values (v ∷ vs) (n ∷ names) all = ap suc (as_many text classes chosen values vs names all.1)

module _ (text : List ℕ) (tokens : List Token) (levels : ℕ) (tree : Tree) (are : AreTokens text tokens) (spelt : Derives text levels tree tokens) where
  abbrev classes : List ClassDef
  classes = tree.classes

  abbrev Good : Token → Type 0
  Good = IsGood text

  classes_are : Every (ClassIs text (IsWorth text classes)) classes
  classes_are = ((told_file Good IsValue (IsNameSpan text) (IsWorth text classes) (Gives text (IsWorth text classes)) (worth_rises text classes) (gathers text (IsWorth text classes))
      (good_literal text) (good_name text) levels text).told tree tokens spelt.0 spelt.1 (all_good text (mark_len text) tokens are)).0

  named : (class : ℕ) → Every (IsNamed text classes) (elements_of text classes class)
  named class = every_more (ElementIs text (IsWorth text classes)) (IsNamed text classes) (λ e is. is.named) (elements_of text classes class) (elements_are text (IsWorth text classes) classes class classes_are)

  module _ (root : ℕ) (keeps : KeepsAll text classes (Some root)) (model : RawModel) (flat : IsFlat text classes (Some root) model) where
    abbrev all : List Item
    all = instances text classes root

    abbrev every : List Variable
    every = variables text classes all

    abbrev told : List Group
    told = groups text flat.values (number_in (plain every)) classes all

    shallow : HasDepth text classes 33 root → ⊥
    shallow has = keeps code.N11 (name_at classes root) (root, refl, has, refl)

    size_kept : IsKept (N10.Breaks text classes tokens (Some root))
    size_kept place broken = keeps code.N10 place (tokens, are, broken)

    items_are : Every (ItemIs text (IsWorth text classes)) all
    items_are = instances_are text (IsWorth text classes) classes classes_are root shallow

    variables_fit : Every (VariableIs text (IsWorth text classes)) every
    variables_fit = variables_are text (IsWorth text classes) classes all items_are

    fit : AreFit flat.values
    fit = values_fit text classes every variables_fit flat.values flat.given

    each : All IsName model.names
    each = all_of IsName model.names
        (names_are text classes flat.values fit (Some root) (plain every) model.names (every_filter (VariableIs text (IsWorth text classes)) _ every variables_fit) flat.names)

    apart : AllPairs (λ a b. a.text ≢ b.text) model.names
    apart = names_apart text classes (Some root) flat.values (plain every) model.names
        (apart_filter NamesDiffer _ every (instances_apart text classes named root (keeps code.N2))) flat.names

    constants : All HasConstants model.equations
    constants = all_of HasConstants model.equations (subst (Every HasConstants) (sym flat.equations)
        (every_append HasConstants (equations_from 0 told) flat.connections (told_fits text classes flat.values fit (number_in (plain every)) classes_are all items_are)
        (subst (Every HasConstants) (sym flat.connected.are) (connections_fit flat.connected.sets))))

    clause_constants : All (λ clause. constants_fit clause ≡ true) model.clauses
    clause_constants = all_of Fit model.clauses (subst (Every Fit) (sym flat.clauses) (clauses_fit text classes flat.values fit (number_in (plain every)) classes_are all items_are))

    few : length model.names ≤ 65536
    few =
        let many = as_many text classes (Some root) flat.values (plain every) model.names flat.names in
        let less = few_names text classes tokens root size_kept in
        let fewer : length (plain every) ≤ length every = shorter _ every in
        omega (arith, many, less, fewer)

    enough : length model.equations ≤ 65536
    enough =
        let less = few_equations text classes tokens root size_kept flat.values (number_in (plain every)) 0 in
        let most = count_law (length (plain every)) (pairs text classes (number_in (plain every)) all) flat.connections flat.connected in
        let joined = ap length flat.equations in
        let long = length-append (equations_from 0 told) flat.connections in
        omega (arith, less, most, joined, long)

    is_raw : IsRawModel model
    is_raw = raw_model model.names model.equations flat.connections model.clauses told flat.connected.sets few enough apart each constants clause_constants
        (are_full text flat.values (number_in (plain every)) classes all) flat.equations flat.clauses flat.connected.are

  chosen_raw : (chosen : Option ℕ) (model : RawModel) → KeepsAll text classes chosen → IsFlat text classes chosen model → IsRawModel model
  chosen_raw None model keeps flat = absurd (keeps code.N1 (length text) (N1.not_there refl))
  chosen_raw (Some root) model keeps flat = is_raw root keeps model flat

pub flat_limits : FlatLimitsLaw
flat_limits text tokens levels tree chosen model are spelt keeps flat = chosen_raw text tokens levels tree are spelt chosen model keeps flat
