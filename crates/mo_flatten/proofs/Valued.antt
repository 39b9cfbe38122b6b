-- The flat model of what counts is that of all that the instances have.
use Rattle.std.proofs.Common.{◌≡◌, refl, ap, ap₂, sym, ◌∙◌, subst, ℕ, ◌+◌, ◌<◌, ◌≤◌, ◌^◌, Bool, true, false, cond, List, [], ◌∷◌, ◌++◌, map, filter, length, Option, Some, None, Err, Ok, arith}
use Rattle.std.specs.List.{AllZip}
use Rattle.mo_lexer.specs.Tokens.{AreTokens, HasTokens}
use Rattle.mo_lexer.specs.declared.token.Token.{Token}
use Rattle.mo_connect.specs.declared.Pair.{Pair}
use Rattle.mo_order.specs.Values.{Slots}
use Rattle.mo_parser.specs.declared.tree.ClassDef.{ClassDef}
use Rattle.flat_model.specs.declared.raw.RawModel.{RawModel}
use Rattle.class_scopes.specs.Spelled.{Ident}
use Rattle.class_scopes.specs.Tables.{Numbered}
use Rattle.class_scopes.specs.declared.end.NameCode.TheVariants as code
use Rattle.class_scopes.specs.Faults.{IsFirstOf, IsKept}
use Rattle.scope_names.specs.declared.scopes.Scopes.{Scopes}
use Rattle.flat_instances.specs.Instances.{Item, Variable, variables, instances}
use Rattle.flat_instances.specs.Kept.{seen}
use Rattle.flat_instances.specs.declared.item.Item.{Item as KeptItem}
use Rattle.parameter_values.specs.Values.{Values, AreValues}
use Rattle.value_rules.specs.N6 as N6
use Rattle.value_rules.specs.N7 as N7
use Rattle.value_rules.specs.declared.faults.ValueFault.{ValueFault}
use Rattle.value_rules.specs.declared.faults.ValueFault.TheVariants.{Waiting, Failing}
use Rattle.value_rules.specs.Faults.{Answers as Told}
use Rattle.flat_expressions.specs.Equations.{groups, equations_from, clocks_of}
use Rattle.flat_expressions.specs.Expressions.{NumberOf}
use Rattle.connection_equations.specs.Connections.{pairs}
use Rattle.connection_equations.specs.Sets.{AreEquations}
use Rattle.instance_sizes.specs.N10 as N10
use Rattle.instance_sizes.specs.Contributing.{contributes}
use Rattle.instance_sizes.proofs.Laws.{same_variables, same_groups, same_pairs, few_names, few_equations}
use Rattle.flat_answer.specs.Answers.{Answers, told, told_among}
use Rattle.flat_answer.specs.Broken.{rank, Breaks, KeepsBefore, KeepsAll, IsFirst}
use Rattle.flat_answer.specs.Flat.{IsNameOf, IsFlat}
use Rattle.flat_answer.specs.Model.{plain, number_in}
use Rattle.flat_answer.proofs.Ranks.{keeps_more, keeps_all, is_first}
use Rattle.mo_flatten.specs.private.Models.{named, HasFewNames, HasFewClauses, IsModelOf}
use Rattle.mo_flatten.specs.private.Named.{end_of}
use Rattle.mo_flatten.specs.private.Stages.{AreItems}
use Rattle.flat_limits.proofs.Clauses.{are_full, fewer_clauses}

shorter : {A : Type 0} (test : A → Bool) (xs : List A) → length (filter test xs) ≤ length xs
shorter test [] = omega arith
shorter test (x ∷ xs) = by (test x) (shorter test xs)
  where
    by : (b : Bool) → length (filter test xs) ≤ length xs → length (cond b (x ∷ filter test xs) (filter test xs)) ≤ length (x ∷ xs)
    by true less = omega (arith, less)
    by false less = omega (arith, less)

module _ (scopes : Scopes) (items : List KeptItem) (are : AreItems scopes items) where
  abbrev text : List ℕ
  text = scopes.named.file.text.now

  abbrev classes : List ClassDef
  classes = scopes.named.file.classes.now

  abbrev chosen : ℕ
  chosen = scopes.named.chosen

  abbrev kept : List Item
  kept = map (seen text classes) items

  abbrev all : List Item
  all = instances text classes chosen

  abbrev every : List Variable
  every = variables text classes all

  variables_kept : variables text classes kept ≡ every
  variables_kept = ap (variables text classes) are.are ∙ same_variables text classes all

  groups_kept : (values : Values) (number : NumberOf) → groups text values number classes kept ≡ groups text values number classes all
  groups_kept values number = ap (groups text values number classes) are.are ∙ same_groups text classes values number all

  pairs_kept : (number : NumberOf) → pairs text classes number kept ≡ pairs text classes number all
  pairs_kept number = ap (pairs text classes number) are.are ∙ same_pairs text classes number all

  module _ (has : HasTokens text) where
    size_kept : IsKept (N10.Breaks text classes has.0 (Some chosen))
    size_kept place broken = are.keeps code.N10 (omega arith) place (has.0, has.1, broken)

    pub has_few_names : HasFewNames scopes kept
    has_few_names =
        let less = few_names text classes has.0 chosen size_kept in
        let plainer : length (plain every) ≤ length every = shorter _ every in
        subst (λ vs. length (plain vs) ≤ 65536) (sym variables_kept) (omega (arith, less, plainer))

    pub has_few_clauses : HasFewClauses scopes kept
    has_few_clauses values number =
        let less = few_equations text classes has.0 chosen size_kept values number 0 in
        let fewer = fewer_clauses 0 (groups text values number classes all) (are_full text values number classes all) in
        subst (λ gs. length (clocks_of gs) < 2 ^ 32) (sym (groups_kept values number)) (omega (arith, less, fewer))

  flat_of : (values : Values) (model : RawModel) → AreValues text classes (variables text classes kept) values → IsModelOf scopes kept values model → IsFlat text classes (Some chosen) model
  flat_of values model given m = record {
    values = values;
    given = subst (λ vs. AreValues text classes vs values) variables_kept given;
    names = subst (λ vs. AllZip (IsNameOf text classes (Some chosen) values) (plain vs) model.names) variables_kept m.names;
    connections = m.connections;
    connected = subst (λ vs. AreEquations (length (plain vs)) (pairs text classes (number_in (plain vs)) all) m.connections) variables_kept
        (subst (λ ps. AreEquations (length (named scopes kept)) ps m.connections) (pairs_kept (number_in (named scopes kept))) m.connected);
    equations = m.equations
        ∙ ap (λ gs. equations_from 0 gs ++ m.connections) (groups_kept values (number_in (named scopes kept))
        ∙ ap (λ vs. groups text values (number_in (plain vs)) classes all) variables_kept);
    clauses = m.clauses
        ∙ ap clocks_of (groups_kept values (number_in (named scopes kept)) ∙ ap (λ vs. groups text values (number_in (plain vs)) classes all) variables_kept);
  }

  module _ (table : Numbered) (found : Slots) where
    -- N6 or N7
    pub answers_fault : (fault : ValueFault) → Told text table found classes (variables text classes kept) (Some fault)
        → Answers text classes (Some chosen) (Err (end_of text classes (variables text classes kept) fault))
    answers_fault (Waiting x) first = (
      x,
      is_first text classes (Some chosen) code.N6 x 9 refl are.keeps (subst (λ vs. IsFirstOf (N6.Breaks text classes vs) x) variables_kept first),
      ap (λ vs. told_among text classes vs code.N6 x) variables_kept,
    )
    answers_fault (Failing x) (six, first) =
        let before = keeps_more text classes (Some chosen) code.N6 9 10 refl refl are.keeps (subst (λ vs. IsKept (N6.Breaks text classes vs)) variables_kept six) in (
          x,
          is_first text classes (Some chosen) code.N7 x 10 refl before (subst (λ vs. IsFirstOf (N7.Breaks text classes vs) x) variables_kept first),
          ap (λ vs. told_among text classes vs code.N7 x) variables_kept,
        )

    keeps_every : Told text table found classes (variables text classes kept) None → KeepsAll text classes (Some chosen)
    keeps_every (six, seven, more) =
        let before = keeps_more text classes (Some chosen) code.N6 9 10 refl refl are.keeps (subst (λ vs. IsKept (N6.Breaks text classes vs)) variables_kept six) in
        keeps_all text classes (Some chosen) (keeps_more text classes (Some chosen) code.N7 10 11 refl refl before (subst (λ vs. IsKept (N7.Breaks text classes vs)) variables_kept seven))

    -- no broken rule
    pub answers_model : (values : Values) (model : RawModel) → Told text table found classes (variables text classes kept) None
        → AreValues text classes (variables text classes kept) values → IsModelOf scopes kept values model → Answers text classes (Some chosen) (Ok model)
    answers_model values model none given m = (keeps_every none, flat_of values model given m)
