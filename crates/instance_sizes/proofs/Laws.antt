-- What the items of a model have, and what a model that is not too large has.
use Rattle.std.proofs.Common.{◌≡◌, refl, ap, sym, ◌∙◌, subst, ℕ, ◌+◌, ◌<◌, ◌≤◌, ◌⊎◌, inl, inr, List, length, Some, arith}
use Rattle.std.proofs.lemmas.Bool.{cases_lt}
use Rattle.mo_lexer.specs.declared.token.Token.{Token}
use Rattle.mo_parser.specs.declared.tree.ClassDef.{ClassDef}
use Rattle.class_scopes.specs.Faults.{IsFirstOf, IsKept}
use Rattle.class_order.specs.Places.{name_at}
use Rattle.flat_instances.specs.Instances.{instances, variables}
use Rattle.connection_equations.specs.Connections.{pairs}
use Rattle.instance_sizes.specs.Counts.{number_in, equation_count, token_count}
use Rattle.instance_sizes.specs.N10 as N10
use Rattle.instance_sizes.specs.Laws as laws
use Rattle.instance_sizes.proofs.Filtered as filtered
use Rattle.instance_sizes.proofs.Groups.{equations_counted}

pub same_variables : laws.SameVariablesLaw
same_variables text classes all = filtered.same_variables text classes all

pub same_groups : laws.SameGroupsLaw
same_groups text classes values number all = filtered.same_groups text classes values number all

pub same_pairs : laws.SamePairsLaw
same_pairs text classes number all = filtered.same_pairs text classes number all

within : (limit n : ℕ) → (limit < n → ⊥) → n ≤ limit
within limit n none = by (cases_lt limit n)
  where
    by : (limit < n) ⊎ (n ≤ limit) → n ≤ limit
    by (inl more) = absurd (none more)
    by (inr few) = few

module _ (text : List ℕ) (classes : List ClassDef) (tokens : List Token) (chosen : ℕ) where
  broken : N10.IsTooLarge text classes tokens chosen → N10.Breaks text classes tokens (Some chosen) (name_at classes chosen)
  broken large = (chosen, refl, large, refl)

  -- the one place where the rule can be broken
  pub first_place : N10.IsTooLarge text classes tokens chosen → IsFirstOf (N10.Breaks text classes tokens (Some chosen)) (name_at classes chosen)
  first_place large = record {
    broken = broken large;
    least = λ other breaks. here other breaks;
  }
    where
      here : (other : ℕ) → N10.Breaks text classes tokens (Some chosen) other → name_at classes chosen ≤ other
      here other (root, is, too, at) =
          let same : chosen ≡ root = cc is in
          let place : name_at classes chosen ≡ other = ap (name_at classes) same ∙ sym at in
          omega (arith, place)

  -- a model within the limits keeps the rule
  pub is_kept : length (variables text classes (instances text classes chosen)) ≤ 65536 → equation_count text classes (instances text classes chosen) ≤ 65536
      → token_count text classes tokens (instances text classes chosen) ≤ 4194304 → IsKept (N10.Breaks text classes tokens (Some chosen))
  is_kept names equations sizes place (root, is, too, at) = by (subst (λ r. N10.IsTooLarge text classes tokens r) (sym same) too)
    where
      same : chosen ≡ root
      same = cc is

      by : N10.IsTooLarge text classes tokens chosen → ⊥
      by (N10.IsTooLarge.many_names more) = omega (arith, more, names)
      by (N10.IsTooLarge.many_equations more) = omega (arith, more, equations)
      by (N10.IsTooLarge.many_tokens more) = omega (arith, more, sizes)

  kept_names : IsKept (N10.Breaks text classes tokens (Some chosen)) → length (variables text classes (instances text classes chosen)) ≤ 65536
  kept_names kept = within 65536 (length (variables text classes (instances text classes chosen)))
      (λ more. kept (name_at classes chosen) (broken (N10.IsTooLarge.many_names more)))

  kept_equations : IsKept (N10.Breaks text classes tokens (Some chosen)) → equation_count text classes (instances text classes chosen) ≤ 65536
  kept_equations kept = within 65536 (equation_count text classes (instances text classes chosen))
      (λ more. kept (name_at classes chosen) (broken (N10.IsTooLarge.many_equations more)))

pub few_names : laws.FewNamesLaw
few_names text classes tokens chosen kept = kept_names text classes tokens chosen kept

pub few_equations : laws.FewEquationsLaw
few_equations text classes tokens chosen kept values number clause =
    subst (λ n. n + length (pairs text classes (number_in text classes (instances text classes chosen)) (instances text classes chosen)) ≤ 65536)
    (sym (equations_counted text values number classes clause (instances text classes chosen))) (kept_equations text classes tokens chosen kept)

pub one_place : laws.OnePlaceLaw
one_place text classes tokens chosen a b first second =
    let less = first.least b second.broken in
    let more = second.least a first.broken in
    omega (arith, less, more)
