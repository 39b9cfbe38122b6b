use Rattle.std.proofs.Common.{◌∙◌, ap, sym, subst, map, Some, arith}
use Rattle.class_scopes.specs.Faults.{IsFirstOf}
use Rattle.flat_instances.specs.Kept.{seen}
use Rattle.instance_totals.specs.Weights.{number_at}
use Rattle.instance_sizes.specs.N10 as N10
use Rattle.instance_sizes.specs.private.Measures.{AreEquations, Exceeds}
use Rattle.instance_sizes.proofs.Answering.{many_first, few_kept, large_first, all_kept}
use Rattle.instance_sizes.proofs.sized.sized_instances.Goals as goal

pub has_many-requires : goal.has_many-requires
has_many-requires c =
    subst (AreEquations c.args.scopes.now.named.file.text.now c.args.scopes.now.named.file.classes.now) (sym c.as_slice-equations.ensures.value)
    (record { size = omega (arith, c.in_ok-counted.ensures.size); counts = c.in_ok-counted.ensures.counts })

pub returns-then-many : goal.returns-then-many
returns-then-many c =
    let text = c.args.scopes.now.named.file.text.now in
    let classes = c.args.scopes.now.named.file.classes.now in
    let chosen = c.args.scopes.now.named.chosen in
    subst (IsFirstOf (N10.Breaks text classes c.args.tokens.now (Some chosen))) (sym c.name_at.ensures)
    (many_first text classes c.args.tokens.now chosen c.in_ok-many.many c.if-many.true c.in_ok-many.ensures)

pub invariant_of-measure : goal.invariant_of-measure
invariant_of-measure c = record {
  counted = record {
    equations_are = λ class. ap (λ l. number_at l class) c.as_slice-equations.ensures.value ∙ c.in_ok-counted.ensures.counts class;
    tokens_are = λ class. ap (λ l. number_at l class) c.as_slice.ensures.value ∙ c.in_ok-sizes.ensures class;
  };
}

pub exceeds-requires : goal.exceeds-requires
exceeds-requires c =
    let text = c.args.scopes.now.named.file.text.now in
    let classes = c.args.scopes.now.named.file.classes.now in
    few_kept text classes c.args.tokens.now c.args.scopes.now.named.chosen c.as_slice-items.result.now (ap (map (seen text classes)) c.as_slice-items.ensures.value ∙ c.in_ok-found.ensures)
    c.in_ok-many.many c.if-many.false c.in_ok-many.ensures

pub returns-then-large : goal.returns-then-large
returns-then-large c =
    let text = c.args.scopes.now.named.file.text.now in
    let classes = c.args.scopes.now.named.file.classes.now in
    let chosen = c.args.scopes.now.named.chosen in
    subst (IsFirstOf (N10.Breaks text classes c.args.tokens.now (Some chosen))) (sym c.name_at-then-large.ensures)
    (large_first text classes c.args.tokens.now chosen c.as_slice-items.result.now (ap (map (seen text classes)) c.as_slice-items.ensures.value ∙ c.in_ok-found.ensures)
    c.in_ok-large.large c.if-large.true
    (subst (λ t. Exceeds text classes t (map (seen text classes) c.as_slice-items.result.now) c.in_ok-large.large) c.in_ok-starts.ensures c.in_ok-large.ensures))

pub returns : goal.returns
returns c =
    let text = c.args.scopes.now.named.file.text.now in
    let classes = c.args.scopes.now.named.file.classes.now in
    let chosen = c.args.scopes.now.named.chosen in (
      all_kept text classes c.args.tokens.now chosen c.as_slice-items.result.now (ap (map (seen text classes)) c.as_slice-items.ensures.value ∙ c.in_ok-found.ensures)
          c.in_ok-many.many c.in_ok-large.large c.if-many.false c.in_ok-many.ensures c.if-large.false
          (subst (λ t. Exceeds text classes t (map (seen text classes) c.as_slice-items.result.now) c.in_ok-large.large) c.in_ok-starts.ensures c.in_ok-large.ensures),
      c.in_ok-found.ensures,
    )
