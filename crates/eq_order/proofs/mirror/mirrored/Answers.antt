use Rattle.std.proofs.Common.{rules, arith, ◌≡◌, ℕ, ◌+◌, List, [], cond, ◌==◌, inl, inr, length, sym, ap, subst, ◌∙◌}
use Rattle.std.proofs.lemmas.Bool.{cases_eq, cases_lt}
use Rattle.std.proofs.lemmas.List.{get_or_read, get_or_past, with_items_is}
use Rattle.eq_orient.specs.Gathered.{count_of}
use Rattle.eq_order.specs.private.Reaching.{list_at}
use Rattle.eq_order.proofs.Mirrors.{noted_own, noted_other, none_counted}
use Rattle.eq_order.proofs.mirror.mirrored.Goals as goal

pub loop-i-preserved : goal.loop-i-preserved
loop-i-preserved c =
    let i = c.loop-i.i in
    let old = c.loop-i.readers.items in
    let new = c.note.new.readers in
    let names = c.as_slice.result.now in
    let size : length new ≡ c.loop-i.readers.len = search rules in
    let written = with_items_is c.loop-i.readers new size in
    let names_are : names ≡ list_at c.args.reads.now i = c.as_slice.ensures ∙ get_or_read c.args.reads.now i c.index-reads-i.result c.loop-i-test.true c.index-reads-i.is [] in
    let noted : (j y : ℕ) → count_of j (list_at new y) ≡ count_of j (list_at old y) + cond (j == i) (count_of y names) 0 =
    λ j y. subst (λ all. count_of j (list_at new y) ≡ count_of j (list_at all y) + cond (j == i) (count_of y names) 0) c.deref_mut.ensures.value (c.in_ok-note.ensures.noted j y) in
    record {
      long = c.loop-i.invariant.long;
      done = λ j y below. rw written (elim (cases_eq j i) [
        | inl same ↦
            subst (λ k. count_of k (list_at new y) ≡ count_of y (list_at c.args.reads.now k)) (sym same)
            (noted_own old new names i y noted (c.loop-i.invariant.later i y (omega arith)) ∙ ap (count_of y) names_are)
        | inr other ↦ noted_other old new names i j y noted other ∙ c.loop-i.invariant.done j y (omega (arith, below, other))
      ]);
      later = λ j y above. rw written (noted_other old new names i j y noted (λ e. omega (arith, above, e)) ∙ c.loop-i.invariant.later j y (omega (arith, above)));
    }

pub returns-clause-mirrored : goal.returns-clause-mirrored
returns-clause-mirrored c = λ i x. elim (cases_lt i (length c.args.reads.now)) [
  | inl inside ↦ c.loop-i.invariant.done i x (omega (arith, inside, c.loop-i-test.false))
  | inr past ↦
      c.loop-i.invariant.later i x (let end = c.loop-i.auto.i-end in omega (arith, past, c.loop-i-test.false, end))
      ∙ sym (none_counted_at x (list_at c.args.reads.now i) (get_or_past c.args.reads.now i [] past))
]
  where
    none_counted_at : (x : ℕ) (list : List ℕ) → list ≡ [] → count_of x list ≡ 0
    none_counted_at x list is = none_counted list x is
