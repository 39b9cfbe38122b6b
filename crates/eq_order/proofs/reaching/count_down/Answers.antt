use Rattle.std.proofs.Common.{◌-◌, get_or, set, arith, refl, sym, ap, ◌∙◌, inl, inr}
use Rattle.std.proofs.lemmas.Bool.{cases_eq}
use Rattle.std.specs.Ordering.{nat_cmp}
use Rattle.std.specs.BTreeSet.{contains, btree_set_len}
use Rattle.eq_order.proofs.Counts.{enough_left, within_left, one_down, sum_down, elsewhere, at_most_one}
use Rattle.eq_order.proofs.Sets.{still_in, was_in}
use Rattle.eq_order.proofs.reaching.count_down.Goals as goal
use Rattle.eq_order.proofs.reaching.count_down.Goals.{then-left-i-eq1+in_ok-insert, else-left-i-eq1}

pub overflow_sub-left : goal.overflow_sub-left
overflow_sub-left c = enough_left c.args.readers.now c.args.left.now c.loop-i.left c.loop-i.i-index c.loop-i-test.true c.requires.enough c.loop-i.invariant.down

pub bounds-left-i : goal.bounds-left-i
bounds-left-i c =
    within_left c.loop-i.left (get_or c.args.readers.now c.loop-i.i-index 0)
    (enough_left c.args.readers.now c.args.left.now c.loop-i.left c.loop-i.i-index c.loop-i-test.true c.requires.enough c.loop-i.invariant.down)

pub loop-i-preserved : goal.loop-i-preserved
loop-i-preserved c =
    let at = get_or c.args.readers.now c.loop-i.i-index 0 in
    let old = c.loop-i.left in
    let now = set old at (get_or old at 0 - 1) in
    let some = enough_left c.args.readers.now c.args.left.now old c.loop-i.i-index c.loop-i-test.true c.requires.enough c.loop-i.invariant.down in
    let inside = within_left old at some in
    let summed = sum_down old now at some refl in
    let kept = c.loop-i.invariant in
    record {
      down = one_down c.args.readers.now c.args.left.now old now c.loop-i.i-index c.loop-i-test.true c.requires.enough kept.down refl;
      within = λ before i has. elim c.if-left-i-eq1.branch [
        | then-left-i-eq1+in_ok-insert w ↦
            elim (was_in c.loop-i.ready w.insert.new.self at i w.in_ok-insert.ensures.updates (ap (λ r. contains nat_cmp r i) (sym w.ready-is) ∙ has)) [
              | inl was ↦ kept.within before i was
              | inr same ↦ let size = c.loop-i.auto.left in omega (arith, inside, same, size)
            ]
        | else-left-i-eq1 w ↦ kept.within before i (ap (λ r. contains nat_cmp r i) (sym w.ready-is) ∙ has)
      ];
      kept = λ i has. elim c.if-left-i-eq1.branch [
        | then-left-i-eq1+in_ok-insert w ↦
            ap (λ r. contains nat_cmp r i) w.ready-is ∙ still_in c.loop-i.ready w.insert.new.self at i w.in_ok-insert.ensures.updates (kept.kept i has)
        | else-left-i-eq1 w ↦ ap (λ r. contains nat_cmp r i) w.ready-is ∙ kept.kept i has
      ];
      added = λ i one other. elim c.if-left-i-eq1.branch [
        | then-left-i-eq1+in_ok-insert w ↦ ap (λ r. contains nat_cmp r i) w.ready-is ∙ elim (cases_eq i at) [
          | inl same ↦ ap (contains nat_cmp w.insert.new.self) same ∙ w.in_ok-insert.ensures.updates.1
          | inr apart ↦ still_in c.loop-i.ready w.insert.new.self at i w.in_ok-insert.ensures.updates (kept.added i (elsewhere old at i (get_or old at 0 - 1) 1 apart one) other)
        ]
        | else-left-i-eq1 w ↦ ap (λ r. contains nat_cmp r i) w.ready-is ∙ elim (cases_eq i at) [
          | inl same ↦ absurd (w.if-left-i-eq1.false (ap (λ j. get_or now j 0) (sym same) ∙ one))
          | inr apart ↦ kept.added i (elsewhere old at i (get_or old at 0 - 1) 1 apart one) other
        ]
      ];
      fewer = elim c.if-left-i-eq1.branch [
        | then-left-i-eq1+in_ok-insert w ↦
            let e = ap btree_set_len w.ready-is in let size = w.in_ok-insert.ensures.len in let one = at_most_one w.in_ok-insert.field-0 in
            omega (arith, kept.fewer, summed, e, size, one)
        | else-left-i-eq1 w ↦ let e = ap btree_set_len w.ready-is in omega (arith, kept.fewer, summed, e)
      ];
    }
