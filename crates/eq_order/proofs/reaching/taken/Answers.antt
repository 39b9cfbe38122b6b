use Rattle.std.proofs.Common.{rules, ◌≡◌, ℕ, ◌<◌, true, [], ◌++◌, length, get_or, arith, refl, sym, ap, subst, ◌∙◌, inl, inr, append-nil}
use Rattle.std.proofs.lemmas.Bool.{cases_eq}
use Rattle.std.proofs.lemmas.List.{get_or_read, with_items_is, length-map, length-set}
use Rattle.std.specs.Ordering.{nat_cmp}
use Rattle.std.specs.BTreeSet.{contains, btree_set_len, IsLowerBound}
use Rattle.eq_orient.specs.Gathered.{count_of}
use Rattle.eq_order.specs.private.Reaching.{list_at, CanTake, AreTaken, flags_after, AreLeft, IsNext}
use Rattle.eq_order.proofs.Turns.{waits, has_flag}
use Rattle.eq_order.proofs.Sets.{was_there}
use Rattle.eq_order.proofs.Steps.{GoDown, left_after, ready_after, ready_less, is_next, flags_more, start_left, start_ready, enough_names, none_left, taken_more}
use Rattle.eq_order.proofs.reaching.taken.Goals as goal

pub loop-i-2-init : goal.loop-i-2-init
loop-i-2-init c =
    let left : AreLeft c.args.reads.now c.args.reached.now c.in_ok-left.left.items = start_left c.args.reads.now c.args.reached.now c.in_ok-left.left.items c.in_ok-left.ensures c.requires.fresh in
    let size : length c.in_ok-left.left.items ≡ length c.args.reads.now = ap length c.in_ok-left.ensures ∙ length-map c.args.reads.now length in
    record {
      long = refl;
      counted = search rules;
      within = λ i has. let k = c.loop-i.invariant.within i has in omega (arith, k, c.requires.long);
      left = left;
      ready = start_ready c.args.equations.now c.args.reads.now c.args.reached.now c.in_ok-left.left.items c.loop-i.ready left (λ i within one. c.loop-i.invariant.ready i (omega (arith, within, size)) one);
      taken = λ rest are. subst (AreTaken c.args.equations.now c.args.reads.now c.args.reached.now) (sym (ap (λ xs. xs ++ rest) c.new-uses.ensures)) are;
      flags = ap (flags_after c.args.reached.now) c.new-uses.ensures;
    }

pub bounds-reached-entry : goal.bounds-reached-entry
bounds-reached-entry c =
    has_flag c.loop-i-2.reached c.in-Some-use_of.entry.name
    (waits c.loop-i-2.reached (list_at c.args.reads.now c.in-Some.i) c.in-Some-use_of.entry.name c.in-Some-use_of.ensures.1.0)

pub bounds-readers-entry : goal.bounds-readers-entry
bounds-readers-entry c =
    let flag = has_flag c.loop-i-2.reached c.in-Some-use_of.entry.name
    (waits c.loop-i-2.reached (list_at c.args.reads.now c.in-Some.i) c.in-Some-use_of.entry.name c.in-Some-use_of.ensures.1.0) in
    omega (arith, flag, c.loop-i-2.invariant.long, c.requires.wide)

pub count_down-requires : goal.count_down-requires
count_down-requires c =
    let x = c.in-Some-use_of.entry.name in
    let waited = waits c.loop-i-2.reached (list_at c.args.reads.now c.in-Some.i) x c.in-Some-use_of.ensures.1.0 in
    let inside : x < length c.args.readers.now = omega (arith, has_flag c.loop-i-2.reached x waited, c.loop-i-2.invariant.long, c.requires.wide) in
    let names : c.as_slice.result.now ≡ list_at c.args.readers.now x = c.as_slice.ensures ∙ get_or_read c.args.readers.now x c.index-readers-entry.result inside c.index-readers-entry.is [] in
    record { enough = λ i. rw (names, c.deref_mut.ensures.value) (enough_names c.args.reads.now c.args.readers.now c.loop-i-2.reached x c.loop-i-2.left.items waited c.requires.mirrored c.loop-i-2.invariant.left i) }

pub loop-i-2-preserved-in-Continue-branch-4 : goal.loop-i-2-preserved-in-Continue-branch-4
loop-i-2-preserved-in-Continue-branch-4 c =
    let x = c.in-Some-use_of.entry.name in
    let old = c.loop-i-2.invariant in
    let take : CanTake c.args.equations.now c.args.reads.now c.loop-i-2.reached c.in-Some.i x = c.in-Some-use_of.ensures.1 in
    let waited = waits c.loop-i-2.reached (list_at c.args.reads.now c.in-Some.i) x take.0 in
    let inside : x < length c.args.readers.now = omega (arith, has_flag c.loop-i-2.reached x waited, old.long, c.requires.wide) in
    let names : c.as_slice.result.now ≡ list_at c.args.readers.now x = c.as_slice.ensures ∙ get_or_read c.args.readers.now x c.index-readers-entry.result inside c.index-readers-entry.is [] in
    let size : length c.count_down.new.left ≡ c.loop-i-2.left.len = search rules in
    let written = with_items_is c.loop-i-2.left c.count_down.new.left size in
    let down : GoDown c.args.reads.now x c.loop-i-2.left.items c.count_down.new.left = λ i.
    let a : count_of i c.as_slice.result.now ≡ count_of x (list_at c.args.reads.now i) = ap (count_of i) names ∙ c.requires.mirrored i x in
    let b : get_or c.deref_mut.result.now i 0 ≡ get_or c.loop-i-2.left.items i 0 = ap (λ xs. get_or xs i 0) c.deref_mut.ensures.value in
    omega (arith, a, b, c.in_ok-count_down.ensures.left i) in
    let next : IsNext c.args.equations.now c.args.reads.now c.loop-i-2.reached c.in-Some-use_of.entry =
    is_next c.args.equations.now c.args.reads.now c.loop-i-2.reached c.in-Some-use_of.entry c.loop-i-2.ready old.ready
    (subst (IsLowerBound nat_cmp c.loop-i-2.ready) (sym c.in-Some-use_of.ensures.0) c.in-Some.ensures.least)
    (subst (λ j. CanTake c.args.equations.now c.args.reads.now c.loop-i-2.reached j x) (sym c.in-Some-use_of.ensures.0) take)
    c.in-Some-use_of.ensures.2 in
    record {
      long = length-set c.loop-i-2.reached x true ∙ old.long;
      counted = old.counted;
      within = λ i has.
          let before : (j : ℕ) → contains nat_cmp c.pop_first.new.self j ≡ true → j < length c.deref_mut.result.now = λ j was.
          let k = old.within j (was_there c.loop-i-2.ready c.pop_first.new.self c.in-Some.i j c.in-Some.ensures.updates was) in
          omega (arith, k, size, old.counted, c.deref_mut.ensures.len) in
          let k = c.in_ok-count_down.ensures.within before i has in
          omega (arith, k, size, old.counted);
      left = rw written (left_after c.args.reads.now c.loop-i-2.reached x c.loop-i-2.left.items c.count_down.new.left waited old.left down);
      ready = ready_after c.args.equations.now c.args.reads.now c.loop-i-2.reached x c.in-Some.i c.loop-i-2.left.items c.count_down.new.left c.loop-i-2.ready c.pop_first.new.self c.count_down.new.ready
          old.left down take.0 old.ready c.in-Some.ensures.updates c.in_ok-count_down.ensures.kept (λ i one other. c.in_ok-count_down.ensures.added i one (λ e. other (sym (ap (λ xs. get_or xs i 0) c.deref_mut.ensures.value) ∙ e)));
      taken = taken_more c.args.equations.now c.args.reads.now c.args.reached.now c.loop-i-2.reached c.in-Some-use_of.entry c.loop-i-2.uses c.push.new.self c.in_ok-push.ensures.ok next old.taken;
      flags = flags_more c.args.reached.now c.loop-i-2.reached c.in-Some-use_of.entry c.loop-i-2.uses c.push.new.self c.in_ok-push.ensures.ok old.flags;
    }

pub loop-i-2-preserved : goal.loop-i-2-preserved
loop-i-2-preserved c =
    let old = c.loop-i-2.invariant in
    record {
      long = old.long;
      counted = old.counted;
      within = λ i has. old.within i (was_there c.loop-i-2.ready c.pop_first.new.self c.in-Some.i i c.in-Some.ensures.updates has);
      left = old.left;
      ready = ready_less c.args.equations.now c.args.reads.now c.loop-i-2.reached c.in-Some.i c.loop-i-2.ready c.pop_first.new.self old.ready c.in-Some.ensures.updates c.in_default-use_of.ensures;
      taken = old.taken;
      flags = old.flags;
    }

pub returns : goal.returns
returns c =
    let empty : btree_set_len c.loop-i-2.ready ≡ 0 = elim (cases_eq (btree_set_len c.loop-i-2.ready) 0) [
      | inl none ↦ none
      | inr some ↦ absurd (cc (c.in_default.ensures.variant.1 (omega (arith, some))))
    ] in
    let all = c.loop-i-2.invariant.taken [] (none_left c.args.equations.now c.args.reads.now c.loop-i-2.reached c.loop-i-2.ready c.loop-i-2.invariant.ready empty) in
    record {
      taken = subst (AreTaken c.args.equations.now c.args.reads.now c.args.reached.now) (append-nil c.loop-i-2.uses) all;
      flags = sym c.loop-i-2.invariant.flags;
    }
