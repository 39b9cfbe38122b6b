use Rattle.std.proofs.Common.{◌≡◌, ap, sym, subst, ◌∙◌, ◌↔◌, ◌<◌, ◌+◌, ℕ, true, false, length, map, get_or, set, take_all, arith}
use Rattle.std.specs.List.{Contains}
use Rattle.std.proofs.lemmas.List.{with_items_is, length-set, length-map}
use Rattle.std.proofs.Math.ListN.{get_or-map}
use Rattle.eq_order.specs.declared.uses.Use.{Use}
use Rattle.eq_order.proofs.Marks.{AreMarks, marks_more}
use Rattle.eq_order.proofs.fault.used_flags.Goals as goal

pub loop-entry-preserved : goal.loop-entry-preserved
loop-entry-preserved c =
    let n = c.loop-entry.entry-index in
    let uses = c.args.uses.now in
    let all = map (λ (entry : Use). entry.equation) uses in
    let nothing : Use = record { equation = 0; name = 0; spine = record { left = false } } in
    let number : get_or all n 0 ≡ (get_or uses n nothing).equation = get_or-map (λ (entry : Use). entry.equation) uses n nothing in
    let is : c.set_flag.new.flags ≡ set c.loop-entry.used.items (get_or all n 0) true =
    c.set_flag.ensures ∙ (ap (λ xs. set xs (get_or uses n nothing).equation true) c.deref_mut.ensures.value ∙ ap (λ k. set c.loop-entry.used.items k true) (sym number)) in
    let long : length c.set_flag.new.flags ≡ length c.loop-entry.used.items = ap length is ∙ length-set c.loop-entry.used.items (get_or all n 0) true in
    let size : length c.set_flag.new.flags ≡ c.loop-entry.used.len = omega (arith, long, c.deref_mut.ensures.len, ap length c.deref_mut.ensures.value) in
    let written = with_items_is c.loop-entry.used c.set_flag.new.flags size in
    record {
      long = ap length written ∙ (long ∙ c.loop-entry.invariant.long);
      flags = subst (AreMarks all c.args.count (n + 1)) (sym written)
          (marks_more all c.args.count n c.loop-entry.used.items c.set_flag.new.flags (let m = length-map uses (λ (entry : Use). entry.equation) in omega (arith, m, c.loop-entry-test.true)) c.loop-entry.invariant.long is c.loop-entry.invariant.flags);
    }

pub returns : goal.returns
returns c =
    let all = map (λ (entry : Use). entry.equation) c.args.uses.now in
    let size : length all ≡ length c.args.uses.now = length-map c.args.uses.now (λ (entry : Use). entry.equation) in
    subst (λ xs. (i : ℕ) → i < c.args.count → (get_or c.loop-entry.used.items i true ≡ true) ↔ Contains xs i) (take_all c.loop-entry.entry-index all (omega (arith, size, c.loop-entry-test.false)))
    c.loop-entry.invariant.flags
