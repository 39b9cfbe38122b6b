use Rattle.std.proofs.Common.{◌≡◌, ◌∙◌, refl, ap, sym, subst, inl, inr, Some, length, slice_get, arith}
use Rattle.std.proofs.lemmas.Bool.{cases_eq}
use Rattle.std.proofs.lemmas.Option.{same_Some, slice_get_read, slice_get_within}
use Rattle.plan_tests.proofs.Fine.{IsFine, all_fine}
use Rattle.plan_tests.proofs.given.are_clocks.Goals as goal

pub loop-clock-preserved : goal.loop-clock-preserved
loop-clock-preserved c = λ k clock below found.
    let i = c.loop-clock.clock-index in
    let items = c.as_slice-clock-items.result.now in
    let at : slice_get items i ≡ Some c.clock-item.result = slice_get_read items (length items) i c.clock-item.result refl (omega (arith, c.loop-clock-test.true)) c.clock-item.is in
    elim (cases_eq k i) [
      | inl same ↦
          let e : c.clock-item.result ≡ clock = same_Some c.clock-item.result clock
          (sym at ∙ (ap (λ all. slice_get all i) c.as_slice-clock-items.ensures ∙ (ap (λ j. slice_get c.args.clocking.now.clocks j) (sym same) ∙ found))) in
          subst (IsFine c.args.clocking.now.sites c.args.grid) e (subst (λ sites. IsFine sites c.args.grid c.clock-item.result) c.as_slice.ensures (c.can_run.ensures c.if-not-can_run.false))
      | inr other ↦ c.loop-clock.invariant k clock (omega (arith, below, other)) found
    ]

pub returns : goal.returns
returns c = λ yes. all_fine c.args.clocking.now c.args.grid c.requires.some c.requires.small (λ k clock found.
    c.loop-clock.invariant k clock (let inside = slice_get_within c.args.clocking.now.clocks k clock found in omega (arith, inside, c.loop-clock-test.false, ap length c.as_slice-clock-items.ensures)) found)
