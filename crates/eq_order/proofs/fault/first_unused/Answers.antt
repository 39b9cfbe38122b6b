use Rattle.std.proofs.Common.{◌≡◌, refl, ap, sym, subst, ◌∙◌, inl, inr, true, Some, length, slice_get, arith}
use Rattle.std.proofs.lemmas.Bool.{cases_eq}
use Rattle.std.proofs.lemmas.Option.{same_Some, slice_get_read, slice_get_within}
use Rattle.eq_order.specs.private.Tables.{is_idle}
use Rattle.eq_order.proofs.fault.first_unused.Goals as goal

pub returns-then-is_idle : goal.returns-then-is_idle
returns-then-is_idle c =
    let found : slice_get c.args.equations.now c.loop-i.i ≡ Some c.index-equations-i.result =
    slice_get_read c.args.equations.now (length c.args.equations.now) c.loop-i.i c.index-equations-i.result refl (omega (arith, c.loop-i-test.true)) c.index-equations-i.is in
    record { holds = (c.index-equations-i.result, found, sym c.is_idle.ensures ∙ c.if-is_idle.true); least = c.loop-i.invariant }

pub loop-i-preserved : goal.loop-i-preserved
loop-i-preserved c = λ j below idle.
    let found : slice_get c.args.equations.now c.loop-i.i ≡ Some c.index-equations-i.result =
    slice_get_read c.args.equations.now (length c.args.equations.now) c.loop-i.i c.index-equations-i.result refl (omega (arith, c.loop-i-test.true)) c.index-equations-i.is in
    elim (cases_eq j c.loop-i.i) [
      | inl same ↦
          let e : idle.0 ≡ c.index-equations-i.result = same_Some idle.0 c.index-equations-i.result (sym idle.1 ∙ (ap (λ k. slice_get c.args.equations.now k) same ∙ found)) in
          let t : is_idle c.index-equations-i.result c.args.used.now c.loop-i.i ≡ true =
          subst (λ k. is_idle c.index-equations-i.result c.args.used.now k ≡ true) same (subst (λ z. is_idle z c.args.used.now j ≡ true) e idle.2) in
          cc (t, c.is_idle.ensures, c.if-is_idle.false)
      | inr other ↦ c.loop-i.invariant j (omega (arith, below, other)) idle
    ]

pub returns : goal.returns
returns c = λ j idle.
    c.loop-i.invariant j (let inside = slice_get_within c.args.equations.now j idle.0 idle.1 in omega (arith, inside, c.loop-i-test.false)) idle
