-- Where anything failed something is told.
use Rattle.std.proofs.Common.{◌≡◌, refl, ap, Bool, ◌∙◌, sym, ℕ, zero, suc, true, false, nat_le, List, [], ◌∷◌, map, Option, Some, None, slice_get, if◌then◌else◌, eq-eqb, inl, inr, arith}
use Rattle.std.proofs.lemmas.Option.{none-some, same_Some, slice_get_within}
use Rattle.first_failure.specs.declared.least.EquationFailing.{EquationFailing}
use Rattle.flat_model.specs.declared.clock.Moment.{Moment}
use Rattle.flat_model.specs.declared.fault.Fault.{Fault}
use Rattle.flat_model.specs.Assignment.{Assignment}
use Rattle.flat_model.specs.Setting.{Setting}
use Rattle.flat_model.specs.Uses.{Use}
use Rattle.moment_join.specs.Told.{earlier, earliest}
use Rattle.moment_moves.specs.Moments.{fault_of}
use Rattle.partition_step.proofs.Lists.{none_past}
use Rattle.share_join.proofs.Places.{at_map}
use Rattle.site_risings.specs.declared.answers.SiteFailing.{SiteFailing}
use Rattle.window_plan.specs.declared.moment.PlannedMoment.{PlannedMoment}
use Rattle.window_shares.specs.Running.{ClosesAs}
use Rattle.window_shares.specs.Sharing.{ShareRan, HaveRun, told_at, told_by}
use Rattle.window_shares.specs.Stopping.{IsStop, IsFirstStop, fault_in, fault_at}

either_some : (b : Bool) (one two : EquationFailing) → (if b then Some one else Some two) ≡ None → ⊥
either_some true one two none = none-some one (sym none)
either_some false one two none = none-some two (sym none)

-- where the earlier of two is none, both are
earlier_none : (one other : Option EquationFailing) → earlier one other ≡ None → (one ≡ None) × (other ≡ None)
earlier_none None other none = (refl, none)
earlier_none (Some one) None none = absurd (none-some one (sym none))
earlier_none (Some one) (Some other) none = absurd (either_some (nat_le one.equation other.equation) one other none)

earliest_none : (tolds : List (Option EquationFailing)) → earliest tolds ≡ None → (i : ℕ) (told : Option EquationFailing) → slice_get tolds i ≡ Some told → told ≡ None
earliest_none [] none i told found = absurd (none-some told found)
earliest_none (first ∷ tolds) none zero told found = sym (same_Some first told found) ∙ (earlier_none first (earliest tolds) none).0
earliest_none (first ∷ tolds) none (suc i) told found = earliest_none tolds (earlier_none first (earliest tolds) none).1 i told found

-- no fault is told where neither a site nor an equation failed
fault_none : (at : Moment) (site : Option SiteFailing) (told : Option EquationFailing) → fault_of at site told ≡ None → (site ≡ None) × (told ≡ None)
fault_none at None None none = (refl, refl)
fault_none at None (Some failing) none = absurd (none-some _ (sym none))
fault_none at (Some failing) told none = absurd (none-some _ (sym none))

module _ (s : Setting) (uses : List Use) (moments : List PlannedMoment) (A : Assignment) (n : ℕ) (runs : List ShareRan) (have : HaveRun s uses moments A n runs) where
  some_told : (j : ℕ) (moment : PlannedMoment) → slice_get moments j ≡ Some moment → IsStop moment runs j → fault_of moment.at moment.site (told_by moment runs j) ≡ None → ⊥
  some_told j moment here stop none =
      let (site, told) = fault_none moment.at moment.site (told_by moment runs j) none in
      let (own, others) = earlier_none moment.told (earliest (map (told_at j) runs)) told in
      elim stop [
        | inl fails ↦ fails (record { site = site; told = own })
        | inr (i, ran, found, at) ↦
            let still : ran.told ≡ None =
            sym (ap (λ b. if b then ran.told else None) (eq-eqb ran.done j at)) ∙ earliest_none (map (told_at j) runs) others i (told_at j ran) (at_map (told_at j) runs i ran found) in
            let all = (have i ran found).whole still in
            let lt = slice_get_within moments j moment here in
            omega (arith, all, lt, at)
      ]

  pub closes_at : (done : ℕ) → IsFirstStop moments runs done → ClosesAs moments runs done (fault_at moments runs done)
  closes_at done first = by_place (slice_get moments done) refl
    where
      by_fault : (moment : PlannedMoment) → slice_get moments done ≡ Some moment → (fault : Option Fault) → fault_of moment.at moment.site (told_by moment runs done) ≡ fault → ClosesAs moments runs done fault
      by_fault moment here None none = absurd (some_told done moment here (first.stops moment here) none)
      by_fault moment here (Some fault) is = (moment, here, is)

      by_place : (o : Option PlannedMoment) → slice_get moments done ≡ o → ClosesAs moments runs done (fault_in runs done o)
      by_place None none = let past = none_past moments done none in let within = first.quiet.within in omega (arith, past, within)
      by_place (Some moment) here = by_fault moment here (fault_of moment.at moment.site (told_by moment runs done)) refl
