-- Two clocks with nothing between them.
use Rattle.std.proofs.Common.{◌≡◌, refl, ℕ, zero, suc, Some, None, lit<, arith, pos, inl, inr, slice_get}
use Rattle.std.proofs.lemmas.Fmt.{decimal_digit, decimal_step}
use Rattle.sync_values.specs.declared.value.Value.TheVariants as value
use Rattle.rational_time.specs.declared.ratio.Ratio.{Ratio}
use Rattle.rational_time.specs.Fraction.{Same, AtMost}
use Rattle.flat_model.proofs.Values.{values}
use Rattle.clocked_rows.specs.Instants.{whole}
use Rattle.clocked_rows.specs.NoClock as row
use Rattle.clocked_rows.proofs.Listed.{Among, Cause, are_instants}
use Rattle.clocked_rows.proofs.Each.{met_at, differ}

pub printed : row.IsPrinted
printed = rw (
  decimal_step 11 (omega arith) (lit< tt),
  decimal_step 12 (omega arith) (lit< tt),
  decimal_step 14 (omega arith) (lit< tt),
  decimal_digit 0 (lit< tt),
  decimal_digit 1 (lit< tt),
  decimal_digit 2 (lit< tt),
  decimal_digit 3 (lit< tt),
  decimal_digit 4 (lit< tt),
)

others : (m x : ℕ) → slice_get row.setting.model.names x ≡ None → row.values x m ≡ None
others m zero h = absurd cc
others m (suc zero) h = absurd cc
others m (suc (suc x)) h = refl

pub met : row.IsMet
met zero le = met_at row.setting row.values 0
    ((tt, refl), ((tt, refl), tt)) (others 0) tt (tt, (tt, tt))
met (suc zero) le = met_at row.setting row.values 1
    ((tt, (value.Int (pos 1), refl, refl)), ((tt, (value.Int (pos 11), refl, refl)), tt)) (others 1) tt
    ((value.Int (pos 1), simp values, simp values), ((value.Int (pos 11), simp values, simp values), tt))
met (suc (suc zero)) le = met_at row.setting row.values 2
    ((tt, (value.Int (pos 2), refl, refl)), ((tt, refl), tt)) (others 2) tt ((value.Int (pos 2), simp values, simp values), (tt, tt))
met (suc (suc (suc zero))) le = met_at row.setting row.values 3
    ((tt, refl), ((tt, (value.Int (pos 12), refl, refl)), tt)) (others 3) tt (tt, ((value.Int (pos 12), simp values, simp values), tt))
met (suc (suc (suc (suc zero)))) le = met_at row.setting row.values 4
    ((tt, (value.Int (pos 3), refl, refl)), ((tt, refl), tt)) (others 4) tt ((value.Int (pos 3), simp values, simp values), (tt, tt))
met (suc (suc (suc (suc (suc zero))))) le = met_at row.setting row.values 5
    ((tt, (value.Int (pos 4), refl, refl)), ((tt, (value.Int (pos 14), refl, refl)), tt)) (others 5) tt
    ((value.Int (pos 4), simp values, simp values), ((value.Int (pos 14), simp values, simp values), tt))
met (suc (suc (suc (suc (suc (suc m)))))) le = absurd (omega arith)

listed : (t : Ratio) → AtMost t (whole 1) → Cause row.setting.clocking.clocks row.setting.table.times (whole 1) row.setting.instants t → Among (Same t) row.setting.instants
listed t within (inl first) = inl (omega (arith, first))
listed t within (inr (inl (inl first))) = inl first
listed t within (inr (inl (inr none))) = absurd none
listed t within (inr (inr (inl (zero, tick)))) = inl (omega (arith, tick))
listed t within (inr (inr (inl (suc zero, tick)))) = inr (inl (omega (arith, tick)))
listed t within (inr (inr (inl (suc (suc zero), tick)))) = inr (inr (inr (inl (omega (arith, tick)))))
listed t within (inr (inr (inl (suc (suc (suc zero)), tick)))) = inr (inr (inr (inr (inl (omega (arith, tick))))))
listed t within (inr (inr (inl (suc (suc (suc (suc k))), tick)))) = absurd (omega (arith, tick, within, t.positive))
listed t within (inr (inr (inr (inl (zero, tick))))) = inl (omega (arith, tick))
listed t within (inr (inr (inr (inl (suc zero, tick))))) = inr (inr (inl (omega (arith, tick))))
listed t within (inr (inr (inr (inl (suc (suc zero), tick))))) = inr (inr (inr (inr (inl (omega (arith, tick))))))
listed t within (inr (inr (inr (inl (suc (suc (suc k)), tick))))) = absurd (omega (arith, tick, within, t.positive))
listed t within (inr (inr (inr (inr none)))) = absurd none

pub instants : row.HasInstants
instants = are_instants _ _ _ _ (omega arith, (omega arith, (omega arith, (omega arith, tt))))
    ((omega arith, inl refl), ((omega arith, inr (inr (inl (1, refl)))), ((omega arith, inr (inr (inr (inl (1, refl))))), ((omega arith, inr (inr (inl (2, refl)))), ((omega arith, inr (inr (inl (3, refl)))), tt)))))
    listed

pub other_refused : row.IsOtherRefused
other_refused h = differ _ _ (Some 1) _ (value.Int (pos 11)) (value.Int (pos 12)) (simp values) (simp values) (λ e. absurd cc) (h.equations 1 _ refl refl)
