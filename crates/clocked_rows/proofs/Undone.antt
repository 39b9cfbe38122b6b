-- The name behind two signs.
use Rattle.std.proofs.Common.{◌≡◌, refl, ℕ, zero, suc, Some, None, lit<, arith, pos, inl, inr, slice_get, negsuc}
use Rattle.std.proofs.lemmas.Fmt.{decimal_digit}
use Rattle.sync_values.specs.declared.value.Value.TheVariants as value
use Rattle.flat_model.proofs.Values.{values}
use Rattle.rational_time.specs.declared.ratio.Ratio.{Ratio}
use Rattle.rational_time.specs.Fraction.{Same, AtMost}
use Rattle.clocked_rows.specs.Instants.{whole}
use Rattle.clocked_rows.specs.Undone as row
use Rattle.clocked_rows.proofs.Listed.{Among, Cause, are_instants}
use Rattle.clocked_rows.proofs.Each.{met_at, differ}

pub printed : row.IsPrinted
printed = rw (decimal_digit 0 (lit< tt), decimal_digit 1 (lit< tt), decimal_digit 2 (lit< tt), decimal_digit 7 (lit< tt))

others : (m x : ℕ) → slice_get row.setting.model.names x ≡ None → row.values x m ≡ None
others m zero h = absurd cc
others m (suc x) h = refl

pub met : row.IsMet
met zero le = met_at row.setting row.values 0 ((tt, refl), tt) (others 0) tt (tt, tt)
met (suc zero) le = met_at row.setting row.values 1 ((tt, (value.Int (pos 7), refl, refl)), tt) (others 1) tt ((value.Int (pos 0), simp values, simp values), tt)
met (suc (suc zero)) le = met_at row.setting row.values 2 ((tt, (value.Int (pos 0), refl, refl)), tt) (others 2) tt ((value.Int (pos 7), simp values, simp values), tt)
met (suc (suc (suc zero))) le = met_at row.setting row.values 3 ((tt, (value.Int (pos 7), refl, refl)), tt) (others 3) tt ((value.Int (pos 0), simp values, simp values), tt)
met (suc (suc (suc (suc m)))) le = absurd (omega arith)

-- an instant up to 2 is one of the first three ticks
listed : (t : Ratio) → AtMost t (whole 2) → Cause row.setting.clocking.clocks row.setting.table.times (whole 2) row.setting.instants t → Among (Same t) row.setting.instants
listed t within (inl first) = inl (omega (arith, first))
listed t within (inr (inl (inl first))) = inl first
listed t within (inr (inl (inr none))) = absurd none
listed t within (inr (inr (inl (zero, tick)))) = inl (omega (arith, tick))
listed t within (inr (inr (inl (suc zero, tick)))) = inr (inl (omega (arith, tick)))
listed t within (inr (inr (inl (suc (suc zero), tick)))) = inr (inr (inl (omega (arith, tick))))
listed t within (inr (inr (inl (suc (suc (suc k)), tick)))) = absurd (omega (arith, tick, within, t.positive))
listed t within (inr (inr (inr none))) = absurd none

pub instants : row.HasInstants
instants = are_instants _ _ _ _ (omega arith, (omega arith, tt))
    ((omega arith, inl refl), ((omega arith, inr (inr (inl (1, refl)))), ((omega arith, inr (inr (inl (2, refl)))), tt)))
    listed

pub other_refused : row.IsOtherRefused
other_refused h = differ _ _ (Some 0) _ (value.Int (negsuc 6)) (value.Int (pos 7)) (simp values) (simp values) (λ e. absurd cc) (h.equations 0 _ refl refl)
