-- The event clock.
use Rattle.std.proofs.Common.{◌≡◌, refl, subst, ℕ, zero, suc, None, lit<, arith, pos, inl, inr, slice_get, true, false}
use Rattle.std.proofs.lemmas.Fmt.{decimal_digit}
use Rattle.sync_values.specs.declared.value.Value.TheVariants as value
use Rattle.rational_time.specs.declared.ratio.Ratio.{Ratio}
use Rattle.rational_time.specs.Fraction.{Same, AtMost}
use Rattle.flat_model.specs.declared.model.NameKind.TheVariants as kind
use Rattle.flat_model.specs.Assignment.{Assignment}
use Rattle.flat_model.specs.Setting.{name_ticks}
use Rattle.flat_model.specs.Meets.{MeetsAt, HasValueAtTicks}
use Rattle.flat_model.specs.Given.{with_value}
use Rattle.flat_model.specs.Plan.{rows_within}
use Rattle.flat_model.proofs.Values.{values}
use Rattle.clocked_rows.specs.Instants.{whole}
use Rattle.clocked_rows.specs.EventClock as row
use Rattle.clocked_rows.proofs.Listed.{Among, Cause, are_instants}
use Rattle.clocked_rows.proofs.Each.{met_at, name_at, equation_at}

pub printed : row.IsPrinted
printed = rw (decimal_digit 0 (lit< tt), decimal_digit 1 (lit< tt), decimal_digit 2 (lit< tt), decimal_digit 3 (lit< tt), decimal_digit 4 (lit< tt), decimal_digit 5 (lit< tt), decimal_digit 6 (lit< tt), decimal_digit 9 (lit< tt))

others : (m x : ℕ) → slice_get row.setting.model.names x ≡ None → row.values x m ≡ None
others m zero h = absurd cc
others m (suc zero) h = absurd cc
others m (suc (suc zero)) h = absurd cc
others m (suc (suc (suc x))) h = refl

initially : MeetsAt row.setting row.values 0
initially = met_at row.setting row.values 0 ((refl, (value.Int (pos 1), refl, refl)), ((tt, refl), ((tt, refl), tt))) (others 0) ((false, simp values), tt) (tt, (tt, tt))

at_zero : MeetsAt row.setting row.values 1
at_zero = met_at row.setting row.values 1
    ((refl, (value.Int (pos 1), refl, refl)), (name_at row.setting row.values 1 1 row.n false (simp values) tt refl, (name_at row.setting row.values 1 2 row.h false (simp values) tt refl, tt)))
    (others 1) ((false, simp values), tt)
    (equation_at row.setting row.values 1 0 row.counting false (simp values) tt, (equation_at row.setting row.values 1 1 row.halving false (simp values) tt, tt))

at_one : MeetsAt row.setting row.values 2
at_one = met_at row.setting row.values 2
    ((refl, (value.Int (pos 5), refl, refl)), (name_at row.setting row.values 2 1 row.n true (simp values) tt (value.Int (pos 1), refl, refl), (name_at row.setting row.values 2 2 row.h true (simp values) tt (value.Int (pos 1), refl, refl), tt)))
    (others 2) ((true, simp values), tt)
    (equation_at row.setting row.values 2 0 row.counting true (simp values) (value.Int (pos 1), simp values, simp values), (equation_at row.setting row.values 2 1 row.halving true (simp values) (value.Int (pos 1), simp values, simp values), tt))

at_two : MeetsAt row.setting row.values 3
at_two = met_at row.setting row.values 3
    ((refl, (value.Int (pos 6), refl, refl)), (name_at row.setting row.values 3 1 row.n false (simp values) tt refl, (name_at row.setting row.values 3 2 row.h false (simp values) tt refl, tt)))
    (others 3) ((true, simp values), tt)
    (equation_at row.setting row.values 3 0 row.counting false (simp values) tt, (equation_at row.setting row.values 3 1 row.halving false (simp values) tt, tt))

at_three : MeetsAt row.setting row.values 4
at_three = met_at row.setting row.values 4
    ((refl, (value.Int (pos 0), refl, refl)), (name_at row.setting row.values 4 1 row.n false (simp values) tt refl, (name_at row.setting row.values 4 2 row.h false (simp values) tt refl, tt)))
    (others 4) ((false, simp values), tt)
    (equation_at row.setting row.values 4 0 row.counting false (simp values) tt, (equation_at row.setting row.values 4 1 row.halving false (simp values) tt, tt))

at_four : MeetsAt row.setting row.values 5
at_four = met_at row.setting row.values 5
    ((refl, (value.Int (pos 9), refl, refl)), (name_at row.setting row.values 5 1 row.n true (simp values) tt (value.Int (pos 2), refl, refl), (name_at row.setting row.values 5 2 row.h false (simp values) tt refl, tt)))
    (others 5) ((true, simp values), tt)
    (equation_at row.setting row.values 5 0 row.counting true (simp values) (value.Int (pos 2), simp values, simp values), (equation_at row.setting row.values 5 1 row.halving false (simp values) tt, tt))

pub met : row.IsMet
met zero le = initially
met (suc zero) le = at_zero
met (suc (suc zero)) le = at_one
met (suc (suc (suc zero))) le = at_two
met (suc (suc (suc (suc zero)))) le = at_three
met (suc (suc (suc (suc (suc zero))))) le = at_four
met (suc (suc (suc (suc (suc (suc m)))))) le = absurd (omega arith)

listed : (t : Ratio) → AtMost t (whole 4) → Cause row.setting.clocking.clocks row.setting.table.times (whole 4) row.setting.instants t → Among (Same t) row.setting.instants
listed t within (inl first) = inl (omega (arith, first))
listed t within (inr (inl in_row)) = in_row
listed t within (inr (inr (inl none))) = absurd none
listed t within (inr (inr (inr (inl none)))) = absurd none
listed t within (inr (inr (inr (inr none)))) = absurd none

pub instants : row.HasInstants
instants = are_instants _ _ _ _ (omega arith, (omega arith, (omega arith, (omega arith, tt))))
    ((omega arith, inl refl), ((omega arith, inr (inl (inr (inl refl)))), ((omega arith, inr (inl (inr (inr (inl refl))))), ((omega arith, inr (inl (inr (inr (inr (inl refl)))))), ((omega arith, inr (inl (inr (inr (inr (inr (inl refl))))))), tt)))))
    listed

abbrev other : Assignment
other = with_value row.values 3 1 (value.Int (pos 2))

still : name_ticks row.setting other 1 3 ≡ false
still = simp values

pub other_refused : row.IsOtherRefused
other_refused h = let e : HasValueAtTicks kind.Integer false (other 1 3) = subst (λ z. HasValueAtTicks kind.Integer z (other 1 3)) still (h.names 1 row.n refl) in absurd cc

five_rows : rows_within row.setting.table.times (whole 4) ≡ 5
five_rows = refl

pub count : row.HasCount
count n = (
  λ plan. let (ticks, (first, others, one, (second, rest, two, none, more), sum), all) = plan in omega (arith, one, two, none, more, sum, all, five_rows),
  λ is. (10, (5, 5, refl, (5, 0, refl, refl, refl), refl), is),
)
