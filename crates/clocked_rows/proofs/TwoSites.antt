-- Two conditions that fail at one instant.
use Rattle.std.proofs.Common.{◌≡◌, refl, ℕ, zero, suc, ◌<◌, Some, None, lit<, arith, pos, slice_get, true, false, IsSome}
use Rattle.std.proofs.lemmas.Fmt.{decimal_digit}
use Rattle.std.proofs.Math.Dec.{eqb-zero-suc}
use Rattle.sync_values.specs.declared.value.Value.TheVariants as value
use Rattle.sync_values.specs.declared.value.Fail.TheVariants.{Divide}
use Rattle.flat_model.specs.declared.clock.Moment.TheVariants.{At}
use Rattle.flat_model.specs.Assignment.{Assignment}
use Rattle.flat_model.specs.Faults.{SiteFails}
use Rattle.flat_model.specs.Occurrences.{bare_count}
use Rattle.flat_model.specs.Setting.{site_answer}
use Rattle.flat_model.specs.Meets.{MeetsAt}
use Rattle.flat_model.specs.Operators.{Is, Fails}
use Rattle.flat_model.proofs.Values.{values}
use Rattle.clocked_rows.specs.Instants.{whole}
use Rattle.clocked_rows.specs.TwoSites as row
use Rattle.clocked_rows.proofs.Counts.{levels}
use Rattle.clocked_rows.proofs.Each.{met_at, name_at, equation_at}

others : (m x : ℕ) → slice_get row.setting.model.names x ≡ None → row.values x m ≡ None
others m zero h = absurd cc
others m (suc zero) h = absurd cc
others m (suc (suc zero)) h = absurd cc
others m (suc (suc (suc x))) h = refl

initially : MeetsAt row.setting row.values 0
initially = met_at row.setting row.values 0 ((refl, (value.Int (pos 6), refl, refl)), ((tt, refl), ((tt, refl), tt))) (others 0) ((false, simp values), ((false, simp values), tt)) (tt, (tt, tt))

at_zero : MeetsAt row.setting row.values 1
at_zero = met_at row.setting row.values 1
    ((refl, (value.Int (pos 6), refl, refl)), (name_at row.setting row.values 1 1 row.a false (simp values) tt refl, (name_at row.setting row.values 1 2 row.b false (simp values) tt refl, tt)))
    (others 1) ((false, simp values), ((false, simp values), tt))
    (equation_at row.setting row.values 1 0 row.first_count false (simp values) tt, (equation_at row.setting row.values 1 1 row.second_count false (simp values) tt, tt))

at_one : MeetsAt row.setting row.values 2
at_one = met_at row.setting row.values 2 (
  (refl, (value.Int (pos 2), refl, refl)),
  (name_at row.setting row.values 2 1 row.a true (simp values) tt (value.Int (pos 1), refl, refl), (name_at row.setting row.values 2 2 row.b true (simp values) tt (value.Int (pos 1), refl, refl), tt)),
)
    (others 2) ((true, simp values), ((true, simp values), tt))
    (equation_at row.setting row.values 2 0 row.first_count true (simp values) (value.Int (pos 1), simp values, simp values), (equation_at row.setting row.values 2 1 row.second_count true (simp values) (value.Int (pos 1), simp values, simp values), tt))

pub met_before : row.IsMetBefore
met_before zero lt = initially
met_before (suc zero) lt = at_zero
met_before (suc (suc zero)) lt = at_one
met_before (suc (suc (suc m))) lt = absurd (omega (arith, lt))

-- both conditions read u alone
reads_first : (y : ℕ) → 0 < bare_count y row.first_condition → IsSome (row.values y 3)
reads_first zero lt = refl
reads_first (suc y) lt = let none : bare_count (suc y) row.first_condition ≡ 0 = simp (levels, eqb-zero-suc) in absurd (omega (arith, lt, none))

reads_second : (y : ℕ) → 0 < bare_count y row.second_condition → IsSome (row.values y 3)
reads_second zero lt = refl
reads_second (suc y) lt = let none : bare_count (suc y) row.second_condition ≡ 0 = simp (levels, eqb-zero-suc) in absurd (omega (arith, lt, none))

first_fails : SiteFails row.setting row.values 3 0 Divide
first_fails = record { condition = row.first_condition; found = refl; reads = reads_first; fails = simp values }

second_fails : SiteFails row.setting row.values 3 1 Divide
second_fails = record { condition = row.second_condition; found = refl; reads = reads_second; fails = simp values }

pub first : row.IsFirst
first uses = (first_fails, λ j k lt f. omega (arith, lt))

pub second_not_first : row.IsSecondNotFirst
second_not_first = (second_fails, λ uses is. is.1 0 Divide (omega arith) first_fails)

pub line : row.IsLine
line = rw (decimal_digit 1 (lit< tt), decimal_digit 2 (lit< tt))

pub printed : row.IsPrinted
printed = rw (decimal_digit 0 (lit< tt), decimal_digit 1 (lit< tt), decimal_digit 2 (lit< tt), decimal_digit 6 (lit< tt))

-- where u is 0, the first condition has no value
divides : (S : Assignment) → S 0 3 ≡ Some (value.Int (pos 0)) → site_answer row.setting S 0 3 ≡ Fails Divide
divides S zero_is = simp (values, zero_is)

pub met_by_none : row.IsMetByNone
met_by_none S h =
    let at = h 3 (omega arith) in
    let zero_is : S 0 3 ≡ Some (value.Int (pos 0)) = at.inputs 0 _ (At (whole 2)) refl refl refl in
    let (b, is) = at.sites 0 row.first_condition refl in
    let fails = divides S zero_is in
    absurd cc
