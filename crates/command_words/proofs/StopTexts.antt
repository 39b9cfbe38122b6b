-- Texts that write a stop, or none.
use Rattle.std.proofs.Common.{◌≡◌, sym, ◌∙◌, ℕ, ◌*◌, ◌^◌, ◌<◌, ◌↔◌, List, Result, Ok, Err, inl, inr}
use Rattle.rational_time.specs.declared.ratio.Ratio.{Ratio}
use Rattle.rational_time.specs.declared.time_text.RatioFault.{RatioFault}
use Rattle.rational_time.specs.declared.time_text.RatioFault.TheVariants.{Malformed, TooFine}
use Rattle.rational_time.specs.Fraction.{IsFraction, Exceeds}
use Rattle.rational_time.specs.TimeText.{WritesTime}
use Rattle.rational_time.proofs.Fractions.{below_limits, IsLowest-ratio, IsLowest-unique}
use Rattle.rational_time.proofs.TimeTexts.{WritesTime-unique, WritesTime-positive}
use Rattle.std.proofs.lemmas.Bool.{cases_lt}
use Rattle.command_words.specs.Choice.{IsStop}

-- a text whose fraction is too fine writes no stop
no_fine_stop : (time : List ℕ) (n d : ℕ) → WritesTime time n d → Exceeds (2 ^ 60) (2 ^ 32) n d → (stop : Ratio) → IsStop time stop → ⊥
no_fine_stop time n d w over stop is =
    let same = WritesTime-unique time is.num is.den n d is.writes w in
    let value : IsFraction stop n d = rw (sym same.0, sym same.1) is.value in
    below_limits (2 ^ 60) (2 ^ 32) n d stop.num stop.den (WritesTime-positive time n d w) (IsLowest-ratio stop n d value) is.num_fits is.den_fits over

-- a text of which no time is read writes no stop
pub no_stop_unread : (time : List ℕ) (r : Result Ratio RatioFault) (fault : RatioFault) → r ≡ Err fault
    → (r ≡ Err Malformed) ↔ ((n d : ℕ) → ¬ (WritesTime time n d))
    → (r ≡ Err TooFine) ↔ ((n : ℕ) × (d : ℕ) × WritesTime time n d × Exceeds (2 ^ 60) (2 ^ 32) n d)
    → (stop : Ratio) → IsStop time stop → ⊥
no_stop_unread time r Malformed is malformed fine stop stops = malformed.0 is stops.num stops.den stops.writes
no_stop_unread time r TooFine is malformed fine stop stops =
    let (n, d, w, over) = fine.0 is in no_fine_stop time n d w over stop stops

-- a fraction that is read, in lowest terms, below the limits
pub stop_read : (time : List ℕ) (r : Result Ratio RatioFault) (stop : Ratio) → r ≡ Ok stop
    → (n : ℕ) × (d : ℕ) × WritesTime time n d × IsFraction stop n d
    → (r ≡ Err TooFine) ↔ ((n : ℕ) × (d : ℕ) × WritesTime time n d × Exceeds (2 ^ 60) (2 ^ 32) n d)
    → stop.num < 2 ^ 20 * stop.den → IsStop time stop
stop_read time r stop is (n, d, w, value) fine early = record {
  num = n;
  den = d;
  writes = w;
  value = value;
  num_fits = elim (cases_lt stop.num (2 ^ 60)) [ inl lt ↦ lt | inr ge ↦ absurd (not_fine (n, d, w, (stop.num, stop.den, IsLowest-ratio stop n d value, inl ge))) ];
  den_fits = elim (cases_lt stop.den (2 ^ 32)) [ inl lt ↦ lt | inr ge ↦ absurd (not_fine (n, d, w, (stop.num, stop.den, IsLowest-ratio stop n d value, inr ge))) ];
  early = early;
}
  where
    not_fine : (n : ℕ) × (d : ℕ) × WritesTime time n d × Exceeds (2 ^ 60) (2 ^ 32) n d → ⊥
    not_fine h = let e : Ok stop ≡ Err TooFine = sym is ∙ fine.1 h in cc

-- a text that writes a late time writes no stop
pub no_late_stop : (time : List ℕ) (late : Ratio) → (n : ℕ) × (d : ℕ) × WritesTime time n d × IsFraction late n d
    → (late.num < 2 ^ 20 * late.den → ⊥) → (stop : Ratio) → IsStop time stop → ⊥
no_late_stop time late (n, d, w, value) not_early stop is =
    let same = WritesTime-unique time is.num is.den n d is.writes w in
    let stop_value : IsFraction stop n d = rw (sym same.0, sym same.1) is.value in
    let parts = IsLowest-unique n d late.num late.den stop.num stop.den (WritesTime-positive time n d w) (IsLowest-ratio late n d value) (IsLowest-ratio stop n d stop_value) in
    not_early (rw (parts.0, parts.1) is.early)
