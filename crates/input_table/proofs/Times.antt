-- A text that `rational_time` reads is a time of the table, or is not.
use Rattle.std.proofs.Common.{◌≡◌, sym, subst, ◌<◌, ◌^◌, ◌↔◌, ℕ, List, Result, Ok, Err, arith}
use Rattle.rational_time.specs.declared.ratio.Ratio.{Ratio}
use Rattle.rational_time.specs.declared.time_text.RatioFault.{RatioFault}
use Rattle.rational_time.specs.declared.time_text.RatioFault.TheVariants.{Malformed, TooFine}
use Rattle.rational_time.specs.Fraction.{IsFraction, Exceeds}
use Rattle.rational_time.specs.TimeText.{WritesTime}
use Rattle.rational_time.proofs.TimeTexts.{WritesTime-unique, WritesTime-positive}
use Rattle.rational_time.proofs.Fractions.{IsLowest-unique, IsLowest-ratio, below_limits}
use Rattle.input_table.specs.Fields.{IsTimeText}
use Rattle.flat_model.specs.Tables.{IsTime}

-- two fractions of one value are one
pub fraction_once : (t u : Ratio) (n d : ℕ) → 0 < d → IsFraction t n d → IsFraction u n d → (t.num ≡ u.num) × (t.den ≡ u.den)
fraction_once t u n d pos is at = IsLowest-unique n d t.num t.den u.num u.den pos (IsLowest-ratio t n d is) (IsLowest-ratio u n d at)

-- an instant in range is not too fine
pub not_fine : (t : Ratio) (n d : ℕ) → 0 < d → IsFraction t n d → IsTime t → Exceeds (2 ^ 60) (2 ^ 32) n d → ⊥
not_fine t n d pos is within =
    let small : t.num < 2 ^ 60 = omega (arith, within.0, within.1) in
    below_limits (2 ^ 60) (2 ^ 32) n d t.num t.den pos (IsLowest-ratio t n d is) small within.1

-- two times of one text are one
pub time_once : (text : List ℕ) (t u : Ratio) (n d m e : ℕ) → WritesTime text n d → WritesTime text m e → IsFraction t n d → IsFraction u m e → (t.num ≡ u.num) × (t.den ≡ u.den)
time_once text t u n d m e v w is at =
    let same = WritesTime-unique text n d m e v w in
    fraction_once t u n d (WritesTime-positive text n d v) is (subst (λ x. IsFraction u x d) (sym same.0) (subst (λ x. IsFraction u m x) (sym same.1) at))

ok_err : {A E : Type 0} (a : A) (e : E) (r : Result A E) → r ≡ Ok a → r ≡ Err e → ⊥
ok_err a e r p q = cc

-- what a text that was read gives
abbrev Written : List ℕ → Ratio → Type 0
Written text r = (n : ℕ) × (d : ℕ) × WritesTime text n d × IsFraction r n d

abbrev IsTooFine : List ℕ → Type 0
IsTooFine text = (n : ℕ) × (d : ℕ) × WritesTime text n d × Exceeds (2 ^ 60) (2 ^ 32) n d

pub time_is : (text : List ℕ) (t : Ratio) → Written text t → IsTime t → IsTimeText text t
time_is text t value within = record { num = value.0; den = value.1; writes = value.2; is = value.3; within = within }

-- equal parts have one range
pub range_same : (t u : Ratio) → t.num ≡ u.num → t.den ≡ u.den → IsTime t → IsTime u
range_same t u num den within = (omega (arith, num, den, within.0), omega (arith, den, within.1))

pub out_of_range : (text : List ℕ) (time : Ratio) → Written text time → (IsTime time → ⊥) → (t : Ratio) → IsTimeText text t → ⊥
out_of_range text time value out t is =
    let same = time_once text t time is.num is.den value.0 value.1 is.writes value.2 is.is value.3 in
    out (range_same t time same.0 same.1 is.within)

pub no_time : (text : List ℕ) (fault : RatioFault) (r : Result Ratio RatioFault) → r ≡ Err fault → ((r ≡ Err Malformed) ↔ ((n d : ℕ) → WritesTime text n d → ⊥)) → ((r ≡ Err TooFine) ↔ IsTooFine text) → (t : Ratio) → IsTimeText text t → ⊥
no_time text Malformed r is malformed fine t time = malformed.0 is time.num time.den time.writes
no_time text TooFine r is malformed fine t time =
    let ex = fine.0 is in
    let same = WritesTime-unique text ex.0 ex.1 time.num time.den ex.2 time.writes in
    let too : Exceeds (2 ^ 60) (2 ^ 32) time.num time.den = subst (λ x. Exceeds (2 ^ 60) (2 ^ 32) x time.den) same.0 (subst (λ x. Exceeds (2 ^ 60) (2 ^ 32) ex.0 x) same.1 ex.3) in
    not_fine t time.num time.den (WritesTime-positive text time.num time.den time.writes) time.is time.within too
