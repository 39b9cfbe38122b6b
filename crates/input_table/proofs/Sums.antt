-- Sums of an instant and the one of the row before.
use Rattle.std.proofs.Common.{◌≡◌, ℕ, ◌+◌, ◌*◌, ◌<◌, ◌^◌, List, ◌++◌, [], ◌∷◌, codes, Option, Some, None, IfSome, IsNone, MatchOption, ◌↔◌, ◌∙◌, sym, subst, mul-pos, arith, refl, ap}
use Rattle.std.specs.Char.{digit_value}
use Rattle.rational_time.specs.declared.ratio.Ratio.{Ratio}
use Rattle.rational_time.specs.Fraction.{DoesNotFit, ArePartsBelow}
use Rattle.rational_time.specs.TimeText.{WritesTime, whole, quotient, decimal, IsNumeral}
use Rattle.rational_time.proofs.Fractions.{IsLowest-ratio, below_limits}
use Rattle.input_table.specs.declared.header.Form.{Form}
use Rattle.input_table.specs.declared.header.Form.TheVariants.{Short}
use Rattle.input_table.specs.Fields.{IsTimeText}
use Rattle.flat_model.specs.Tables.{IsTime}
use Rattle.input_table.specs.Rows.{IsSum, IsInstant, written, added, base_num, base_den}
use Rattle.input_table.proofs.Times.{fraction_once, range_same, time_once}

base_positive : (before : Option Ratio) → 0 < base_den before
base_positive None = omega arith
base_positive (Some t) = t.positive

sum_positive : (before : Option Ratio) (more : Ratio) → 0 < base_den before * more.den
sum_positive before more = mul-pos (base_positive before) more.positive

-- two sums of the same are one
pub sum_once : (before : Option Ratio) (more t u : Ratio) → IsSum before more t → IsSum before more u → (t.num ≡ u.num) × (t.den ≡ u.den)
sum_once before more t u is at = fraction_once t u _ _ (sum_positive before more) is at

-- a sum that fits 64 bits is one in range, if any is
pub sum_out : (before : Option Ratio) (more sum : Ratio) → IsSum before more sum → (IsTime sum → ⊥) → (t : Ratio) → IsSum before more t → IsTime t → ⊥
sum_out before more sum is out t at within = let same = sum_once before more t sum at is in out (range_same t sum same.0 same.1 within)

-- an instant in range has small parts
pub small : (t : Ratio) → IsTime t → ArePartsBelow (2 ^ 62) t
small t within = (omega (arith, within.0, within.1), omega (arith, within.1))

-- a sum that does not fit is not in range
pub sum_fits : (before more t : Ratio) → DoesNotFit (before.num * more.den + more.num * before.den) (before.den * more.den) → IsSum (Some before) more t → IsTime t → ⊥
sum_fits before more t over is within =
    let first : t.num < 2 ^ 64 = omega (arith, within.0, within.1) in
    let second : t.den < 2 ^ 64 = omega (arith, within.1) in
    below_limits (2 ^ 64) (2 ^ 64) _ _ t.num t.den (sum_positive (Some before) more) (IsLowest-ratio t _ _ is) first second over

-- the first time is added to 0
pub sum_of_first : (more : Ratio) → IsSum None more more
sum_of_first more = omega arith

-- no numeral begins with `+`
no_plus : (rest over tail : List ℕ) (most : ℕ) → IsNumeral most over → codes "+" ++ rest ≡ over ++ tail → ⊥
no_plus rest [] tail most n is = omega (arith, n.some)
no_plus rest (c ∷ cs) tail most n is = let first : 43 ≡ c = cc in let less : digit_value 43 < 10 = subst (λ x. digit_value x < 10) (sym first) n.digits.0 in omega (arith, less)

nil_right : (zs : List ℕ) → zs ≡ zs ++ []
nil_right [] = refl
nil_right (z ∷ zs) = ap (λ (w : List ℕ). z ∷ w) (nil_right zs)

plus_unwritten : (text rest : List ℕ) (n d : ℕ) → text ≡ codes "+" ++ rest → WritesTime text n d → ⊥
plus_unwritten text rest n d is (whole numeral value one) = no_plus rest text [] 18 numeral (sym is ∙ nil_right text)
plus_unwritten text rest n d is (quotient over under split first second value other positive) = no_plus rest over (codes "/" ++ under) 18 first (sym is ∙ split)
plus_unwritten text rest n d is (decimal over part split first second value other) = no_plus rest over (codes "." ++ part) 18 first (sym is ∙ split)

-- a text with a `+` in front writes no time
pub plus_no_time : (text rest : List ℕ) (t : Ratio) → text ≡ codes "+" ++ rest → IsTimeText text t → ⊥
plus_no_time text rest t is time = plus_unwritten text rest time.num time.den is time.writes

-- what a time field that is no sum stands for
pub no_sum : (form : Form) (before : Option Ratio) (text : List ℕ) (t : Ratio) → ((rest : List ℕ) → form ≡ Short → text ≡ codes "+" ++ rest → ⊥) → IsInstant form before text t → IsTimeText text t
no_sum form before text t none (written time) = time
no_sum form before text t none (added short rest more is time sum within) = absurd (none rest short is)

-- what a time field that is a sum stands for
pub is_sum : (form : Form) (before : Option Ratio) (text rest : List ℕ) (t : Ratio) → text ≡ codes "+" ++ rest → IsInstant form before text t → (more : Ratio) × IsTimeText rest more × IsSum before more t × IsTime t
is_sum form before text rest t is (written time) = absurd (plus_no_time text rest t is time)
is_sum form before text rest t is (added short other more at time sum within) = let same : other ≡ rest = cc in (more, rw (← same) time, sum, within)

-- the sum of two fractions, or none that fits
pub plus_sum : (before more : Ratio) (r : Option Ratio) → IfSome r (λ t. IsSum (Some before) more t)
    → (IsNone r ↔ DoesNotFit (before.num * more.den + more.num * before.den) (before.den * more.den))
    → MatchOption r ((t : Ratio) → IsSum (Some before) more t → IsTime t → ⊥) (IsSum (Some before) more)
plus_sum before more None sum none = λ t is within. sum_fits before more t (none.0 refl) is within
plus_sum before more (Some t) sum none = sum

-- a text that is no sum stands for the time that it writes
pub plain_time : (form : Form) (before : Option Ratio) (text : List ℕ) (r : Option Ratio) → ((rest : List ℕ) → form ≡ Short → text ≡ codes "+" ++ rest → ⊥)
    → MatchOption r ((t : Ratio) → IsTimeText text t → ⊥) (IsTimeText text)
    → MatchOption r ((t : Ratio) → IsInstant form before text t → ⊥) (λ t. IsInstant form before text t × IsTime t)
plain_time form before text None none unwritten = λ t is. unwritten t (no_sum form before text t none is)
plain_time form before text (Some t) none time = (written time, time.within)

-- equal parts have one sum
same_sum : (before : Option Ratio) (more other t : Ratio) → more.num ≡ other.num → more.den ≡ other.den → IsSum before more t → IsSum before other t
same_sum before more other t num den is =
    let first : t.num * (base_den before * more.den) ≡ (base_num before * more.den + other.num * base_den before) * t.den = subst (λ n. t.num * (base_den before * more.den) ≡ (base_num before * more.den + n * base_den before) * t.den) num is in
    subst (λ d. t.num * (base_den before * d) ≡ (base_num before * d + other.num * base_den before) * t.den) den first

-- a text that is a sum, but of no time
pub no_addend : (form : Form) (before : Option Ratio) (text rest : List ℕ) → text ≡ codes "+" ++ rest → ((t : Ratio) → IsTimeText rest t → ⊥)
    → (t : Ratio) → IsInstant form before text t → ⊥
no_addend form before text rest is unwritten t instant = let sum = is_sum form before text rest t is instant in unwritten sum.0 sum.1

pub summed : (form : Form) (before : Option Ratio) (text rest : List ℕ) (more : Ratio) (r : Option Ratio) → (form ≡ Short) × (text ≡ codes "+" ++ rest) → IsTimeText rest more
    → MatchOption r ((t : Ratio) → IsSum before more t → IsTime t → ⊥) (λ t. IsSum before more t × IsTime t)
    → MatchOption r ((t : Ratio) → IsInstant form before text t → ⊥) (λ t. IsInstant form before text t × IsTime t)
summed form before text rest more None is time none = λ t instant.
    let sum = is_sum form before text rest t is.1 instant in
    let same = time_once rest sum.0 more sum.1.num sum.1.den time.num time.den sum.1.writes time.writes sum.1.is time.is in
    none t (same_sum before sum.0 more t same.0 same.1 sum.2) sum.3
summed form before text rest more (Some t) is time found = (added is.0 rest more is.1 time found.0 found.1, found.1)
