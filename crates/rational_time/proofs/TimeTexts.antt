-- Time texts read from the front: the digits first, then what follows them.
use Rattle.std.proofs.Common.{◌≡◌, ◌≢◌, refl, sym, ◌∙◌, ap, subst, ℕ, ◌+◌, ◌*◌, ◌^◌, ◌<◌, ◌≤◌, ◌++◌, List, [], ◌∷◌, length, arith, append-nil, pow-suc, get_or, zero, suc, take, Option, Some, None, MatchOption, Err, ok_or, IsNone, IfSome, IfOk, ◌↔◌, true, false, lit≤, lit<}
use Rattle.std.specs.Char.{digit_value}
use Rattle.std.specs.Str.Parse.{AllDigits, digits_value}
use Rattle.std.proofs.lemmas.List.{length-take-le}
use Rattle.std.proofs.lemmas.Int.Digits.{digits_more, digits_value_more}
use Rattle.std.proofs.lemmas.Str.Parse.{digits_value_short}
use Rattle.rational_time.specs.TimeText.{IsNumeral, WritesTime}
use Rattle.rational_time.specs.declared.ratio.Ratio.{Ratio}
use Rattle.rational_time.specs.declared.time_text.RatioFault.TheVariants.{Malformed, TooFine}
use Rattle.rational_time.specs.Fraction.{IsFraction, Exceeds}
use Rattle.rational_time.specs.TimeText.WritesTime.{whole, quotient, decimal}
use Rattle.rational_time.specs.private.Front.{Begins, IsNoDigitFirst}

-- the digits in front of a text and the rest
pub record IsSplit (text first rest : List ℕ) : Type 0 where
  pub joined : text ≡ first ++ rest
  pub digits : AllDigits 10 first
  pub other : IsNoDigitFirst rest

-- a text is split in one way
same_split : (a b c d : List ℕ) → AllDigits 10 a → AllDigits 10 b → IsNoDigitFirst c → IsNoDigitFirst d → a ++ c ≡ b ++ d → (a ≡ b) × (c ≡ d)
same_split [] [] c d p q r s e = (refl, e)
same_split [] (y ∷ b) c d p q r s e =
    let clash : 10 ≤ digit_value y = subst IsNoDigitFirst e r in absurd (omega (arith, q.0))
same_split (x ∷ a) [] c d p q r s e =
    let clash : 10 ≤ digit_value x = subst IsNoDigitFirst (sym e) s in absurd (omega (arith, p.0))
same_split (x ∷ a) (y ∷ b) c d p q r s e =
    let heads : x ≡ y = cc in
    let tails : a ++ c ≡ b ++ d = cc in
    let parts = same_split a b c d p.1 q.1 r s tails in
    let firsts : a ≡ b = parts.0 in
    (cc, parts.1)

-- what a split text writes
pub data Parts (first rest : List ℕ) (n d : ℕ) : Type 0 where
  alone : rest ≡ [] → IsNumeral 18 first → n ≡ digits_value 10 first → d ≡ 1 → Parts first rest n d
  over : (under : List ℕ) → rest ≡ 47 ∷ under → IsNumeral 18 first → IsNumeral 18 under → n ≡ digits_value 10 first → d ≡ digits_value 10 under → 0 < d → Parts first rest n d
  point : (part : List ℕ) → rest ≡ 46 ∷ part → IsNumeral 18 first → IsNumeral 9 part → n ≡ digits_value 10 first * 10 ^ length part + digits_value 10 part → d ≡ 10 ^ length part → Parts first rest n d

parts_at : (first rest other last : List ℕ) (n d : ℕ) → (first ≡ other) × (rest ≡ last) → Parts other last n d → Parts first rest n d
parts_at first rest other last n d e p = rw (e.0, e.1) p

-- what a text writes, it writes by its split
pub parts_of : (text first rest : List ℕ) (n d : ℕ) → IsSplit text first rest → WritesTime text n d → Parts first rest n d
parts_of text first rest n d h (whole numeral num den) =
    parts_at first rest text [] n d (same_split first text rest [] h.digits numeral.digits h.other tt (sym h.joined ∙ sym (append-nil text)))
    (alone refl numeral num den)
parts_of text first rest n d h (quotient top under e p q num den pos) =
    parts_at first rest top (47 ∷ under) n d (same_split first top rest (47 ∷ under) h.digits p.digits h.other (lit≤ tt) (sym h.joined ∙ e))
    (over under refl p q num den pos)
parts_of text first rest n d h (decimal top part e p q num den) =
    parts_at first rest top (46 ∷ part) n d (same_split first top rest (46 ∷ part) h.digits p.digits h.other (lit≤ tt) (sym h.joined ∙ e))
    (point part refl p q num den)

-- a text that writes a fraction has a split
split_of : (text : List ℕ) (n d : ℕ) → WritesTime text n d → (first : List ℕ) × (rest : List ℕ) × IsSplit text first rest
split_of text n d (whole numeral num den) = (text, [], record { joined = sym (append-nil text); digits = numeral.digits; other = tt })
split_of text n d (quotient top under e p q num den pos) = (top, 47 ∷ under, record { joined = e; digits = p.digits; other = lit≤ tt })
split_of text n d (decimal top part e p q num den) = (top, 46 ∷ part, record { joined = e; digits = p.digits; other = lit≤ tt })

marks_differ : (a b : List ℕ) → 47 ∷ a ≡ 46 ∷ b → ⊥
marks_differ a b e = omega (arith, ap (λ l. get_or l 0 0) e)

same_parts : (first rest : List ℕ) (n d m e : ℕ) → Parts first rest n d → Parts first rest m e → (n ≡ m) × (d ≡ e)
same_parts first rest n d m e (alone r p num den) (alone s q num' den') = (cc, cc)
same_parts first rest n d m e (alone r p num den) (over under s q t num' den' pos) = absurd cc
same_parts first rest n d m e (alone r p num den) (point part s q t num' den') = absurd cc
same_parts first rest n d m e (over under r p t num den pos) (alone s q num' den') = absurd cc
same_parts first rest n d m e (over under r p t num den pos) (over under' s q t' num' den' pos') = let k : under ≡ under' = cc in (cc, cc)
same_parts first rest n d m e (over under r p t num den pos) (point part s q t' num' den') = absurd (marks_differ under part (sym r ∙ s))
same_parts first rest n d m e (point part r p t num den) (alone s q num' den') = absurd cc
same_parts first rest n d m e (point part r p t num den) (over under s q t' num' den' pos) = absurd (marks_differ under part (sym s ∙ r))
same_parts first rest n d m e (point part r p t num den) (point part' s q t' num' den') = let k : part ≡ part' = cc in (cc, cc)

-- a text writes one fraction at most
pub WritesTime-unique : (text : List ℕ) (n d m e : ℕ) → WritesTime text n d → WritesTime text m e → (n ≡ m) × (d ≡ e)
WritesTime-unique text n d m e v w =
    let s = split_of text n d v in
    same_parts s.0 s.1 n d m e (parts_of text s.0 s.1 n d s.2 v) (parts_of text s.0 s.1 m e s.2 w)

ten_positive : (k : ℕ) → 0 < 10 ^ k
ten_positive zero = lit< tt
ten_positive (suc k) = omega (arith, pow-suc 10 k, ten_positive k)

-- what is written has a denominator
pub WritesTime-positive : (text : List ℕ) (n d : ℕ) → WritesTime text n d → 0 < d
WritesTime-positive text n d (whole numeral num den) = omega (arith, den)
WritesTime-positive text n d (quotient top under e p q num den pos) = pos
WritesTime-positive text n d (decimal top part e p q num den) = rw den (ten_positive (length part))

-- what follows from the parts of a split text that is not read
pub no_mark : (first rest tail : List ℕ) (mark n d : ℕ) → rest ≡ mark ∷ tail → mark ≢ 47 → mark ≢ 46 → Parts first rest n d → ⊥
no_mark first rest tail mark n d e p q (alone r a num den) = absurd cc
no_mark first rest tail mark n d e p q (over under r a b num den pos) = p cc
no_mark first rest tail mark n d e p q (point part r a b num den) = q cc

pub no_quotient : (first rest tail : List ℕ) (n d : ℕ) → rest ≡ 47 ∷ tail → (IsNumeral 18 tail → digits_value 10 tail ≡ 0) → Parts first rest n d → ⊥
no_quotient first rest tail n d e none (alone r a num den) = absurd cc
no_quotient first rest tail n d e none (over under r a b num den pos) =
    let k : under ≡ tail = cc in
    let z : digits_value 10 under ≡ 0 = subst (λ t. IsNumeral 18 t → digits_value 10 t ≡ 0) (sym k) none b in omega (arith, den, z)
no_quotient first rest tail n d e none (point part r a b num den) = absurd (marks_differ tail part (sym e ∙ r))

pub no_decimal : (first rest tail : List ℕ) (n d : ℕ) → rest ≡ 46 ∷ tail → (IsNumeral 9 tail → ⊥) → Parts first rest n d → ⊥
no_decimal first rest tail n d e none (alone r a num den) = absurd cc
no_decimal first rest tail n d e none (over under r a b num den pos) = absurd (marks_differ under tail (sym r ∙ e))
no_decimal first rest tail n d e none (point part r a b num den) = let k : part ≡ tail = cc in none (subst (IsNumeral 9) k b)

-- a digit more keeps a text of digits one, and its number is ten times the number before and the digit
pub one_digit_more : (text : List ℕ) (at value digit : ℕ) → at < length text → AllDigits 10 (take at text) → value ≡ digits_value 10 (take at text) →
    digit_value (get_or text at 0) < 10 → digit_value (get_or text at 0) ≡ digit →
    AllDigits 10 (take (at + 1) text) × (value * 10 + digit ≡ digits_value 10 (take (at + 1) text))
one_digit_more text at value digit h all v below d =
    (digits_more 10 text at h all below, omega (arith, digits_value_more 10 text at h, v, d))

-- the number of at most 18 first digits is below 10^18
pub value_below : (text : List ℕ) (at : ℕ) → at ≤ length text → at ≤ 18 → AllDigits 10 (take at text) → digits_value 10 (take at text) < 10 ^ 18
value_below text at inside few all =
    digits_value_short (record { to = λ ds h. h; from = λ ds h. h; same = λ ds h. refl }) (take at text) 18 all (omega (arith, length-take-le at text inside))

-- a byte that is no digit is in no text of digits
pub no_digit : (text : List ℕ) (at : ℕ) → at < length text → 10 ≤ digit_value (get_or text at 0) → AllDigits 10 text → ⊥
no_digit [] at h big all = absurd (omega arith)
no_digit (x ∷ xs) zero h big all = omega (arith, all.0)
no_digit (x ∷ xs) (suc at) h big all = no_digit xs at (omega arith) big all.1

-- the split of a text that begins with a numeral
pub split_at_front : (text : List ℕ) (value : ℕ) (rest : List ℕ) (b : Begins 18 text value rest) → IsSplit text b.first rest
split_at_front text value rest b = record { joined = b.joined; digits = b.numeral.digits; other = b.other }

-- a text that writes a fraction begins with a numeral
pub front_of : (text : List ℕ) (n d : ℕ) → WritesTime text n d → (value : ℕ) × (rest : List ℕ) × Begins 18 text value rest
front_of text n d (whole numeral num den) = (digits_value 10 text, [], record { first = text; joined = sym (append-nil text); numeral = numeral; other = tt; is = refl })
front_of text n d (quotient top under e p q num den pos) = (digits_value 10 top, 47 ∷ under, record { first = top; joined = e; numeral = p; other = lit≤ tt; is = refl })
front_of text n d (decimal top part e p q num den) = (digits_value 10 top, 46 ∷ part, record { first = top; joined = e; numeral = p; other = lit≤ tt; is = refl })

-- the digits in front are at least as many as any digits from the start
digits_in_front : (k : ℕ) (first rest : List ℕ) → IsNoDigitFirst rest → k ≤ length (first ++ rest) → AllDigits 10 (take k (first ++ rest)) → k ≤ length first
digits_in_front zero first rest other inside all = omega arith
digits_in_front (suc k) [] [] other inside all = absurd (omega arith)
digits_in_front (suc k) [] (y ∷ rest) other inside all = absurd (omega (arith, other, all.0))
digits_in_front (suc k) (x ∷ first) rest other inside all = omega (arith, digits_in_front k first rest other (omega arith) all.1)

-- a text with too many digits in front begins with no numeral
pub long_front : (most : ℕ) (text : List ℕ) → most < length text → AllDigits 10 (take (most + 1) text) → (value : ℕ) (rest : List ℕ) → Begins most text value rest → ⊥
long_front most text inside all value rest b =
    let there : most + 1 ≤ length (b.first ++ rest) = subst (λ l. most + 1 ≤ length l) b.joined (omega arith) in
    let digits : AllDigits 10 (take (most + 1) (b.first ++ rest)) = subst (λ l. AllDigits 10 (take (most + 1) l)) b.joined all in
    omega (arith, digits_in_front (most + 1) b.first rest b.other there digits, b.numeral.few)

-- what is made of the text after a slash is the outcome of the whole text
pub slash_outcome : (text first rest tail : List ℕ) (top : ℕ) (r : Option (ℕ × ℕ)) → IsSplit text first rest → rest ≡ 47 ∷ tail → IsNumeral 18 first → top ≡ digits_value 10 first →
    MatchOption r (IsNumeral 18 tail → digits_value 10 tail ≡ 0) (λ x. IsNumeral 18 tail × (0 < x.1) × (x.0 ≡ top) × (x.1 ≡ digits_value 10 tail)) →
    MatchOption r ((n d : ℕ) → ¬ (WritesTime text n d)) (λ x. WritesTime text x.0 x.1)
slash_outcome text first rest tail top None split e p v h = λ n d w. no_quotient first rest tail n d e h (parts_of text first rest n d split w)
slash_outcome text first rest tail top (Some x) split e p v h =
    quotient first tail (split.joined ∙ ap (λ t. first ++ t) e) p h.0 (h.2 ∙ v) h.3 h.1

-- what is made of the text after a point is the outcome of the whole text
pub point_outcome : (text first rest tail : List ℕ) (top : ℕ) (r : Option (ℕ × ℕ)) → IsSplit text first rest → rest ≡ 46 ∷ tail → IsNumeral 18 first → top ≡ digits_value 10 first →
    MatchOption r (¬ (IsNumeral 9 tail)) (λ x. IsNumeral 9 tail × (x.0 ≡ top * 10 ^ length tail + digits_value 10 tail) × (x.1 ≡ 10 ^ length tail)) →
    MatchOption r ((n d : ℕ) → ¬ (WritesTime text n d)) (λ x. WritesTime text x.0 x.1)
point_outcome text first rest tail top None split e p v h = λ n d w. no_decimal first rest tail n d e h (parts_of text first rest n d split w)
point_outcome text first rest tail top (Some x) split e p v h =
    decimal first tail (split.joined ∙ ap (λ t. first ++ t) e) p h.0 (h.1 ∙ ap (λ n. n * 10 ^ length tail + digits_value 10 tail) v) h.2

-- the clauses of `read` where the text writes n/d
pub read_value : (text : List ℕ) (n d : ℕ) (r : Option Ratio) → WritesTime text n d → IfSome r (λ x. IsFraction x n d) →
    IfOk (ok_or r TooFine) (λ x. (m : ℕ) × (e : ℕ) × WritesTime text m e × IsFraction x m e)
read_value text n d None w h = tt
read_value text n d (Some x) w h = (n, d, w, h)

pub read_malformed : (text : List ℕ) (n d : ℕ) (r : Option Ratio) → WritesTime text n d → (ok_or r TooFine ≡ Err Malformed) ↔ ((m e : ℕ) → ¬ (WritesTime text m e))
read_malformed text n d None w = (λ e. absurd cc, λ none. absurd (none n d w))
read_malformed text n d (Some x) w = (λ e. absurd cc, λ none. absurd (none n d w))

pub read_too_fine : (text : List ℕ) (n d : ℕ) (r : Option Ratio) → WritesTime text n d → IsNone r ↔ Exceeds (2 ^ 60) (2 ^ 32) n d →
    (ok_or r TooFine ≡ Err TooFine) ↔ ((m : ℕ) × (e : ℕ) × WritesTime text m e × Exceeds (2 ^ 60) (2 ^ 32) m e)
read_too_fine text n d None w h = (λ _. (n, d, w, h.0 refl), λ _. refl)
read_too_fine text n d (Some x) w h = (
  λ e. absurd cc,
  λ (m, e, v, past).
      let same = WritesTime-unique text m e n d v w in
      let clash : true ≡ false = h.1 (rw (← same.0, ← same.1) past) in absurd cc,
)
