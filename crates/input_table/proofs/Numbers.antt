-- What `parse` reads as an Integer is a value of the table, and the other way round.
use Rattle.std.proofs.Common.{◌≡◌, ◌≢◌, ◌∙◌, sym, subst, ap, refl, ℕ, zero, suc, ◌<◌, ◌≤◌, ◌^◌, ◌⊎◌, inl, inr, List, [], ◌∷◌, ◌++◌, length, drop, take, get_or, ◌+◌, ◌*◌, codes, ℤ, pos, neg_ℤ, Result, Ok, Err, MatchResult, arith, w64}
use Rattle.std.specs.Str.{IsAscii, IsUtf8}
use Rattle.std.specs.Int.{IsInRange as IsBetween}
use Rattle.std.specs.Str.Parse.{AllDigits, digits_value, ParsesSigned}
use Rattle.std.specs.Result.{OkIff}
use Rattle.std.proofs.lemmas.Str.{IsUtf8-from_ascii}
use Rattle.std.proofs.lemmas.Str.Parse.{IsNumeralModel, numerals_by_value, tells_digits, parse_signed_plain, parse_signed_plus, parse_signed_minus, digit_at, digits_value_short}
use Rattle.std.proofs.lemmas.Bool.Decides.{eqb_tells, leb_tells}
use Rattle.std.proofs.lemmas.List.{get_or_past, length-take-le, take_all}
use Rattle.std.proofs.lemmas.Int.Digits.{digits_more, digits_value_more}
use Rattle.std.specs.Char.{digit_value}
use Rattle.sync_values.specs.declared.value.Value.{Value}
use Rattle.sync_values.specs.declared.value.Value.TheVariants as value
use Rattle.flat_model.specs.declared.model.NameKind.{NameKind}
use Rattle.flat_model.specs.declared.model.NameKind.TheVariants as kind
use Rattle.input_table.specs.Fields.{IsValue, natural, negative, truth, falsity}

own : IsNumeralModel (AllDigits 10) (digits_value 10)
own = numerals_by_value (AllDigits 10) tells_digits

-- the first byte of digits is a digit
pub first_digit : (digits : List ℕ) → 0 < length digits → AllDigits 10 digits → IsBetween 48 57 (get_or digits 0 0)
first_digit digits some all = digit_at digits 0 all some

-- a text that writes an Integer, by its first byte
pub data Written (text : List ℕ) (v : Value) : Type 0 where
  plain : 0 < length text → AllDigits 10 text → digits_value 10 text < 2 ^ 63 → v ≡ value.Int (pos (digits_value 10 text)) → Written text v
  plus : (digits : List ℕ) → text ≡ 43 ∷ digits → 0 < length digits → AllDigits 10 digits → digits_value 10 digits < 2 ^ 63 → v ≡ value.Int (pos (digits_value 10 digits)) → Written text v
  minus : (digits : List ℕ) → text ≡ 45 ∷ digits → 0 < length digits → AllDigits 10 digits → digits_value 10 digits ≤ 2 ^ 63 → v ≡ value.Int (neg_ℤ (pos (digits_value 10 digits))) → Written text v

written_by_sign : (text sign digits : List ℕ) → text ≡ sign ++ digits → (sign ≡ []) ⊎ (sign ≡ codes "+") → 0 < length digits → AllDigits 10 digits → digits_value 10 digits < 2 ^ 63 → Written text (value.Int (pos (digits_value 10 digits)))
written_by_sign text sign digits is (inl none) some all small =
    let same : text ≡ digits = is ∙ ap (λ s. s ++ digits) none in
    subst (λ t. Written t (value.Int (pos (digits_value 10 digits)))) (sym same) (plain some all small refl)
written_by_sign text sign digits is (inr mark) some all small = plus digits (is ∙ ap (λ s. s ++ digits) mark) some all small refl

pub written_as : (text : List ℕ) (k : NameKind) (v : Value) → k ≡ kind.Integer → IsValue text k v → Written text v
written_as text k v is (natural sign digits split mark some all small) = written_by_sign text sign digits split mark some all small
written_as text k v is (negative digits split some all small) = minus digits split some all small refl
written_as text k v is (truth w) = cc
written_as text k v is (falsity w) = cc

-- what is read of a text with no sign in front
read_plain : {E : Type 0} (text : List ℕ) (r : Result ℤ E) → get_or text 0 0 ≢ 43 → get_or text 0 0 ≢ 45
    → OkIff r (AllDigits 10 text × (0 < length text) × (digits_value 10 text < 2 ^ 63)) (pos (digits_value 10 text))
    → MatchResult r (λ z. IsValue text kind.Integer (value.Int z)) (λ _. (v : Value) → IsValue text kind.Integer v → ⊥)
read_plain text (Ok z) a b is = subst (λ z. IsValue text kind.Integer (value.Int z)) (sym is.1) (natural [] text refl (inl refl) is.0.1 is.0.0 is.0.2)
read_plain text (Err e) a b none = λ v value. by_form v (written_as text kind.Integer v refl value)
  where
    by_form : (v : Value) → Written text v → ⊥
    by_form v (plain some all small is_v) = none (all, some, small)
    by_form v (plus digits is some all small is_v) = a (ap (λ t. get_or t 0 0) is)
    by_form v (minus digits is some all small is_v) = b (ap (λ t. get_or t 0 0) is)

read_plus : {E : Type 0} (text : List ℕ) (r : Result ℤ E) → get_or text 0 0 ≡ 43
    → OkIff r (AllDigits 10 (drop 1 text) × (0 < length (drop 1 text)) × (digits_value 10 (drop 1 text) < 2 ^ 63)) (pos (digits_value 10 (drop 1 text)))
    → MatchResult r (λ z. IsValue text kind.Integer (value.Int z)) (λ _. (v : Value) → IsValue text kind.Integer v → ⊥)
read_plus [] r a is = absurd (omega arith)
read_plus (c ∷ cs) (Ok z) a is =
    subst (λ z. IsValue (c ∷ cs) kind.Integer (value.Int z)) (sym is.1) (natural (codes "+") cs (ap (λ x. x ∷ cs) a) (inr refl) is.0.1 is.0.0 is.0.2)
read_plus (c ∷ cs) (Err e) a none = λ v value. by_form v (written_as (c ∷ cs) kind.Integer v refl value)
  where
    by_form : (v : Value) → Written (c ∷ cs) v → ⊥
    by_form v (plain some all small is_v) = let d = first_digit (c ∷ cs) some all in omega (arith, d)
    by_form v (plus digits is some all small is_v) = let same : cs ≡ digits = cc in none (rw same all, rw same some, rw same small)
    by_form v (minus digits is some all small is_v) = let first : c ≡ 45 = cc in omega arith

read_minus : {E : Type 0} (text : List ℕ) (r : Result ℤ E) → get_or text 0 0 ≡ 45
    → OkIff r (AllDigits 10 (drop 1 text) × (0 < length (drop 1 text)) × (digits_value 10 (drop 1 text) ≤ 2 ^ 63)) (neg_ℤ (pos (digits_value 10 (drop 1 text))))
    → MatchResult r (λ z. IsValue text kind.Integer (value.Int z)) (λ _. (v : Value) → IsValue text kind.Integer v → ⊥)
read_minus [] r a is = absurd (omega arith)
read_minus (c ∷ cs) (Ok z) a is =
    subst (λ z. IsValue (c ∷ cs) kind.Integer (value.Int z)) (sym is.1) (negative cs (ap (λ x. x ∷ cs) a) is.0.1 is.0.0 is.0.2)
read_minus (c ∷ cs) (Err e) a none = λ v value. by_form v (written_as (c ∷ cs) kind.Integer v refl value)
  where
    by_form : (v : Value) → Written (c ∷ cs) v → ⊥
    by_form v (plain some all small is_v) = let d = first_digit (c ∷ cs) some all in omega (arith, d)
    by_form v (plus digits is some all small is_v) = let first : c ≡ 43 = cc in omega arith
    by_form v (minus digits is some all small is_v) = let same : cs ≡ digits = cc in none (rw same all, rw same some, rw same small)

-- what `parse` reads of a text
pub integer_is : {E : Type 0} (text : List ℕ) (r : Result ℤ E) → ParsesSigned w64 10 text r
    → MatchResult r (λ z. IsValue text kind.Integer (value.Int z)) (λ _. (v : Value) → IsValue text kind.Integer v → ⊥)
integer_is text r h = elim (eqb_tells (get_or text 0 0) 43) [
  | inl a ↦ read_plus text r a.1 (parse_signed_plus own w64 text r h a.1)
  | inr a ↦ elim (eqb_tells (get_or text 0 0) 45) [
    | inl b ↦ read_minus text r b.1 (parse_signed_minus own w64 text r h b.1)
    | inr b ↦ read_plain text r a.1 b.1 (parse_signed_plain own w64 text r h a.1 b.1)
  ]
]

-- a text by its sign, where no digits follow
pub no_minus : (text digits : List ℕ) → text ≡ 45 ∷ digits → (0 < length digits → AllDigits 10 digits → ⊥) → (v : Value) → IsValue text kind.Integer v → ⊥
no_minus text digits is none = rw is (read_minus {E = Unit {0}} (45 ∷ digits) (Err tt) refl (λ (all, some, small). none some all))

pub no_plus : (text digits : List ℕ) → text ≡ 43 ∷ digits → (0 < length digits → AllDigits 10 digits → ⊥) → (v : Value) → IsValue text kind.Integer v → ⊥
no_plus text digits is none = rw is (read_plus {E = Unit {0}} (43 ∷ digits) (Err tt) refl (λ (all, some, small). none some all))

pub no_plain : (text digits : List ℕ) (first : ℕ) → text ≡ first ∷ digits → first ≢ 45 → first ≢ 43 → (0 < length text → AllDigits 10 text → ⊥) → (v : Value) → IsValue text kind.Integer v → ⊥
no_plain text digits first is not_minus not_plus none =
    let head : get_or text 0 0 ≡ first = ap (λ t. get_or t 0 0) is in
    read_plain {E = Unit {0}} text (Err tt) (λ e. not_plus (sym head ∙ e)) (λ e. not_minus (sym head ∙ e)) (λ (all, some, small). none some all)

pub no_empty : (text : List ℕ) → length text ≡ 0 → (v : Value) → IsValue text kind.Integer v → ⊥
no_empty [] short = read_plain {E = Unit {0}} [] (Err tt) (λ e. omega (arith, e)) (λ e. omega (arith, e)) (λ (all, some, small). omega (arith, some))
no_empty (c ∷ cs) short = absurd (omega arith)

-- and where digits follow
pub is_minus : (text digits : List ℕ) (n : ℕ) → text ≡ 45 ∷ digits → 0 < length digits → AllDigits 10 digits → n ≡ digits_value 10 digits → n < 2 ^ 63 → IsValue text kind.Integer (value.Int (neg_ℤ (pos n)))
is_minus text digits n is some all value small = rw value (negative digits is some all (omega (arith, value)))

pub is_plus : (text digits : List ℕ) (n : ℕ) → text ≡ 43 ∷ digits → 0 < length digits → AllDigits 10 digits → n ≡ digits_value 10 digits → n < 2 ^ 63 → IsValue text kind.Integer (value.Int (pos n))
is_plus text digits n is some all value small = rw value (natural (codes "+") digits is (inr refl) some all (omega (arith, value)))

pub is_plain : (text : List ℕ) (n : ℕ) → 0 < length text → AllDigits 10 text → n ≡ digits_value 10 text → n < 2 ^ 63 → IsValue text kind.Integer (value.Int (pos n))
is_plain text n some all value small = rw value (natural [] text refl (inl refl) some all (omega (arith, value)))

-- a digit more, of a text of digits
pub digit_more : (text : List ℕ) (at value digit : ℕ) → at < length text → AllDigits 10 (take at text) → value ≡ digits_value 10 (take at text) →
    digit_value (get_or text at 0) < 10 → digit_value (get_or text at 0) ≡ digit →
    AllDigits 10 (take (at + 1) text) × (value * 10 + digit ≡ digits_value 10 (take (at + 1) text))
digit_more text at value digit h all v below d =
    (digits_more 10 text at h all below, omega (arith, digits_value_more 10 text at h, v, d))

-- the number of at most 18 digits
pub digits_small : (text : List ℕ) (at : ℕ) → at ≤ length text → at ≤ 18 → AllDigits 10 (take at text) → digits_value 10 (take at text) < 10 ^ 18
digits_small text at inside few all =
    digits_value_short (record { to = λ ds h. h; from = λ ds h. h; same = λ ds h. refl }) (take at text) 18 all (omega (arith, length-take-le at text inside))

-- the number of a whole text of digits
pub whole_number : (text : List ℕ) (at value : ℕ) → length text ≤ at → at ≤ length text → length text ≤ 18 → AllDigits 10 (take at text) → value ≡ digits_value 10 (take at text)
    → AllDigits 10 text × (value ≡ digits_value 10 text) × (value < 2 ^ 63)
whole_number text at value past inside few all is =
    let small = digits_small text at inside (omega arith) all in
    let whole : take at text ≡ text = take_all at text past in
    (subst (AllDigits 10) whole all, is ∙ ap (digits_value 10) whole, omega (arith, small, is))

-- a byte that is no digit is in no text of digits
pub other_byte : (text : List ℕ) (at : ℕ) → at < length text → 10 ≤ digit_value (get_or text at 0) → AllDigits 10 text → ⊥
other_byte [] at h big all = absurd (omega arith)
other_byte (x ∷ xs) zero h big all = omega (arith, all.0)
other_byte (x ∷ xs) (suc at) h big all = other_byte xs at (omega arith) big all.1

-- digits are ASCII
digits_ascii : (digits : List ℕ) → AllDigits 10 digits → IsAscii digits
digits_ascii digits all i = elim (leb_tells (length digits) i) [
  | inl past ↦ let none : get_or digits i 0 ≡ 0 = get_or_past digits i 0 past.1 in omega (arith, none)
  | inr at ↦ let d = digit_at digits i all (omega (arith, at.1)) in omega (arith, d)
]

-- a text that is no UTF-8 writes no Integer
pub no_text : (text : List ℕ) → (IsUtf8 text → ⊥) → (v : Value) → IsValue text kind.Integer v → ⊥
no_text text none v value = none (IsUtf8-from_ascii text (by_form (written_as text kind.Integer v refl value)))
  where
    behind : (c : ℕ) (digits : List ℕ) → c < 128 → AllDigits 10 digits → text ≡ c ∷ digits → IsAscii text
    behind c digits small all is = rw is (λ i. at i)
      where
        at : (i : ℕ) → get_or (c ∷ digits) i 0 < 128
        at zero = small
        at (suc i) = digits_ascii digits all i

    by_form : Written text v → IsAscii text
    by_form (plain some all small is_v) = digits_ascii text all
    by_form (plus digits is some all small is_v) = behind 43 digits (omega arith) all is
    by_form (minus digits is some all small is_v) = behind 45 digits (omega arith) all is
