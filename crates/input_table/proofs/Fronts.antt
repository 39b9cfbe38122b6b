-- What stands in front of a text, field by field.
use Rattle.std.proofs.Common.{◌≡◌, ◌≢◌, ◌∙◌, ap, sym, subst, refl, ℕ, zero, suc, ◌+◌, ◌*◌, ◌/◌, ◌%◌, ◌^◌, ◌<◌, ◌≤◌, inr, List, [], ◌∷◌, ◌++◌, length, take, reverse, codes, Option, Some, None, IfSome, pos, neg_ℤ, true, false, arith, mod-lt, zero-lt-suc}
use Rattle.std.specs.Borrow.{Bor}
use Rattle.std.specs.Int.{IsGcd}
use Rattle.std.specs.Str.Parse.{AllDigits, digits_value}
use Rattle.std.proofs.lemmas.Str.Parse.{digit_at}
use Rattle.std.proofs.lemmas.Bool.{ne_eqb}
use Rattle.std.proofs.lemmas.List.{append_assoc, length-take-le, reverse-append, reverse-reverse}
use Rattle.std.proofs.lemmas.Nat.Gcd.{IsGcd-from_zero, IsGcd-from_mod}
use Rattle.std.proofs.Math.Nat.{div-le_self, eq_of_mul-eq-mul_right, lt_of_mul-lt-mul_right, mul-lt-mul_of_pos_right}
use Rattle.rational_time.specs.declared.ratio.Ratio.{Ratio}
use Rattle.rational_time.specs.Fraction.{IsFraction}
use Rattle.rational_time.specs.TimeText.{IsNumeral, WritesTime, whole, quotient, decimal}
use Rattle.rational_time.proofs.Fractions.{lowest_quotients}
use Rattle.rational_time.proofs.TimeTexts.{WritesTime-positive}
use Rattle.sync_values.specs.declared.value.Value.TheVariants as value
use Rattle.flat_model.specs.Tables.{IsTime}
use Rattle.flat_model.specs.declared.model.NameKind.TheVariants as kind
use Rattle.input_table.specs.declared.header.Form.{Form}
use Rattle.input_table.specs.declared.header.Form.TheVariants.{Short}
use Rattle.input_table.specs.Fields.{without_first_blanks, without_last_blanks, trimmed, truth, falsity}
use Rattle.input_table.specs.Rows.{IsSum, written, added}
use Rattle.input_table.specs.private.Front.{IsPlainByte, IsPlain, IsSmall, NumberFront, WrittenFront, InstantFront, ValueFront}
use Rattle.input_table.proofs.Numbers.{is_minus, is_plus, is_plain, digits_small}
use Rattle.input_table.proofs.Times.{fraction_once}

-- plain fields

plain_byte : (byte : ℕ) → 33 ≤ byte → byte ≢ 44 → IsPlainByte byte
plain_byte byte above other = (other, λ e. omega (arith, e, above), λ e. omega (arith, e, above), λ e. omega (arith, e, above), λ e. omega (arith, e, above))

pub plain_append : (a b : List ℕ) → IsPlain a → IsPlain b → IsPlain (a ++ b)
plain_append [] b p q = q
plain_append (x ∷ a) b p q = (p.0, plain_append a b p.1 q)

digits_plain : (digits : List ℕ) → AllDigits 10 digits → IsPlain digits
digits_plain [] all = tt
digits_plain (c ∷ cs) all =
    let d = digit_at (c ∷ cs) 0 all (omega arith) in
    (plain_byte c (omega (arith, d)) (λ e. omega (arith, d, e)), digits_plain cs all.1)

-- nothing is trimmed off a plain field
front_plain : (field : List ℕ) → IsPlain field → without_first_blanks field ≡ field
front_plain [] p = refl
front_plain (b ∷ rest) p = rw (ne_eqb b 32 p.0.3, ne_eqb b 9 p.0.4) refl

reverse_plain : (field : List ℕ) → IsPlain field → IsPlain (reverse field)
reverse_plain [] p = tt
reverse_plain (b ∷ rest) p =
    subst IsPlain (sym (reverse-append (b ∷ []) rest)) (plain_append (reverse rest) (b ∷ []) (reverse_plain rest p.1) (p.0, tt))

pub trimmed_plain : (field : List ℕ) → IsPlain field → trimmed field ≡ field
trimmed_plain field p =
    ap without_last_blanks (front_plain field p) ∙ ap reverse (front_plain (reverse field) (reverse_plain field p)) ∙ reverse-reverse field

-- numbers

pub number_taken : (text front rest : List ℕ) (at value : ℕ) → at ≢ 0 → at ≤ 18 → at ≤ length text → front ≡ take at text → text ≡ front ++ rest
    → AllDigits 10 (take at text) → value ≡ digits_value 10 (take at text) → NumberFront text value rest
number_taken text front rest at value some few inside front_is joined all is =
    let long = length-take-le at text inside in record {
      digits = take at text;
      joined = joined ∙ ap (λ f. f ++ rest) front_is;
      numeral = record { some = omega (arith, long, some); few = omega (arith, long, few); digits = all };
      is = is;
      small = omega (arith, digits_small text at inside few all, is);
    }

-- time texts

pub written_whole : (text rest : List ℕ) (n : ℕ) → NumberFront text n rest → WrittenFront text n 1 rest
written_whole text rest n f = record {
  field = f.digits;
  joined = f.joined;
  plain = digits_plain f.digits f.numeral.digits;
  writes = whole f.numeral f.is refl;
}

behind_mark : (text rest part behind first second : List ℕ) (mark : ℕ) → text ≡ first ++ rest → rest ≡ mark ∷ part → part ≡ second ++ behind → text ≡ (first ++ mark ∷ second) ++ behind
behind_mark text rest part behind first second mark joined rest_is part_is =
    joined ∙ ap (λ r. first ++ r) (rest_is ∙ ap (λ p. mark ∷ p) part_is) ∙ sym (append_assoc first (mark ∷ second) behind)

mark_plain : (first second : List ℕ) (mark : ℕ) → 33 ≤ mark → mark ≢ 44 → AllDigits 10 first → AllDigits 10 second → IsPlain (first ++ mark ∷ second)
mark_plain first second mark above other a b = plain_append first (mark ∷ second) (digits_plain first a) (plain_byte mark above other, digits_plain second b)

pub written_quotient : (text rest part behind : List ℕ) (n d : ℕ) → NumberFront text n rest → rest ≡ 47 ∷ part → NumberFront part d behind → 0 < d → WrittenFront text n d behind
written_quotient text rest part behind n d f rest_is g some = record {
  field = f.digits ++ 47 ∷ g.digits;
  joined = behind_mark text rest part behind f.digits g.digits 47 f.joined rest_is g.joined;
  plain = mark_plain f.digits g.digits 47 (omega arith) (λ e. omega (arith, e)) f.numeral.digits g.numeral.digits;
  writes = quotient f.digits g.digits refl f.numeral g.numeral f.is g.is some;
}

pub written_decimal : (text rest part behind digits : List ℕ) (whole_ n d : ℕ) → NumberFront text whole_ rest → rest ≡ 46 ∷ part → part ≡ digits ++ behind → IsNumeral 9 digits
    → n ≡ whole_ * 10 ^ length digits + digits_value 10 digits → d ≡ 10 ^ length digits → (0 < d) × WrittenFront text n d behind
written_decimal text rest part behind digits whole_ n d f rest_is part_is numeral num den = (
  WritesTime-positive (f.digits ++ 46 ∷ digits) n d writes_,
  record {
    field = f.digits ++ 46 ∷ digits;
    joined = behind_mark text rest part behind f.digits digits 46 f.joined rest_is part_is;
    plain = mark_plain f.digits digits 46 (omega arith) (λ e. omega (arith, e)) f.numeral.digits numeral.digits;
    writes = writes_;
  },
)
  where
    writes_ : WritesTime (f.digits ++ 46 ∷ digits) n d
    writes_ = decimal f.digits digits refl f.numeral numeral (num ∙ ap (λ w. w * 10 ^ length digits + digits_value 10 digits) f.is) den

pub decimal_written : (text rest part : List ℕ) (whole_ : ℕ) (r : Option (ℕ × ℕ × Bor (List ℕ))) → NumberFront text whole_ rest → rest ≡ 46 ∷ part
    → IfSome r (λ r. (digits : List ℕ) × (part ≡ digits ++ r.2.now) × IsNumeral 9 digits × (r.0 ≡ whole_ * 10 ^ length digits + digits_value 10 digits) × (r.1 ≡ 10 ^ length digits))
    → IfSome r (λ r. (0 < r.1) × WrittenFront text r.0 r.1 r.2.now)
decimal_written text rest part whole_ None f rest_is h = tt
decimal_written text rest part whole_ (Some r) f rest_is h = written_decimal text rest part r.2.now h.0 whole_ r.0 r.1 f rest_is h.1 h.2 h.3 h.4

-- instants

gcd_exists : (fuel a b : ℕ) → b ≤ fuel → (g : ℕ) × IsGcd a b g
gcd_exists fuel a zero le = (a, IsGcd-from_zero a 0 refl)
gcd_exists zero a (suc b) le = absurd (omega arith)
gcd_exists (suc fuel) a (suc b) le =
    let less : a % suc b < suc b = mod-lt a (zero-lt-suc b) in
    let more = gcd_exists fuel (suc b) (a % suc b) (omega (arith, less, le)) in
    (more.0, IsGcd-from_mod a (suc b) more.0 more.1)

-- each fraction has lowest terms
lowest_ratio : (n d : ℕ) → 0 < d → (t : Ratio) × IsFraction t n d × (t.den ≤ d)
lowest_ratio n d some =
    let g = gcd_exists d n d (omega arith) in
    let low = lowest_quotients n d g.0 some g.1 in
    (record { num = n / g.0; den = d / g.0; positive = low.positive; lowest = ∣ low.lowest ∣₁ }, low.same, div-le_self d g.0)

num_small : (t : Ratio) (n d : ℕ) → n < 2 ^ 20 * d → IsFraction t n d → t.num < 2 ^ 20 * t.den
num_small t n d small is =
    let less : n * t.den < 2 ^ 20 * d * t.den = mul-lt-mul_of_pos_right small t.positive in
    lt_of_mul-lt-mul_right d {m = t.num} {n = 2 ^ 20 * t.den} (omega (arith, less, is))

pub in_range : (t : Ratio) (n d : ℕ) → IsSmall n d → IsFraction t n d → IsTime t
in_range t n d small is =
    let low = lowest_ratio n d small.0 in
    let same = fraction_once t low.0 n d small.0 is low.1 in
    (num_small t n d small.1 is, omega (arith, same.1, low.2, small.2))

-- a product of parts of two small fractions
pub product_small : (num den other : ℕ) → num < 2 ^ 20 * den → 0 < other → den * other < 2 ^ 43 → num * other < 2 ^ 63
product_small num den other small some unit =
    let less : num * other < 2 ^ 20 * den * other = mul-lt-mul_of_pos_right small some in omega (arith, less, unit)

-- a sum whose parts are small
pub sum_in_range : (t : Ratio) (n d sum unit : ℕ) → sum ≡ n → unit ≡ d → sum < 2 ^ 20 * unit → IsFraction t sum unit → t.den < 2 ^ 32 → IsFraction t n d × IsTime t
sum_in_range t n d sum unit sum_is unit_is small is fine =
    (subst (λ m. IsFraction t m d) sum_is (subst (λ e. IsFraction t sum e) unit_is is), (num_small t sum unit small is, fine))

sum_lowest : (before more t : Ratio) (n d : ℕ) → 0 < d → IsFraction more n d → IsFraction t (before.num * d + n * before.den) (before.den * d) → IsSum (Some before) more t
sum_lowest before more t n d some more_is is =
    eq_of_mul-eq-mul_right d some (t.num * (before.den * more.den)) ((before.num * more.den + more.num * before.den) * t.den)
    (omega (arith, ap (λ z. z * more.den) is, ap (λ z. z * (before.den * t.den)) more_is))

pub instant_written : (form : Form) (before : Ratio) (text rest : List ℕ) (n d : ℕ) (t : Ratio) → IsSmall n d → WrittenFront text n d rest → IsFraction t n d → InstantFront form before text t rest
instant_written form before text rest n d t small w is = record {
  field = w.field;
  joined = w.joined;
  plain = w.plain;
  instant = written (record { num = n; den = d; writes = w.writes; is = is; within = in_range t n d small is });
  range = in_range t n d small is;
}

pub instant_added : (form : Form) (before : Ratio) (text more rest : List ℕ) (n d : ℕ) (t : Ratio) → (form ≡ Short) × (text ≡ codes "+" ++ more) → IsSmall n d → WrittenFront more n d rest
    → IsFraction t (before.num * d + n * before.den) (before.den * d) × IsTime t → InstantFront form before text t rest
instant_added form before text more rest n d t plus small w is =
    let low = lowest_ratio n d small.0 in record {
      field = 43 ∷ w.field;
      joined = plus.1 ∙ ap (λ m. 43 ∷ m) w.joined;
      plain = (plain_byte 43 (omega arith) (λ e. omega (arith, e)), w.plain);
      instant = added plus.0 w.field low.0 refl (record { num = n; den = d; writes = w.writes; is = low.1; within = in_range low.0 n d small low.1 })
          (sum_lowest before low.0 t n d small.0 low.1 is.0) is.1;
      range = is.1;
    }

-- values

pub minus_front : (text digits rest : List ℕ) (n : ℕ) → text ≡ 45 ∷ digits → NumberFront digits n rest → ValueFront text kind.Integer (value.Int (neg_ℤ (pos n))) rest
minus_front text digits rest n is f = record {
  field = 45 ∷ f.digits;
  joined = is ∙ ap (λ d. 45 ∷ d) f.joined;
  plain = (plain_byte 45 (omega arith) (λ e. omega (arith, e)), digits_plain f.digits f.numeral.digits);
  value = is_minus (45 ∷ f.digits) f.digits n refl f.numeral.some f.numeral.digits f.is (omega (arith, f.small));
}

pub plus_front : (text digits rest : List ℕ) (n : ℕ) → text ≡ 43 ∷ digits → NumberFront digits n rest → ValueFront text kind.Integer (value.Int (pos n)) rest
plus_front text digits rest n is f = record {
  field = 43 ∷ f.digits;
  joined = is ∙ ap (λ d. 43 ∷ d) f.joined;
  plain = (plain_byte 43 (omega arith) (λ e. omega (arith, e)), digits_plain f.digits f.numeral.digits);
  value = is_plus (43 ∷ f.digits) f.digits n refl f.numeral.some f.numeral.digits f.is (omega (arith, f.small));
}

pub plain_front : (text rest : List ℕ) (n : ℕ) → NumberFront text n rest → ValueFront text kind.Integer (value.Int (pos n)) rest
plain_front text rest n f = record {
  field = f.digits;
  joined = f.joined;
  plain = digits_plain f.digits f.numeral.digits;
  value = is_plain f.digits n f.numeral.some f.numeral.digits f.is (omega (arith, f.small));
}

pub true_front : (text rest : List ℕ) → text ≡ 49 ∷ rest → ValueFront text kind.Boolean (value.Bool true) rest
true_front text rest is = record { field = 49 ∷ []; joined = is; plain = (plain_byte 49 (omega arith) (λ e. omega (arith, e)), tt); value = truth (inr refl) }

pub false_front : (text rest : List ℕ) → text ≡ 48 ∷ rest → ValueFront text kind.Boolean (value.Bool false) rest
false_front text rest is = record { field = 48 ∷ []; joined = is; plain = (plain_byte 48 (omega arith) (λ e. omega (arith, e)), tt); value = falsity (inr refl) }
