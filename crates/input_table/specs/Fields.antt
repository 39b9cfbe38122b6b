-- The fields of a table and the values that they write. This project's own.
use Rattle.std.specs.Prelude.{◌≡◌, ℕ, ◌^◌, ◌<◌, ◌≤◌, ◌==◌, ◌||◌, Bool, true, false, ◌⊎◌, List, [], ◌∷◌, ◌++◌, length, codes, reverse, slice_index_or, if◌then◌else◌, pos, neg_ℤ}
use Rattle.std.specs.Str.Parse.{AllDigits, digits_value}
use Rattle.rational_time.specs.declared.ratio.Ratio.{Ratio}
use Rattle.rational_time.specs.Fraction.{IsFraction}
use Rattle.rational_time.specs.TimeText.{WritesTime}
use Rattle.sync_values.specs.declared.value.Value.{Value}
use Rattle.sync_values.specs.declared.value.Value.TheVariants as value
use Rattle.flat_model.specs.Tables.{IsTime}
use Rattle.flat_model.specs.declared.model.NameKind.{NameKind}
use Rattle.flat_model.specs.declared.model.NameKind.TheVariants as kind

-- the bytes of a field, and the fields of a record, as `csv` gives them
abbrev pub Field : Type 0
Field = List ℕ

abbrev pub Record : Type 0
Record = List Field

-- space and tab
abbrev pub is_blank : ℕ → Bool
is_blank byte = byte == 32 || byte == 9

abbrev pub without_first_blanks : Field → Field
without_first_blanks [] = []
without_first_blanks (byte ∷ rest) = if is_blank byte then without_first_blanks rest else byte ∷ rest

abbrev pub without_last_blanks : Field → Field
without_last_blanks field = reverse (without_first_blanks (reverse field))

-- a field without the blanks at both ends
abbrev pub trimmed : Field → Field
trimmed field = without_last_blanks (without_first_blanks field)

-- the text in a column of a record, counted from 0, without its blanks
abbrev pub text_in : Record → ℕ → List ℕ
text_in record_ column = trimmed (slice_index_or record_ column [])

-- a text writes an instant that a table may have
pub record IsTimeText (text : List ℕ) (t : Ratio) : Type 0 where
  pub num : ℕ
  pub den : ℕ
  pub writes : WritesTime text num den
  pub is : IsFraction t num den
  pub within : IsTime t

-- a text writes a value of a type: an optional sign and digits that fit 64 bits; `true`, `false`, `1` or `0`
pub data IsValue (text : List ℕ) : NameKind → Value → Type 0 where
  natural : (sign digits : List ℕ) → text ≡ sign ++ digits → (sign ≡ []) ⊎ (sign ≡ codes "+") → 0 < length digits → AllDigits 10 digits
      → digits_value 10 digits < 2 ^ 63 → IsValue text kind.Integer (value.Int (pos (digits_value 10 digits)))
  negative : (digits : List ℕ) → text ≡ codes "-" ++ digits → 0 < length digits → AllDigits 10 digits
      → digits_value 10 digits ≤ 2 ^ 63 → IsValue text kind.Integer (value.Int (neg_ℤ (pos (digits_value 10 digits))))
  truth : (text ≡ codes "true") ⊎ (text ≡ codes "1") → IsValue text kind.Boolean (value.Bool true)
  falsity : (text ≡ codes "false") ⊎ (text ≡ codes "0") → IsValue text kind.Boolean (value.Bool false)
