-- What stands in front of a text without quotes, as a row is read in one pass: a number, a time, an instant, a value.
use Rattle.std.specs.Prelude.{◌≡◌, ◌≢◌, ℕ, ◌*◌, ◌^◌, ◌<◌, List, [], ◌∷◌, ◌++◌, Some, ⊤}
use Rattle.std.specs.Str.Parse.{digits_value}
use Rattle.rational_time.specs.declared.ratio.Ratio.{Ratio}
use Rattle.rational_time.specs.TimeText.{IsNumeral, WritesTime}
use Rattle.sync_values.specs.declared.value.Value.{Value}
use Rattle.flat_model.specs.declared.model.NameKind.{NameKind}
use Rattle.flat_model.specs.Tables.{IsTime}
use Rattle.rational_time.specs.Fraction.{second_limit}
use Rattle.input_table.specs.declared.header.Form.{Form}
use Rattle.input_table.specs.Fields.{Field, Record, IsValue}
use Rattle.input_table.specs.Rows.{IsInstant}

-- no comma, no end of a line and no blank
abbrev pub IsPlainByte : ℕ → Type 0
IsPlainByte byte = (byte ≢ 44) × (byte ≢ 13) × (byte ≢ 10) × (byte ≢ 32) × (byte ≢ 9)

-- a field of such bytes
abbrev pub IsPlain : Field → Type 0
IsPlain [] = ⊤
IsPlain (byte ∷ rest) = IsPlainByte byte × IsPlain rest

abbrev pub AllPlain : Record → Type 0
AllPlain [] = ⊤
AllPlain (field ∷ fields) = IsPlain field × AllPlain fields

-- 1 to 18 digits, and what follows them
pub record NumberFront (text : List ℕ) (value : ℕ) (rest : List ℕ) : Type 0 where
  pub digits : List ℕ
  pub joined : text ≡ digits ++ rest
  pub numeral : IsNumeral 18 digits
  pub is : value ≡ digits_value 10 digits
  pub small : value < 10 ^ 18

-- a time text, the fraction that it writes, and what follows it
pub record WrittenFront (text : List ℕ) (num den : ℕ) (rest : List ℕ) : Type 0 where
  pub field : Field
  pub joined : text ≡ field ++ rest
  pub plain : IsPlain field
  pub writes : WritesTime field num den

-- a fraction, not in lowest terms, of an instant that a table may have
abbrev pub IsSmall : ℕ → ℕ → Type 0
IsSmall num den = (0 < den) × (num < second_limit * den) × (den < 2 ^ 32)

-- the field of an instant behind another one, and what follows it
pub record InstantFront (form : Form) (before : Ratio) (text : List ℕ) (t : Ratio) (rest : List ℕ) : Type 0 where
  pub field : Field
  pub joined : text ≡ field ++ rest
  pub plain : IsPlain field
  pub instant : IsInstant form (Some before) field t
  pub range : IsTime t

-- the field of a value, and what follows it
pub record ValueFront (text : List ℕ) (type : NameKind) (v : Value) (rest : List ℕ) : Type 0 where
  pub field : Field
  pub joined : text ≡ field ++ rest
  pub plain : IsPlain field
  pub value : IsValue field type v
