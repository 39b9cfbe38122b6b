-- The numeral in front of a text.
use Rattle.std.specs.Prelude.{◌≡◌, ℕ, ◌≤◌, ◌++◌, List, [], ◌∷◌, ⊤}
use Rattle.std.specs.Char.{digit_value}
use Rattle.std.specs.Str.Parse.{digits_value}
use Rattle.rational_time.specs.TimeText.{IsNumeral}

-- the text does not begin with a digit
abbrev pub IsNoDigitFirst : List ℕ → Type 0
IsNoDigitFirst [] = ⊤
IsNoDigitFirst (c ∷ cs) = 10 ≤ digit_value c

-- the text begins with a numeral of this value, and what follows it begins with no digit
pub record Begins (most : ℕ) (text : List ℕ) (value : ℕ) (rest : List ℕ) : Type 0 where
  pub first : List ℕ
  pub joined : text ≡ first ++ rest
  pub numeral : IsNumeral most first
  pub other : IsNoDigitFirst rest
  pub is : value ≡ digits_value 10 first
