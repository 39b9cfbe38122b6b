-- Time texts: `n`, `n/d` and `n.f`, and the fraction that each writes.
use Rattle.std.specs.Prelude.{◌≡◌, ℕ, ◌+◌, ◌*◌, ◌^◌, ◌<◌, ◌≤◌, ◌++◌, List, length, codes}
use Rattle.std.specs.Str.Parse.{AllDigits, digits_value}

-- the text is 1 to `most` decimal digits
pub record IsNumeral (most : ℕ) (text : List ℕ) : Type 0 where
  pub some : 0 < length text
  pub few : length text ≤ most
  pub digits : AllDigits 10 text

-- the text is a time text and writes the fraction n/d: the forms `n`, `n/d` and `n.f`
pub data WritesTime (text : List ℕ) (n d : ℕ) : Type 0 where
  whole : IsNumeral 18 text → n ≡ digits_value 10 text → d ≡ 1 → WritesTime text n d
  quotient : (over under : List ℕ) → text ≡ over ++ (codes "/" ++ under) → IsNumeral 18 over → IsNumeral 18 under →
      n ≡ digits_value 10 over → d ≡ digits_value 10 under → 0 < d → WritesTime text n d
  decimal : (over part : List ℕ) → text ≡ over ++ (codes "." ++ part) → IsNumeral 18 over → IsNumeral 9 part →
      n ≡ digits_value 10 over * 10 ^ length part + digits_value 10 part → d ≡ 10 ^ length part → WritesTime text n d
