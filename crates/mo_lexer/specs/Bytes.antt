-- The bytes that tokens are made of.
use Rattle.std.specs.Prelude.{ℕ, ◌&&◌, ◌||◌, ◌==◌, nat_le, not, Bool}

-- space, tab, line feed or carriage return
abbrev pub is_separator : ℕ → Bool
is_separator b = b == 32 || b == 9 || b == 10 || b == 13

-- an ASCII letter or `_`
abbrev pub is_letter : ℕ → Bool
is_letter b = (nat_le 97 b && nat_le b 122) || (nat_le 65 b && nat_le b 90) || b == 95

-- a decimal digit
abbrev pub is_digit : ℕ → Bool
is_digit b = nat_le 48 b && nat_le b 57

-- a letter, a digit or `_`
abbrev pub is_word_byte : ℕ → Bool
is_word_byte b = is_letter b || is_digit b

-- a byte that does not end a line
abbrev pub is_in_line : ℕ → Bool
is_in_line b = not (b == 10)

-- the letter of an exponent
abbrev pub is_exponent_letter : ℕ → Bool
is_exponent_letter b = b == 101 || b == 69
