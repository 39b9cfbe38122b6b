-- Exact whole numbers, and what fits 64 bits.
use Rattle.std.specs.Prelude.{◌^◌, ℤ, pos, negsuc, zero, suc, ◌-ℤ◌, ◌*ℤ◌, neg_ℤ, int_div, int_le, int_lt, ◌&&◌, ◌||◌, Bool, nat_lt, if◌then◌else◌, Result, Ok, Err}
use Rattle.std.specs.Int.{int_div_euclid}
use Rattle.sync_values.specs.declared.value.Fail.{Fail}
use Rattle.sync_values.specs.declared.value.Fail.TheVariants.{Divide, TooLarge}

-- an exact whole number, or the fault of one that does not fit 64 bits
abbrev pub fitted : ℤ → Result ℤ Fail
fitted (pos n) = if nat_lt n (2 ^ 63) then Ok (pos n) else Err TooLarge
fitted (negsuc n) = if nat_lt n (2 ^ 63) then Ok (negsuc n) else Err TooLarge

-- the result of a division by this divisor, which 0 has not
abbrev pub over : ℤ → ℤ → Result ℤ Fail
over (pos zero) exact = Err Divide
over (pos (suc n)) exact = fitted exact
over (negsuc n) exact = fitted exact

-- the number without its sign
abbrev pub magnitude : ℤ → ℤ
magnitude (pos n) = pos n
magnitude (negsuc n) = pos (suc n)

-- the quotient rounded towards 0
abbrev pub exact_div : ℤ → ℤ → ℤ
exact_div a b = int_div a b

-- the greatest whole number that is not above the fraction a/b
abbrev pub floor_div : ℤ → ℤ → ℤ
floor_div a (pos n) = int_div_euclid a (pos n)
floor_div a (negsuc n) = int_div_euclid (neg_ℤ a) (pos (suc n))

-- what the quotient rounded towards 0 leaves
abbrev pub exact_rem : ℤ → ℤ → ℤ
exact_rem a b = a -ℤ (exact_div a b *ℤ b)

-- what the floor of a/b leaves
abbrev pub exact_modulo : ℤ → ℤ → ℤ
exact_modulo a b = a -ℤ (floor_div a b *ℤ b)

-- one of the two numbers is below 0, and the other above
abbrev pub unlike : ℤ → ℤ → Bool
unlike a b = (int_lt a (pos 0) && int_lt (pos 0) b) || (int_lt (pos 0) a && int_lt b (pos 0))

-- the lesser of two numbers
abbrev pub lesser : ℤ → ℤ → ℤ
lesser a b = if int_le a b then a else b

-- the greater of two numbers
abbrev pub greater : ℤ → ℤ → ℤ
greater a b = if int_le a b then b else a
