-- The tokens that stand in a piece of a text. This project's own.
use Rattle.std.specs.Prelude.{ℕ, nat_le, nat_lt, ◌&&◌, List, count_by, Bool}
use Rattle.mo_lexer.specs.declared.token.Token.{Token}

-- a token begins before a byte, or in the bytes from the one up to, not including, the other
abbrev pub begins_before : ℕ → Token → Bool
begins_before byte token = nat_lt token.at byte

abbrev pub begins_in : ℕ → ℕ → Token → Bool
begins_in at end token = nat_le at token.at && nat_lt token.at end

-- how many tokens do
abbrev pub tokens_before : List Token → ℕ → ℕ
tokens_before tokens byte = count_by (begins_before byte) tokens

abbrev pub tokens_in : List Token → ℕ → ℕ → ℕ
tokens_in tokens at end = count_by (begins_in at end) tokens
