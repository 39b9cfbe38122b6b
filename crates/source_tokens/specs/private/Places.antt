-- The places where tokens begin, in the order of the text.
use Rattle.std.specs.Prelude.{◌≡◌, ℕ, nat_lt, List, count_by}
use Rattle.std.specs.List.Sorted.{IsNonDecreasing}
use Rattle.mo_lexer.specs.declared.token.Token.{Token}
use Rattle.source_tokens.specs.Pieces.{tokens_before}

abbrev pub begin : Token → ℕ
begin token = token.at

-- the places do not fall, and before each byte there are as many as tokens begin there
pub record ArePlaces (tokens : List Token) (places : List ℕ) : Type 0 where
  pub counted : (byte : ℕ) → count_by (λ place. nat_lt place byte) places ≡ tokens_before tokens byte
  pub rise : IsNonDecreasing places
