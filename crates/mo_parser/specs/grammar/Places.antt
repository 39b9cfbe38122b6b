-- Places in lists of tokens.
use Rattle.std.specs.Prelude.{◌≡◌, List, [], ◌∷◌}
use Rattle.mo_lexer.specs.declared.token.Token.{Token}
use Rattle.mo_lexer.specs.declared.token.TokenKind.TheVariants as k

-- the next token, and one of the kind End where none is left
abbrev pub head : List Token → Token
head [] = record { kind = k.End; at = 0; end = 0 }
head (t ∷ ts) = t

-- a and a' have the same tokens before b and b', and the next token there is the same
pub data Swap : List Token → List Token → List Token → List Token → Type 0 where
  here : (b b' : List Token) → head b ≡ head b' → Swap b b b' b'
  there : (x : Token) (a b a' b' : List Token) → Swap a b a' b' → Swap (x ∷ a) b (x ∷ a') b'

-- a' begins with the tokens that stand in a before b, and goes on with b'
pub data Front : List Token → List Token → List Token → List Token → Type 0 where
  start : (b b' : List Token) → Front b b b' b'
  next : (x : Token) (a b a' b' : List Token) → Front a b a' b' → Front (x ∷ a) b (x ∷ a') b'
