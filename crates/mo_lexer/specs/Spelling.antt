-- Which bytes spell a separator, a comment or a token (MLS 3.6, chapter 2, "Lexical Structure", in this project's profile).
use Rattle.std.specs.Prelude.{ℕ, ◌≡◌, ◌≢◌, ◌&&◌, ◌==◌, ◌⊎◌, not, Bool, true, List, [], ◌∷◌, ◌++◌, IsTrue, codes, if◌then◌else◌}
use Rattle.std.specs.List.{list_all}
use Rattle.mo_lexer.specs.declared.piece.Piece.{Piece}
use Rattle.mo_lexer.specs.declared.piece.Piece.TheVariants as piece
use Rattle.mo_lexer.specs.declared.token.Sym.{Sym}
use Rattle.mo_lexer.specs.declared.token.Sym.TheVariants as sym
use Rattle.mo_lexer.specs.Bytes.{is_separator, is_letter, is_digit, is_word_byte, is_in_line}

-- one byte or more, each of which passes the test
abbrev pub IsRun : (ℕ → Bool) → List ℕ → Type 0
IsRun p bytes = (bytes ≢ []) × IsTrue (list_all p bytes)

-- a letter or `_`, then letters, digits and `_`
abbrev pub IsWord : List ℕ → Type 0
IsWord [] = ⊥
IsWord (b ∷ bytes) = IsTrue (is_letter b) × IsTrue (list_all is_word_byte bytes)

-- a sign, or nothing
abbrev pub IsSign : List ℕ → Type 0
IsSign sign = (sign ≡ []) ⊎ (sign ≡ codes "+") ⊎ (sign ≡ codes "-")

-- `e` or `E`, an optional sign and digits
pub record IsExponent (bytes : List ℕ) : Type 0 where
  pub letter : List ℕ
  pub sign : List ℕ
  pub digits : List ℕ
  pub whole : bytes ≡ letter ++ (sign ++ digits)
  pub letter_right : (letter ≡ codes "e") ⊎ (letter ≡ codes "E")
  pub sign_right : IsSign sign
  pub digits_right : IsRun is_digit digits

-- digits, then `.` with optional digits and an optional exponent
pub record IsPointed (bytes : List ℕ) : Type 0 where
  pub digits : List ℕ
  pub places : List ℕ
  pub exponent : List ℕ
  pub whole : bytes ≡ digits ++ (codes "." ++ (places ++ exponent))
  pub digits_right : IsRun is_digit digits
  pub places_right : IsTrue (list_all is_digit places)
  pub exponent_right : (exponent ≡ []) ⊎ IsExponent exponent

-- digits and an exponent
pub record IsScaled (bytes : List ℕ) : Type 0 where
  pub digits : List ℕ
  pub exponent : List ℕ
  pub whole : bytes ≡ digits ++ exponent
  pub digits_right : IsRun is_digit digits
  pub exponent_right : IsExponent exponent

-- bytes of which a backslash takes the next with it, and none of the others is a quote
abbrev pub is_quoted : List ℕ → Bool
is_quoted [] = true
is_quoted (b ∷ []) = not (b == 34) && not (b == 92)
is_quoted (b ∷ c ∷ bytes) = if b == 92 then is_quoted bytes else (not (b == 34) && is_quoted (c ∷ bytes))

-- a quote, quoted bytes and a quote
pub record IsText (bytes : List ℕ) : Type 0 where
  pub inside : List ℕ
  pub whole : bytes ≡ 34 ∷ (inside ++ 34 ∷ [])
  pub inside_right : IsTrue (is_quoted inside)

-- a quote and quoted bytes, and maybe a backslash that has no byte to take
pub record IsOpenText (bytes : List ℕ) : Type 0 where
  pub inside : List ℕ
  pub last : List ℕ
  pub whole : bytes ≡ 34 ∷ (inside ++ last)
  pub inside_right : IsTrue (is_quoted inside)
  pub last_right : (last ≡ []) ⊎ (last ≡ 92 ∷ [])

-- `//` and what follows in the line
pub record IsLineComment (bytes : List ℕ) : Type 0 where
  pub inside : List ℕ
  pub whole : bytes ≡ codes "//" ++ inside
  pub inside_right : IsTrue (list_all is_in_line inside)

-- no `*/` stands in the bytes
abbrev pub IsUnended : List ℕ → Type 0
IsUnended bytes = (before after : List ℕ) → bytes ≢ before ++ (codes "*/" ++ after)

-- `/*` up to the next `*/`
pub record IsBlockComment (bytes : List ℕ) : Type 0 where
  pub inside : List ℕ
  pub whole : bytes ≡ codes "/*" ++ (inside ++ codes "*/")
  pub next : IsUnended (inside ++ codes "*")

-- `/*` without a `*/` behind it
pub record IsOpenComment (bytes : List ℕ) : Type 0 where
  pub inside : List ℕ
  pub whole : bytes ≡ codes "/*" ++ inside
  pub unended : IsUnended inside

-- the bytes of a symbol
abbrev pub symbol_bytes : Sym → List ℕ
symbol_bytes sym.RoundOpen = codes "("
symbol_bytes sym.RoundClose = codes ")"
symbol_bytes sym.CurlyOpen = codes "{"
symbol_bytes sym.CurlyClose = codes "}"
symbol_bytes sym.SquareOpen = codes "["
symbol_bytes sym.SquareClose = codes "]"
symbol_bytes sym.Comma = codes ","
symbol_bytes sym.Semicolon = codes ";"
symbol_bytes sym.Colon = codes ":"
symbol_bytes sym.Dot = codes "."
symbol_bytes sym.Equals = codes "="
symbol_bytes sym.Equal = codes "=="
symbol_bytes sym.Unequal = codes "<>"
symbol_bytes sym.Less = codes "<"
symbol_bytes sym.LessEq = codes "<="
symbol_bytes sym.Greater = codes ">"
symbol_bytes sym.GreaterEq = codes ">="
symbol_bytes sym.Plus = codes "+"
symbol_bytes sym.Minus = codes "-"
symbol_bytes sym.Times = codes "*"
symbol_bytes sym.Over = codes "/"
symbol_bytes sym.Power = codes "^"
symbol_bytes sym.Assign = codes ":="

-- which bytes spell a piece of this kind; `Unended` is a comment or Text that has begun and not ended
abbrev pub Spells : Piece → List ℕ → Type 0
Spells piece.Separator bytes = IsRun is_separator bytes
Spells piece.Comment bytes = IsLineComment bytes ⊎ IsBlockComment bytes
Spells piece.Unended bytes = IsOpenComment bytes ⊎ IsOpenText bytes
Spells piece.Word bytes = IsWord bytes
Spells piece.Integer bytes = IsRun is_digit bytes
Spells piece.Real bytes = IsPointed bytes ⊎ IsScaled bytes
Spells piece.Text bytes = IsText bytes
Spells (piece.Symbol s) bytes = bytes ≡ symbol_bytes s
