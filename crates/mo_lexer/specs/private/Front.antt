-- What the front of some bytes is, for the functions that find it.
use Rattle.std.specs.Prelude.{ℕ, ◌+◌, ◌≤◌, ◌<◌, ◌≡◌, ◌≢◌, List, [], ◌∷◌, length, take, drop, slice_index, IsTrue, Bool, false, not, ◌&&◌, ◌||◌, ◌==◌, if◌then◌else◌, Option, Some, None, Result, Ok, Err}
use Rattle.mo_lexer.specs.declared.piece.Piece.{Piece}
use Rattle.mo_lexer.specs.declared.token.Sym.{Sym}
use Rattle.mo_lexer.specs.declared.token.Token.{Token}
use Rattle.mo_lexer.specs.declared.token.TokenKind.{TokenKind}
use Rattle.mo_lexer.specs.declared.fault.LexCode.{LexCode}
use Rattle.mo_lexer.specs.Bytes.{is_letter, is_separator, is_digit}
use Rattle.mo_lexer.specs.Spelling.{IsExponent, is_quoted, IsOpenText, symbol_bytes}
use Rattle.mo_lexer.specs.Tokens.{Begins, BeginsNone, Faulty, token_of}

-- the longest piece at the front, or none
abbrev pub BeginsWith : List ℕ → Option (Piece × ℕ) → Type 0
BeginsWith bytes None = BeginsNone bytes
BeginsWith bytes (Some found) = Begins found.0 found.1 bytes

-- a byte that begins no word, number, Text, separator or comment
abbrev pub is_other : ℕ → Bool
is_other b = not (is_letter b) && not (is_separator b) && not (is_digit b) && not (b == 34) && not (b == 47)

-- the bytes begin with a point
abbrev pub has_point : List ℕ → Bool
has_point [] = false
has_point (b ∷ bytes) = b == 46

-- how many bytes a sign at the front has: 1, or 0 where there is none
abbrev pub sign_len : List ℕ → ℕ
sign_len [] = 0
sign_len (b ∷ bytes) = if b == 43 || b == 45 then 1 else 0

-- the longest exponent at the front has this length, which is 0 where there is none
pub record HasExponent (bytes : List ℕ) (len : ℕ) : Type 0 where
  pub within : len ≤ length bytes
  pub spelled : 0 < len → IsExponent (take len bytes)
  pub longest : (further : ℕ) → further ≤ length bytes → IsExponent (take further bytes) → further ≤ len

-- the place of the quote that ends a Text, in the bytes behind its first quote; or they end before it does
abbrev pub EndsText : List ℕ → Option ℕ → Type 0
EndsText bytes (Some at) = (at < length bytes) × IsTrue (is_quoted (take at bytes)) × (slice_index bytes at ≡ 34)
EndsText bytes None = IsOpenText (34 ∷ bytes)

-- `*/` stands at this place
abbrev pub HasEnd : List ℕ → ℕ → Type 0
HasEnd bytes at = (at + 1 < length bytes) × (slice_index bytes at ≡ 42) × (slice_index bytes (at + 1) ≡ 47)

-- the place of the first `*/`, or none stands in the bytes
abbrev pub EndsComment : List ℕ → Option ℕ → Type 0
EndsComment bytes (Some at) = HasEnd bytes at × ((before : ℕ) → before < at → HasEnd bytes before → ⊥)
EndsComment bytes None = (at : ℕ) → HasEnd bytes at → ⊥

-- the symbol of these bytes, if there is one
abbrev pub IsSymbolOf : List ℕ → Option Sym → Type 0
IsSymbolOf bytes (Some sym) = symbol_bytes sym ≡ bytes
IsSymbolOf bytes None = (sym : Sym) → symbol_bytes sym ≢ bytes

-- what stands at a place of a text: a piece with this token or none and this length, or the fault of the text
abbrev pub IsNext : List ℕ → ℕ → Result (Option TokenKind × ℕ) LexCode → Type 0
IsNext text at (Ok next) = (piece : Piece) × Begins piece next.1 (drop at text) × (token_of piece (take next.1 (drop at text)) ≡ Ok next.0)
IsNext text at (Err code) = Faulty text at code at

-- the tokens that a piece from a place to another leaves
abbrev pub noted : Option TokenKind → ℕ → ℕ → List Token
noted None at end = []
noted (Some found) at end = record { kind = found; at = at; end = end } ∷ []
