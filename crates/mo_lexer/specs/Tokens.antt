-- Which tokens belong to a text, and where its lexical fault stands.
use Rattle.std.specs.Prelude.{ℕ, pos, ◌+◌, ◌*◌, ◌-◌, ◌^◌, ◌≤◌, ◌<◌, ◌≡◌, nat_le, nat_lt, nat_eq, if◌then◌else◌, List, [], ◌∷◌, length, take, drop, fold, Result, Ok, Err, ⊤, Option, Some, None}
use Rattle.std.specs.List.{starts_with}
use Rattle.mo_lexer.specs.declared.token.Token.{Token}
use Rattle.mo_lexer.specs.declared.token.TokenKind.{TokenKind}
use Rattle.mo_lexer.specs.declared.token.TokenKind.TheVariants as kind
use Rattle.mo_lexer.specs.declared.token.Word.{Word}
use Rattle.mo_lexer.specs.declared.piece.Piece.{Piece}
use Rattle.mo_lexer.specs.declared.piece.Piece.TheVariants as piece
use Rattle.mo_lexer.specs.declared.fault.LexCode.{LexCode}
use Rattle.mo_lexer.specs.declared.fault.LexCode.TheVariants as code
use Rattle.mo_lexer.specs.declared.fault.LexEnd.{LexEnd}
use Rattle.mo_lexer.specs.declared.fault.LexEnd.TheVariants as ends
use Rattle.mo_lexer.specs.Spelling.{Spells}
use Rattle.mo_lexer.specs.Keywords.{keyword_of}

-- how many bytes the text of a model has at most
abbrev pub model_limit : ℕ
model_limit = 1048576

-- a piece of this kind and length begins the bytes, and no longer piece of any kind begins them
pub record Begins (kind : Piece) (len : ℕ) (bytes : List ℕ) : Type 0 where
  pub within : len ≤ length bytes
  pub spelled : Spells kind (take len bytes)
  pub longest : (other : Piece) (further : ℕ) → further ≤ length bytes → Spells other (take further bytes) → further ≤ len

-- no piece begins the bytes
abbrev pub BeginsNone : List ℕ → Type 0
BeginsNone bytes = (other : Piece) (len : ℕ) → len ≤ length bytes → Spells other (take len bytes) → ⊥

-- the number that decimal digits stand for
abbrev pub value_of : List ℕ → ℕ
value_of = fold (λ n digit. 10 * n + (digit - 48)) 0

-- the keyword, or a name of at most 128 bytes
abbrev pub word_token : Option Word → List ℕ → Result (Option TokenKind) LexCode
word_token (Some word) bytes = Ok (Some (kind.Keyword word))
word_token None bytes = if nat_le (length bytes) 128 then Ok (Some kind.Ident) else Err code.L4

-- the token of a piece: none for a separator or comment, and a code where the piece is refused
abbrev pub token_of : Piece → List ℕ → Result (Option TokenKind) LexCode
token_of piece.Separator bytes = Ok None
token_of piece.Comment bytes = Ok None
token_of piece.Unended bytes = Err code.L2
token_of piece.Word bytes = word_token (keyword_of bytes) bytes
token_of piece.Integer bytes = if nat_lt (value_of bytes) (2 ^ 63) then Ok (Some (kind.Integer (pos (value_of bytes)))) else Err code.L3
token_of piece.Real bytes = Ok (Some kind.Real)
token_of piece.Text bytes = Ok (Some kind.Text)
token_of (piece.Symbol s) bytes = Ok (Some (kind.Symbol s))

-- the text from a place on is divided into pieces, each the longest there, and these are its tokens
pub data Divided (text : List ℕ) : ℕ → List Token → Type 0 where
  ended : (at : ℕ) → at ≡ length text → Divided text at (record { kind = kind.End; at = at; end = at } ∷ [])
  gap : (at : ℕ) (piece : Piece) (len : ℕ) (tokens : List Token) → Begins piece len (drop at text) → token_of piece (take len (drop at text)) ≡ Ok None → Divided text (at + len) tokens
      → Divided text at tokens
  token : (at : ℕ) (piece : Piece) (len : ℕ) (found : TokenKind) (tokens : List Token) → Begins piece len (drop at text) → token_of piece (take len (drop at text)) ≡ Ok (Some found) → Divided text (at + len) tokens
      → Divided text at (record { kind = found; at = at; end = at + len } ∷ tokens)

-- the text from a place on is divided so up to the place of a fault
pub data Faulty (text : List ℕ) : ℕ → LexCode → ℕ → Type 0 where
  no_piece : (at : ℕ) → at < length text → BeginsNone (drop at text) → Faulty text at code.L1 at
  refused : (at : ℕ) (piece : Piece) (len : ℕ) (code : LexCode) → Begins piece len (drop at text) → token_of piece (take len (drop at text)) ≡ Err code → Faulty text at code at
  later : (at : ℕ) (piece : Piece) (len : ℕ) (found : Option TokenKind) (code : LexCode) (place : ℕ) → Begins piece len (drop at text) → token_of piece (take len (drop at text)) ≡ Ok found → Faulty text (at + len) code place
      → Faulty text at code place

-- how many bytes the byte order mark at the start of a text has: 3, or 0 where there is none
abbrev pub mark_len : List ℕ → ℕ
mark_len text = if starts_with nat_eq text (239 ∷ 187 ∷ 191 ∷ []) then 3 else 0

-- the token list belongs to the text
abbrev pub AreTokens : List ℕ → List Token → Type 0
AreTokens text tokens = Divided text (mark_len text) tokens

-- the lexical fault of the text
abbrev pub IsFaultAt : List ℕ → LexCode → ℕ → Type 0
IsFaultAt text code at = Faulty text (mark_len text) code at

-- the text has a token list
abbrev pub HasTokens : List ℕ → Type 0
HasTokens text = (tokens : List Token) × AreTokens text tokens

-- the text has a lexical fault
abbrev pub HasFault : List ℕ → Type 0
HasFault text = (code : LexCode) × (at : ℕ) × IsFaultAt text code at

-- what `lex` answers
abbrev pub Lexes : List ℕ → Result (List Token) LexEnd → Type 0
Lexes text (Ok tokens) = AreTokens text tokens
Lexes text (Err (ends.Fault code at)) = IsFaultAt text code at
Lexes text (Err ends.NoMemory) = ⊤
