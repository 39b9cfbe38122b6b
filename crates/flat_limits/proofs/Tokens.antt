-- What holds of the tokens of a text: numbers of 64 bits, and names of at most 128 bytes without dots.
use Rattle.std.proofs.Common.{◌≡◌, ◌≢◌, refl, subst, sym, ap, ◌∙◌, ℕ, ℤ, pos, ◌+◌, ◌-◌, ◌*◌, ◌≤◌, ◌^◌, ◌&&◌, nat_le, nat_lt, IsTrue, Bool, true, false, List, [], ◌∷◌, length, take, drop, Option, Some, None, Result, Ok, Err, is_ok, if◌then◌else◌, arith}
use Rattle.std.proofs.lemmas.Bool.Decides.{nat_tests}
use Rattle.std.specs.List.{list_all}
use Rattle.sync_values.specs.declared.value.Value.{Value}
use Rattle.sync_values.specs.declared.value.Value.TheVariants as value
use Rattle.sync_values.specs.declared.value.Fail.TheVariants.{TooLarge}
use Rattle.flat_model.specs.Typing.{is_value}
use Rattle.mo_lexer.specs.Bytes.{is_letter, is_word_byte}
use Rattle.mo_lexer.specs.Spelling.{IsWord, Spells}
use Rattle.mo_lexer.specs.Keywords.{keyword_of}
use Rattle.mo_lexer.specs.Tokens.{Begins, Divided, ended, gap, token, token_of, word_token, value_of, AreTokens}
use Rattle.mo_lexer.specs.declared.fault.LexCode.{LexCode}
use Rattle.mo_lexer.specs.declared.fault.LexCode.TheVariants as code
use Rattle.mo_lexer.specs.declared.piece.Piece.{Piece}
use Rattle.mo_lexer.specs.declared.piece.Piece.TheVariants as piece
use Rattle.mo_lexer.specs.declared.token.Token.{Token}
use Rattle.mo_lexer.specs.declared.token.TokenKind.{TokenKind}
use Rattle.mo_lexer.specs.declared.token.TokenKind.TheVariants as k
use Rattle.mo_lexer.specs.declared.token.Word.{Word}
use Rattle.mo_lexer.specs.declared.token.Word.TheVariants as w
use Rattle.mo_parser.specs.declared.tree.Span.{Span}
use Rattle.mo_parser.specs.grammar.Kinds.{literal_of, literal_by, is_ident, kind_is_ident}
use Rattle.mo_parser.specs.grammar.Names.{span_of}
use Rattle.class_scopes.specs.Spelled.{spelled}
use Rattle.flat_limits.proofs.Spelled.{Every}

abbrev pub IsValue : Value → Type 0
IsValue v = is_value v ≡ true

abbrev pub IsNoDot : ℕ → Type 0
IsNoDot byte = byte ≢ 46

-- the bytes of a name: at most 128, and no dot among them
pub record IsNameText (bytes : List ℕ) : Type 0 where
  pub short : length bytes ≤ 128
  pub plain : Every IsNoDot bytes

abbrev pub IsNameSpan : List ℕ → Span → Type 0
IsNameSpan text span = IsNameText (spelled text span)

-- a number is a value, and a name is one
pub record IsGood (text : List ℕ) (t : Token) : Type 0 where
  pub number : (n : ℤ) → t.kind ≡ k.Integer n → IsValue (value.Int n)
  pub name : t.kind ≡ k.Ident → IsNameSpan text (span_of t)

abbrev Answer : Type 0
Answer = Result (Option TokenKind) LexCode

abbrev number_by : ℕ → Bool → Answer
number_by m b = if b then Ok (Some (k.Integer (pos m))) else Err code.L3

abbrev name_by : Bool → Answer
name_by b = if b then Ok (Some k.Ident) else Err code.L4

fits : (m : ℕ) → nat_lt m (2 ^ 63) ≡ true → IsValue (value.Int (pos m))
fits m less = ap (λ b. is_ok (if b then Ok (pos m) else Err TooLarge)) less

number_is : (m : ℕ) (n : ℤ) (b : Bool) → nat_lt m (2 ^ 63) ≡ b → number_by m b ≡ Ok (Some (k.Integer n)) → IsValue (value.Int n)
number_is m n true less is =
    let same : pos m ≡ n = cc is in
    subst (λ z. IsValue (value.Int z)) same (fits m less)
number_is m n false less is = absurd (cc is)

no_number : (n : ℤ) (b : Bool) → name_by b ≡ Ok (Some (k.Integer n)) → ⊥
no_number n true is = cc is
no_number n false is = cc is

word_number : (o : Option Word) (bytes : List ℕ) (n : ℤ) → word_token o bytes ≡ Ok (Some (k.Integer n)) → ⊥
word_number (Some word) bytes n is = cc is
word_number None bytes n is = no_number n (nat_le (length bytes) 128) is

number_fits : (p : Piece) (bytes : List ℕ) (n : ℤ) → token_of p bytes ≡ Ok (Some (k.Integer n)) → IsValue (value.Int n)
number_fits piece.Separator bytes n is = absurd (cc is)
number_fits piece.Comment bytes n is = absurd (cc is)
number_fits piece.Unended bytes n is = absurd (cc is)
number_fits piece.Word bytes n is = absurd (word_number (keyword_of bytes) bytes n is)
number_fits piece.Integer bytes n is = number_is (value_of bytes) n (nat_lt (value_of bytes) (2 ^ 63)) refl is
number_fits piece.Real bytes n is = absurd (cc is)
number_fits piece.Text bytes n is = absurd (cc is)
number_fits (piece.Symbol s) bytes n is = absurd (cc is)

short_by : (m : ℕ) (b : Bool) → nat_le m 128 ≡ b → name_by b ≡ Ok (Some k.Ident) → m ≤ 128
short_by m true less is = grind (arith, nat_tests, less)
short_by m false less is = absurd (cc is)

both : (a b : Bool) → IsTrue (a && b) → IsTrue a × IsTrue b
both true true is = (refl, refl)
both true false is = absurd (cc is)
both false b is = absurd (cc is)

letter_plain : (b : ℕ) → IsTrue (is_letter b) → IsNoDot b
letter_plain b is same =
    let bad : false ≡ true = subst (λ c. IsTrue (is_letter c)) same is in
    cc bad

byte_plain : (b : ℕ) → IsTrue (is_word_byte b) → IsNoDot b
byte_plain b is same =
    let bad : false ≡ true = subst (λ c. IsTrue (is_word_byte c)) same is in
    cc bad

bytes_plain : (bytes : List ℕ) → IsTrue (list_all is_word_byte bytes) → Every IsNoDot bytes
bytes_plain [] all = tt
bytes_plain (b ∷ bytes) all =
    let parts = both (is_word_byte b) (list_all is_word_byte bytes) all in
    (byte_plain b parts.0, bytes_plain bytes parts.1)

word_plain : (bytes : List ℕ) → IsWord bytes → Every IsNoDot bytes
word_plain [] is = absurd is
word_plain (b ∷ bytes) is = (letter_plain b is.0, bytes_plain bytes is.1)

word_short : (o : Option Word) (bytes : List ℕ) → word_token o bytes ≡ Ok (Some k.Ident) → length bytes ≤ 128
word_short (Some word) bytes is = absurd (cc is)
word_short None bytes is = short_by (length bytes) (nat_le (length bytes) 128) refl is

no_name : (m : ℕ) (b : Bool) → number_by m b ≡ Ok (Some k.Ident) → ⊥
no_name m true is = cc is
no_name m false is = cc is

name_text : (p : Piece) (bytes : List ℕ) → Spells p bytes → token_of p bytes ≡ Ok (Some k.Ident) → IsNameText bytes
name_text piece.Separator bytes spelt is = absurd (cc is)
name_text piece.Comment bytes spelt is = absurd (cc is)
name_text piece.Unended bytes spelt is = absurd (cc is)
name_text piece.Word bytes spelt is = record { short = word_short (keyword_of bytes) bytes is; plain = word_plain bytes spelt }
name_text piece.Integer bytes spelt is = absurd (no_name (value_of bytes) (nat_lt (value_of bytes) (2 ^ 63)) is)
name_text piece.Real bytes spelt is = absurd (cc is)
name_text piece.Text bytes spelt is = absurd (cc is)
name_text (piece.Symbol s) bytes spelt is = absurd (cc is)

-- what lies in no text is the empty name
spelled_by : (bytes : List ℕ) (b : Bool) → IsNameText bytes → IsNameText (if b then bytes else [])
spelled_by bytes true is = is
spelled_by bytes false is = record { short = omega arith; plain = tt }

spelled_name : (text : List ℕ) (at len : ℕ) → IsNameText (take len (drop at text)) → IsNameSpan text (record { at = at; end = at + len })
spelled_name text at len is =
    let same : len ≡ at + len - at = omega arith in
    spelled_by (take (at + len - at) (drop at text)) (nat_le at (at + len) && nat_le (at + len) (length text)) (subst (λ n. IsNameText (take n (drop at text))) same is)

pub all_good : (text : List ℕ) (at : ℕ) (tokens : List Token) → Divided text at tokens → Every (IsGood text) tokens
all_good text _ _ (ended at all) = (record { number = λ n is. absurd (cc is); name = λ is. absurd (cc is) }, tt)
all_good text _ _ (gap at piece len tokens begins is rest) = all_good text (at + len) tokens rest
all_good text _ _ (token at piece len found tokens begins is rest) = (
  record {
    number = λ n same. number_fits piece (take len (drop at text)) n (is ∙ ap (λ x. Ok (Some x)) same);
    name = λ same. spelled_name text at len (name_text piece (take len (drop at text)) begins.spelled (is ∙ ap (λ x. Ok (Some x)) same));
  },
  all_good text (at + len) tokens rest,
)

literal_value : (kind : TokenKind) (v : Value) → ((n : ℤ) → kind ≡ k.Integer n → IsValue (value.Int n)) → literal_by kind ≡ Some v → IsValue v
literal_value (k.Integer n) v number is =
    let same : value.Int n ≡ v = cc is in
    subst IsValue same (number n refl)
literal_value (k.Keyword w.KwTrue) v number is =
    let same : value.Bool true ≡ v = cc is in
    subst IsValue same refl
literal_value (k.Keyword w.KwFalse) v number is =
    let same : value.Bool false ≡ v = cc is in
    subst IsValue same refl
literal_value _ v number is = absurd (cc is)

-- a literal is a value
pub good_literal : (text : List ℕ) (t : Token) (v : Value) → IsGood text t → literal_of t ≡ Some v → IsValue v
unfolding literal_of
good_literal text t v good is = literal_value t.kind v good.number is

ident_kind : (kind : TokenKind) → kind_is_ident kind ≡ true → kind ≡ k.Ident
ident_kind k.Ident is = refl
ident_kind _ is = absurd (cc is)

-- and a name is one
pub good_name : (text : List ℕ) (t : Token) → IsGood text t → is_ident t ≡ true → IsNameSpan text (span_of t)
unfolding is_ident
good_name text t good is = good.name (ident_kind t.kind is)
