-- One piece more of a text that is divided into pieces.
use Rattle.std.proofs.Common.{◌≡◌, ◌≤◌, ◌<◌, ◌+◌, ◌*◌, ◌-◌, ◌++◌, ℕ, zero, suc, List, [], ◌∷◌, length, take, drop, slice_index, arith, Ok, Some, None, Option, true, length-drop}
use Rattle.std.specs.List.{fold, list_all}
use Rattle.std.proofs.lemmas.Bool.Decides.{nat_tests}
use Rattle.mo_lexer.specs.declared.token.Token.{Token}
use Rattle.mo_lexer.specs.declared.token.TokenKind.{TokenKind}
use Rattle.mo_lexer.specs.declared.fault.LexCode.{LexCode}
use Rattle.mo_lexer.specs.declared.piece.Piece.{Piece}
use Rattle.mo_lexer.specs.Bytes.{is_digit}
use Rattle.mo_lexer.specs.Tokens.{Begins, Divided, Faulty, gap, token, later}
use Rattle.mo_lexer.specs.private.Front.{IsNext, noted}
use Rattle.mo_lexer.proofs.Pieces.{both, some_bytes}

-- ---- numbers

pub grows : (n : ℕ) (ds : List ℕ) → n ≤ fold (λ n digit. 10 * n + (digit - 48)) n ds
grows n [] = omega arith
grows n (d ∷ ds) = let rest = grows (10 * n + (d - 48)) ds in omega (arith, rest)

-- the number of the first digits is not above that of all
pub front_smaller : (ds : List ℕ) (i n : ℕ) → fold (λ n digit. 10 * n + (digit - 48)) n (take i ds) ≤ fold (λ n digit. 10 * n + (digit - 48)) n ds
front_smaller ds zero n = grows n ds
front_smaller [] (suc i) n = omega arith
front_smaller (d ∷ ds) (suc i) n = front_smaller ds i (10 * n + (d - 48))

pub digit_low : (ds : List ℕ) (i : ℕ) → list_all is_digit ds ≡ true → i < length ds → 48 ≤ slice_index ds i
digit_low [] i all inside = absurd (omega arith)
digit_low (d ∷ ds) zero all inside = let first = (both (is_digit d) (list_all is_digit ds) all).0 in grind (arith, nat_tests)
digit_low (d ∷ ds) (suc i) all inside = digit_low ds i (both (is_digit d) (list_all is_digit ds) all).1 (omega arith)

-- ---- pieces

pub some_len : (kind : Piece) (len : ℕ) (bytes : List ℕ) → Begins kind len bytes → 0 < len
some_len kind zero bytes begins = absurd (some_bytes kind begins.spelled)
some_len kind (suc n) bytes begins = omega arith

pub next_within : (text : List ℕ) (at len : ℕ) (found : Option TokenKind) → at < length text → IsNext text at (Ok (found, len)) → (0 < len) × (at + len ≤ length text)
next_within text at len found inside (kind, begins, is) =
    let some = some_len kind len (drop at text) begins in let within = begins.within in let rest = length-drop at text in (some, omega (arith, within, rest))

pub next_tokens : (text : List ℕ) (at len : ℕ) (found : Option TokenKind) (tokens : List Token) → IsNext text at (Ok (found, len)) → Divided text (at + len) tokens → Divided text at (noted found at (at + len) ++ tokens)
next_tokens text at len None tokens (kind, begins, is) rest = gap at kind len tokens begins is rest
next_tokens text at len (Some found) tokens (kind, begins, is) rest = token at kind len found tokens begins is rest

pub next_fault : (text : List ℕ) (at len : ℕ) (found : Option TokenKind) (code : LexCode) (place : ℕ) → IsNext text at (Ok (found, len)) → Faulty text (at + len) code place → Faulty text at code place
next_fault text at len found code place (kind, begins, is) rest = later at kind len found code place begins is rest
