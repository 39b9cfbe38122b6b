use Rattle.std.proofs.Common.{◌≡◌, ◌<◌, ℕ, sym, subst, rules, length, slice_index, true}
use Rattle.mo_lexer.specs.declared.piece.Piece.TheVariants as piece
use Rattle.mo_lexer.specs.Bytes.{is_letter, is_separator}
use Rattle.mo_lexer.specs.Tokens.{Begins}
use Rattle.mo_lexer.proofs.Runs.{word_front, separators_front}
use Rattle.mo_lexer.proofs.front.next_piece.Goals as goal

pub returns-then-letter : goal.returns-then-letter
returns-then-letter c =
    let t = c.args.text.now in
    let some : 0 < length t = search rules in
    let first : is_letter (slice_index t 0) ≡ true = search rules in
    subst (λ (n : ℕ). Begins piece.Word n t) (sym c.word_len.ensures) (word_front t some first)

pub returns-then-separator : goal.returns-then-separator
returns-then-separator c =
    let t = c.args.text.now in
    let some : 0 < length t = search rules in
    let first : is_separator (slice_index t 0) ≡ true = search rules in
    subst (λ (n : ℕ). Begins piece.Separator n t) (sym c.separators_len.ensures) (separators_front t some first)
