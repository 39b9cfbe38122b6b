use Rattle.std.proofs.Common.{◌≡◌, ◌≢◌, ◌∙◌, ◌+◌, ℕ, List, ap, sym, subst, rules, slice_index, length, Some, None}
use Rattle.std.specs.List.{take_while}
use Rattle.mo_lexer.specs.declared.piece.Piece.TheVariants as piece
use Rattle.mo_lexer.specs.Bytes.{is_in_line}
use Rattle.mo_lexer.specs.Tokens.{Begins}
use Rattle.mo_lexer.specs.private.Front.{EndsComment}
use Rattle.mo_lexer.proofs.Comments.{line_comment, block_comment, open_comment, lone_slash}
use Rattle.mo_lexer.proofs.front.slash.Goals as goal

pub returns-then-second-eq47 : goal.returns-then-second-eq47
returns-then-second-eq47 c =
    let t = c.args.text.now in
    let second : slice_index t 1 ≡ 47 = search rules in
    let size = c.line_len.ensures ∙ ap (λ (z : List ℕ). length (take_while is_in_line z)) c.rest_from.ensures in
    subst (λ (n : ℕ). Begins piece.Comment (2 + n) t) (sym size) (line_comment t c.requires.some c.requires.slash second)

pub returns-then-second-ne42 : goal.returns-then-second-ne42
returns-then-second-ne42 c =
    let t = c.args.text.now in
    let no_line : slice_index t 1 ≢ 47 = search rules in
    let no_block : slice_index t 1 ≢ 42 = search rules in
    lone_slash t c.requires.some c.requires.slash no_line no_block

pub returns-in-Some : goal.returns-in-Some
returns-in-Some c =
    let t = c.args.text.now in
    let second : slice_index t 1 ≡ 42 = search rules in
    block_comment t c.in-Some.at c.requires.some c.requires.slash second (subst (λ (z : List ℕ). EndsComment z (Some c.in-Some.at)) c.rest_from-2.ensures c.in-Some.ensures)

pub returns-in-None : goal.returns-in-None
returns-in-None c =
    let t = c.args.text.now in
    let second : slice_index t 1 ≡ 42 = search rules in
    open_comment t c.requires.some c.requires.slash second (subst (λ (z : List ℕ). EndsComment z None) c.rest_from-2.ensures c.in-None.ensures)
