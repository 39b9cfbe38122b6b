-- Description strings and annotations.
use Rattle.std.proofs.Common.{None, Some, ◌<◌, inl, ℕ, zero, suc, [], ◌∷◌, refl, arith}
use Rattle.mo_lexer.specs.declared.token.Token.{Token}
use Rattle.mo_lexer.specs.declared.token.TokenKind.TheVariants as k
use Rattle.mo_lexer.specs.declared.token.Word.TheVariants as w
use Rattle.mo_lexer.specs.declared.token.Sym.TheVariants as s
use Rattle.mo_parser.specs.grammar.Kinds.{is_plain, is_symbol, is_text, is_word}
use Rattle.mo_parser.specs.reading.Starts.{begins_balanced}
use Rattle.mo_parser.specs.grammar.Rules.{Rule, ◌>>=◌, dropped, either, gives, many, one, over}
use Rattle.mo_parser.specs.grammar.Comments as rule
use Rattle.mo_parser.specs.reading.Outcomes.{Parser}
use Rattle.mo_parser.specs.reading.Outcomes as reads
use Rattle.mo_parser.specs.reading.Comments as read
use Rattle.mo_parser.proofs.rules.Fits.{Fits, Some_of, fits_as}
use Rattle.mo_parser.proofs.rules.Kinds.{kw, sy}
use Rattle.mo_parser.proofs.rules.Gives.{fits_gives}
use Rattle.mo_parser.proofs.rules.Levels.{fits_levels}
use Rattle.mo_parser.proofs.rules.Then.{fits_then}
use Rattle.mo_parser.proofs.rules.Choose.{fits_choose, fits_unless}
use Rattle.mo_parser.proofs.rules.Many.{fits_many}
use Rattle.mo_parser.proofs.fits.Tests.{example, fits_symbol, fits_text, fits_word, tells_symbol, tells_text, tells_word}
use Rattle.mo_parser.proofs.fits.Words.{every_other, fits_plain, pieces_start, plains, tells_balanced, tells_plain}

fits_more_text : {n : ℕ} (u : Unit {0}) → Fits (sy s.Plus ∷ []) [] 1 None (λ _. rule.more_text u) (λ _. read.more_text u) n
unfolding rule.more_text read.more_text
fits_more_text u = fits_then (fits_symbol s.Plus) (λ _. fits_then fits_text (λ _. fits_gives tt) refl) refl

fits_texts : {n : ℕ} → Fits (3 ∷ []) (sy s.Plus ∷ []) 1 None (λ _. rule.texts) (λ _. read.texts) n
unfolding rule.texts read.texts
fits_texts = fits_then fits_text (λ _. fits_many (is_symbol s.Plus) (sy s.Plus ∷ []) (tells_symbol s.Plus) refl (λ u. fits_more_text u) refl refl tt) refl

pub fits_some_texts : {n : ℕ} → Fits (3 ∷ []) (3 ∷ sy s.Plus ∷ []) 0 None (λ _. dropped rule.texts) (λ _. reads.dropped is_text read.texts) n
fits_some_texts = fits_choose is_text (3 ∷ []) tells_text (fits_then fits_texts (λ _. fits_gives tt) refl) (fits_gives tt) refl refl (omega arith)

module _ {n : ℕ} {R : ℕ → Rule (Unit {0})} {p : ℕ → Parser (Unit {0})} (nested : Fits pieces_start pieces_start 1 (Some []) R p n) where
  fits_round : Fits (sy s.RoundClose ∷ pieces_start) [] 1 (Some (sy s.RoundClose ∷ [])) (λ k. rule.in_pair (R k) s.RoundClose) (λ k. read.in_pair (p k) s.RoundClose) n
  unfolding rule.in_pair read.in_pair every_other
  fits_round = fits_choose (is_symbol s.RoundClose) (sy s.RoundClose ∷ []) (tells_symbol s.RoundClose) (fits_then (fits_symbol s.RoundClose) (λ _. fits_gives tt) refl)
      (fits_then (fits_unless (is_symbol s.RoundClose) (sy s.RoundClose ∷ []) (tells_symbol s.RoundClose) nested refl) (λ _. fits_then (fits_symbol s.RoundClose) (λ _. fits_gives tt) refl) refl) refl refl (omega arith)

  fits_curly : Fits (sy s.CurlyClose ∷ pieces_start) [] 1 (Some (sy s.CurlyClose ∷ [])) (λ k. rule.in_pair (R k) s.CurlyClose) (λ k. read.in_pair (p k) s.CurlyClose) n
  unfolding rule.in_pair read.in_pair every_other
  fits_curly = fits_choose (is_symbol s.CurlyClose) (sy s.CurlyClose ∷ []) (tells_symbol s.CurlyClose) (fits_then (fits_symbol s.CurlyClose) (λ _. fits_gives tt) refl)
      (fits_then (fits_unless (is_symbol s.CurlyClose) (sy s.CurlyClose ∷ []) (tells_symbol s.CurlyClose) nested refl) (λ _. fits_then (fits_symbol s.CurlyClose) (λ _. fits_gives tt) refl) refl) refl refl (omega arith)

  fits_square : Fits (sy s.SquareClose ∷ pieces_start) [] 1 (Some (sy s.SquareClose ∷ [])) (λ k. rule.in_pair (R k) s.SquareClose) (λ k. read.in_pair (p k) s.SquareClose) n
  unfolding rule.in_pair read.in_pair every_other
  fits_square = fits_choose (is_symbol s.SquareClose) (sy s.SquareClose ∷ []) (tells_symbol s.SquareClose) (fits_then (fits_symbol s.SquareClose) (λ _. fits_gives tt) refl)
      (fits_then (fits_unless (is_symbol s.SquareClose) (sy s.SquareClose ∷ []) (tells_symbol s.SquareClose) nested refl) (λ _. fits_then (fits_symbol s.SquareClose) (λ _. fits_gives tt) refl) refl) refl refl (omega arith)

  fits_piece : (u : Unit {0}) → Fits pieces_start [] 1 None (λ k. rule.piece (R k) u) (λ k. read.piece (p k) u) n
  unfolding rule.piece read.piece read.plain every_other
  fits_piece u = fits_as pieces_start [] refl refl (fits_choose is_plain plains tells_plain (fits_then fits_plain (λ _. fits_gives tt) refl)
      (fits_choose (is_symbol s.RoundOpen) (sy s.RoundOpen ∷ []) (tells_symbol s.RoundOpen) (fits_then (fits_symbol s.RoundOpen) (λ _. fits_round) refl)
      (fits_choose (is_symbol s.CurlyOpen) (sy s.CurlyOpen ∷ []) (tells_symbol s.CurlyOpen) (fits_then (fits_symbol s.CurlyOpen) (λ _. fits_curly) refl)
      (fits_then (fits_symbol s.SquareOpen) (λ _. fits_square) refl) refl refl (omega arith)) refl refl (omega arith)) refl refl (omega arith))

  fits_pieces : Fits pieces_start pieces_start 1 None (λ k. rule.pieces (R k)) (λ k. read.pieces (p k)) n
  unfolding rule.pieces read.pieces every_other
  fits_pieces = fits_as pieces_start pieces_start refl refl (fits_then (fits_piece tt) (λ u. fits_many begins_balanced pieces_start tells_balanced refl (λ u. fits_piece u) refl refl u) refl)

  pub fits_note : Fits (kw w.KwAnnotation ∷ []) [] 1 None (λ k. rule.note (R k)) (λ k. read.note (p k)) n
  unfolding rule.note read.note every_other
  fits_note = fits_then (fits_word w.KwAnnotation) (λ _. fits_then (fits_symbol s.RoundOpen) (λ _. fits_round) refl) refl

  pub fits_comment : Fits (3 ∷ kw w.KwAnnotation ∷ []) (3 ∷ sy s.Plus ∷ kw w.KwAnnotation ∷ []) 0 None (λ k. rule.comment (R k)) (λ k. read.comment (p k)) n
  unfolding rule.comment read.comment every_other
  fits_comment = fits_as (3 ∷ kw w.KwAnnotation ∷ []) (3 ∷ sy s.Plus ∷ kw w.KwAnnotation ∷ []) refl refl
      (fits_then fits_some_texts (λ _. fits_choose (is_word w.KwAnnotation) (kw w.KwAnnotation ∷ []) (tells_word w.KwAnnotation)
      (fits_then fits_note (λ _. fits_gives tt) refl) (fits_gives tt) refl refl (omega arith)) refl)

-- the shortest tokens of a note
some_balanced : (m : ℕ) → 0 < m → Some_of (rule.Balanced m)
unfolding rule.Balanced rule.pieces rule.piece either one gives many ◌>>=◌ example is_plain
some_balanced zero lt = absurd (omega arith)
some_balanced (suc m) lt =
    let t : Token = example k.Ident in
    (tt, λ c. (t ∷ c, (tt, c, inl (t, c, (t, refl, refl), (refl, refl)), over tt c)))

pub fits_balanced : (n : ℕ) → Fits pieces_start pieces_start 1 (Some []) rule.Balanced read.balanced n
unfolding rule.Balanced read.balanced
fits_balanced = fits_levels refl (λ n. refl) (λ a. refl) (λ n a. refl) some_balanced (λ n f. fits_pieces f)
