-- Reading description strings and annotations.
use Rattle.std.specs.Prelude.{ℕ, zero, suc}
use Rattle.mo_lexer.specs.declared.token.Sym.{Sym}
use Rattle.mo_lexer.specs.declared.token.Sym.TheVariants as s
use Rattle.mo_lexer.specs.declared.token.Word.TheVariants as w
use Rattle.mo_parser.specs.reading.Outcomes.{Parser, Deep, ◌>>=◌, ◌>>◌, gives, one, choose, unless, many, dropped}
use Rattle.mo_parser.specs.grammar.Kinds.{is_plain, is_symbol, is_text, is_word, when}
use Rattle.mo_parser.specs.reading.Starts.{begins_balanced}
use Rattle.mo_parser.specs.reading.Names.{symbol, word, text}

unfoldable pub more_text : Unit {0} → Parser (Unit {0})
more_text _ = do
  symbol s.Plus
  text
  gives tt

unfoldable pub texts : Parser (Unit {0})
texts = text >> many (is_symbol s.Plus) more_text tt

unfoldable pub plain : Parser (Unit {0})
plain = one (λ t. when (is_plain t) t) >> gives tt

module _ (nested : Parser (Unit {0})) where
  unfoldable pub in_pair : Sym → Parser (Unit {0})
  in_pair close = choose (is_symbol close) (symbol close >> gives tt) (do
    unless (is_symbol close) nested
    symbol close
    gives tt)

  unfoldable pub piece : Unit {0} → Parser (Unit {0})
  piece _ = choose is_plain plain
      (choose (is_symbol s.RoundOpen) (symbol s.RoundOpen >> in_pair s.RoundClose)
      (choose (is_symbol s.CurlyOpen) (symbol s.CurlyOpen >> in_pair s.CurlyClose) (symbol s.SquareOpen >> in_pair s.SquareClose)))

  unfoldable pub pieces : Parser (Unit {0})
  pieces = piece tt >>= many begins_balanced piece

  unfoldable pub note : Parser (Unit {0})
  note = do
    word w.KwAnnotation
    symbol s.RoundOpen
    in_pair s.RoundClose

  unfoldable pub comment : Parser (Unit {0})
  comment = dropped is_text texts >> dropped (is_word w.KwAnnotation) note

unfoldable pub balanced : ℕ → Parser (Unit {0})
balanced zero ts = Deep ts
balanced (suc n) ts = pieces (balanced n) ts
