-- Description strings and annotations, which leave nothing in the tree.
use Rattle.std.specs.Prelude.{ℕ, zero, suc}
use Rattle.mo_lexer.specs.declared.token.Sym.{Sym}
use Rattle.mo_lexer.specs.declared.token.Sym.TheVariants as s
use Rattle.mo_lexer.specs.declared.token.Word.TheVariants as w
use Rattle.mo_parser.specs.grammar.Rules.{Rule, ◌>>=◌, ◌>>◌, gives, one, either, inside, many, too_deep, dropped}
use Rattle.mo_parser.specs.grammar.Kinds.{is_plain, is_symbol, when}
use Rattle.mo_parser.specs.grammar.Names.{symbol, word, text}

-- "+" Text
unfoldable pub more_text : Unit {0} → Rule (Unit {0})
more_text _ = do
  symbol s.Plus
  text
  gives tt

-- Text { "+" Text }
unfoldable pub texts : Rule (Unit {0})
texts = text >> many more_text tt

-- the rules, where the tokens one level of brackets deeper are spelled by the parameter
module _ (nested : Rule (Unit {0})) where
  -- what stands behind an opening bracket, with the closing one
  unfoldable pub in_pair : Sym → Rule (Unit {0})
  in_pair close = either (symbol close >> gives tt) (do
    inside (is_symbol close) nested
    symbol close
    gives tt)

  -- a token that is no bracket, or a pair of brackets
  unfoldable pub piece : Unit {0} → Rule (Unit {0})
  piece _ = either (one (λ t. when (is_plain t) t) >> gives tt)
      (either (symbol s.RoundOpen >> in_pair s.RoundClose)
      (either (symbol s.CurlyOpen >> in_pair s.CurlyClose) (symbol s.SquareOpen >> in_pair s.SquareClose)))

  unfoldable pub pieces : Rule (Unit {0})
  pieces = piece tt >>= many piece

  -- "annotation" "(" balanced ")"
  unfoldable pub note : Rule (Unit {0})
  note = do
    word w.KwAnnotation
    symbol s.RoundOpen
    in_pair s.RoundClose

  -- [ texts ] [ note ]
  unfoldable pub comment : Rule (Unit {0})
  comment = dropped texts >> dropped note

-- at least one token other than End, with brackets closed in their order, in which a token stands inside fewer levels of brackets than the number
unfoldable pub Balanced : ℕ → Rule (Unit {0})
Balanced zero = too_deep
Balanced (suc n) = pieces (Balanced n)
