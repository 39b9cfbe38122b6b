-- Reading expressions.
use Rattle.std.specs.Prelude.{ℕ, zero, suc, Bool, is_some, List, [], ◌∷◌, ◌++◌, Option}
use Rattle.sync_values.specs.declared.value.ChainOp.{ChainOp}
use Rattle.mo_lexer.specs.declared.token.Token.{Token}
use Rattle.mo_lexer.specs.declared.token.Word.TheVariants as w
use Rattle.mo_lexer.specs.declared.token.Sym.TheVariants as s
use Rattle.mo_parser.specs.declared.tree.TreeExpr.{TreeExpr}
use Rattle.mo_parser.specs.declared.grammar.parts.Links.{Links}
use Rattle.mo_parser.specs.declared.grammar.parts.Branches.{Branches}
use Rattle.mo_parser.specs.declared.grammar.parts.Arguments.{Arguments}
use Rattle.mo_parser.specs.reading.Outcomes.{Parser, Deep, ◌>>=◌, ◌>>◌, gives, one, choose, unless, many}
use Rattle.mo_parser.specs.grammar.Kinds.{is_symbol, is_word, literal_of, relation_of, or_of, and_of, sum_of, product_of}
use Rattle.mo_parser.specs.reading.Names.{symbol, word, name}
use Rattle.mo_parser.specs.grammar.Trees.{constant_by, named_expr, called, powered, negated, inverted, related, widened, begins, ends, alone, linked, chained, no_branches, branched, chosen}

abbrev pub is_op : (Token → Option ChainOp) → Token → Bool
is_op op_of t = is_some (op_of t)

module _ (op_of : Token → Option ChainOp) (part : Parser TreeExpr) where
  unfoldable pub link : Links → Parser Links
  link l = do
    op ← one op_of
    e ← part
    gives (linked l op e)

  unfoldable pub links : TreeExpr → Parser TreeExpr
  links first = choose (is_op op_of) (do
    l ← link (alone first)
    all ← many (is_op op_of) link l
    gives (chained (begins first) all)) (gives first)

unfoldable pub literal : Parser TreeExpr
literal = one (λ t. constant_by (literal_of t) t)

module _ (whole : Parser TreeExpr) where
  -- behind an opening bracket the closing one stands outside the pair, however deep
  unfoldable pub inner : Parser TreeExpr
  inner = unless (is_symbol s.RoundClose) whole

  unfoldable pub bracketed : Parser TreeExpr
  bracketed = do
    first ← symbol s.RoundOpen
    e ← inner
    last ← symbol s.RoundClose
    gives (widened first.at last.end e)

  unfoldable pub further : List TreeExpr → Parser (List TreeExpr)
  further es = do
    symbol s.Comma
    e ← whole
    gives (es ++ e ∷ [])

  unfoldable pub listed : Parser (List TreeExpr)
  listed = do
    e ← whole
    many (is_symbol s.Comma) further (e ∷ [])

  unfoldable pub arguments : Parser Arguments
  arguments = choose (is_symbol s.RoundClose) (do
    last ← symbol s.RoundClose
    gives (record { all = []; end = last.end })) (do
      es ← unless (is_symbol s.RoundClose) listed
      last ← symbol s.RoundClose
      gives (record { all = es; end = last.end }))

  unfoldable pub reference : Parser TreeExpr
  reference = do
    x ← name
    choose (is_symbol s.RoundOpen) (do
      symbol s.RoundOpen
      es ← arguments
      gives (called x es)) (gives (named_expr x))

  unfoldable pub primary : Parser TreeExpr
  primary = choose (λ t. is_some (literal_of t)) literal (choose (is_symbol s.RoundOpen) bracketed reference)

  unfoldable pub factor : Parser TreeExpr
  factor = do
    base ← primary
    choose (is_symbol s.Power) (do
      symbol s.Power
      exponent ← primary
      gives (powered base exponent)) (gives base)

  unfoldable pub term : Parser TreeExpr
  term = factor >>= links product_of factor

  unfoldable pub signed : Parser TreeExpr
  signed = choose (is_symbol s.Plus) (do
    sign ← symbol s.Plus
    e ← term
    gives (widened sign.at (ends e) e)) (choose (is_symbol s.Minus) (do
      sign ← symbol s.Minus
      e ← term
      gives (negated sign.at e)) term)

  unfoldable pub arith : Parser TreeExpr
  arith = signed >>= links sum_of term

  unfoldable pub rel : Parser TreeExpr
  rel = do
    a ← arith
    choose (λ t. is_some (relation_of t)) (do
      r ← one relation_of
      b ← arith
      gives (related r a b)) (gives a)

  unfoldable pub lit : Parser TreeExpr
  lit = choose (is_word w.KwNot) (do
    not_word ← word w.KwNot
    e ← rel
    gives (inverted not_word.at e)) rel

  unfoldable pub conj : Parser TreeExpr
  conj = lit >>= links and_of lit

  unfoldable pub simple : Parser TreeExpr
  simple = conj >>= links or_of conj

  unfoldable pub consequence : Parser TreeExpr
  consequence = word w.KwThen >> whole

  unfoldable pub branch : Branches → Parser Branches
  branch b = do
    c ← whole
    e ← consequence
    gives (branched b c e)

  unfoldable pub other_branch : Branches → Parser Branches
  other_branch b = word w.KwElseif >> branch b

  unfoldable pub otherwise : Parser TreeExpr
  otherwise = word w.KwElse >> whole

  unfoldable pub choice : Parser TreeExpr
  choice = do
    if_word ← word w.KwIf
    b ← branch no_branches
    all ← many (is_word w.KwElseif) other_branch b
    e ← otherwise
    gives (chosen if_word.at all e)

  unfoldable pub level : Parser TreeExpr
  level = choose (is_word w.KwIf) choice simple

unfoldable pub expr : ℕ → Parser TreeExpr
expr zero ts = Deep ts
expr (suc n) ts = level (expr n) ts
