-- Expressions.
use Rattle.std.specs.Prelude.{ℕ, zero, suc, List, [], ◌∷◌, ◌++◌, Option}
use Rattle.sync_values.specs.declared.value.ChainOp.{ChainOp}
use Rattle.mo_lexer.specs.declared.token.Token.{Token}
use Rattle.mo_lexer.specs.declared.token.Word.TheVariants as w
use Rattle.mo_lexer.specs.declared.token.Sym.TheVariants as s
use Rattle.mo_parser.specs.declared.tree.TreeExpr.{TreeExpr}
use Rattle.mo_parser.specs.declared.grammar.parts.Links.{Links}
use Rattle.mo_parser.specs.declared.grammar.parts.Branches.{Branches}
use Rattle.mo_parser.specs.declared.grammar.parts.Arguments.{Arguments}
use Rattle.mo_parser.specs.grammar.Rules.{Rule, ◌>>=◌, ◌>>◌, gives, one, either, inside, many, too_deep}
use Rattle.mo_parser.specs.grammar.Kinds.{is_symbol, literal_of, relation_of, or_of, and_of, sum_of, product_of}
use Rattle.mo_parser.specs.grammar.Names.{symbol, word, name}
use Rattle.mo_parser.specs.grammar.Trees.{constant_by, named_expr, called, powered, negated, inverted, related, widened, begins, ends, alone, linked, chained, no_branches, branched, chosen}

-- part { op part } with the operators that the function tells
module _ (op_of : Token → Option ChainOp) (part : Rule TreeExpr) where
  unfoldable pub link : Links → Rule Links
  link l = do
    op ← one op_of
    e ← part
    gives (linked l op e)

  -- behind the first part
  unfoldable pub links : TreeExpr → Rule TreeExpr
  links first = either (do
    l ← link (alone first)
    all ← many link l
    gives (chained (begins first) all)) (gives first)

-- Integer | "true" | "false"
unfoldable pub literal : Rule TreeExpr
literal = one (λ t. constant_by (literal_of t) t)

-- the rules, where whole expressions one level deeper are spelled by the parameter
module _ (whole : Rule TreeExpr) where
  -- "(" expr ")"
  unfoldable pub bracketed : Rule TreeExpr
  bracketed = do
    first ← symbol s.RoundOpen
    e ← inside (is_symbol s.RoundClose) whole
    last ← symbol s.RoundClose
    gives (widened first.at last.end e)

  -- "," expr
  unfoldable pub further : List TreeExpr → Rule (List TreeExpr)
  further es = do
    symbol s.Comma
    e ← whole
    gives (es ++ e ∷ [])

  -- expr { "," expr }
  unfoldable pub listed : Rule (List TreeExpr)
  listed = do
    e ← whole
    many further (e ∷ [])

  -- [ expr { "," expr } ] ")"
  unfoldable pub arguments : Rule Arguments
  arguments = either (do
    last ← symbol s.RoundClose
    gives (record { all = []; end = last.end })) (do
      es ← inside (is_symbol s.RoundClose) listed
      last ← symbol s.RoundClose
      gives (record { all = es; end = last.end }))

  -- name [ "(" [ expr { "," expr } ] ")" ]
  unfoldable pub reference : Rule TreeExpr
  reference = do
    x ← name
    either (do
      symbol s.RoundOpen
      es ← arguments
      gives (called x es)) (gives (named_expr x))

  unfoldable pub primary : Rule TreeExpr
  primary = either literal (either bracketed reference)

  -- primary [ "^" primary ]
  unfoldable pub factor : Rule TreeExpr
  factor = do
    base ← primary
    either (do
      symbol s.Power
      exponent ← primary
      gives (powered base exponent)) (gives base)

  -- factor { ("*"|"/") factor }
  unfoldable pub term : Rule TreeExpr
  term = factor >>= links product_of factor

  -- [ "+"|"-" ] term
  unfoldable pub signed : Rule TreeExpr
  signed = either (do
    sign ← symbol s.Plus
    e ← term
    gives (widened sign.at (ends e) e)) (either (do
      sign ← symbol s.Minus
      e ← term
      gives (negated sign.at e)) term)

  -- [ "+"|"-" ] term { ("+"|"-") term }
  unfoldable pub arith : Rule TreeExpr
  arith = signed >>= links sum_of term

  -- arith [ ("<"|"<="|">"|">="|"=="|"<>") arith ]
  unfoldable pub rel : Rule TreeExpr
  rel = do
    a ← arith
    either (do
      r ← one relation_of
      b ← arith
      gives (related r a b)) (gives a)

  -- [ "not" ] rel
  unfoldable pub lit : Rule TreeExpr
  lit = either (do
    not_word ← word w.KwNot
    e ← rel
    gives (inverted not_word.at e)) rel

  -- lit { "and" lit }
  unfoldable pub conj : Rule TreeExpr
  conj = lit >>= links and_of lit

  -- conj { "or" conj }
  unfoldable pub simple : Rule TreeExpr
  simple = conj >>= links or_of conj

  -- "then" expr
  unfoldable pub consequence : Rule TreeExpr
  consequence = word w.KwThen >> whole

  -- expr "then" expr, behind "if" or "elseif"
  unfoldable pub branch : Branches → Rule Branches
  branch b = do
    c ← whole
    e ← consequence
    gives (branched b c e)

  unfoldable pub other_branch : Branches → Rule Branches
  other_branch b = word w.KwElseif >> branch b

  -- "else" expr
  unfoldable pub otherwise : Rule TreeExpr
  otherwise = word w.KwElse >> whole

  -- "if" expr "then" expr { "elseif" expr "then" expr } "else" expr
  unfoldable pub choice : Rule TreeExpr
  choice = do
    if_word ← word w.KwIf
    b ← branch no_branches
    all ← many other_branch b
    e ← otherwise
    gives (chosen if_word.at all e)

  unfoldable pub level : Rule TreeExpr
  level = either choice simple

-- whole expressions in which a token stands inside fewer levels of brackets and if-expressions than the number
unfoldable pub Expr : ℕ → Rule TreeExpr
Expr zero = too_deep
Expr (suc n) = level (Expr n)
