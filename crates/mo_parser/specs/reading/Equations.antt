-- Reading equations.
use Rattle.std.specs.Prelude.{ℕ, List, [], ◌∷◌, ◌++◌}
use Rattle.mo_lexer.specs.declared.token.Sym.TheVariants as s
use Rattle.mo_lexer.specs.declared.token.Word.TheVariants as w
use Rattle.mo_parser.specs.declared.tree.TreeEq.{TreeEq}
use Rattle.mo_parser.specs.declared.tree.TreeExpr.{TreeExpr}
use Rattle.mo_parser.specs.declared.tree.TreeEq.TheVariants as q
use Rattle.mo_parser.specs.reading.Outcomes.{Parser, ◌>>=◌, ◌>>◌, gives, choose, many}
use Rattle.mo_parser.specs.grammar.Kinds.{is_word}
use Rattle.mo_parser.specs.reading.Starts.{begins_equation, begins_simple}
use Rattle.mo_parser.specs.reading.Names.{symbol, word, name}
use Rattle.mo_parser.specs.reading.Expressions.{expr, level, simple}
use Rattle.mo_parser.specs.reading.Comments.{balanced, comment}

unfoldable pub connect : Parser TreeEq
connect = do
  word w.KwConnect
  symbol s.RoundOpen
  a ← name
  symbol s.Comma
  b ← name
  symbol s.RoundClose
  gives (q.Connect a.path b.path)

module _ (n : ℕ) where
  unfoldable pub right_side : Parser TreeExpr
  right_side = symbol s.Equals >> level (expr n)

  unfoldable pub equal : Parser TreeEq
  equal = do
    left ← simple (expr n)
    right ← right_side
    gives (q.Equal left right)

  unfoldable pub clause_equation : List TreeEq → Parser (List TreeEq)
  clause_equation es = do
    e ← equal
    comment (balanced n)
    symbol s.Semicolon
    gives (es ++ e ∷ [])

  unfoldable pub clause_body : Parser (List TreeEq)
  clause_body = do
    word w.KwThen
    es ← many begins_simple clause_equation []
    word w.KwEnd
    word w.KwWhen
    gives es

  unfoldable pub clause : Parser TreeEq
  clause = do
    word w.KwWhen
    clock ← level (expr n)
    es ← clause_body
    gives (q.When clock es)

  unfoldable pub any_equation : Parser TreeEq
  any_equation = choose (is_word w.KwWhen) clause (choose (is_word w.KwConnect) connect equal)

  unfoldable pub equation : List TreeEq → Parser (List TreeEq)
  equation es = do
    e ← any_equation
    comment (balanced n)
    symbol s.Semicolon
    gives (es ++ e ∷ [])

  abbrev pub equations : List TreeEq → Parser (List TreeEq)
  equations = many begins_equation equation
