-- Equations. Each step adds to the equations before it.
use Rattle.std.specs.Prelude.{ℕ, List, [], ◌∷◌, ◌++◌}
use Rattle.mo_lexer.specs.declared.token.Sym.TheVariants as s
use Rattle.mo_lexer.specs.declared.token.Word.TheVariants as w
use Rattle.mo_parser.specs.declared.tree.TreeEq.{TreeEq}
use Rattle.mo_parser.specs.declared.tree.TreeExpr.{TreeExpr}
use Rattle.mo_parser.specs.declared.tree.TreeEq.TheVariants as q
use Rattle.mo_parser.specs.grammar.Rules.{Rule, ◌>>=◌, ◌>>◌, gives, either, many}
use Rattle.mo_parser.specs.grammar.Names.{symbol, word, name}
use Rattle.mo_parser.specs.grammar.Expressions.{Expr, level, simple}
use Rattle.mo_parser.specs.grammar.Comments.{Balanced, comment}

-- "connect" "(" name "," name ")"
unfoldable pub connect : Rule TreeEq
connect = do
  word w.KwConnect
  symbol s.RoundOpen
  a ← name
  symbol s.Comma
  b ← name
  symbol s.RoundClose
  gives (q.Connect a.path b.path)

-- inside fewer levels of brackets and if-expressions than one more than the number
module _ (n : ℕ) where
  -- "=" expr
  unfoldable pub right_side : Rule TreeExpr
  right_side = symbol s.Equals >> level (Expr n)

  -- simple "=" expr
  unfoldable pub equal : Rule TreeEq
  equal = do
    left ← simple (Expr n)
    right ← right_side
    gives (q.Equal left right)

  -- simple "=" expr comment ";"
  unfoldable pub clause_equation : List TreeEq → Rule (List TreeEq)
  clause_equation es = do
    e ← equal
    comment (Balanced n)
    symbol s.Semicolon
    gives (es ++ e ∷ [])

  -- "then" { simple "=" expr comment ";" } "end" "when"
  unfoldable pub clause_body : Rule (List TreeEq)
  clause_body = do
    word w.KwThen
    es ← many clause_equation []
    word w.KwEnd
    word w.KwWhen
    gives es

  -- "when" expr "then" { simple "=" expr comment ";" } "end" "when"
  unfoldable pub clause : Rule TreeEq
  clause = do
    word w.KwWhen
    clock ← level (Expr n)
    es ← clause_body
    gives (q.When clock es)

  unfoldable pub any_equation : Rule TreeEq
  any_equation = either clause (either connect equal)

  -- ( simple "=" expr | when | connect ) comment ";"
  unfoldable pub equation : List TreeEq → Rule (List TreeEq)
  equation es = do
    e ← any_equation
    comment (Balanced n)
    symbol s.Semicolon
    gives (es ++ e ∷ [])

  unfoldable pub equations : List TreeEq → Rule (List TreeEq)
  equations = many equation
