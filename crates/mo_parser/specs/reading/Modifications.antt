-- Reading modifications and their arguments.
use Rattle.std.specs.Prelude.{ℕ, zero, suc, List, [], ◌∷◌, ◌++◌}
use Rattle.mo_lexer.specs.declared.token.Sym.TheVariants as s
use Rattle.mo_parser.specs.declared.tree.Arg.{Arg}
use Rattle.mo_parser.specs.declared.tree.TreeExpr.{TreeExpr}
use Rattle.mo_parser.specs.declared.grammar.parts.Modification.{Modification}
use Rattle.mo_parser.specs.grammar.Kinds.{is_symbol, is_text}
use Rattle.mo_parser.specs.grammar.Modifications.{argument_of}
use Rattle.mo_parser.specs.reading.Outcomes.{Parser, Deep, ◌>>=◌, ◌>>◌, gives, choose, unless, many, optional, dropped}
use Rattle.mo_parser.specs.reading.Names.{symbol, name}
use Rattle.mo_parser.specs.reading.Expressions.{expr, level}
use Rattle.mo_parser.specs.reading.Comments.{texts}

unfoldable pub value : Parser TreeExpr → Parser TreeExpr
value whole = symbol s.Equals >> level whole

unfoldable pub in_brackets : Parser (List Arg) → Parser (List Arg)
in_brackets nested = choose (is_symbol s.RoundClose) (symbol s.RoundClose >> gives []) (do
  args ← unless (is_symbol s.RoundClose) nested
  symbol s.RoundClose
  gives args)

module _ (whole : Parser TreeExpr) (nested : Parser (List Arg)) where
  unfoldable pub modification : Parser Modification
  modification = choose (is_symbol s.RoundOpen) (do
    symbol s.RoundOpen
    args ← in_brackets nested
    binding ← optional (is_symbol s.Equals) (value whole)
    gives (record { args = args; binding = binding })) (do
      binding ← optional (is_symbol s.Equals) (value whole)
      gives (record { args = []; binding = binding }))

  unfoldable pub argument : Parser Arg
  argument = do
    x ← name
    m ← modification
    dropped is_text texts
    gives (argument_of x m)

  unfoldable pub further_argument : List Arg → Parser (List Arg)
  further_argument args = do
    symbol s.Comma
    a ← argument
    gives (args ++ a ∷ [])

  unfoldable pub arguments : Parser (List Arg)
  arguments = do
    a ← argument
    many (is_symbol s.Comma) further_argument (a ∷ [])

unfoldable pub args : ℕ → Parser (List Arg)
args zero ts = Deep ts
args (suc n) ts = arguments (expr n) (args n) ts
