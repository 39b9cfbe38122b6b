-- Modifications and their arguments.
use Rattle.std.specs.Prelude.{ℕ, zero, suc, List, [], ◌∷◌, ◌++◌}
use Rattle.mo_lexer.specs.declared.token.Sym.TheVariants as s
use Rattle.mo_parser.specs.declared.tree.Arg.{Arg, roll-Arg}
use Rattle.mo_parser.specs.declared.tree.TreeExpr.{TreeExpr}
use Rattle.mo_parser.specs.declared.grammar.parts.Modification.{Modification}
use Rattle.mo_parser.specs.declared.grammar.names.Named.{Named}
use Rattle.mo_parser.specs.grammar.Rules.{Rule, ◌>>=◌, ◌>>◌, gives, either, inside, many, too_deep, optional, dropped}
use Rattle.mo_parser.specs.grammar.Kinds.{is_symbol}
use Rattle.mo_parser.specs.grammar.Names.{symbol, name}
use Rattle.mo_parser.specs.grammar.Expressions.{Expr, level}
use Rattle.mo_parser.specs.grammar.Comments.{texts}

abbrev pub argument_of : Named → Modification → Arg
argument_of x m = roll-Arg (record { name = x.path; args = m.args; binding = m.binding })

-- "=" expr, where whole expressions one level deeper are spelled by the parameter
unfoldable pub value : Rule TreeExpr → Rule TreeExpr
value whole = symbol s.Equals >> level whole

-- [ args ] ")", where arguments one level deeper are spelled by the parameter
unfoldable pub in_brackets : Rule (List Arg) → Rule (List Arg)
in_brackets nested = either (symbol s.RoundClose >> gives []) (do
  args ← inside (is_symbol s.RoundClose) nested
  symbol s.RoundClose
  gives args)

-- the rules, where expressions and arguments one level deeper are spelled by the parameters
module _ (whole : Rule TreeExpr) (nested : Rule (List Arg)) where
  -- [ "(" [ args ] ")" ] [ "=" expr ]
  unfoldable pub modification : Rule Modification
  modification = either (do
    symbol s.RoundOpen
    args ← in_brackets nested
    binding ← optional (value whole)
    gives (record { args = args; binding = binding })) (do
      binding ← optional (value whole)
      gives (record { args = []; binding = binding }))

  -- name [ modif ] [ texts ]
  unfoldable pub argument : Rule Arg
  argument = do
    x ← name
    m ← modification
    dropped texts
    gives (argument_of x m)

  -- "," arg
  unfoldable pub further_argument : List Arg → Rule (List Arg)
  further_argument args = do
    symbol s.Comma
    a ← argument
    gives (args ++ a ∷ [])

  -- arg { "," arg }
  unfoldable pub arguments : Rule (List Arg)
  arguments = do
    a ← argument
    many further_argument (a ∷ [])

-- arguments in which a token stands inside fewer levels of brackets and if-expressions than the number
unfoldable pub Args : ℕ → Rule (List Arg)
Args zero = too_deep
Args (suc n) = arguments (Expr n) (Args n)
