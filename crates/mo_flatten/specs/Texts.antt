-- Trees of texts.
use Rattle.std.specs.Prelude.{ℕ, List}
use Rattle.mo_lexer.specs.Tokens.{AreTokens}
use Rattle.mo_lexer.specs.declared.token.Token.{Token}
use Rattle.mo_parser.specs.declared.tree.Tree.{Tree}
use Rattle.mo_parser.specs.grammar.Faults.{Derives}

-- the tokens of the text spell the tree
abbrev pub IsTreeOf : List ℕ → Tree → Type 0
IsTreeOf text tree = (tokens : List Token) × AreTokens text tokens × Derives text 64 tree tokens
