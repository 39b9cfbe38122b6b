-- Names and single tokens.
use Rattle.std.specs.Prelude.{ℕ, Bool, List, [], ◌∷◌, ◌++◌}
use Rattle.std.specs.Str.{bytes_eq}
use Rattle.mo_lexer.specs.declared.token.Token.{Token}
use Rattle.mo_lexer.specs.declared.token.Word.{Word}
use Rattle.mo_lexer.specs.declared.token.Sym.{Sym}
use Rattle.mo_lexer.specs.declared.token.Sym.TheVariants as s
use Rattle.mo_parser.specs.declared.tree.Span.{Span}
use Rattle.mo_parser.specs.declared.grammar.names.Named.{Named}
use Rattle.mo_parser.specs.grammar.Rules.{Rule, ◌>>=◌, ◌>>◌, gives, one, many}
use Rattle.mo_parser.specs.grammar.Kinds.{is_symbol, is_word, is_ident, is_text, when}
use Rattle.mo_parser.specs.grammar.Spans.{spelled}

unfoldable pub symbol : Sym → Rule Token
symbol x = one (λ t. when (is_symbol x t) t)

unfoldable pub word : Word → Rule Token
word x = one (λ t. when (is_word x t) t)

unfoldable pub ident : Rule Token
ident = one (λ t. when (is_ident t) t)

unfoldable pub text : Rule Token
text = one (λ t. when (is_text t) t)

abbrev pub span_of : Token → Span
span_of t = record { at = t.at; end = t.end }

-- two tokens are spelled alike
unfoldable pub same_name : List ℕ → Token → Token → Bool
same_name text a b = bytes_eq (spelled text (span_of a)) (spelled text (span_of b))

-- a name of one part, and one with a part more
abbrev pub named : Token → Named
named t = record { path = record { parts = span_of t ∷ [] }; span = span_of t }

abbrev pub named_on : Named → Token → Named
named_on n t = record { path = record { parts = n.path.parts ++ span_of t ∷ [] }; span = record { at = n.span.at; end = t.end } }

-- name = Ident { "." Ident }
unfoldable pub dotted : Named → Rule Named
dotted n = symbol s.Dot >> ident >>= (λ t. gives (named_on n t))

unfoldable pub name : Rule Named
name = ident >>= (λ t. many dotted (named t))
