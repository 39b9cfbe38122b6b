-- Reading names and single tokens.
use Rattle.mo_lexer.specs.declared.token.Token.{Token}
use Rattle.mo_lexer.specs.declared.token.Word.{Word}
use Rattle.mo_lexer.specs.declared.token.Sym.{Sym}
use Rattle.mo_lexer.specs.declared.token.Sym.TheVariants as s
use Rattle.mo_parser.specs.declared.grammar.names.Named.{Named}
use Rattle.mo_parser.specs.reading.Outcomes.{Parser, ◌>>=◌, ◌>>◌, gives, one, many}
use Rattle.mo_parser.specs.grammar.Kinds.{is_symbol, is_word, is_ident, is_text, when}
use Rattle.mo_parser.specs.grammar.Names.{named, named_on}

unfoldable pub symbol : Sym → Parser Token
symbol x = one (λ t. when (is_symbol x t) t)

unfoldable pub word : Word → Parser Token
word x = one (λ t. when (is_word x t) t)

unfoldable pub ident : Parser Token
ident = one (λ t. when (is_ident t) t)

unfoldable pub text : Parser Token
text = one (λ t. when (is_text t) t)

unfoldable pub dotted : Named → Parser Named
dotted n = symbol s.Dot >> ident >>= (λ t. gives (named_on n t))

unfoldable pub name : Parser Named
name = ident >>= (λ t. many (is_symbol s.Dot) dotted (named t))
