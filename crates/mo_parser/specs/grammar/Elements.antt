-- Elements of classes. Each step adds to the elements before it.
use Rattle.std.specs.Prelude.{ℕ, List, [], ◌∷◌, ◌++◌}
use Rattle.mo_lexer.specs.declared.token.Token.{Token}
use Rattle.mo_lexer.specs.declared.token.Sym.TheVariants as s
use Rattle.mo_parser.specs.declared.tree.Element.{Element}
use Rattle.mo_parser.specs.declared.tree.Variability.{Variability}
use Rattle.mo_parser.specs.declared.tree.Variability.TheVariants as variability
use Rattle.mo_parser.specs.declared.tree.Causality.{Causality}
use Rattle.mo_parser.specs.declared.tree.Causality.TheVariants as causality
use Rattle.mo_parser.specs.declared.grammar.parts.Modification.{Modification}
use Rattle.mo_parser.specs.declared.grammar.parts.Declared.{Declared}
use Rattle.mo_parser.specs.grammar.Rules.{Rule, ◌>>=◌, ◌>>◌, gives, one, either, many}
use Rattle.mo_parser.specs.grammar.Kinds.{variability_of, causality_of}
use Rattle.mo_parser.specs.grammar.Names.{symbol, ident, name, span_of}
use Rattle.mo_parser.specs.grammar.Expressions.{Expr}
use Rattle.mo_parser.specs.grammar.Modifications.{Args, modification}
use Rattle.mo_parser.specs.grammar.Comments.{Balanced, comment}

abbrev pub element_of : Declared → Token → Modification → Element
element_of d x m = record { variability = d.variability; causality = d.causality; base = d.base; name = span_of x; args = m.args; binding = m.binding }

-- [ "parameter"|"constant"|"discrete" ]
unfoldable pub some_variability : Rule Variability
some_variability = either (one variability_of) (gives variability.Plain)

-- [ "input"|"output" ]
unfoldable pub some_causality : Rule Causality
some_causality = either (one causality_of) (gives causality.Plain)

-- [ "parameter"|"constant"|"discrete" ] [ "input"|"output" ] name
unfoldable pub declared : Rule Declared
declared = do
  v ← some_variability
  c ← some_causality
  base ← name
  gives (record { variability = v; causality = c; base = base.path })

-- inside fewer levels of brackets and if-expressions than one more than the number
module _ (n : ℕ) where
  -- Ident [ modif ] comment
  unfoldable pub component : Declared → List Element → Rule (List Element)
  component d es = do
    x ← ident
    m ← modification (Expr n) (Args n)
    comment (Balanced n)
    gives (es ++ element_of d x m ∷ [])

  -- "," component
  unfoldable pub further_component : Declared → List Element → Rule (List Element)
  further_component d es = symbol s.Comma >> component d es

  -- component { "," component }
  unfoldable pub components : Declared → List Element → Rule (List Element)
  components d es = component d es >>= many (further_component d)

  -- [ "parameter"|"constant"|"discrete" ] [ "input"|"output" ] name component { "," component } ";"
  unfoldable pub element : List Element → Rule (List Element)
  element es = do
    d ← declared
    all ← components d es
    symbol s.Semicolon
    gives all

  unfoldable pub elements : List Element → Rule (List Element)
  elements = many element
