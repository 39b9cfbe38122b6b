-- Reading elements of classes.
use Rattle.std.specs.Prelude.{ℕ, List, [], ◌∷◌, ◌++◌, is_some}
use Rattle.mo_lexer.specs.declared.token.Sym.TheVariants as s
use Rattle.mo_parser.specs.declared.tree.Element.{Element}
use Rattle.mo_parser.specs.declared.tree.Variability.{Variability}
use Rattle.mo_parser.specs.declared.tree.Variability.TheVariants as variability
use Rattle.mo_parser.specs.declared.tree.Causality.{Causality}
use Rattle.mo_parser.specs.declared.tree.Causality.TheVariants as causality
use Rattle.mo_parser.specs.declared.grammar.parts.Declared.{Declared}
use Rattle.mo_parser.specs.reading.Outcomes.{Parser, ◌>>=◌, ◌>>◌, gives, one, choose, many}
use Rattle.mo_parser.specs.grammar.Kinds.{causality_of, is_symbol, variability_of}
use Rattle.mo_parser.specs.reading.Starts.{begins_element}
use Rattle.mo_parser.specs.grammar.Elements.{element_of}
use Rattle.mo_parser.specs.reading.Names.{symbol, ident, name}
use Rattle.mo_parser.specs.reading.Expressions.{expr}
use Rattle.mo_parser.specs.reading.Modifications.{args, modification}
use Rattle.mo_parser.specs.reading.Comments.{balanced, comment}

unfoldable pub some_variability : Parser Variability
some_variability = choose (λ t. is_some (variability_of t)) (one variability_of) (gives variability.Plain)

unfoldable pub some_causality : Parser Causality
some_causality = choose (λ t. is_some (causality_of t)) (one causality_of) (gives causality.Plain)

unfoldable pub declared : Parser Declared
declared = do
  v ← some_variability
  c ← some_causality
  base ← name
  gives (record { variability = v; causality = c; base = base.path })

module _ (n : ℕ) where
  unfoldable pub component : Declared → List Element → Parser (List Element)
  component d es = do
    x ← ident
    m ← modification (expr n) (args n)
    comment (balanced n)
    gives (es ++ element_of d x m ∷ [])

  unfoldable pub further_component : Declared → List Element → Parser (List Element)
  further_component d es = symbol s.Comma >> component d es

  unfoldable pub components : Declared → List Element → Parser (List Element)
  components d es = component d es >>= many (is_symbol s.Comma) (further_component d)

  unfoldable pub element : List Element → Parser (List Element)
  element es = do
    d ← declared
    all ← components d es
    symbol s.Semicolon
    gives all

  abbrev pub elements : List Element → Parser (List Element)
  elements = many begins_element element
