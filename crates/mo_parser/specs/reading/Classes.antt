-- Reading classes and the file.
use Rattle.std.specs.Prelude.{ℕ, ◌&&◌, List, [], ◌∷◌, ◌++◌, is_some}
use Rattle.mo_lexer.specs.declared.token.Token.{Token}
use Rattle.mo_lexer.specs.declared.token.Sym.TheVariants as s
use Rattle.mo_lexer.specs.declared.token.Word.TheVariants as w
use Rattle.mo_parser.specs.declared.tree.Tree.{Tree}
use Rattle.mo_parser.specs.declared.tree.Arg.{Arg}
use Rattle.mo_parser.specs.declared.tree.ClassDef.{ClassDef}
use Rattle.mo_parser.specs.declared.tree.ClassKind.TheVariants as kind
use Rattle.mo_parser.specs.declared.tree.Short.{Short}
use Rattle.mo_parser.specs.declared.grammar.parts.Body.{Body}
use Rattle.mo_parser.specs.reading.Outcomes.{Parser, ◌>>=◌, ◌>>◌, gives, one, choose, many, dropped}
use Rattle.mo_parser.specs.grammar.Kinds.{class_of, is_ident, is_symbol, is_text, is_word, visibility_of, when}
use Rattle.mo_parser.specs.reading.Starts.{begins_class, begins_section}
use Rattle.mo_parser.specs.grammar.Classes.{bodied, shortened}
use Rattle.mo_parser.specs.grammar.Names.{same_name}
use Rattle.mo_parser.specs.reading.Names.{symbol, word, ident, name}
use Rattle.mo_parser.specs.reading.Modifications.{args, in_brackets}
use Rattle.mo_parser.specs.reading.Comments.{balanced, comment, note, texts}
use Rattle.mo_parser.specs.reading.Elements.{elements, some_causality}
use Rattle.mo_parser.specs.reading.Equations.{equations}

unfoldable pub within : Parser (Unit {0})
within = do
  word w.KwWithin
  dropped is_ident name
  symbol s.Semicolon
  gives tt

unfoldable pub same_ident : List ℕ → Token → Parser Token
same_ident text x = one (λ t. when (is_ident t && same_name text x t) t)

module _ (n : ℕ) where
  unfoldable pub section : Body → Parser Body
  section b = choose (λ t. is_some (visibility_of t)) (do
    one visibility_of
    es ← elements n b.elements
    gives (record { elements = es; equations = b.equations })) (do
      word w.KwEquation
      es ← equations n b.equations
      gives (record { elements = b.elements; equations = es }))

  unfoldable pub last_note : Parser (Unit {0})
  last_note = do
    note (balanced n)
    symbol s.Semicolon
    gives tt

  unfoldable pub short_args : Parser (List Arg)
  short_args = choose (is_symbol s.RoundOpen) (symbol s.RoundOpen >> in_brackets (args n)) (gives [])

  unfoldable pub short : Parser Short
  short = do
    symbol s.Equals
    c ← some_causality
    base ← name
    as_args ← short_args
    comment (balanced n)
    gives (record { causality = c; base = base.path; args = as_args })

module _ (text : List ℕ) (n : ℕ) where
  unfoldable pub ending : Token → Parser (Unit {0})
  ending x = do
    dropped (is_word w.KwAnnotation) (last_note n)
    word w.KwEnd
    same_ident text x
    gives tt

  unfoldable pub long : Token → Parser Body
  long x = do
    dropped is_text texts
    es ← elements n []
    b ← many begins_section (section n) (record { elements = es; equations = [] })
    ending x
    gives b

  unfoldable pub plain : Token → Parser Body
  plain x = do
    dropped is_text texts
    es ← elements n []
    ending x
    gives (record { elements = es; equations = [] })

  unfoldable pub long_class : Parser ClassDef
  long_class = do
    k ← one class_of
    x ← ident
    b ← long x
    gives (bodied k x b)

  unfoldable pub connector : Parser ClassDef
  connector = do
    word w.KwConnector
    x ← ident
    choose (is_symbol s.Equals) (do
      sh ← short n
      gives (shortened x sh)) (do
        b ← plain x
        gives (bodied kind.Connector x b))

  unfoldable pub any_class : Parser ClassDef
  any_class = choose (is_word w.KwConnector) connector long_class

  unfoldable pub class_line : List ClassDef → Parser (List ClassDef)
  class_line cs = do
    c ← any_class
    symbol s.Semicolon
    gives (cs ++ c ∷ [])

  unfoldable pub file : Parser Tree
  file = do
    dropped (is_word w.KwWithin) within
    cs ← many begins_class class_line []
    gives (record { classes = cs })
