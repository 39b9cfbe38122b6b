-- Classes and the file.
use Rattle.std.specs.Prelude.{ℕ, ◌&&◌, List, [], ◌∷◌, ◌++◌, Some, None}
use Rattle.mo_lexer.specs.declared.token.Token.{Token}
use Rattle.mo_lexer.specs.declared.token.Sym.TheVariants as s
use Rattle.mo_lexer.specs.declared.token.Word.TheVariants as w
use Rattle.mo_parser.specs.declared.tree.Tree.{Tree}
use Rattle.mo_parser.specs.declared.tree.Arg.{Arg}
use Rattle.mo_parser.specs.declared.tree.ClassDef.{ClassDef}
use Rattle.mo_parser.specs.declared.tree.ClassKind.{ClassKind}
use Rattle.mo_parser.specs.declared.tree.ClassKind.TheVariants as kind
use Rattle.mo_parser.specs.declared.tree.Short.{Short}
use Rattle.mo_parser.specs.declared.grammar.parts.Body.{Body}
use Rattle.mo_parser.specs.grammar.Rules.{Rule, ◌>>=◌, ◌>>◌, gives, one, either, many, dropped}
use Rattle.mo_parser.specs.grammar.Kinds.{class_of, is_ident, visibility_of, when}
use Rattle.mo_parser.specs.grammar.Names.{symbol, word, ident, name, same_name, span_of}
use Rattle.mo_parser.specs.grammar.Modifications.{Args, in_brackets}
use Rattle.mo_parser.specs.grammar.Comments.{Balanced, comment, note, texts}
use Rattle.mo_parser.specs.grammar.Elements.{elements, some_causality}
use Rattle.mo_parser.specs.grammar.Equations.{equations}

abbrev pub bodied : ClassKind → Token → Body → ClassDef
bodied k x b = record { kind = k; name = span_of x; elements = b.elements; equations = b.equations; short = None }

abbrev pub shortened : Token → Short → ClassDef
shortened x sh = record { kind = kind.Connector; name = span_of x; elements = []; equations = []; short = Some sh }

-- "within" [ name ] ";"
unfoldable pub within : Rule (Unit {0})
within = do
  word w.KwWithin
  dropped name
  symbol s.Semicolon
  gives tt

-- an Ident that is spelled as the token
unfoldable pub same_ident : List ℕ → Token → Rule Token
same_ident text x = one (λ t. when (is_ident t && same_name text x t) t)

-- inside fewer levels of brackets and if-expressions than one more than the number
module _ (n : ℕ) where
  -- ("public"|"protected") { element ";" } | "equation" { equation ";" }
  unfoldable pub section : Body → Rule Body
  section b = either (do
    one visibility_of
    es ← elements n b.elements
    gives (record { elements = es; equations = b.equations })) (do
      word w.KwEquation
      es ← equations n b.equations
      gives (record { elements = b.elements; equations = es }))

  unfoldable pub last_note : Rule (Unit {0})
  last_note = do
    note (Balanced n)
    symbol s.Semicolon
    gives tt

  -- [ "(" [ args ] ")" ]
  unfoldable pub short_args : Rule (List Arg)
  short_args = either (symbol s.RoundOpen >> in_brackets (Args n)) (gives [])

  -- "=" [ "input"|"output" ] name [ "(" [ args ] ")" ] comment
  unfoldable pub short : Rule Short
  short = do
    symbol s.Equals
    c ← some_causality
    base ← name
    args ← short_args
    comment (Balanced n)
    gives (record { causality = c; base = base.path; args = args })

-- the same over the bytes of the text
module _ (text : List ℕ) (n : ℕ) where
  -- [ note ";" ] "end" Ident, the class's own
  unfoldable pub ending : Token → Rule (Unit {0})
  ending x = do
    dropped (last_note n)
    word w.KwEnd
    same_ident text x
    gives tt

  -- [ texts ] { element ";" } { section } [ note ";" ] "end" Ident
  unfoldable pub long : Token → Rule Body
  long x = do
    dropped texts
    es ← elements n []
    b ← many (section n) (record { elements = es; equations = [] })
    ending x
    gives b

  -- [ texts ] { element ";" } [ note ";" ] "end" Ident
  unfoldable pub plain : Token → Rule Body
  plain x = do
    dropped texts
    es ← elements n []
    ending x
    gives (record { elements = es; equations = [] })

  -- ("model"|"block"|"class") Ident long
  unfoldable pub long_class : Rule ClassDef
  long_class = do
    k ← one class_of
    x ← ident
    b ← long x
    gives (bodied k x b)

  -- "connector" Ident ( plain | "=" short )
  unfoldable pub connector : Rule ClassDef
  connector = do
    word w.KwConnector
    x ← ident
    either (do
      sh ← short n
      gives (shortened x sh)) (do
        b ← plain x
        gives (bodied kind.Connector x b))

  unfoldable pub any_class : Rule ClassDef
  any_class = either connector long_class

  -- class ";"
  unfoldable pub class_line : List ClassDef → Rule (List ClassDef)
  class_line cs = do
    c ← any_class
    symbol s.Semicolon
    gives (cs ++ c ∷ [])

  -- [ "within" [ name ] ";" ] { class ";" }
  unfoldable pub file : Rule Tree
  file = do
    dropped within
    cs ← many class_line []
    gives (record { classes = cs })
