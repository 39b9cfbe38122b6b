-- What a single token is.
use Rattle.std.specs.Prelude.{Bool, true, false, Option, Some, None}
use Rattle.mo_parser.specs.declared.tree.Variability.{Variability}
use Rattle.mo_parser.specs.declared.tree.Variability.TheVariants as variability
use Rattle.mo_parser.specs.declared.tree.Causality.{Causality}
use Rattle.mo_parser.specs.declared.tree.Causality.TheVariants as causality
use Rattle.mo_parser.specs.declared.tree.ClassKind.{ClassKind}
use Rattle.mo_parser.specs.declared.tree.ClassKind.TheVariants as class
use denote.Enum.Bare.{sameb}
use Rattle.sync_values.specs.declared.value.Value.TheVariants as value
use Rattle.sync_values.specs.declared.value.Rel.{Rel}
use Rattle.sync_values.specs.declared.value.Rel.TheVariants as rel
use Rattle.sync_values.specs.declared.value.ChainOp.{ChainOp}
use Rattle.sync_values.specs.declared.value.ChainOp.TheVariants as op
use Rattle.sync_values.specs.declared.value.Value.{Value}
use Rattle.mo_lexer.specs.declared.token.Token.{Token}
use Rattle.mo_lexer.specs.declared.token.TokenKind.{TokenKind}
use Rattle.mo_lexer.specs.declared.token.TokenKind.TheVariants as k
use Rattle.mo_lexer.specs.declared.token.Word.{Word}
use Rattle.mo_lexer.specs.declared.token.Word.TheVariants as w
use Rattle.mo_lexer.specs.declared.token.Sym.{Sym}
use Rattle.mo_lexer.specs.declared.token.Sym.TheVariants as s
use Rattle.mo_lexer.specs.contracts.token.Word as the_words
use Rattle.mo_lexer.specs.contracts.token.Sym as the_symbols

unfoldable pub same_symbol : Sym → Sym → Bool
same_symbol = sameb the_symbols.the_type

unfoldable pub same_word : Word → Word → Bool
same_word = sameb the_words.the_type

abbrev pub kind_is_symbol : Sym → TokenKind → Bool
kind_is_symbol symbol (k.Symbol found) = same_symbol found symbol
kind_is_symbol symbol _ = false

abbrev pub kind_is_word : Word → TokenKind → Bool
kind_is_word word (k.Keyword found) = same_word found word
kind_is_word word _ = false

abbrev pub kind_is_ident : TokenKind → Bool
kind_is_ident k.Ident = true
kind_is_ident _ = false

abbrev pub kind_is_text : TokenKind → Bool
kind_is_text k.Text = true
kind_is_text _ = false

unfoldable pub is_symbol : Sym → Token → Bool
is_symbol symbol t = kind_is_symbol symbol t.kind

unfoldable pub is_word : Word → Token → Bool
is_word word t = kind_is_word word t.kind

unfoldable pub is_ident : Token → Bool
is_ident t = kind_is_ident t.kind

unfoldable pub is_text : Token → Bool
is_text t = kind_is_text t.kind

-- the token, if it is of a kind
abbrev pub when : Bool → Token → Option Token
when true t = Some t
when false t = None

-- the value of a literal
abbrev pub literal_by : TokenKind → Option Value
literal_by (k.Integer n) = Some (value.Int n)
literal_by (k.Keyword w.KwTrue) = Some (value.Bool true)
literal_by (k.Keyword w.KwFalse) = Some (value.Bool false)
literal_by _ = None

unfoldable pub literal_of : Token → Option Value
literal_of t = literal_by t.kind

abbrev pub relation_by : TokenKind → Option Rel
relation_by (k.Symbol s.Less) = Some rel.Less
relation_by (k.Symbol s.LessEq) = Some rel.LessEq
relation_by (k.Symbol s.Greater) = Some rel.Greater
relation_by (k.Symbol s.GreaterEq) = Some rel.GreaterEq
relation_by (k.Symbol s.Equal) = Some rel.Equal
relation_by (k.Symbol s.Unequal) = Some rel.Unequal
relation_by _ = None

unfoldable pub relation_of : Token → Option Rel
relation_of t = relation_by t.kind

abbrev pub or_by : TokenKind → Option ChainOp
or_by (k.Keyword w.KwOr) = Some op.Or
or_by _ = None

abbrev pub and_by : TokenKind → Option ChainOp
and_by (k.Keyword w.KwAnd) = Some op.And
and_by _ = None

abbrev pub sum_by : TokenKind → Option ChainOp
sum_by (k.Symbol s.Plus) = Some op.Plus
sum_by (k.Symbol s.Minus) = Some op.Minus
sum_by _ = None

abbrev pub product_by : TokenKind → Option ChainOp
product_by (k.Symbol s.Times) = Some op.Times
product_by (k.Symbol s.Over) = Some op.Over
product_by _ = None

unfoldable pub or_of : Token → Option ChainOp
or_of t = or_by t.kind

unfoldable pub and_of : Token → Option ChainOp
and_of t = and_by t.kind

unfoldable pub sum_of : Token → Option ChainOp
sum_of t = sum_by t.kind

unfoldable pub product_of : Token → Option ChainOp
product_of t = product_by t.kind

-- a token of a note other than a bracket
abbrev pub plain_by : TokenKind → Bool
plain_by k.End = false
plain_by (k.Symbol s.RoundOpen) = false
plain_by (k.Symbol s.RoundClose) = false
plain_by (k.Symbol s.CurlyOpen) = false
plain_by (k.Symbol s.CurlyClose) = false
plain_by (k.Symbol s.SquareOpen) = false
plain_by (k.Symbol s.SquareClose) = false
plain_by _ = true

unfoldable pub is_plain : Token → Bool
is_plain t = plain_by t.kind

abbrev pub variability_by : TokenKind → Option Variability
variability_by (k.Keyword w.KwParameter) = Some variability.Parameter
variability_by (k.Keyword w.KwConstant) = Some variability.Constant
variability_by (k.Keyword w.KwDiscrete) = Some variability.Plain
variability_by _ = None

unfoldable pub variability_of : Token → Option Variability
variability_of t = variability_by t.kind

abbrev pub causality_by : TokenKind → Option Causality
causality_by (k.Keyword w.KwInput) = Some causality.Input
causality_by (k.Keyword w.KwOutput) = Some causality.Output
causality_by _ = None

unfoldable pub causality_of : Token → Option Causality
causality_of t = causality_by t.kind

-- the first words of classes other than connectors
abbrev pub class_by : TokenKind → Option ClassKind
class_by (k.Keyword w.KwModel) = Some class.Model
class_by (k.Keyword w.KwBlock) = Some class.Block
class_by (k.Keyword w.KwClass) = Some class.Class
class_by _ = None

unfoldable pub class_of : Token → Option ClassKind
class_of t = class_by t.kind

-- the words before further elements
abbrev pub visibility_by : TokenKind → Option (Unit {0})
visibility_by (k.Keyword w.KwPublic) = Some tt
visibility_by (k.Keyword w.KwProtected) = Some tt
visibility_by _ = None

unfoldable pub visibility_of : Token → Option (Unit {0})
visibility_of t = visibility_by t.kind

abbrev pub end_by : TokenKind → Bool
end_by k.End = true
end_by _ = false

unfoldable pub is_end : Token → Bool
is_end t = end_by t.kind

-- a token of the language that this project's profile has no place for
abbrev pub foreign_word : Word → Bool
foreign_word w.KwAlgorithm = true
foreign_word w.KwBreak = true
foreign_word w.KwConstrainedby = true
foreign_word w.KwDer = true
foreign_word w.KwEach = true
foreign_word w.KwElsewhen = true
foreign_word w.KwEncapsulated = true
foreign_word w.KwEnumeration = true
foreign_word w.KwExpandable = true
foreign_word w.KwExtends = true
foreign_word w.KwExternal = true
foreign_word w.KwFinal = true
foreign_word w.KwFlow = true
foreign_word w.KwFor = true
foreign_word w.KwFunction = true
foreign_word w.KwImport = true
foreign_word w.KwImpure = true
foreign_word w.KwIn = true
foreign_word w.KwInitial = true
foreign_word w.KwInner = true
foreign_word w.KwLoop = true
foreign_word w.KwOperator = true
foreign_word w.KwOuter = true
foreign_word w.KwPackage = true
foreign_word w.KwPartial = true
foreign_word w.KwPure = true
foreign_word w.KwRecord = true
foreign_word w.KwRedeclare = true
foreign_word w.KwReplaceable = true
foreign_word w.KwReturn = true
foreign_word w.KwStream = true
foreign_word w.KwType = true
foreign_word w.KwWhile = true
foreign_word _ = false

abbrev pub foreign_by : TokenKind → Bool
foreign_by k.Real = true
foreign_by k.Text = true
foreign_by (k.Symbol s.SquareOpen) = true
foreign_by (k.Symbol s.CurlyOpen) = true
foreign_by (k.Symbol s.Assign) = true
foreign_by (k.Keyword x) = foreign_word x
foreign_by _ = false

unfoldable pub is_foreign : Token → Bool
is_foreign t = foreign_by t.kind
