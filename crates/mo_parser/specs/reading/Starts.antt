-- With which tokens what is read any number of times begins.
use Rattle.std.specs.Prelude.{Bool, true, false}
use Rattle.mo_lexer.specs.declared.token.Token.{Token}
use Rattle.mo_lexer.specs.declared.token.TokenKind.{TokenKind}
use Rattle.mo_lexer.specs.declared.token.TokenKind.TheVariants as k
use Rattle.mo_lexer.specs.declared.token.Word.TheVariants as w
use Rattle.mo_lexer.specs.declared.token.Sym.TheVariants as s

-- what begins a piece of a note: a token that is no bracket, or an opening one
abbrev pub balanced_by : TokenKind → Bool
balanced_by k.End = false
balanced_by (k.Symbol s.RoundClose) = false
balanced_by (k.Symbol s.CurlyClose) = false
balanced_by (k.Symbol s.SquareClose) = false
balanced_by _ = true

unfoldable pub begins_balanced : Token → Bool
begins_balanced t = balanced_by t.kind

-- what begins an element, an equation of a clause, an equation, a section of a class, and a class
abbrev pub element_by : TokenKind → Bool
element_by (k.Keyword w.KwParameter) = true
element_by (k.Keyword w.KwConstant) = true
element_by (k.Keyword w.KwDiscrete) = true
element_by (k.Keyword w.KwInput) = true
element_by (k.Keyword w.KwOutput) = true
element_by k.Ident = true
element_by _ = false

unfoldable pub begins_element : Token → Bool
begins_element t = element_by t.kind

abbrev pub simple_by : TokenKind → Bool
simple_by (k.Symbol s.Plus) = true
simple_by (k.Symbol s.Minus) = true
simple_by (k.Symbol s.RoundOpen) = true
simple_by (k.Keyword w.KwNot) = true
simple_by (k.Keyword w.KwTrue) = true
simple_by (k.Keyword w.KwFalse) = true
simple_by (k.Integer n) = true
simple_by k.Ident = true
simple_by _ = false

unfoldable pub begins_simple : Token → Bool
begins_simple t = simple_by t.kind

abbrev pub equation_by : TokenKind → Bool
equation_by (k.Keyword w.KwWhen) = true
equation_by (k.Keyword w.KwConnect) = true
equation_by other = simple_by other

unfoldable pub begins_equation : Token → Bool
begins_equation t = equation_by t.kind

abbrev pub section_by : TokenKind → Bool
section_by (k.Keyword w.KwPublic) = true
section_by (k.Keyword w.KwProtected) = true
section_by (k.Keyword w.KwEquation) = true
section_by _ = false

unfoldable pub begins_section : Token → Bool
begins_section t = section_by t.kind

abbrev pub class_start_by : TokenKind → Bool
class_start_by (k.Keyword w.KwModel) = true
class_start_by (k.Keyword w.KwBlock) = true
class_start_by (k.Keyword w.KwClass) = true
class_start_by (k.Keyword w.KwConnector) = true
class_start_by _ = false

unfoldable pub begins_class : Token → Bool
begins_class t = class_start_by t.kind
