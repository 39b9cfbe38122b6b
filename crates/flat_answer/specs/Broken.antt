-- The rules of names, instances and parameters, and the first one that is broken. Each rule is defined under its own name.
-- This project's own codes and order.
use Rattle.std.specs.Prelude.{ℕ, ◌<◌, List, Option}
use Rattle.mo_lexer.specs.Tokens.{AreTokens}
use Rattle.mo_lexer.specs.declared.token.Token.{Token}
use Rattle.mo_parser.specs.declared.tree.ClassDef.{ClassDef}
use Rattle.class_scopes.specs.declared.end.NameCode.{NameCode}
use Rattle.class_scopes.specs.declared.end.NameCode.TheVariants as code
use Rattle.class_scopes.specs.Faults.{IsFirstOf, IsKept}
use Rattle.class_scopes.specs.N1 as N1
use Rattle.class_scopes.specs.N2 as N2
use Rattle.scope_names.specs.N3 as N3
use Rattle.class_order.specs.N4 as N4
use Rattle.argument_rules.specs.N5 as N5
use Rattle.value_rules.specs.N6 as N6
use Rattle.value_rules.specs.N7 as N7
use Rattle.class_rules.specs.N8 as N8
use Rattle.class_rules.specs.N9 as N9
use Rattle.instance_sizes.specs.N10 as N10
use Rattle.class_order.specs.N11 as N11
use Rattle.flat_answer.specs.Model.{variables_of}

-- the order in which the rules are asked: N1 to N5, N8, N9, N11, N10, N6, N7
abbrev pub rank : NameCode → ℕ
rank code.N1 = 0
rank code.N2 = 1
rank code.N3 = 2
rank code.N4 = 3
rank code.N5 = 4
rank code.N8 = 5
rank code.N9 = 6
rank code.N11 = 7
rank code.N10 = 8
rank code.N6 = 9
rank code.N7 = 10

module _ (text : List ℕ) (classes : List ClassDef) (chosen : Option ℕ) where
  -- N10 counts the tokens of the text
  abbrev pub BreaksSize : ℕ → Type 0
  BreaksSize place = (tokens : List Token) × AreTokens text tokens × N10.Breaks text classes tokens chosen place

  -- a rule is broken at a place: a byte of the text, of N6 a number among the parameters and constants, of N7 one among all
  -- variables, both in flat order
  abbrev pub Breaks : NameCode → ℕ → Type 0
  Breaks code.N1 = N1.Breaks text classes chosen
  Breaks code.N2 = N2.Breaks text classes chosen
  Breaks code.N3 = N3.Breaks text classes chosen
  Breaks code.N4 = N4.Breaks text classes chosen
  Breaks code.N5 = N5.Breaks text classes chosen
  Breaks code.N6 = N6.Breaks text classes (variables_of text classes chosen)
  Breaks code.N7 = N7.Breaks text classes (variables_of text classes chosen)
  Breaks code.N8 = N8.Breaks text classes chosen
  Breaks code.N9 = N9.Breaks text classes chosen
  Breaks code.N10 = BreaksSize
  Breaks code.N11 = N11.Breaks text classes chosen

  -- no rule before a rank is broken
  abbrev pub KeepsBefore : ℕ → Type 0
  KeepsBefore end = (code : NameCode) → rank code < end → IsKept (Breaks code)

  -- no rule is broken
  abbrev pub KeepsAll : Type 0
  KeepsAll = (code : NameCode) → IsKept (Breaks code)

  -- a rule is broken first at a place, and none before it in the order is broken
  pub record IsFirst (code : NameCode) (place : ℕ) : Type 0 where
    pub first : IsFirstOf (Breaks code) place
    pub before : KeepsBefore (rank code)
