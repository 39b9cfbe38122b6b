-- What holds of the classes of a tree, where it holds of an expression and of an argument whose parts it holds of.
use Rattle.std.proofs.Common.{◌≡◌, refl, subst, sym, ap, ◌∙◌, ℕ, zero, suc, Bool, true, false, List, [], ◌∷◌, ◌++◌, Option, Some, None}
use Rattle.sync_values.specs.declared.value.Value.{Value}
use Rattle.mo_lexer.specs.declared.token.Token.{Token}
use Rattle.mo_lexer.specs.declared.token.Sym.TheVariants as s
use Rattle.mo_lexer.specs.declared.token.Word.TheVariants as w
use Rattle.mo_parser.specs.declared.tree.Arg.{Arg, roll-Arg}
use Rattle.mo_parser.specs.declared.tree.Arg.TheViews.{out-Arg, out-roll-Arg}
use Rattle.mo_parser.specs.declared.tree.ClassDef.{ClassDef}
use Rattle.mo_parser.specs.declared.tree.Element.{Element}
use Rattle.mo_parser.specs.declared.tree.Path.{Path}
use Rattle.mo_parser.specs.declared.tree.Short.{Short}
use Rattle.mo_parser.specs.declared.tree.Span.{Span}
use Rattle.mo_parser.specs.declared.tree.Tree.{Tree}
use Rattle.mo_parser.specs.declared.tree.TreeEq.{TreeEq}
use Rattle.mo_parser.specs.declared.tree.TreeEq.TheOpen.{TreeEq-F}
use Rattle.mo_parser.specs.declared.tree.TreeEq.TheViews.{out-TreeEq, out-roll-TreeEq}
use Rattle.mo_parser.specs.declared.tree.TreeEq.TheVariants.{Equal, Connect, When, rolls-Equal, rolls-Connect, rolls-When}
use Rattle.mo_parser.specs.declared.tree.TreeExpr.{TreeExpr}
use Rattle.mo_parser.specs.declared.tree.Variability.{Variability}
use Rattle.mo_parser.specs.declared.tree.Causality.{Causality}
use Rattle.mo_parser.specs.declared.grammar.names.Named.{Named}
use Rattle.mo_parser.specs.declared.grammar.parts.Body.{Body}
use Rattle.mo_parser.specs.declared.grammar.parts.Declared.{Declared}
use Rattle.mo_parser.specs.declared.grammar.parts.Modification.{Modification}
use Rattle.mo_parser.specs.grammar.Rules.{Rule, ◌>>=◌, ◌>>◌, gives, one, either, inside, many, too_deep, optional, dropped}
use Rattle.mo_parser.specs.grammar.Kinds.{is_ident, literal_of, when}
use Rattle.mo_parser.specs.grammar.Names.{symbol, word, ident, text, name, span_of}
use Rattle.mo_parser.specs.grammar.Comments as comments
use Rattle.mo_parser.specs.grammar.Expressions as exprs
use Rattle.mo_parser.specs.grammar.Modifications as args
use Rattle.mo_parser.specs.grammar.Elements as elements
use Rattle.mo_parser.specs.grammar.Equations as eqs
use Rattle.mo_parser.specs.grammar.Classes as classes
use Rattle.flat_limits.proofs.Spelled.{Every, Maybe, Any_of, every_push, Told, told_gives, told_one, told_any, told_then, told_either, told_deep, told_inside, told_many, told_optional, told_dropped}
use Rattle.flat_limits.proofs.Nodes.{Rises, told_symbol, told_word, told_ident, told_text, told_name, told_simple, told_level, told_expr}

-- nothing is asked of descriptions and annotations
module _ (Good : Token → Type 0) where
  told_more_text : (u : Unit {0}) → Told Good (Any_of (Unit {0})) (comments.more_text u)
  unfolding comments.more_text
  told_more_text u = told_then Good (told_symbol Good s.Plus) (λ _ _. told_then Good (told_text Good) (λ _ _. told_gives Good _ tt))

  told_texts : Told Good (Any_of (Unit {0})) comments.texts
  unfolding comments.texts
  told_texts = told_then Good (told_text Good) (λ _ _. told_many Good (λ u _. told_more_text u) tt)

  module _ {nested : Rule (Unit {0})} (is_nested : Told Good (Any_of (Unit {0})) nested) where
    told_in_pair : (close : _) → Told Good (Any_of (Unit {0})) (comments.in_pair nested close)
    unfolding comments.in_pair
    told_in_pair close = told_either Good (told_then Good (told_symbol Good close) (λ _ _. told_gives Good _ tt))
        (told_then Good (told_inside Good _ is_nested) (λ _ _. told_then Good (told_symbol Good close) (λ _ _. told_gives Good _ tt)))

    told_piece : (u : Unit {0}) → Told Good (Any_of (Unit {0})) (comments.piece nested u)
    unfolding comments.piece
    told_piece u = told_either Good (told_then Good (told_any Good _) (λ _ _. told_gives Good _ tt))
        (told_either Good (told_then Good (told_symbol Good s.RoundOpen) (λ _ _. told_in_pair s.RoundClose))
        (told_either Good (told_then Good (told_symbol Good s.CurlyOpen) (λ _ _. told_in_pair s.CurlyClose))
        (told_then Good (told_symbol Good s.SquareOpen) (λ _ _. told_in_pair s.SquareClose))))

    told_pieces : Told Good (Any_of (Unit {0})) (comments.pieces nested)
    unfolding comments.pieces
    told_pieces = told_then Good (told_piece tt) (λ _ _. told_many Good (λ u _. told_piece u) tt)

    told_note : Told Good (Any_of (Unit {0})) (comments.note nested)
    unfolding comments.note
    told_note = told_then Good (told_word Good w.KwAnnotation) (λ _ _. told_then Good (told_symbol Good s.RoundOpen) (λ _ _. told_in_pair s.RoundClose))

    told_comment : Told Good (Any_of (Unit {0})) (comments.comment nested)
    unfolding comments.comment
    told_comment = told_then Good (told_dropped Good told_texts) (λ _ _. told_dropped Good told_note)

  told_balanced : (n : ℕ) → Told Good (Any_of (Unit {0})) (comments.Balanced n)
  unfolding comments.Balanced
  told_balanced zero = told_deep Good
  told_balanced (suc n) = told_pieces (told_balanced n)

-- it holds of an argument if it holds of the arguments in it and of its binding
abbrev pub Gathers : (TreeExpr → Type 0) → (Arg → Type 0) → Type 0
Gathers P Q = (a : Arg) → Every Q (out-Arg a).args → Maybe P (out-Arg a).binding → Q a

module _ (S : Span → Type 0) (P : TreeExpr → Type 0) (Q : Arg → Type 0) where
  pub record IsElement (element : Element) : Type 0 where
    pub named : S element.name
    pub args : Every Q element.args
    pub binding : Maybe P element.binding

  abbrev pub SidesBy : TreeEq-F TreeEq → Type 0
  SidesBy (TreeEq-F.Equal left right) = P left × P right
  SidesBy (TreeEq-F.Connect a b) = Unit {0}
  SidesBy (TreeEq-F.When clock inside) = Unit {0}

  abbrev pub AreSides : TreeEq → Type 0
  AreSides equation = SidesBy (out-TreeEq equation)

  abbrev pub EquationBy : TreeEq-F TreeEq → Type 0
  EquationBy (TreeEq-F.Equal left right) = P left × P right
  EquationBy (TreeEq-F.Connect a b) = Unit {0}
  EquationBy (TreeEq-F.When clock inside) = P clock × Every AreSides inside

  abbrev pub IsEquation : TreeEq → Type 0
  IsEquation equation = EquationBy (out-TreeEq equation)

  abbrev pub IsShort : Short → Type 0
  IsShort short = Every Q short.args

  pub record IsClass (class : ClassDef) : Type 0 where
    pub elements : Every IsElement class.elements
    pub equations : Every IsEquation class.equations
    pub short : Maybe IsShort class.short

module _ (Good : Token → Type 0) (C : Value → Type 0) (S : Span → Type 0) (P : TreeExpr → Type 0) (Q : Arg → Type 0) (closed : Rises C P) (gathers : Gathers P Q)
    (literals : (t : Token) (v : Value) → Good t → literal_of t ≡ Some v → C v) (idents : (t : Token) → Good t → is_ident t ≡ true → S (span_of t)) where
  expr : (n : ℕ) → Told Good P (exprs.Expr n)
  expr n = told_expr Good C P closed literals n

  level : (n : ℕ) → Told Good P (exprs.level (exprs.Expr n))
  level n = told_level Good C P closed literals (expr n)

  simple : (n : ℕ) → Told Good P (exprs.simple (exprs.Expr n))
  simple n = told_simple Good C P closed literals (expr n)

  abbrev Modified : Modification → Type 0
  Modified m = Every Q m.args × Maybe P m.binding

  abbrev NamedBy : Token → Type 0
  NamedBy t = S (span_of t)

  ident_by : (b : Bool) (t x : Token) → Good t → is_ident t ≡ b → when b t ≡ Some x → S (span_of x)
  ident_by true t x good is made =
      let same : t ≡ x = cc made in
      subst NamedBy same (idents t good is)
  ident_by false t x good is made = absurd (cc made)

  declared_ident : Told Good NamedBy ident
  unfolding ident
  declared_ident = told_one Good (λ t x good is. ident_by (is_ident t) t x good refl is)

  told_value : (n : ℕ) → Told Good P (args.value (exprs.Expr n))
  unfolding args.value
  told_value n = told_then Good (told_symbol Good s.Equals) (λ _ _. level n)

  module _ (n : ℕ) {nested : Rule (List Arg)} (is_nested : Told Good (Every Q) nested) where
    told_in_brackets : Told Good (Every Q) (args.in_brackets nested)
    unfolding args.in_brackets
    told_in_brackets = told_either Good (told_then Good (told_symbol Good s.RoundClose) (λ _ _. told_gives Good _ tt))
        (told_then Good (told_inside Good _ is_nested) (λ found all. told_then Good (told_symbol Good s.RoundClose) (λ _ _. told_gives Good _ all)))

    told_modification : Told Good Modified (args.modification (exprs.Expr n) nested)
    unfolding args.modification
    told_modification = told_either Good
        (told_then Good (told_symbol Good s.RoundOpen) (λ _ _. told_then Good told_in_brackets (λ found all. told_then Good (told_optional Good (told_value n))
        (λ binding is. told_gives Good _ (all, is)))))
        (told_then Good (told_optional Good (told_value n)) (λ binding is. told_gives Good _ (tt, is)))

    argument_is : (x : Named) (m : Modification) → Modified m → Q (args.argument_of x m)
    argument_is x m is =
        let out = out-roll-Arg (record { name = x.path; args = m.args; binding = m.binding }) in
        gathers (args.argument_of x m) (subst (λ o. Every Q o.args) (sym out) is.0) (subst (λ o. Maybe P o.binding) (sym out) is.1)

    told_argument : Told Good Q (args.argument (exprs.Expr n) nested)
    unfolding args.argument
    told_argument = told_then Good (told_name Good) (λ x _. told_then Good told_modification (λ m is. told_then Good (told_dropped Good (told_texts Good))
        (λ _ _. told_gives Good _ (argument_is x m is))))

    told_further_argument : (found : List Arg) → Every Q found → Told Good (Every Q) (args.further_argument (exprs.Expr n) nested found)
    unfolding args.further_argument
    told_further_argument found all = told_then Good (told_symbol Good s.Comma) (λ _ _. told_then Good told_argument (λ a is. told_gives Good _ (every_push Q found a all is)))

    told_arguments : Told Good (Every Q) (args.arguments (exprs.Expr n) nested)
    unfolding args.arguments
    told_arguments = told_then Good told_argument (λ a is. told_many Good told_further_argument (is, tt))

  told_args : (n : ℕ) → Told Good (Every Q) (args.Args n)
  unfolding args.Args
  told_args zero = told_deep Good
  told_args (suc n) = told_arguments n (told_args n)

  told_some_variability : Told Good (Any_of Variability) elements.some_variability
  unfolding elements.some_variability
  told_some_variability = told_either Good (told_any Good _) (told_gives Good _ tt)

  told_some_causality : Told Good (Any_of Causality) elements.some_causality
  unfolding elements.some_causality
  told_some_causality = told_either Good (told_any Good _) (told_gives Good _ tt)

  told_declared : Told Good (Any_of Declared) elements.declared
  unfolding elements.declared
  told_declared = told_then Good told_some_variability (λ v _. told_then Good told_some_causality (λ c _. told_then Good (told_name Good) (λ base _. told_gives Good _ tt)))

  module _ (n : ℕ) where
    abbrev Elements : List Element → Type 0
    Elements es = Every (IsElement S P Q) es

    abbrev Equations : List TreeEq → Type 0
    Equations es = Every (IsEquation S P Q) es

    commented : Told Good (Any_of (Unit {0})) (comments.comment (comments.Balanced n))
    commented = told_comment Good (told_balanced Good n)

    told_component : (d : Declared) (es : List Element) → Elements es → Told Good Elements (elements.component n d es)
    unfolding elements.component
    told_component d es all = told_then Good declared_ident (λ x is. told_then Good (told_modification n (told_args n)) (λ m modified. told_then Good commented
        (λ _ _. told_gives Good _ (every_push (IsElement S P Q) es (elements.element_of d x m) all (record { named = is; args = modified.0; binding = modified.1 })))))

    told_further_component : (d : Declared) (es : List Element) → Elements es → Told Good Elements (elements.further_component n d es)
    unfolding elements.further_component
    told_further_component d es all = told_then Good (told_symbol Good s.Comma) (λ _ _. told_component d es all)

    told_components : (d : Declared) (es : List Element) → Elements es → Told Good Elements (elements.components n d es)
    unfolding elements.components
    told_components d es all = told_then Good (told_component d es all) (λ more every. told_many Good (told_further_component d) every)

    told_element : (es : List Element) → Elements es → Told Good Elements (elements.element n es)
    unfolding elements.element
    told_element es all = told_then Good told_declared (λ d _. told_then Good (told_components d es all) (λ found every. told_then Good (told_symbol Good s.Semicolon)
        (λ _ _. told_gives Good _ every)))

    told_elements : (es : List Element) → Elements es → Told Good Elements (elements.elements n es)
    unfolding elements.elements
    told_elements es all = told_many Good told_element all

    told_connect : Told Good (IsEquation S P Q) eqs.connect
    unfolding eqs.connect
    told_connect = told_then Good (told_word Good w.KwConnect) (λ _ _. told_then Good (told_symbol Good s.RoundOpen) (λ _ _. told_then Good (told_name Good)
        (λ a _. told_then Good (told_symbol Good s.Comma) (λ _ _. told_then Good (told_name Good) (λ b _. told_then Good (told_symbol Good s.RoundClose)
        (λ _ _. told_gives Good _ (connect_is a.path b.path)))))))
      where
        connect_is : (a b : Path) → IsEquation S P Q (Connect a b)
        connect_is a b = subst (EquationBy S P Q) (sym (ap out-TreeEq (sym (rolls-Connect a b)) ∙ out-roll-TreeEq (TreeEq-F.Connect a b))) tt

    equal_out : (left right : TreeExpr) → out-TreeEq (Equal left right) ≡ TreeEq-F.Equal left right
    equal_out left right = ap out-TreeEq (sym (rolls-Equal left right)) ∙ out-roll-TreeEq (TreeEq-F.Equal left right)

    told_right_side : Told Good P (eqs.right_side n)
    unfolding eqs.right_side
    told_right_side = told_then Good (told_symbol Good s.Equals) (λ _ _. level n)

    told_sides : Told Good (AreSides S P Q) (eqs.equal n)
    unfolding eqs.equal
    told_sides = told_then Good (simple n) (λ left is. told_then Good told_right_side (λ right also.
        told_gives Good _ (subst (SidesBy S P Q) (sym (equal_out left right)) (is, also))))

    told_equal : Told Good (IsEquation S P Q) (eqs.equal n)
    unfolding eqs.equal
    told_equal = told_then Good (simple n) (λ left is. told_then Good told_right_side (λ right also.
        told_gives Good _ (subst (EquationBy S P Q) (sym (equal_out left right)) (is, also))))

    told_clause_equation : (es : List TreeEq) → Every (AreSides S P Q) es → Told Good (Every (AreSides S P Q)) (eqs.clause_equation n es)
    unfolding eqs.clause_equation
    told_clause_equation es all = told_then Good told_sides (λ e is. told_then Good commented (λ _ _. told_then Good (told_symbol Good s.Semicolon)
        (λ _ _. told_gives Good _ (every_push (AreSides S P Q) es e all is))))

    told_clause_body : Told Good (Every (AreSides S P Q)) (eqs.clause_body n)
    unfolding eqs.clause_body
    told_clause_body = told_then Good (told_word Good w.KwThen) (λ _ _. told_then Good (told_many Good told_clause_equation tt)
        (λ es all. told_then Good (told_word Good w.KwEnd) (λ _ _. told_then Good (told_word Good w.KwWhen) (λ _ _. told_gives Good _ all))))

    when_is : (clock : TreeExpr) (es : List TreeEq) → P clock → Every (AreSides S P Q) es → IsEquation S P Q (When clock es)
    when_is clock es is all =
        subst (EquationBy S P Q) (sym (ap out-TreeEq (sym (rolls-When clock es)) ∙ out-roll-TreeEq (TreeEq-F.When clock es))) (is, all)

    told_clause : Told Good (IsEquation S P Q) (eqs.clause n)
    unfolding eqs.clause
    told_clause = told_then Good (told_word Good w.KwWhen) (λ _ _. told_then Good (level n) (λ clock is. told_then Good told_clause_body
        (λ es all. told_gives Good _ (when_is clock es is all))))

    told_any_equation : Told Good (IsEquation S P Q) (eqs.any_equation n)
    unfolding eqs.any_equation
    told_any_equation = told_either Good told_clause (told_either Good told_connect told_equal)

    told_equation : (es : List TreeEq) → Equations es → Told Good Equations (eqs.equation n es)
    unfolding eqs.equation
    told_equation es all = told_then Good told_any_equation (λ e is. told_then Good commented (λ _ _. told_then Good (told_symbol Good s.Semicolon)
        (λ _ _. told_gives Good _ (every_push (IsEquation S P Q) es e all is))))

    told_equations : (es : List TreeEq) → Equations es → Told Good Equations (eqs.equations n es)
    unfolding eqs.equations
    told_equations es all = told_many Good told_equation all

    abbrev IsBody : Body → Type 0
    IsBody b = Elements b.elements × Equations b.equations

    told_section : (b : Body) → IsBody b → Told Good IsBody (classes.section n b)
    unfolding classes.section
    told_section b is = told_either Good
        (told_then Good (told_any Good _) (λ _ _. told_then Good (told_elements b.elements is.0) (λ es all. told_gives Good _ (all, is.1))))
        (told_then Good (told_word Good w.KwEquation) (λ _ _. told_then Good (told_equations b.equations is.1) (λ es all. told_gives Good _ (is.0, all))))

    told_last_note : Told Good (Any_of (Unit {0})) (classes.last_note n)
    unfolding classes.last_note
    told_last_note = told_then Good (told_note Good (told_balanced Good n)) (λ _ _. told_then Good (told_symbol Good s.Semicolon) (λ _ _. told_gives Good _ tt))

    told_short_args : Told Good (Every Q) (classes.short_args n)
    unfolding classes.short_args
    told_short_args = told_either Good (told_then Good (told_symbol Good s.RoundOpen) (λ _ _. told_in_brackets n (told_args n))) (told_gives Good _ tt)

    told_short : Told Good (IsShort S P Q) (classes.short n)
    unfolding classes.short
    told_short = told_then Good (told_symbol Good s.Equals) (λ _ _. told_then Good told_some_causality (λ c _. told_then Good (told_name Good)
        (λ base _. told_then Good told_short_args (λ found all. told_then Good commented (λ _ _. told_gives Good _ all)))))

    module _ (bytes : List ℕ) where
      told_same_ident : (x : Token) → Told Good (Any_of Token) (classes.same_ident bytes x)
      unfolding classes.same_ident
      told_same_ident x = told_any Good _

      told_ending : (x : Token) → Told Good (Any_of (Unit {0})) (classes.ending bytes n x)
      unfolding classes.ending
      told_ending x = told_then Good (told_dropped Good told_last_note) (λ _ _. told_then Good (told_word Good w.KwEnd) (λ _ _. told_then Good (told_same_ident x)
          (λ _ _. told_gives Good _ tt)))

      told_long : (x : Token) → Told Good IsBody (classes.long bytes n x)
      unfolding classes.long
      told_long x = told_then Good (told_dropped Good (told_texts Good)) (λ _ _. told_then Good (told_elements [] tt) (λ es all. told_then Good
          (told_many Good told_section (all, tt)) (λ b is. told_then Good (told_ending x) (λ _ _. told_gives Good _ is))))

      told_plain : (x : Token) → Told Good IsBody (classes.plain bytes n x)
      unfolding classes.plain
      told_plain x = told_then Good (told_dropped Good (told_texts Good)) (λ _ _. told_then Good (told_elements [] tt) (λ es all. told_then Good (told_ending x)
          (λ _ _. told_gives Good _ (all, tt))))

      told_long_class : Told Good (IsClass S P Q) (classes.long_class bytes n)
      unfolding classes.long_class
      told_long_class = told_then Good (told_any Good _) (λ k _. told_then Good (told_ident Good) (λ x _. told_then Good (told_long x)
          (λ b is. told_gives Good _ (record { elements = is.0; equations = is.1; short = tt }))))

      told_connector : Told Good (IsClass S P Q) (classes.connector bytes n)
      unfolding classes.connector
      told_connector = told_then Good (told_word Good w.KwConnector) (λ _ _. told_then Good (told_ident Good) (λ x _. told_either Good
          (told_then Good told_short (λ sh is. told_gives Good _ (record { elements = tt; equations = tt; short = is })))
          (told_then Good (told_plain x) (λ b is. told_gives Good _ (record { elements = is.0; equations = is.1; short = tt })))))

      told_any_class : Told Good (IsClass S P Q) (classes.any_class bytes n)
      unfolding classes.any_class
      told_any_class = told_either Good told_connector told_long_class

      told_class_line : (cs : List ClassDef) → Every (IsClass S P Q) cs → Told Good (Every (IsClass S P Q)) (classes.class_line bytes n cs)
      unfolding classes.class_line
      told_class_line cs all = told_then Good told_any_class (λ c is. told_then Good (told_symbol Good s.Semicolon)
          (λ _ _. told_gives Good _ (every_push (IsClass S P Q) cs c all is)))

      told_within : Told Good (Any_of (Unit {0})) classes.within
      unfolding classes.within
      told_within = told_then Good (told_word Good w.KwWithin) (λ _ _. told_then Good (told_dropped Good (told_name Good)) (λ _ _. told_then Good
          (told_symbol Good s.Semicolon) (λ _ _. told_gives Good _ tt)))

      pub told_file : Told Good (λ (tree : Tree). Every (IsClass S P Q) tree.classes) (classes.file bytes n)
      unfolding classes.file
      told_file = told_then Good (told_dropped Good told_within) (λ _ _. told_then Good (told_many Good told_class_line tt) (λ cs all. told_gives Good _ all))
