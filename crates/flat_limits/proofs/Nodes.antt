-- What holds of the expressions of a tree, where it holds of an expression whose parts it holds of.
use Rattle.std.proofs.Common.{◌≡◌, refl, subst, sym, ap, ◌∙◌, ℕ, zero, suc, true, List, [], ◌∷◌, ◌++◌, Option, Some, None}
use Rattle.sync_values.specs.declared.value.Value.{Value}
use Rattle.sync_values.specs.declared.value.ChainOp.{ChainOp}
use Rattle.mo_lexer.specs.declared.token.Token.{Token}
use Rattle.mo_lexer.specs.declared.token.Sym.{Sym}
use Rattle.mo_lexer.specs.declared.token.Word.{Word}
use Rattle.mo_lexer.specs.declared.token.Sym.TheVariants as s
use Rattle.mo_lexer.specs.declared.token.Word.TheVariants as w
use Rattle.mo_parser.specs.declared.tree.TreeExpr.{TreeExpr, roll-TreeExpr, out-TreeExpr}
use Rattle.mo_parser.specs.declared.tree.TreeNode.{TreeNode}
use Rattle.mo_parser.specs.declared.tree.TreeNode.TheVariants.{Const, Name, Call, Chain, Relation, Neg, Not, Power, If, rolls-Const, rolls-Name, rolls-Call, rolls-Chain, rolls-Relation, rolls-Neg, rolls-Not, rolls-Power, rolls-If}
use Rattle.mo_parser.specs.declared.tree.TreeNode.TheOpen.{TreeNode-F}
use Rattle.mo_parser.specs.declared.tree.TreeNode.TheViews.{roll-TreeNode, out-roll-TreeExpr}
use Rattle.mo_parser.specs.declared.grammar.parts.Links.{Links}
use Rattle.mo_parser.specs.declared.grammar.parts.Branches.{Branches}
use Rattle.mo_parser.specs.declared.grammar.parts.Arguments.{Arguments}
use Rattle.mo_parser.specs.declared.grammar.names.Named.{Named}
use Rattle.mo_parser.specs.grammar.Rules.{Rule, ◌>>=◌, ◌>>◌, gives, one, either, inside, many, too_deep}
use Rattle.mo_parser.specs.grammar.Kinds.{is_symbol, literal_of, relation_of, or_of, and_of, sum_of, product_of}
use Rattle.mo_parser.specs.grammar.Names.{symbol, word, ident, text, name, dotted, named}
use Rattle.mo_parser.specs.grammar.Trees.{spanning, widened, alone, no_branches, constant_by}
use Rattle.mo_parser.specs.grammar.Expressions as rule
use Rattle.flat_limits.proofs.Spelled.{Every, Maybe, Any_of, every_push, Told, told_gives, told_one, told_any, told_then, told_either, told_deep, told_inside, told_many}

-- it holds of the parts of a node, and its constant is of a kind
abbrev pub Parts : (Value → Type 0) → (TreeExpr → Type 0) → TreeNode-F TreeNode TreeExpr → Type 0
Parts C P (TreeNode-F.Const v) = C v
Parts C P (TreeNode-F.Name path) = Unit {0}
Parts C P (TreeNode-F.Call path arguments) = Every P arguments
Parts C P (TreeNode-F.Chain parts ops) = Every P parts
Parts C P (TreeNode-F.Relation rel left right) = P left × P right
Parts C P (TreeNode-F.Neg part) = P part
Parts C P (TreeNode-F.Not part) = P part
Parts C P (TreeNode-F.Power base exponent) = P base × P exponent
Parts C P (TreeNode-F.If conditions branches other) = Every P conditions × Every P branches × P other

-- it holds of an expression if it holds of its parts, whatever its span is
pub record Rises (C : Value → Type 0) (P : TreeExpr → Type 0) : Type 0 where
  pub rises : (e : TreeExpr) (y : TreeNode-F TreeNode TreeExpr) → e.node ≡ roll-TreeNode y → Parts C P y → P e
  pub same : (e f : TreeExpr) → e.node ≡ f.node → P e → P f

spanning_node : (node : TreeNode) (at end : ℕ) → (spanning node at end).node ≡ node
unfolding spanning
spanning_node node at end = ap (λ o. o.node) (out-roll-TreeExpr (record { node = node; span = record { at = at; end = end } }))

module _ (Good : Token → Type 0) where
  pub told_symbol : (x : Sym) → Told Good (Any_of Token) (symbol x)
  unfolding symbol
  told_symbol x = told_any Good _

  pub told_word : (x : Word) → Told Good (Any_of Token) (word x)
  unfolding word
  told_word x = told_any Good _

  pub told_ident : Told Good (Any_of Token) ident
  unfolding ident
  told_ident = told_any Good _

  pub told_text : Told Good (Any_of Token) text
  unfolding text
  told_text = told_any Good _

  told_dotted : (n : Named) → Told Good (Any_of Named) (dotted n)
  unfolding dotted
  told_dotted n = told_then Good (told_then Good (told_symbol s.Dot) (λ _ _. told_ident)) (λ t _. told_gives Good _ tt)

  pub told_name : Told Good (Any_of Named) name
  unfolding name
  told_name = told_then Good told_ident (λ t _. told_many Good (λ n _. told_dotted n) tt)

  module _ (C : Value → Type 0) (P : TreeExpr → Type 0) (closed : Rises C P) (literals : (t : Token) (v : Value) → Good t → literal_of t ≡ Some v → C v) where
    spans : (y : TreeNode-F TreeNode TreeExpr) (node : TreeNode) (at end : ℕ) → roll-TreeNode y ≡ node → Parts C P y → P (spanning node at end)
    spans y node at end rolls parts = closed.rises (spanning node at end) y (spanning_node node at end ∙ sym rolls) parts

    widens : (at end : ℕ) (e : TreeExpr) → P e → P (widened at end e)
    unfolding widened
    widens at end e is = closed.same e (spanning (out-TreeExpr e).node at end) (sym (spanning_node (out-TreeExpr e).node at end)) is

    abbrev LinksAre : Links → Type 0
    LinksAre l = Every P l.parts

    abbrev BranchesAre : Branches → Type 0
    BranchesAre b = Every P b.conditions × Every P b.branches

    abbrev ArgumentsAre : Arguments → Type 0
    ArgumentsAre found = Every P found.all

    module _ (op_of : Token → Option ChainOp) {part : Rule TreeExpr} (is_part : Told Good P part) where
      told_link : (l : Links) → LinksAre l → Told Good LinksAre (rule.link op_of part l)
      unfolding rule.link
      told_link l all = told_then Good (told_any Good _) (λ op _. told_then Good is_part (λ e is. told_gives Good _ (every_push P l.parts e all is)))

      told_links : (first : TreeExpr) → P first → Told Good P (rule.links op_of part first)
      unfolding rule.links
      told_links first is = told_either Good
          (told_then Good (told_link (alone first) (is, tt)) (λ l ok. told_then Good (told_many Good told_link ok)
          (λ all every. told_gives Good _ (spans (TreeNode-F.Chain all.parts all.ops) (Chain all.parts all.ops) _ _ (rolls-Chain all.parts all.ops) every))))
          (told_gives Good _ is)

    literal_is : (t : Token) (o : Option Value) → literal_of t ≡ o → (e : TreeExpr) → Good t → constant_by o t ≡ Some e → P e
    literal_is t None is e good made = absurd (cc made)
    literal_is t (Some v) is e good made =
        let same : spanning (Const v) t.at t.end ≡ e = cc made in
        subst P same (spans (TreeNode-F.Const v) (Const v) t.at t.end (rolls-Const v) (literals t v good is))

    told_literal : Told Good P rule.literal
    unfolding rule.literal
    told_literal = told_one Good (λ t e good is. literal_is t (literal_of t) refl e good is)

    module _ {whole : Rule TreeExpr} (is_whole : Told Good P whole) where
      told_bracketed : Told Good P (rule.bracketed whole)
      unfolding rule.bracketed
      told_bracketed = told_then Good (told_symbol s.RoundOpen) (λ first _. told_then Good (told_inside Good _ is_whole)
          (λ e is. told_then Good (told_symbol s.RoundClose) (λ last _. told_gives Good _ (widens first.at last.end e is))))

      told_further : (es : List TreeExpr) → Every P es → Told Good (Every P) (rule.further whole es)
      unfolding rule.further
      told_further es all = told_then Good (told_symbol s.Comma) (λ _ _. told_then Good is_whole (λ e is. told_gives Good _ (every_push P es e all is)))

      told_listed : Told Good (Every P) (rule.listed whole)
      unfolding rule.listed
      told_listed = told_then Good is_whole (λ e is. told_many Good told_further (is, tt))

      told_arguments : Told Good ArgumentsAre (rule.arguments whole)
      unfolding rule.arguments
      told_arguments = told_either Good (told_then Good (told_symbol s.RoundClose) (λ last _. told_gives Good _ tt))
          (told_then Good (told_inside Good _ told_listed) (λ es all. told_then Good (told_symbol s.RoundClose) (λ last _. told_gives Good _ all)))

      told_reference : Told Good P (rule.reference whole)
      unfolding rule.reference
      told_reference = told_then Good told_name (λ x _. told_either Good
          (told_then Good (told_symbol s.RoundOpen) (λ _ _. told_then Good told_arguments
          (λ found all. told_gives Good _ (spans (TreeNode-F.Call x.path found.all) (Call x.path found.all) _ _ (rolls-Call x.path found.all) all))))
          (told_gives Good _ (spans (TreeNode-F.Name x.path) (Name x.path) _ _ (rolls-Name x.path) tt)))

      told_primary : Told Good P (rule.primary whole)
      unfolding rule.primary
      told_primary = told_either Good told_literal (told_either Good told_bracketed told_reference)

      told_factor : Told Good P (rule.factor whole)
      unfolding rule.factor
      told_factor = told_then Good told_primary (λ base is. told_either Good
          (told_then Good (told_symbol s.Power) (λ _ _. told_then Good told_primary
          (λ exponent also. told_gives Good _ (spans (TreeNode-F.Power base exponent) (Power base exponent) _ _ (rolls-Power base exponent) (is, also)))))
          (told_gives Good _ is))

      told_term : Told Good P (rule.term whole)
      unfolding rule.term
      told_term = told_then Good told_factor (λ first is. told_links product_of told_factor first is)

      told_signed : Told Good P (rule.signed whole)
      unfolding rule.signed
      told_signed = told_either Good
          (told_then Good (told_symbol s.Plus) (λ sign _. told_then Good told_term (λ e is. told_gives Good _ (widens _ _ e is))))
          (told_either Good
          (told_then Good (told_symbol s.Minus) (λ sign _. told_then Good told_term (λ e is. told_gives Good _ (spans (TreeNode-F.Neg e) (Neg e) _ _ (rolls-Neg e) is))))
          told_term)

      told_arith : Told Good P (rule.arith whole)
      unfolding rule.arith
      told_arith = told_then Good told_signed (λ first is. told_links sum_of told_term first is)

      told_rel : Told Good P (rule.rel whole)
      unfolding rule.rel
      told_rel = told_then Good told_arith (λ a is. told_either Good
          (told_then Good (told_any Good _) (λ r _. told_then Good told_arith
          (λ b also. told_gives Good _ (spans (TreeNode-F.Relation r a b) (Relation r a b) _ _ (rolls-Relation r a b) (is, also)))))
          (told_gives Good _ is))

      told_lit : Told Good P (rule.lit whole)
      unfolding rule.lit
      told_lit = told_either Good
          (told_then Good (told_word w.KwNot) (λ not_word _. told_then Good told_rel (λ e is. told_gives Good _ (spans (TreeNode-F.Not e) (Not e) _ _ (rolls-Not e) is))))
          told_rel

      told_conj : Told Good P (rule.conj whole)
      unfolding rule.conj
      told_conj = told_then Good told_lit (λ first is. told_links and_of told_lit first is)

      pub told_simple : Told Good P (rule.simple whole)
      unfolding rule.simple
      told_simple = told_then Good told_conj (λ first is. told_links or_of told_conj first is)

      told_consequence : Told Good P (rule.consequence whole)
      unfolding rule.consequence
      told_consequence = told_then Good (told_word w.KwThen) (λ _ _. is_whole)

      told_branch : (b : Branches) → BranchesAre b → Told Good BranchesAre (rule.branch whole b)
      unfolding rule.branch
      told_branch b all = told_then Good is_whole (λ c is. told_then Good told_consequence
          (λ e also. told_gives Good _ (every_push P b.conditions c all.0 is, every_push P b.branches e all.1 also)))

      told_other_branch : (b : Branches) → BranchesAre b → Told Good BranchesAre (rule.other_branch whole b)
      unfolding rule.other_branch
      told_other_branch b all = told_then Good (told_word w.KwElseif) (λ _ _. told_branch b all)

      told_otherwise : Told Good P (rule.otherwise whole)
      unfolding rule.otherwise
      told_otherwise = told_then Good (told_word w.KwElse) (λ _ _. is_whole)

      told_choice : Told Good P (rule.choice whole)
      unfolding rule.choice
      told_choice = told_then Good (told_word w.KwIf) (λ if_word _. told_then Good (told_branch no_branches (tt, tt)) (λ b ok. told_then Good (told_many Good told_other_branch ok)
          (λ all every. told_then Good told_otherwise (λ e is. told_gives Good _
          (spans (TreeNode-F.If all.conditions all.branches e) (If all.conditions all.branches e) _ _ (rolls-If all.conditions all.branches e) (every.0, every.1, is))))))

      pub told_level : Told Good P (rule.level whole)
      unfolding rule.level
      told_level = told_either Good told_choice told_simple

    pub told_expr : (n : ℕ) → Told Good P (rule.Expr n)
    unfolding rule.Expr
    told_expr zero = told_deep Good
    told_expr (suc n) = told_level (told_expr n)
