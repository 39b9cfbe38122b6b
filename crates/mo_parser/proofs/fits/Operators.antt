-- Which kinds of tokens are operators and literals.
use Rattle.std.proofs.Common.{◌≡◌, ◌∙◌, ℕ, true, is_some, List, [], ◌∷◌, Option, Some, None, refl, ap, sym}
use Rattle.sync_values.specs.declared.value.ChainOp.TheVariants as op
use Rattle.sync_values.specs.declared.value.Rel.TheVariants as rel
use Rattle.mo_lexer.specs.declared.token.Token.{Token}
use Rattle.mo_lexer.specs.declared.token.TokenKind.{TokenKind}
use Rattle.mo_lexer.specs.declared.token.TokenKind.TheVariants as k
use Rattle.mo_lexer.specs.declared.token.Word.TheVariants as w
use Rattle.mo_lexer.specs.declared.token.Sym.TheVariants as s
use Rattle.mo_parser.specs.declared.tree.TreeExpr.{TreeExpr}
use Rattle.mo_parser.specs.grammar.Kinds.{and_by, and_of, literal_by, literal_of, or_by, or_of, product_by, product_of, relation_by, relation_of, sum_by, sum_of}
use Rattle.mo_parser.specs.grammar.Rules as rule
use Rattle.mo_parser.specs.grammar.Trees.{constant_by, spanning}
use Rattle.mo_parser.specs.declared.tree.TreeNode.TheVariants as n
use Rattle.sync_values.specs.declared.value.Value.{Value}
use Rattle.sync_values.specs.declared.value.Value.TheVariants as value
use Rattle.mo_parser.specs.grammar.Expressions as rule_of
use Rattle.mo_parser.specs.reading.Outcomes as read
use Rattle.mo_parser.specs.reading.Expressions as read_of
use Rattle.mo_parser.proofs.rules.Fits.{Fits}
use Rattle.mo_parser.proofs.rules.Kinds.{among, kw, sy, tag}
use Rattle.mo_parser.proofs.rules.Choose.{Tells}
use Rattle.mo_parser.proofs.rules.One.{fits_one}
use Rattle.mo_parser.proofs.fits.Tests.{example}

abbrev pub sums : List ℕ
sums = sy s.Plus ∷ sy s.Minus ∷ []

abbrev pub products : List ℕ
products = sy s.Times ∷ sy s.Over ∷ []

abbrev pub relations : List ℕ
relations = sy s.Less ∷ sy s.LessEq ∷ sy s.Greater ∷ sy s.GreaterEq ∷ sy s.Equal ∷ sy s.Unequal ∷ []

abbrev pub literals : List ℕ
literals = 1 ∷ kw w.KwTrue ∷ kw w.KwFalse ∷ []

or_tells : (x : TokenKind) → is_some (or_by x) ≡ among (kw w.KwOr ∷ []) (tag x)
or_tells (k.Keyword w.KwOr) = refl
or_tells (k.Symbol s.Plus) = refl
or_tells other = refl

and_tells : (x : TokenKind) → is_some (and_by x) ≡ among (kw w.KwAnd ∷ []) (tag x)
and_tells (k.Keyword w.KwAnd) = refl
and_tells (k.Symbol s.Plus) = refl
and_tells other = refl

sum_tells : (x : TokenKind) → is_some (sum_by x) ≡ among sums (tag x)
sum_tells (k.Symbol s.Plus) = refl
sum_tells (k.Symbol s.Minus) = refl
sum_tells (k.Keyword w.KwOr) = refl
sum_tells other = refl

product_tells : (x : TokenKind) → is_some (product_by x) ≡ among products (tag x)
product_tells (k.Symbol s.Times) = refl
product_tells (k.Keyword w.KwOr) = refl
product_tells other = refl

relation_tells : (x : TokenKind) → is_some (relation_by x) ≡ among relations (tag x)
relation_tells (k.Symbol s.Less) = refl
relation_tells (k.Keyword w.KwOr) = refl
relation_tells other = refl

literal_tells : (x : TokenKind) → is_some (literal_by x) ≡ among literals (tag x)
literal_tells (k.Symbol s.Less) = refl
literal_tells (k.Keyword w.KwOr) = refl
literal_tells other = refl

pub tells_or : Tells (read_of.is_op or_of) (kw w.KwOr ∷ [])
unfolding or_of
tells_or t = or_tells t.kind

pub tells_and : Tells (read_of.is_op and_of) (kw w.KwAnd ∷ [])
unfolding and_of
tells_and t = and_tells t.kind

pub tells_sum : Tells (read_of.is_op sum_of) sums
unfolding sum_of
tells_sum t = sum_tells t.kind

pub tells_product : Tells (read_of.is_op product_of) products
unfolding product_of
tells_product t = product_tells t.kind

pub tells_relation : Tells (λ t. is_some (relation_of t)) relations
unfolding relation_of
tells_relation t = relation_tells t.kind

pub tells_literal : Tells (λ t. is_some (literal_of t)) literals
unfolding literal_of
tells_literal t = literal_tells t.kind

-- a token for which a function has a value
pub valued : {A : Type 0} (f : Token → Option A) (ms : List ℕ) → Tells (λ t. is_some (f t)) ms → (t : Token) (x : A) → f t ≡ Some x → among ms (tag t.kind) ≡ true
valued f ms tells t x h = sym (tells t) ∙ ap (λ (o : Option _). is_some o) h

pub fits_or : {n : ℕ} → Fits (kw w.KwOr ∷ []) [] 1 None (λ _. rule.one or_of) (λ _. read.one or_of) n
unfolding or_of example
fits_or = fits_one or_of (kw w.KwOr ∷ []) (valued or_of (kw w.KwOr ∷ []) tells_or) refl (example (k.Keyword w.KwOr)) op.Or refl

pub fits_and : {n : ℕ} → Fits (kw w.KwAnd ∷ []) [] 1 None (λ _. rule.one and_of) (λ _. read.one and_of) n
unfolding and_of example
fits_and = fits_one and_of (kw w.KwAnd ∷ []) (valued and_of (kw w.KwAnd ∷ []) tells_and) refl (example (k.Keyword w.KwAnd)) op.And refl

pub fits_sum : {n : ℕ} → Fits sums [] 1 None (λ _. rule.one sum_of) (λ _. read.one sum_of) n
unfolding sum_of example
fits_sum = fits_one sum_of sums (valued sum_of sums tells_sum) refl (example (k.Symbol s.Plus)) op.Plus refl

pub fits_product : {n : ℕ} → Fits products [] 1 None (λ _. rule.one product_of) (λ _. read.one product_of) n
unfolding product_of example
fits_product = fits_one product_of products (valued product_of products tells_product) refl (example (k.Symbol s.Times)) op.Times refl

pub fits_relation : {n : ℕ} → Fits relations [] 1 None (λ _. rule.one relation_of) (λ _. read.one relation_of) n
unfolding relation_of example
fits_relation = fits_one relation_of relations (valued relation_of relations tells_relation) refl (example (k.Symbol s.Less)) rel.Less refl

constant_some : (o : Option Value) (t : Token) (x : TreeExpr) → constant_by o t ≡ Some x → is_some o ≡ true
constant_some (Some v) t x h = refl
constant_some None t x h = cc

pub fits_literal : {n : ℕ} → Fits literals [] 1 None (λ _. rule_of.literal) (λ _. read_of.literal) n
unfolding rule_of.literal read_of.literal literal_of example
fits_literal = fits_one (λ t. constant_by (literal_of t) t) literals (λ t x h. sym (tells_literal t) ∙ constant_some (literal_of t) t x h) refl (example (k.Keyword w.KwTrue)) (spanning (n.Const (value.Bool true)) 0 0) refl
