-- Classes whose own equations give nothing.
use Rattle.std.proofs.Common.{◌≡◌, refl, ap, ap₂, ◌∙◌, ℕ, ◌+◌, Bool, true, false, ◌||◌, not, List, [], ◌∷◌, ◌++◌, flat_map, length, Option, Some, None, is_some, option_and_then, arith}
use Rattle.std.specs.List.{sum_by, list_any}
use Rattle.std.proofs.Math.Dec.{eqb}
use Rattle.std.proofs.lemmas.Bool.{eqb-true}
use Rattle.std.proofs.lemmas.List.Sums.{sum_by-cons}
use Rattle.mo_lexer.specs.declared.token.Token.{Token}
use Rattle.mo_parser.specs.declared.tree.ClassDef.{ClassDef}
use Rattle.mo_parser.specs.declared.tree.Element.{Element}
use Rattle.mo_parser.specs.declared.tree.Short.{Short}
use Rattle.mo_parser.specs.declared.tree.TreeEq.{TreeEq}
use Rattle.mo_parser.specs.declared.tree.TreeEq.TheOpen.{TreeEq-F}
use Rattle.mo_parser.specs.declared.tree.TreeEq.TheViews.{out-TreeEq}
use Rattle.class_scopes.specs.Spelled.{Ident, idents}
use Rattle.class_scopes.specs.Types.{elements_of, short_of}
use Rattle.scope_names.specs.Scopes.{element_along, class_of}
use Rattle.parameter_values.specs.Values.{Values}
use Rattle.flat_expressions.specs.Expressions.{NumberOf, expr_of}
use Rattle.flat_expressions.specs.Equations.{clause, sides_by, sides_at, groups_by, groups_at}
use Rattle.connection_equations.specs.Connections.{member_pair, component_pairs_by, pairs_by, equation_pairs_by, equation_pairs}
use Rattle.class_sizes.specs.Equations.{inside_by, inside_equations, equations_by, equations_at}
use Rattle.class_sizes.specs.Tokens as sized
use Rattle.class_sizes.specs.Owners.{equal_by, is_equal, joins_by, gives_by, gives}

cut : {A : Type 0} → true ≡ false → A
cut is = absurd (cc is)

none_left : (a b : Bool) → (a || b) ≡ false → (a ≡ false) × (b ≡ false)
none_left true b is = cut is
none_left false b is = (refl, is)

-- where no element passes a test, what fails it adds up to nothing
pub none_listed : {A B : Type 0} (test : A → Bool) (f : A → List B) → ((x : A) → test x ≡ false → f x ≡ []) → (xs : List A) → list_any test xs ≡ false → flat_map f xs ≡ []
none_listed test f none [] is = refl
none_listed test f none (x ∷ xs) is =
    let both = none_left (test x) (list_any test xs) is in
    ap₂ (λ ys zs. ys ++ zs) (none x both.0) (none_listed test f none xs both.1)

pub none_counted : {A : Type 0} (test : A → Bool) (f : A → ℕ) → ((x : A) → test x ≡ false → f x ≡ 0) → (xs : List A) → list_any test xs ≡ false → sum_by f xs ≡ 0
none_counted test f none [] is = refl
none_counted test f none (x ∷ xs) is =
    let both = none_left (test x) (list_any test xs) is in
    let rest : sum_by f xs ≡ 0 = none_counted test f none xs both.1 in
    let here : f x ≡ 0 = none x both.0 in
    let whole = sum_by-cons f x xs in
    omega (arith, whole, here, rest)

-- equations inside a clause
no_inside : (layer : TreeEq-F TreeEq) → equal_by layer ≡ false → inside_by layer ≡ 0
no_inside (TreeEq-F.Equal left right) is = cut is
no_inside (TreeEq-F.Connect a b) is = refl
no_inside (TreeEq-F.When clock inside) is = refl

module _ (tokens : List Token) where
  no_inside_tokens : (layer : TreeEq-F TreeEq) → equal_by layer ≡ false → sized.inside_by tokens layer ≡ 0
  no_inside_tokens (TreeEq-F.Equal left right) is = cut is
  no_inside_tokens (TreeEq-F.Connect a b) is = refl
  no_inside_tokens (TreeEq-F.When clock inside) is = refl

module _ (text : List ℕ) (classes : List ClassDef) (class : ℕ) where
  no_equations_by : (layer : TreeEq-F TreeEq) → gives_by text classes class layer ≡ false → equations_by layer ≡ 0
  no_equations_by (TreeEq-F.Equal left right) is = cut is
  no_equations_by (TreeEq-F.Connect a b) is = refl
  no_equations_by (TreeEq-F.When clock inside) is = none_counted is_equal inside_equations (λ e none. no_inside (out-TreeEq e) none) inside is

  pub no_equations : (equation : TreeEq) → gives text classes class equation ≡ false → equations_at equation ≡ 0
  no_equations equation is = no_equations_by (out-TreeEq equation) is

  module _ (tokens : List Token) where
    no_tokens_by : (layer : TreeEq-F TreeEq) → gives_by text classes class layer ≡ false → sized.tokens_by tokens layer ≡ 0
    no_tokens_by (TreeEq-F.Equal left right) is = cut is
    no_tokens_by (TreeEq-F.Connect a b) is = refl
    no_tokens_by (TreeEq-F.When clock inside) is =
        let count : sum_by inside_equations inside ≡ 0 = none_counted is_equal inside_equations (λ e none. no_inside (out-TreeEq e) none) inside is in
        let body : sum_by (sized.inside_tokens tokens) inside ≡ 0 =
        none_counted is_equal (sized.inside_tokens tokens) (λ e none. no_inside_tokens tokens (out-TreeEq e) none) inside is in
        ap (λ n. sized.clock_tokens tokens clock n + sum_by (sized.inside_tokens tokens) inside) count ∙ omega (arith, body)

    pub no_tokens : (equation : TreeEq) → gives text classes class equation ≡ false → sized.tokens_at tokens equation ≡ 0
    no_tokens equation is = no_tokens_by (out-TreeEq equation) is

  module _ (values : Values) (number : NumberOf) (scope : Ident) where
    no_sides_by : (layer : TreeEq-F TreeEq) → equal_by layer ≡ false → sides_by text values number scope layer ≡ []
    no_sides_by (TreeEq-F.Equal left right) is = cut is
    no_sides_by (TreeEq-F.Connect a b) is = refl
    no_sides_by (TreeEq-F.When clock inside) is = refl

    no_groups_by : (layer : TreeEq-F TreeEq) → gives_by text classes class layer ≡ false → groups_by text values number scope layer ≡ []
    no_groups_by (TreeEq-F.Equal left right) is = cut is
    no_groups_by (TreeEq-F.Connect a b) is = refl
    no_groups_by (TreeEq-F.When clock inside) is =
        ap (clause (expr_of text values number scope clock))
        (none_listed is_equal (sides_at text values number scope) (λ e none. no_sides_by (out-TreeEq e) none) inside is)

    pub no_groups : (equation : TreeEq) → gives text classes class equation ≡ false → groups_at text values number scope equation ≡ []
    no_groups equation is = no_groups_by (out-TreeEq equation) is

  module _ (number : Ident → Option ℕ) (scope : Ident) where
    no_members : (es : List Element) (a b : Ident) → not (eqb (length es) 0) ≡ false → flat_map (member_pair text classes number a b) es ≡ []
    no_members [] a b is = refl
    no_members (e ∷ es) a b is = absurd (some (eqb (length (e ∷ es)) 0) refl is)
      where
        some : (t : Bool) → eqb (length (e ∷ es)) 0 ≡ t → not t ≡ false → ⊥
        some true there not_t = let zero_long = eqb-true (length (e ∷ es)) 0 there in omega (arith, zero_long)
        some false there not_t = cut not_t

    no_components : (short : Option Short) (connector : ℕ) (a b : Ident)
        → (is_some short || not (eqb (length (elements_of text classes connector)) 0)) ≡ false → component_pairs_by text classes number short connector a b ≡ []
    no_components (Some short) connector a b is = cut is
    no_components None connector a b is = no_members (elements_of text classes connector) a b is

    no_joined : (connector : Option ℕ) (a b : Ident) → joins_by text classes connector ≡ false → pairs_by text classes number connector a b ≡ []
    no_joined None a b is = refl
    no_joined (Some connector) a b is = no_components (short_of text classes connector) connector a b is

    no_pairs_by : (layer : TreeEq-F TreeEq) → gives_by text classes class layer ≡ false → equation_pairs_by text classes number scope class layer ≡ []
    no_pairs_by (TreeEq-F.Equal left right) is = refl
    no_pairs_by (TreeEq-F.When clock inside) is = refl
    no_pairs_by (TreeEq-F.Connect a b) is = no_joined (option_and_then (class_of text classes) (element_along text classes (idents text a) class)) _ _ is

    pub no_pairs : (equation : TreeEq) → gives text classes class equation ≡ false → equation_pairs text classes number scope class equation ≡ []
    no_pairs equation is = no_pairs_by (out-TreeEq equation) is
