-- The items that have a part have all that counts.
use Rattle.std.proofs.Common.{◌≡◌, refl, ap, ap₂, sym, ◌∙◌, ℕ, ◌+◌, Bool, true, false, cond, not, List, [], ◌∷◌, ◌++◌, map, filter, flat_map, length, Option, bytes_eq, arith}
use Rattle.std.specs.List.{sum_by, position_from}
use Rattle.std.proofs.lemmas.List.Sums.{sum_by-cons}
use Rattle.mo_lexer.specs.declared.token.Token.{Token}
use Rattle.mo_parser.specs.declared.tree.ClassDef.{ClassDef}
use Rattle.class_scopes.specs.Spelled.{Ident}
use Rattle.class_scopes.specs.Types.{class_equations}
use Rattle.flat_instances.specs.Instances.{Item, Declared, Own, variables}
use Rattle.parameter_values.specs.Values.{Values, is_parameter}
use Rattle.flat_expressions.specs.Expressions.{NumberOf}
use Rattle.flat_expressions.specs.Equations.{groups, groups_of, groups_at}
use Rattle.connection_equations.specs.Connections.{pairs, item_pairs, equation_pairs}
use Rattle.class_sizes.specs.Equations.{equations_at}
use Rattle.class_sizes.specs.Tokens.{tokens_at}
use Rattle.class_sizes.specs.Owners.{gives, has_own}
use Rattle.item_sizes.specs.Items.{item_equations, item_tokens}
use Rattle.instance_sizes.specs.Counts.{number_in, equation_count, token_count}
use Rattle.instance_sizes.specs.Contributing.{contributes}
use Rattle.instance_sizes.proofs.Absent.{none_listed, none_counted, no_equations, no_tokens, no_groups, no_pairs}

-- what has nothing can be left out of a list
pub kept_parts : {A B : Type 0} (p : A → Bool) (f : A → List B) → ((x : A) → p x ≡ false → f x ≡ []) → (xs : List A) → flat_map f (filter p xs) ≡ flat_map f xs
kept_parts p f none [] = refl
kept_parts p f none (x ∷ xs) = by (p x) refl (kept_parts p f none xs)
  where
    by : (b : Bool) → p x ≡ b → flat_map f (filter p xs) ≡ flat_map f xs → flat_map f (cond b (x ∷ filter p xs) (filter p xs)) ≡ f x ++ flat_map f xs
    by true is rest = ap (λ t. f x ++ t) rest
    by false is rest = rest ∙ ap (λ t. t ++ flat_map f xs) (sym (none x is))

pub kept_sum : {A : Type 0} (p : A → Bool) (f : A → ℕ) → ((x : A) → p x ≡ false → f x ≡ 0) → (xs : List A) → sum_by f (filter p xs) ≡ sum_by f xs
kept_sum p f none [] = refl
kept_sum p f none (x ∷ xs) = by (p x) refl (kept_sum p f none xs)
  where
    by : (b : Bool) → p x ≡ b → sum_by f (filter p xs) ≡ sum_by f xs → sum_by f (cond b (x ∷ filter p xs) (filter p xs)) ≡ sum_by f (x ∷ xs)
    by true is rest = sum_by-cons f x (filter p xs) ∙ ap (λ n. f x + n) rest ∙ sym (sum_by-cons f x xs)
    by false is rest =
        let whole = sum_by-cons f x xs in
        let here = none x is in
        omega (arith, rest, whole, here)

pub same_filter : {A : Type 0} (p q : A → Bool) → ((x : A) → p x ≡ q x) → (xs : List A) → filter p xs ≡ filter q xs
same_filter p q same [] = refl
same_filter p q same (x ∷ xs) = ap₂ (λ b ys. cond b (x ∷ ys) ys) (same x) (same_filter p q same xs)

module _ (text : List ℕ) (classes : List ClassDef) where
  pub same_variables : (all : List Item) → variables text classes (filter (contributes text classes) all) ≡ variables text classes all
  same_variables [] = refl
  same_variables (Declared v ∷ all) = ap (λ vs. v ∷ vs) (same_variables all)
  same_variables (Own scope class ∷ all) = by (has_own text classes class) ∙ same_variables all
    where
      by : (b : Bool) → variables text classes (cond b (Own scope class ∷ filter (contributes text classes) all) (filter (contributes text classes) all))
          ≡ variables text classes (filter (contributes text classes) all)
      by true = refl
      by false = refl

  pub same_groups : (values : Values) (number : NumberOf) (all : List Item)
      → groups text values number classes (filter (contributes text classes) all) ≡ groups text values number classes all
  same_groups values number all = kept_parts (contributes text classes) (groups_of text values number classes) none all
    where
      none : (item : Item) → contributes text classes item ≡ false → groups_of text values number classes item ≡ []
      none (Declared v) is = absurd (cc is)
      none (Own scope class) is =
          none_listed (gives text classes class) (groups_at text values number scope) (no_groups text classes class values number scope) (class_equations text classes class) is

  pub same_pairs : (number : Ident → Option ℕ) (all : List Item) → pairs text classes number (filter (contributes text classes) all) ≡ pairs text classes number all
  same_pairs number all = kept_parts (contributes text classes) (item_pairs text classes number) none all
    where
      none : (item : Item) → contributes text classes item ≡ false → item_pairs text classes number item ≡ []
      none (Declared v) is = refl
      none (Own scope class) is =
          none_listed (gives text classes class) (equation_pairs text classes number scope class) (no_pairs text classes class number scope) (class_equations text classes class) is

  same_equations : (all : List Item) → sum_by (item_equations text classes) (filter (contributes text classes) all) ≡ sum_by (item_equations text classes) all
  same_equations all = kept_sum (contributes text classes) (item_equations text classes) none all
    where
      none : (item : Item) → contributes text classes item ≡ false → item_equations text classes item ≡ 0
      none (Declared v) is = absurd (cc is)
      none (Own scope class) is = none_counted (gives text classes class) equations_at (no_equations text classes class) (class_equations text classes class) is

  pub same_tokens : (tokens : List Token) (all : List Item) → token_count text classes tokens (filter (contributes text classes) all) ≡ token_count text classes tokens all
  same_tokens tokens all = kept_sum (contributes text classes) (item_tokens text classes tokens) none all
    where
      none : (item : Item) → contributes text classes item ≡ false → item_tokens text classes tokens item ≡ 0
      none (Declared v) is = absurd (cc is)
      none (Own scope class) is = none_counted (gives text classes class) (tokens_at tokens) (no_tokens text classes class tokens) (class_equations text classes class) is

  pub same_count : (all : List Item) → equation_count text classes (filter (contributes text classes) all) ≡ equation_count text classes all
  same_count all =
      ap₂ (λ a b. a + b) (same_equations all)
      (ap (λ vs. length (pairs text classes (λ name. position_from (bytes_eq name) 0 (map (λ v. v.name) (filter (λ v. not (is_parameter v)) vs))) (filter (contributes text classes) all)))
      (same_variables all) ∙ ap length (same_pairs (number_in text classes all) all))
