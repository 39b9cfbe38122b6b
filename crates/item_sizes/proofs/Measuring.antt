-- What items count, from what their parts count.
use Rattle.std.proofs.Common.{◌≡◌, refl, ap, ap₂, sym, ◌∙◌, subst, ℕ, ◌+◌, ◌≤◌, min, Bool, true, false, List, [], ◌∷◌, map, Option, Some, None, arith}
use Rattle.std.specs.List.{sum_by}
use Rattle.std.proofs.lemmas.List.Sums.{sum_by-cons}
use Rattle.mo_lexer.specs.declared.token.Token.{Token}
use Rattle.mo_parser.specs.declared.tree.ClassDef.{ClassDef}
use Rattle.class_scopes.specs.Spelled.{Ident}
use Rattle.flat_instances.specs.declared.item.Variable.{Variable as KeptVariable}
use Rattle.flat_instances.specs.declared.item.Item.{Item as KeptItem}
use Rattle.flat_instances.specs.declared.item.Item.TheVariants as kept
use Rattle.flat_instances.specs.Instances.{Placed}
use Rattle.flat_instances.specs.Kept.{seen, seen_variable}
use Rattle.parameter_values.specs.Values.{is_fixed}
use Rattle.instance_totals.specs.Weights.{number_at}
use Rattle.item_sizes.specs.Items.{given_tokens, binding_equations, binding_tokens, item_equations}
use Rattle.item_sizes.specs.Measures.{declared, AreCounted, IsSize}

binding_few : (fixed : Bool) (binding : Option Placed) → binding_equations fixed binding ≤ 1
binding_few true None = omega arith
binding_few false None = omega arith
binding_few true (Some placed) = omega arith
binding_few false (Some placed) = omega arith

module _ (text : List ℕ) (classes : List ClassDef) (tokens : List Token) where
  pub variable_sized : (v : KeptVariable) (fixed : Bool) (binding start : Option Placed) (e b s t : ℕ) → fixed ≡ is_fixed v.element.now.variability
      → binding ≡ (seen_variable text classes v).binding → start ≡ (seen_variable text classes v).start → e ≡ binding_equations fixed binding
      → b ≡ min (binding_tokens tokens fixed binding) 4194305 → s ≡ given_tokens tokens start → t ≡ min (b + s) 4194305
      → IsSize text classes tokens (declared text classes v) (record { equations = e; tokens = t })
  variable_sized v fixed binding start e b s t is these those e_is binding_is start_is t_is = record {
    equations_are =
        let same : e ≡ item_equations text classes (declared text classes v) = e_is ∙ ap₂ binding_equations is these in
        let few = binding_few fixed binding in
        let at_most : min e 65537 ≡ e = omega (arith, few, e_is) in
        sym at_most ∙ ap (λ n. min n 65537) same;
    tokens_are =
        let whole : t ≡ min (binding_tokens tokens fixed binding + given_tokens tokens start) 4194305 = omega (arith, binding_is, start_is, t_is) in
        whole ∙ ap₂ (λ n m. min (n + m) 4194305) (ap₂ (binding_tokens tokens) is these) (ap (given_tokens tokens) those);
  }

  pub own_sized : (item : KeptItem) (scope : Ident) (class : ℕ) (equations numbers : List ℕ) (e t : ℕ) → item ≡ kept.Own scope class
      → AreCounted text classes tokens equations numbers → e ≡ number_at equations class → t ≡ number_at numbers class
      → IsSize text classes tokens (seen text classes item) (record { equations = e; tokens = t })
  own_sized item scope class equations numbers e t is counted e_is t_is =
      subst (λ i. IsSize text classes tokens (seen text classes i) (record { equations = e; tokens = t })) (sym is) (record {
        equations_are = e_is ∙ counted.equations_are class;
        tokens_are = t_is ∙ counted.tokens_are class;
      })

pub sum_of_map : {A B : Type 0} (f : B → ℕ) (g : A → B) (xs : List A) → sum_by f (map g xs) ≡ sum_by (λ x. f (g x)) xs
sum_of_map f g [] = refl
sum_of_map f g (x ∷ xs) = sum_by-cons f (g x) (map g xs) ∙ ap (λ n. f (g x) + n) (sum_of_map f g xs) ∙ sym (sum_by-cons (λ y. f (g y)) x xs)
