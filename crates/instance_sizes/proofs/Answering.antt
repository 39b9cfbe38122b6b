-- What is answered, from what is decided of the items that have a part.
use Rattle.std.proofs.Common.{◌≡◌, refl, ap, sym, ◌∙◌, subst, ℕ, ◌<◌, ◌≤◌, inl, inr, Bool, true, false, List, map, filter, length, Some, arith}
use Rattle.mo_lexer.specs.declared.token.Token.{Token}
use Rattle.mo_order.specs.Marks.{is_marked}
use Rattle.mo_parser.specs.declared.tree.ClassDef.{ClassDef}
use Rattle.class_scopes.specs.Faults.{IsFirstOf, IsKept}
use Rattle.class_order.specs.Places.{name_at}
use Rattle.flat_instances.specs.declared.item.Item.{Item as KeptItem}
use Rattle.flat_instances.specs.Instances.{Item, Declared, Own, instances, variables}
use Rattle.flat_instances.specs.Kept.{seen}
use Rattle.filled_instances.specs.Counting.{counts}
use Rattle.class_sizes.specs.Owners.{has_own}
use Rattle.instance_sizes.specs.Counts.{equation_count, token_count}
use Rattle.instance_sizes.specs.Contributing.{contributes}
use Rattle.instance_sizes.specs.N10 as N10
use Rattle.instance_sizes.specs.private.Measures.{HasMany, HaveFew, Exceeds}
use Rattle.instance_sizes.proofs.Filtered.{same_filter, same_variables, same_count, same_tokens}
use Rattle.instance_sizes.proofs.Laws.{first_place, is_kept}

-- the items that count where the classes are marked that have something of their own
pub parts_kept : (text : List ℕ) (classes : List ClassDef) (own : List Bool) → ((class : ℕ) → is_marked own class ≡ has_own text classes class) → (all : List Item)
    → filter (counts own) all ≡ filter (contributes text classes) all
parts_kept text classes own marked all = same_filter (counts own) (contributes text classes) same all
  where
    same : (item : Item) → counts own item ≡ contributes text classes item
    same (Declared v) = refl
    same (Own scope class) = marked class

module _ (text : List ℕ) (classes : List ClassDef) (tokens : List Token) (chosen : ℕ) where
  pub many_first : (b : Bool) → b ≡ true → HasMany text classes chosen b → IsFirstOf (N10.Breaks text classes tokens (Some chosen)) (name_at classes chosen)
  many_first b is many = first_place text classes tokens chosen (by (subst (HasMany text classes chosen) is many))
    where
      by : HasMany text classes chosen true → N10.IsTooLarge text classes tokens chosen
      by (inl names) = N10.IsTooLarge.many_names names
      by (inr equations) =
          let more : 65536 < equation_count text classes (instances text classes chosen) = omega (arith, equations) in
          N10.IsTooLarge.many_equations more

  module _ (items : List KeptItem) (are : map (seen text classes) items ≡ filter (contributes text classes) (instances text classes chosen)) where
    same_names : variables text classes (map (seen text classes) items) ≡ variables text classes (instances text classes chosen)
    same_names = ap (variables text classes) are ∙ same_variables text classes (instances text classes chosen)

    equations_are : equation_count text classes (map (seen text classes) items) ≡ equation_count text classes (instances text classes chosen)
    equations_are = ap (equation_count text classes) are ∙ same_count text classes (instances text classes chosen)

    tokens_are : token_count text classes tokens (map (seen text classes) items) ≡ token_count text classes tokens (instances text classes chosen)
    tokens_are = ap (token_count text classes tokens) are ∙ same_tokens text classes tokens (instances text classes chosen)

    pub few_kept : (b : Bool) → b ≡ false → HasMany text classes chosen b → HaveFew text classes (map (seen text classes) items)
    few_kept b is many = subst (λ vs. length vs ≤ 65536) (sym same_names) (subst (HasMany text classes chosen) is many)

    pub large_first : (b : Bool) → b ≡ true → Exceeds text classes tokens (map (seen text classes) items) b
        → IsFirstOf (N10.Breaks text classes tokens (Some chosen)) (name_at classes chosen)
    large_first b is large = first_place text classes tokens chosen (by (subst (Exceeds text classes tokens (map (seen text classes) items)) is large))
      where
        by : Exceeds text classes tokens (map (seen text classes) items) true → N10.IsTooLarge text classes tokens chosen
        by (inl more) = N10.IsTooLarge.many_equations (subst (λ n. 65536 < n) equations_are more)
        by (inr more) = N10.IsTooLarge.many_tokens (subst (λ n. 4194304 < n) tokens_are more)

    pub all_kept : (b c : Bool) → b ≡ false → HasMany text classes chosen b → c ≡ false → Exceeds text classes tokens (map (seen text classes) items) c
        → IsKept (N10.Breaks text classes tokens (Some chosen))
    all_kept b c b_is many c_is within =
        let names = subst (HasMany text classes chosen) b_is many in
        let both = subst (Exceeds text classes tokens (map (seen text classes) items)) c_is within in
        is_kept text classes tokens chosen names (subst (λ n. n ≤ 65536) equations_are both.0) (subst (λ n. n ≤ 4194304) tokens_are both.1)
