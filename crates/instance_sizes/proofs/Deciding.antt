-- Whether counts pass their limits.
use Rattle.std.proofs.Common.{◌≡◌, refl, ap, ℕ, ◌+◌, ◌≤◌, ◌⊎◌, inl, inr, min, Bool, true, false, List, [], ◌∷◌, length, arith}
use Rattle.std.specs.List.{sum_by}
use Rattle.std.proofs.Math.Dec.{eqb}
use Rattle.std.proofs.lemmas.Bool.Decides.{eqb_tells}
use Rattle.std.proofs.lemmas.List.{get_or_past}
use Rattle.std.proofs.lemmas.List.Sums.{sum_by-cons}
use Rattle.mo_lexer.specs.declared.token.Token.{Token}
use Rattle.mo_parser.specs.declared.tree.ClassDef.{ClassDef}
use Rattle.flat_instances.specs.Instances.{Item, Declared, Own, instances, variables}
use Rattle.connection_equations.specs.Connections.{pairs}
use Rattle.instance_totals.specs.Weights.{number_at, weight}
use Rattle.item_sizes.specs.Items.{item_equations}
use Rattle.instance_sizes.specs.Counts.{number_in, equation_count, token_count}
use Rattle.instance_sizes.specs.private.Measures.{AreEquations, HasMany, Exceeds}

-- each variable counts one
names_counted : (text : List ℕ) (classes : List ClassDef) (own : List ℕ) → own ≡ [] → (all : List Item) → sum_by (weight 1 own) all ≡ length (variables text classes all)
names_counted text classes own none [] = refl
names_counted text classes own none (Declared v ∷ all) =
    let rest = names_counted text classes own none all in
    let whole = sum_by-cons (weight 1 own) (Declared v) all in
    omega (arith, rest, whole)
names_counted text classes own none (Own scope class ∷ all) =
    let rest = names_counted text classes own none all in
    let whole = sum_by-cons (weight 1 own) (Own scope class) all in
    let empty : length own ≡ 0 = ap length none in
    let here : number_at own class ≡ 0 = get_or_past own class 0 (omega (arith, empty)) in
    omega (arith, rest, whole, here)

-- equations of classes are some of those of items
own_counted : (text : List ℕ) (classes : List ClassDef) (equations : List ℕ) → AreEquations text classes equations → (all : List Item)
    → sum_by (weight 0 equations) all ≤ sum_by (item_equations text classes) all
own_counted text classes equations are [] = omega arith
own_counted text classes equations are (Declared v ∷ all) =
    let rest = own_counted text classes equations are all in
    let fewer = sum_by-cons (weight 0 equations) (Declared v) all in
    let whole = sum_by-cons (item_equations text classes) (Declared v) all in
    omega (arith, rest, fewer, whole)
own_counted text classes equations are (Own scope class ∷ all) =
    let rest = own_counted text classes equations are all in
    let fewer = sum_by-cons (weight 0 equations) (Own scope class) all in
    let whole = sum_by-cons (item_equations text classes) (Own scope class) all in
    let here = are.counts class in
    omega (arith, rest, fewer, whole, here)

module _ (text : List ℕ) (classes : List ClassDef) (root : ℕ) where
  pub many_names : (own : List ℕ) (total : ℕ) → own ≡ [] → total ≡ min (sum_by (weight 1 own) (instances text classes root)) 65537 → total ≡ 65537 → HasMany text classes root true
  many_names own total none is most =
      let same = names_counted text classes own none (instances text classes root) in
      inl (omega (arith, same, is, most))

  pub many_or_few : (own : List ℕ) (total : ℕ) → own ≡ [] → total ≡ min (sum_by (weight 1 own) (instances text classes root)) 65537 → (total ≡ 65537 → ⊥)
      → (equations : List ℕ) → AreEquations text classes equations → (other : ℕ) → other ≡ min (sum_by (weight 0 equations) (instances text classes root)) 65537
      → HasMany text classes root (eqb other 65537)
  many_or_few own total none is less equations are other other_is = by (eqb other 65537) (eqb_tells other 65537)
    where
      by : (b : Bool) → ((b ≡ true) × (other ≡ 65537)) ⊎ ((b ≡ false) × (other ≡ 65537 → ⊥)) → HasMany text classes root b
      by true (inl (yes_is, most)) =
          let some = own_counted text classes equations are (instances text classes root) in
          inr (omega (arith, some, other_is, most))
      by true (inr (no_is, most)) = absurd (cc no_is)
      by false either =
          let same = names_counted text classes own none (instances text classes root) in
          omega (arith, same, is, less)

module _ (text : List ℕ) (classes : List ClassDef) (tokens : List Token) (items : List Item) where
  module _ (e joined equations : ℕ) (e_is : e ≡ min (sum_by (item_equations text classes) items) 65537)
      (joined_is : joined ≡ min (length (pairs text classes (number_in text classes items) items)) 65537) (equations_are : equations ≡ min (e + joined) 65537) where
    pub more_equations : equations ≡ 65537 → Exceeds text classes tokens items true
    more_equations most = inl (omega (arith, e_is, joined_is, equations_are, most))

    pub more_or_not : (sum : ℕ) → sum ≡ min (token_count text classes tokens items) 4194305 → (equations ≡ 65537 → ⊥) → Exceeds text classes tokens items (eqb sum 4194305)
    more_or_not sum sum_is less = by (eqb sum 4194305) (eqb_tells sum 4194305)
      where
        by : (b : Bool) → ((b ≡ true) × (sum ≡ 4194305)) ⊎ ((b ≡ false) × (sum ≡ 4194305 → ⊥)) → Exceeds text classes tokens items b
        by true (inl (yes_is, most)) = inr (omega (arith, sum_is, most))
        by true (inr (no_is, most)) = absurd (cc no_is)
        by false (inl (yes_is, most)) = absurd (cc yes_is)
        by false (inr (no_is, most)) =
            let few : equation_count text classes items ≤ 65536 = omega (arith, e_is, joined_is, equations_are, less) in
            let small : token_count text classes tokens items ≤ 4194304 = omega (arith, sum_is, most) in
            (few, small)
