-- Relations with a factor that is to be inferred, over the grids of classes.
use Rattle.std.proofs.Common.{◌≡◌, ◌∙◌, refl, sym, ap, subst, ℕ, ◌↔◌, Bool, true, false, not, List, Some, None, option_map}
use Rattle.clock_terms.specs.declared.data.Grid.{Grid}
use Rattle.clock_terms.specs.declared.data.Relation.{Relation}
use Rattle.clock_terms.specs.Position.{progression_of_grid}
use Rattle.clock_terms.specs.Asked.{Asks}
use Rattle.clock_spread.specs.Found.{class_in}
use Rattle.clock_check.specs.Inferring.{IsInferred, FailsInferred}
use Rattle.clock_check.specs.private.Numbering.{grid_at}

some_same : {A : Type 0} {a b : A} → Some a ≡ Some b → a ≡ b
some_same e = cc

none_some : {A : Type 0} {a : A} → None ≡ Some a → ⊥
none_some e = absurd cc

pub lacks_law : (class_of : List ℕ) (clocked : List Bool) (grids : List Grid) (r : Relation) (y u : Grid) (b : Bool) → IsInferred r.by
    → grid_at clocked grids (class_in class_of r.result) ≡ Some y → grid_at clocked grids (class_in class_of r.argument) ≡ Some u
    → (b ≡ true) ↔ Asks r.by (progression_of_grid y) (progression_of_grid u) → (not b ≡ true) ↔ FailsInferred class_of clocked grids r
lacks_law class_of clocked grids r y u b inferred at_y at_u test = (
  λ t. (
    inferred,
    λ (p, v, held_p, held_v, asks).
        let is_p : progression_of_grid y ≡ p = some_same (sym (ap (λ o. option_map progression_of_grid o) at_y) ∙ held_p) in
        let is_v : progression_of_grid u ≡ v = some_same (sym (ap (λ o. option_map progression_of_grid o) at_u) ∙ held_v) in
        clash b t (test.1 (subst (λ x. Asks r.by x (progression_of_grid u)) (sym is_p) (subst (λ x. Asks r.by p x) (sym is_v) asks))),
  ),
  λ (i, fails). by b (λ t. fails (progression_of_grid y, progression_of_grid u, ap (λ o. option_map progression_of_grid o) at_y, ap (λ o. option_map progression_of_grid o) at_u, test.0 t)),
)
  where
    clash : (b : Bool) → not b ≡ true → b ≡ true → ⊥
    clash true e f = absurd cc
    clash false e f = absurd cc

    by : (b : Bool) → (b ≡ true → ⊥) → not b ≡ true
    by true h = absurd (h refl)
    by false h = refl

pub none_result : (class_of : List ℕ) (clocked : List Bool) (grids : List Grid) (r : Relation) → IsInferred r.by → grid_at clocked grids (class_in class_of r.result) ≡ None → FailsInferred class_of clocked grids r
none_result class_of clocked grids r inferred none = (inferred, λ (p, v, held_p, held_v, asks). none_some (sym (ap (λ o. option_map progression_of_grid o) none) ∙ held_p))

pub none_argument : (class_of : List ℕ) (clocked : List Bool) (grids : List Grid) (r : Relation) → IsInferred r.by → grid_at clocked grids (class_in class_of r.argument) ≡ None → FailsInferred class_of clocked grids r
none_argument class_of clocked grids r inferred none = (inferred, λ (p, v, held_p, held_v, asks). none_some (sym (ap (λ o. option_map progression_of_grid o) none) ∙ held_v))
