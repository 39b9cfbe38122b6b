-- Cells and the places of their names.
use Rattle.std.proofs.Common.{◌≡◌, refl, ap, ◌∙◌, sym, ℕ, ◌==◌, Bool, true, false, if◌then◌else◌, List, Option, Some, None, slice_get, eq-eqb, eqb-true}
use Rattle.std.proofs.lemmas.Option.{none-some, same_Some}
use Rattle.tree_step.specs.declared.cell.Cell.{Cell}
use Rattle.tree_step.specs.Cells.{own_cell, cell_from, cell_in}

module _ (places : List ℕ) (cells : List Cell) where
  pub own_there : (i x : ℕ) (cell : Cell) → slice_get places x ≡ Some i → slice_get cells i ≡ Some cell → cell.name ≡ x → cell_in places cells x ≡ Some cell
  own_there i x cell placed found named =
      ap (λ o. own_cell x (cell_from cells o)) placed ∙ ap (own_cell x) found ∙ ap (λ b. if b then Some cell else None) (eq-eqb cell.name x named)

  -- a cell that is found for a name is in its place
  pub record IsThere (x : ℕ) (cell : Cell) : Type 0 where
    pub place : ℕ
    pub placed : slice_get places x ≡ Some place
    pub found : slice_get cells place ≡ Some cell
    pub named : cell.name ≡ x

  module _ (x : ℕ) (cell : Cell) (is : cell_in places cells x ≡ Some cell) where
    by_name : (i : ℕ) (c : Cell) → slice_get places x ≡ Some i → slice_get cells i ≡ Some c → (b : Bool) → c.name == x ≡ b → IsThere x cell
    by_name i c placed found true e =
        let same : c ≡ cell = same_Some c cell (sym (own_there i x c placed found (eqb-true c.name x e)) ∙ is) in record {
          place = i;
          placed = placed;
          found = found ∙ ap Some same;
          named = ap (λ d. d.name) (sym same) ∙ eqb-true c.name x e;
        }
    by_name i c placed found false e =
        absurd (none-some cell (sym (ap (λ o. own_cell x (cell_from cells o)) placed ∙ ap (own_cell x) found ∙ ap (λ b. if b then Some c else None) e) ∙ is))

    by_cell : (i : ℕ) → slice_get places x ≡ Some i → (o : Option Cell) → slice_get cells i ≡ o → IsThere x cell
    by_cell i placed None none = absurd (none-some cell (sym (ap (λ o. own_cell x (cell_from cells o)) placed ∙ ap (own_cell x) none) ∙ is))
    by_cell i placed (Some c) found = by_name i c placed found (c.name == x) refl

    by_place : (o : Option ℕ) → slice_get places x ≡ o → IsThere x cell
    by_place None none = absurd (none-some cell (sym (ap (λ o. own_cell x (cell_from cells o)) none) ∙ is))
    by_place (Some i) placed = by_cell i placed (slice_get cells i) refl

    pub there : IsThere x cell
    there = by_place (slice_get places x) refl
