-- Cells with a value of one name.
use Rattle.std.proofs.Common.{◌≡◌, ◌≢◌, refl, ap, sym, subst, ◌∙◌, ℕ, zero, suc, ◌==◌, Bool, true, false, if◌then◌else◌, List, [], ◌∷◌, Option, Some, None, slice_get, slice_set, eq-eqb, inl, inr}
use Rattle.std.proofs.lemmas.Bool.{cases_eq, false≢true, eqb-true}
use Rattle.std.proofs.lemmas.Option.{same_Some, none-some}
use Rattle.sync_values.specs.declared.value.Value.{Value}
use Rattle.tree_step.specs.declared.cell.Cell.{Cell}
use Rattle.tree_step.specs.Cells.{own_cell, cell_from, cell_in, put_cell, put_from, put_in}
use Rattle.tree_step.specs.Takes.{IsSameCell}

set_same : (xs : List Cell) (i : ℕ) (a b : Cell) → slice_get xs i ≡ Some b → slice_get (slice_set xs i a) i ≡ Some a
set_same [] i a b h = absurd (none-some b h)
set_same (x ∷ xs) zero a b h = refl
set_same (x ∷ xs) (suc i) a b h = set_same xs i a b h

set_other : (xs : List Cell) (i j : ℕ) (a : Cell) → j ≢ i → slice_get (slice_set xs i a) j ≡ slice_get xs j
set_other [] i j a h = refl
set_other (x ∷ xs) zero zero a h = absurd (h refl)
set_other (x ∷ xs) zero (suc j) a h = refl
set_other (x ∷ xs) (suc i) zero a h = refl
set_other (x ∷ xs) (suc i) (suc j) a h = set_other xs i j a (λ e. h (ap suc e))

pub same_refl : (o : Option Cell) → IsSameCell o o
same_refl None = tt
same_refl (Some c) = (refl, refl, refl)

pub same_equal : (a b : Option Cell) → b ≡ a → IsSameCell a b
same_equal a b e = subst (IsSameCell a) (sym e) (same_refl a)

pub same_trans : (a b c : Option Cell) → IsSameCell a b → IsSameCell b c → IsSameCell a c
same_trans None None c h k = k
same_trans None (Some y) c h k = absurd h
same_trans (Some x) None c h k = absurd h
same_trans (Some x) (Some y) None h k = absurd k
same_trans (Some x) (Some y) (Some z) h k = (k.0 ∙ h.0, k.1 ∙ h.1, k.2 ∙ h.2)

-- what becomes of the cell of a name
pub record Becomes (places : List ℕ) (cells new : List Cell) (x : ℕ) (v : Value) (y : ℕ) : Type 0 where
  pub same : IsSameCell (cell_in places cells y) (cell_in places new y)
  pub other : y ≢ x → cell_in places new y ≡ cell_in places cells y
  pub own : y ≡ x → (cell : Cell) → cell_in places new y ≡ Some cell → cell.now ≡ Some v

pub put_becomes : (places : List ℕ) (cells : List Cell) (x : ℕ) (v : Value) (y : ℕ) → Becomes places cells (put_in places cells x v) x v y
put_becomes places cells x v y = by_place (slice_get places x) refl
  where
    -- nothing was put, for want of a cell
    nothing : (new : List Cell) → new ≡ cells → cell_in places cells x ≡ None → Becomes places cells new x v y
    nothing new is none = subst (λ n. Becomes places cells n x v y) (sym is) (record {
      same = same_refl (cell_in places cells y);
      other = λ h. refl;
      own = λ same cell found. absurd (none-some cell (sym none ∙ ap (cell_in places cells) (sym same) ∙ found));
    })

    module_put : (p : ℕ) (c : Cell) → slice_get places x ≡ Some p → slice_get cells p ≡ Some c → c.name ≡ x → Becomes places cells (slice_set cells p (record c { now = Some v })) x v y
    module_put p c at found named = by_own (slice_get places y) refl
      where
        new : List Cell
        new = slice_set cells p (record c { now = Some v })

        at_cell : (b : Bool) → c.name == y ≡ b → (old_is : cell_in places cells y ≡ own_cell y (Some c)) → (new_is : cell_in places (slice_set cells p (record c { now = Some v })) y ≡ own_cell y (Some (record c { now = Some v }))) → Becomes places cells (slice_set cells p (record c { now = Some v })) x v y
        at_cell true e old_is new_is =
            let old_some : cell_in places cells y ≡ Some c = old_is ∙ ap (λ b. if b then Some c else None) e in
            let new_some : cell_in places (slice_set cells p (record c { now = Some v })) y ≡ Some (record c { now = Some v }) = new_is ∙ ap (λ b. if b then Some (record c { now = Some v }) else None) e in record {
              same = subst (λ o. IsSameCell (cell_in places cells y) o) (sym new_some) (subst (λ o. IsSameCell o (Some (record c { now = Some v }))) (sym old_some) (refl, refl, refl));
              other = λ h. absurd (h (sym (eqb-true c.name y e) ∙ named));
              own = λ same cell is. ap (λ d. d.now) (sym (same_Some (record c { now = Some v }) cell (sym new_some ∙ is)));
            }
        at_cell false e old_is new_is =
            let old_none : cell_in places cells y ≡ None = old_is ∙ ap (λ b. if b then Some c else None) e in
            let new_none : cell_in places (slice_set cells p (record c { now = Some v })) y ≡ None = new_is ∙ ap (λ b. if b then Some (record c { now = Some v }) else None) e in record {
              same = same_equal _ _ (new_none ∙ sym old_none);
              other = λ h. new_none ∙ sym old_none;
              own = λ same cell is. absurd (false≢true (sym e ∙ eq-eqb c.name y (named ∙ sym same)));
            }

        unchanged : cell_in places (slice_set cells p (record c { now = Some v })) y ≡ cell_in places cells y → y ≢ x → Becomes places cells (slice_set cells p (record c { now = Some v })) x v y
        unchanged same other = record { same = same_equal _ _ same; other = λ h. same; own = λ is cell found. absurd (other is) }

        by_own : (o : Option ℕ) → slice_get places y ≡ o → Becomes places cells (slice_set cells p (record c { now = Some v })) x v y
        by_own None none = unchanged (ap (λ o. own_cell y (cell_from (slice_set cells p (record c { now = Some v })) o)) none ∙ sym (ap (λ o. own_cell y (cell_from cells o)) none))
            (λ is. none-some p (sym none ∙ ap (slice_get places) is ∙ at))
        by_own (Some q) some = elim (cases_eq q p) [
          | inl is ↦ at_cell (c.name == y) refl
              (ap (λ o. own_cell y (cell_from cells o)) some ∙ ap (own_cell y) (ap (slice_get cells) is ∙ found))
              (ap (λ o. own_cell y (cell_from (slice_set cells p (record c { now = Some v })) o)) some ∙ ap (own_cell y) (ap (slice_get (slice_set cells p (record c { now = Some v }))) is ∙ set_same cells p (record c { now = Some v }) c found))
          | inr other ↦ unchanged
              (ap (λ o. own_cell y (cell_from (slice_set cells p (record c { now = Some v })) o)) some ∙ ap (own_cell y) (set_other cells p q (record c { now = Some v }) other) ∙ sym (ap (λ o. own_cell y (cell_from cells o)) some))
              (λ is. other (same_Some q p (sym some ∙ ap (slice_get places) is ∙ at)))
        ]

    by_name : (p : ℕ) (c : Cell) → slice_get places x ≡ Some p → slice_get cells p ≡ Some c → (b : Bool) → c.name == x ≡ b → Becomes places cells (put_in places cells x v) x v y
    by_name p c at found true e =
        subst (λ n. Becomes places cells n x v y) (sym (ap (put_from cells x v) at ∙ ap (put_cell cells x v p) found ∙ ap (λ b. if b then slice_set cells p (record c { now = Some v }) else cells) e)) (module_put p c at found (eqb-true c.name x e))
    by_name p c at found false e = nothing (put_in places cells x v) (ap (put_from cells x v) at ∙ ap (put_cell cells x v p) found ∙ ap (λ b. if b then slice_set cells p (record c { now = Some v }) else cells) e)
        (ap (λ o. own_cell x (cell_from cells o)) at ∙ ap (own_cell x) found ∙ ap (λ b. if b then Some c else None) e)

    by_cell : (p : ℕ) → slice_get places x ≡ Some p → (o : Option Cell) → slice_get cells p ≡ o → Becomes places cells (put_in places cells x v) x v y
    by_cell p at None none = nothing (put_in places cells x v) (ap (put_from cells x v) at ∙ ap (put_cell cells x v p) none) (ap (λ o. own_cell x (cell_from cells o)) at ∙ ap (own_cell x) none)
    by_cell p at (Some c) found = by_name p c at found (c.name == x) refl

    by_place : (o : Option ℕ) → slice_get places x ≡ o → Becomes places cells (put_in places cells x v) x v y
    by_place None none = nothing (put_in places cells x v) (ap (put_from cells x v) none) (ap (λ o. own_cell x (cell_from cells o)) none)
    by_place (Some p) at = by_cell p at (slice_get cells p) refl
