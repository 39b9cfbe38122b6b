-- What is kept from one moment to the next.
use Rattle.std.proofs.Common.{◌≡◌, refl, ap, ◌∙◌, sym, subst, ℕ, suc, ◌<◌, true, false, if◌then◌else◌, List, Option, Some, None, arith}
use Rattle.sync_values.specs.declared.value.Value.{Value}
use Rattle.flat_model.specs.Assignment.{Assignment, tick_before, value_at_tick, previous_value}
use Rattle.flat_model.specs.Setting.{Setting, class_of_name, start_of, class_ticks, name_ticks}
use Rattle.flat_model.specs.Uses.{Use}
use Rattle.flat_model.proofs.Agreement.{class_ticks_same, tick_before_same, previous_same}
use Rattle.moment_theory.specs.Free.{IsReachedBy}
use Rattle.moment_theory.specs.Going.{AgreeBefore}
use Rattle.tree_step.specs.declared.cell.Cell.{Cell}
use Rattle.tree_step.specs.Cells.{cell_in}
use Rattle.tree_step.specs.Frames.{now_in}
use Rattle.partition_step.specs.declared.part.ClassKept.{ClassKept}
use Rattle.partition_step.specs.declared.part.Part.{Part}
use Rattle.partition_step.specs.Laws.{RestsLaw, PlacesLaw, OthersLaw}
use Rattle.partition_step.specs.Parts.{IsPartOf, IsTickedAt, KeepsTick}
use Rattle.partition_step.proofs.Lists.{map_at}
use Rattle.partition_step.proofs.Placing.{there, at_among, own_reached, class_of, entry_of_cell}

module _ (s : Setting) (S T : Assignment) (m : ℕ) (agrees : AgreeBefore S T m) where
  ticks_same : (class : Option ℕ) (j : ℕ) → j < m → class_ticks s S class j ≡ class_ticks s T class j
  ticks_same class j lt = class_ticks_same s S T class j j (λ x k le. agrees x k (omega (arith, lt, le))) (omega arith)

  -- a last value before the moment is the same
  pub keeps_same : (x : ℕ) (v : Value) → previous_value (name_ticks s S x) (S x) (start_of s x) m ≡ Some v → previous_value (name_ticks s T x) (T x) (start_of s x) m ≡ Some v
  keeps_same x v keeps =
      sym (previous_same (name_ticks s S x) (name_ticks s T x) (S x) (T x) (start_of s x) m (λ j lt. ticks_same (class_of_name s x) j lt) (λ j lt. agrees x j lt)) ∙ keeps

  -- and before the next one, where the name rests
  pub keeps_rest : (x : ℕ) (v : Value) → name_ticks s T x m ≡ false → previous_value (name_ticks s S x) (S x) (start_of s x) m ≡ Some v → previous_value (name_ticks s T x) (T x) (start_of s x) (suc m) ≡ Some v
  keeps_rest x v rests keeps =
      ap (λ b. value_at_tick (T x) (start_of s x) (if b then Some m else tick_before (name_ticks s T x) m)) rests ∙ keeps_same x v keeps

  -- or where it ticks, the value of the moment
  pub keeps_tick : (x : ℕ) (v : Value) → name_ticks s T x m ≡ true → T x m ≡ Some v → previous_value (name_ticks s T x) (T x) (start_of s x) (suc m) ≡ Some v
  keeps_tick x v ticks is = ap (λ b. value_at_tick (T x) (start_of s x) (if b then Some m else tick_before (name_ticks s T x) m)) ticks ∙ is

  -- the same of the last tick of a class
  pub tick_rests : (kept : ClassKept) → class_ticks s T (Some kept.class) m ≡ false → KeepsTick s S m kept → KeepsTick s T (suc m) kept
  tick_rests kept rests keeps =
      subst (λ o. IsTickedAt s o kept.ticked) (sym (ap (λ b. if b then Some m else tick_before (class_ticks s T (Some kept.class)) m) rests))
      (subst (λ o. IsTickedAt s o kept.ticked) (tick_before_same (class_ticks s S (Some kept.class)) (class_ticks s T (Some kept.class)) m (λ j lt. ticks_same (Some kept.class) j lt)) keeps)

pub rests : RestsLaw
rests s own places part of S T m stands agrees resting = record {
  values = λ i cell found.
      let (e, entry_found, named) = entry_of_cell s own places part.entries part.cells.items part.classes.items of.laid i cell found in
      let kept = class_of s own places part.entries part.cells.items part.classes.items of.laid e (at_among part.entries i e entry_found) in
      keeps_rest s S T m agrees cell.name cell.kept
      (ap (λ o. class_ticks s T o m) (ap (class_of_name s) named ∙ kept.of_name) ∙ resting e.clock kept.kept kept.found)
      (stands.values i cell found);
  ticks = λ j kept found. tick_rests s S T m agrees kept (resting j kept found) (stands.ticks j kept found);
}

pub places : PlacesLaw
places s own old new part of same =
    let laid = of.laid in record {
      laid = record {
        uses_are = laid.uses_are;
        names_are = laid.names_are;
        placed = λ i x found.
            let (cell, cell_found, named) = map_at (λ c. c.name) part.cells.items i x found in
            let (e, entry_found, is) = entry_of_cell s own old part.entries part.cells.items part.classes.items laid i cell cell_found in
            let reached : IsReachedBy x own = subst (λ y. IsReachedBy y own) (sym is ∙ named) (own_reached s own old part.entries part.cells.items part.classes.items laid e (at_among part.entries i e entry_found)) in
            same x reached ∙ laid.placed i x found;
        spines = laid.spines;
        of_class = laid.of_class;
        clocks_are = laid.clocks_are;
        from_use = laid.from_use;
      };
      room = of.room;
      coded = of.coded;
    }

-- a name that is not reached has no cell
module _ (s : Setting) (own : List Use) (at : List ℕ) (part : Part) (of : IsPartOf s own at part) (x : ℕ) (other : IsReachedBy x own → ⊥) where
  by_cell : (o : Option Cell) → cell_in at part.cells.items x ≡ o → now_in (cell_in at part.cells.items x) ≡ None
  by_cell None none = ap now_in none
  by_cell (Some cell) some =
      let is = there at part.cells.items x cell some in
      let (e, entry_found, named) = entry_of_cell s own at part.entries part.cells.items part.classes.items of.laid is.place cell is.found in
      absurd (other (subst (λ y. IsReachedBy y own) (sym named ∙ is.named) (own_reached s own at part.entries part.cells.items part.classes.items of.laid e (at_among part.entries is.place e entry_found))))

  no_other : now_in (cell_in at part.cells.items x) ≡ None
  no_other = by_cell (cell_in at part.cells.items x) refl

pub others : OthersLaw
others s own at part of x other = no_other s own at part of x other
