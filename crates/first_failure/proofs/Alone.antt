-- A run of one line does what its use does.
use Rattle.std.proofs.Common.{◌≡◌, refl, ap, sym, subst, ◌∙◌, ℕ, zero, suc, ◌-◌, ◌==◌, Bool, true, false, if◌then◌else◌, ℤ, List, [], ◌∷◌, ◌++◌, Option, Some, None, slice_get, Contains, inl, inr, arith}
use Rattle.std.proofs.lemmas.Bool.{false≢true, eqb-true}
use Rattle.std.proofs.lemmas.Option.{none-some, same_Some}
use Rattle.sync_values.specs.Arithmetic.{fitted}
use Rattle.sync_values.specs.Relation.{rank}
use Rattle.sync_values.specs.declared.value.Value.{Value}
use Rattle.sync_values.specs.declared.value.Value.TheVariants as value
use Rattle.flat_model.specs.Asks.{Asking, OfNow, OfLast, OfPrevious, OfFirst, OfInterval}
use Rattle.flat_model.specs.Assignment.{Assignment, IsOfKind, tick_before, value_at_tick, previous_value}
use Rattle.flat_model.specs.Faults.{EquationFails}
use Rattle.flat_model.specs.Given.{Row, with_row}
use Rattle.flat_model.specs.Meaning.{whole_of, value_of}
use Rattle.flat_model.specs.Operators.{Answer, Is, Fails, Absent}
use Rattle.flat_model.specs.Setting.{Setting, class_of_name, start_of, class_ticks, name_ticks, views_at}
use Rattle.flat_model.specs.Uses.{Use}
use Rattle.flat_model.specs.Views.{Views}
use Rattle.moment_theory.specs.Free.{IsReachedBy, IsOrdered}
use Rattle.moment_theory.specs.Taken.{put, Gives}
use Rattle.moment_theory.proofs.FromRunnable.{facts_of}
use Rattle.moment_theory.proofs.Rows.{row_now, row_before, unclocked_at_first}
use Rattle.step_code.specs.Code.{Cells}
use Rattle.step_code.specs.Lines.{Line, given, All, lines_end, ended_by, Holds, IsNoCell, IsKeptBut}
use Rattle.step_lines.specs.declared.running.Failing.{Failing}
use Rattle.step_lines.specs.declared.stretch.Stretch.{Stretch}
use Rattle.step_lines.specs.Stretches.{EndsAs, RunsLines}
use Rattle.side_theory.specs.Counted.{Begins}
use Rattle.side_theory.specs.Kept.{HasWord, IsSet}
use Rattle.side_theory.specs.Runs.{HoldsRow}
use Rattle.side_theory.specs.Sides.{IsSideUse, Counts, DoesAs}
use Rattle.side_theory.specs.Stretches.{IsSameAt}
use Rattle.side_theory.specs.Typed.{IsTypedRow}
use Rattle.side_theory.proofs.Counting.{free_behind}
use Rattle.side_theory.proofs.Keeping.{previous_is, holds_row}
use Rattle.side_theory.proofs.Showing.{ticks_same, same_given}
use Rattle.side_theory.proofs.Side.{SideFacts, side_facts, does_as}
use Rattle.side_theory.proofs.Taking.{truths, are_lines}
use Rattle.first_failure.specs.Lone.{IsLone, IsSetFor, LoneEnds}
use Rattle.first_failure.proofs.Readying.{counts_ready}

same_self : (views : Views) (d : ℕ) (q : Asking) → IsSameAt views views d q
same_self views d (OfNow y) = refl
same_self views d (OfLast y) = refl
same_self views d (OfPrevious y) = refl
same_self views d OfFirst = refl
same_self views d OfInterval = refl

-- cells that hold views hold all that are the same
holds_same : (at : Cells) (cells : List ℤ) (t : ℕ) (a b : Views) → ((d : ℕ) (q : Asking) → IsSameAt a b d q) → Holds at cells t a → Holds at cells t b
holds_same at cells t a b same holds = record {
  now = λ k x c v is has. holds.now k x c v is (same k (OfNow x) ∙ has);
  previous = λ k x c v is has. holds.previous k x c v is (same k (OfPrevious x) ∙ has);
  last = λ k x c v is has. holds.last k x c v is (same k (OfLast x) ∙ has);
  const = holds.const;
  first = λ k c is. let h = holds.first k c is in (h.0, h.1 ∙ ap (λ z. rank (value.Bool z)) (same k OfFirst));
  interval = λ k n c is. let h = holds.interval k n c is in (h.0, h.1, h.2 ∙ ap (λ z. fitted (whole_of z n)) (same k OfInterval));
}

module _ (s : Setting) (uses before after : List Use) (entry : Use) (ordered : IsOrdered s uses (before ++ entry ∷ after)) (class : ℕ) (at : Cells) (t : ℕ) (line : Line) (stretch : Stretch) (is : IsLone s uses class entry at t line stretch)
    (S : Assignment) (m : ℕ) (row : Row) (old new : List ℤ) (stop : Option Failing) (ready : IsSetFor s S m row class entry at t old) (runs : RunsLines stretch old new stop) where
  abbrev A : Assignment
  A = with_row S m row

  abbrev here : Views
  here = views_at s A (Some class) m

  used : Contains uses entry
  used = is.lines.0.0

  side_use : IsSideUse s entry line.side class
  side_use = is.lines.0.2

  counts : Counts s S m row entry line.side class
  counts = counts_ready s uses ordered.runs ordered.uses_are.uses_are entry line.side class used side_use S m row ready.ticks ready.reads ready.meets ready.typed

  does : DoesAs s uses S m row entry (value_of line.side here)
  does = does_as s uses ordered.runs ordered.uses_are.uses_are entry line.side class used side_use S m row counts

  facts : SideFacts s entry line.side class
  facts = side_facts s uses ordered.runs ordered.uses_are.uses_are entry line.side class used side_use

  begins : Begins s S m row class []
  begins = record { meets = ready.meets; typed = ready.typed; all = λ y reached same now. absurd reached; ticks = ready.ticks }

  ends : EndsAs at t old new (line ∷ []) (lines_end (line ∷ []) here) stop
  ends = runs at t (line ∷ []) is.stretch_is is.apart here (truths s ordered.runs S m row class [] begins at is.booleans)
      (are_lines s uses class ordered.runs ordered.uses_are.uses_are S m row ready.ticks at t (entry ∷ []) after (free_behind s before (entry ∷ after) ordered.free) (line ∷ []) is.lines is.celled clear)
      (holds_row s S m row at t old class is.laid ready.ticks ready.set ready.clock)
    where
      clear : (y : ℕ) → IsReachedBy y (entry ∷ []) → row y ≡ None
      clear y (inl at_own) = ap row at_own ∙ ready.clear
      clear y (inr none) = absurd none

  -- the cells are set over a row that they hold, where the clocks tick as they did
  module _ (last : Row) (kept : IsKeptBut t (line ∷ []) old new) (holds : HoldsRow s S m last class at t new) (still : (c : Option ℕ) → class_ticks s A c m ≡ class_ticks s (with_row S m last) c m) where
    abbrev B : Assignment
    B = with_row S m last

    ticks : class_ticks s B (Some class) m ≡ true
    ticks = sym (still (Some class)) ∙ ready.ticks

    not_first : {C : Type 0} → m ≡ 0 → C
    not_first at_0 = absurd (none-some class (sym (unclocked_at_first s B (Some class) (subst (λ k. class_ticks s B (Some class) k ≡ true) at_0 ticks))))

    at_m : m ≡ m - 0
    at_m = omega arith

    -- the cell of a name that rests is not the line's
    resting : (x c : ℕ) → (at 0).now x ≡ Some c → name_ticks s B x m ≡ false → IsNoCell c (line ∷ [])
    resting x c now rests = (
      λ own.
          let name : x ≡ line.name = is.apart.now x line.name c now (is.celled.0.cell ∙ ap Some (sym own)) in
          let clocked : class_of_name s x ≡ Some class = ap (class_of_name s) (name ∙ is.lines.0.1) ∙ facts.clocked in
          false≢true (sym rests ∙ ap (λ k. class_ticks s B k m) clocked ∙ ticks),
      tt,
    )

    left_word : (x c : ℕ) (v : Value) → (at 1).last x ≡ Some c → previous_value (name_ticks s S x) (S x) (start_of s x) m ≡ Some v → (n : ℕ) → m ≡ n → HasWord t new c v
    left_word x c v is_cell has zero at_0 = not_first at_0
    left_word x c v is_cell has (suc k) at_k =
        let back : m ≡ suc (m - 1) = omega (arith, at_k) in
        holds.last 1 x c v is_cell (subst (λ n. value_at_tick (B x) (start_of s x) (tick_before (name_ticks s B x) n) ≡ Some v) back (previous_is s S m last at t new x ∙ has))

    set_over : IsSet s S m last at t new
    set_over = record {
      now = λ x c v now has. holds.now 0 x c v now (subst (λ k. B x k ≡ Some v) at_m (row_now S m last x ∙ has));
      kept = λ x c v now rests has. let h = ready.set.kept x c v now (still (class_of_name s x) ∙ rests) has in (h.0, kept c h.0 (resting x c now rests) ∙ h.1);
      previous = λ x c v is_cell has. holds.previous 0 x c v is_cell (subst (λ k. previous_value (name_ticks s B x) (B x) (start_of s x) k ≡ Some v) at_m (previous_is s S m last at t new x ∙ has));
      left = λ x c k v is_cell at_k has.
          let back : k ≡ m - 1 = omega (arith, at_k) in
          holds.now 1 x c v is_cell (subst (λ n. B x n ≡ Some v) back (row_before S m last x k (omega (arith, at_k)) ∙ has));
      left_last = λ x c v is_cell has. left_word x c v is_cell has m refl;
      const = λ k c v is_cell. holds.const k v c is_cell;
    }

  -- with the value of the use the row is typed
  typed_put : (v : Value) → Gives s S m row entry v → IsTypedRow s (put row entry.name v)
  typed_put v gives y name w found has = by_name (y == entry.name) refl has
    where
      same_some : (a b : Value) → Some a ≡ Some b → a ≡ b
      same_some a b e = cc

      by_name : (b : Bool) → y == entry.name ≡ b → (if b then Some v else row y) ≡ Some w → IsOfKind name.kind w
      by_name true same is_w =
          let y_is : y ≡ entry.name = eqb-true y entry.name same in
          let name_same : gives.name ≡ name = same_Some gives.name name (sym gives.can.name_is ∙ ap (slice_get s.model.names) (sym y_is) ∙ found) in
          subst (λ n. IsOfKind n.kind w) name_same (subst (IsOfKind gives.name.kind) (same_some v w is_w) gives.only.typed)
      by_name false same is_w = ready.typed y name w found is_w

  lone : (a : Answer) → DoesAs s uses S m row entry a → EndsAs at t old new (line ∷ []) (ended_by a here line [] (λ views. All views)) stop → LoneEnds s uses S m row entry at t new stop × IsKeptBut t (line ∷ []) old new
  lone (Is v) gives (stops, holds, kept) =
      let sites = (facts_of s ordered.runs).unclocked in
      let holds_own : Holds at new t (given entry.name v here) = subst (λ x. Holds at new t (given x v here)) is.lines.0.1 holds in
      let on : HoldsRow s S m (put row entry.name v) class at t new =
      holds_same at new t (given entry.name v here) _ (λ d q. same_given s sites S m row class entry.name v ready.ticks facts.clocked facts.sites here d q (same_self here d q)) holds_own in
      let set = set_over (put row entry.name v) kept on (ticks_same s sites S m row class entry.name v ready.ticks facts.clocked facts.sites) in
      (subst (LoneEnds s uses S m row entry at t new) (sym stops) (v, gives, typed_put v gives, set), kept)
  lone (Fails kind) fails (failing, stops, same, place, holds, kept) =
      let own = subst (EquationFails s A uses m entry.equation) (sym same) fails in
      (subst (LoneEnds s uses S m row entry at t new) (sym stops) (own, set_over row kept holds (λ c. refl)), kept)
  lone Absent none ended = absurd none

  pub alone : LoneEnds s uses S m row entry at t new stop × IsKeptBut t (line ∷ []) old new
  alone = lone (value_of line.side here) does ends
