-- What the base partitions of a share leave at a moment.
use Rattle.std.proofs.Common.{◌≡◌, refl, ap, ◌∙◌, sym, subst, ℕ, suc, false, List, ◌++◌, map, Option, Some, None, slice_get, Contains, arith, ◌⊎◌, inl, inr}
use Rattle.std.proofs.Math.Path.{fun_ext}
use Rattle.std.proofs.lemmas.Bool.{false≢true}
use Rattle.std.proofs.lemmas.Option.{same_Some, slice_get-map, slice_get_past, slice_get_within}
use Rattle.std.specs.Prelude.{option_map}
use Rattle.sync_values.specs.declared.value.Value.{Value}
use Rattle.first_failure.specs.declared.least.EquationFailing.{EquationFailing}
use Rattle.first_failure.specs.Turns.{FailsAmong, IsLeast}
use Rattle.flat_model.specs.Values.{value_in}
use Rattle.flat_model.specs.Assignment.{Assignment}
use Rattle.flat_model.specs.Given.{Row, with_row}
use Rattle.flat_model.specs.Setting.{Setting, class_of_equation, class_ticks}
use Rattle.flat_model.specs.Uses.{Use}
use Rattle.fork_steps.specs.declared.slot.Slot.{Slot}
use Rattle.moment_body.specs.declared.model.ClockedModel.{ClockedModel}
use Rattle.moment_join.proofs.Fronts.{reached_or}
use Rattle.moment_steps.specs.declared.piece.Piece.{Piece}
use Rattle.moment_steps.specs.Gathered.{told_in, value_from}
use Rattle.moment_steps.specs.Settled.{own_uses}
use Rattle.moment_steps.specs.Stepped.{HasRested, HasCounted, AreSteppedAt}
use Rattle.moment_steps.proofs.Parted.{rests_taken, class_in_partition, if_told, if_none, if_value, outcome_is}
use Rattle.moment_steps.proofs.Rows.{piece_clear}
use Rattle.moment_theory.specs.Division.{joined}
use Rattle.moment_theory.specs.Free.{IsReachedBy}
use Rattle.moment_theory.specs.Pieces.{AreTakenAlone}
use Rattle.moment_theory.specs.Taken.{Gives, AreTaken}
use Rattle.moment_theory.proofs.Members.{IsMember, member_contains}
use Rattle.moment_theory.proofs.Settled.{model}
use Rattle.moment_theory.proofs.Taking.{unchanged}
use Rattle.partition_step.specs.Parts.{IsPartOf, StandsFor}
use Rattle.partition_step.specs.Steps.{Showing, GoesOnWith, HasStepped}
use Rattle.partition_step.proofs.Lists.{lists_same, none_past, map_at, at_map, some_at}
use Rattle.partition_step.proofs.Resting.{rests}
use Rattle.share_run.specs.Standing.{Holding, IsShareSlot, pieces_of}
use Rattle.share_run.specs.Taking.{Values, Plan, IsShareAt}
use Rattle.share_run.proofs.Starts.{showing, slot_is, ahead, after, step_start}
use Rattle.tree_step.specs.Cells.{cell_in}
use Rattle.tree_step.specs.Frames.{now_in}
use Rattle.tree_step.specs.Starts.{uses_of}

module _ (h : Holding) (model_now : ClockedModel) (plan : Plan) (now : Values) (s : Setting) (uses pure others : List Use) (A : Assignment) (n : ℕ) (is : IsShareAt h model_now plan now s uses pure others A n)
    (new : List (Slot Piece)) (stepped : AreSteppedAt (showing h model_now plan now) h.classes h.slots new) where
  abbrev told_now : Showing
  told_now = showing h model_now plan now

  abbrev base : Row
  base = value_in now

  abbrev rest_of : List Use
  rest_of = uses_of h.waiting ++ others

  -- what comes of one slot
  pub record SlotRow (i : ℕ) (slot : Slot Piece) : Type 0 where
    pub own : List Use
    pub piece : slice_get (pieces_of h) i ≡ Some own
    pub same : own_uses slot ≡ own
    pub row : Row
    pub taken : AreTaken s A n own base row
    pub holds : (x : ℕ) → IsReachedBy x own → value_from h.places x slot ≡ row x
    pub told : IsLeast (FailsAmong s uses A n own row) (told_in slot)
    pub slot_of : IsShareSlot s uses h.classes h.places i slot
    pub goes_on : told_in slot ≡ None → (T : Assignment) → GoesOnWith s own A n row told_now T → StandsFor s T (suc n) slot.piece.part

  module _ (i : ℕ) (was slot : Slot Piece) (was_found : slice_get h.slots i ≡ Some was) where
    abbrev of_was : IsShareSlot s uses h.classes h.places i was
    of_was = slot_is h model_now plan now s uses pure others A n is i was was_found

    -- the slot has the same uses
    slot_next : own_uses slot ≡ own_uses was → IsPartOf s (own_uses was) h.places slot.piece.part → IsShareSlot s uses h.classes h.places i slot
    slot_next same part_of = record {
      partition = of_was.partition;
      part_of = subst (λ us. IsPartOf s us h.places slot.piece.part) (sym same) part_of;
      of = λ entry own. of_was.of entry (subst (λ us. Contains us entry) same own);
      whole = λ entry used own. subst (λ us. Contains us entry) (sym same) (of_was.whole entry used own);
      placed = of_was.placed;
    }

    counted : HasCounted told_now was slot → SlotRow i slot
    counted c =
        let start = step_start h model_now plan now s uses pure others A n is i was was_found in
        let done : HasStepped s uses (own_uses was) A n base told_now slot.piece.part c.stepped.result =
        c.stepped.steps s uses (ahead h model_now plan now s uses pure others A n is i was was_found) (own_uses was) (after h model_now plan now s uses pure others A n is i was was_found) of_was.partition A n base start in record {
          own = own_uses was;
          piece = at_map own_uses h.slots i was was_found;
          same = c.stepped.same;
          row = done.row;
          taken = done.taken;
          holds = λ x reached. if_value slot.counts (now_in (cell_in h.places slot.piece.part.cells.items x)) c.counts ∙ done.holds x reached;
          told = subst (IsLeast (FailsAmong s uses A n (own_uses was) done.row)) (sym (if_told slot.counts slot.piece.told c.counts ∙ c.stepped.told)) done.told;
          slot_of = slot_next c.stepped.same done.part_of;
          goes_on = λ none T on. done.keeps (outcome_is c.stepped.result (sym (if_told slot.counts slot.piece.told c.counts ∙ c.stepped.told) ∙ none)) T on;
        }

    module _ (r : HasRested told_now h.classes i was slot) where
      -- no class of the partition ticks
      rests_class : (class : ℕ) → slice_get s.clocking.partitions class ≡ Some of_was.partition → plan.ticks class ≡ false
      rests_class class own = r.rests class (of_was.placed class own)

      rests_use : (entry : Use) → Contains (own_uses was) entry → class_ticks s (with_row A n base) (class_of_equation s entry.equation) n ≡ false
      rests_use entry has =
          let (class, class_is, own) = class_in_partition s (class_of_equation s entry.equation) of_was.partition (of_was.of entry has) in
          ap (λ o. class_ticks s (with_row A n base) o n) class_is ∙ sym (is.ticks_are class) ∙ rests_class class own

      never_gives : (entry : Use) → IsMember entry (own_uses was) → (v : Value) → Gives s A n base entry v → ⊥
      never_gives entry member v gives = false≢true (sym (rests_use entry (member_contains entry (own_uses was) member)) ∙ gives.can.ticks.1)

      never_fails : IsLeast (FailsAmong s uses A n (own_uses was) base) None
      never_fails j kind (entry, has, equation_is, fails) =
          false≢true (sym (rests_use entry has) ∙ ap (λ k. class_ticks s (with_row A n base) (class_of_equation s k) n) (equation_is ∙ sym fails.equation_is) ∙ fails.counts.ticks.1)

      clear : (x : ℕ) → IsReachedBy x (own_uses was) → base x ≡ None
      clear = piece_clear s uses pure (pieces_of h) rest_of is.division.staged A n plan.at is.here is.inputs is.are base is.taken i (own_uses was) (at_map own_uses h.slots i was was_found)

      still : StandsFor s A n was.piece.part
      still = is.before.stand i was was_found

      rested : SlotRow i slot
      rested = record {
        own = own_uses was;
        piece = at_map own_uses h.slots i was was_found;
        same = ap (λ p. uses_of p.part.entries) r.same;
        row = base;
        taken = rests_taken s A n base (own_uses was) never_gives;
        holds = λ x reached. if_none slot.counts (now_in (cell_in h.places slot.piece.part.cells.items x)) r.counts ∙ sym (clear x reached);
        told = subst (IsLeast (FailsAmong s uses A n (own_uses was) base)) (sym (if_none slot.counts slot.piece.told r.counts)) never_fails;
        slot_of = slot_next (ap (λ p. uses_of p.part.entries) r.same) (subst (λ p. IsPartOf s (own_uses was) h.places p.part) (sym r.same) of_was.part_of);
        goes_on = λ none T on. subst (λ p. StandsFor s T (suc n) p.part) (sym r.same)
            (rests s (own_uses was) h.places was.piece.part of_was.part_of A T n still on.agrees (λ j kept kept_found.
            let (entry, has, class) = of_was.part_of.laid.from_use j kept.class (at_map (λ k. k.class) was.piece.part.classes.items j kept kept_found) in
            let (other, other_is, own) = class_in_partition s (class_of_equation s entry.equation) of_was.partition (of_was.of entry has) in
            let same : other ≡ kept.class = same_Some other kept.class (sym other_is ∙ class) in
            sym (on.ticks kept.class) ∙ rests_class kept.class (ap (slice_get s.clocking.partitions) (sym same) ∙ own)));
      }

  pub slot_row : (i : ℕ) (slot : Slot Piece) → slice_get new i ≡ Some slot → SlotRow i slot
  slot_row i slot found =
      let (was, was_found, how) = stepped.each i slot found in elim how [
        | inl c ↦ counted i was slot was_found c
        | inr r ↦ rested i was slot was_found r
      ]

  -- the row of each piece, by what its slot has
  abbrev pub value_or : (slot : Slot Piece) (x : ℕ) → IsReachedBy x (own_uses slot) ⊎ (IsReachedBy x (own_uses slot) → ⊥) → Option Value
  value_or slot x (inl reached) = value_from h.places x slot
  value_or slot x (inr none) = base x

  abbrev pub row_at : Option (Slot Piece) → Row
  row_at None x = base x
  row_at (Some slot) x = value_or slot x (reached_or (own_uses slot) x)

  abbrev pub owns : ℕ → Row
  owns i = row_at (slice_get new i)

  module _ (i : ℕ) (slot : Slot Piece) (found : slice_get new i ≡ Some slot) where
    abbrev at_slot : SlotRow i slot
    at_slot = slot_row i slot found

    same_value : (x : ℕ) (d : IsReachedBy x (own_uses slot) ⊎ (IsReachedBy x (own_uses slot) → ⊥)) → value_or slot x d ≡ at_slot.row x
    same_value x (inl reached) = at_slot.holds x (subst (IsReachedBy x) at_slot.same reached)
    same_value x (inr none) = sym (unchanged s (model s uses (pure ++ (joined (pieces_of h) ++ rest_of)) is.division.staged.ordered).unclocked A n at_slot.own base at_slot.row at_slot.taken x
        (λ reached. none (subst (IsReachedBy x) (sym at_slot.same) reached)))

    pub owns_is : at_slot.row ≡ owns i
    owns_is = fun_ext (λ x. sym (ap (λ o. row_at o x) found ∙ same_value x (reached_or (own_uses slot) x)))

  -- the slot of a piece
  pub slot_of_piece : (i : ℕ) (piece : List Use) → slice_get (pieces_of h) i ≡ Some piece → (slot : Slot Piece) × (slice_get new i ≡ Some slot)
  slot_of_piece i piece found =
      let (was, was_found, was_is) = map_at own_uses h.slots i piece found in
      let within = slice_get_within h.slots i was was_found in
      let long = stepped.long in
      some_at new i (omega (arith, within, long))

  module _ (i : ℕ) (piece : List Use) (found : slice_get (pieces_of h) i ≡ Some piece) where
    abbrev its : (slot : Slot Piece) × (slice_get new i ≡ Some slot)
    its = slot_of_piece i piece found

    abbrev its_row : SlotRow i its.0
    its_row = slot_row i its.0 its.1

    own_piece : its_row.own ≡ piece
    own_piece = same_Some its_row.own piece (sym its_row.piece ∙ found)

    alone_at : AreTaken s A n piece base (owns i)
    alone_at = subst (λ r. AreTaken s A n piece base r) (owns_is i its.0 its.1) (subst (λ p. AreTaken s A n p base its_row.row) own_piece its_row.taken)

    pub told_at : (told : Option EquationFailing) × (slice_get (map told_in new) i ≡ Some told) × IsLeast (FailsAmong s uses A n piece (owns i)) told
    told_at = (
      told_in its.0,
      at_map told_in new i its.0 its.1,
      subst (λ r. IsLeast (FailsAmong s uses A n piece r) (told_in its.0)) (owns_is i its.0 its.1) (subst (λ p. IsLeast (FailsAmong s uses A n p its_row.row) (told_in its.0)) own_piece its_row.told),
    )

    pub owns_value : (y : ℕ) → IsReachedBy y piece → value_from h.places y its.0 ≡ owns i y
    owns_value y reached = its_row.holds y (subst (IsReachedBy y) (sym own_piece) reached) ∙ ap (λ r. r y) (owns_is i its.0 its.1)

  pub alone : AreTakenAlone s A n base owns (pieces_of h)
  alone i piece found = alone_at i piece found

  pub no_more : (i : ℕ) (told : Option EquationFailing) → slice_get (map told_in new) i ≡ Some told → (piece : List Use) × (slice_get (pieces_of h) i ≡ Some piece)
  no_more i told found =
      let (slot, slot_found, told_is) = map_at told_in new i told found in
      let row = slot_row i slot slot_found in
      (row.own, row.piece)

-- each slot has the same uses
pub same_pieces : (h : Holding) (told : Showing) (new : List (Slot Piece)) → AreSteppedAt told h.classes h.slots new → map own_uses new ≡ pieces_of h
same_pieces h told new stepped = lists_same (map own_uses new) (map own_uses h.slots) (λ i. at_place i (slice_get new i) refl)
  where
    past : (i : ℕ) → slice_get new i ≡ None → slice_get h.slots i ≡ None
    past i none = slice_get_past h.slots i (let le = none_past new i none in let long = stepped.long in omega (arith, le, long))

    at_place : (i : ℕ) (o : Option (Slot Piece)) → slice_get new i ≡ o → slice_get (map own_uses new) i ≡ slice_get (map own_uses h.slots) i
    at_place i None none = slice_get-map own_uses new i ∙ ap (option_map own_uses) none ∙ sym (slice_get-map own_uses h.slots i ∙ ap (option_map own_uses) (past i none))
    at_place i (Some slot) found =
        let (was, was_found, how) = stepped.each i slot found in
        at_map own_uses new i slot found ∙ ap Some (elim how [
          | inl c ↦ c.stepped.same
          | inr r ↦ ap (λ p. uses_of p.part.entries) r.same
        ]) ∙ sym (at_map own_uses h.slots i was was_found)
