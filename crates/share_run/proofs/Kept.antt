-- What a share keeps for the next moment.
use Rattle.std.proofs.Common.{◌≡◌, refl, ap, ◌∙◌, sym, subst, ℕ, suc, ◌<◌, Bool, true, false, List, length, map, Option, Some, None, slice_get, unwrap_or, arith, inl, inr}
use Rattle.std.specs.Prelude.{option_map, if◌then◌else◌}
use Rattle.std.proofs.lemmas.Bool.{cases_lt}
use Rattle.std.proofs.lemmas.Option.{slice_get_past}
use Rattle.sync_values.specs.declared.value.Value.{Value}
use Rattle.flat_model.specs.declared.model.NameKind.{NameKind}
use Rattle.flat_model.specs.declared.model.NameKind.TheVariants as kind
use Rattle.flat_model.specs.declared.table.Left.{Left}
use Rattle.flat_model.specs.Values.{value_in}
use Rattle.flat_model.specs.Assignment.{Assignment, tick_before, value_at_tick, previous_value}
use Rattle.flat_model.specs.Meets.{HasValueAtTicks}
use Rattle.flat_model.specs.Setting.{Setting, flattened, class_of_name, start_of, name_ticks}
use Rattle.flat_model.specs.Uses.{Use}
use Rattle.flat_model.proofs.Agreement.{previous_same, class_ticks_same}
use Rattle.first_failure.specs.declared.least.EquationFailing.{EquationFailing}
use Rattle.fork_steps.specs.declared.slot.Slot.{Slot}
use Rattle.moment_body.specs.declared.model.ClockedModel.{ClockedModel}
use Rattle.moment_steps.specs.declared.piece.Piece.{Piece}
use Rattle.moment_steps.specs.Settled.{own_uses}
use Rattle.moment_steps.proofs.Starting.{valued_within}
use Rattle.moment_steps.specs.Keeping.{last_by, now_by}
use Rattle.moment_theory.specs.Free.{IsReachedBy}
use Rattle.moment_theory.proofs.Meeting.{IsValued}
use Rattle.moment_theory.proofs.NoSolution.{value_at}
use Rattle.partition_step.specs.Writing.{IsWritten}
use Rattle.partition_step.proofs.Lists.{map_at, at_map, some_at}
use Rattle.share_run.specs.Standing.{Holding, AreOwners, IsLeftBeside}
use Rattle.share_run.specs.Taking.{Values, Plan, GoesOnBeside, TakesShare, KeepsShare}
use Rattle.tree_step.specs.declared.cell.Cell.{Cell}

rests_at : (k : NameKind) (ticks : Bool) (o : Option Value) → ticks ≡ false → HasValueAtTicks k ticks o → o ≡ None
rests_at kind.Clock ticks o rests has = has
rests_at kind.Integer false o rests has = has
rests_at kind.Boolean false o rests has = has
rests_at kind.Integer true o rests has = absurd cc
rests_at kind.Boolean true o rests has = absurd cc

module _ (now : Values) (left new : Left) (keeps_now : IsWritten (now_by now) left.now new.now) (keeps_last : IsWritten (last_by now) left.last new.last)
    (s : Setting) (others : List Use) (A T : Assignment) (n : ℕ) (ticks : ℕ → Bool) (wide : length now ≡ length s.model.names) (left_is : IsLeftBeside s others A n left) (on : GoesOnBeside s others A n (value_in now) ticks T) where
  now_within : (y : ℕ) → y < length s.model.names → value_in new.now y ≡ value_in now y
  now_within y lt =
      let left_wide = left_is.wide in
      let (old, old_found) = some_at left.now y (omega (arith, lt, left_wide)) in
      let (value, found) = some_at now y (omega (arith, lt, wide)) in
      ap flattened (keeps_now.each y ∙ ap (option_map (now_by now y)) old_found ∙ ap (λ o. Some (unwrap_or o old)) found) ∙ sym (ap flattened found)

  now_is : (y : ℕ) → value_in new.now y ≡ value_in now y
  now_is y = elim (cases_lt y (length s.model.names)) [
    | inl lt ↦ now_within y lt
    | inr le ↦
        let left_wide = left_is.wide in let size = keeps_now.size in
        ap flattened (slice_get_past new.now y (omega (arith, le, left_wide, size))) ∙ sym (ap flattened (slice_get_past now y (omega (arith, le, wide))))
  ]

  module _ (x : ℕ) (own : IsReachedBy x others → ⊥) (valued : IsValued s x) where
    was : (old : Value) × (slice_get left.last x ≡ Some old)
    was = some_at left.last x (let lt = valued_within s x valued in let long = left_is.long in omega (arith, lt, long))

    kept_is : slice_get new.last x ≡ Some (unwrap_or (value_in now x) was.0)
    kept_is = keeps_last.each x ∙ ap (option_map (last_by now x)) was.1

    before_is : previous_value (name_ticks s A x) (A x) (start_of s x) n ≡ previous_value (name_ticks s T x) (T x) (start_of s x) n
    before_is = previous_same (name_ticks s A x) (name_ticks s T x) (A x) (T x) (start_of s x) n
        (λ j lt. class_ticks_same s A T (class_of_name s x) j j (λ y k le. on.agrees y k (omega (arith, lt, le))) (omega arith))
        (λ j lt. on.agrees x j lt)

    by_tick : (b : Bool) → name_ticks s T x n ≡ b → Some (unwrap_or (value_in now x) was.0) ≡ value_at_tick (T x) (start_of s x) (if b then Some n else tick_before (name_ticks s T x) n)
    by_tick true ticking =
        let (w, is, typed) = value_at valued.name.kind (name_ticks s T x n) (T x n) valued.valued ticking (on.meets.names x valued.name valued.found) in
        let value_is : value_in now x ≡ Some w = sym (on.values x own) ∙ is in
        ap (λ o. Some (unwrap_or o was.0)) value_is ∙ sym is
    by_tick false resting =
        let none : value_in now x ≡ None = sym (on.values x own) ∙ rests_at valued.name.kind (name_ticks s T x n) (T x n) resting (on.meets.names x valued.name valued.found) in
        ap (λ o. Some (unwrap_or o was.0)) none ∙ sym was.1 ∙ left_is.last x own valued ∙ before_is

    last_is : slice_get new.last x ≡ previous_value (name_ticks s T x) (T x) (start_of s x) (suc n)
    last_is = kept_is ∙ by_tick (name_ticks s T x n) refl

  pub left_next : IsLeftBeside s others T (suc n) new
  left_next = record {
    wide = keeps_now.size ∙ left_is.wide;
    long = keeps_last.size ∙ left_is.long;
    now = λ y k own later.
        let same : n ≡ k = omega (arith, later) in
        now_is y ∙ sym (on.values y own) ∙ ap (T y) same;
    last = last_is;
  }

-- the slots own the same names where they have the same uses
owners_next : (old new : List (Slot Piece)) (owners : List (Option ℕ)) → map own_uses new ≡ map own_uses old → AreOwners old owners → AreOwners new owners
owners_next old new owners same are = record {
  owned = λ i x slot found reached.
      let (was, was_found, is) = map_at own_uses old i (own_uses slot) (ap (λ us. slice_get us i) (sym same) ∙ at_map own_uses new i slot found) in
      are.owned i x was was_found (subst (IsReachedBy x) (sym is) reached);
  only = λ i x owner.
      let (was, was_found, reached) = are.only i x owner in
      let (slot, found, is) = map_at own_uses new i (own_uses was) (ap (λ us. slice_get us i) same ∙ at_map own_uses old i was was_found) in
      (slot, found, subst (IsReachedBy x) (sym is) reached);
}

-- what a share has before the next moment
pub keeps_share : (h : Holding) (model : ClockedModel) (plan : Plan) (base last : Values) (told : Option EquationFailing) (slots : List (Slot Piece)) (cells : List Cell) (left : Left)
    → TakesShare h model plan slots base last told → length last ≡ length base → length cells ≡ length h.cells
    → IsWritten (now_by last) h.left.now left.now → IsWritten (last_by last) h.left.last left.last
    → KeepsShare h (record { classes = h.classes; owners = h.owners; waiting = h.waiting; always = h.always; numbers = h.numbers; places = h.places; slots = slots; cells = cells; left = left }) model plan base last told
keeps_share h model plan base last told slots cells left takes wide room keeps_now keeps_last none s uses pure others A n is T on =
    let taken = takes s uses pure others A n is in record {
      settled = record {
        measured = is.before.settled.measured;
        always_ticks = is.before.settled.always_ticks;
        long = is.before.settled.long;
        numbered = is.before.settled.numbered;
        waiting_plain = is.before.settled.waiting_plain;
      };
      room = room ∙ is.before.room;
      slots_are = taken.slots_are;
      owners_are = owners_next h.slots slots h.owners taken.same is.before.owners_are;
      left_is = left_next last h.left left keeps_now keeps_last s others A T n plan.ticks (wide ∙ is.wide) is.before.left_is on;
      stand = taken.goes_on none T on;
    }
