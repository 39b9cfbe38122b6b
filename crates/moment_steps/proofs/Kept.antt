-- What is kept for the next moment.
use Rattle.std.proofs.Common.{◌≡◌, ◌≢◌, refl, ap, ◌∙◌, sym, subst, ℕ, suc, ◌<◌, ◌≤◌, Bool, true, false, List, length, Option, Some, None, slice_get, unwrap_or, arith, ◌⊎◌, inl, inr}
use Rattle.std.specs.Prelude.{option_map, if◌then◌else◌}
use Rattle.std.proofs.lemmas.Bool.{cases_lt}
use Rattle.std.proofs.lemmas.Option.{none-some, slice_get_past}
use Rattle.sync_values.specs.declared.value.Value.{Value}
use Rattle.flat_model.specs.declared.model.NameKind.{NameKind}
use Rattle.flat_model.specs.declared.model.NameKind.TheVariants as kind
use Rattle.flat_model.specs.declared.table.Left.{Left}
use Rattle.flat_model.specs.Values.{value_in}
use Rattle.flat_model.specs.Assignment.{Assignment, previous_value}
use Rattle.flat_model.specs.Given.{Row, with_row}
use Rattle.flat_model.specs.Meets.{HasValueAtTicks, MeetsAt, MeetsBefore}
use Rattle.flat_model.specs.Setting.{Setting, flattened, start_of, name_ticks}
use Rattle.moment_theory.proofs.Meeting.{IsValued}
use Rattle.moment_theory.proofs.NoSolution.{value_at}
use Rattle.moment_theory.proofs.Rows.{row_now}
use Rattle.moment_moves.proofs.Keeping.{kept_next}
use Rattle.fork_steps.specs.declared.slot.Slot.{Slot}
use Rattle.tree_step.specs.declared.cell.Cell.{Cell}
use Rattle.tree_step.specs.declared.frame.ClockNow.{ClockNow}
use Rattle.tree_step.specs.declared.taking.Entry.{Entry}
use Rattle.partition_step.specs.Writing.{IsWritten}
use Rattle.partition_step.proofs.Lists.{some_at}
use Rattle.moment_body.specs.Stepping.{Values}
use Rattle.moment_steps.specs.declared.piece.Piece.{Piece}
use Rattle.moment_steps.specs.declared.taking.UnclockedReads.{UnclockedReads}
use Rattle.moment_steps.specs.Standing.{IsLeftAt, StandsBefore, HasEnded}
use Rattle.moment_steps.specs.Keeping.{last_by, now_by}
use Rattle.moment_steps.proofs.Starting.{valued_within}

rests_at : (k : NameKind) (ticks : Bool) (o : Option Value) → ticks ≡ false → HasValueAtTicks k ticks o → o ≡ None
rests_at kind.Clock ticks o rests has = has
rests_at kind.Integer false o rests has = has
rests_at kind.Boolean false o rests has = has
rests_at kind.Integer true o rests has = absurd cc
rests_at kind.Boolean true o rests has = absurd cc

module _ (s : Setting) (A : Assignment) (n : ℕ) (now : Values) (wide : length now ≡ length s.model.names) (meets : MeetsBefore s (with_row A n (value_in now)) (suc n))
    (left new : Left) (left_is : IsLeftAt s A n left) (keeps_now : IsWritten (now_by now) left.now new.now) (keeps_last : IsWritten (last_by now) left.last new.last) where
  abbrev T : Assignment
  T = with_row A n (value_in now)

  here : MeetsAt s T n
  here = meets n (omega arith)

  now_within : (y : ℕ) → y < length s.model.names → value_in new.now y ≡ value_in now y
  now_within y lt =
      let left_wide = left_is.wide in
      let (old, old_found) = some_at left.now y (omega (arith, lt, left_wide)) in
      let (value, found) = some_at now y (omega (arith, lt, wide)) in
      ap flattened (keeps_now.each y ∙ ap (option_map (now_by now y)) old_found ∙ ap (λ o. Some (unwrap_or o old)) found) ∙ sym (ap flattened found)

  now_is : (y : ℕ) → value_in new.now y ≡ value_in now y
  now_is y = elim (cases_lt y (length s.model.names)) [
    | inl lt ↦ now_within y lt
    | inr le ↦
        let left_wide = left_is.wide in let size = keeps_now.size in
        ap flattened (slice_get_past new.now y (omega (arith, le, left_wide, size))) ∙ sym (ap flattened (slice_get_past now y (omega (arith, le, wide))))
  ]

  module _ (x : ℕ) (valued : IsValued s x) where
    was : (old : Value) × (slice_get left.last x ≡ Some old)
    was = some_at left.last x (let lt = valued_within s x valued in let long = left_is.long in omega (arith, lt, long))

    kept_is : slice_get new.last x ≡ Some (unwrap_or (value_in now x) was.0)
    kept_is = keeps_last.each x ∙ ap (option_map (last_by now x)) was.1

    by_tick : (b : Bool) → name_ticks s T x n ≡ b → Some (unwrap_or (value_in now x) was.0) ≡ (if b then value_in now x else previous_value (name_ticks s A x) (A x) (start_of s x) n)
    by_tick true ticks =
        let (w, is, typed) = value_at valued.name.kind (name_ticks s T x n) (T x n) valued.valued ticks (here.names x valued.name valued.found) in
        let value_is : value_in now x ≡ Some w = sym (row_now A n (value_in now) x) ∙ is in
        ap (λ o. Some (unwrap_or o was.0)) value_is ∙ sym value_is
    by_tick false rests =
        let none : value_in now x ≡ None = sym (row_now A n (value_in now) x) ∙ rests_at valued.name.kind (name_ticks s T x n) (T x n) rests (here.names x valued.name valued.found) in
        ap (λ o. Some (unwrap_or o was.0)) none ∙ sym was.1 ∙ left_is.last x valued

    last_is : slice_get new.last x ≡ previous_value (name_ticks s T x) (T x) (start_of s x) (suc n)
    last_is = kept_is ∙ by_tick (name_ticks s T x n) refl ∙ sym (kept_next s A n (value_in now) x)

  pub left_next : IsLeftAt s T (suc n) new
  left_next = record {
    wide = keeps_now.size ∙ left_is.wide;
    long = keeps_last.size ∙ left_is.long;
    first = λ y none. absurd (omega (arith, none));
    now = λ y k later.
        let same : n ≡ k = omega (arith, later) in
        now_is y ∙ sym (row_now A n (value_in now) y) ∙ ap (T y) same;
    last = last_is;
  }

  pub stands_next : (pure waiting : List Entry) (noted : UnclockedReads) (always : List ClockNow) (numbers : List ℕ) (cells : List Cell) (ticked : List Bool) (places : List ℕ) (slots : List (Slot Piece))
      → HasEnded s A n (value_in now) pure waiting noted always numbers cells ticked places slots left → StandsBefore s T (suc n) pure waiting noted always numbers cells ticked places slots new
  stands_next pure waiting noted always numbers cells ticked places slots ended = record {
    settled = ended.settled;
    room = ended.room;
    told_room = ended.told_room;
    few = ended.few;
    slots_are = ended.slots_are;
    left_is = left_next;
    stand = ended.stand here;
  }
