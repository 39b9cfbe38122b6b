-- What the base partitions of a moment leave.
use Rattle.std.proofs.Common.{◌≡◌, refl, ap, ◌∙◌, sym, subst, ℕ, zero, suc, ◌<◌, ◌≤◌, Bool, true, false, List, [], ◌∷◌, ◌++◌, length, map, Option, Some, None, slice_get, Contains, arith, ◌⊎◌, inl, inr}
use Rattle.std.proofs.Math.Path.{fun_ext}
use Rattle.std.proofs.lemmas.Bool.{false≢true, cases_lt}
use Rattle.std.proofs.lemmas.Option.{none-some, same_Some, slice_get_within, slice_get_past}
use Rattle.std.specs.Prelude.{if◌then◌else◌, option_map}
use Rattle.sync_values.specs.declared.value.Value.{Value}
use Rattle.sync_values.specs.declared.value.Fail.{Fail}
use Rattle.flat_model.specs.declared.clock.Moment.{Moment}
use Rattle.flat_model.specs.declared.table.Left.{Left}
use Rattle.flat_model.specs.Values.{value_in}
use Rattle.flat_model.specs.Assignment.{Assignment}
use Rattle.flat_model.specs.Faults.{EquationFails}
use Rattle.flat_model.specs.Given.{Row, with_row}
use Rattle.flat_model.specs.Meets.{MeetsAt}
use Rattle.flat_model.specs.Setting.{Setting, flattened, class_of_name, class_of_equation, partition_of, class_ticks}
use Rattle.flat_model.specs.Uses.{Use}
use Rattle.moment_theory.specs.Division.{joined}
use Rattle.moment_theory.specs.Free.{IsReachedBy}
use Rattle.moment_theory.specs.Going.{AgreeBefore}
use Rattle.moment_theory.specs.Pieces.{AreTakenAlone, AreBeside}
use Rattle.moment_theory.specs.Taken.{Gives, AreTaken}
use Rattle.moment_theory.proofs.Facts.{facts_of_use, class_of_use}
use Rattle.moment_theory.proofs.FromRunnable.{facts_of}
use Rattle.moment_theory.proofs.Members.{IsMember, contains_member, member_contains, member_reached}
use Rattle.moment_theory.proofs.Settled.{model}
use Rattle.moment_theory.proofs.Taking.{unchanged}
use Rattle.first_failure.specs.declared.least.EquationFailing.{EquationFailing}
use Rattle.first_failure.specs.Turns.{FailsAmong, IsLeast}
use Rattle.moment_join.proofs.Fronts.{reached_or}
use Rattle.fork_steps.specs.declared.slot.Slot.{Slot}
use Rattle.tree_step.specs.declared.cell.Cell.{Cell}
use Rattle.tree_step.specs.declared.frame.ClockNow.{ClockNow}
use Rattle.tree_step.specs.declared.taking.Entry.{Entry}
use Rattle.tree_step.specs.Cells.{cell_in}
use Rattle.tree_step.specs.Frames.{now_in}
use Rattle.tree_step.specs.Starts.{uses_of}
use Rattle.partition_step.specs.declared.part.ClassKept.{ClassKept}
use Rattle.partition_step.specs.declared.part.Outcome.{Outcome}
use Rattle.partition_step.specs.declared.part.Outcome.TheVariants.{Stepped, Failed}
use Rattle.partition_step.specs.Parts.{IsPartOf, StandsFor}
use Rattle.partition_step.specs.Steps.{Showing, GoesOnWith, HasStepped, failing_in}
use Rattle.partition_step.specs.Writing.{IsWritten}
use Rattle.partition_step.proofs.Lists.{map_at, at_map, some_at}
use Rattle.partition_step.proofs.Placing.{there, at_among, own_reached, entry_of_cell}
use Rattle.partition_step.proofs.Resting.{rests}
use Rattle.moment_body.specs.declared.model.ClockedModel.{ClockedModel}
use Rattle.moment_body.specs.Stages.{Stages}
use Rattle.moment_body.specs.Stepping.{Values, IsBetween}
use Rattle.moment_steps.specs.declared.piece.Piece.{Piece}
use Rattle.moment_steps.specs.declared.taking.UnclockedReads.{UnclockedReads}
use Rattle.moment_steps.specs.Gathered.{told_in, partition_by, partition_in, value_from, value_of_slot, gathered, gathered_at}
use Rattle.moment_steps.specs.Settled.{own_uses, stages_in, IsSlotOf}
use Rattle.moment_steps.specs.Stepped.{IsPieceStepped, HasRested, HasCounted, AreSteppedAt}
use Rattle.moment_steps.proofs.Parts.{Based-on, showing, of, waits, own, piece_found, ahead, after, step_start}
use Rattle.moment_steps.proofs.Rows.{reached_first, reached_second, base_clocked, piece_clear}
use Rattle.moment_steps.proofs.Starting.{valued_within}

-- where no use gives, nothing changes
pub rests_taken : (s : Setting) (S : Assignment) (m : ℕ) (base : Row) (us : List Use) → ((entry : Use) → IsMember entry us → (v : Value) → Gives s S m base entry v → ⊥) → AreTaken s S m us base base
rests_taken s S m base [] never = λ y. refl
rests_taken s S m base (entry ∷ us) never = (base, inr (never entry (inl refl), λ y. refl), rests_taken s S m base us (λ other member. never other (inr member)))

-- the partition of a name's class
partition_is : (s : Setting) (o : Option ℕ) → partition_by s.clocking.partitions o ≡ partition_of s o
partition_is s None = refl
partition_is s (Some class) = refl

pub class_in_partition : (s : Setting) (o : Option ℕ) (i : ℕ) → partition_of s o ≡ Some i → (class : ℕ) × (o ≡ Some class) × (slice_get s.clocking.partitions class ≡ Some i)
class_in_partition s None i is = absurd (none-some i is)
class_in_partition s (Some class) i is = (class, refl, is)

pub if_told : (b : Bool) (told : Option EquationFailing) → b ≡ true → (if b then told else None) ≡ told
if_told true told is = refl
if_told false told is = absurd (false≢true is)

pub if_none : {A : Type 0} (b : Bool) (a : Option A) → b ≡ false → (if b then a else None) ≡ None
if_none true a is = absurd (false≢true (sym is))
if_none false a is = refl

pub if_value : (b : Bool) (a : Option Value) → b ≡ true → (if b then a else None) ≡ a
if_value true a is = refl
if_value false a is = absurd (false≢true is)

pub outcome_is : (result : Outcome) → failing_in result ≡ None → result ≡ Stepped
outcome_is Stepped none = refl
outcome_is (Failed failing) none = absurd (none-some failing (sym none))

module _ (pure waiting : List Entry) (noted : UnclockedReads) (always : List ClockNow) (numbers : List ℕ) (cells : List Cell) (ticked : List Bool) (places : List ℕ) (slots : List (Slot Piece)) (left : Left)
    (model_now : ClockedModel) (at : Moment) (ticks : ℕ → Bool) (answers : List (Option Bool)) (now : Values)
    (s : Setting) (uses : List Use) (A : Assignment) (n : ℕ) (between : IsBetween (stages_in pure waiting slots) (Based-on pure waiting noted always numbers cells ticked places slots left) model_now at ticks answers now s uses A n)
    (new : List (Slot Piece)) (stepped : AreSteppedAt (showing pure waiting noted always numbers cells ticked places slots left model_now at ticks answers now) model_now.clocking.partitions slots new) where
  abbrev stages : Stages
  stages = stages_in pure waiting slots

  abbrev told_now : Showing
  told_now = showing pure waiting noted always numbers cells ticked places slots left model_now at ticks answers now

  abbrev base : Row
  base = value_in now

  -- what comes of one slot
  pub record SlotRow (i : ℕ) (slot : Slot Piece) : Type 0 where
    pub own : List Use
    pub piece : slice_get stages.pieces i ≡ Some own
    pub same : own_uses slot ≡ own
    pub row : Row
    pub taken : AreTaken s A n own base row
    pub holds : (x : ℕ) → IsReachedBy x own → value_from places x slot ≡ row x
    pub told : IsLeast (FailsAmong s uses A n own row) (told_in slot)
    pub part_of : IsPartOf s own places slot.piece.part
    pub goes_on : told_in slot ≡ None → (T : Assignment) → GoesOnWith s own A n row told_now T → StandsFor s T (suc n) slot.piece.part

  module _ (i : ℕ) (was slot : Slot Piece) (was_found : slice_get slots i ≡ Some was) where
    counted : HasCounted told_now was slot → SlotRow i slot
    counted c =
        let start = step_start pure waiting noted always numbers cells ticked places slots left model_now at ticks answers now s uses A n between i was was_found in
        let done : HasStepped s uses (own_uses was) A n base told_now slot.piece.part c.stepped.result =
        c.stepped.steps s uses
        (ahead pure waiting noted always numbers cells ticked places slots left model_now at ticks answers now s uses A n between i was was_found) (own_uses was)
        (after pure waiting noted always numbers cells ticked places slots left model_now at ticks answers now s uses A n between i was was_found) i A n base start in record {
          own = own_uses was;
          piece = at_map own_uses slots i was was_found;
          same = c.stepped.same;
          row = done.row;
          taken = done.taken;
          holds = λ x reached. if_value slot.counts (now_in (cell_in places slot.piece.part.cells.items x)) c.counts ∙ done.holds x reached;
          told = subst (IsLeast (FailsAmong s uses A n (own_uses was) done.row)) (sym (if_told slot.counts slot.piece.told c.counts ∙ c.stepped.told)) done.told;
          part_of = done.part_of;
          goes_on = λ none T on. done.keeps (outcome_is c.stepped.result (sym (if_told slot.counts slot.piece.told c.counts ∙ c.stepped.told) ∙ none)) T on;
        }

    module _ (r : HasRested told_now model_now.clocking.partitions i was slot) where
      slot_of : IsSlotOf s places i was
      slot_of = between.based.slots_are i was was_found

      -- no class of the partition ticks
      rests_class : (class : ℕ) → slice_get s.clocking.partitions class ≡ Some i → class_ticks s (with_row A n base) (Some class) n ≡ false
      rests_class class own = sym (between.ticks_are class) ∙ r.rests class (ap (λ k. slice_get k.partitions class) between.model_is.clocking ∙ own)

      rests_use : (entry : Use) → Contains (own_uses was) entry → class_ticks s (with_row A n base) (class_of_equation s entry.equation) n ≡ false
      rests_use entry has =
          let (class, is, own) = class_in_partition s (class_of_equation s entry.equation) i (slot_of.partition entry has) in
          ap (λ o. class_ticks s (with_row A n base) o n) is ∙ rests_class class own

      never_gives : (entry : Use) → IsMember entry (own_uses was) → (v : Value) → Gives s A n base entry v → ⊥
      never_gives entry member v gives = false≢true (sym (rests_use entry (member_contains entry (own_uses was) member)) ∙ gives.can.ticks.1)

      never_fails : IsLeast (FailsAmong s uses A n (own_uses was) base) None
      never_fails j kind (entry, has, is, fails) =
          false≢true (sym (rests_use entry has) ∙ ap (λ k. class_ticks s (with_row A n base) (class_of_equation s k) n) (is ∙ sym fails.equation_is) ∙ fails.counts.ticks.1)

      clear : (x : ℕ) → IsReachedBy x (own_uses was) → base x ≡ None
      clear = piece_clear s uses stages.pure stages.pieces stages.waiting between.moment.staged.are A n at between.moment.here between.inputs between.are base between.taken i (own_uses was) (at_map own_uses slots i was was_found)

      rested : SlotRow i slot
      rested = record {
        own = own_uses was;
        piece = at_map own_uses slots i was was_found;
        same = ap (λ p. uses_of p.part.entries) r.same;
        row = base;
        taken = rests_taken s A n base (own_uses was) never_gives;
        holds = λ x reached. if_none slot.counts (now_in (cell_in places slot.piece.part.cells.items x)) r.counts ∙ sym (clear x reached);
        told = subst (IsLeast (FailsAmong s uses A n (own_uses was) base)) (sym (if_none slot.counts slot.piece.told r.counts)) never_fails;
        part_of = subst (λ p. IsPartOf s (own_uses was) places p.part) (sym r.same) slot_of.part_of;
        goes_on = λ none T on. subst (λ p. StandsFor s T (suc n) p.part) (sym r.same)
            (rests s (own_uses was) places was.piece.part slot_of.part_of A T n (between.based.stand i was was_found) on.agrees (λ j kept kept_found.
            let (entry, has, class) = slot_of.part_of.laid.from_use j kept.class (at_map (λ k. k.class) was.piece.part.classes.items j kept kept_found) in
            let own : slice_get s.clocking.partitions kept.class ≡ Some i = sym (ap (partition_of s) class) ∙ slot_of.partition entry has in
            sym (on.ticks kept.class) ∙ r.rests kept.class (ap (λ k. slice_get k.partitions kept.class) between.model_is.clocking ∙ own)));
      }

  pub slot_row : (i : ℕ) (slot : Slot Piece) → slice_get new i ≡ Some slot → SlotRow i slot
  slot_row i slot found =
      let (was, was_found, is) = stepped.each i slot found in elim is [
        | inl c ↦ counted i was slot was_found c
        | inr r ↦ rested i was slot was_found r
      ]

  -- the row of each piece, by what its slot has
  abbrev pub value_or : (slot : Slot Piece) (x : ℕ) → IsReachedBy x (own_uses slot) ⊎ (IsReachedBy x (own_uses slot) → ⊥) → Option Value
  value_or slot x (inl reached) = value_from places x slot
  value_or slot x (inr none) = base x

  abbrev pub row_at : Option (Slot Piece) → Row
  row_at None x = base x
  row_at (Some slot) x = value_or slot x (reached_or (own_uses slot) x)

  abbrev pub owns : ℕ → Row
  owns i = row_at (slice_get new i)

  module _ (i : ℕ) (slot : Slot Piece) (found : slice_get new i ≡ Some slot) where
    abbrev is : SlotRow i slot
    is = slot_row i slot found

    same_value : (x : ℕ) (d : IsReachedBy x (own_uses slot) ⊎ (IsReachedBy x (own_uses slot) → ⊥)) → value_or slot x d ≡ is.row x
    same_value x (inl reached) = is.holds x (subst (IsReachedBy x) is.same reached)
    same_value x (inr none) = sym (unchanged s (model s uses (stages.pure ++ (joined stages.pieces ++ stages.waiting)) between.moment.staged.are.ordered).unclocked A n is.own base is.row is.taken x
        (λ reached. none (subst (IsReachedBy x) (sym is.same) reached)))

    pub owns_is : is.row ≡ owns i
    owns_is = fun_ext (λ x. sym (ap (λ o. row_at o x) found ∙ same_value x (reached_or (own_uses slot) x)))

  -- the slot of a piece
  pub slot_of_piece : (i : ℕ) (piece : List Use) → slice_get stages.pieces i ≡ Some piece → (slot : Slot Piece) × (slice_get new i ≡ Some slot)
  slot_of_piece i piece found =
      let (was, was_found, is) = map_at own_uses slots i piece found in
      let within = slice_get_within slots i was was_found in
      let long = stepped.long in
      some_at new i (omega (arith, within, long))

  module _ (i : ℕ) (piece : List Use) (found : slice_get stages.pieces i ≡ Some piece) where
    abbrev its : (slot : Slot Piece) × (slice_get new i ≡ Some slot)
    its = slot_of_piece i piece found

    abbrev its_row : SlotRow i its.0
    its_row = slot_row i its.0 its.1

    own_piece : its_row.own ≡ piece
    own_piece = same_Some its_row.own piece (sym its_row.piece ∙ found)

    pub alone_at : AreTaken s A n piece base (owns i)
    alone_at = subst (λ r. AreTaken s A n piece base r) (owns_is i its.0 its.1) (subst (λ p. AreTaken s A n p base its_row.row) own_piece its_row.taken)

    pub told_at : (told : Option EquationFailing) × (slice_get (map told_in new) i ≡ Some told) × IsLeast (FailsAmong s uses A n piece (owns i)) told
    told_at = (
      told_in its.0,
      at_map told_in new i its.0 its.1,
      subst (λ r. IsLeast (FailsAmong s uses A n piece r) (told_in its.0)) (owns_is i its.0 its.1) (subst (λ p. IsLeast (FailsAmong s uses A n p its_row.row) (told_in its.0)) own_piece its_row.told),
    )

    pub owns_value : (y : ℕ) → IsReachedBy y piece → value_from places y its.0 ≡ owns i y
    owns_value y reached = its_row.holds y (subst (IsReachedBy y) (sym own_piece) reached) ∙ ap (λ r. r y) (owns_is i its.0 its.1)

  pub alone : AreTakenAlone s A n base owns stages.pieces
  alone i piece found = alone_at i piece found

  pub no_more : (i : ℕ) (told : Option EquationFailing) → slice_get (map told_in new) i ≡ Some told → (piece : List Use) × (slice_get stages.pieces i ≡ Some piece)
  no_more i told found =
      let (slot, slot_found, is) = map_at told_in new i told found in
      let row = slot_row i slot slot_found in
      (row.own, row.piece)

  -- ---- what is gathered

  module _ (after_now : Values) (gathers : IsWritten (gathered_at model_now.clocking numbers places new) now after_now) where
    partition_at : (y : ℕ) → partition_in model_now.clocking y ≡ partition_of s (class_of_name s y)
    partition_at y = ap (λ k. partition_in k y) between.model_is.clocking ∙ partition_is s (class_of_name s y)

    value_at : (y : ℕ) → y < length s.model.names → (there_value : Option Value) × (value_in now y ≡ there_value) × (value_in after_now y ≡ gathered new places (partition_of s (class_of_name s y)) (Some y) there_value)
    value_at y lt =
        let wide = between.wide in
        let (value, found) = some_at now y (omega (arith, lt, wide)) in (
          value,
          ap flattened found,
          ap flattened (gathers.each y ∙ ap (option_map (gathered_at model_now.clocking numbers places new y)) found)
              ∙ ap (λ o. gathered new places o (slice_get numbers y) value) (partition_at y)
              ∙ ap (λ o. gathered new places (partition_of s (class_of_name s y)) o value) (between.based.settled.numbered y lt),
        )

    -- the partition of what a piece reaches
    module _ (i : ℕ) (piece : List Use) (found : slice_get stages.pieces i ≡ Some piece) (y : ℕ) (reached : IsReachedBy y piece) where
      abbrev whole_order : List Use
      whole_order = stages.pure ++ (joined stages.pieces ++ stages.waiting)

      in_whole : IsReachedBy y whole_order
      in_whole = reached_second stages.pure (joined stages.pieces ++ stages.waiting) y (reached_first (joined stages.pieces) stages.waiting y (reached_piece_in stages.pieces i piece found y reached))
        where
          reached_piece_in : (ps : List (List Use)) (i : ℕ) (piece : List Use) → slice_get ps i ≡ Some piece → (y : ℕ) → IsReachedBy y piece → IsReachedBy y (joined ps)
          reached_piece_in [] i piece found y reached = absurd (none-some piece found)
          reached_piece_in (p ∷ ps) zero piece found y reached = reached_first p (joined ps) y (subst (IsReachedBy y) (sym (same_Some p piece found)) reached)
          reached_piece_in (p ∷ ps) (suc i) piece found y reached = reached_second p (joined ps) y (reached_piece_in ps i piece found y reached)

      own_within : y < length s.model.names
      own_within = valued_within s y ((model s uses whole_order between.moment.staged.are.ordered).whole.valued y in_whole)

      own_partition : partition_of s (class_of_name s y) ≡ Some i
      own_partition =
          let (entry, member, name) = member_reached piece y reached in
          let has = member_contains entry piece member in
          let used : Contains uses entry = between.moment.staged.are.ordered.same.only entry (member_contains entry whole_order (piece_member entry member)) in
          let class = class_of_use s (facts_of s between.moment.staged.are.ordered.runs) entry (facts_of_use s uses between.moment.staged.are.ordered.uses_are.uses_are entry used) in
          ap (λ z. partition_of s (class_of_name s z)) name ∙ ap (partition_of s) class
          ∙ of pure waiting noted always numbers cells ticked places slots left model_now at ticks answers now s uses A n between i piece found entry has
        where
          back_member : (xs ys : List Use) (e : Use) → IsMember e ys → IsMember e (xs ++ ys)
          back_member [] ys e h = h
          back_member (x ∷ xs) ys e h = inr (back_member xs ys e h)

          front_member : (xs ys : List Use) (e : Use) → IsMember e xs → IsMember e (xs ++ ys)
          front_member [] ys e h = absurd h
          front_member (x ∷ xs) ys e (inl is) = inl is
          front_member (x ∷ xs) ys e (inr h) = inr (front_member xs ys e h)

          joined_member : (ps : List (List Use)) (j : ℕ) → slice_get ps j ≡ Some piece → (e : Use) → IsMember e piece → IsMember e (joined ps)
          joined_member [] j at_j e h = absurd (none-some piece at_j)
          joined_member (p ∷ ps) zero at_j e h = front_member p (joined ps) e (subst (IsMember e) (sym (same_Some p piece at_j)) h)
          joined_member (p ∷ ps) (suc j) at_j e h = back_member p (joined ps) e (joined_member ps j at_j e h)

          piece_member : (e : Use) → IsMember e piece → IsMember e whole_order
          piece_member e h = back_member stages.pure (joined stages.pieces ++ stages.waiting) e (front_member (joined stages.pieces) stages.waiting e (joined_member stages.pieces i found e h))

      pub gathered_own : value_in after_now y ≡ owns i y
      gathered_own =
          let (value, value_is, got) = value_at y own_within in
          got ∙ ap (λ o. gathered new places o (Some y) value) own_partition
          ∙ ap (value_of_slot places y) (slot_of_piece i piece found).1 ∙ owns_value i piece found y reached

    -- a name that a slot has a value of is one of its piece
    slot_none : (p : ℕ) (slot : Slot Piece) → slice_get new p ≡ Some slot → (y : ℕ) → (IsReachedBy y (joined stages.pieces) → ⊥) → value_from places y slot ≡ None
    slot_none p slot found y none = by_cell (cell_in places slot.piece.part.cells.items y) refl
      where
        row : SlotRow p slot
        row = slot_row p slot found

        not_own : IsReachedBy y row.own → ⊥
        not_own reached = none (reached_piece_in stages.pieces p row.own row.piece y reached)
          where
            reached_piece_in : (ps : List (List Use)) (i : ℕ) (piece : List Use) → slice_get ps i ≡ Some piece → (y : ℕ) → IsReachedBy y piece → IsReachedBy y (joined ps)
            reached_piece_in [] i piece found y reached = absurd (none-some piece found)
            reached_piece_in (q ∷ qs) zero piece found y reached = reached_first q (joined qs) y (subst (IsReachedBy y) (sym (same_Some q piece found)) reached)
            reached_piece_in (q ∷ qs) (suc i) piece found y reached = reached_second q (joined qs) y (reached_piece_in qs i piece found y reached)

        if_both : (b : Bool) (o : Option Value) → o ≡ None → (if b then o else None) ≡ None
        if_both true o is = is
        if_both false o is = refl

        by_cell : (o : Option Cell) → cell_in places slot.piece.part.cells.items y ≡ o → value_from places y slot ≡ None
        by_cell None is = if_both slot.counts (now_in (cell_in places slot.piece.part.cells.items y)) (ap now_in is)
        by_cell (Some cell) is =
            let part = slot.piece.part in
            let at_cell = there places part.cells.items y cell is in
            let (e, entry_found, named) = entry_of_cell s row.own places part.entries part.cells.items part.classes.items row.part_of.laid at_cell.place cell at_cell.found in
            let reached : IsReachedBy y row.own = subst (λ z. IsReachedBy z row.own) (sym named ∙ at_cell.named) (own_reached s row.own places part.entries part.cells.items part.classes.items row.part_of.laid e (at_among part.entries at_cell.place e entry_found)) in
            absurd (not_own reached)

    rest_value : (y : ℕ) → (IsReachedBy y (joined stages.pieces) → ⊥) → (value : Option Value) → value_in now y ≡ value → (o : Option ℕ) → partition_of s (class_of_name s y) ≡ o → gathered new places o (Some y) value ≡ value_in now y
    rest_value y none value value_is None is = sym value_is
    rest_value y none value value_is (Some p) is =
        let (class, clocked, own) = class_in_partition s (class_of_name s y) p is in
        by_slot (slice_get new p) refl ∙ sym (base_clocked s uses stages.pure stages.pieces stages.waiting between.moment.staged.are A n at between.moment.here between.inputs between.are base between.taken y class clocked)
      where
        by_slot : (o : Option (Slot Piece)) → slice_get new p ≡ o → value_of_slot places y (slice_get new p) ≡ None
        by_slot None found = ap (value_of_slot places y) found
        by_slot (Some slot) found = ap (value_of_slot places y) found ∙ slot_none p slot found y none

    gathered_rest : (y : ℕ) → (IsReachedBy y (joined stages.pieces) → ⊥) → value_in after_now y ≡ value_in now y
    gathered_rest y none = elim (cases_lt y (length s.model.names)) [
      | inl lt ↦ let (value, value_is, got) = value_at y lt in got ∙ rest_value y none value value_is (partition_of s (class_of_name s y)) refl
      | inr le ↦
          let wide = between.wide in let size = gathers.size in
          ap flattened (slice_get_past after_now y (omega (arith, le, wide, size))) ∙ sym (ap flattened (slice_get_past now y (omega (arith, le, wide))))
    ]

    pub beside : AreBeside base owns stages.pieces (value_in after_now)
    beside = record {
      own = λ i piece y found reached. gathered_own i piece found y reached;
      rest = λ y none. gathered_rest y none;
    }
