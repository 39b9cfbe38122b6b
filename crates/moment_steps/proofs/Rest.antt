-- The base partitions of a moment, and the uses that wait for a clock.
use Rattle.std.proofs.Common.{◌≡◌, refl, ap, ◌∙◌, sym, subst, ℕ, zero, suc, ◌^◌, ◌<◌, ◌≤◌, Bool, true, false, List, [], ◌∷◌, ◌++◌, length, map, Option, Some, None, slice_get, unwrap_or, Contains, arith, ◌⊎◌, inl, inr}
use Rattle.std.proofs.Math.Path.{fun_ext}
use Rattle.std.proofs.lemmas.Bool.{cases_lt}
use Rattle.std.proofs.lemmas.Option.{none-some, same_Some, slice_get-map, slice_get_past}
use Rattle.std.specs.Prelude.{option_map}
use Rattle.sync_values.specs.declared.value.Value.{Value}
use Rattle.sync_values.specs.declared.value.Fail.{Fail}
use Rattle.flat_model.specs.declared.clock.Moment.{Moment}
use Rattle.flat_model.specs.declared.equation.Equation.{Equation}
use Rattle.flat_model.specs.declared.table.Left.{Left}
use Rattle.flat_model.specs.Values.{value_in, truth_in}
use Rattle.flat_model.specs.Assignment.{Assignment}
use Rattle.flat_model.specs.Faults.{EquationFails}
use Rattle.flat_model.specs.Given.{Row, with_row}
use Rattle.flat_model.specs.Meets.{MeetsAt}
use Rattle.flat_model.specs.Setting.{Setting, flattened, site_answer, class_of_name, class_of_equation, partition_of, class_ticks, ticks_in}
use Rattle.flat_model.specs.Uses.{Use}
use Rattle.flat_model.proofs.Sites.{class_ticks_by_site}
use Rattle.moment_theory.specs.Division.{joined}
use Rattle.moment_theory.specs.Free.{IsOrdered, IsReachedBy, AsksLast}
use Rattle.moment_theory.specs.Pieces.{AreBeside}
use Rattle.moment_theory.specs.Taken.{AreTaken}
use Rattle.moment_theory.proofs.Meeting.{IsValued}
use Rattle.moment_theory.proofs.Composed.{moved_use}
use Rattle.moment_theory.proofs.Members.{IsMember, contains_member}
use Rattle.moment_theory.proofs.NoSolution.{nothing_fails}
use Rattle.moment_theory.proofs.Pieces.{reached_twice}
use Rattle.moment_theory.proofs.Rows.{row_now, row_before}
use Rattle.moment_theory.proofs.Running.{IsReady, valued_names}
use Rattle.moment_theory.proofs.Settled.{model}
use Rattle.moment_theory.proofs.Taking.{unchanged}
use Rattle.first_failure.specs.declared.least.EquationFailing.{EquationFailing}
use Rattle.first_failure.specs.Turns.{FailsAmong, IsLeast}
use Rattle.moment_join.specs.Sites.{AnswerAlike}
use Rattle.moment_join.specs.Staged.{IsStaged}
use Rattle.moment_join.specs.Told.{earlier, earliest}
use Rattle.moment_join.proofs.Alike.{bare_end}
use Rattle.moment_join.proofs.GoesOn.{sites_alike}
use Rattle.moment_join.proofs.Joined.{all_taken, piece_alike}
use Rattle.fork_steps.specs.declared.slot.Slot.{Slot}
use Rattle.tree_step.specs.declared.cell.Cell.{Cell}
use Rattle.tree_step.specs.declared.cell.Standing.{Standing}
use Rattle.tree_step.specs.declared.frame.ClockNow.{ClockNow}
use Rattle.tree_step.specs.declared.taking.Entry.{Entry}
use Rattle.tree_step.specs.Cells.{cell_in}
use Rattle.tree_step.specs.Changed.{AreReadsOf, CanStartChanged}
use Rattle.tree_step.specs.Starts.{uses_of, IsAmong, StandsAs, AreSitesApart, IsStart}
use Rattle.tree_step.specs.Takes.{TakesUses, HasTaken}
use Rattle.side_theory.specs.Typed.{valued_at, valued_before}
use Rattle.partition_step.specs.Parts.{IsPartOf, StandsFor}
use Rattle.partition_step.specs.Steps.{Showing, GoesOnWith, CanStep}
use Rattle.partition_step.specs.Writing.{IsWritten}
use Rattle.partition_step.proofs.Lists.{lists_same, none_past, at_map, some_at}
use Rattle.moment_body.specs.declared.model.ClockedModel.{ClockedModel}
use Rattle.moment_body.specs.Stages.{Stages}
use Rattle.moment_body.specs.Stepping.{Values, Based, Ended, IsBetween, CanTakeRest, HasTakenRest, TakesRest}
use Rattle.moment_steps.specs.declared.piece.Piece.{Piece}
use Rattle.moment_steps.specs.declared.taking.UnclockedReads.{UnclockedReads}
use Rattle.moment_steps.specs.Gathered.{told_in, gathered_at}
use Rattle.moment_steps.specs.Settled.{own_uses, stages_in, IsSlotOf}
use Rattle.moment_steps.specs.Standing.{StandsBefore, HasEnded}
use Rattle.moment_steps.specs.Stepped.{HasCounted, HasRested, AreSteppedAt}
use Rattle.moment_steps.specs.Ticked.{row_ticks}
use Rattle.moment_steps.specs.Opening.{opened_by, standing, value_by}
use Rattle.moment_steps.proofs.Copied.{copied}
use Rattle.moment_steps.proofs.Parted.{SlotRow, slot_row, owns, owns_is, alone, told_at, no_more, beside}
use Rattle.moment_steps.proofs.Parts.{Based-on, showing, answer_flat, of, can_step}
use Rattle.moment_steps.proofs.Pure.{outside}
use Rattle.moment_steps.proofs.Rows.{reached_first, reached_second, member_front, member_back, row_typed, row_sound, row_clear, ordered_behind, same_site, same_ticks, site_not_waiting}
use Rattle.moment_steps.proofs.Starting.{valued_within, OpenCell, open_cell, starts, were_met, LastSeen, stands_as}

module _ (pure waiting : List Entry) (noted : UnclockedReads) (always : List ClockNow) (numbers : List ℕ) (cells : List Cell) (ticked : List Bool) (places : List ℕ) (slots : List (Slot Piece)) (left : Left)
    (model_now : ClockedModel) (at : Moment) (ticks : ℕ → Bool) (answers : List (Option Bool)) (now : Values) (told : List Bool) (tells : IsWritten (λ class old. ticks class) ticked told) where
  abbrev stages : Stages
  stages = stages_in pure waiting slots

  abbrev Before : Based
  Before = Based-on pure waiting noted always numbers cells ticked places slots left

  abbrev pub showing_now : Showing
  showing_now = showing pure waiting noted always numbers cells ticked places slots left model_now at (row_ticks told) answers now

  module _ (s : Setting) (uses : List Use) (A : Assignment) (n : ℕ) (between : IsBetween stages Before model_now at ticks answers now s uses A n) where
    abbrev base : Row
    base = value_in now

    -- the row tells the ticks of all classes
    row_is : (class : ℕ) → row_ticks told class ≡ class_ticks s (with_row A n base) (Some class) n
    row_is class =
        let room = between.based.told_room in elim (cases_lt class (length s.clocking.clocks)) [
          | inl lt ↦
              let (old, found) = some_at ticked class (omega (arith, lt, room)) in
              ap (λ o. unwrap_or o false) (tells.each class ∙ ap (option_map (λ old. ticks class)) found) ∙ between.ticks_are class
          | inr le ↦
              let size = tells.size in
              ap (λ o. unwrap_or o false) (slice_get_past told class (omega (arith, le, room, size)))
              ∙ sym (ap (ticks_in s (with_row A n base) n) (slice_get_past s.clocking.clocks class le))
        ]

    pub between_row : IsBetween stages Before model_now at (row_ticks told) answers now s uses A n
    between_row = record {
      moment = between.moment;
      model_is = between.model_is;
      wide = between.wide;
      inputs = between.inputs;
      are = between.are;
      taken = between.taken;
      based = between.based;
      answers_are = between.answers_are;
      ticks_are = row_is;
    }

  pub can_step_all : CanTakeRest stages Before model_now at ticks answers now → (i : ℕ) (slot : Slot Piece) → slice_get slots i ≡ Some slot → CanStep showing_now slot.piece.part
  can_step_all (s, uses, A, n, between) i slot found =
      can_step pure waiting noted always numbers cells ticked places slots left model_now at (row_ticks told) answers now s uses A n (between_row s uses A n between) i slot found

  module _ (new : List (Slot Piece)) (stepped : AreSteppedAt showing_now model_now.clocking.partitions slots new) (gathered : Values) (gathers : IsWritten (gathered_at model_now.clocking numbers places new) now gathered)
      (shown : List Cell) (opens : IsWritten (opened_by numbers left.last gathered (standing model_now.clocking (row_ticks told) answers)) cells shown) where
    module _ (s : Setting) (uses : List Use) (A : Assignment) (n : ℕ) (between : IsBetween stages Before model_now at ticks answers now s uses A n) where
      abbrev told_between : IsBetween stages Before model_now at (row_ticks told) answers now s uses A n
      told_between = between_row s uses A n between

      abbrev row : Row
      row = value_in gathered

      abbrev own_rows : ℕ → Row
      own_rows = owns pure waiting noted always numbers cells ticked places slots left model_now at (row_ticks told) answers now s uses A n told_between new stepped

      abbrev rows_alone : (i : ℕ) (piece : List Use) → slice_get stages.pieces i ≡ Some piece → AreTaken s A n piece (value_in now) (own_rows i)
      rows_alone = alone pure waiting noted always numbers cells ticked places slots left model_now at (row_ticks told) answers now s uses A n told_between new stepped

      abbrev rows_beside : AreBeside (value_in now) own_rows stages.pieces row
      rows_beside = beside pure waiting noted always numbers cells ticked places slots left model_now at (row_ticks told) answers now s uses A n told_between new stepped gathered gathers

      wide_row : length gathered ≡ length s.model.names
      wide_row = gathers.size ∙ between.wide

      ordered : IsOrdered s uses ((stages.pure ++ joined stages.pieces) ++ (stages.waiting ++ []))
      ordered = subst (λ us. IsOrdered s uses ((stages.pure ++ joined stages.pieces) ++ us)) (sym (bare_end stages.waiting))
          (ordered_behind s uses stages.pure stages.pieces stages.waiting between.moment.staged.are A n at between.moment.here between.inputs between.are (value_in now) between.taken own_rows rows_alone row rows_beside)

      opens_here : IsWritten (opened_by numbers left.last gathered (standing s.clocking (row_ticks told) answers)) cells shown
      opens_here = subst (λ k. IsWritten (opened_by numbers left.last gathered (standing k (row_ticks told) answers)) cells shown) between.model_is.clocking opens

      apart : AreSitesApart s (uses_of waiting) waiting
      apart entry class y among asks reads reached = site_not_waiting s uses stages.pure stages.pieces stages.waiting between.moment.staged.are between.moment.staged.reach class y reads reached

      lasts : (entry : Entry) (equation : Equation) (z : ℕ) → IsAmong entry waiting → slice_get s.model.equations entry.equation ≡ Some equation → AsksLast equation z → IsValued s z → LastSeen s A n row numbers shown z
      lasts entry equation z among found asks valued =
          let lt = valued_within s z valued in
          let o = open_cell s pure waiting noted always numbers between.based.settled left.last gathered (standing s.clocking (row_ticks told) answers) cells shown between.based.room opens_here z lt in
          let (last, last_found) = some_at left.last z (let long = between.based.left_is.long in omega (arith, lt, long)) in (
            o.cell,
            o.found,
            sym (between.based.left_is.last z valued) ∙ last_found ∙ ap Some (sym (ap (λ c. c.kept) o.is ∙ ap (λ v. unwrap_or v o.was.kept) last_found)),
            subst (λ how. StandsAs s (with_row A n row) n (class_of_name s z) how) (sym (ap (λ c. c.standing) o.is))
                (stands_as s A n (value_in now) row (row_ticks told) answers (row_is s uses A n between) (λ site. answer_flat (slice_get answers site) ∙ between.answers_are site)
                (same_site s uses stages.pure stages.pieces stages.waiting between.moment.staged.are A n at between.moment.here between.inputs between.are (value_in now) between.taken own_rows rows_alone row rows_beside between.moment.staged.reach)
                (same_ticks s uses stages.pure stages.pieces stages.waiting between.moment.staged.are A n at between.moment.here between.inputs between.are (value_in now) between.taken own_rows rows_alone row rows_beside between.moment.staged.reach)
                (class_of_name s z)),
          )

      rest_starts : IsStart s uses (stages.pure ++ joined stages.pieces) [] A n row (record { equations = s.model.equations; places = numbers; left = left; clocks = always }) waiting shown
      rest_starts = starts s uses (stages.pure ++ joined stages.pieces) [] waiting ordered A n (valued_before s A n between.moment.meets) pure waiting noted always numbers between.based.settled left gathered (standing s.clocking (row_ticks told) answers) cells shown between.based.room opens_here
          (row_typed s uses stages.pure stages.pieces stages.waiting between.moment.staged.are A n at between.moment.here between.inputs between.are (value_in now) between.taken own_rows rows_alone row rows_beside)
          (row_sound s uses stages.pure stages.pieces stages.waiting between.moment.staged.are A n at between.moment.here between.inputs between.are (value_in now) between.taken own_rows rows_alone row rows_beside)
          (row_clear s uses stages.pure stages.pieces stages.waiting between.moment.staged.are A n at between.moment.here between.inputs between.are (value_in now) between.taken own_rows rows_alone row rows_beside)
          between.based.settled.waiting_plain apart lasts

      pub rest_start : IsStart s uses (stages.pure ++ joined stages.pieces) [] A n row (record { equations = model_now.flat.equations; places = numbers; left = left; clocks = always }) waiting shown
      rest_start = subst (λ flat. IsStart s uses (stages.pure ++ joined stages.pieces) [] A n row (record { equations = flat.equations; places = numbers; left = left; clocks = always }) waiting shown) (sym between.model_is.flat) rest_starts

    pub can_take_rest : CanTakeRest stages Before model_now at ticks answers now → CanStartChanged (record { equations = model_now.flat.equations; places = numbers; left = left; clocks = always }) waiting noted.waiting shown
    can_take_rest (s, uses, A, n, between) = record {
      s = s;
      uses = uses;
      before = stages.pure ++ joined stages.pieces;
      after = [];
      S = A;
      m = n;
      base = value_in gathered;
      start = rest_start s uses A n between;
      unclocked = λ entry among. (between.based.settled.waiting_plain entry among).unclocked;
      reads_are = subst (λ flat. AreReadsOf flat.equations waiting noted.waiting) (sym between.model_is.flat) between.based.settled.waiting_reads;
      left_is = record { first = between.based.left_is.first; later = between.based.left_is.now };
      were_met = were_met s A n waiting between.moment.meets (λ entry among. (between.based.settled.waiting_plain entry among).unclocked);
    }

    module _ (taken : List Cell) (behind : Option EquationFailing) (takes : TakesUses (record { equations = model_now.flat.equations; places = numbers; left = left; clocks = always }) waiting shown taken behind) (size : length taken ≡ length shown)
        (last : Values) (copies : IsWritten (value_by taken) gathered last) (final : List Cell) (final_long : length final ≡ length taken) (told_final : List Bool) (told_long : length told_final ≡ length told)
        (result : Option EquationFailing) (result_is : result ≡ earliest (behind ∷ map told_in new)) where
      abbrev pub Leaves : Ended
      Leaves s A n base end = HasEnded s A n end pure waiting noted always numbers final told_final places new left

      module _ (s : Setting) (uses : List Use) (A : Assignment) (n : ℕ) (between : IsBetween stages Before model_now at ticks answers now s uses A n) where
        abbrev t : IsBetween stages Before model_now at (row_ticks told) answers now s uses A n
        t = between_row s uses A n between

        abbrev from : Row
        from = value_in now

        abbrev mid : Row
        mid = value_in gathered

        abbrev end : Row
        end = value_in last

        abbrev ows : ℕ → Row
        ows = owns pure waiting noted always numbers cells ticked places slots left model_now at (row_ticks told) answers now s uses A n t new stepped

        has : HasTaken s uses A n mid (record { equations = model_now.flat.equations; places = numbers; left = left; clocks = always }) waiting shown taken behind
        has = takes s uses (stages.pure ++ joined stages.pieces) [] A n mid (rest_start s uses A n between)

        opens_here' : IsWritten (opened_by numbers left.last gathered (standing s.clocking (row_ticks told) answers)) cells shown
        opens_here' = subst (λ k. IsWritten (opened_by numbers left.last gathered (standing k (row_ticks told) answers)) cells shown) between.model_is.clocking opens

        open_there : (x : ℕ) → x < length s.model.names → (cell : Cell) × (cell_in numbers shown x ≡ Some cell)
        open_there x lt = let o = open_cell s pure waiting noted always numbers between.based.settled left.last gathered (standing s.clocking (row_ticks told) answers) cells shown between.based.room opens_here' x lt in (o.cell, o.found)

        own_is : has.own ≡ end
        own_is = fun_ext (copied s pure waiting noted always numbers between.based.settled shown taken open_there has.kept gathered last (gathers.size ∙ between.wide) copies has.own has.holds
            (outside s uses (stages.pure ++ joined stages.pieces) stages.waiting [] (rest_start s uses A n between).ordered A n gathered has.own (gathers.size ∙ between.wide) has.taken))

        waited : AreTaken s A n stages.waiting mid end
        waited = subst (λ r. AreTaken s A n stages.waiting mid r) own_is has.taken

        staged : IsStaged s A n stages.pure stages.pieces stages.waiting between.inputs from ows mid end
        staged = record {
          are = between.are;
          first = between.taken;
          alone = alone pure waiting noted always numbers cells ticked places slots left model_now at (row_ticks told) answers now s uses A n t new stepped;
          beside = beside pure waiting noted always numbers cells ticked places slots left model_now at (row_ticks told) answers now s uses A n t new stepped gathered gathers;
          behind = waited;
        }

        alike : AnswerAlike s A n from end
        alike = sites_alike s uses stages.pure stages.pieces stages.waiting between.moment.staged.are between.moment.staged.reach A n between.inputs from ows mid end staged

        abbrev order : List Use
        order = stages.pure ++ (joined stages.pieces ++ stages.waiting)

        ready : IsReady s order
        ready = model s uses order between.moment.staged.are.ordered

        abbrev T : Assignment
        T = with_row A n end

        ticks_end : (class : Option ℕ) → class_ticks s (with_row A n from) class n ≡ class_ticks s T class n
        ticks_end class = class_ticks_by_site s (with_row A n from) T class n (λ x k lt. row_before A n from x k lt ∙ sym (row_before A n end x k lt)) (λ site factor shift e. alike.answers site)

        module _ (i : ℕ) (slot : Slot Piece) (found : slice_get new i ≡ Some slot) where
          abbrev of_slot : SlotRow pure waiting noted always numbers cells ticked places slots left model_now at (row_ticks told) answers now s uses A n t new stepped i slot
          of_slot = slot_row pure waiting noted always numbers cells ticked places slots left model_now at (row_ticks told) answers now s uses A n t new stepped i slot found

          row_of_slot : of_slot.row ≡ ows i
          row_of_slot = owns_is pure waiting noted always numbers cells ticked places slots left model_now at (row_ticks told) answers now s uses A n t new stepped i slot found

          slot_is : IsSlotOf s places i slot
          slot_is = record {
            part_of = subst (λ us. IsPartOf s us places slot.piece.part) (sym of_slot.same) of_slot.part_of;
            partition = λ entry own. of pure waiting noted always numbers cells ticked places slots left model_now at (row_ticks told) answers now s uses A n t i of_slot.own of_slot.piece entry (subst (λ us. Contains us entry) of_slot.same own);
          }

          -- where the last row meets the model, no equation of the piece failed
          module _ (meets : MeetsAt s T n) where
            fails_nowhere : (j : ℕ) (kind : Fail) → FailsAmong s uses A n of_slot.own of_slot.row j kind → ⊥
            fails_nowhere j kind (entry, own, is, fails) =
                let over : EquationFails s (with_row A n (ows i)) uses n entry.equation kind =
                subst (λ r. EquationFails s (with_row A n r) uses n entry.equation kind) row_of_slot (subst (λ k. EquationFails s (with_row A n of_slot.row) uses n k kind) (sym is) fails) in
                let there = (piece_alike s uses stages.pure stages.pieces stages.waiting between.moment.staged.are A n between.inputs from ows mid end staged i of_slot.own of_slot.piece entry own).0.fails kind over in
                let all : EquationFails s T order n entry.equation kind = moved_use s T uses order n entry.equation kind (λ e used. between.moment.staged.are.ordered.same.all e used) there in
                nothing_fails s ready.unclocked ready.inputs A n order ready.order (valued_names s order ready.whole) between.inputs between.are end
                (all_taken s uses stages.pure stages.pieces stages.waiting between.moment.staged.are A n between.inputs from ows mid end staged) T (λ x k lt. sym (row_before A n end x k lt)) meets (inr (entry.equation, kind, all))

            none_by : (o : Option EquationFailing) → IsLeast (FailsAmong s uses A n of_slot.own of_slot.row) o → o ≡ None
            none_by None least = refl
            none_by (Some failing) least = absurd (fails_nowhere failing.equation failing.kind least.0)

            values_end : (x : ℕ) → IsReachedBy x of_slot.own → T x n ≡ of_slot.row x
            values_end x reached =
                let in_pieces : IsReachedBy x (joined stages.pieces) = reached_in stages.pieces i of_slot.own of_slot.piece x reached in
                let kept : end x ≡ mid x = unchanged s ready.unclocked A n stages.waiting mid end waited x
                (λ later. reached_twice s (stages.pure ++ joined stages.pieces) (stages.waiting ++ []) (rest_start s uses A n between).ordered.free x (reached_second stages.pure (joined stages.pieces) x in_pieces) (reached_first stages.waiting [] x later)) in
                row_now A n end x ∙ kept ∙ staged.beside.own i of_slot.own x of_slot.piece reached ∙ ap (λ r. r x) (sym row_of_slot)
              where
                reached_in : (ps : List (List Use)) (j : ℕ) (piece : List Use) → slice_get ps j ≡ Some piece → (y : ℕ) → IsReachedBy y piece → IsReachedBy y (joined ps)
                reached_in [] j piece at_j y h = absurd (none-some piece at_j)
                reached_in (p ∷ ps) zero piece at_j y h = reached_first p (joined ps) y (subst (IsReachedBy y) (sym (same_Some p piece at_j)) h)
                reached_in (p ∷ ps) (suc j) piece at_j y h = reached_second p (joined ps) y (reached_in ps j piece at_j y h)

            goes_on : GoesOnWith s of_slot.own A n of_slot.row showing_now T
            goes_on = record {
              agrees = λ x k lt. sym (row_before A n end x k lt);
              meets = valued_at s T n meets;
              values = values_end;
              ticks = λ class. t.ticks_are class ∙ ticks_end (Some class);
            }

            stands_next : StandsFor s T (suc n) slot.piece.part
            stands_next = of_slot.goes_on (none_by (told_in slot) of_slot.told) T goes_on

        ended : HasEnded s A n end pure waiting noted always numbers final told_final places new left
        ended = record {
          settled = between.based.settled;
          room = final_long ∙ size ∙ opens.size ∙ between.based.room;
          told_room = told_long ∙ tells.size ∙ between.based.told_room;
          few = between.based.few;
          slots_are = slot_is;
          left_is = between.based.left_is;
          stand = λ meets i slot found. stands_next i slot found meets;
        }

        taken_rest : HasTakenRest stages Leaves now last result s uses A n
        taken_rest = record {
          owns = ows;
          row = mid;
          each = map told_in new;
          behind = behind;
          alone = staged.alone;
          beside = staged.beside;
          waited = waited;
          each_told = told_at pure waiting noted always numbers cells ticked places slots left model_now at (row_ticks told) answers now s uses A n t new stepped;
          no_more = no_more pure waiting noted always numbers cells ticked places slots left model_now at (row_ticks told) answers now s uses A n t new stepped;
          behind_told = subst (λ r. IsLeast (FailsAmong s uses A n stages.waiting r) behind) own_is has.told;
          told_is = result_is;
          ended = ended;
        }

      pub takes_rest : TakesRest stages Before model_now at ticks answers now Leaves last result
      takes_rest s uses A n between = taken_rest s uses A n between

-- there are few classes
pub may_tell : (pure waiting : List Entry) (noted : UnclockedReads) (always : List ClockNow) (numbers : List ℕ) (cells : List Cell) (ticked : List Bool) (places : List ℕ) (slots : List (Slot Piece)) (left : Left)
    (model_now : ClockedModel) (at : Moment) (ticks : ℕ → Bool) (answers : List (Option Bool)) (now : Values)
    → CanTakeRest (stages_in pure waiting slots) (Based-on pure waiting noted always numbers cells ticked places slots left) model_now at ticks answers now → length ticked < 2 ^ 32
may_tell pure waiting noted always numbers cells ticked places slots left model_now at ticks answers now (s, uses, A, n, between) =
    let few = between.based.few in let room = between.based.told_room in omega (arith, few, room)

-- the stages stay where each slot was stepped or rests
pub same_stages : (showing : Showing) (partitions : List ℕ) (pure waiting : List Entry) (slots new : List (Slot Piece)) → AreSteppedAt showing partitions slots new → stages_in pure waiting new ≡ stages_in pure waiting slots
same_stages showing partitions pure waiting slots new stepped = ap (λ ps. record { pure = uses_of pure; pieces = ps; waiting = uses_of waiting }) (lists_same (map own_uses new) (map own_uses slots) (λ i. at_place i (slice_get new i) refl))
  where
    past : (i : ℕ) → slice_get new i ≡ None → slice_get slots i ≡ None
    past i none = slice_get_past slots i (let le = none_past new i none in let long = stepped.long in omega (arith, le, long))

    at_place : (i : ℕ) (o : Option (Slot Piece)) → slice_get new i ≡ o → slice_get (map own_uses new) i ≡ slice_get (map own_uses slots) i
    at_place i None none = slice_get-map own_uses new i ∙ ap (option_map own_uses) none ∙ sym (slice_get-map own_uses slots i ∙ ap (option_map own_uses) (past i none))
    at_place i (Some slot) found =
        let (was, was_found, is) = stepped.each i slot found in
        at_map own_uses new i slot found ∙ ap Some (elim is [
          | inl c ↦ c.stepped.same
          | inr r ↦ ap (λ p. uses_of p.part.entries) r.same
        ]) ∙ sym (at_map own_uses slots i was was_found)
