-- The base partitions of a moment.
use Rattle.std.proofs.Common.{◌≡◌, refl, ap, ◌∙◌, sym, subst, ℕ, suc, ◌<◌, ◌≤◌, Bool, true, false, List, [], ◌∷◌, ◌++◌, length, map, Option, Some, None, slice_get, unwrap_or, Contains, arith, ◌⊎◌, inl, inr}
use Rattle.std.proofs.Math.Path.{fun_ext}
use Rattle.std.proofs.lemmas.Bool.{false≢true}
use Rattle.std.proofs.lemmas.Option.{none-some, same_Some, slice_get_within}
use Rattle.std.specs.Prelude.{if◌then◌else◌}
use Rattle.sync_values.specs.declared.value.Value.{Value}
use Rattle.sync_values.specs.declared.value.Fail.{Fail}
use Rattle.flat_model.specs.declared.clock.Moment.{Moment}
use Rattle.flat_model.specs.declared.equation.Equation.{Equation}
use Rattle.flat_model.specs.declared.equation.Equation.TheVariants.{Valued, Clocks}
use Rattle.flat_model.specs.declared.expression.Expr.{Expr}
use Rattle.flat_model.specs.declared.table.Left.{Left}
use Rattle.flat_model.specs.Values.{value_in, truth_in}
use Rattle.flat_model.specs.Asks.{AsksFor, OfNow, OfLast}
use Rattle.flat_model.specs.Assignment.{Assignment}
use Rattle.flat_model.specs.Faults.{EquationFails}
use Rattle.flat_model.specs.Given.{Row, with_row}
use Rattle.flat_model.specs.Meets.{MeetsAt}
use Rattle.flat_model.specs.Setting.{Setting, flattened, class_of_equation, partition_of, site_answer, class_ticks}
use Rattle.flat_model.specs.Typing.{types_in}
use Rattle.flat_model.specs.Uses.{Use}
use Rattle.flat_model.specs.WholeTyping.{IsTyped}
use Rattle.moment_theory.specs.Division.{joined}
use Rattle.moment_theory.specs.Free.{IsReachedBy}
use Rattle.moment_theory.specs.Going.{AgreeBefore}
use Rattle.moment_theory.specs.Taken.{Gives, AreTaken}
use Rattle.moment_theory.proofs.FromRunnable.{all_at}
use Rattle.moment_theory.proofs.Members.{IsMember, contains_member, member_contains}
use Rattle.moment_theory.proofs.Named.{typed_names}
use Rattle.moment_theory.proofs.Settled.{model}
use Rattle.moment_theory.proofs.Taking.{unchanged}
use Rattle.first_failure.specs.declared.least.EquationFailing.{EquationFailing}
use Rattle.first_failure.specs.Turns.{FailsAmong, IsLeast}
use Rattle.moment_join.proofs.Fronts.{reached_or}
use Rattle.site_risings.specs.Risings.{answer_of}
use Rattle.fork_steps.specs.declared.slot.Slot.{Slot}
use Rattle.tree_step.specs.declared.cell.Cell.{Cell}
use Rattle.tree_step.specs.declared.frame.ClockNow.{ClockNow}
use Rattle.tree_step.specs.declared.taking.Entry.{Entry}
use Rattle.tree_step.specs.Cells.{cell_in}
use Rattle.tree_step.specs.Frames.{now_in}
use Rattle.tree_step.specs.Starts.{use_of, uses_of, IsAmong}
use Rattle.side_theory.specs.Typed.{valued_before}
use Rattle.partition_step.specs.declared.part.ClassKept.{ClassKept}
use Rattle.partition_step.specs.declared.part.Outcome.{Outcome}
use Rattle.partition_step.specs.declared.part.Outcome.TheVariants.{Stepped, Failed}
use Rattle.partition_step.specs.Parts.{IsPartOf, StandsFor}
use Rattle.partition_step.specs.Steps.{Showing, IsSampleShown, AreSamplesShown, IsShown, IsStepStart, GoesOnWith, HasStepped, StepsFrom, CanStep, failing_in}
use Rattle.partition_step.proofs.Lists.{map_at, at_map, some_at}
use Rattle.partition_step.proofs.Resting.{rests}
use Rattle.moment_body.specs.declared.model.ClockedModel.{ClockedModel}
use Rattle.moment_body.specs.Stages.{Stages}
use Rattle.moment_body.specs.Stepping.{Values, Based, IsBetween}
use Rattle.moment_steps.specs.declared.piece.Piece.{Piece}
use Rattle.moment_steps.specs.declared.taking.UnclockedReads.{UnclockedReads}
use Rattle.moment_steps.specs.Gathered.{told_in, value_from}
use Rattle.moment_steps.specs.Settled.{own_uses, stages_in, IsPlainEntry, IsSlotOf}
use Rattle.moment_steps.specs.Standing.{StandsBefore}
use Rattle.moment_steps.specs.Stepped.{IsPieceStepped, HasRested, HasCounted, AreSteppedAt}
use Rattle.moment_steps.proofs.Rows.{base_typed, base_sound, piece_clear, is_piece, front, back}
use Rattle.moment_steps.proofs.Starting.{valued_name}

-- a use of entries is that of one of them
entry_of_use : (entries : List Entry) (u : Use) → IsMember u (uses_of entries) → (e : Entry) × IsAmong e entries × (use_of e ≡ u)
entry_of_use [] u member = absurd member
entry_of_use (first ∷ rest) u (inl is) = (first, inl refl, is)
entry_of_use (first ∷ rest) u (inr member) = let (e, among, is) = entry_of_use rest u member in (e, inr among, is)

-- the answer that a table has is the one that is read
pub answer_flat : (o : Option (Option Bool)) → flattened o ≡ unwrap_or o None
answer_flat None = refl
answer_flat (Some o) = refl

module _ (pure waiting : List Entry) (noted : UnclockedReads) (always : List ClockNow) (numbers : List ℕ) (cells : List Cell) (ticked : List Bool) (places : List ℕ) (slots : List (Slot Piece)) (left : Left) where
  abbrev pub stages : Stages
  stages = stages_in pure waiting slots

  abbrev pub Based-on : Based
  Based-on s A n row = StandsBefore s A n pure waiting noted always numbers cells ticked places slots left

  module _ (model_now : ClockedModel) (at : Moment) (ticks : ℕ → Bool) (answers : List (Option Bool)) (now : Values) where
    abbrev pub showing : Showing
    showing = record { equations = model_now.flat.equations; places = places; moment = at; ticks = ticks; answers = answers; left = left }

    module _ (s : Setting) (uses : List Use) (A : Assignment) (n : ℕ) (between : IsBetween stages Based-on model_now at ticks answers now s uses A n) where
      abbrev pub base : Row
      base = value_in now

      pub of : (i : ℕ) (piece : List Use) → slice_get stages.pieces i ≡ Some piece → (entry : Use) → Contains piece entry → partition_of s (class_of_equation s entry.equation) ≡ Some i
      of i piece found entry has =
          let (slot, slot_found, is) = map_at own_uses slots i piece found in
          (between.based.slots_are i slot slot_found).partition entry (subst (λ p. Contains p entry) (sym is) has)

      pub waits : (entry : Use) → Contains stages.waiting entry → class_of_equation s entry.equation ≡ None
      waits entry has =
          let (e, among, is) = entry_of_use waiting entry (contains_member entry stages.waiting has) in
          ap (λ u. class_of_equation s u.equation) (sym is) ∙ (between.based.settled.waiting_plain e among).unclocked

      samples : (equation : Equation) (i : ℕ) → slice_get s.model.equations i ≡ Some equation → AreSamplesShown s A n left equation
      samples (Clocks left_side right clause) i found = tt
      samples (Valued left_side right clause) i found =
          let typed : IsTyped (types_in s.model.names) (Valued left_side right clause) = all_at (IsTyped (types_in s.model.names)) s.model.equations i (Valued left_side right clause) between.moment.staged.are.ordered.runs.model.typed.equations found in
          let left_is = between.based.left_is in (
            record {
              now = λ y k asks later. left_is.now y k later;
              last = λ z k asks later. let (kind, is) = typed_names (types_in s.model.names) left_side typed.0 typed.1 1 (OfLast z) asks in left_is.last z (valued_name s z kind is);
            },
            record {
              now = λ y k asks later. left_is.now y k later;
              last = λ z k asks later. let (kind, is) = typed_names (types_in s.model.names) right typed.0 typed.2 1 (OfLast z) asks in left_is.last z (valued_name s z kind is);
            },
          )

      -- a slot's part may be stepped
      module _ (i : ℕ) (slot : Slot Piece) (found : slice_get slots i ≡ Some slot) where
        abbrev pub own : List Use
        own = own_uses slot

        pub piece_found : slice_get stages.pieces i ≡ Some own
        piece_found = at_map own_uses slots i slot found

        abbrev pub ahead : List Use
        ahead = front s uses stages.pure stages.pieces stages.waiting between.moment.staged.are between.moment.staged.reach of waits i own piece_found

        abbrev pub after : List Use
        after = back s uses stages.pure stages.pieces stages.waiting between.moment.staged.are between.moment.staged.reach of waits i own piece_found

        shown : IsShown s own A n base showing
        shown = record {
          model = ap (λ flat. flat.equations) between.model_is.flat;
          here = between.moment.here;
          ticks = between.ticks_are;
          answers = λ site. answer_flat (slice_get answers site) ∙ between.answers_are site;
          samples = λ entry equation has equation_found. samples equation entry.equation equation_found;
        }

        pub step_start : IsStepStart s uses ahead own after i A n base showing slot.piece.part
        step_start = record {
          piece = is_piece s uses stages.pure stages.pieces stages.waiting between.moment.staged.are between.moment.staged.reach of waits i own piece_found;
          part_of = (between.based.slots_are i slot found).part_of;
          stands = between.based.stand i slot found;
          meets = valued_before s A n between.moment.meets;
          typed = base_typed s uses stages.pure stages.pieces stages.waiting between.moment.staged.are A n at between.moment.here between.inputs between.are base between.taken;
          sound = base_sound s uses stages.pure stages.pieces stages.waiting between.moment.staged.are A n at between.moment.here between.inputs between.are base between.taken;
          clear = piece_clear s uses stages.pure stages.pieces stages.waiting between.moment.staged.are A n at between.moment.here between.inputs between.are base between.taken i own piece_found;
          shown = shown;
          measured = between.based.settled.measured;
        }

        pub can_step : CanStep showing slot.piece.part
        can_step = record { s = s; uses = uses; before = ahead; own = own; after = after; partition = i; S = A; m = n; base = base; start = step_start }
