-- The uses that no clock decides of.
use Rattle.std.proofs.Common.{◌≡◌, refl, ap, ◌∙◌, sym, subst, Bool, ℕ, ◌<◌, ◌≤◌, List, [], ◌∷◌, ◌++◌, length, Option, Some, None, slice_get, Contains, arith, ◌⊎◌, inl, inr}
use Rattle.std.proofs.Math.Path.{fun_ext}
use Rattle.std.proofs.lemmas.Option.{none-some, slice_get_past}
use Rattle.sync_values.specs.declared.value.Value.{Value}
use Rattle.flat_model.specs.declared.clock.Clock.TheVariants.{Event}
use Rattle.flat_model.specs.declared.equation.Equation.{Equation}
use Rattle.flat_model.specs.declared.table.Left.{Left}
use Rattle.flat_model.specs.Values.{value_in}
use Rattle.flat_model.specs.Assignment.{Assignment}
use Rattle.flat_model.specs.Given.{Row, with_row}
use Rattle.flat_model.specs.Setting.{Setting, flattened, clock_of}
use Rattle.flat_model.specs.Uses.{Use, SiteReads}
use Rattle.moment_theory.specs.Division.{joined}
use Rattle.moment_theory.specs.Free.{IsReachedBy, AsksClass, AsksLast, IsOrdered}
use Rattle.moment_theory.specs.Taken.{AreTaken}
use Rattle.moment_theory.proofs.Meeting.{IsValued}
use Rattle.moment_theory.proofs.Members.{IsMember, member_contains}
use Rattle.moment_theory.proofs.Settled.{model}
use Rattle.moment_theory.proofs.Taking.{unchanged}
use Rattle.first_failure.specs.declared.least.EquationFailing.{EquationFailing}
use Rattle.first_failure.specs.Turns.{FailsAmong, IsLeast}
use Rattle.fork_steps.specs.declared.slot.Slot.{Slot}
use Rattle.tree_step.specs.declared.cell.Cell.{Cell}
use Rattle.tree_step.specs.declared.cell.Standing.TheVariants.{Ticks}
use Rattle.tree_step.specs.declared.frame.ClockNow.{ClockNow}
use Rattle.tree_step.specs.declared.taking.Entry.{Entry}
use Rattle.tree_step.specs.Cells.{cell_in}
use Rattle.tree_step.specs.Changed.{AreReadsOf, CanStartChanged}
use Rattle.tree_step.specs.Starts.{use_of, uses_of, IsAmong, AreSitesApart, IsStart}
use Rattle.tree_step.specs.Takes.{TakesUses, HasTaken}
use Rattle.moment_body.specs.declared.model.ClockedModel.{ClockedModel}
use Rattle.moment_body.specs.Stages.{Stages}
use Rattle.moment_body.specs.Stepping.{Values, Standing, Based, IsBefore, CanTakePure, HasTakenPure, TakesPure}
use Rattle.side_theory.specs.Typed.{valued_before}
use Rattle.partition_step.specs.Writing.{IsWritten}
use Rattle.moment_steps.specs.declared.piece.Piece.{Piece}
use Rattle.moment_steps.specs.declared.taking.UnclockedReads.{UnclockedReads}
use Rattle.moment_steps.specs.Settled.{own_uses, stages_in}
use Rattle.moment_steps.specs.Standing.{StandsBefore}
use Rattle.moment_steps.specs.Opening.{opened_by, value_by}
use Rattle.moment_steps.proofs.Copied.{copied}
use Rattle.moment_steps.proofs.Rows.{reached_first, inputs_typed, inputs_sound, clear_at_first}
use Rattle.moment_steps.proofs.Starting.{valued_within, OpenCell, open_cell, starts, were_met, LastSeen}

among_member : (entries : List Entry) (e : Entry) → IsAmong e entries → IsMember (use_of e) (uses_of entries)
among_member [] e among = absurd among
among_member (first ∷ rest) e (inl is) = inl (ap use_of is)
among_member (first ∷ rest) e (inr among) = inr (among_member rest e among)

pub among_contains : (entries : List Entry) (e : Entry) → IsAmong e entries → Contains (uses_of entries) (use_of e)
among_contains entries e among = member_contains (use_of e) (uses_of entries) (among_member entries e among)

-- what no use reaches is as it was
pub outside : (s : Setting) (uses before own after : List Use) → IsOrdered s uses (before ++ (own ++ after)) → (S : Assignment) (m : ℕ) (now : Values) (last : Row) → length now ≡ length s.model.names
    → AreTaken s S m own (value_in now) last → (x : ℕ) → length s.model.names ≤ x → last x ≡ None
outside s uses before own after ordered S m now last wide taken x le =
    let ready = model s uses (before ++ (own ++ after)) ordered in
    unchanged s ready.unclocked S m own (value_in now) last taken x (λ reached.
    let lt = valued_within s x (ready.whole.valued x (reached_in before own after x reached)) in omega (arith, lt, le))
    ∙ ap flattened (slice_get_past now x (omega (arith, le, wide)))
  where
    reached_in : (before own after : List Use) (x : ℕ) → IsReachedBy x own → IsReachedBy x (before ++ (own ++ after))
    reached_in [] own after x reached = reached_first own after x reached
    reached_in (first ∷ before) own after x reached = inr (reached_in before own after x reached)

module _ (pure waiting : List Entry) (noted : UnclockedReads) (always : List ClockNow) (numbers : List ℕ) (cells : List Cell) (ticked : List Bool) (places : List ℕ) (slots : List (Slot Piece)) (left : Left) where
  abbrev pub stages : Stages
  stages = stages_in pure waiting slots

  abbrev pub Stands : Standing
  Stands s A n = StandsBefore s A n pure waiting noted always numbers cells ticked places slots left

  module _ (model : ClockedModel) (now : Values) (shown : List Cell) (opens : IsWritten (opened_by numbers left.last now (λ x. Ticks)) cells shown) where
    module _ (s : Setting) (uses : List Use) (A : Assignment) (n : ℕ) (before : IsBefore stages Stands model now s uses A n) where
      abbrev behind : List Use
      behind = joined stages.pieces ++ stages.waiting

      clockless_last : (entry : Entry) (equation : Equation) (z : ℕ) → IsAmong entry pure → slice_get s.model.equations entry.equation ≡ Some equation → AsksLast equation z → ⊥
      clockless_last entry equation z among found asks = (before.moment.staged.are.clockless (use_of entry) (among_contains pure entry among)).plain equation z found asks

      apart : AreSitesApart s (uses_of pure) pure
      apart entry class y among (inl is) (site, factor, shift, condition, clock_is, found, some) reached =
          none-some (Event site factor shift) (sym (ap (clock_of s) (is ∙ (before.moment.staged.are.clockless (use_of entry) (among_contains pure entry among)).unclocked)) ∙ clock_is)
      apart entry class y among (inr (equation, z, found, asks, is)) reads reached = clockless_last entry equation z among found asks

      lasts : (entry : Entry) (equation : Equation) (z : ℕ) → IsAmong entry pure → slice_get s.model.equations entry.equation ≡ Some equation → AsksLast equation z → IsValued s z → LastSeen s A n (value_in now) numbers shown z
      lasts entry equation z among found asks valued = absurd (clockless_last entry equation z among found asks)

      pure_starts : IsStart s uses [] behind A n (value_in now) (record { equations = s.model.equations; places = numbers; left = left; clocks = always }) pure shown
      pure_starts = starts s uses [] behind pure before.moment.staged.are.ordered A n (valued_before s A n before.moment.meets) pure waiting noted always numbers before.stands.settled left now (λ x. Ticks) cells shown before.stands.room opens
          (inputs_typed s uses stages.pure stages.pieces stages.waiting before.moment.staged.are A n before.at before.moment.here (value_in now) before.are)
          (inputs_sound s uses stages.pure stages.pieces stages.waiting before.moment.staged.are A n before.at before.moment.here (value_in now) before.are)
          (clear_at_first s uses stages.pure stages.pieces stages.waiting before.moment.staged.are A n before.at before.moment.here (value_in now) before.are)
          before.stands.settled.pure_plain apart lasts

      pub pure_start : IsStart s uses [] behind A n (value_in now) (record { equations = model.flat.equations; places = numbers; left = left; clocks = always }) pure shown
      pure_start = subst (λ flat. IsStart s uses [] behind A n (value_in now) (record { equations = flat.equations; places = numbers; left = left; clocks = always }) pure shown) (sym before.model_is.flat) pure_starts

    pub can_take_pure : CanTakePure stages Stands model now → CanStartChanged (record { equations = model.flat.equations; places = numbers; left = left; clocks = always }) pure noted.pure shown
    can_take_pure (s, uses, A, n, before) = record {
      s = s;
      uses = uses;
      before = [];
      after = joined stages.pieces ++ stages.waiting;
      S = A;
      m = n;
      base = value_in now;
      start = pure_start s uses A n before;
      unclocked = λ entry among. (before.stands.settled.pure_plain entry among).unclocked;
      reads_are = subst (λ flat. AreReadsOf flat.equations pure noted.pure) (sym before.model_is.flat) before.stands.settled.pure_reads;
      left_is = record { first = before.stands.left_is.first; later = before.stands.left_is.now };
      were_met = were_met s A n pure before.moment.meets (λ entry among. (before.stands.settled.pure_plain entry among).unclocked);
    }

    module _ (taken : List Cell) (told : Option EquationFailing) (takes : TakesUses (record { equations = model.flat.equations; places = numbers; left = left; clocks = always }) pure shown taken told) (size : length taken ≡ length shown)
        (after : Values) (copies : IsWritten (value_by taken) now after) (final : List Cell) (final_long : length final ≡ length taken) where
      abbrev pub Leaves : Based
      Leaves s A n base = StandsBefore s A n pure waiting noted always numbers final ticked places slots left

      module _ (s : Setting) (uses : List Use) (A : Assignment) (n : ℕ) (before : IsBefore stages Stands model now s uses A n) where
        has : HasTaken s uses A n (value_in now) (record { equations = model.flat.equations; places = numbers; left = left; clocks = always }) pure shown taken told
        has = takes s uses [] (joined stages.pieces ++ stages.waiting) A n (value_in now) (pure_start s uses A n before)

        open_there : (x : ℕ) → x < length s.model.names → (cell : Cell) × (cell_in numbers shown x ≡ Some cell)
        open_there x lt = let o = open_cell s pure waiting noted always numbers before.stands.settled left.last now (λ y. Ticks) cells shown before.stands.room opens x lt in (o.cell, o.found)

        own_is : has.own ≡ value_in after
        own_is = fun_ext (copied s pure waiting noted always numbers before.stands.settled shown taken open_there has.kept now after before.wide copies has.own has.holds
            (outside s uses [] stages.pure (joined stages.pieces ++ stages.waiting) before.moment.staged.are.ordered A n now has.own before.wide has.taken))

        taken_pure : HasTakenPure stages Leaves now after told s uses A n
        taken_pure = record {
          taken = subst (λ r. AreTaken s A n stages.pure (value_in now) r) own_is has.taken;
          told_is = subst (λ r. IsLeast (FailsAmong s uses A n stages.pure r) told) own_is has.told;
          based = record {
            settled = before.stands.settled;
            room = final_long ∙ size ∙ opens.size ∙ before.stands.room;
            told_room = before.stands.told_room;
            few = before.stands.few;
            slots_are = before.stands.slots_are;
            left_is = before.stands.left_is;
            stand = before.stands.stand;
          };
        }

      pub takes_pure : TakesPure stages Stands model now Leaves after told
      takes_pure s uses A n before = taken_pure s uses A n before
