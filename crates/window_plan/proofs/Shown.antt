-- Cells that show the values of the inputs are a start of the pure uses.
use Rattle.std.proofs.Common.{◌≡◌, refl, ap, ◌∙◌, sym, subst, ℕ, zero, suc, ◌+◌, ◌<◌, ◌≤◌, List, [], ◌∷◌, ◌++◌, length, Option, Some, None, IsSome, slice_get, Contains, arith, ◌⊎◌, inl, inr}
use Rattle.std.specs.Prelude.{option_map, unwrap_or}
use Rattle.std.proofs.Math.Path.{fun_ext}
use Rattle.std.proofs.lemmas.Bool.{cases_lt, false≢true}
use Rattle.std.proofs.lemmas.Option.{none-some, same_Some, slice_get_within, slice_get_past}
use Rattle.sync_values.specs.declared.value.Value.{Value}
use Rattle.flat_model.specs.declared.clock.Clock.TheVariants.{Event}
use Rattle.flat_model.specs.declared.equation.Equation.{Equation}
use Rattle.flat_model.specs.declared.equation.Equation.TheVariants.{Valued, Clocks}
use Rattle.flat_model.specs.declared.expression.Expr.{Expr}
use Rattle.flat_model.specs.declared.model.FlatModel.{FlatModel}
use Rattle.flat_model.specs.Values.{value_in}
use Rattle.flat_model.specs.Asks.{AsksFor, OfNow, OfLast, OfPrevious}
use Rattle.flat_model.specs.Assignment.{Assignment}
use Rattle.flat_model.specs.Given.{with_row, IsKnownToTick}
use Rattle.flat_model.specs.Occurrences.{held_count, converted_count}
use Rattle.flat_model.specs.Runnable.{IsSideClocked}
use Rattle.flat_model.specs.Setting.{Setting, flattened, clock_of}
use Rattle.flat_model.specs.Uses.{Use}
use Rattle.flat_model.proofs.Links.{asked_bare, asked_last}
use Rattle.moment_theory.specs.Division.{joined}
use Rattle.moment_theory.specs.Free.{IsOrdered, IsReachedBy, AsksLast, AsksLastIn}
use Rattle.moment_theory.specs.Sound.{IsSound}
use Rattle.moment_theory.specs.Taken.{AreTaken}
use Rattle.moment_theory.proofs.FromRunnable.{facts_of}
use Rattle.moment_theory.proofs.Meeting.{IsValued, IsSideClassed}
use Rattle.moment_theory.proofs.Members.{IsMember, member_contains}
use Rattle.moment_theory.proofs.Rows.{row_now}
use Rattle.moment_theory.proofs.Settled.{model}
use Rattle.moment_theory.proofs.Taking.{unchanged}
use Rattle.first_failure.specs.declared.least.EquationFailing.{EquationFailing}
use Rattle.first_failure.specs.Turns.{FailsAmong, IsLeast}
use Rattle.tree_step.specs.declared.cell.Cell.{Cell}
use Rattle.tree_step.specs.declared.frame.ClockNow.{ClockNow}
use Rattle.tree_step.specs.declared.taking.Entry.{Entry}
use Rattle.tree_step.specs.Cells.{cell_in}
use Rattle.tree_step.specs.Starts.{Sight, use_of, uses_of, IsAmong, HasCell, IsClockShown, IsSideSeen, AreSidesSeen, IsEntry, AreSitesApart, IsStart, CanStart}
use Rattle.tree_step.specs.Takes as steps
use Rattle.tree_step.proofs.Plain.{left_asks}
use Rattle.side_theory.specs.Typed.{AreValuedBefore}
use Rattle.partition_step.specs.Writing.{IsWritten}
use Rattle.partition_step.proofs.Lists.{some_at, written_at, written_back}
use Rattle.partition_step.proofs.Placing.{own_there, there}
use Rattle.moment_body.specs.Stages.{Stages}
use Rattle.moment_steps.specs.Settled.{IsPlainEntry}
use Rattle.moment_steps.proofs.Rows.{reached_first, inputs_typed, clear_at_first}
use Rattle.window_plan.specs.declared.taking.PureUses.{PureUses}
use Rattle.window_plan.specs.Pure.{Values, IsBefore, HasTaken, CanTake, Takes}
use Rattle.window_plan.specs.private.Cells.{shown_by, value_from, value_by}

among_member : (entries : List Entry) (e : Entry) → IsAmong e entries → IsMember (use_of e) (uses_of entries)
among_member [] e among = absurd among
among_member (first ∷ rest) e (inl is) = inl (ap use_of is)
among_member (first ∷ rest) e (inr among) = inr (among_member rest e among)

among_reached : (entries : List Entry) (e : Entry) → IsAmong e entries → IsReachedBy e.name (uses_of entries)
among_reached [] e among = absurd among
among_reached (first ∷ rest) e (inl is) = inl (ap (λ z. z.name) (sym is))
among_reached (first ∷ rest) e (inr among) = inr (among_reached rest e among)

asks_last : (m n : ℕ) → 0 < m + n → (0 < m) ⊎ (0 < n)
asks_last zero n some = inr (omega (arith, some))
asks_last (suc m) n some = inl (omega arith)

last_in_side : (side : Expr) (z : ℕ) → AsksFor side 0 (OfLast z) → AsksLastIn side z
last_in_side side z asks = asks_last (held_count z side) (converted_count z side) (let same = asked_last z side in omega (arith, asks, same))

some_is : (o : Option Value) → IsSome o → (v : Value) × (o ≡ Some v)
some_is None some = absurd (false≢true some)
some_is (Some v) some = (v, refl)

still_there : (old new : Option Cell) (cell : Cell) → old ≡ Some cell → steps.IsSameCell old new → (other : Cell) × (new ≡ Some other)
still_there None new cell is same = absurd (none-some cell is)
still_there (Some old) None cell is same = absurd same
still_there (Some old) (Some other) cell is same = (other, refl)

module _ (w : PureUses) (now : Values) (shown : List Cell) (shows : IsWritten (shown_by w.numbers now) w.cells.items shown) where
  module _ (s : Setting) (uses : List Use) (stages : Stages) (n : ℕ) (before : IsBefore s uses stages n w s.model now) where
    abbrev behind : List Use
    behind = joined stages.pieces ++ stages.waiting

    abbrev pub sight : Sight
    sight = record { equations = s.model.equations; places = w.numbers; left = w.left; clocks = w.always }

    valued_within : (x : ℕ) → IsValued s x → x < length s.model.names
    valued_within x valued = slice_get_within s.model.names x valued.name valued.found

    -- ---- cells

    record ShownCell (x : ℕ) : Type 0 where
      cell : Cell
      value : cell.now ≡ value_in now x
      found : cell_in w.numbers shown x ≡ Some cell

    shown_cell : (x : ℕ) → x < length s.model.names → ShownCell x
    shown_cell x lt =
        let (was, was_found) = some_at w.cells.items x (let room = before.pure.room in omega (arith, lt, room)) in
        let number = before.pure.numbered x lt in record {
          cell = shown_by w.numbers now x was;
          value = refl;
          found = own_there w.numbers shown x x (shown_by w.numbers now x was) number (written_at (shown_by w.numbers now) w.cells.items shown x was shows was_found)
              (ap (λ o. unwrap_or o was.name) number);
        }

    has_cell : (x : ℕ) → x < length s.model.names → HasCell w.numbers shown x
    has_cell x lt = let c = shown_cell x lt in (c.cell, c.found)

    holds : (x : ℕ) (cell : Cell) → cell_in w.numbers shown x ≡ Some cell → cell.now ≡ value_in now x
    holds x cell is =
        let at = there w.numbers shown x cell is in
        let long = before.pure.long in
        let lt : x < length s.model.names = let within = slice_get_within w.numbers x at.place at.placed in omega (arith, within, long) in
        let place_is : at.place ≡ x = same_Some at.place x (sym at.placed ∙ before.pure.numbered x lt) in
        let (was, was_found, written) = written_back (shown_by w.numbers now) w.cells.items shown at.place cell shows at.found in
        ap (λ c. c.now) written ∙ ap (value_in now) place_is

    -- ---- a start, at whatever moment

    ordered : IsOrdered s uses (uses_of w.entries ++ behind)
    ordered = subst (λ us. IsOrdered s uses (us ++ behind)) (sym before.pure.uses_are) before.staged.are.ordered

    abbrev clock : ClockNow
    clock = before.pure.always.clock

    is_used : (e : Entry) → IsAmong e w.entries → Contains stages.pure (use_of e)
    is_used e among = subst (λ us. Contains us (use_of e)) before.pure.uses_are (member_contains (use_of e) (uses_of w.entries) (among_member w.entries e among))

    no_last : (e : Entry) (equation : Equation) (z : ℕ) → IsAmong e w.entries → slice_get s.model.equations e.equation ≡ Some equation → AsksLast equation z → ⊥
    no_last e equation z among found asks = (before.staged.are.clockless (use_of e) (is_used e among)).plain equation z found asks

    apart : AreSitesApart s (uses_of w.entries) w.entries
    apart e class y among (inl is) (site, factor, shift, condition, clock_is, found, some) reached =
        none-some (Event site factor shift) (sym (ap (clock_of s) (is ∙ (before.staged.are.clockless (use_of e) (is_used e among)).unclocked)) ∙ clock_is)
    apart e class y among (inr (equation, z, found, asks, is)) reads reached = no_last e equation z among found asks

    module _ (S : Assignment) (m : ℕ) (valued : AreValuedBefore s S m) where
      told : IsClockShown s S m (value_in now) None clock
      told = record {
        ticks = before.pure.always.ticks;
        first = λ c is ticking. absurd (none-some c is);
        interval = λ c is ticking. absurd (none-some c is);
        measured = λ ticking. before.pure.always.measured;
      }

      -- values are those of inputs, which no clock governs
      sound : IsSound s (with_row S m (value_in now)) m
      sound z some =
          let (v, is) = some_is (value_in now z) (subst IsSome (row_now S m (value_in now) z) some) in
          let (name, at, found, input, here) = before.are.only z v is in
          subst (IsKnownToTick s (with_row S m (value_in now)) m) (sym ((facts_of s ordered.runs).inputs z name found input)) (tt, refl)

      module _ (e : Entry) (among : IsAmong e w.entries) where
        is_plain : IsPlainEntry s e
        is_plain = before.pure.plain e among

        side_seen : (side : Expr) → IsSideClocked s e.equation side → IsSideClassed s e.equation side → ((z : ℕ) → AsksLastIn side z → ⊥) → IsSideSeen s S m (value_in now) sight shown clock side
        side_seen side clocked classed none_last =
            let stands = clocked.unclocked is_plain.unclocked in record {
              now = λ y asks. has_cell y (valued_within y (classed.bare y (let same = asked_bare y side in omega (arith, asks, same))).0);
              last = λ z asks. absurd (none_last z (last_in_side side z asks));
              previous = λ y asks. absurd (left_asks side stands 0 (OfPrevious y) asks).1;
              left = λ ticking y k asks later. absurd (let none = (left_asks side stands 1 (OfNow y) asks).0 in omega (arith, none));
              left_last = λ ticking z asks. absurd (let none = (left_asks side stands 1 (OfLast z) asks).0 in omega (arith, none));
            }

        sides_seen : (equation : Equation) → slice_get s.model.equations e.equation ≡ Some equation → AreSidesSeen s S m (value_in now) sight shown clock equation
        sides_seen (Clocks left_side right clause) found = tt
        sides_seen (Valued left_side right clause) found =
            let clocked = ordered.runs.equations e.equation (Valued left_side right clause) found in
            let classed = (facts_of s ordered.runs).classed.sides e.equation left_side right clause found in (
              side_seen left_side clocked.0 classed.0 (λ z asks. no_last e (Valued left_side right clause) z among found (inl asks)),
              side_seen right clocked.1 classed.1 (λ z asks. no_last e (Valued left_side right clause) z among found (inr asks)),
            )

        name_within : e.name < length s.model.names
        name_within = valued_within e.name ((model s uses (uses_of w.entries ++ behind) ordered).whole.valued e.name (reached_first (uses_of w.entries) behind e.name (among_reached w.entries e among)))

        entry_is : IsEntry s S m (value_in now) sight shown e
        entry_is = record {
          equation = is_plain.equation;
          found = is_plain.found;
          spine = is_plain.spine;
          own = has_cell e.name name_within;
          clock = clock;
          clock_found = ap (slice_get w.always) is_plain.clock ∙ before.pure.always.found;
          told = subst (λ o. IsClockShown s S m (value_in now) o clock) (sym is_plain.unclocked) told;
          seen = sides_seen is_plain.equation is_plain.found;
        }

      starts : IsStart s uses [] behind S m (value_in now) sight w.entries shown
      starts = record {
        ordered = ordered;
        meets = valued;
        typed = inputs_typed s uses stages.pure stages.pieces stages.waiting before.staged.are S n before.at before.here (value_in now) before.are;
        sound = sound;
        clear = λ y reached. clear_at_first s uses stages.pure stages.pieces stages.waiting before.staged.are S n before.at before.here (value_in now) before.are y (subst (IsReachedBy y) before.pure.uses_are reached);
        apart = apart;
        model = refl;
        holds = holds;
        each = entry_is;
      }

    -- at Initial nothing was to be met before
    can_start : CanStart sight w.entries shown
    can_start = record { s = s; uses = uses; before = []; after = behind; S = (λ x k. None); m = 0; base = value_in now; start = starts (λ x k. None) 0 (λ k lt. absurd (omega (arith, lt))) }

    module _ (taken : List Cell) (told : Option EquationFailing) (takes : steps.TakesUses sight w.entries shown taken told) (after : Values) (copies : IsWritten (value_by taken) now after)
        (S : Assignment) (valued : AreValuedBefore s S n) where
      has : steps.HasTaken s uses S n (value_in now) sight w.entries shown taken told
      has = takes s uses [] behind S n (value_in now) (starts S n valued)

      taken_pure : AreTaken s S n stages.pure (value_in now) has.own
      taken_pure = subst (λ us. AreTaken s S n us (value_in now) has.own) before.pure.uses_are has.taken

      within : (x : ℕ) → x < length s.model.names → has.own x ≡ value_in after x
      within x lt =
          let shows_x = shown_cell x lt in
          let (other, is) = still_there (cell_in w.numbers shown x) (cell_in w.numbers taken x) shows_x.cell shows_x.found (has.kept x) in
          let at = there w.numbers taken x other is in
          let place_is : at.place ≡ x = same_Some at.place x (sym at.placed ∙ before.pure.numbered x lt) in
          let found : slice_get taken x ≡ Some other = ap (slice_get taken) (sym place_is) ∙ at.found in
          let (value, value_found) = some_at now x (let wide = before.wide in omega (arith, lt, wide)) in
          sym (ap flattened (copies.each x ∙ ap (option_map (value_by taken x)) value_found ∙ ap (λ o. Some (value_from o value)) found) ∙ has.holds x other is)

      past : (x : ℕ) → length s.model.names ≤ x → has.own x ≡ value_in after x
      past x le =
          let ready = model s uses (uses_of w.entries ++ behind) ordered in
          unchanged s ready.unclocked S n (uses_of w.entries) (value_in now) has.own has.taken x (λ reached.
          let lt = valued_within x (ready.whole.valued x (reached_first (uses_of w.entries) behind x reached)) in omega (arith, lt, le))
          ∙ ap flattened (slice_get_past now x (let wide = before.wide in omega (arith, le, wide)))
          ∙ sym (ap flattened (slice_get_past after x (let size = copies.size in let wide = before.wide in omega (arith, le, size, wide))))

      own_is : has.own ≡ value_in after
      own_is = fun_ext (λ x. elim (cases_lt x (length s.model.names)) [
        | inl lt ↦ within x lt
        | inr le ↦ past x le
      ])

      has_taken : HasTaken s uses stages S n now after told
      has_taken = record {
        taken = subst (λ r. AreTaken s S n stages.pure (value_in now) r) own_is taken_pure;
        told_is = subst (λ r. IsLeast (FailsAmong s uses S n stages.pure r) told) own_is (subst (λ us. IsLeast (FailsAmong s uses S n us has.own) told) before.pure.uses_are has.told);
      }

  module _ (flat : FlatModel) where
    abbrev pub sight_over : Sight
    sight_over = record { equations = flat.equations; places = w.numbers; left = w.left; clocks = w.always }

    own_model : (s : Setting) (uses : List Use) (stages : Stages) (n : ℕ) → IsBefore s uses stages n w flat now → IsBefore s uses stages n w s.model now
    own_model s uses stages n before = subst (λ m. IsBefore s uses stages n w m now) before.model before

    pub may_start : CanTake w flat now → CanStart sight_over w.entries shown
    may_start (s, uses, stages, n, before) =
        subst (λ m. CanStart (record { equations = m.equations; places = w.numbers; left = w.left; clocks = w.always }) w.entries shown) (sym before.model) (can_start s uses stages n (own_model s uses stages n before))

    pub takes_pure : (taken : List Cell) (told : Option EquationFailing) → steps.TakesUses sight_over w.entries shown taken told → (after : Values) → IsWritten (value_by taken) now after → Takes w flat now after told
    takes_pure taken told takes after copies s uses stages n before S valued =
        has_taken s uses stages n (own_model s uses stages n before) taken told
        (subst (λ m. steps.TakesUses (record { equations = m.equations; places = w.numbers; left = w.left; clocks = w.always }) w.entries shown taken told) before.model takes) after copies S valued
