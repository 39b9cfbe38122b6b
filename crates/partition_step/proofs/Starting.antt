-- What is written at a step is a start of the uses.
use Rattle.std.proofs.Common.{◌≡◌, refl, ap, ◌∙◌, sym, subst, ℕ, zero, suc, ◌+◌, ◌<◌, Bool, true, false, List, ◌++◌, Option, Some, None, is_none, slice_get, get_or, Contains, All, ◌⊎◌, inl, inr, arith}
use Rattle.std.proofs.lemmas.Option.{none-some, same_Some, slice_get_within, slice_get-get_or}
use Rattle.sync_values.specs.declared.value.Value.TheVariants as value
use Rattle.flat_model.specs.declared.clock.Clock.{Clock}
use Rattle.flat_model.specs.declared.clock.Clock.TheVariants.{Periodic, Event}
use Rattle.flat_model.specs.declared.equation.Equation.{Equation}
use Rattle.flat_model.specs.declared.equation.Equation.TheVariants.{Valued, Clocks}
use Rattle.flat_model.specs.declared.expression.Expr.{Expr}
use Rattle.flat_model.specs.Values.{truth_in}
use Rattle.flat_model.specs.Asks.{AsksFor, OfNow, OfLast, OfPrevious}
use Rattle.flat_model.specs.Assignment.{Assignment, tick_before, previous_value}
use Rattle.flat_model.specs.Given.{Row, with_row, IsKnownOf}
use Rattle.flat_model.specs.Intervals.{IsMeasurable}
use Rattle.flat_model.specs.Occurrences.{held_count, converted_count}
use Rattle.flat_model.specs.Operators.{Answer, Is, Fails, Absent}
use Rattle.flat_model.specs.Runnable.{IsSideClocked}
use Rattle.flat_model.specs.Setting.{Setting, flattened, class_of_name, class_of_equation, clock_of, partition_of, site_answer, start_of, class_ticks, name_ticks, interval_at}
use Rattle.flat_model.specs.Uses.{Use}
use Rattle.flat_model.proofs.Links.{asked_bare, asked_last}
use Rattle.flat_model.proofs.Sites.{not_yet}
use Rattle.moment_theory.specs.Free.{IsReachedBy, AsksLastIn, IsOrdered}
use Rattle.moment_theory.specs.Sound.{IsClear}
use Rattle.moment_theory.proofs.Meeting.{IsValued, IsSideClassed}
use Rattle.moment_theory.proofs.Unknown.{known_where_ticks}
use Rattle.part_words.specs.Words.{IsMeasuredClock}
use Rattle.part_code.specs.Coded.{IsSideOf}
use Rattle.undone_side.specs.Undone.{IsSolvedSide}
use Rattle.undone_side.proofs.Kept.{solved_asks}
use Rattle.coded_step.specs.Taking.{IsSampledBy, IsCodeStart}
use Rattle.tree_step.specs.declared.cell.Cell.{Cell}
use Rattle.tree_step.specs.declared.frame.ClockNow.{ClockNow}
use Rattle.tree_step.specs.declared.taking.Entry.{Entry}
use Rattle.tree_step.specs.Cells.{cell_in}
use Rattle.tree_step.specs.Frames.{shown_elapsed, shown_length}
use Rattle.tree_step.specs.Starts.{Sight, use_of, uses_of, IsAmong, HasCell, KeepsLast, StandsAs, IsClockShown, IsSideSeen, AreSidesSeen, IsEntry, AreSitesApart, IsStart}
use Rattle.partition_step.specs.declared.part.ClassKept.{ClassKept}
use Rattle.partition_step.specs.declared.part.Part.{Part}
use Rattle.partition_step.specs.Parts.{IsLaid, KeepsTick, names_of, numbers_of, clocks_of}
use Rattle.partition_step.specs.Steps.{Showing, IsSampleShown, AreSamplesShown, IsStepStart}
use Rattle.partition_step.specs.private.Stepping.{elapsed_at, shown_clock, shown_from, shown_at, standing_by, standing_of, standing_in, standing_at, begun, begun_at}
use Rattle.partition_step.specs.Writing.{IsWritten}
use Rattle.partition_step.proofs.Intervals.{instant_of, first_is, interval_is, measured_is}
use Rattle.partition_step.proofs.Lists.{some_at, at_map, written_at, written_back}
use Rattle.partition_step.proofs.Placing.{own_there, there, at_among, own_among, own_reached, entry_of_reached, ClassOf, class_of, CellOf, cell_of, entry_of_cell}
use Rattle.partition_step.proofs.Reaching.{facts, reached_within, previous_valued}
use Rattle.partition_step.proofs.Uncut.{previous_uncut}

-- an answer with a truth value is one
is_truth : (a : Answer) (b : Bool) → truth_in a ≡ Some b → a ≡ Is (value.Bool b)
is_truth (Is (value.Bool c)) b e = ap (λ d. Is (value.Bool d)) (same_Some c b e)
is_truth (Is (value.Int z)) b e = absurd (none-some b e)
is_truth (Fails kind) b e = absurd (none-some b e)
is_truth Absent b e = absurd (none-some b e)

module _ (s : Setting) (uses before own after : List Use) (partition : ℕ) (S : Assignment) (m : ℕ) (base : Row) (showing : Showing) (part : Part) (start : IsStepStart s uses before own after partition S m base showing part)
    (clocks : List ClockNow) (tells : IsWritten (shown_at showing.ticks showing.moment part.classes.items) part.clocks.items clocks)
    (cells : List Cell) (begins : IsWritten (begun_at showing.answers part.classes.items clocks part.entries) part.cells.items cells) where
  abbrev B : Assignment
  B = with_row S m base

  abbrev classes : List ClassKept
  classes = part.classes.items

  abbrev pub sight : Sight
  sight = record { equations = showing.equations; places = showing.places; left = showing.left; clocks = clocks }

  abbrev laid : IsLaid s own showing.places part.entries (names_of part.cells.items) (numbers_of part.classes.items) (clocks_of part.classes.items)
  laid = start.part_of.laid

  abbrev Class : Entry → Type 0
  Class e = ClassOf s own showing.places part.entries part.cells.items classes laid e

  abbrev OldCell : Entry → Type 0
  OldCell e = CellOf s own showing.places part.entries part.cells.items classes laid e

  class_at : (e : Entry) → IsAmong e part.entries → Class e
  class_at = class_of s own showing.places part.entries part.cells.items classes laid

  pub old_cell : (e : Entry) → IsAmong e part.entries → OldCell e
  old_cell = cell_of s own showing.places part.entries part.cells.items classes laid

  in_partition : (e : Entry) → IsAmong e part.entries → partition_of s (class_of_equation s e.equation) ≡ Some partition
  in_partition e among = start.piece.of (use_of e) (own_among s own showing.places part.entries part.cells.items classes laid e among)

  -- ---- what is shown of a class

  pub clock_told : (j : ℕ) (kept : ClassKept) → slice_get classes j ≡ Some kept → (old : ClockNow) × (slice_get clocks j ≡ Some (shown_clock showing.ticks showing.moment kept old))
  clock_told j kept found =
      let (old, old_found) = some_at part.clocks.items j (let within = slice_get_within classes j kept found in let room = start.part_of.room in omega (arith, within, room)) in
      (old, written_at (shown_at showing.ticks showing.moment classes) part.clocks.items clocks j old tells old_found ∙ ap (λ o. Some (shown_from showing.ticks showing.moment o old)) found)

  module _ (e : Entry) (among : IsAmong e part.entries) where
    abbrev of : Class e
    of = class_at e among

    abbrev c : ℕ
    c = of.kept.class

    old_clock : (old : ClockNow) × (slice_get clocks e.clock ≡ Some (shown_clock showing.ticks showing.moment of.kept old))
    old_clock = clock_told e.clock of.kept of.found

    abbrev clock : ClockNow
    clock = shown_clock showing.ticks showing.moment of.kept old_clock.0

    clock_found : slice_get clocks e.clock ≡ Some clock
    clock_found = old_clock.1

    keeps : KeepsTick s S m of.kept
    keeps = start.stands.ticks e.clock of.kept of.found

    told_kept : IsClockShown s S m base (Some c) clock
    told_kept = record {
      ticks = start.shown.ticks c;
      first = λ d is ticking. first_is s (tick_before (class_ticks s S (Some c)) m) of.kept.ticked keeps;
      interval = λ d is ticking.
          let (at, moment) = instant_of s B m c showing.moment start.shown.here (sym (start.shown.ticks c) ∙ ticking) in
          subst (λ at_moment. shown_length (is_none of.kept.ticked) (elapsed_at of.kept.clock of.kept.ticked at_moment old_clock.0.interval) ≡ interval_at s (class_ticks s S (Some c)) m (clock_of s (Some c))) (sym moment)
          (interval_is s m at (start.shown.here ∙ ap Some moment) (class_ticks s S (Some c)) old_clock.0.interval of.kept.ticked keeps of.kept.clock
          ∙ ap (interval_at s (class_ticks s S (Some c)) m) (sym of.clock_is));
      measured = λ ticking.
          let (at, moment) = instant_of s B m c showing.moment start.shown.here (sym (start.shown.ticks c) ∙ ticking) in
          subst (λ at_moment. IsMeasurable (shown_elapsed (is_none of.kept.ticked) (elapsed_at of.kept.clock of.kept.ticked at_moment old_clock.0.interval))) (sym moment)
          (measured_is s m at (start.shown.here ∙ ap Some moment) (class_ticks s S (Some c)) old_clock.0.interval start.measured of.kept.ticked keeps of.kept.clock);
    }

    told : IsClockShown s S m base (class_of_equation s e.equation) clock
    told = subst (λ o. IsClockShown s S m base o clock) (sym of.of_equation) told_kept

    -- how it stands
    stands_event : (site factor shift : ℕ) → of.kept.clock ≡ Event site factor shift → class_ticks s B (Some c) m ≡ false → (o : Option Bool) → flattened (slice_get showing.answers site) ≡ o → StandsAs s B m (Some c) (standing_by o)
    stands_event site factor shift is rests None none = λ known.
        let (b, answers) = subst (IsKnownOf s B m) (of.clock_is ∙ ap Some is) known in
        none-some b (sym none ∙ start.shown.answers site ∙ ap truth_in answers)
    stands_event site factor shift is rests (Some b) some =
        (subst (IsKnownOf s B m) (sym (of.clock_is ∙ ap Some is)) (b, is_truth (site_answer s B site m) b (sym (start.shown.answers site) ∙ some)), rests)

    stands_by : (k : Clock) → of.kept.clock ≡ k → (b : Bool) → class_ticks s B (Some c) m ≡ b → StandsAs s B m (Some c) (standing_of showing.answers b k)
    stands_by (Periodic period first) is true ticks = (known_where_ticks s B m (Some c) ticks, ticks)
    stands_by (Event site factor shift) is true ticks = (known_where_ticks s B m (Some c) ticks, ticks)
    stands_by (Periodic period first) is false rests = (subst (IsKnownOf s B m) (sym (of.clock_is ∙ ap Some is)) tt, rests)
    stands_by (Event site factor shift) is false rests = stands_event site factor shift is rests (flattened (slice_get showing.answers site)) refl

    standing_is : standing_at showing.answers classes clocks (Some e) ≡ standing_of showing.answers (showing.ticks c) of.kept.clock
    standing_is = ap (λ o. standing_in showing.answers o (slice_get clocks e.clock)) of.found ∙ ap (standing_in showing.answers (Some of.kept)) clock_found

    stands : StandsAs s B m (class_of_name s e.name) (standing_at showing.answers classes clocks (Some e))
    stands = subst (λ o. StandsAs s B m o (standing_at showing.answers classes clocks (Some e))) (sym of.of_name)
        (subst (StandsAs s B m (Some c)) (sym standing_is) (stands_by of.kept.clock refl (showing.ticks c) (sym (start.shown.ticks c))))

    -- ---- its cell

    abbrev was : OldCell e
    was = old_cell e among

    abbrev pub new_cell : Cell
    new_cell = begun (standing_at showing.answers classes clocks (Some e)) was.cell

    new_found : slice_get cells was.place ≡ Some new_cell
    new_found = written_at (begun_at showing.answers classes clocks part.entries) part.cells.items cells was.place was.cell begins was.found
        ∙ ap (λ o. Some (begun (standing_at showing.answers classes clocks o) was.cell)) was.entry_found

    pub new_there : cell_in showing.places cells e.name ≡ Some new_cell
    new_there = own_there showing.places cells was.place e.name new_cell was.placed new_found was.named

    cell_keeps : KeepsLast s S m e.name new_cell
    cell_keeps = subst (λ x. KeepsLast s S m x was.cell) was.named (start.stands.values was.place was.cell was.found)

  -- ---- cells of names that are reached

  has_cell : (y : ℕ) → IsReachedBy y own → HasCell showing.places cells y
  has_cell y reached =
      let (e, among, is) = entry_of_reached s own showing.places part.entries part.cells.items classes laid y reached in
      (new_cell e among, ap (cell_in showing.places cells) is ∙ new_there e among)

  has_kept : (y : ℕ) → IsReachedBy y own → (cell : Cell) × (cell_in showing.places cells y ≡ Some cell) × KeepsLast s S m y cell
  has_kept y reached =
      let (e, among, is) = entry_of_reached s own showing.places part.entries part.cells.items classes laid y reached in
      (new_cell e among, ap (cell_in showing.places cells) is ∙ new_there e among, subst (λ x. KeepsLast s S m x (new_cell e among)) (sym is) (cell_keeps e among))

  has_last : (y : ℕ) → IsReachedBy y own → (cell : Cell) × (cell_in showing.places cells y ≡ Some cell) × KeepsLast s S m y cell × StandsAs s B m (class_of_name s y) cell.standing
  has_last y reached =
      let (e, among, is) = entry_of_reached s own showing.places part.entries part.cells.items classes laid y reached in (
        new_cell e among,
        ap (cell_in showing.places cells) is ∙ new_there e among,
        subst (λ x. KeepsLast s S m x (new_cell e among)) (sym is) (cell_keeps e among),
        subst (λ x. StandsAs s B m (class_of_name s x) (standing_at showing.answers classes clocks (Some e))) (sym is) (stands e among),
      )

  reached_here : (y : ℕ) → IsValued s y → partition_of s (class_of_name s y) ≡ Some partition → IsReachedBy y own
  reached_here = reached_within s uses before own after partition start.piece

  -- ---- one side

  module _ (e : Entry) (among : IsAmong e part.entries) (side : Expr) (cut : IsSideClocked s e.equation side) (classed : IsSideClassed s e.equation side) (valued : (y : ℕ) → AsksFor side 0 (OfPrevious y) → IsValued s y)
      (samples : IsSampleShown s S m showing.left side) where
    now_reached : (y : ℕ) → AsksFor side 0 (OfNow y) → IsReachedBy y own
    now_reached y asks =
        let (is, class) = classed.bare y (let same = asked_bare y side in omega (arith, asks, same)) in
        reached_here y is (ap (partition_of s) class ∙ in_partition e among)

    last_class : (z : ℕ) → (0 < held_count z side) ⊎ (0 < converted_count z side) → partition_of s (class_of_name s z) ≡ Some partition
    last_class z (inl held) = absurd (none-some (class_at e among).kept.class (sym (cut.held z held).1 ∙ (class_at e among).of_equation))
    last_class z (inr converted) = (cut.converted z converted).partition ∙ in_partition e among

    asks_last : (z m n : ℕ) → 0 < m + n → (0 < m) ⊎ (0 < n)
    asks_last z zero n some = inr (omega (arith, some))
    asks_last z (suc m) n some = inl (omega arith)

    last_of : (z : ℕ) → AsksFor side 0 (OfLast z) → AsksLastIn side z
    last_of z asks = asks_last z (held_count z side) (converted_count z side) (let same = asked_last z side in omega (arith, asks, same))

    last_reached : (z : ℕ) → AsksFor side 0 (OfLast z) → IsReachedBy z own
    last_reached z asks = reached_here z (classed.last z (last_of z asks)) (last_class z (last_of z asks))

    previous_reached : (y : ℕ) → AsksFor side 0 (OfPrevious y) → IsReachedBy y own
    previous_reached y asks =
        let class = cut.own y (let more = previous_uncut y side in omega (arith, asks, more)) in
        reached_here y (valued y asks) (ap (partition_of s) class ∙ in_partition e among)

    last_left : (z n : ℕ) → m ≡ n → (clock e among).ticks ≡ true → AsksFor side 1 (OfLast z)
        → slice_get showing.left.last z ≡ previous_value (name_ticks s S z) (S z) (start_of s z) m
    last_left z zero first ticking asks = absurd (not_yet s B (class_at e among).kept.class (subst (λ n. class_ticks s B (Some (class_at e among).kept.class) n ≡ true) first (sym (start.shown.ticks (class_at e among).kept.class) ∙ ticking)))
    last_left z (suc k) later ticking asks = samples.last z k asks later

    side_seen : IsSideSeen s S m base sight cells (clock e among) side
    side_seen = record {
      now = λ y asks. has_cell y (now_reached y asks);
      last = λ z asks. has_last z (last_reached z asks);
      previous = λ y asks. has_kept y (previous_reached y asks);
      left = λ ticking y k asks later. samples.now y k asks later;
      left_last = λ ticking z asks. last_left z m refl ticking asks;
    }

  -- ---- an entry

  module _ (e : Entry) (among : IsAmong e part.entries) where
    sides_seen : (equation : Equation) → slice_get s.model.equations e.equation ≡ Some equation → AreSidesSeen s S m base sight cells (clock e among) equation
    sides_seen (Clocks left right clause) found = tt
    sides_seen (Valued left right clause) found =
        let cut = start.piece.ordered.runs.equations e.equation (Valued left right clause) found in
        let classed = (facts s uses before own after partition start.piece).classed.sides e.equation left right clause found in
        let samples = start.shown.samples (use_of e) (Valued left right clause) (own_among s own showing.places part.entries part.cells.items classes laid e among) found in
        let valued = previous_valued s uses before own after partition start.piece e.equation left right clause found in (
          side_seen e among left cut.0 classed.0 (λ y asks. valued y (inl asks)) samples.0,
          side_seen e among right cut.1 classed.1 (λ y asks. valued y (inr asks)) samples.1,
        )

    entry_is : IsEntry s S m base sight cells e
    entry_is = let (equation, found, spine) = laid.spines e among in record {
      equation = equation;
      found = found;
      spine = spine;
      own = (new_cell e among, new_there e among);
      clock = clock e among;
      clock_found = clock_found e among;
      told = told e among;
      seen = sides_seen equation found;
    }

  apart : AreSitesApart s (uses_of part.entries) part.entries
  apart e class y among asks reads reached =
      let (site, factor, shift, condition, clock_is, found, some) = reads in
      let (d, there_among, is) = entry_of_reached s own showing.places part.entries part.cells.items classes laid y (subst (IsReachedBy y) laid.uses_are reached) in
      none-some (class_at d there_among).kept.class
      (sym (((facts s uses before own after partition start.piece).unclocked site condition found).names y some) ∙ ap (class_of_name s) is ∙ (class_at d there_among).of_name)

  -- a cell is of a name that is reached, and has no value
  holds : (x : ℕ) (cell : Cell) → cell_in showing.places cells x ≡ Some cell → cell.now ≡ base x
  holds x cell is =
      let at = there showing.places cells x cell is in
      let (was, was_found, written) = written_back (begun_at showing.answers classes clocks part.entries) part.cells.items cells at.place cell begins at.found in
      let (e, entry_found, named) = entry_of_cell s own showing.places part.entries part.cells.items classes laid at.place was was_found in
      let reached = own_reached s own showing.places part.entries part.cells.items classes laid e (at_among part.entries at.place e entry_found) in
      let same : e.name ≡ x = sym named ∙ ap (λ d. d.name) (sym written) ∙ at.named in
      ap (λ d. d.now) written ∙ sym (start.clear x (subst (λ y. IsReachedBy y own) same reached))

  pub starts : IsStart s uses before after S m base sight part.entries cells
  starts = record {
    ordered = subst (λ us. IsOrdered s uses (before ++ (us ++ after))) (sym laid.uses_are) start.piece.ordered;
    meets = start.meets;
    typed = start.typed;
    sound = start.sound;
    clear = subst (λ us. IsClear us base) (sym laid.uses_are) start.clear;
    apart = apart;
    model = start.shown.model;
    holds = holds;
    each = entry_is;
  }

  -- ---- a start of their code

  same_class : (a d : Entry) → IsAmong a part.entries → IsAmong d part.entries → a.clock ≡ d.clock → class_of_equation s a.equation ≡ class_of_equation s d.equation
  same_class a d in_a in_d same =
      let kept : (class_at a in_a).kept ≡ (class_at d in_d).kept = same_Some (class_at a in_a).kept (class_at d in_d).kept (sym (class_at a in_a).found ∙ ap (slice_get classes) same ∙ (class_at d in_d).found) in
      (class_at a in_a).of_equation ∙ ap (λ k. Some k.class) kept ∙ sym (class_at d in_d).of_equation

  kept_at : (i : ℕ) (cell : Cell) → slice_get cells i ≡ Some cell → KeepsLast s S m cell.name cell
  kept_at i cell found =
      let (was, was_found, written) = written_back (begun_at showing.answers classes clocks part.entries) part.cells.items cells i cell begins found in
      subst (λ d. KeepsLast s S m d.name d) (sym written) (start.stands.values i was was_found)

  sampled : (e : Entry) → IsAmong e part.entries → (side : Expr) → IsSideOf showing.equations e side → IsSampledBy s S m sight side
  sampled e among side of =
      let samples = start.shown.samples (use_of e) of.equation (own_among s own showing.places part.entries part.cells.items classes laid e among) (ap (λ es. slice_get es e.equation) (sym start.shown.model) ∙ of.found) in
      by_equation of.equation of.solved samples
    where
      by_equation : (equation : Equation) → IsSolvedSide e.name equation side → AreSamplesShown s S m showing.left equation → IsSampledBy s S m sight side
      by_equation (Valued left right clause) solved both = record {
        now = λ y k asks. elim (solved_asks e.name left right clause side solved 1 (OfNow y) asks) [ inl one ↦ both.0.now y k one | inr one ↦ both.1.now y k one ];
        last = λ z k asks. elim (solved_asks e.name left right clause side solved 1 (OfLast z) asks) [ inl one ↦ both.0.last z k one | inr one ↦ both.1.last z k one ];
      }
      by_equation (Clocks left right clause) solved both = absurd solved

  pub code_starts : IsCodeStart s uses before after partition S m base sight part.entries cells
  code_starts = record {
    start = starts;
    of = in_partition;
    whole = λ entry used within. subst (λ us. Contains us entry) (sym laid.uses_are) (start.piece.whole entry used within);
    one_class = same_class;
    named = λ i cell found.
        let (was, was_found, written) = written_back (begun_at showing.answers classes clocks part.entries) part.cells.items cells i cell begins found in
        let (e, entry_found, named) = entry_of_cell s own showing.places part.entries part.cells.items classes laid i was was_found in
        (e, entry_found, ap (λ d. d.name) written ∙ named);
    placed = λ i e found. laid.placed i e.name (ap (λ ns. slice_get ns i) laid.names_are ∙ at_map (λ d. d.name) part.entries i e found);
    keeps = kept_at;
    samples = λ e side among of. sampled e among side of;
  }

  -- what is shown of a clock that ticks can be measured
  clock_measured : (j : ℕ) (clock : ClockNow) → slice_get clocks j ≡ Some clock → IsMeasuredClock clock
  clock_measured j clock found ticking =
      let (kept, kept_found) = some_at classes j (let within = slice_get_within clocks j clock found in let size = tells.size in let room = start.part_of.room in omega (arith, within, size, room)) in
      let (old, is) = clock_told j kept kept_found in
      let same : clock ≡ shown_clock showing.ticks showing.moment kept old = same_Some clock (shown_clock showing.ticks showing.moment kept old) (sym found ∙ is) in
      let ticks = sym (start.shown.ticks kept.class) ∙ ap (λ k. k.ticks) (sym same) ∙ ticking in
      let (at, moment) = instant_of s B m kept.class showing.moment start.shown.here ticks in
      subst (λ k. IsMeasurable (shown_elapsed k.first k.interval)) (sym same)
      (subst (λ at_moment. IsMeasurable (shown_elapsed (is_none kept.ticked) (elapsed_at kept.clock kept.ticked at_moment old.interval))) (sym moment)
      (measured_is s m at (start.shown.here ∙ ap Some moment) (class_ticks s S (Some kept.class)) old.interval start.measured kept.ticked (start.stands.ticks j kept kept_found) kept.clock))

  pub all_measured : All IsMeasuredClock clocks
  all_measured = λ j d within. clock_measured j (get_or clocks j d) (slice_get-get_or clocks j d within)
