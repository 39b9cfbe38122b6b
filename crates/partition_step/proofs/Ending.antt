-- What a step leaves.
use Rattle.std.proofs.Common.{◌≡◌, ◌≢◌, refl, ap, ap₂, ◌∙◌, sym, subst, ℕ, suc, Bool, true, false, if◌then◌else◌, List, length, Option, Some, None, slice_get, unwrap_or, arith}
use Rattle.std.specs.Prelude.{option_map, IfSome}
use Rattle.std.proofs.lemmas.Option.{same_Some, slice_get-map, slice_get_within, slice_get_past}
use Rattle.sync_values.specs.declared.value.Value.{Value}
use Rattle.rational_time.specs.declared.ratio.Ratio.{Ratio}
use Rattle.flat_model.specs.declared.clock.Moment.{Moment}
use Rattle.flat_model.specs.declared.clock.Moment.TheVariants.{Initial, At}
use Rattle.flat_model.specs.declared.model.FlatName.{FlatName}
use Rattle.flat_model.specs.declared.model.NameKind.{NameKind}
use Rattle.flat_model.specs.declared.model.NameKind.TheVariants as kind
use Rattle.flat_model.specs.Assignment.{Assignment, tick_before, previous_value}
use Rattle.flat_model.specs.Given.{Row}
use Rattle.flat_model.specs.Meets.{HasValueAtTicks}
use Rattle.flat_model.specs.Setting.{Setting, start_of, class_ticks, name_ticks}
use Rattle.flat_model.specs.Uses.{Use}
use Rattle.moment_theory.specs.Free.{IsReachedBy}
use Rattle.moment_theory.specs.Taken.{AreTaken}
use Rattle.first_failure.specs.declared.least.EquationFailing.{EquationFailing}
use Rattle.first_failure.specs.Turns.{FailsAmong, IsLeast}
use Rattle.tree_step.specs.declared.cell.Cell.{Cell}
use Rattle.tree_step.specs.declared.frame.ClockNow.{ClockNow}
use Rattle.tree_step.specs.declared.taking.Entry.{Entry}
use Rattle.tree_step.specs.Cells.{cell_in}
use Rattle.tree_step.specs.Frames.{now_in}
use Rattle.tree_step.specs.Starts.{use_of, uses_of, IsAmong, KeepsLast}
use Rattle.tree_step.specs.Takes.{IsSameCell, HasTaken}
use Rattle.partition_step.specs.declared.part.ClassKept.{ClassKept}
use Rattle.partition_step.specs.declared.part.Outcome.{Outcome}
use Rattle.partition_step.specs.declared.part.Outcome.TheVariants.{Stepped, Failed}
use Rattle.partition_step.specs.declared.part.Part.{Part}
use Rattle.partition_step.specs.Parts.{IsLaid, IsPartOf, IsTickedAt, KeepsTick, StandsFor, names_of, numbers_of, clocks_of}
use Rattle.partition_step.specs.Steps.{Showing, IsStepStart, failing_in, GoesOnWith, HasStepped}
use Rattle.part_code.specs.Coded.{IsCodeOf}
use Rattle.partition_step.specs.private.Coding.{IsSameOption}
use Rattle.partition_step.specs.private.Stepping.{shown_at, begun_at, kept_cell, ticked_class, ticked_from, ticked_at}
use Rattle.partition_step.specs.Writing.{IsWritten}
use Rattle.partition_step.proofs.SameCode.{same_option}
use Rattle.partition_step.proofs.Intervals.{rests_at_initial}
use Rattle.partition_step.proofs.Lists.{lists_same, none_past, some_at, at_map, map_kept, written_none, written_at, written_back}
use Rattle.partition_step.proofs.Placing.{own_there, there, at_among, own_among, own_reached, entry_of_reached, CellOf, entry_of_cell}
use Rattle.partition_step.proofs.Reaching.{use_facts}
use Rattle.partition_step.proofs.Resting.{keeps_rest, keeps_tick, tick_rests}
use Rattle.partition_step.proofs.Starting.{sight, clock_told, old_cell, new_cell, new_there}

-- a cell that is the same but for its value
record Same (cell : Cell) (o : Option Cell) : Type 0 where
  other : Cell
  is : o ≡ Some other
  kept : other.kept ≡ cell.kept

same_as : (cell : Cell) (o : Option Cell) → IsSameCell (Some cell) o → Same cell o
same_as cell None same = absurd same
same_as cell (Some other) same = record { other = other; is = refl; kept = same.1 }

-- the value of a name at a moment at which the model is met
value_where : (k : NameKind) (o : Option Value) → k ≢ kind.Clock → HasValueAtTicks k true o → (v : Value) × (o ≡ Some v)
value_where kind.Integer o valued has = (has.0, has.1)
value_where kind.Boolean o valued has = (has.0, has.1)
value_where kind.Clock o valued has = absurd (valued refl)

none_where : (k : NameKind) (o : Option Value) → HasValueAtTicks k false o → o ≡ None
none_where kind.Integer o has = has
none_where kind.Boolean o has = has
none_where kind.Clock o has = has

-- a class that keeps its tick is the same class
number_by : (b : Bool) (at : Ratio) (kept : ClassKept) → (ticked_class b at kept).class ≡ kept.class
number_by true at kept = refl
number_by false at kept = refl

number_from : (o : Option ClockNow) (at : Ratio) (kept : ClassKept) → (ticked_from at o kept).class ≡ kept.class
number_from None at kept = refl
number_from (Some clock) at kept = number_by clock.ticks at kept

number_kept : (moment : Moment) (clocks : List ClockNow) (j : ℕ) (kept : ClassKept) → (ticked_at moment clocks j kept).class ≡ kept.class
number_kept Initial clocks j kept = refl
number_kept (At at) clocks j kept = number_from (slice_get clocks j) at kept

kind_by : (b : Bool) (at : Ratio) (kept : ClassKept) → (ticked_class b at kept).clock ≡ kept.clock
kind_by true at kept = refl
kind_by false at kept = refl

kind_from : (o : Option ClockNow) (at : Ratio) (kept : ClassKept) → (ticked_from at o kept).clock ≡ kept.clock
kind_from None at kept = refl
kind_from (Some clock) at kept = kind_by clock.ticks at kept

kind_kept : (moment : Moment) (clocks : List ClockNow) (j : ℕ) (kept : ClassKept) → (ticked_at moment clocks j kept).clock ≡ kept.clock
kind_kept Initial clocks j kept = refl
kind_kept (At at) clocks j kept = kind_from (slice_get clocks j) at kept

module _ (s : Setting) (uses before own after : List Use) (partition : ℕ) (S : Assignment) (m : ℕ) (base : Row) (showing : Showing) (part : Part) (start : IsStepStart s uses before own after partition S m base showing part)
    (clocks : List ClockNow) (tells : IsWritten (shown_at showing.ticks showing.moment part.classes.items) part.clocks.items clocks)
    (cells : List Cell) (begins : IsWritten (begun_at showing.answers part.classes.items clocks part.entries) part.cells.items cells)
    (taken : List Cell) (result : Option EquationFailing) (long : length taken ≡ length cells) (has : HasTaken s uses S m base (sight s uses before own after partition S m base showing part start clocks tells cells begins) part.entries cells taken result) where
  abbrev row : Row
  row = has.own

  abbrev laid : IsLaid s own showing.places part.entries (names_of part.cells.items) (numbers_of part.classes.items) (clocks_of part.classes.items)
  laid = start.part_of.laid

  -- a cell once the uses are taken
  record IsTaken (i : ℕ) (old : Cell) : Type 0 where
    new : Cell
    found : slice_get taken i ≡ Some new
    named : new.name ≡ old.name
    reached : IsReachedBy old.name own
    kept : new.kept ≡ old.kept
    now : new.now ≡ row old.name

  module _ (i : ℕ) (old : Cell) (old_found : slice_get part.cells.items i ≡ Some old) where
    abbrev of_cell : (e : Entry) × (slice_get part.entries i ≡ Some e) × (old.name ≡ e.name)
    of_cell = entry_of_cell s own showing.places part.entries part.cells.items part.classes.items laid i old old_found

    abbrev e : Entry
    e = of_cell.0

    abbrev among : IsAmong e part.entries
    among = at_among part.entries i e of_cell.1

    abbrev was : CellOf s own showing.places part.entries part.cells.items part.classes.items laid e
    was = old_cell s uses before own after partition S m base showing part start clocks tells cells begins e among

    abbrev begun_cell : Cell
    begun_cell = new_cell s uses before own after partition S m base showing part start clocks tells cells begins e among

    placed_here : slice_get showing.places e.name ≡ Some i
    placed_here = laid.placed i e.name (at_map (λ c. c.name) part.cells.items i old old_found ∙ ap Some of_cell.2)

    cell_is : was.cell ≡ old
    cell_is = same_Some was.cell old (sym was.found ∙ ap (slice_get part.cells.items) (same_Some was.place i (sym was.placed ∙ placed_here)) ∙ old_found)

    same : Same begun_cell (cell_in showing.places taken e.name)
    same = same_as begun_cell (cell_in showing.places taken e.name)
        (subst (λ o. IsSameCell o (cell_in showing.places taken e.name)) (new_there s uses before own after partition S m base showing part start clocks tells cells begins e among) (has.kept e.name))

    is_taken : IsTaken i old
    is_taken =
        let at = there showing.places taken e.name same.other same.is in record {
          new = same.other;
          found = ap (slice_get taken) (same_Some i at.place (sym placed_here ∙ at.placed)) ∙ at.found;
          named = at.named ∙ sym of_cell.2;
          reached = subst (λ x. IsReachedBy x own) (sym of_cell.2) (own_reached s own showing.places part.entries part.cells.items part.classes.items laid e among);
          kept = same.kept ∙ ap (λ c. c.kept) cell_is;
          now = has.holds e.name same.other same.is ∙ ap row (sym of_cell.2);
        }

  old_at : (i : ℕ) (new : Cell) → slice_get taken i ≡ Some new → (old : Cell) × (slice_get part.cells.items i ≡ Some old)
  old_at i new found = some_at part.cells.items i (let within = slice_get_within taken i new found in let size = begins.size in omega (arith, within, size, long))

  -- ---- what both outcomes leave

  name_at : (i : ℕ) (o : Option Cell) → slice_get part.cells.items i ≡ o → slice_get (names_of taken) i ≡ slice_get (names_of part.cells.items) i
  name_at i None none =
      let past = none_past part.cells.items i none in
      let size = begins.size in
      slice_get-map (λ c. c.name) taken i ∙ ap (option_map (λ c. c.name)) (slice_get_past taken i (omega (arith, past, size, long)) ∙ sym none) ∙ sym (slice_get-map (λ c. c.name) part.cells.items i)
  name_at i (Some old) some =
      let is = is_taken i old some in
      at_map (λ c. c.name) taken i is.new is.found ∙ ap Some is.named ∙ sym (at_map (λ c. c.name) part.cells.items i old some)

  names_same : names_of taken ≡ names_of part.cells.items
  names_same = lists_same (names_of taken) (names_of part.cells.items) (λ i. name_at i (slice_get part.cells.items i) refl)

  module _ (write : ℕ → Cell → Cell) (final : List Cell) (writes : IsWritten write taken final) (names : (i : ℕ) (c : Cell) → (write i c).name ≡ c.name) (nows : (i : ℕ) (c : Cell) → (write i c).now ≡ c.now) where
    final_holds : (x : ℕ) → IsReachedBy x own → now_in (cell_in showing.places final x) ≡ row x
    final_holds x reached =
        let (d, there_among, is) = entry_of_reached s own showing.places part.entries part.cells.items part.classes.items laid x reached in
        let at = old_cell s uses before own after partition S m base showing part start clocks tells cells begins d there_among in
        let t = is_taken at.place at.cell at.found in
        let named : at.cell.name ≡ x = at.named ∙ sym is in
        ap now_in (own_there showing.places final at.place x (write at.place t.new) (ap (slice_get showing.places) is ∙ at.placed) (written_at write taken final at.place t.new writes t.found) (names at.place t.new ∙ t.named ∙ named))
        ∙ nows at.place t.new ∙ t.now ∙ ap row named

    final_names : names_of final ≡ names_of part.cells.items
    final_names = map_kept (λ c. c.name) write taken final writes (λ i c found. names i c) ∙ names_same

    module _ (new : Part) (entries_are : new.entries ≡ part.entries) (cells_are : new.cells.items ≡ final) (room : length new.clocks.items ≡ length new.classes.items) (code_same : IsSameOption part.code new.code)
        (numbers : numbers_of new.classes.items ≡ numbers_of part.classes.items) (kinds : clocks_of new.classes.items ≡ clocks_of part.classes.items) where
      part_same : IsPartOf s own showing.places new
      part_same = record {
        laid = subst (λ es. IsLaid s own showing.places es (names_of new.cells.items) (numbers_of new.classes.items) (clocks_of new.classes.items)) (sym entries_are)
            (subst (λ ns. IsLaid s own showing.places part.entries ns (numbers_of new.classes.items) (clocks_of new.classes.items)) (sym (ap names_of cells_are ∙ final_names))
            (subst (λ ns. IsLaid s own showing.places part.entries (names_of part.cells.items) ns (clocks_of new.classes.items)) (sym numbers)
            (subst (λ ks. IsLaid s own showing.places part.entries (names_of part.cells.items) (numbers_of part.classes.items) ks) (sym kinds) laid)));
        room = room;
        coded = subst (λ es. IfSome new.code (IsCodeOf s.model.equations s.model.names es)) (sym entries_are) (same_option s.model.equations s.model.names part.entries part.code new.code code_same start.part_of.coded);
      }

      stepped_with : (outcome : Outcome) → failing_in outcome ≡ result → (outcome ≡ Stepped → (T : Assignment) → GoesOnWith s own S m row showing T → StandsFor s T (suc m) new) → HasStepped s uses own S m base showing new outcome
      stepped_with outcome told keeps = record {
        row = row;
        taken = subst (λ us. AreTaken s S m us base row) laid.uses_are has.taken;
        holds = λ x reached. ap (λ cs. now_in (cell_in showing.places cs x)) cells_are ∙ final_holds x reached;
        told = subst (λ us. IsLeast (FailsAmong s uses S m us row) (failing_in outcome)) laid.uses_are (subst (IsLeast (FailsAmong s uses S m (uses_of part.entries) row)) (sym told) has.told);
        part_of = part_same;
        keeps = keeps;
      }

  -- ---- with a failure

  pub fails : (new : Part) (failing : EquationFailing) → IsSameOption part.code new.code → result ≡ Some failing → new.entries ≡ part.entries → new.cells.items ≡ taken → new.classes.items ≡ part.classes.items → length new.clocks.items ≡ length part.clocks.items
      → HasStepped s uses own S m base showing new (Failed failing)
  fails new failing code_same told entries_are cells_are classes_are long_clocks =
      stepped_with (λ i c. c) taken (written_none (λ i c. c) taken (λ i c. refl)) (λ i c. refl) (λ i c. refl) new entries_are cells_are (long_clocks ∙ start.part_of.room ∙ sym (ap length classes_are)) code_same (ap numbers_of classes_are) (ap clocks_of classes_are)
      (Failed failing) (sym told) (λ same. absurd cc)

  -- ---- with none

  name_of : (i : ℕ) (old : Cell) → slice_get part.cells.items i ≡ Some old → (name : FlatName) × (slice_get s.model.names old.name ≡ Some name) × (name.kind ≢ kind.Clock)
  name_of i old found =
      let e = (of_cell i old found).0 in
      let facts = use_facts s uses before own after partition start.piece (use_of e) (own_among s own showing.places part.entries part.cells.items part.classes.items laid e (among i old found)) in
      (facts.name, ap (slice_get s.model.names) (of_cell i old found).2 ∙ facts.name_found, facts.valued)

  module _ (T : Assignment) (on : GoesOnWith s own S m row showing T) where
    value_next : (i : ℕ) (old : Cell) → slice_get part.cells.items i ≡ Some old → (b : Bool) → name_ticks s T old.name m ≡ b
        → previous_value (name_ticks s T old.name) (T old.name) (start_of s old.name) (suc m) ≡ Some (unwrap_or (row old.name) old.kept)
    value_next i old found true ticks =
        let t = is_taken i old found in
        let (name, name_found, valued) = name_of i old found in
        let (v, is) = value_where name.kind (T old.name m) valued (subst (λ b. HasValueAtTicks name.kind b (T old.name m)) ticks (on.meets.names old.name name name_found)) in
        keeps_tick s S T m on.agrees old.name v ticks is ∙ ap (λ o. Some (unwrap_or o old.kept)) (sym is ∙ on.values old.name t.reached)
    value_next i old found false ticks =
        let t = is_taken i old found in
        let (name, name_found, valued) = name_of i old found in
        let none = none_where name.kind (T old.name m) (subst (λ b. HasValueAtTicks name.kind b (T old.name m)) ticks (on.meets.names old.name name name_found)) in
        keeps_rest s S T m on.agrees old.name old.kept ticks (start.stands.values i old found) ∙ ap (λ o. Some (unwrap_or o old.kept)) (sym none ∙ on.values old.name t.reached)

    value_kept : (final : List Cell) → IsWritten kept_cell taken final → (i : ℕ) (cell : Cell) → slice_get final i ≡ Some cell → KeepsLast s T (suc m) cell.name cell
    value_kept final keeps i cell found =
        let (new, new_found, written) = written_back kept_cell taken final i cell keeps found in
        let (old, old_found) = old_at i new new_found in
        let t = is_taken i old old_found in
        let same : t.new ≡ new = same_Some t.new new (sym t.found ∙ new_found) in
        let named : cell.name ≡ old.name = ap (λ c. c.name) written ∙ ap (λ c. c.name) (sym same) ∙ t.named in
        let kept : cell.kept ≡ unwrap_or (row old.name) old.kept = ap (λ c. c.kept) written ∙ ap (λ c. unwrap_or c.now c.kept) (sym same) ∙ ap₂ (λ o v. unwrap_or o v) t.now t.kept in
        subst (λ x. previous_value (name_ticks s T x) (T x) (start_of s x) (suc m) ≡ Some cell.kept) (sym named) (value_next i old old_found (name_ticks s T old.name m) refl ∙ ap Some (sym kept))

    -- a class that is shown to tick, or not
    tick_kept : (at : Ratio) → showing.moment ≡ At at → (kept : ClassKept) → KeepsTick s S m kept → (b : Bool) → showing.ticks kept.class ≡ b → KeepsTick s T (suc m) (ticked_class b at kept)
    tick_kept at moment kept keeps true ticks =
        subst (λ o. IsTickedAt s o (Some at)) (sym (ap (λ b. if b then Some m else tick_before (class_ticks s T (Some kept.class)) m) (sym (on.ticks kept.class) ∙ ticks))) (start.shown.here ∙ ap Some moment)
    tick_kept at moment kept keeps false rests = tick_rests s S T m on.agrees kept (sym (on.ticks kept.class) ∙ rests) keeps

    ticked_is : (at : Ratio) (j : ℕ) (kept : ClassKept) → slice_get part.classes.items j ≡ Some kept → ticked_at (At at) clocks j kept ≡ ticked_class (showing.ticks kept.class) at kept
    ticked_is at j kept found = ap (λ o. ticked_from at o kept) (clock_told s uses before own after partition S m base showing part start clocks tells cells begins j kept found).1

    tick_next : (moment : Moment) → showing.moment ≡ moment → (j : ℕ) (kept : ClassKept) → slice_get part.classes.items j ≡ Some kept → KeepsTick s T (suc m) (ticked_at moment clocks j kept)
    tick_next Initial moment j kept found = tick_rests s S T m on.agrees kept (rests_at_initial s T m kept.class (start.shown.here ∙ ap Some moment)) (start.stands.ticks j kept found)
    tick_next (At at) moment j kept found = subst (KeepsTick s T (suc m)) (sym (ticked_is at j kept found)) (tick_kept at moment kept (start.stands.ticks j kept found) (showing.ticks kept.class) refl)

    class_kept : (noted : List ClassKept) → IsWritten (ticked_at showing.moment clocks) part.classes.items noted → (j : ℕ) (kept : ClassKept) → slice_get noted j ≡ Some kept → KeepsTick s T (suc m) kept
    class_kept noted notes j kept found =
        let (was, was_found, is) = written_back (ticked_at showing.moment clocks) part.classes.items noted j kept notes found in
        subst (KeepsTick s T (suc m)) (sym is) (tick_next showing.moment refl j was was_found)

  pub steps : (new : Part) (final : List Cell) → IsSameOption part.code new.code → IsWritten kept_cell taken final → (noted : List ClassKept) → IsWritten (ticked_at showing.moment clocks) part.classes.items noted
      → result ≡ None → new.entries ≡ part.entries → new.cells.items ≡ final → new.classes.items ≡ noted → length new.clocks.items ≡ length part.clocks.items → HasStepped s uses own S m base showing new Stepped
  steps new final code_same keeps noted notes told entries_are cells_are classes_are long_clocks =
      stepped_with kept_cell final keeps (λ i c. refl) (λ i c. refl) new entries_are cells_are (long_clocks ∙ start.part_of.room ∙ sym notes.size ∙ sym (ap length classes_are)) code_same
      (ap numbers_of classes_are ∙ map_kept (λ k. k.class) (ticked_at showing.moment clocks) part.classes.items noted notes (λ j k found. number_kept showing.moment clocks j k))
      (ap clocks_of classes_are ∙ map_kept (λ k. k.clock) (ticked_at showing.moment clocks) part.classes.items noted notes (λ j k found. kind_kept showing.moment clocks j k))
      Stepped (sym told) (λ same T on. record {
        values = λ i cell found. value_kept T on final keeps i cell (ap (λ cs. slice_get cs i) (sym cells_are) ∙ found);
        ticks = λ j kept found. class_kept T on noted notes j kept (ap (λ ks. slice_get ks j) (sym classes_are) ∙ found);
      })
