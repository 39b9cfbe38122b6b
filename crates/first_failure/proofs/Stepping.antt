-- One line of a careful run, before others.
use Rattle.std.proofs.Common.{◌≡◌, ◌≢◌, refl, ap, ap₂, sym, subst, ◌∙◌, ℕ, ◌<◌, ◌==◌, ◌&&◌, Bool, true, false, if◌then◌else◌, ℤ, List, [], ◌∷◌, ◌++◌, Option, Some, None, IsSome, Contains, eq-eqb, inl, inr}
use Rattle.std.proofs.lemmas.Bool.{false≢true, eqb-true}
use Rattle.std.proofs.lemmas.Option.{same_Some}
use Rattle.sync_values.specs.declared.value.Value.{Value}
use Rattle.sync_values.specs.declared.value.Fail.{Fail}
use Rattle.flat_model.specs.Assignment.{Assignment, IsOfKind}
use Rattle.flat_model.specs.Faults.{EquationFails}
use Rattle.flat_model.specs.Given.{Row, with_row, CanUse, Solves}
use Rattle.flat_model.specs.Setting.{Setting, class_of_name, class_ticks}
use Rattle.flat_model.specs.Uses.{Use, AreUses}
use Rattle.moment_theory.specs.Free.{IsReachedBy, IsFree, IsOrdered}
use Rattle.moment_theory.specs.Sound.{IsSound, IsClear}
use Rattle.moment_theory.specs.Taken.{put, Gives, IsTaken, AreTaken}
use Rattle.moment_theory.proofs.FromRunnable.{facts_of}
use Rattle.moment_theory.proofs.Once.{one_use}
use Rattle.step_code.specs.declared.machine.Op.TheVariants.{Guard}
use Rattle.step_code.specs.Machine.{result_of}
use Rattle.step_code.specs.Code.{Cells}
use Rattle.step_code.specs.Lines.{Line, AreApart, IsNoCell, IsKeptBut}
use Rattle.step_lines.specs.declared.running.Failing.{Failing}
use Rattle.step_lines.specs.Stretches.{RunsLines}
use Rattle.side_theory.specs.Kept.{IsSet, IsClockSet}
use Rattle.side_theory.specs.Sides.{IsSideUse}
use Rattle.side_theory.proofs.Counting.{free_behind}
use Rattle.side_theory.proofs.Showing.{ticks_same}
use Rattle.side_theory.proofs.Side.{SideFacts, side_facts}
use Rattle.part_stretches.specs.Parts.{AreAlike}
use Rattle.part_stretches.specs.Running.{tick_in}
use Rattle.first_failure.specs.declared.careful.LoneLine.{LoneLine}
use Rattle.first_failure.specs.Careful.{CarefulState, all_in, with_bit, is_ready, Marks, RunsLone}
use Rattle.first_failure.specs.CarefulLaws.{Source, entries_of, IsSource, AreSources, AreTicked, AreMarked, IsStart}
use Rattle.first_failure.specs.Lone.{IsSetFor, LoneEnds}
use Rattle.first_failure.specs.Ready.{IsReadable, HasAllReads, IsLeftOut}
use Rattle.first_failure.proofs.Alone.{alone}
use Rattle.first_failure.proofs.Joining.{Told, Well, Ill}
use Rattle.first_failure.proofs.Marking.{bit_same, bit_other, bit_size, both_true, in_at, in_of}
use Rattle.first_failure.proofs.Readying.{out_resting, out_unready}
use Rattle.first_failure.proofs.Turning.{front_sound}

-- a use that gives a value does not fail
pub gives_or_fails : (s : Setting) (uses : List Use) → AreUses s uses → (entry : Use) → Contains uses entry → (S : Assignment) (m : ℕ) (row : Row) (v : Value) (kind : Fail)
    → Gives s S m row entry v → EquationFails s (with_row S m row) uses m entry.equation kind → ⊥
gives_or_fails s uses are entry used S m row v kind gives fails =
    let same : fails.entry ≡ entry = one_use s uses are fails.entry entry fails.used used fails.equation_is in
    let counts : CanUse s (with_row S m row) m entry fails.equation fails.name = subst (λ e. CanUse s (with_row S m row) m e fails.equation fails.name) same fails.counts in
    let equations : gives.equation ≡ fails.equation = same_Some gives.equation fails.equation (sym gives.can.equation_is ∙ counts.equation_is) in
    let names : gives.name ≡ fails.name = same_Some gives.name fails.name (sym gives.can.name_is ∙ counts.name_is) in
    fails.unsolved v (subst (λ n. IsOfKind n.kind v) names gives.only.typed)
    (subst (λ e. Solves s (with_row S m row) m entry.equation fails.equation e.name v) (sym same) (subst (λ q. Solves s (with_row S m row) m entry.equation q entry.name v) equations gives.only.solves))

-- cells that are set by one table are so by one that is alike
pub set_alike : (s : Setting) (S : Assignment) (m : ℕ) (row : Row) (a b : Cells) (t : ℕ) (cells : List ℤ) → AreAlike a b → IsSet s S m row a t cells → IsSet s S m row b t cells
set_alike s S m row a b t cells alike set = record {
  now = λ x c v is. set.now x c v (alike.now 0 x ∙ is);
  kept = λ x c v is. set.kept x c v (alike.now 0 x ∙ is);
  previous = λ x c v is. set.previous x c v (alike.previous 0 x ∙ is);
  left = λ x c k v is. set.left x c k v (alike.now 1 x ∙ is);
  left_last = λ x c v is. set.left_last x c v (alike.last 1 x ∙ is);
  const = λ k c v is. set.const k c v (alike.const k v ∙ is);
}

pub alike_back : (a b : Cells) → AreAlike a b → AreAlike b a
alike_back a b alike = record { now = λ k x. sym (alike.now k x); previous = λ k x. sym (alike.previous k x); last = λ k x. sym (alike.last k x); const = λ k v. sym (alike.const k v) }

-- what is told of a clock stays where the cells that tell of it do
clock_kept : (s : Setting) (S : Assignment) (m class : ℕ) (there : Cells) (t : ℕ) (old new : List ℤ) (line : Line) → IsKeptBut t (line ∷ []) old new → AreApart there → (there 0).now line.name ≡ Some line.cell
    → IsClockSet s S m class there t old → IsClockSet s S m class there t new
clock_kept s S m class there t old new line kept apart cell clock = record {
  first = λ c is. let h = clock.first c is in (h.0, kept c h.0 (other c (λ now. apart.first 0 line.name c now is)) ∙ h.1);
  interval = λ n c is. let h = clock.interval n c is in
      (h.0, h.1, ap₂ (λ a b. result_of Guard a b) (kept ((there 0).unfit n) h.1 (other ((there 0).unfit n) (λ now. apart.unfit 0 line.name n now))) (kept c h.0 (other c (λ now. apart.interval 0 line.name n c now is))) ∙ h.2);
}
  where
    other : (c : ℕ) → ((there 0).now line.name ≡ Some c → ⊥) → IsNoCell c (line ∷ [])
    other c none = (λ own. none (cell ∙ ap Some (sym own)), tt)

-- what a line does, before the others
pub record Stepped (s : Setting) (uses : List Use) (common : Cells) (t : ℕ) (S : Assignment) (m : ℕ) (ticking : List Bool) (row : Row) (entry : Use) (lines : List LoneLine) (sources : List Source) (from mid : CarefulState) : Type 0 where
  pub next : Row
  pub step : IsTaken s S m entry row next
  pub start : IsStart s S m next (entries_of sources) common t mid.cells mid.marks
  pub ticked : AreTicked s S m next ticking t mid.cells lines sources
  pub told : Told s uses S m row entry from.told mid.told

module _ (s : Setting) (uses before after : List Use) (common : Cells) (t : ℕ) (one : LoneLine) (source : Source) (is : IsSource s uses common t one source) (sources : List Source)
    (ordered : IsOrdered s uses (before ++ (entries_of (source ∷ sources) ++ after))) (S : Assignment) (m : ℕ) (row : Row) (from : CarefulState) (start : IsStart s S m row (entries_of (source ∷ sources)) common t from.cells from.marks) where
  abbrev entry : Use
  entry = source.entry

  abbrev class : ℕ
  class = one.class

  abbrev A : Assignment
  A = with_row S m row

  used : Contains uses entry
  used = is.lone.lines.0.0

  side_use : IsSideUse s entry source.line.side class
  side_use = is.lone.lines.0.2

  facts : SideFacts s entry source.line.side class
  facts = side_facts s uses ordered.runs ordered.uses_are.uses_are entry source.line.side class used side_use

  free : IsFree s entry (entries_of sources ++ after)
  free = (free_behind s before (entry ∷ (entries_of sources ++ after)) ordered.free).0

  cell_is : (common 0).now entry.name ≡ Some one.cell
  cell_is = is.alike.now 0 entry.name ∙ subst (λ x. (source.at 0).now x ≡ Some source.line.cell) is.lone.lines.0.1 is.lone.celled.0.cell ∙ ap Some (sym is.cell)

  line_cell_is : (common 0).now source.line.name ≡ Some source.line.cell
  line_cell_is = is.alike.now 0 source.line.name ∙ is.lone.celled.0.cell

  all_reads : all_in from.marks one.reads.items ≡ true → HasAllReads s S m row entry
  all_reads all y other reads = let (c, now, listed) = is.reads y other reads in start.marked.readable y c now (in_at from.marks one.reads.items c all listed)

  all_marked : HasAllReads s S m row entry → all_in from.marks one.reads.items ≡ true
  all_marked readable = in_of from.marks one.reads.items (λ c listed. let (y, other, reads, now) = is.only c listed in start.marked.marked y c now (readable y other reads))

  left_out : (a b : Bool) → class_ticks s A (Some class) m ≡ a → all_in from.marks one.reads.items ≡ b → (a && b) ≡ false → IsLeftOut s uses S m row entry
  left_out false b tick all not = out_resting s uses ordered.runs ordered.uses_are.uses_are entry source.line.side class used side_use S m row tick
  left_out true false tick all not = out_unready s uses ordered.runs ordered.uses_are.uses_are entry source.line.side class used side_use S m row (λ readable. false≢true (sym all ∙ all_marked readable))
  left_out true true tick all not = absurd (false≢true (sym not))

  clear_rest : IsClear (entries_of sources) row
  clear_rest y reached = start.clear y (inr reached)

  -- the others over cells that are kept but for the line's
  module _ (ticking : List Bool) (new : List ℤ) (kept : IsKeptBut t (source.line ∷ []) from.cells new) (next : Row) (still : (c : Option ℕ) → class_ticks s A c m ≡ class_ticks s (with_row S m next) c m) where
    ticked_on : (lines : List LoneLine) (others : List Source) → AreSources s uses common t lines others → AreTicked s S m row ticking t from.cells lines others → AreTicked s S m next ticking t new lines others
    ticked_on [] [] are told = tt
    ticked_on [] (other ∷ others) are told = tt
    ticked_on (line ∷ lines) [] are told = tt
    ticked_on (line ∷ lines) (other ∷ others) are told = (
      (
        told.0.0 ∙ still (Some line.class),
        λ tick. clock_kept s S m line.class other.at t from.cells new source.line kept are.0.lone.apart (sym (are.0.alike.now 0 source.line.name) ∙ line_cell_is) (told.0.1 tick),
      ),
      ticked_on lines others are.1 told.1,
    )

  -- the line gives a value
  module _ (v : Value) (gives : Gives s S m row entry v) (ticks : class_ticks s A (Some class) m ≡ true) where
    abbrev with_v : Row
    with_v = put row entry.name v

    still : (c : Option ℕ) → class_ticks s A c m ≡ class_ticks s (with_row S m with_v) c m
    still = ticks_same s (facts_of s ordered.runs).unclocked S m row class entry.name v ticks facts.clocked facts.sites

    put_other : (y : ℕ) → y ≢ entry.name → with_v y ≡ row y
    put_other y other = by_name (y == entry.name) refl
      where
        by_name : (b : Bool) → y == entry.name ≡ b → (if b then Some v else row y) ≡ row y
        by_name true same = absurd (other (eqb-true y entry.name same))
        by_name false same = refl

    put_own : (y : ℕ) → y ≡ entry.name → with_v y ≡ Some v
    put_own y same = ap (λ b. if b then Some v else row y) (eq-eqb y entry.name same)

    clear_put : IsClear (entries_of sources) with_v
    clear_put y reached = put_other y (λ own. free.once (subst (λ z. IsReachedBy z (entries_of sources ++ after)) own (front_reached (entries_of sources) reached))) ∙ clear_rest y reached
      where
        front_reached : (some : List Use) → IsReachedBy y some → IsReachedBy y (some ++ after)
        front_reached [] h = absurd h
        front_reached (e ∷ some) (inl same) = inl same
        front_reached (e ∷ some) (inr h) = inr (front_reached some h)

    taken_one : AreTaken s S m (entry ∷ []) row with_v
    taken_one = (with_v, inl (v, gives, λ y. refl), λ y. refl)

    sound_put : IsSound s (with_row S m with_v) m
    sound_put = front_sound s uses before after S m row row start.sound (entry ∷ []) (entries_of sources) ordered start.clear with_v taken_one

    own_cell : (y : ℕ) → (common 0).now y ≡ Some one.cell → y ≡ entry.name
    own_cell y now = is.lone.apart.now y entry.name one.cell (sym (is.alike.now 0 y) ∙ now) (sym (is.alike.now 0 entry.name) ∙ cell_is)

    readable_put : (y : ℕ) → IsReadable s S m row y → IsReadable s S m with_v y
    readable_put y (inl rests) = inl (sym (still (class_of_name s y)) ∙ rests)
    readable_put y (inr some) = inr (by_name (y == entry.name))
      where
        by_name : (b : Bool) → IsSome (if b then Some v else row y)
        by_name true = refl
        by_name false = some

    readable_back : (y : ℕ) → y ≢ entry.name → IsReadable s S m with_v y → IsReadable s S m row y
    readable_back y other (inl rests) = inl (still (class_of_name s y) ∙ rests)
    readable_back y other (inr some) = inr (subst IsSome (put_other y other) some)

    marked_put : AreMarked s S m with_v common (with_bit from.marks one.cell)
    marked_put = record {
      within = λ y c now. subst (λ n. c < n) (sym (bit_size from.marks one.cell)) (start.marked.within y c now);
      readable = λ y c now set. readable_at y c now set (c == one.cell) refl;
      marked = λ y c now readable. marked_at y c now readable (c == one.cell) refl;
    }
      where
        not_cell : (c : ℕ) → c == one.cell ≡ false → c ≢ one.cell
        not_cell c differs same = false≢true (sym differs ∙ eq-eqb c one.cell same)

        readable_at : (y c : ℕ) → (common 0).now y ≡ Some c → tick_in (with_bit from.marks one.cell) c ≡ true → (b : Bool) → c == one.cell ≡ b → IsReadable s S m with_v y
        readable_at y c now set true same =
            let own : y ≡ entry.name = own_cell y (now ∙ ap Some (eqb-true c one.cell same)) in
            inr (subst IsSome (sym (put_own y own)) refl)
        readable_at y c now set false other = readable_put y (start.marked.readable y c now (sym (bit_other from.marks one.cell c (not_cell c other)) ∙ set))

        marked_at : (y c : ℕ) → (common 0).now y ≡ Some c → IsReadable s S m with_v y → (b : Bool) → c == one.cell ≡ b → tick_in (with_bit from.marks one.cell) c ≡ true
        marked_at y c now readable true same =
            let cell : c ≡ one.cell = eqb-true c one.cell same in
            ap (tick_in (with_bit from.marks one.cell)) cell ∙ bit_same from.marks one.cell (start.marked.within entry.name one.cell cell_is)
        marked_at y c now readable false differs =
            let other : y ≢ entry.name = λ own. not_cell c differs (same_Some c one.cell (sym now ∙ ap (λ x. (common 0).now x) own ∙ cell_is)) in
            bit_other from.marks one.cell c (not_cell c differs) ∙ start.marked.marked y c now (readable_back y other readable)

  -- what the line does where it is left out, where it gives a value, and where it fails
  module _ (ticking : List Bool) (lines : List LoneLine) (are : AreSources s uses common t lines sources) (ticked : AreTicked s S m row ticking t from.cells (one ∷ lines) (source ∷ sources)) where
    abbrev Done : CarefulState → Type 0
    Done mid = Stepped s uses common t S m ticking row entry lines sources from mid

    passed : IsLeftOut s uses S m row entry → (mid : CarefulState) → mid ≡ from → Done mid
    passed out mid same = subst Done (sym same) (record {
      next = row;
      step = inr (out.gives, λ y. refl);
      start = record { meets = start.meets; typed = start.typed; sound = start.sound; clear = clear_rest; set = start.set; marked = start.marked };
      ticked = ticked.1;
      told = Well out.fails refl;
    })

    ended : (ticks : class_ticks s A (Some class) m ≡ true) (mid : CarefulState) (stop : Option Failing) → LoneEnds s uses S m row entry source.at t mid.cells stop → IsKeptBut t (source.line ∷ []) from.cells mid.cells → Marks one from mid stop → Done mid
    ended ticks mid None (v, gives, typed, set) kept (marks, told) = record {
      next = put row entry.name v;
      step = inl (v, gives, λ y. refl);
      start = record {
        meets = start.meets;
        typed = typed;
        sound = sound_put v gives ticks;
        clear = clear_put v gives ticks;
        set = set_alike s S m (put row entry.name v) source.at common t mid.cells (alike_back common source.at is.alike) set;
        marked = subst (AreMarked s S m (put row entry.name v) common) (sym marks) (marked_put v gives ticks);
      };
      ticked = ticked_on ticking mid.cells kept (put row entry.name v) (still v gives ticks) lines sources are ticked.1;
      told = Well (λ kind fails. gives_or_fails s uses ordered.uses_are.uses_are entry used S m row v kind gives fails) told;
    }
    ended ticks mid (Some failing) (fails, set) kept (marks, told) = record {
      next = row;
      step = inr (λ v gives. gives_or_fails s uses ordered.uses_are.uses_are entry used S m row v failing.kind gives fails, λ y. refl);
      start = record {
        meets = start.meets;
        typed = start.typed;
        sound = start.sound;
        clear = clear_rest;
        set = set_alike s S m row source.at common t mid.cells (alike_back common source.at is.alike) set;
        marked = subst (AreMarked s S m row common) (sym marks) start.marked;
      };
      ticked = ticked_on ticking mid.cells kept row (λ c. refl) lines sources are ticked.1;
      told = Ill (record { equation = one.equation; kind = failing.kind }) is.equation fails told;
    }

    ran : tick_in ticking class ≡ true → all_in from.marks one.reads.items ≡ true → (mid : CarefulState) (stop : Option Failing) → RunsLines one.stretch from.cells mid.cells stop → Marks one from mid stop → Done mid
    ran tick all mid stop runs marks =
        let ticks : class_ticks s A (Some class) m ≡ true = sym ticked.0.0 ∙ tick in
        let ready : IsSetFor s S m row class entry source.at t from.cells = record {
          meets = start.meets;
          typed = start.typed;
          clear = start.clear entry.name (inl refl);
          ticks = ticks;
          reads = all_reads all;
          set = set_alike s S m row common source.at t from.cells is.alike start.set;
          clock = ticked.0.1 tick;
        } in
        let (ends, kept) = alone s uses before (entries_of sources ++ after) entry ordered class source.at t source.line one.stretch is.lone S m row from.cells mid.cells stop ready runs in
        ended ticks mid stop ends kept marks

    pub stepped : (b : Bool) → is_ready ticking from.marks one ≡ b → (mid : CarefulState) → RunsLone b one from mid → Done mid
    stepped false not mid same = passed (left_out (tick_in ticking class) (all_in from.marks one.reads.items) (sym ticked.0.0) refl not) mid same
    stepped true ready mid (stop, runs, marks) = let (tick, all) = both_true (tick_in ticking class) (all_in from.marks one.reads.items) ready in ran tick all mid stop runs marks
