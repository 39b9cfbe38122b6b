-- A run in which no equation fails takes all uses, and the next stretch would begin with their values.
use Rattle.std.proofs.Common.{◌≡◌, refl, ap, sym, subst, ◌∙◌, ℕ, suc, Bool, true, false, ℤ, List, [], ◌∷◌, ◌++◌, append_assoc, Option, Some, None, IsSome, ◌⊎◌, inl, inr}
use Rattle.std.proofs.lemmas.Bool.{false≢true}
use Rattle.flat_model.specs.Assignment.{Assignment}
use Rattle.flat_model.specs.Given.{Row, with_row}
use Rattle.flat_model.specs.Setting.{Setting, class_of_name, partition_of, class_ticks, name_ticks}
use Rattle.flat_model.specs.Uses.{Use}
use Rattle.moment_theory.specs.Free.{IsReachedBy, AreFree, IsOrdered}
use Rattle.moment_theory.specs.Sound.{IsClear}
use Rattle.moment_theory.specs.Taken.{AreTaken}
use Rattle.moment_theory.proofs.Apart.{append_taken}
use Rattle.step_code.specs.Code.{Cells}
use Rattle.step_code.specs.Lines.{Line, AreApart, IsNoCell, IsKeptBut}
use Rattle.step_lines.specs.declared.running.Failing.{Failing}
use Rattle.step_lines.specs.Stretches.{RunsLines}
use Rattle.side_theory.specs.Counted.{Begins}
use Rattle.side_theory.specs.Kept.{IsSet, IsClockSet}
use Rattle.side_theory.specs.Runs.{AreCelled, AllTaken}
use Rattle.side_theory.specs.SetOn.{AreNoClockCells}
use Rattle.side_theory.proofs.Counting.{reached_split, free_behind}
use Rattle.side_theory.proofs.Keeping.{holds_row}
use Rattle.side_theory.proofs.SetCells.{taken_other}
use Rattle.part_stretches.specs.declared.running.ClassStretch.{ClassStretch}
use Rattle.part_stretches.specs.declared.running.PartFailing.{PartFailing}
use Rattle.part_stretches.specs.Running.{tick_in, GoesOn, RunsOne, RunsFrom}
use Rattle.part_stretches.specs.Parts.{Block, entries_of, AreAlike, AllBegin}
use Rattle.first_failure.proofs.Stepping.{set_alike, alike_back}
use Rattle.whole_runs.specs.Lines.{AreExpressing}
use Rattle.whole_runs.proofs.SetCells.{own_class, ticks_same, set_on, clock_on}
use Rattle.whole_runs.proofs.Onward.{run_takes}
use Rattle.whole_runs.specs.Whole.{IsCoded, AreCoded, AreShownBy}

no_failing : (failing : PartFailing) → (let none : Option PartFailing = None in none) ≡ Some failing → ⊥
no_failing failing e = cc

-- the cells that show a clock are no line's
no_clock_cells : (a b : Cells) (t : ℕ) → AreAlike a b → AreApart b → (there : Cells) → AreAlike a there → (ls : List Line) → AreCelled there t ls → AreNoClockCells b ls
no_clock_cells a b t alike apart there like ls celled = record {
  first = λ c is. none ls celled c (λ x now. apart.first 0 x c now is);
  interval = λ n c is. (none ls celled c (λ x now. apart.interval 0 x n c now is), none ls celled ((b 0).unfit n) (λ x now. apart.unfit 0 x n now));
}
  where
    none : (ls : List Line) → AreCelled there t ls → (c : ℕ) → ((x : ℕ) → (b 0).now x ≡ Some c → ⊥) → IsNoCell c ls
    none [] celled c off = tt
    none (l ∷ ls) celled c off = (λ own. off l.name (sym (alike.now 0 l.name) ∙ like.now 0 l.name ∙ celled.0.cell ∙ ap Some (sym own)), none ls celled.1 c off)

pub reached_behind : (y : ℕ) (some rest : List Use) → IsReachedBy y rest → IsReachedBy y (some ++ rest)
reached_behind y [] rest reached = reached
reached_behind y (entry ∷ some) rest reached = inr (reached_behind y some rest reached)

pub reached_before : (y : ℕ) (some rest : List Use) → IsReachedBy y some → IsReachedBy y (some ++ rest)
reached_before y [] rest reached = absurd reached
reached_before y (entry ∷ some) rest (inl is) = inl is
reached_before y (entry ∷ some) rest (inr reached) = inr (reached_before y some rest reached)

-- in a free order no name is reached twice
pub reached_once : (s : Setting) (y : ℕ) (some rest : List Use) → AreFree s (some ++ rest) → IsReachedBy y some → IsReachedBy y rest → ⊥
reached_once s y [] rest free one two = one
reached_once s y (entry ∷ some) rest free (inl is) two = free.0.once (subst (λ z. IsReachedBy z (some ++ rest)) is (reached_behind y some rest two))
reached_once s y (entry ∷ some) rest free (inr reached) two = reached_once s y some rest free.1 reached two

bare_end : (xs : List Use) → xs ++ [] ≡ xs
bare_end [] = refl
bare_end (x ∷ xs) = ap (λ ys. x ∷ ys) (bare_end xs)

module _ (s : Setting) (uses : List Use) (p : Option ℕ) (common : Cells) (t : ℕ) (S : Assignment) (m : ℕ) (ticking : List Bool) where
  -- all uses were taken, the cells are set over the row that they left, every class ticks over it as before, and whatever ticks would begin with it
  pub record Went (before own : List Use) (row : Row) (new : List ℤ) : Type 0 where
    pub last : Row
    pub taken : AreTaken s S m own row last
    pub set : IsSet s S m last common t new
    pub begins : AllBegin s p S m last (before ++ own)
    pub still : (c : Option ℕ) → class_ticks s (with_row S m row) c m ≡ class_ticks s (with_row S m last) c m

  -- uses of a class that rests are taken, and change nothing
  rest_taken : (class : ℕ) (row : Row) → class_ticks s (with_row S m row) (Some class) m ≡ false → (entries : List Use) (ls : List Line) → AreExpressing s uses class entries ls → AreTaken s S m entries row row
  rest_taken class row rests [] ls of = λ y. refl
  rest_taken class row rests (entry ∷ entries) [] of = absurd of
  rest_taken class row rests (entry ∷ entries) (l ∷ ls) of =
      (row, inr ((λ v gives. false≢true (sym rests ∙ ap (λ c. class_ticks s (with_row S m row) c m) (sym of.0.2.class_is) ∙ gives.can.ticks.1)), λ y. refl), rest_taken class row rests entries ls of.1)

  -- a stretch before the others
  front : (before : List Use) (block : Block) (blocks : List Block) (row mid : Row) (new : List ℤ) → AreTaken s S m block.entries row mid → ((c : Option ℕ) → class_ticks s (with_row S m row) c m ≡ class_ticks s (with_row S m mid) c m)
      → Went (before ++ block.entries) (entries_of blocks) mid new → Went before (block.entries ++ entries_of blocks) row new
  front before block blocks row mid new taken still others = record {
    last = others.last;
    taken = append_taken s S m block.entries (entries_of blocks) row mid others.last taken others.taken;
    set = others.set;
    begins = subst (AllBegin s p S m others.last) (append_assoc before block.entries (entries_of blocks)) others.begins;
    still = λ c. still c ∙ others.still c;
  }

  module _ (before after : List Use) (block : Block) (blocks : List Block) (ordered : IsOrdered s uses (before ++ ((block.entries ++ entries_of blocks) ++ after))) (one : ClassStretch) (is : IsCoded s uses p common t one block) (row : Row) (begins : AllBegin s p S m row before)
      (clear : IsClear (block.entries ++ entries_of blocks) row) (old : List ℤ) (set : IsSet s S m row common t old) where
    here : IsOrdered s uses (before ++ (block.entries ++ (entries_of blocks ++ after)))
    here = subst (λ z. IsOrdered s uses (before ++ z)) (append_assoc block.entries (entries_of blocks) after) ordered

    next : IsOrdered s uses ((before ++ block.entries) ++ (entries_of blocks ++ after))
    next = subst (IsOrdered s uses) (sym (append_assoc before block.entries (entries_of blocks ++ after))) here

    set_here : IsSet s S m row block.at t old
    set_here = set_alike s S m row common block.at t old is.alike set

    free : AreFree s (block.entries ++ (entries_of blocks ++ after))
    free = free_behind s before (block.entries ++ (entries_of blocks ++ after)) here.free

    -- its class rests
    begins_past : class_ticks s (with_row S m row) (Some block.class) m ≡ false → AllBegin s p S m row (before ++ block.entries)
    begins_past rests class partition ticks =
        let b = begins class partition ticks in
        record { meets = b.meets; typed = b.typed; all = λ y reached same now. by_order y (reached_split y before block.entries reached) same now; ticks = ticks }
      where
        by_order : (y : ℕ) → IsReachedBy y before ⊎ IsReachedBy y block.entries → partition_of s (class_of_name s y) ≡ partition_of s (Some class) → name_ticks s (with_row S m row) y m ≡ true → IsSome (row y)
        by_order y (inl h) same now = (begins class partition ticks).all y h same now
        by_order y (inr h) same now =
            absurd (false≢true (sym rests ∙ ap (λ c. class_ticks s (with_row S m row) c m) (sym (own_class s uses before block.entries (entries_of blocks ++ after) here block.class block.entries block.lines is.lines y h)) ∙ now))

    module _ (ticks : class_ticks s (with_row S m row) (Some block.class) m ≡ true) (clock : IsClockSet s S m block.class block.at t old) (mid : List ℤ) where
      start : Begins s S m row block.class before
      start = begins block.class is.partition ticks

      ran : RunsLines one.stretch old mid None → AllTaken s uses before block.entries S m row block.class block.at t mid × IsKeptBut t block.lines old mid
      ran runs = run_takes s uses before block.entries (entries_of blocks ++ after) here block.class block.lines is.lines (own_class s uses before block.entries (entries_of blocks ++ after) here block.class block.entries block.lines is.lines)
          block.at t S m row old mid one.stretch is.stretch is.apart is.celled is.booleans start (λ y reached. clear y (reached_before y block.entries (entries_of blocks) reached))
          (holds_row s S m row block.at t old block.class is.laid ticks set_here clock) runs

      module _ (all : AllTaken s uses before block.entries S m row block.class block.at t mid) (kept : IsKeptBut t block.lines old mid) where
        still_on : (c : Option ℕ) → class_ticks s (with_row S m row) c m ≡ class_ticks s (with_row S m all.last) c m
        still_on = ticks_same s uses before block.entries (entries_of blocks ++ after) here block.class block.lines is.lines block.at t is.apart is.celled S m row start old mid set_here kept all

        set_next : IsSet s S m all.last common t mid
        set_next = set_alike s S m all.last block.at common t mid (alike_back common block.at is.alike)
            (set_on s uses before block.entries (entries_of blocks ++ after) here block.class block.lines is.lines block.at t is.apart is.celled S m row start old mid set_here kept all)

        begins_next : AllBegin s p S m all.last (before ++ block.entries)
        begins_next class partition ticks_there = all.begins class (partition ∙ sym is.partition) (still_on (Some class) ∙ ticks_there)

        clear_next : IsClear (entries_of blocks) all.last
        clear_next y reached =
            taken_other s S m block.entries row all.last all.taken y (λ own. reached_once s y block.entries (entries_of blocks ++ after) free own (reached_before y (entries_of blocks) after reached))
            ∙ clear y (reached_behind y block.entries (entries_of blocks) reached)

        told_next : (some : List ClassStretch) (others : List Block) → AreCoded s uses p common t some others → AreShownBy s S m row ticking t old some others → AreShownBy s S m all.last ticking t mid some others
        told_next [] [] are told = tt
        told_next [] (b ∷ others) are told = absurd are
        told_next (o ∷ some) [] are told = absurd are
        told_next (o ∷ some) (b ∷ others) are told = (
          (
            told.0.0 ∙ still_on (Some b.class),
            λ tick. clock_on s uses before block.entries (entries_of blocks ++ after) here block.class block.lines is.lines block.at t is.apart is.celled S m row start old mid set_here kept b.class b.at
                (no_clock_cells common b.at t are.0.alike are.0.apart block.at is.alike block.lines is.celled) (told.0.1 tick),
          ),
          told_next some others are.1 told.1,
        )

  pub went : (before after : List Use) (blocks : List Block) → IsOrdered s uses (before ++ (entries_of blocks ++ after)) → (stretches : List ClassStretch) → AreCoded s uses p common t stretches blocks
      → (row : Row) → AllBegin s p S m row before → IsClear (entries_of blocks) row → (i : ℕ) (old new : List ℤ) → IsSet s S m row common t old → AreShownBy s S m row ticking t old stretches blocks
      → RunsFrom i ticking stretches old new None → Went before (entries_of blocks) row new
  went before after [] ordered [] are row begins clear i old new set told runs = record {
    last = row;
    taken = λ y. refl;
    set = subst (λ z. IsSet s S m row common t z) (sym runs.1) set;
    begins = subst (AllBegin s p S m row) (sym (bare_end before)) begins;
    still = λ c. refl;
  }
  went before after [] ordered (one ∷ stretches) are row begins clear i old new set told runs = absurd are
  went before after (block ∷ blocks) ordered [] are row begins clear i old new set told runs = absurd are
  went before after (block ∷ blocks) ordered (one ∷ stretches) are row begins clear i old new set told runs =
      by_tick (tick_in ticking one.class) refl runs
      (λ past rest. front before block blocks row row new (rest_taken block.class row past block.entries block.lines are.0.lines) (λ c. refl)
      (went (before ++ block.entries) after blocks (next before after block blocks ordered one are.0 row begins clear old set) stretches are.1 row (begins_past before after block blocks ordered one are.0 row begins clear old set past)
      (λ y reached. clear y (reached_behind y block.entries (entries_of blocks) reached)) (suc i) old new set told.1 rest))
      (λ ticks clock mid all kept rest. front before block blocks row all.last new all.taken (still_on before after block blocks ordered one are.0 row begins clear old set ticks clock mid all kept)
      (went (before ++ block.entries) after blocks (next before after block blocks ordered one are.0 row begins clear old set) stretches are.1 all.last
      (begins_next before after block blocks ordered one are.0 row begins clear old set ticks clock mid all kept) (clear_next before after block blocks ordered one are.0 row begins clear old set ticks clock mid all kept) (suc i) mid new
      (set_next before after block blocks ordered one are.0 row begins clear old set ticks clock mid all kept) (told_next before after block blocks ordered one are.0 row begins clear old set ticks clock mid all kept stretches blocks are.1 told.1) rest))
    where
      by_tick : (b : Bool) → tick_in ticking one.class ≡ b → RunsOne b i one old new None (λ mid. RunsFrom (suc i) ticking stretches mid new None)
          → (class_ticks s (with_row S m row) (Some block.class) m ≡ false → RunsFrom (suc i) ticking stretches old new None → Went before (block.entries ++ entries_of blocks) row new)
          → ((ticks : class_ticks s (with_row S m row) (Some block.class) m ≡ true) → IsClockSet s S m block.class block.at t old → (mid : List ℤ) (all : AllTaken s uses before block.entries S m row block.class block.at t mid) → IsKeptBut t block.lines old mid
          → RunsFrom (suc i) ticking stretches mid new None → Went before (block.entries ++ entries_of blocks) row new)
          → Went before (block.entries ++ entries_of blocks) row new
      by_tick false tick runs past on = past (sym told.0.0 ∙ tick) runs
      by_tick true tick (mid, stop, ran_so, goes) past on =
          let ticks = sym told.0.0 ∙ tick in
          let clock = told.0.1 tick in
          by_stop stop ran_so goes (ran before after block blocks ordered one are.0 row begins clear old set ticks clock mid)
        where
          by_stop : (stop : Option Failing) → RunsLines one.stretch old mid stop → GoesOn i mid new None (λ z. RunsFrom (suc i) ticking stretches z new None) stop
              → (RunsLines one.stretch old mid None → AllTaken s uses before block.entries S m row block.class block.at t mid × IsKeptBut t block.lines old mid) → Went before (block.entries ++ entries_of blocks) row new
          by_stop None runs goes taken = let (all, kept) = taken runs in on (sym told.0.0 ∙ tick) (told.0.1 tick) mid all kept goes
          by_stop (Some failing) runs goes taken = absurd (no_failing (record { stretch = i; place = failing.place; kind = failing.kind }) goes.0)
