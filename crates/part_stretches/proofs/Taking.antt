-- A run of the stretches of a base partition takes the uses of their equations.
use Rattle.std.proofs.Common.{◌≡◌, refl, ap, sym, subst, ◌∙◌, ℕ, suc, Bool, true, false, ℤ, List, [], ◌∷◌, ◌++◌, append_assoc, Option, Some, None, IsSome, ◌⊎◌, inl, inr, arith}
use Rattle.std.proofs.lemmas.Bool.{false≢true}
use Rattle.flat_model.specs.Assignment.{Assignment}
use Rattle.flat_model.specs.Given.{Row, with_row}
use Rattle.flat_model.specs.Setting.{Setting, class_of_name, partition_of, class_ticks, name_ticks}
use Rattle.flat_model.specs.Uses.{Use}
use Rattle.moment_theory.specs.Free.{IsReachedBy, AreFree, IsOrdered}
use Rattle.moment_theory.specs.Sound.{IsClear}
use Rattle.moment_theory.specs.Taken.{AreTaken}
use Rattle.step_code.specs.Code.{Cells}
use Rattle.step_code.specs.Lines.{Line, AreApart, IsNoCell, IsKeptBut}
use Rattle.step_lines.specs.declared.running.Failing.{Failing}
use Rattle.step_lines.specs.Stretches.{RunsLines}
use Rattle.moment_theory.proofs.Apart.{append_taken}
use Rattle.side_theory.specs.Counted.{Begins}
use Rattle.side_theory.specs.Kept.{IsSet, IsClockSet}
use Rattle.side_theory.specs.Runs.{AreCelled, AllTaken, OneFailed, StretchTaken}
use Rattle.side_theory.specs.SetOn.{AreNoClockCells}
use Rattle.side_theory.specs.Stretches.{AreLinesOf}
use Rattle.side_theory.proofs.Counting.{reached_split, free_behind}
use Rattle.side_theory.proofs.Keeping.{holds_row}
use Rattle.side_theory.proofs.SetCells.{taken_other, own_class, ticks_same, set_on, clock_on}
use Rattle.side_theory.proofs.Taking.{run_takes}
use Rattle.part_stretches.specs.declared.running.ClassStretch.{ClassStretch}
use Rattle.part_stretches.specs.declared.running.PartFailing.{PartFailing}
use Rattle.part_stretches.specs.Running.{tick_in, GoesOn, RunsOne, RunsFrom}
use Rattle.part_stretches.specs.Parts.{Block, entries_of, AreAlike, IsBlock, AreBlocks, AreShown, AllBegin, PartFails, PartTaken}

-- cells that are set by one table are so by one that is alike
set_alike : (s : Setting) (S : Assignment) (m : ℕ) (row : Row) (a b : Cells) (t : ℕ) (cells : List ℤ) → AreAlike a b → IsSet s S m row a t cells → IsSet s S m row b t cells
set_alike s S m row a b t cells alike set = record {
  now = λ x c v is. set.now x c v (alike.now 0 x ∙ is);
  kept = λ x c v is. set.kept x c v (alike.now 0 x ∙ is);
  previous = λ x c v is. set.previous x c v (alike.previous 0 x ∙ is);
  left = λ x c k v is. set.left x c k v (alike.now 1 x ∙ is);
  left_last = λ x c v is. set.left_last x c v (alike.last 1 x ∙ is);
  const = λ k c v is. set.const k c v (alike.const k v ∙ is);
}

alike_back : (a b : Cells) → AreAlike a b → AreAlike b a
alike_back a b alike = record { now = λ k x. sym (alike.now k x); previous = λ k x. sym (alike.previous k x); last = λ k x. sym (alike.last k x); const = λ k v. sym (alike.const k v) }

-- the cells that show a clock are no line's
no_clock_cells : (a b : Cells) (t : ℕ) → AreAlike a b → AreApart b → (there : Cells) → AreAlike a there → (ls : List Line) → AreCelled there t ls → AreNoClockCells b ls
no_clock_cells a b t alike apart there like ls celled = record {
  first = λ c is. none ls celled c (λ x now. apart.first 0 x c now is);
  interval = λ n c is. (none ls celled c (λ x now. apart.interval 0 x n c now is), none ls celled ((b 0).unfit n) (λ x now. apart.unfit 0 x n now));
}
  where
    none : (ls : List Line) → AreCelled there t ls → (c : ℕ) → ((x : ℕ) → (b 0).now x ≡ Some c → ⊥) → IsNoCell c ls
    none [] celled c off = tt
    none (l ∷ ls) celled c off = (λ own. off l.name (sym (alike.now 0 l.name) ∙ like.now 0 l.name ∙ celled.0.cell ∙ ap Some (sym own)), none ls celled.1 c off)

reached_behind : (y : ℕ) (some rest : List Use) → IsReachedBy y rest → IsReachedBy y (some ++ rest)
reached_behind y [] rest reached = reached
reached_behind y (entry ∷ some) rest reached = inr (reached_behind y some rest reached)

reached_before : (y : ℕ) (some rest : List Use) → IsReachedBy y some → IsReachedBy y (some ++ rest)
reached_before y [] rest reached = absurd reached
reached_before y (entry ∷ some) rest (inl is) = inl is
reached_before y (entry ∷ some) rest (inr reached) = inr (reached_before y some rest reached)

-- in a free order no name is reached twice
reached_once : (s : Setting) (y : ℕ) (some rest : List Use) → AreFree s (some ++ rest) → IsReachedBy y some → IsReachedBy y rest → ⊥
reached_once s y [] rest free one two = one
reached_once s y (entry ∷ some) rest free (inl is) two = free.0.once (subst (λ z. IsReachedBy z (some ++ rest)) is (reached_behind y some rest two))
reached_once s y (entry ∷ some) rest free (inr reached) two = reached_once s y some rest free.1 reached two

module _ (s : Setting) (uses : List Use) (p : Option ℕ) (common : Cells) (t : ℕ) (S : Assignment) (m : ℕ) (ticking : List Bool) where
  -- uses of a class that rests are taken, and change nothing
  rest_taken : (class : ℕ) (row : Row) → class_ticks s (with_row S m row) (Some class) m ≡ false → (entries : List Use) (ls : List Line) → AreLinesOf s uses class entries ls → AreTaken s S m entries row row
  rest_taken class row rests [] ls of = λ y. refl
  rest_taken class row rests (entry ∷ entries) [] of = absurd of
  rest_taken class row rests (entry ∷ entries) (l ∷ ls) of =
      (row, inr ((λ v gives. false≢true (sym rests ∙ ap (λ c. class_ticks s (with_row S m row) c m) (sym of.0.2.class_is) ∙ gives.can.ticks.1)), λ y. refl), rest_taken class row rests entries ls of.1)

  -- a stretch before the others
  front : (block : Block) (blocks : List Block) (row mid : Row) (i : ℕ) (new : List ℤ) (result : Option PartFailing) → AreTaken s S m block.entries row mid → PartTaken s uses S m mid (suc i) blocks common t new result → PartTaken s uses S m row i (block ∷ blocks) common t new result
  front block blocks row mid i new None taken (last, others, set) = (last, append_taken s S m block.entries (entries_of blocks) row mid last taken others, set)
  front block blocks row mid i new (Some failing) taken of = record {
    done = block.entries ++ of.done;
    entry = of.entry;
    rest = of.rest;
    entries_are = ap (λ z. block.entries ++ z) of.entries_are ∙ sym (append_assoc block.entries of.done (of.entry ∷ of.rest));
    number = suc of.number;
    stretch_is = let is = of.stretch_is in omega (arith, is);
    block = of.block;
    found = of.found;
    place = of.place;
    last = of.last;
    taken = append_taken s S m block.entries of.done row mid of.last taken of.taken;
    fails = of.fails;
  }

  -- one of the stretch's equations fails
  fails_here : (block : Block) (blocks : List Block) (row : Row) (i : ℕ) (failing : Failing) → OneFailed s uses block.entries S m row failing → PartFails s uses S m row i (block ∷ blocks) (record { stretch = i; place = failing.place; kind = failing.kind })
  fails_here block blocks row i failing of = record {
    done = of.done;
    entry = of.entry;
    rest = of.rest ++ entries_of blocks;
    entries_are = ap (λ z. z ++ entries_of blocks) of.entries_are ∙ append_assoc of.done (of.entry ∷ of.rest) (entries_of blocks);
    number = 0;
    stretch_is = omega arith;
    block = block;
    found = refl;
    place = of.place;
    last = of.last;
    taken = of.taken;
    fails = of.fails;
  }

  module _ (before after : List Use) (block : Block) (blocks : List Block) (ordered : IsOrdered s uses (before ++ ((block.entries ++ entries_of blocks) ++ after))) (one : ClassStretch) (is : IsBlock s uses p common t one block) (row : Row) (begins : AllBegin s p S m row before)
      (clear : IsClear (block.entries ++ entries_of blocks) row) (old : List ℤ) (set : IsSet s S m row common t old) where
    here : IsOrdered s uses (before ++ (block.entries ++ (entries_of blocks ++ after)))
    here = subst (λ z. IsOrdered s uses (before ++ z)) (append_assoc block.entries (entries_of blocks) after) ordered

    next : IsOrdered s uses ((before ++ block.entries) ++ (entries_of blocks ++ after))
    next = subst (IsOrdered s uses) (sym (append_assoc before block.entries (entries_of blocks ++ after))) here

    set_here : IsSet s S m row block.at t old
    set_here = set_alike s S m row common block.at t old is.alike set

    free : AreFree s (block.entries ++ (entries_of blocks ++ after))
    free = free_behind s before (block.entries ++ (entries_of blocks ++ after)) here.free

    -- its class rests
    begins_past : class_ticks s (with_row S m row) (Some block.class) m ≡ false → AllBegin s p S m row (before ++ block.entries)
    begins_past rests class partition ticks =
        let b = begins class partition ticks in
        record { meets = b.meets; typed = b.typed; all = λ y reached same now. by_order y (reached_split y before block.entries reached) same now; ticks = ticks }
      where
        by_order : (y : ℕ) → IsReachedBy y before ⊎ IsReachedBy y block.entries → partition_of s (class_of_name s y) ≡ partition_of s (Some class) → name_ticks s (with_row S m row) y m ≡ true → IsSome (row y)
        by_order y (inl h) same now = (begins class partition ticks).all y h same now
        by_order y (inr h) same now =
            absurd (false≢true (sym rests ∙ ap (λ c. class_ticks s (with_row S m row) c m) (sym (own_class s uses before block.entries (entries_of blocks ++ after) here block.class block.entries block.lines is.lines y h)) ∙ now))

    module _ (ticks : class_ticks s (with_row S m row) (Some block.class) m ≡ true) (clock : IsClockSet s S m block.class block.at t old) (mid : List ℤ) where
      start : Begins s S m row block.class before
      start = begins block.class is.partition ticks

      ran : (stop : Option Failing) → RunsLines one.stretch old mid stop → StretchTaken s uses before block.entries S m row block.class block.at t mid stop × IsKeptBut t block.lines old mid
      ran stop runs = run_takes s uses before block.entries (entries_of blocks ++ after) here block.class block.lines is.lines block.at t S m row old mid one.stretch is.stretch is.apart is.celled is.booleans start
          (λ y reached. clear y (reached_before y block.entries (entries_of blocks) reached)) stop (holds_row s S m row block.at t old block.class is.laid ticks set_here clock) runs

      module _ (all : AllTaken s uses before block.entries S m row block.class block.at t mid) (kept : IsKeptBut t block.lines old mid) where
        still : (c : Option ℕ) → class_ticks s (with_row S m row) c m ≡ class_ticks s (with_row S m all.last) c m
        still = ticks_same s uses before block.entries (entries_of blocks ++ after) here block.class block.lines is.lines block.at t is.apart is.celled S m row start old mid set_here kept all

        set_next : IsSet s S m all.last common t mid
        set_next = set_alike s S m all.last block.at common t mid (alike_back common block.at is.alike)
            (set_on s uses before block.entries (entries_of blocks ++ after) here block.class block.lines is.lines block.at t is.apart is.celled S m row start old mid set_here kept all)

        begins_next : AllBegin s p S m all.last (before ++ block.entries)
        begins_next class partition ticks_there = all.begins class (partition ∙ sym is.partition) (still (Some class) ∙ ticks_there)

        clear_next : IsClear (entries_of blocks) all.last
        clear_next y reached =
            taken_other s S m block.entries row all.last all.taken y (λ own. reached_once s y block.entries (entries_of blocks ++ after) free own (reached_before y (entries_of blocks) after reached))
            ∙ clear y (reached_behind y block.entries (entries_of blocks) reached)

        told_next : (some : List ClassStretch) (others : List Block) → AreBlocks s uses p common t some others → AreShown s S m row ticking t old others → AreShown s S m all.last ticking t mid others
        told_next [] [] are told = tt
        told_next [] (b ∷ others) are told = absurd are
        told_next (o ∷ some) [] are told = absurd are
        told_next (o ∷ some) (b ∷ others) are told = (
          (
            told.0.0 ∙ still (Some b.class),
            λ tick. clock_on s uses before block.entries (entries_of blocks ++ after) here block.class block.lines is.lines block.at t is.apart is.celled S m row start old mid set_here kept b.class b.at
                (no_clock_cells common b.at t are.0.alike are.0.apart block.at is.alike block.lines is.celled) (told.0.1 tick),
          ),
          told_next some others are.1 told.1,
        )

  pub takes : (before after : List Use) (blocks : List Block) → IsOrdered s uses (before ++ (entries_of blocks ++ after)) → (stretches : List ClassStretch) → AreBlocks s uses p common t stretches blocks
      → (row : Row) → AllBegin s p S m row before → IsClear (entries_of blocks) row → (i : ℕ) (old new : List ℤ) (result : Option PartFailing) → IsSet s S m row common t old → AreShown s S m row ticking t old blocks
      → RunsFrom i ticking stretches old new result → PartTaken s uses S m row i blocks common t new result
  takes before after [] ordered [] are row begins clear i old new result set told runs =
      subst (λ r. PartTaken s uses S m row i [] common t new r) (sym runs.0) (row, (λ y. refl), subst (λ z. IsSet s S m row common t z) (sym runs.1) set)
  takes before after [] ordered (one ∷ stretches) are row begins clear i old new result set told runs = absurd are
  takes before after (block ∷ blocks) ordered [] are row begins clear i old new result set told runs = absurd are
  takes before after (block ∷ blocks) ordered (one ∷ stretches) are row begins clear i old new result set told runs =
      by_tick (tick_in ticking one.class) refl runs
      (λ past. takes (before ++ block.entries) after blocks (next before after block blocks ordered one are.0 row begins clear old set) stretches are.1 row (begins_past before after block blocks ordered one are.0 row begins clear old set past)
      (λ y reached. clear y (reached_behind y block.entries (entries_of blocks) reached)) (suc i) old new result set told.1)
      (λ ticks clock mid all kept. takes (before ++ block.entries) after blocks (next before after block blocks ordered one are.0 row begins clear old set) stretches are.1 all.last
      (begins_next before after block blocks ordered one are.0 row begins clear old set ticks clock mid all kept) (clear_next before after block blocks ordered one are.0 row begins clear old set ticks clock mid all kept) (suc i) mid new result
      (set_next before after block blocks ordered one are.0 row begins clear old set ticks clock mid all kept) (told_next before after block blocks ordered one are.0 row begins clear old set ticks clock mid all kept stretches blocks are.1 told.1))
    where
      own_tick : (b : Bool) → tick_in ticking one.class ≡ b → tick_in ticking block.class ≡ b
      own_tick b tick = ap (tick_in ticking) (sym are.0.class_is) ∙ tick

      class_tick : (b : Bool) → tick_in ticking one.class ≡ b → class_ticks s (with_row S m row) (Some block.class) m ≡ b
      class_tick b tick = sym told.0.0 ∙ own_tick b tick

      by_tick : (b : Bool) → tick_in ticking one.class ≡ b → RunsOne b i one old new result (λ mid. RunsFrom (suc i) ticking stretches mid new result)
          → (class_ticks s (with_row S m row) (Some block.class) m ≡ false → RunsFrom (suc i) ticking stretches old new result → PartTaken s uses S m row (suc i) blocks common t new result)
          → ((ticks : class_ticks s (with_row S m row) (Some block.class) m ≡ true) → IsClockSet s S m block.class block.at t old → (mid : List ℤ) (all : AllTaken s uses before block.entries S m row block.class block.at t mid) → IsKeptBut t block.lines old mid
          → RunsFrom (suc i) ticking stretches mid new result → PartTaken s uses S m all.last (suc i) blocks common t new result)
          → PartTaken s uses S m row i (block ∷ blocks) common t new result
      by_tick false tick runs past on =
          let rests = class_tick false tick in
          front block blocks row row i new result (rest_taken block.class row rests block.entries block.lines are.0.lines) (past rests runs)
      by_tick true tick (mid, stop, ran_so, goes) past on =
          let ticks = class_tick true tick in
          let clock = told.0.1 (own_tick true tick) in
          by_stop stop (ran before after block blocks ordered one are.0 row begins clear old set ticks clock mid stop ran_so) goes
        where
          by_stop : (stop : Option Failing) → StretchTaken s uses before block.entries S m row block.class block.at t mid stop × IsKeptBut t block.lines old mid → GoesOn i mid new result (λ z. RunsFrom (suc i) ticking stretches z new result) stop → PartTaken s uses S m row i (block ∷ blocks) common t new result
          by_stop None (all, kept) goes = front block blocks row all.last i new result all.taken (on (class_tick true tick) (told.0.1 (own_tick true tick)) mid all kept goes)
          by_stop (Some failing) (of, kept) goes = subst (λ r. PartTaken s uses S m row i (block ∷ blocks) common t new r) (sym goes.0) (fails_here block blocks row i failing of)
