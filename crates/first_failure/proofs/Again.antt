-- What a run of stretches that failed leaves in the cells.
use Rattle.std.proofs.Common.{◌≡◌, refl, ap, ap₂, sym, subst, ◌∙◌, ℕ, suc, ◌<◌, Bool, true, false, ℤ, List, [], ◌∷◌, ◌++◌, append_assoc, Option, Some, None, IsSome, ◌⊎◌, inl, inr}
use Rattle.std.proofs.lemmas.Bool.{false≢true}
use Rattle.std.proofs.lemmas.Option.{none-some}
use Rattle.sync_values.specs.declared.value.Value.{Value}
use Rattle.flat_model.specs.Assignment.{Assignment}
use Rattle.flat_model.specs.Given.{Row, with_row}
use Rattle.flat_model.specs.Setting.{Setting, class_of_name, partition_of, class_ticks, name_ticks}
use Rattle.flat_model.specs.Uses.{Use}
use Rattle.moment_theory.specs.Free.{IsReachedBy, AreFree, IsOrdered}
use Rattle.moment_theory.specs.Sound.{IsClear}
use Rattle.moment_theory.proofs.Beside.{reached_first, reached_second}
use Rattle.moment_theory.proofs.Pieces.{reached_twice}
use Rattle.step_code.specs.declared.machine.Op.TheVariants.{Guard}
use Rattle.step_code.specs.Machine.{word_at, result_of}
use Rattle.step_code.specs.Code.{Cells}
use Rattle.step_code.specs.Lines.{Line, AreApart, IsNoCell, IsKeptBut}
use Rattle.step_lines.specs.declared.running.Failing.{Failing}
use Rattle.step_lines.specs.Stretches.{RunsLines}
use Rattle.side_theory.specs.Counted.{Begins}
use Rattle.side_theory.specs.Kept.{HasWord, IsSet, IsClockSet}
use Rattle.side_theory.specs.Runs.{AreCelled, AllTaken, StretchTaken}
use Rattle.side_theory.specs.SetOn.{AreNoClockCells}
use Rattle.side_theory.specs.Stretches.{AreLinesOf}
use Rattle.side_theory.proofs.Counting.{reached_split, free_behind}
use Rattle.side_theory.proofs.Keeping.{holds_row}
use Rattle.side_theory.proofs.SetCells.{taken_other, own_class, ticks_same, set_on, clock_on}
use Rattle.side_theory.proofs.Taking.{run_takes}
use Rattle.part_stretches.specs.declared.running.ClassStretch.{ClassStretch}
use Rattle.part_stretches.specs.declared.running.PartFailing.{PartFailing}
use Rattle.part_stretches.specs.Running.{tick_in, GoesOn, RunsOne, RunsFrom}
use Rattle.part_stretches.specs.Parts.{Block, entries_of, AreAlike, IsBlock, AreBlocks, AreShown, AllBegin}
use Rattle.first_failure.proofs.Stepping.{set_alike, alike_back}

-- no line has a cell that is of no name's value
no_line : (b : Cells) (t : ℕ) (ls : List Line) → AreCelled b t ls → (c : ℕ) → ((x : ℕ) → (b 0).now x ≡ Some c → ⊥) → IsNoCell c ls
no_line b t [] celled c off = tt
no_line b t (l ∷ ls) celled c off = (λ own. off l.name (celled.0.cell ∙ ap Some (sym own)), no_line b t ls celled.1 c off)

-- no line of a block whose class ticks has the cell
abbrev pub IsOff : Setting → Assignment → ℕ → Row → ℕ → List Block → Type 0
IsOff s S m row c [] = Unit {0}
IsOff s S m row c (block ∷ blocks) = (class_ticks s (with_row S m row) (Some block.class) m ≡ true → IsNoCell c block.lines) × IsOff s S m row c blocks

module _ (s : Setting) (uses : List Use) (p : Option ℕ) (common : Cells) (t : ℕ) (S : Assignment) (m : ℕ) (ticking : List Bool) where
  off_same : (row last : Row) → ((c : Option ℕ) → class_ticks s (with_row S m row) c m ≡ class_ticks s (with_row S m last) c m) → (c : ℕ) (blocks : List Block) → IsOff s S m row c blocks → IsOff s S m last c blocks
  off_same row last still c [] off = tt
  off_same row last still c (block ∷ blocks) off = (λ ticks. off.0 (still (Some block.class) ∙ ticks), off_same row last still c blocks off.1)

  module _ (before after : List Use) (block : Block) (blocks : List Block) (ordered : IsOrdered s uses (before ++ ((block.entries ++ entries_of blocks) ++ after))) (one : ClassStretch) (is : IsBlock s uses p common t one block) (row : Row) (begins : AllBegin s p S m row before)
      (clear : IsClear (block.entries ++ entries_of blocks) row) (old : List ℤ) (set : IsSet s S m row common t old) where
    here : IsOrdered s uses (before ++ (block.entries ++ (entries_of blocks ++ after)))
    here = subst (λ z. IsOrdered s uses (before ++ z)) (append_assoc block.entries (entries_of blocks) after) ordered

    next : IsOrdered s uses ((before ++ block.entries) ++ (entries_of blocks ++ after))
    next = subst (IsOrdered s uses) (sym (append_assoc before block.entries (entries_of blocks ++ after))) here

    set_here : IsSet s S m row block.at t old
    set_here = set_alike s S m row common block.at t old is.alike set

    free : AreFree s (block.entries ++ (entries_of blocks ++ after))
    free = free_behind s before (block.entries ++ (entries_of blocks ++ after)) here.free

    -- its class rests
    begins_past : class_ticks s (with_row S m row) (Some block.class) m ≡ false → AllBegin s p S m row (before ++ block.entries)
    begins_past rests class partition ticks =
        let b = begins class partition ticks in
        record { meets = b.meets; typed = b.typed; all = λ y reached same now. by_order y (reached_split y before block.entries reached) same now; ticks = ticks }
      where
        by_order : (y : ℕ) → IsReachedBy y before ⊎ IsReachedBy y block.entries → partition_of s (class_of_name s y) ≡ partition_of s (Some class) → name_ticks s (with_row S m row) y m ≡ true → IsSome (row y)
        by_order y (inl h) same now = (begins class partition ticks).all y h same now
        by_order y (inr h) same now =
            absurd (false≢true (sym rests ∙ ap (λ c. class_ticks s (with_row S m row) c m) (sym (own_class s uses before block.entries (entries_of blocks ++ after) here block.class block.entries block.lines is.lines y h)) ∙ now))

    module _ (ticks : class_ticks s (with_row S m row) (Some block.class) m ≡ true) (clock : IsClockSet s S m block.class block.at t old) (mid : List ℤ) where
      start : Begins s S m row block.class before
      start = begins block.class is.partition ticks

      ran : (stop : Option Failing) → RunsLines one.stretch old mid stop → StretchTaken s uses before block.entries S m row block.class block.at t mid stop × IsKeptBut t block.lines old mid
      ran stop runs = run_takes s uses before block.entries (entries_of blocks ++ after) here block.class block.lines is.lines block.at t S m row old mid one.stretch is.stretch is.apart is.celled is.booleans start
          (λ y reached. clear y (reached_first block.entries (entries_of blocks) y reached)) stop (holds_row s S m row block.at t old block.class is.laid ticks set_here clock) runs

      module _ (all : AllTaken s uses before block.entries S m row block.class block.at t mid) (kept : IsKeptBut t block.lines old mid) where
        still : (c : Option ℕ) → class_ticks s (with_row S m row) c m ≡ class_ticks s (with_row S m all.last) c m
        still = ticks_same s uses before block.entries (entries_of blocks ++ after) here block.class block.lines is.lines block.at t is.apart is.celled S m row start old mid set_here kept all

        set_next : IsSet s S m all.last common t mid
        set_next = set_alike s S m all.last block.at common t mid (alike_back common block.at is.alike)
            (set_on s uses before block.entries (entries_of blocks ++ after) here block.class block.lines is.lines block.at t is.apart is.celled S m row start old mid set_here kept all)

        begins_next : AllBegin s p S m all.last (before ++ block.entries)
        begins_next class partition ticks_there = all.begins class (partition ∙ sym is.partition) (still (Some class) ∙ ticks_there)

        clear_next : IsClear (entries_of blocks) all.last
        clear_next y reached =
            taken_other s S m block.entries row all.last all.taken y (λ own. reached_twice s block.entries (entries_of blocks ++ after) free y own (reached_first (entries_of blocks) after y reached))
            ∙ clear y (reached_second block.entries (entries_of blocks) y reached)

        told_next : (some : List ClassStretch) (others : List Block) → AreBlocks s uses p common t some others → AreShown s S m row ticking t old others → AreShown s S m all.last ticking t mid others
        told_next [] [] are told = tt
        told_next [] (b ∷ others) are told = absurd are
        told_next (o ∷ some) [] are told = absurd are
        told_next (o ∷ some) (b ∷ others) are told = (
          (
            told.0.0 ∙ still (Some b.class),
            λ tick. clock_on s uses before block.entries (entries_of blocks ++ after) here block.class block.lines is.lines block.at t is.apart is.celled S m row start old mid set_here kept b.class b.at (no_clock_cells b are.0.alike are.0.apart) (told.0.1 tick),
          ),
          told_next some others are.1 told.1,
        )
          where
            no_clock_cells : (b : Block) → AreAlike common b.at → AreApart b.at → AreNoClockCells b.at block.lines
            no_clock_cells b alike apart =
                let name : (x c : ℕ) → (block.at 0).now x ≡ Some c → (b.at 0).now x ≡ Some c = λ x c now. sym (alike.now 0 x) ∙ is.alike.now 0 x ∙ now in record {
                  first = λ c first. no_line block.at t block.lines is.celled c (λ x now. apart.first 0 x c (name x c now) first);
                  interval = λ n c interval. (no_line block.at t block.lines is.celled c (λ x now. apart.interval 0 x n c (name x c now) interval), no_line block.at t block.lines is.celled ((b.at 0).unfit n) (λ x now. apart.unfit 0 x n (name x ((b.at 0).unfit n) now)));
                }

  -- no cell below the free ones changes but those of lines whose classes tick
  abbrev KeptOff : Row → List Block → List ℤ → List ℤ → Type 0
  KeptOff row blocks old new = (c : ℕ) → c < t → IsOff s S m row c blocks → word_at new c ≡ word_at old c

  kept_off : (before after : List Use) (blocks : List Block) → IsOrdered s uses (before ++ (entries_of blocks ++ after)) → (stretches : List ClassStretch) → AreBlocks s uses p common t stretches blocks
      → (row : Row) → AllBegin s p S m row before → IsClear (entries_of blocks) row → (i : ℕ) (old new : List ℤ) (failing : PartFailing) → IsSet s S m row common t old → AreShown s S m row ticking t old blocks
      → RunsFrom i ticking stretches old new (Some failing) → KeptOff row blocks old new
  kept_off before after [] ordered [] are row begins clear i old new failing set told runs = absurd (none-some failing (sym runs.0))
  kept_off before after [] ordered (one ∷ stretches) are row begins clear i old new failing set told runs = absurd are
  kept_off before after (block ∷ blocks) ordered [] are row begins clear i old new failing set told runs = absurd are
  kept_off before after (block ∷ blocks) ordered (one ∷ stretches) are row begins clear i old new failing set told runs =
      by_tick (tick_in ticking one.class) refl runs
      (λ rests past. kept_off (before ++ block.entries) after blocks (next before after block blocks ordered one are.0 row begins clear old set) stretches are.1 row (begins_past before after block blocks ordered one are.0 row begins clear old set rests)
      (λ y reached. clear y (reached_second block.entries (entries_of blocks) y reached)) (suc i) old new failing set told.1 past)
      (λ ticks clock mid all kept on. kept_off (before ++ block.entries) after blocks (next before after block blocks ordered one are.0 row begins clear old set) stretches are.1 all.last
      (begins_next before after block blocks ordered one are.0 row begins clear old set ticks clock mid all kept) (clear_next before after block blocks ordered one are.0 row begins clear old set ticks clock mid all kept) (suc i) mid new failing
      (set_next before after block blocks ordered one are.0 row begins clear old set ticks clock mid all kept) (told_next before after block blocks ordered one are.0 row begins clear old set ticks clock mid all kept stretches blocks are.1 told.1) on)
    where
      own_tick : (b : Bool) → tick_in ticking one.class ≡ b → tick_in ticking block.class ≡ b
      own_tick b tick = ap (tick_in ticking) (sym are.0.class_is) ∙ tick

      class_tick : (b : Bool) → tick_in ticking one.class ≡ b → class_ticks s (with_row S m row) (Some block.class) m ≡ b
      class_tick b tick = sym told.0.0 ∙ own_tick b tick

      by_tick : (b : Bool) → tick_in ticking one.class ≡ b → RunsOne b i one old new (Some failing) (λ mid. RunsFrom (suc i) ticking stretches mid new (Some failing))
          → (class_ticks s (with_row S m row) (Some block.class) m ≡ false → RunsFrom (suc i) ticking stretches old new (Some failing) → KeptOff row blocks old new)
          → ((ticks : class_ticks s (with_row S m row) (Some block.class) m ≡ true) → IsClockSet s S m block.class block.at t old → (mid : List ℤ) (all : AllTaken s uses before block.entries S m row block.class block.at t mid) → IsKeptBut t block.lines old mid
          → RunsFrom (suc i) ticking stretches mid new (Some failing) → KeptOff all.last blocks mid new)
          → KeptOff row (block ∷ blocks) old new
      by_tick false tick runs past on c lt off = past (class_tick false tick) runs c lt off.1
      by_tick true tick (mid, stop, ran_so, goes) past on c lt off =
          by_stop stop (ran before after block blocks ordered one are.0 row begins clear old set ticks clock mid stop ran_so) goes
        where
          ticks : class_ticks s (with_row S m row) (Some block.class) m ≡ true
          ticks = class_tick true tick

          clock : IsClockSet s S m block.class block.at t old
          clock = told.0.1 (own_tick true tick)

          by_stop : (stop : Option Failing) → StretchTaken s uses before block.entries S m row block.class block.at t mid stop × IsKeptBut t block.lines old mid → GoesOn i mid new (Some failing) (λ z. RunsFrom (suc i) ticking stretches z new (Some failing)) stop → word_at new c ≡ word_at old c
          by_stop None (all, kept) goes =
              on ticks clock mid all kept goes c lt (off_same row all.last (still before after block blocks ordered one are.0 row begins clear old set ticks clock mid all kept) c blocks off.1) ∙ kept c lt (off.0 ticks)
          by_stop (Some stopped) (of, kept) goes = ap (λ cells. word_at cells c) goes.1 ∙ kept c lt (off.0 ticks)

  module _ (before after : List Use) (all_blocks : List Block) (ordered : IsOrdered s uses (before ++ (entries_of all_blocks ++ after))) (row : Row) (clear : IsClear (entries_of all_blocks) row) where
    -- a cell is off where it is of no name that the uses of a class that ticks reach
    abbrev IsOfNone : ℕ → Type 0
    IsOfNone c = (at : Cells) → AreAlike common at → AreApart at → (x : ℕ) → (at 0).now x ≡ Some c → IsReachedBy x (entries_of all_blocks) → name_ticks s (with_row S m row) x m ≡ true → ⊥

    off_of : (c : ℕ) → IsOfNone c → (done : List Use) (blocks : List Block) → IsOrdered s uses (done ++ (entries_of blocks ++ after)) → ((x : ℕ) → IsReachedBy x (entries_of blocks) → IsReachedBy x (entries_of all_blocks))
        → (stretches : List ClassStretch) → AreBlocks s uses p common t stretches blocks → IsOff s S m row c blocks
    off_of c none done [] order within stretches are = tt
    off_of c none done (block ∷ blocks) order within [] are = absurd are
    off_of c none done (block ∷ blocks) order within (one ∷ stretches) are = (
      λ ticks. lines ticks block.entries block.lines are.0.lines are.0.celled (λ x reached. reached),
      off_of c none (done ++ block.entries) blocks (subst (IsOrdered s uses) (sym (append_assoc done block.entries (entries_of blocks ++ after))) there) (λ x reached. within x (reached_second block.entries (entries_of blocks) x reached)) stretches are.1,
    )
      where
        there : IsOrdered s uses (done ++ (block.entries ++ (entries_of blocks ++ after)))
        there = subst (λ z. IsOrdered s uses (done ++ z)) (append_assoc block.entries (entries_of blocks) after) order

        lines : class_ticks s (with_row S m row) (Some block.class) m ≡ true → (some : List Use) (ls : List Line) → AreLinesOf s uses block.class some ls → AreCelled block.at t ls → ((x : ℕ) → IsReachedBy x some → IsReachedBy x block.entries) → IsNoCell c ls
        lines ticks some [] of celled own = tt
        lines ticks [] (l ∷ ls) of celled own = absurd of
        lines ticks (entry ∷ some) (l ∷ ls) of celled own = (
          λ same.
              let reached : IsReachedBy l.name block.entries = own l.name (inl of.0.1) in
              let clocked : class_of_name s l.name ≡ Some block.class = own_class s uses done block.entries (entries_of blocks ++ after) there block.class block.entries block.lines are.0.lines l.name reached in
              none block.at are.0.alike are.0.apart l.name (celled.0.cell ∙ ap Some (sym same)) (within l.name (reached_first block.entries (entries_of blocks) l.name reached)) (ap (λ k. class_ticks s (with_row S m row) k m) clocked ∙ ticks),
          lines ticks some ls of.1 celled.1 (λ x reached. own x (inr reached)),
        )

    module _ (stretches : List ClassStretch) (are : AreBlocks s uses p common t stretches all_blocks) (begins : AllBegin s p S m row before) (i : ℕ) (old new : List ℤ) (failing : PartFailing) (set : IsSet s S m row common t old) (told : AreShown s S m row ticking t old all_blocks)
        (runs : RunsFrom i ticking stretches old new (Some failing)) where
      same_word : (c : ℕ) → c < t → IsOfNone c → word_at new c ≡ word_at old c
      same_word c lt none = kept_off before after all_blocks ordered stretches are row begins clear i old new failing set told runs c lt (off_of c none before all_blocks ordered (λ x reached. reached) stretches are)

      word_on : (c : ℕ) (v : Value) → IsOfNone c → HasWord t old c v → HasWord t new c v
      word_on c v none h = (h.0, same_word c h.0 none ∙ h.1)

      pub set_again : IsSet s S m row common t new
      set_again = record {
        now = λ x c v now has. word_on c v (λ at alike apart y there reached ticks.
            let same : y ≡ x = apart.now y x c there (sym (alike.now 0 x) ∙ now) in
            none-some v (sym (clear y reached) ∙ ap row same ∙ has)) (set.now x c v now has);
        kept = λ x c v now rests has. word_on c v (λ at alike apart y there reached ticks.
            let same : y ≡ x = apart.now y x c there (sym (alike.now 0 x) ∙ now) in
            false≢true (sym rests ∙ ap (λ z. name_ticks s (with_row S m row) z m) (sym same) ∙ ticks)) (set.kept x c v now rests has);
        previous = λ x c v is has. word_on c v (λ at alike apart y there reached ticks. apart.previous 0 y x c there (sym (alike.previous 0 x) ∙ is)) (set.previous x c v is has);
        left = λ x c k v is at_k has. word_on c v (λ at alike apart y there reached ticks. apart.left 0 y x c there (sym (alike.now 1 x) ∙ is)) (set.left x c k v is at_k has);
        left_last = λ x c v is has. word_on c v (λ at alike apart y there reached ticks. apart.left_last 0 y x c there (sym (alike.last 1 x) ∙ is)) (set.left_last x c v is has);
        const = λ k c v is. word_on c v (λ at alike apart y there reached ticks. apart.const k y c v there (sym (alike.const k v) ∙ is)) (set.const k c v is);
      }

      pub clock_again : (class : ℕ) (there : Cells) → AreAlike common there → AreApart there → IsClockSet s S m class there t old → IsClockSet s S m class there t new
      clock_again class there same off clock = record {
        first = λ c is. let h = clock.first c is in (h.0, same_word c h.0 (none c (λ x now. off.first 0 x c now is)) ∙ h.1);
        interval = λ n c is. let h = clock.interval n c is in
            (h.0, h.1, ap₂ (λ a b. result_of Guard a b) (same_word ((there 0).unfit n) h.1 (none ((there 0).unfit n) (λ x now. off.unfit 0 x n now))) (same_word c h.0 (none c (λ x now. off.interval 0 x n c now is))) ∙ h.2);
      }
        where
          none : (c : ℕ) → ((x : ℕ) → (there 0).now x ≡ Some c → ⊥) → IsOfNone c
          none c other at alike apart x now reached ticks = other x (sym (same.now 0 x) ∙ alike.now 0 x ∙ now)
