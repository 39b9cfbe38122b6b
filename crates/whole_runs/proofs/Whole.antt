-- Where all went, each name whose class ticks has a value, and no equation fails.
use Rattle.std.proofs.Common.{◌≡◌, refl, ap, sym, subst, ◌∙◌, ℕ, Bool, true, false, ℤ, List, [], ◌∷◌, ◌++◌, append_assoc, ◌⊎◌, Contains, Option, Some, None, IsSome, inl, inr}
use Rattle.std.proofs.lemmas.Bool.{false≢true}
use Rattle.std.proofs.lemmas.Option.{none-some}
use Rattle.sync_values.specs.declared.value.Value.{Value}
use Rattle.sync_values.specs.declared.value.Fail.{Fail}
use Rattle.flat_model.specs.Assignment.{Assignment}
use Rattle.flat_model.specs.Faults.{EquationFails}
use Rattle.flat_model.specs.Given.{Row, with_row}
use Rattle.flat_model.specs.Setting.{Setting, class_of_name, class_of_equation, partition_of, class_ticks}
use Rattle.flat_model.specs.Uses.{Use}
use Rattle.moment_theory.specs.Free.{IsReachedBy, AreFree, IsOrdered}
use Rattle.moment_theory.specs.Sound.{IsSound, IsClear}
use Rattle.moment_theory.specs.Taken.{AreTaken}
use Rattle.moment_theory.proofs.Facts.{facts_of_use, class_of_use}
use Rattle.moment_theory.proofs.FromRunnable.{facts_of}
use Rattle.moment_theory.proofs.Rows.{row_now}
use Rattle.moment_theory.proofs.Members.{IsMember, contains_member, reached_member}
use Rattle.step_code.specs.Code.{Cells}
use Rattle.side_theory.specs.Kept.{IsSet}
use Rattle.side_theory.proofs.SetCells.{taken_other}
use Rattle.side_theory.proofs.Counting.{free_behind}
use Rattle.step_code.specs.Lines.{Line}
use Rattle.part_stretches.specs.declared.running.ClassStretch.{ClassStretch}
use Rattle.part_stretches.specs.Parts.{Block, entries_of, AllBegin}
use Rattle.part_stretches.specs.Running.{RunsFrom}
use Rattle.first_failure.specs.Turns.{IsTurn}
use Rattle.first_failure.proofs.Stepping.{gives_or_fails}
use Rattle.first_failure.proofs.Turning.{all_sound, turn_of, alike_at_turn}
use Rattle.whole_runs.specs.Lines.{AreExpressing}
use Rattle.whole_runs.specs.Whole.{AreCoded, AreShownBy, IsValuedAt, IsWhole}
use Rattle.whole_runs.proofs.Taking.{Went, went, reached_behind, reached_before, reached_once}

some_of : {A : Type 0} (o : Option A) → IsSome o → (v : A) × (o ≡ Some v)
some_of None some = absurd (false≢true some)
some_of (Some v) some = (v, refl)

member_split : (some rest : List Use) (entry : Use) → IsMember entry (some ++ rest) → IsMember entry some ⊎ IsMember entry rest
member_split [] rest entry member = inr member
member_split (first ∷ some) rest entry (inl at) = inl (inl at)
member_split (first ∷ some) rest entry (inr member) = by_rest (member_split some rest entry member)
  where
    by_rest : IsMember entry some ⊎ IsMember entry rest → IsMember entry (first ∷ some) ⊎ IsMember entry rest
    by_rest (inl h) = inl (inr h)
    by_rest (inr h) = inr h

module _ (s : Setting) (uses before after : List Use) (S : Assignment) (m : ℕ) (row : Row) (sound : IsSound s (with_row S m row) m) (p : Option ℕ) (common : Cells) (t : ℕ) (ticking : List Bool) (new : List ℤ) where
  -- an own use is a line's, of a class of the base partition
  pub record IsOwn (entry : Use) : Type 0 where
    pub class : ℕ
    pub used : Contains uses entry
    pub class_is : class_of_equation s entry.equation ≡ Some class
    pub name_is : class_of_name s entry.name ≡ Some class
    pub partition : partition_of s (Some class) ≡ p

  line_own : (order : List Use) → IsOrdered s uses order → (class : ℕ) → partition_of s (Some class) ≡ p → (entries : List Use) (ls : List Line) → AreExpressing s uses class entries ls → (entry : Use) → IsMember entry entries → IsOwn entry
  line_own order ordered class partition [] ls of entry member = absurd member
  line_own order ordered class partition (first ∷ entries) [] of entry member = absurd of
  line_own order ordered class partition (first ∷ entries) (l ∷ ls) of entry (inl at) = subst IsOwn at (record {
    class = class;
    used = of.0.0;
    class_is = of.0.2.class_is;
    name_is = class_of_use s (facts_of s ordered.runs) first (facts_of_use s uses ordered.uses_are.uses_are first of.0.0) ∙ of.0.2.class_is;
    partition = partition;
  })
  line_own order ordered class partition (first ∷ entries) (l ∷ ls) of entry (inr member) = line_own order ordered class partition entries ls of.1 entry member

  block_own : (order : List Use) → IsOrdered s uses order → (stretches : List ClassStretch) (blocks : List Block) → AreCoded s uses p common t stretches blocks → (entry : Use) → IsMember entry (entries_of blocks) → IsOwn entry
  block_own order ordered [] [] are entry member = absurd member
  block_own order ordered [] (block ∷ blocks) are entry member = absurd are
  block_own order ordered (one ∷ stretches) [] are entry member = absurd are
  block_own order ordered (one ∷ stretches) (block ∷ blocks) are entry member =
      by_block (λ h. block_own order ordered stretches blocks are.1 entry h) (member_split block.entries (entries_of blocks) entry member)
    where
      by_block : (IsMember entry (entries_of blocks) → IsOwn entry) → IsMember entry block.entries ⊎ IsMember entry (entries_of blocks) → IsOwn entry
      by_block rest (inl h) = line_own order ordered block.class are.0.partition block.entries block.lines are.0.lines entry h
      by_block rest (inr h) = rest h

  module _ (own : List Use) (ordered : IsOrdered s uses (before ++ (own ++ after))) (clear : IsClear own row) (each : (entry : Use) → IsMember entry own → IsOwn entry) (w : Went s uses p common t S m ticking before own row new) where
    last_sound : IsSound s (with_row S m w.last) m
    last_sound = all_sound s uses before after S m row w.last sound own ordered clear w.taken

    module _ (entry : Use) (member : IsMember entry own) where
      abbrev is : IsOwn entry
      is = each entry member

      valued : class_ticks s (with_row S m row) (Some is.class) m ≡ true → IsValuedAt s w.last entry.name
      valued ticks =
          let there = sym (w.still (Some is.class)) ∙ ticks in
          let begins = w.begins is.class is.partition there in
          let (v, has) = some_of (w.last entry.name) (begins.all entry.name (reached_behind entry.name before own (reached_member own entry member)) (ap (partition_of s) is.name_is) (ap (λ c. class_ticks s (with_row S m w.last) c m) is.name_is ∙ there)) in
          record { value = v; is = has; typed = λ name found. begins.typed entry.name name v found has }

      there_free : (done rest : List Use) → own ≡ done ++ entry ∷ rest → AreFree s (done ++ entry ∷ (rest ++ after))
      there_free done rest are = subst (AreFree s) (append_assoc done (entry ∷ rest) after) (subst (λ us. AreFree s (us ++ after)) are (free_behind s before (own ++ after) ordered.free))

      -- over the last row its equation does not fail
      fails_not : (kind : Fail) → EquationFails s (with_row S m w.last) uses m entry.equation kind → ⊥
      fails_not kind fails =
          let (turn, at) = turn_of s S m own row w.last entry member w.taken in
          let alike = alike_at_turn s uses before own after ordered S m row w.last sound clear w.taken entry turn at in
          by_turn turn at (alike.1.fails kind fails)
        where
          ticks : class_ticks s (with_row S m row) (Some is.class) m ≡ true
          ticks = w.still (Some is.class) ∙ ap (λ c. class_ticks s (with_row S m w.last) c m) (sym is.class_is ∙ ap (class_of_equation s) (sym fails.equation_is)) ∙ fails.counts.ticks.1

          by_turn : (turn : Row) (at : IsTurn s S m own row w.last entry turn) → EquationFails s (with_row S m turn) uses m entry.equation kind → ⊥
          by_turn turn at there = by_step at.behind
            where
              free : AreFree s (at.done ++ entry ∷ (at.rest ++ after))
              free = there_free at.done at.rest at.entries_are

              once : IsReachedBy entry.name at.rest → ⊥
              once reached = (free_behind s at.done (entry ∷ (at.rest ++ after)) free).0.once (reached_before entry.name at.rest after reached)

              first : IsReachedBy entry.name at.done → ⊥
              first reached = reached_once s entry.name at.done (entry ∷ (at.rest ++ after)) free reached (inl refl)

              none_there : turn entry.name ≡ None
              none_there = taken_other s S m at.done row turn at.before entry.name first ∙ clear entry.name (reached_member own entry member)

              by_step : AreTaken s S m (entry ∷ at.rest) turn w.last → ⊥
              by_step (next, inl (v, gives, given), rest) = gives_or_fails s uses ordered.uses_are.uses_are entry is.used S m turn v kind gives there
              by_step (next, inr (none, same), rest) =
                  let v = valued ticks in
                  none-some v.value (sym none_there ∙ sym (same entry.name) ∙ sym (taken_other s S m at.rest next w.last rest entry.name once) ∙ v.is)

      -- where its class rests it has no value
      resting : class_ticks s (with_row S m row) (Some is.class) m ≡ false → w.last entry.name ≡ None
      resting rests = by_value (w.last entry.name) refl
        where
          by_value : (o : Option Value) → w.last entry.name ≡ o → o ≡ None
          by_value None none = refl
          by_value (Some v) some =
              let known = last_sound entry.name (subst IsSome (sym (row_now S m w.last entry.name ∙ some)) refl) in
              absurd (false≢true (sym rests ∙ w.still (Some is.class) ∙ ap (λ c. class_ticks s (with_row S m w.last) c m) (sym is.name_is) ∙ known.1))

    pub is_whole : IsWhole s uses own S m row common t new
    is_whole = record {
      last = w.last;
      taken = w.taken;
      set = w.set;
      values = λ entry class used of ticks. valued entry (contains_member entry own used) (ap (λ c. class_ticks s (with_row S m row) c m) (sym (each entry (contains_member entry own used)).class_is ∙ of) ∙ ticks);
      rests = λ entry class used of rests. resting entry (contains_member entry own used) (ap (λ c. class_ticks s (with_row S m row) c m) (sym (each entry (contains_member entry own used)).class_is ∙ of) ∙ rests);
      told = λ i kind (entry, used, at, fails). fails_not entry (contains_member entry own used) kind (subst (λ j. EquationFails s (with_row S m w.last) uses m j kind) (sym at) fails);
    }

pub whole : (s : Setting) (uses before after : List Use) (blocks : List Block) → IsOrdered s uses (before ++ (entries_of blocks ++ after)) → (p : Option ℕ) (common : Cells) (t : ℕ) (stretches : List ClassStretch) → AreCoded s uses p common t stretches blocks
    → (S : Assignment) (m : ℕ) (row : Row) → IsSound s (with_row S m row) m → AllBegin s p S m row before → IsClear (entries_of blocks) row → (ticking : List Bool) (old new : List ℤ) → IsSet s S m row common t old → AreShownBy s S m row ticking t old stretches blocks
    → RunsFrom 0 ticking stretches old new None → IsWhole s uses (entries_of blocks) S m row common t new
whole s uses before after blocks ordered p common t stretches are S m row sound begins clear ticking old new set told runs =
    is_whole s uses before after S m row sound p common t ticking new (entries_of blocks) ordered clear
    (block_own s uses before after S m row sound p common t ticking new (before ++ (entries_of blocks ++ after)) ordered stretches blocks are)
    (went s uses p common t S m ticking before after blocks ordered stretches are row begins clear 0 old new set told runs)
