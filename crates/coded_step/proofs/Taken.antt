-- What the code did takes the uses.
use Rattle.std.proofs.Common.{◌≡◌, refl, ap, sym, subst, ◌∙◌, ℕ, zero, suc, ◌==◌, if◌then◌else◌, Bool, true, false, ℤ, pos, List, [], ◌∷◌, ◌++◌, length, Contains, Option, Some, None, inl, inr, slice_get}
use Rattle.std.specs.Prelude.{option_map}
use Rattle.std.proofs.lemmas.Option.{none-some, same_Some}
use Rattle.sync_values.specs.Relation.{rank}
use Rattle.sync_values.specs.declared.value.Value.{Value}
use Rattle.sync_values.specs.declared.value.Value.TheVariants as value
use Rattle.flat_model.specs.declared.model.FlatName.{FlatName}
use Rattle.flat_model.specs.declared.model.NameKind.{NameKind}
use Rattle.flat_model.specs.declared.model.NameKind.TheVariants as kind
use Rattle.flat_model.specs.Assignment.{Assignment, IsOfKind}
use Rattle.flat_model.specs.Given.{Row, with_row}
use Rattle.flat_model.specs.Setting.{Setting, class_of_equation, partition_of, class_ticks}
use Rattle.flat_model.specs.Typing.{types_in}
use Rattle.flat_model.specs.Uses.{Use}
use Rattle.flat_model.proofs.Sites.{not_yet}
use Rattle.moment_theory.specs.Free.{IsReachedBy, IsOrdered}
use Rattle.moment_theory.proofs.Facts.{facts_of_use}
use Rattle.moment_theory.specs.Sound.{IsClear}
use Rattle.moment_theory.specs.Taken.{AreTaken}
use Rattle.moment_theory.proofs.Members.{IsMember, member_contains, contains_member}
use Rattle.step_code.specs.Machine.{word_at}
use Rattle.part_layout.specs.Keyed.{is_boolean, keyed_cells}
use Rattle.part_stretches.specs.Parts.{entries_of}
use Rattle.part_stretches.specs.Running.{tick_in, RunsFrom}
use Rattle.first_failure.specs.Turns.{FailsAmong, IsLeast}
use Rattle.whole_runs.specs.Whole.{IsWhole}
use Rattle.whole_runs.proofs.Whole.{whole}
use Rattle.tree_step.specs.declared.cell.Cell.{Cell}
use Rattle.tree_step.specs.declared.taking.Entry.{Entry}
use Rattle.tree_step.specs.Cells.{cell_in, cell_from, own_cell}
use Rattle.tree_step.specs.Starts.{Sight, use_of, uses_of, IsAmong}
use Rattle.tree_step.specs.Takes.{IsSameCell, HasTaken}
use Rattle.part_words.specs.Words.{AreFilled}
use Rattle.part_words.proofs.SetWords.{words_set}
use Rattle.part_code.specs.declared.coded.Coded.{Coded}
use Rattle.part_code.specs.declared.coded.Landing.{Landing}
use Rattle.part_code.specs.Coded.{IsCodeOf, IsLandingOf}
use Rattle.coded_step.specs.private.Landing.{ticking_of, value_from, value_by, value_in_place, value_of, with_value, AreLanded}
use Rattle.coded_step.specs.Taking.{IsCodeStart, TakesByCode}
use Rattle.coded_step.proofs.Beginning.{ordered, begins, is_entry, among_at, among_member, keys_told}
use Rattle.coded_step.proofs.Blocks.{blocks_of, entries_are, coded, told, ticks_told}
use Rattle.coded_step.proofs.There.{there, own_there}

-- the value of its own word
value_back : (types : Option NameKind) (k : NameKind) (v : Value) → types ≡ Some k → IsOfKind k v → value_from (is_boolean types) (rank v) ≡ v
value_back types kind.Integer (value.Int z) is typed = ap (λ o. value_from (is_boolean o) z) is
value_back types kind.Integer (value.Bool b) is typed = absurd typed
value_back types kind.Boolean (value.Int z) is typed = absurd typed
value_back types kind.Boolean (value.Bool true) is typed = ap (λ o. value_from (is_boolean o) (pos 1)) is
value_back types kind.Boolean (value.Bool false) is typed = ap (λ o. value_from (is_boolean o) (pos 0)) is
value_back types kind.Clock v is typed = absurd (no_clock v typed)
  where
    no_clock : (v : Value) → IsOfKind kind.Clock v → ⊥
    no_clock (value.Int z) h = h
    no_clock (value.Bool b) h = h

type_of_name : (names : List FlatName) (x : ℕ) (name : FlatName) → slice_get names x ≡ Some name → types_in names x ≡ Some name.kind
type_of_name names x name found = ap (option_map (λ n. n.kind)) found

same_cell : (v : Option Value) (cell : Cell) → IsSameCell (Some cell) (Some (with_value v cell))
same_cell None cell = (refl, refl, refl)
same_cell (Some w) cell = (refl, refl, refl)

same_name : (v : Option Value) (cell : Cell) → (with_value v cell).name ≡ cell.name
same_name None cell = refl
same_name (Some w) cell = refl

module _ (s : Setting) (uses before after : List Use) (partition : ℕ) (S : Assignment) (m : ℕ) (base : Row) (sight : Sight) (entries : List Entry) (cells : List Cell) (start : IsCodeStart s uses before after partition S m base sight entries cells) (code : Coded)
    (is : IsCodeOf sight.equations s.model.names entries code) (words : List ℤ) (new : List Cell) (landed : AreLanded sight.clocks entries code.landings.items words cells new) where
  -- the row that the uses leave, with what the words have of it
  pub record Left : Type 0 where
    pub last : Row
    pub taken : AreTaken s S m (uses_of entries) base last
    pub values : (e : Entry) → IsAmong e entries → class_ticks s (with_row S m base) (class_of_equation s e.equation) m ≡ true → (landing : Landing) → IsLandingOf s.model.names code.keys e landing
        → (v : Value) × (last e.name ≡ Some v) × (value_from landing.boolean (word_at words landing.cell) ≡ v)
    pub rests : (e : Entry) → IsAmong e entries → class_ticks s (with_row S m base) (class_of_equation s e.equation) m ≡ false → last e.name ≡ None
    pub told : IsLeast (FailsAmong s uses S m (uses_of entries) last) None

  module _ (left : Left) where
    -- a cell that is there now
    record New (x : ℕ) (cell : Cell) : Type 0 where
      old : Cell
      place : ℕ
      entry : Entry
      landing : Landing
      old_found : slice_get cells place ≡ Some old
      entry_found : slice_get entries place ≡ Some entry
      named : x ≡ entry.name
      cell_is : cell ≡ with_value (value_by (tick_in (ticking_of sight.clocks) entry.clock) (Some landing) words) old
      is_landing : IsLandingOf s.model.names code.keys entry landing

    old_at : (i : ℕ) (cell : Cell) → slice_get new i ≡ Some cell → (o : Option Cell) → slice_get cells i ≡ o → (old : Cell) × (slice_get cells i ≡ Some old) × (cell ≡ with_value (value_of sight.clocks entries code.landings.items words i) old)
    old_at i cell found None none = absurd (none-some cell (sym (landed.each i ∙ ap (option_map (with_value (value_of sight.clocks entries code.landings.items words i))) none) ∙ found))
    old_at i cell found (Some old) some = (old, some, same_Some cell (with_value (value_of sight.clocks entries code.landings.items words i) old) (sym found ∙ landed.each i ∙ ap (option_map (with_value (value_of sight.clocks entries code.landings.items words i))) some))

    new_cell : (x : ℕ) (cell : Cell) → cell_in sight.places new x ≡ Some cell → New x cell
    new_cell x cell found =
        let at = there sight.places new x cell found in
        let (old, old_found, cell_is) = old_at at.place cell at.found (slice_get cells at.place) refl in
        let (entry, entry_found, old_named) = start.named at.place old old_found in
        let (landing, landing_found, is_landing) = is.landings at.place entry entry_found in
        record {
          old = old;
          place = at.place;
          entry = entry;
          landing = landing;
          old_found = old_found;
          entry_found = entry_found;
          named = sym at.named ∙ ap (λ c. c.name) cell_is ∙ same_name (value_of sight.clocks entries code.landings.items words at.place) old ∙ old_named;
          cell_is = cell_is ∙ ap (λ v. with_value v old) (ap (λ o. value_in_place sight.clocks o (slice_get code.landings.items at.place) words) entry_found ∙ ap (λ o. value_by (tick_in (ticking_of sight.clocks) entry.clock) o words) landing_found);
          is_landing = is_landing;
        }

    old_none : (place : ℕ) (old : Cell) (entry : Entry) → slice_get cells place ≡ Some old → slice_get entries place ≡ Some entry → old.name ≡ entry.name → old.now ≡ None
    old_none place old entry found entry_found named =
        start.start.holds entry.name old (own_there sight.places cells place entry.name old (start.placed place entry entry_found) found named)
        ∙ start.start.clear entry.name (reached entries entry (among_at entries place entry entry_found))
      where
        reached : (es : List Entry) (e : Entry) → IsAmong e es → IsReachedBy e.name (uses_of es)
        reached [] e among = absurd among
        reached (first ∷ es) e (inl same) = inl (ap (λ z. z.name) (sym same))
        reached (first ∷ es) e (inr among) = inr (reached es e among)

    holds : (x : ℕ) (cell : Cell) → cell_in sight.places new x ≡ Some cell → cell.now ≡ left.last x
    holds x cell found = by_tick (tick_in (ticking_of sight.clocks) n.entry.clock) refl
      where
        n : New x cell
        n = new_cell x cell found

        among : IsAmong n.entry entries
        among = among_at entries n.place n.entry n.entry_found

        told_tick : tick_in (ticking_of sight.clocks) n.entry.clock ≡ class_ticks s (with_row S m base) (class_of_equation s n.entry.equation) m
        told_tick = ticks_told s uses before after partition S m base sight entries cells start code is n.entry among

        by_tick : (b : Bool) → tick_in (ticking_of sight.clocks) n.entry.clock ≡ b → cell.now ≡ left.last x
        by_tick true tick =
            let (v, has, from) = left.values n.entry among (sym told_tick ∙ tick) n.landing n.is_landing in
            ap (λ c. c.now) n.cell_is ∙ ap (λ b. (with_value (value_by b (Some n.landing) words) n.old).now) tick ∙ ap Some from ∙ sym has ∙ ap left.last (sym n.named)
        by_tick false tick =
            let (entry, entry_found, old_named) = start.named n.place n.old n.old_found in
            ap (λ c. c.now) n.cell_is ∙ ap (λ b. (with_value (value_by b (Some n.landing) words) n.old).now) tick
            ∙ old_none n.place n.old entry n.old_found entry_found old_named ∙ sym (left.rests n.entry among (sym told_tick ∙ tick)) ∙ ap left.last (sym n.named)

    by_found : (x : ℕ) (v : Option Value) (o : Option Cell) → IsSameCell (own_cell x o) (own_cell x (option_map (with_value v) o))
    by_found x v None = tt
    by_found x v (Some old) = by_name (old.name == x) refl
      where
        by_name : (b : Bool) → old.name == x ≡ b → IsSameCell (own_cell x (Some old)) (own_cell x (Some (with_value v old)))
        by_name true same = subst (λ o. IsSameCell o (own_cell x (Some (with_value v old)))) (sym (ap (λ b. if b then Some old else None) same))
            (subst (IsSameCell (Some old)) (sym (ap (λ y. if y == x then Some (with_value v old) else None) (same_name v old) ∙ ap (λ b. if b then Some (with_value v old) else None) same)) (same_cell v old))
        by_name false other = subst (λ o. IsSameCell o (own_cell x (Some (with_value v old)))) (sym (ap (λ b. if b then Some old else None) other))
            (subst (IsSameCell None) (sym (ap (λ y. if y == x then Some (with_value v old) else None) (same_name v old) ∙ ap (λ b. if b then Some (with_value v old) else None) other)) tt)

    kept : (x : ℕ) (o : Option ℕ) → IsSameCell (own_cell x (cell_from cells o)) (own_cell x (cell_from new o))
    kept x None = tt
    kept x (Some i) = subst (λ c. IsSameCell (own_cell x (slice_get cells i)) (own_cell x c)) (sym (landed.each i)) (by_found x (value_of sight.clocks entries code.landings.items words i) (slice_get cells i))

    pub has_taken : HasTaken s uses S m base sight entries cells new None
    has_taken = record { own = left.last; taken = left.taken; holds = holds; kept = λ x. kept x (slice_get sight.places x); told = left.told }

  -- ---- at moment 0 nothing ticks

  rested : (n : ℕ) → m ≡ n → n ≡ 0 → (e : Entry) → IsAmong e entries → class_ticks s (with_row S m base) (class_of_equation s e.equation) m ≡ true → ⊥
  rested n at zero_is e among ticks = by_class (class_of_equation s e.equation) refl
    where
      by_class : (o : Option ℕ) → class_of_equation s e.equation ≡ o → ⊥
      by_class None none = none-some partition (sym (ap (partition_of s) none) ∙ start.of e among)
      by_class (Some class) some = not_yet s (with_row S m base) class (subst (λ k. class_ticks s (with_row S m base) (Some class) k ≡ true) (at ∙ zero_is) (ap (λ c. class_ticks s (with_row S m base) c m) (sym some) ∙ ticks))

  none_gives : (n : ℕ) → m ≡ n → n ≡ 0 → (es : List Entry) → ((e : Entry) → IsAmong e es → IsAmong e entries) → AreTaken s S m (uses_of es) base base
  none_gives n at zero_is [] within = λ y. refl
  none_gives n at zero_is (e ∷ es) within =
      (base, inr ((λ v gives. rested n at zero_is e (within e (inl refl)) gives.can.ticks.1), λ y. refl), none_gives n at zero_is es (λ d h. within d (inr h)))

  entry_of_member : (es : List Entry) (entry : Use) → IsMember entry (uses_of es) → (e : Entry) × IsAmong e es × (use_of e ≡ entry)
  entry_of_member [] entry member = absurd member
  entry_of_member (first ∷ es) entry (inl same) = (first, inl refl, same)
  entry_of_member (first ∷ es) entry (inr member) = let (e, among, same) = entry_of_member es entry member in (e, inr among, same)

  at_first : (n : ℕ) → m ≡ n → n ≡ 0 → Left
  at_first n at zero_is = record {
    last = base;
    taken = none_gives n at zero_is entries (λ e h. h);
    values = λ e among ticks landing of. absurd (rested n at zero_is e among ticks);
    rests = λ e among rests. start.start.clear e.name (reached entries e among);
    told = λ i kind (entry, used, same, fails).
        let (e, among, is_use) = entry_of_member entries entry (contains_member entry (uses_of entries) used) in
        rested n at zero_is e among (ap (λ j. class_ticks s (with_row S m base) (class_of_equation s j) m) (ap (λ u. u.equation) is_use ∙ same ∙ sym fails.equation_is) ∙ fails.counts.ticks.1);
  }
    where
      reached : (es : List Entry) (e : Entry) → IsAmong e es → IsReachedBy e.name (uses_of es)
      reached [] e among = absurd among
      reached (first ∷ es) e (inl same) = inl (ap (λ z. z.name) (sym same))
      reached (first ∷ es) e (inr among) = inr (reached es e among)

  -- ---- later the code ran

  module _ (filled : List ℤ) (fills : AreFilled sight cells code.keys filled) (runs : RunsFrom 0 (ticking_of sight.clocks) code.stretches.items filled words None) (k : ℕ) (later : m ≡ suc k) where
    abbrev blocks_are : entries_of (blocks_of s uses before after partition S m base sight entries cells start code is entries code.stretches.items is.stretches) ≡ uses_of entries
    blocks_are = entries_are s uses before after partition S m base sight entries cells start code is entries code.stretches.items is.stretches

    ran : IsWhole s uses (uses_of entries) S m base (keyed_cells code.keys s.model.names 0) (length code.keys) words
    ran = subst (λ us. IsWhole s uses us S m base (keyed_cells code.keys s.model.names 0) (length code.keys) words) blocks_are
        (whole s uses before after (blocks_of s uses before after partition S m base sight entries cells start code is entries code.stretches.items is.stretches)
        (subst (λ us. IsOrdered s uses (before ++ (us ++ after))) (sym blocks_are) (ordered s uses before after partition S m base sight entries cells start))
        (Some partition) (keyed_cells code.keys s.model.names 0) (length code.keys) code.stretches.items
        (coded s uses before after partition S m base sight entries cells start code is entries (λ e h. h) code.stretches.items is.stretches)
        S m base start.start.sound (begins s uses before after partition S m base sight entries cells start)
        (subst (λ us. IsClear us base) (sym blocks_are) start.start.clear) (ticking_of sight.clocks) filled words
        (words_set s S m base sight cells code.keys filled is.whole (keys_told s uses before after partition S m base sight entries cells start code is k later) fills 0).0
        (told s uses before after partition S m base sight entries cells start code is filled fills k later entries (λ e h. h) code.stretches.items is.stretches) runs)

    used : (e : Entry) → IsAmong e entries → Contains (uses_of entries) (use_of e)
    used e among = member_contains (use_of e) (uses_of entries) (among_member entries e among)

    class_some : (e : Entry) → IsAmong e entries → (class : ℕ) × (class_of_equation s e.equation ≡ Some class)
    class_some e among = by_class (class_of_equation s e.equation) refl
      where
        by_class : (o : Option ℕ) → class_of_equation s e.equation ≡ o → (class : ℕ) × (class_of_equation s e.equation ≡ Some class)
        by_class None none = absurd (none-some partition (sym (ap (partition_of s) none) ∙ start.of e among))
        by_class (Some class) some = (class, some)

    at_later : Left
    at_later = record {
      last = ran.last;
      taken = ran.taken;
      values = values;
      rests = λ e among rests. let (class, class_is) = class_some e among in ran.rests (use_of e) class (used e among) class_is (ap (λ c. class_ticks s (with_row S m base) c m) (sym class_is) ∙ rests);
      told = ran.told;
    }
      where
        values : (e : Entry) → IsAmong e entries → class_ticks s (with_row S m base) (class_of_equation s e.equation) m ≡ true → (landing : Landing) → IsLandingOf s.model.names code.keys e landing
            → (v : Value) × (ran.last e.name ≡ Some v) × (value_from landing.boolean (word_at words landing.cell) ≡ v)
        values e among ticks landing of =
            let (class, class_is) = class_some e among in
            let v = ran.values (use_of e) class (used e among) class_is (ap (λ c. class_ticks s (with_row S m base) c m) (sym class_is) ∙ ticks) in
            let word = (ran.set.now e.name landing.cell v.value of.cell v.is).1 in
            let entry = is_entry s uses before after partition S m base sight entries cells start e among in
            let facts = facts_of_use s uses (ordered s uses before after partition S m base sight entries cells start).uses_are.uses_are (use_of e)
            ((ordered s uses before after partition S m base sight entries cells start).same.only (use_of e) (in_order e among)) in (
              v.value,
              v.is,
              ap (λ b. value_from b (word_at words landing.cell)) of.boolean ∙ ap (value_from (is_boolean (types_in s.model.names e.name))) word
                  ∙ value_back (types_in s.model.names e.name) facts.name.kind v.value (type_of_name s.model.names e.name facts.name facts.name_found) (v.typed facts.name facts.name_found),
            )
          where
            in_order : (e : Entry) → IsAmong e entries → Contains (before ++ (uses_of entries ++ after)) (use_of e)
            in_order e among = member_contains (use_of e) (before ++ (uses_of entries ++ after)) (behind before (front (uses_of entries) (among_member entries e among)))
              where
                behind : (some : List Use) → IsMember (use_of e) (uses_of entries ++ after) → IsMember (use_of e) (some ++ (uses_of entries ++ after))
                behind [] h = h
                behind (first ∷ some) h = inr (behind some h)

                front : (some : List Use) → IsMember (use_of e) some → IsMember (use_of e) (some ++ after)
                front [] h = absurd h
                front (first ∷ some) (inl same) = inl same
                front (first ∷ some) (inr h) = inr (front some h)

pub taken_by_code : (sight : Sight) (entries : List Entry) (cells new : List Cell) (code : Coded) (filled words : List ℤ) → AreFilled sight cells code.keys filled → RunsFrom 0 (ticking_of sight.clocks) code.stretches.items filled words None
    → AreLanded sight.clocks entries code.landings.items words cells new → TakesByCode sight entries cells new code
taken_by_code sight entries cells new code filled words fills runs landed s uses before after partition S m base start is = by_moment m refl
  where
    by_moment : (n : ℕ) → m ≡ n → HasTaken s uses S m base sight entries cells new None
    by_moment zero at = has_taken s uses before after partition S m base sight entries cells start code is words new landed (at_first s uses before after partition S m base sight entries cells start code is words new landed zero at refl)
    by_moment (suc k) at = has_taken s uses before after partition S m base sight entries cells start code is words new landed (at_later s uses before after partition S m base sight entries cells start code is words new landed filled fills runs k at)
