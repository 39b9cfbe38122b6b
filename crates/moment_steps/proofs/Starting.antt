-- Unclocked uses over open cells are a start.
use Rattle.std.proofs.Common.{◌≡◌, ◌≢◌, refl, ap, ◌∙◌, sym, subst, ℕ, zero, suc, ◌+◌, ◌<◌, Bool, true, false, List, [], ◌∷◌, ◌++◌, length, Option, Some, None, slice_get, Contains, arith, ◌⊎◌, inl, inr}
use Rattle.std.specs.Prelude.{option_map, unwrap_or, if◌then◌else◌}
use Rattle.std.proofs.lemmas.Bool.{false≢true}
use Rattle.std.proofs.lemmas.Option.{none-some, same_Some, slice_get_within}
use Rattle.sync_values.specs.declared.value.Value.{Value}
use Rattle.sync_values.specs.declared.value.Value.TheVariants as value
use Rattle.flat_model.specs.declared.clock.Clock.{Clock}
use Rattle.flat_model.specs.declared.clock.Clock.TheVariants.{Periodic, Event}
use Rattle.flat_model.specs.declared.equation.Equation.{Equation}
use Rattle.flat_model.specs.declared.equation.Equation.TheVariants.{Valued, Clocks}
use Rattle.flat_model.specs.declared.expression.Expr.{Expr}
use Rattle.flat_model.specs.declared.model.FlatName.{FlatName}
use Rattle.flat_model.specs.declared.model.NameKind.{NameKind}
use Rattle.flat_model.specs.declared.model.NameKind.TheVariants as kind
use Rattle.flat_model.specs.declared.table.Left.{Left}
use Rattle.flat_model.specs.Values.{value_in, truth_in}
use Rattle.flat_model.specs.Asks.{AsksFor, OfNow, OfLast, OfPrevious, asked}
use Rattle.flat_model.specs.Assignment.{Assignment, previous_value}
use Rattle.flat_model.specs.Given.{Row, with_row, IsKnown, IsKnownOf}
use Rattle.flat_model.specs.Meets.{MeetsBefore}
use Rattle.flat_model.specs.Occurrences.{bare_count, held_count, converted_count}
use Rattle.flat_model.specs.Operators.{Answer, Is, Fails, Absent}
use Rattle.flat_model.specs.Runnable.{IsRunnable, IsSideClocked}
use Rattle.flat_model.specs.Setting.{Setting, flattened, class_of_name, class_of_equation, clock_of, site_answer, start_of, class_ticks, name_ticks}
use Rattle.flat_model.specs.Typing.{Types, types_in, valued_type}
use Rattle.flat_model.specs.Uses.{Use, SiteReads}
use Rattle.flat_model.specs.WholeTyping.{IsTyped}
use Rattle.flat_model.proofs.Links.{asked_bare, asked_last}
use Rattle.flat_model.proofs.Sites.{SameSiteOf, still_known}
use Rattle.side_theory.specs.Typed.{IsTypedRow, AreValuedBefore}
use Rattle.moment_theory.specs.Free.{IsOrdered, IsReachedBy, AsksClass, AsksLast, AsksLastIn}
use Rattle.moment_theory.specs.Sound.{IsSound, IsClear}
use Rattle.moment_theory.proofs.FromRunnable.{all_at, facts_of}
use Rattle.moment_theory.proofs.Meeting.{IsValued, IsSideClassed}
use Rattle.moment_theory.proofs.Named.{typed_names}
use Rattle.moment_theory.proofs.Settled.{model}
use Rattle.moment_theory.proofs.Unknown.{known_where_ticks}
use Rattle.tree_step.specs.declared.cell.Cell.{Cell}
use Rattle.tree_step.specs.declared.cell.Standing.{Standing}
use Rattle.tree_step.specs.declared.cell.Standing.TheVariants.{Ticks, Rests, Unknown}
use Rattle.tree_step.specs.declared.frame.ClockNow.{ClockNow}
use Rattle.tree_step.specs.declared.taking.Entry.{Entry}
use Rattle.tree_step.specs.Cells.{cell_in}
use Rattle.tree_step.specs.Changed.{WereMet}
use Rattle.tree_step.specs.Starts.{Sight, use_of, uses_of, IsAmong, HasCell, KeepsLast, StandsAs, IsClockShown, IsSideSeen, AreSidesSeen, IsEntry, AreSitesApart, IsStart}
use Rattle.tree_step.proofs.Plain.{left_asks}
use Rattle.partition_step.specs.Writing.{IsWritten}
use Rattle.partition_step.proofs.Lists.{some_at, written_at, written_back}
use Rattle.partition_step.proofs.Placing.{own_there, IsThere, there}
use Rattle.moment_steps.specs.declared.taking.UnclockedReads.{UnclockedReads}
use Rattle.moment_steps.proofs.Rows.{reached_first, reached_second}
use Rattle.moment_steps.specs.Settled.{IsPlainEntry, AlwaysTicks, IsSettled}
use Rattle.moment_steps.specs.Standing.{IsLeftAt}
use Rattle.moment_steps.specs.Opening.{opened, opened_by, resting_by, resting, standing_by, standing}

-- an answer with a truth value is one
is_truth : (a : Answer) (b : Bool) → truth_in a ≡ Some b → a ≡ Is (value.Bool b)
is_truth (Is (value.Bool c)) b e = ap (λ d. Is (value.Bool d)) (same_Some c b e)
is_truth (Is (value.Int z)) b e = absurd (none-some b e)
is_truth (Fails kind) b e = absurd (none-some b e)
is_truth Absent b e = absurd (none-some b e)

-- a name whose type has values
pub valued_name : (s : Setting) (x : ℕ) (type : NameKind) → valued_type (types_in s.model.names x) ≡ Some type → IsValued s x
valued_name s x type e = by_name (slice_get s.model.names x) refl e
  where
    by_kind : (name : FlatName) (k : NameKind) → name.kind ≡ k → valued_type (Some k) ≡ Some type → name.kind ≢ kind.Clock
    by_kind name kind.Integer is e clock = let h : kind.Integer ≡ kind.Clock = sym is ∙ clock in cc
    by_kind name kind.Boolean is e clock = let h : kind.Boolean ≡ kind.Clock = sym is ∙ clock in cc
    by_kind name kind.Clock is e clock = none-some type e

    by_name : (o : Option FlatName) → slice_get s.model.names x ≡ o → valued_type (option_map (λ name. name.kind) o) ≡ Some type → IsValued s x
    by_name None found e = absurd (none-some type e)
    by_name (Some name) found e = record { name = name; found = found; valued = by_kind name name.kind refl e }

pub valued_within : (s : Setting) (x : ℕ) → IsValued s x → x < length s.model.names
valued_within s x valued = slice_get_within s.model.names x valued.name valued.found

asks_last : (m n : ℕ) → 0 < m + n → (0 < m) ⊎ (0 < n)
asks_last zero n some = inr (omega (arith, some))
asks_last (suc m) n some = inl (omega arith)

pub last_in_side : (side : Expr) (z : ℕ) → AsksFor side 0 (OfLast z) → AsksLastIn side z
last_in_side side z asks = asks_last (held_count z side) (converted_count z side) (let same = asked_last z side in omega (arith, asks, same))

among_reached : (entries : List Entry) (e : Entry) → IsAmong e entries → IsReachedBy e.name (uses_of entries)
among_reached [] e among = absurd among
among_reached (first ∷ rest) e (inl is) = inl (ap (λ z. z.name) (sym is))
among_reached (first ∷ rest) e (inr among) = inr (among_reached rest e among)

-- ---- open cells

module _ (s : Setting) (pure waiting : List Entry) (noted : UnclockedReads) (always : List ClockNow) (numbers : List ℕ) (settled : IsSettled s pure waiting noted always numbers)
    (last : List Value) (now : List (Option Value)) (standings : ℕ → Standing) (old cells : List Cell) (wide : length old ≡ length s.model.names)
    (opens : IsWritten (opened_by numbers last now standings) old cells) where
  pub record OpenCell (x : ℕ) : Type 0 where
    pub was : Cell
    pub cell : Cell
    pub is : cell ≡ opened_by numbers last now standings x was
    pub found : cell_in numbers cells x ≡ Some cell

  pub open_cell : (x : ℕ) → x < length s.model.names → OpenCell x
  open_cell x lt =
      let (was, was_found) = some_at old x (omega (arith, lt, wide)) in
      let number = settled.numbered x lt in record {
        was = was;
        cell = opened_by numbers last now standings x was;
        is = refl;
        found = own_there numbers cells x x (opened_by numbers last now standings x was) number (written_at (opened_by numbers last now standings) old cells x was opens was_found)
            (ap (λ o. unwrap_or o was.name) number);
      }

  pub open_holds : (x : ℕ) (cell : Cell) → cell_in numbers cells x ≡ Some cell → cell.now ≡ value_in now x
  open_holds x cell is =
      let at = there numbers cells x cell is in
      let long = settled.long in
      let lt : x < length s.model.names = let within = slice_get_within numbers x at.place at.placed in omega (arith, within, long) in
      let place_is : at.place ≡ x = same_Some at.place x (sym at.placed ∙ settled.numbered x lt) in
      let (was, was_found, written) = written_back (opened_by numbers last now standings) old cells at.place cell opens at.found in
      ap (λ c. c.now) written ∙ ap (value_in now) place_is

-- ---- a start

-- a name has a cell with its last value before the moment, and how its clock stands
abbrev pub LastSeen : Setting → Assignment → ℕ → Row → List ℕ → List Cell → ℕ → Type 0
LastSeen s S m base numbers cells z = (cell : Cell) × (cell_in numbers cells z ≡ Some cell) × KeepsLast s S m z cell × StandsAs s (with_row S m base) m (class_of_name s z) cell.standing

module _ (s : Setting) (uses before after : List Use) (entries : List Entry) (ordered : IsOrdered s uses (before ++ (uses_of entries ++ after))) (S : Assignment) (m : ℕ) (valued : AreValuedBefore s S m)
    (pure waiting : List Entry) (noted : UnclockedReads) (always : List ClockNow) (numbers : List ℕ) (settled : IsSettled s pure waiting noted always numbers) (left : Left)
    (now : List (Option Value)) (standings : ℕ → Standing) (old cells : List Cell) (wide : length old ≡ length s.model.names)
    (opens : IsWritten (opened_by numbers left.last now standings) old cells)
    (typed : IsTypedRow s (value_in now)) (sound : IsSound s (with_row S m (value_in now)) m) (clear : IsClear (uses_of entries) (value_in now))
    (plain : (entry : Entry) → IsAmong entry entries → IsPlainEntry s entry)
    (apart : AreSitesApart s (uses_of entries) entries) where
  abbrev pub sight : Sight
  sight = record { equations = s.model.equations; places = numbers; left = left; clocks = always }

  abbrev clock : ClockNow
  clock = settled.always_ticks.clock

  has_cell : (x : ℕ) → x < length s.model.names → HasCell numbers cells x
  has_cell x lt = let o = open_cell s pure waiting noted always numbers settled left.last now standings old cells wide opens x lt in (o.cell, o.found)

  told : IsClockShown s S m (value_in now) None clock
  told = record {
    ticks = settled.always_ticks.ticks;
    first = λ c is ticking. absurd (none-some c is);
    interval = λ c is ticking. absurd (none-some c is);
    measured = λ ticking. settled.always_ticks.measured;
  }

  module _ (lasts : (entry : Entry) (equation : Equation) (z : ℕ) → IsAmong entry entries → slice_get s.model.equations entry.equation ≡ Some equation → AsksLast equation z → IsValued s z → LastSeen s S m (value_in now) numbers cells z) where
    module _ (e : Entry) (among : IsAmong e entries) where
      is_plain : IsPlainEntry s e
      is_plain = plain e among

      side_seen : (side : Expr) → IsSideClocked s e.equation side → IsSideClassed s e.equation side → ((z : ℕ) → AsksLastIn side z → LastSeen s S m (value_in now) numbers cells z) → IsSideSeen s S m (value_in now) sight cells clock side
      side_seen side clocked classed last_seen =
          let stands = clocked.unclocked is_plain.unclocked in record {
            now = λ y asks. has_cell y (valued_within s y (classed.bare y (let same = asked_bare y side in omega (arith, asks, same))).0);
            last = λ z asks. last_seen z (last_in_side side z asks);
            previous = λ y asks. absurd (left_asks side stands 0 (OfPrevious y) asks).1;
            left = λ ticking y k asks later. absurd (let none = (left_asks side stands 1 (OfNow y) asks).0 in omega (arith, none));
            left_last = λ ticking z asks. absurd (let none = (left_asks side stands 1 (OfLast z) asks).0 in omega (arith, none));
          }

      sides_seen : (equation : Equation) → slice_get s.model.equations e.equation ≡ Some equation → AreSidesSeen s S m (value_in now) sight cells clock equation
      sides_seen (Clocks left_side right clause) found = tt
      sides_seen (Valued left_side right clause) found =
          let clocked = ordered.runs.equations e.equation (Valued left_side right clause) found in
          let classed = (facts_of s ordered.runs).classed.sides e.equation left_side right clause found in (
            side_seen left_side clocked.0 classed.0 (λ z asks. lasts e (Valued left_side right clause) z among found (inl asks) (classed.0.last z asks)),
            side_seen right clocked.1 classed.1 (λ z asks. lasts e (Valued left_side right clause) z among found (inr asks) (classed.1.last z asks)),
          )

      name_within : e.name < length s.model.names
      name_within =
          let member : IsReachedBy e.name (before ++ (uses_of entries ++ after)) = reached_second before (uses_of entries ++ after) e.name (reached_first (uses_of entries) after e.name (among_reached entries e among)) in
          valued_within s e.name ((model s uses (before ++ (uses_of entries ++ after)) ordered).whole.valued e.name member)

      entry_is : IsEntry s S m (value_in now) sight cells e
      entry_is = record {
        equation = is_plain.equation;
        found = is_plain.found;
        spine = is_plain.spine;
        own = has_cell e.name name_within;
        clock = clock;
        clock_found = ap (slice_get always) is_plain.clock ∙ settled.always_ticks.found;
        told = subst (λ o. IsClockShown s S m (value_in now) o clock) (sym is_plain.unclocked) told;
        seen = sides_seen is_plain.equation is_plain.found;
      }

    pub starts : IsStart s uses before after S m (value_in now) sight entries cells
    starts = record {
      ordered = ordered;
      meets = valued;
      typed = typed;
      sound = sound;
      clear = clear;
      apart = apart;
      model = refl;
      holds = open_holds s pure waiting noted always numbers settled left.last now standings old cells wide opens;
      each = entry_is;
    }

-- the equations of unclocked uses were met at the moment before, as all were
pub were_met : (s : Setting) (S : Assignment) (m : ℕ) (entries : List Entry) → MeetsBefore s S m → ((entry : Entry) → IsAmong entry entries → class_of_equation s entry.equation ≡ None) → WereMet s S m entries
were_met s S m entries meets unclocked entry equation k among found later =
    (meets k (omega (arith, later))).equations entry.equation equation found (ap (λ class. class_ticks s S class k) (unclocked entry among))

-- ---- how clocks stand

module _ (s : Setting) (S : Assignment) (m : ℕ) (base row : Row) (ticks : ℕ → Bool) (answers : List (Option Bool))
    (ticks_are : (class : ℕ) → ticks class ≡ class_ticks s (with_row S m base) (Some class) m) (answers_are : (site : ℕ) → flattened (slice_get answers site) ≡ truth_in (site_answer s (with_row S m base) site m))
    (same_site : (class : Option ℕ) → SameSiteOf s (with_row S m base) (with_row S m row) m class)
    (same_ticks : (class : Option ℕ) → class_ticks s (with_row S m base) class m ≡ class_ticks s (with_row S m row) class m) where
  abbrev B : Assignment
  B = with_row S m base

  abbrev R : Assignment
  R = with_row S m row

  module _ (c : ℕ) where
    rests_in : ticks c ≡ false → class_ticks s R (Some c) m ≡ false
    rests_in rests = sym (same_ticks (Some c)) ∙ sym (ticks_are c) ∙ rests

    unknown_or : (site factor shift : ℕ) → slice_get s.clocking.clocks c ≡ Some (Event site factor shift) → ticks c ≡ false → (o : Option Bool) → flattened (slice_get answers site) ≡ o → StandsAs s R m (Some c) (resting_by o)
    unknown_or site factor shift is rests None none = λ known.
        let (b, answer) = subst (IsKnownOf s R m) is known in
        none-some b (sym none ∙ answers_are site ∙ ap truth_in (same_site (Some c) site factor shift is ∙ answer))
    unknown_or site factor shift is rests (Some b) some =
        (subst (IsKnownOf s R m) (sym is) (b, sym (same_site (Some c) site factor shift is) ∙ is_truth (site_answer s B site m) b (sym (answers_are site) ∙ some)), rests_in rests)

    rests_by : (k : Option Clock) → slice_get s.clocking.clocks c ≡ k → ticks c ≡ false → StandsAs s R m (Some c) (resting answers k)
    rests_by None is rests = (subst (IsKnownOf s R m) (sym is) tt, rests_in rests)
    rests_by (Some (Periodic period first)) is rests = (subst (IsKnownOf s R m) (sym is) tt, rests_in rests)
    rests_by (Some (Event site factor shift)) is rests = unknown_or site factor shift is rests (flattened (slice_get answers site)) refl

    stands_by : (b : Bool) → ticks c ≡ b → StandsAs s R m (Some c) (if b then Ticks else resting answers (slice_get s.clocking.clocks c))
    stands_by true ticking = let there : class_ticks s R (Some c) m ≡ true = sym (same_ticks (Some c)) ∙ sym (ticks_are c) ∙ ticking in (known_where_ticks s R m (Some c) there, there)
    stands_by false rests = rests_by (slice_get s.clocking.clocks c) refl rests

  pub stands_as : (class : Option ℕ) → StandsAs s R m class (standing_by s.clocking ticks answers class)
  stands_as None = (tt, refl)
  stands_as (Some c) = stands_by c (ticks c) refl
