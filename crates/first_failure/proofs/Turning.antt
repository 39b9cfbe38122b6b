-- What fails at its turn fails over the last row, and the other way round.
use Rattle.std.proofs.Common.{◌≡◌, refl, ap, sym, subst, ◌↔◌, ℕ, List, [], ◌∷◌, ◌++◌, Contains, Option, Some, None, inl, inr}
use Rattle.sync_values.specs.declared.value.Fail.{Fail}
use Rattle.flat_model.specs.Assignment.{Assignment}
use Rattle.flat_model.specs.Faults.{EquationFails}
use Rattle.flat_model.specs.Given.{Row, with_row}
use Rattle.flat_model.specs.Setting.{Setting}
use Rattle.flat_model.specs.Uses.{Use}
use Rattle.moment_theory.specs.Free.{IsReachedBy, IsFree, IsOrdered}
use Rattle.moment_theory.specs.Pieces.{Needs}
use Rattle.moment_theory.specs.Sound.{IsSound, IsClear, WaitsForNoOwn, AgreeOnNeeds, DoesAlike}
use Rattle.moment_theory.specs.Taken.{AreTaken}
use Rattle.moment_theory.proofs.Beside.{reached_first}
use Rattle.moment_theory.proofs.Members.{IsMember, contains_member, member_contains}
use Rattle.moment_theory.proofs.Pieces.{free_front, free_back}
use Rattle.moment_theory.proofs.SameUse.{does_alike, sound_taken}
use Rattle.moment_theory.proofs.Settled.{model}
use Rattle.moment_theory.proofs.Taking.{unchanged}
use Rattle.first_failure.specs.declared.least.EquationFailing.{EquationFailing}
use Rattle.first_failure.specs.Turns.{IsTurn, FailsAtTurn, FailsAmong, IsLeast}

-- what a use needs is reached neither by itself nor later
needs_nothing_later : (s : Setting) (entry : Use) (later : List Use) → IsFree s entry later → (y : ℕ) → Needs s entry y → IsReachedBy y (entry ∷ later) → ⊥
needs_nothing_later s entry later free y (inl (other, reads)) (inl is) = other is
needs_nothing_later s entry later free y (inl (other, reads)) (inr reached) = free.reads y reads reached
needs_nothing_later s entry later free y (inr (class, asks, site)) reached = free.sites class y asks site reached

waits_for_others : (s : Setting) (entry : Use) (later : List Use) → IsFree s entry later → WaitsForNoOwn s entry
waits_for_others s entry later free class asks site = free.sites class entry.name asks site (inl refl)

pub member_back : (xs ys : List Use) (entry : Use) → IsMember entry ys → IsMember entry (xs ++ ys)
member_back [] ys entry h = h
member_back (x ∷ xs) ys entry h = inr (member_back xs ys entry h)

pub member_front : (xs ys : List Use) (entry : Use) → IsMember entry xs → IsMember entry (xs ++ ys)
member_front [] ys entry h = absurd h
member_front (x ∷ xs) ys entry (inl at) = inl at
member_front (x ∷ xs) ys entry (inr h) = inr (member_front xs ys entry h)

module _ (s : Setting) (uses before after : List Use) (S : Assignment) (m : ℕ) (base last : Row) (sound : IsSound s (with_row S m base) m) where
  -- a front of the uses leaves a sound row
  pub front_sound : (front rest : List Use) → IsOrdered s uses (before ++ ((front ++ rest) ++ after)) → IsClear (front ++ rest) base → (row : Row) → AreTaken s S m front base row → IsSound s (with_row S m row) m
  front_sound front rest ordered clear row taken =
      sound_taken s uses ordered.runs ordered.uses_are.uses_are S m front base row
      (λ e used. ordered.same.only e (member_contains e (before ++ ((front ++ rest) ++ after)) (member_back before ((front ++ rest) ++ after) e (member_front (front ++ rest) after e (member_front front rest e (contains_member e front used))))))
      (free_front s front rest (free_front s (front ++ rest) after (free_back s before ((front ++ rest) ++ after) ordered.free)))
      (λ y reached. clear y (reached_first front rest y reached))
      sound taken

  bare_end : (xs : List Use) → xs ++ [] ≡ xs
  bare_end [] = refl
  bare_end (x ∷ xs) = ap (λ ys. x ∷ ys) (bare_end xs)

  pub all_sound : (entries : List Use) → IsOrdered s uses (before ++ (entries ++ after)) → IsClear entries base → AreTaken s S m entries base last → IsSound s (with_row S m last) m
  all_sound entries ordered clear taken =
      let same : entries ≡ entries ++ [] = sym (bare_end entries) in
      front_sound entries [] (subst (λ es. IsOrdered s uses (before ++ (es ++ after))) same ordered) (subst (λ es. IsClear es base) same clear) last taken

  turn_alike : (done rest : List Use) (entry : Use) (turn : Row) → IsOrdered s uses (before ++ ((done ++ entry ∷ rest) ++ after)) → IsClear (done ++ entry ∷ rest) base → IsSound s (with_row S m last) m
      → AreTaken s S m done base turn → AreTaken s S m (entry ∷ rest) turn last → DoesAlike s uses S m entry turn last × DoesAlike s uses S m entry last turn
  turn_alike done rest entry turn ordered clear last_sound taken behind =
      let order = before ++ ((done ++ entry ∷ rest) ++ after) in
      let settled = model s uses order ordered in
      let whole = free_front s (done ++ entry ∷ rest) after (free_back s before ((done ++ entry ∷ rest) ++ after) ordered.free) in
      let free : IsFree s entry rest = (free_back s done (entry ∷ rest) whole).0 in
      let used : Contains uses entry = ordered.same.only entry (member_contains entry order (member_back before ((done ++ entry ∷ rest) ++ after) entry (member_front (done ++ entry ∷ rest) after entry (member_back done (entry ∷ rest) entry (inl refl))))) in
      let agree : AgreeOnNeeds s entry turn last = λ y needs. sym (unchanged s settled.unclocked S m (entry ∷ rest) turn last behind y (needs_nothing_later s entry rest free y needs)) in (
        does_alike s uses ordered.runs ordered.uses_are.uses_are S m entry used (waits_for_others s entry rest free) turn last (front_sound done (entry ∷ rest) ordered clear turn taken) agree,
        does_alike s uses ordered.runs ordered.uses_are.uses_are S m entry used (waits_for_others s entry rest free) last turn last_sound (λ y needs. sym (agree y needs)),
      )

-- the turn of a use
pub turn_of : (s : Setting) (S : Assignment) (m : ℕ) (entries : List Use) (base last : Row) (entry : Use) → IsMember entry entries → AreTaken s S m entries base last → (turn : Row) × IsTurn s S m entries base last entry turn
turn_of s S m [] base last entry member taken = absurd member
turn_of s S m (first ∷ es) base last entry (inl at) taken = (
  base,
  record {
    done = [];
    rest = es;
    entries_are = ap (λ e. e ∷ es) at;
    before = λ y. refl;
    behind = subst (λ e. AreTaken s S m (e ∷ es) base last) at taken;
  },
)
turn_of s S m (first ∷ es) base last entry (inr member) (next, step, rest) =
    let (turn, is) = turn_of s S m es next last entry member rest in (
      turn,
      record {
        done = first ∷ is.done;
        rest = is.rest;
        entries_are = ap (λ xs. first ∷ xs) is.entries_are;
        before = (next, step, is.before);
        behind = is.behind;
      },
    )

module _ (s : Setting) (uses before entries after : List Use) (ordered : IsOrdered s uses (before ++ (entries ++ after))) (S : Assignment) (m : ℕ) (base last : Row)
    (sound : IsSound s (with_row S m base) m) (clear : IsClear entries base) (taken : AreTaken s S m entries base last) where
  pub alike_at_turn : (entry : Use) (turn : Row) → IsTurn s S m entries base last entry turn → DoesAlike s uses S m entry turn last × DoesAlike s uses S m entry last turn
  alike_at_turn entry turn is =
      turn_alike s uses before after S m base last sound is.done is.rest entry turn
      (subst (λ es. IsOrdered s uses (before ++ (es ++ after))) is.entries_are ordered) (subst (λ es. IsClear es base) is.entries_are clear)
      (all_sound s uses before after S m base last sound entries ordered clear taken) is.before is.behind

  to_last : (i : ℕ) (kind : Fail) → FailsAtTurn s uses S m entries base last i kind → FailsAmong s uses S m entries last i kind
  to_last i kind (entry, turn, is, at, fails) = (
    entry,
    member_contains entry entries (subst (IsMember entry) (sym is.entries_are) (member_back is.done (entry ∷ is.rest) entry (inl refl))),
    at,
    subst (λ j. EquationFails s (with_row S m last) uses m j kind) at
        ((alike_at_turn entry turn is).0.fails kind (subst (λ j. EquationFails s (with_row S m turn) uses m j kind) (sym at) fails)),
  )

  to_turn : (i : ℕ) (kind : Fail) → FailsAmong s uses S m entries last i kind → FailsAtTurn s uses S m entries base last i kind
  to_turn i kind (entry, used, at, fails) =
      let (turn, is) = turn_of s S m entries base last entry (contains_member entry entries used) taken in (
        entry,
        turn,
        is,
        at,
        subst (λ j. EquationFails s (with_row S m turn) uses m j kind) at
            ((alike_at_turn entry turn is).1.fails kind (subst (λ j. EquationFails s (with_row S m last) uses m j kind) (sym at) fails)),
      )

  pub both_ways : (i : ℕ) (kind : Fail) → FailsAtTurn s uses S m entries base last i kind ↔ FailsAmong s uses S m entries last i kind
  both_ways i kind = (to_last i kind, to_turn i kind)

  pub least : (told : Option EquationFailing) → IsLeast (FailsAtTurn s uses S m entries base last) told → IsLeast (FailsAmong s uses S m entries last) told
  least None none = λ i kind fails. none i kind (to_turn i kind fails)
  least (Some failing) (own, none) = (to_last failing.equation failing.kind own, λ i kind less fails. none i kind less (to_turn i kind fails))
