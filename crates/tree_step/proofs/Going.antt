-- Entries taken one after the other take their uses, and the least failure is told.
use Rattle.std.proofs.Common.{◌≡◌, refl, ap, sym, subst, ◌∙◌, ℕ, ◌<◌, ◌&&◌, ◌||◌, not, Bool, true, false, List, [], ◌∷◌, ◌++◌, Option, Some, None, slice_get, Contains, ◌⊎◌, Ok, Err, inl, inr, arith, Result}
use Rattle.std.proofs.lemmas.Bool.{cases_eq, false≢true, and_parts}
use Rattle.std.proofs.lemmas.Option.{same_Some}
use Rattle.sync_values.specs.declared.value.Value.{Value}
use Rattle.sync_values.specs.declared.value.Fail.{Fail}
use Rattle.flat_model.specs.declared.equation.Equation.{Equation}
use Rattle.flat_model.specs.declared.equation.Equation.TheVariants.{Valued}
use Rattle.flat_model.specs.declared.model.FlatName.{FlatName}
use Rattle.flat_model.specs.Asks.{OfFirst, OfInterval, asked, Asking, IsSampled}
use Rattle.flat_model.specs.Assignment.{Assignment, IsOfKind}
use Rattle.flat_model.specs.Faults.{EquationFails}
use Rattle.flat_model.specs.Given.{Row, with_row, CanUse, HasReadsBut}
use Rattle.flat_model.specs.Setting.{Setting, class_of_equation, class_ticks, class_of_name}
use Rattle.flat_model.specs.Uses.{Use, SiteReads}
use Rattle.moment_theory.specs.Free.{IsReachedBy, IsFree, IsOrdered, AsksClass, AsksLastIn}
use Rattle.moment_theory.specs.Sound.{IsSound, IsClear, WaitsForNoOwn}
use Rattle.moment_theory.specs.Taken.{put, Gives, IsTaken, AreTaken}
use Rattle.moment_theory.proofs.Facts.{Facts, UseFacts, facts_of_use, free_use, once_left, once_right}
use Rattle.moment_theory.proofs.FromRunnable.{facts_of}
use Rattle.moment_theory.proofs.Once.{one_use}
use Rattle.moment_theory.proofs.Pieces.{free_back}
use Rattle.moment_theory.proofs.Taking.{put_same, put_other, step_other, step_sound}
use Rattle.moment_theory.proofs.Unknown.{known_where_ticks}
use Rattle.side_theory.specs.Sides.{DoesAs}
use Rattle.side_theory.specs.Typed.{IsTypedRow}
use Rattle.first_failure.specs.declared.least.EquationFailing.{EquationFailing}
use Rattle.first_failure.proofs.Joining.{Tells, Told, Well, Ill, tells}
use Rattle.first_failure.proofs.Stepping.{gives_or_fails}
use Rattle.first_failure.proofs.Telling.{least_same}
use Rattle.first_failure.specs.Turns.{FailsAmong, IsLeast}
use Rattle.solved_use.specs.Solving.{CanSolve, ShowsEquation}
use Rattle.solved_use.proofs.Solving.{solves_use}
use Rattle.tree_step.specs.declared.cell.Cell.{Cell}
use Rattle.tree_step.specs.declared.taking.Entry.{Entry}
use Rattle.tree_step.specs.declared.taking.Outcome.{Outcome}
use Rattle.tree_step.specs.declared.taking.Outcome.TheVariants as outcome
use Rattle.tree_step.specs.Cells.{cell_in, put_in}
use Rattle.tree_step.specs.Starts.{Sight, use_of, uses_of, IsAmong, IsEntry, IsStart}
use Rattle.tree_step.specs.Takes.{IsSameCell, HasTaken}
use Rattle.tree_step.specs.private.Lacking.{expr_lacks}
use Rattle.tree_step.specs.private.Taking.{ready_in, is_ready, views_by, IsSolvable, CanTake, SolvesBy, OutcomeOf, cells_after, told_after, TakesAll}
use Rattle.tree_step.proofs.Ready.{AtRow, used_entry, own_is, seen, clock_ticks, nothing_missing, none_missing, side_shown}
use Rattle.tree_step.proofs.Plain.{left_asks}
use Rattle.tree_step.proofs.Putting.{same_refl, same_trans, put_becomes}
use Rattle.flat_model.specs.declared.expression.Expr.{Expr}
use Rattle.flat_model.specs.Runnable.{IsSideClocked}
use Rattle.eq_orient.specs.Solving.{Solves}
use Rattle.flat_model.specs.Evaluation.{answer_of}
use Rattle.eq_orient.specs.Spine.{IsSpineOf}

regroup : (front : List Use) (entry : Use) (rest : List Use) → front ++ entry ∷ rest ≡ (front ++ entry ∷ []) ++ rest
regroup [] entry rest = refl
regroup (first ∷ front) entry rest = ap (λ us. first ∷ us) (regroup front entry rest)

reached_front : (some after : List Use) (y : ℕ) → IsReachedBy y some → IsReachedBy y (some ++ after)
reached_front [] after y h = absurd h
reached_front (e ∷ some) after y (inl same) = inl same
reached_front (e ∷ some) after y (inr h) = inr (reached_front some after y h)

reached_among : (e : Entry) (entries : List Entry) → IsAmong e entries → IsReachedBy e.name (uses_of entries)
reached_among e [] among = absurd among
reached_among e (first ∷ rest) (inl is) = inl (ap (λ z. z.name) (sym is))
reached_among e (first ∷ rest) (inr among) = inr (reached_among e rest among)

pub among_back : (done rest : List Entry) (e : Entry) → IsAmong e rest → IsAmong e (done ++ rest)
among_back [] rest e h = h
among_back (first ∷ done) rest e h = inr (among_back done rest e h)

or_parts : (a b : Bool) → a || b ≡ false → (a ≡ false) × (b ≡ false)
or_parts true b e = absurd (false≢true (sym e))
or_parts false b e = (refl, e)

or_from : (a b : Bool) → a ≡ false → b ≡ false → a || b ≡ false
or_from a b e f = ap (λ c. c || b) e ∙ f

not_false : (a : Bool) → not a ≡ true → a ≡ false
not_false true e = absurd (false≢true e)
not_false false e = refl

false_not : (a : Bool) → a ≡ false → not a ≡ true
false_not a e = ap not e

none_fail : (i : ℕ) (k : Fail) → ⊥ → ⊥
none_fail i k h = h

module _ (s : Setting) (uses before after : List Use) (S : Assignment) (m : ℕ) (base : Row) (sight : Sight) (all : List Entry) (cells₀ : List Cell) (start : IsStart s uses before after S m base sight all cells₀) where
  abbrev facts : Facts s
  facts = facts_of s start.ordered.runs

  abbrev At : Row → List Cell → Type 0
  At row cells = AtRow s uses before after S m base sight all cells₀ start row cells

  -- before some entries are taken
  pub record Turn (es : List Entry) (row : Row) (cells : List Cell) : Type 0 where
    pub front : List Use
    pub ordered : IsOrdered s uses (front ++ (uses_of es ++ after))
    pub within : (e : Entry) → IsAmong e es → IsAmong e all
    pub clear : IsClear (uses_of es) row
    pub at : At row cells

  pub first_turn : Turn all base cells₀
  first_turn = record {
    front = before;
    ordered = start.ordered;
    within = λ e among. among;
    clear = start.clear;
    at = record {
      holds = start.holds;
      kept = λ x. same_refl (cell_in sight.places cells₀ x);
      sites = λ e class y among asks reads. refl;
      typed = start.typed;
      sound = start.sound;
    };
  }

  module _ (e : Entry) (es : List Entry) (row : Row) (cells : List Cell) (turn : Turn (e ∷ es) row cells) where
    abbrev entry : Use
    entry = use_of e

    abbrev A : Assignment
    A = with_row S m row

    abbrev among : IsAmong e all
    among = turn.within e (inl refl)

    abbrev used : Contains uses entry
    used = used_entry s uses before after S m base sight all cells₀ start e among

    abbrev is : IsEntry s S m base sight cells₀ e
    is = start.each e among

    abbrev of : UseFacts s entry
    of = facts_of_use s uses start.ordered.uses_are.uses_are entry used

    abbrev own : Equation
    own = Valued of.left of.right of.clause

    abbrev class : Option ℕ
    class = class_of_equation s e.equation

    pub found_own : slice_get sight.equations e.equation ≡ Some own
    found_own = ap (λ es. slice_get es e.equation) start.model ∙ of.found

    free : IsFree s entry (uses_of es ++ after)
    free = (free_back s turn.front (entry ∷ (uses_of es ++ after)) turn.ordered.free).0

    waits : WaitsForNoOwn s entry
    waits c asks site = free.sites c e.name asks site (inl refl)

    clocked : IsSideClocked s e.equation of.left × IsSideClocked s e.equation of.right
    clocked = start.ordered.runs.equations e.equation own of.found

    ticks_told : is.clock.ticks ≡ class_ticks s A class m
    ticks_told = clock_ticks s uses before after S m base sight all cells₀ start row cells turn.at e among

    pub ready_form : is_ready sight cells e ≡ is.clock.ticks && not (expr_lacks sight.places cells e.name of.left || expr_lacks sight.places cells e.name of.right)
    ready_form = ap (λ o. ready_in sight.places cells e.name o (slice_get sight.equations e.equation)) is.clock_found ∙ ap (ready_in sight.places cells e.name (Some is.clock)) found_own

    asks_left : (z : ℕ) → AsksLastIn of.left z → AsksClass s e.equation (class_of_name s z)
    asks_left z last = inr (own, z, of.found, inl last, refl)

    asks_right : (z : ℕ) → AsksLastIn of.right z → AsksClass s e.equation (class_of_name s z)
    asks_right z last = inr (own, z, of.found, inr last, refl)

    -- where it is ready the use counts
    module _ (ready : is_ready sight cells e ≡ true) where
      tests : (is.clock.ticks ≡ true) × (not (expr_lacks sight.places cells e.name of.left || expr_lacks sight.places cells e.name of.right) ≡ true)
      tests = and_parts is.clock.ticks (not (expr_lacks sight.places cells e.name of.left || expr_lacks sight.places cells e.name of.right)) (sym ready_form ∙ ready)

      lacks_none : (expr_lacks sight.places cells e.name of.left ≡ false) × (expr_lacks sight.places cells e.name of.right ≡ false)
      lacks_none = or_parts (expr_lacks sight.places cells e.name of.left) (expr_lacks sight.places cells e.name of.right) (not_false _ tests.1)

      ticks : class_ticks s A class m ≡ true
      ticks = sym ticks_told ∙ tests.0

      reads : HasReadsBut s A m e.equation e.name own
      reads y other = (
        nothing_missing s uses before after S m base sight all cells₀ start row cells turn.at e among of.left (seen s uses before after S m base sight all cells₀ start row cells turn.at e among).0 clocked.0 asks_left (once_left s facts entry of) lacks_none.0 y other,
        nothing_missing s uses before after S m base sight all cells₀ start row cells turn.at e among of.right (seen s uses before after S m base sight all cells₀ start row cells turn.at e among).1 clocked.1 asks_right (once_right s facts entry of) lacks_none.1 y other,
      )

      can : CanUse s A m entry own of.name
      can = record { equation_is = of.found; name_is = of.name_found; ticks = (known_where_ticks s A m class ticks, ticks); reads = reads }

      told_class : (side : Expr) → IsSideClocked s e.equation side → (q : Asking) → (IsSampled q → ⊥) → 0 < asked side 0 q → (c : ℕ) × (class ≡ Some c)
      told_class side cut q not some = by_class class refl
        where
          by_class : (o : Option ℕ) → class ≡ o → (c : ℕ) × (class ≡ Some c)
          by_class None none = absurd (not (left_asks side (cut.unclocked none) 0 q some).1)
          by_class (Some c) at = (c, at)

      shows : ShowsEquation s S m row class e.name (views_by sight cells is.clock) own
      shows = (
        side_shown s uses before after S m base sight all cells₀ start row cells turn.at e among of.left (seen s uses before after S m base sight all cells₀ start row cells turn.at e among).0 clocked.0 asks_left (once_left s facts entry of) ticks (λ y other. (reads y other).0)
            (told_class of.left clocked.0 OfFirst (λ h. h)) (told_class of.left clocked.0 OfInterval (λ h. h)),
        side_shown s uses before after S m base sight all cells₀ start row cells turn.at e among of.right (seen s uses before after S m base sight all cells₀ start row cells turn.at e among).1 clocked.1 asks_right (once_right s facts entry of) ticks (λ y other. (reads y other).1)
            (told_class of.right clocked.1 OfFirst (λ h. h)) (told_class of.right clocked.1 OfInterval (λ h. h)),
      )

      solved : CanSolve e.name own (views_by sight cells is.clock) × ((result : Result Value Fail) → Solves e.name own (views_by sight cells is.clock) result → DoesAs s uses S m row entry (answer_of result))
      solved = solves_use s uses start.ordered.runs start.ordered.uses_are.uses_are entry used waits S m row start.meets turn.at.typed own of.name can (views_by sight cells is.clock) shows

    -- an entry can be taken
    pub can_take : CanTake sight cells e
    can_take ready clock equation clock_is equation_is =
        let clocks : is.clock ≡ clock = same_Some is.clock clock (sym is.clock_found ∙ clock_is) in
        let equations : own ≡ equation = same_Some own equation (sym found_own ∙ equation_is) in
        subst (λ c. IsSolvable sight cells e c equation) clocks (subst (IsSolvable sight cells e is.clock) equations (record {
          spine = subst (λ q. IsSpineOf e.name q e.spine.left) (own_is s uses before after S m base sight all cells₀ start row cells turn.at e among) is.spine;
          can = (solved ready).0;
          measured = is.told.measured (tests ready).0;
        }))

    -- and where its use counts it is ready
    counts_ready : (equation : Equation) (name : FlatName) → CanUse s A m entry equation name → is_ready sight cells e ≡ true
    counts_ready equation name counts =
        let here : CanUse s A m entry own name = subst (λ q. CanUse s A m entry q name) (same_Some equation own (sym counts.equation_is ∙ of.found)) counts in
        let left = none_missing s uses before after S m base sight all cells₀ start row cells turn.at e among of.left (seen s uses before after S m base sight all cells₀ start row cells turn.at e among).0 clocked.0 asks_left (once_left s facts entry of) here.ticks.1 (λ y other. (here.reads y other).0) in
        let right = none_missing s uses before after S m base sight all cells₀ start row cells turn.at e among of.right (seen s uses before after S m base sight all cells₀ start row cells turn.at e among).1 clocked.1 asks_right (once_right s facts entry of) here.ticks.1 (λ y other. (here.reads y other).1) in
        ready_form ∙ ap (λ b. b && not (expr_lacks sight.places cells e.name of.left || expr_lacks sight.places cells e.name of.right)) (ticks_told ∙ here.ticks.1)
        ∙ false_not _ (or_from _ _ left right)

    -- what the solution tells
    does : (result : Result Value Fail) → SolvesBy sight cells e result → DoesAs s uses S m row entry (answer_of result)
    does result by =
        let clocks : by.clock ≡ is.clock = same_Some by.clock is.clock (sym by.clock_found ∙ is.clock_found) in
        let equations : by.equation ≡ own = same_Some by.equation own (sym by.found ∙ found_own) in
        (solved by.ready).1 result (subst (λ q. Solves e.name q (views_by sight cells is.clock) result) equations
        (subst (λ c. Solves e.name by.equation (views_by sight cells c) result) clocks by.solves))

    -- ---- behind it

    module _ (next : Row) (step : IsTaken s S m entry row next) where
      clear_next : IsClear (uses_of es) next
      clear_next y reached =
          step_other s facts.unclocked S m entry row next step y (λ same. free.once (subst (λ z. IsReachedBy z (uses_of es ++ after)) same (reached_front (uses_of es) after y reached)))
          ∙ turn.clear y (inr reached)

      sites_next : (d : Entry) (c : Option ℕ) (y : ℕ) → IsAmong d all → AsksClass s d.equation c → SiteReads s c y → next y ≡ base y
      sites_next d c y there asks reads =
          step_other s facts.unclocked S m entry row next step y (λ same. start.apart d c y there asks reads (subst (λ z. IsReachedBy z (uses_of all)) (sym same) (reached_among e all among)))
          ∙ turn.at.sites d c y there asks reads

      sound_next : IsSound s (with_row S m next) m
      sound_next = step_sound s facts.unclocked S m entry (uses_of es ++ after) row next (free_use s facts entry of (uses_of es ++ after) free) (turn.clear e.name (inl refl)) step turn.at.sound

      turn_next : (new : List Cell) → ((x : ℕ) (cell : Cell) → cell_in sight.places new x ≡ Some cell → cell.now ≡ next x) → ((x : ℕ) → IsSameCell (cell_in sight.places cells₀ x) (cell_in sight.places new x)) → IsTypedRow s next
          → Turn es next new
      turn_next new holds kept typed = record {
        front = turn.front ++ entry ∷ [];
        ordered = subst (IsOrdered s uses) (regroup turn.front entry (uses_of es ++ after)) turn.ordered;
        within = λ d there. turn.within d (inr there);
        clear = clear_next;
        at = record { holds = holds; kept = kept; sites = sites_next; typed = typed; sound = sound_next };
      }

    pub record Went (told : Option EquationFailing) (o : Outcome) : Type 0 where
      pub next : Row
      pub step : IsTaken s S m entry row next
      pub onward : Turn es next (cells_after sight.places cells e.name o)
      pub told_is : Told s uses S m row entry told (told_after told e.equation o)

    -- nothing comes of it
    still : (told : Option EquationFailing) → IsTaken s S m entry row row → Turn es row cells
    still told step = turn_next row step cells turn.at.holds turn.at.kept turn.at.typed

    pub went : (told : Option EquationFailing) (o : Outcome) → OutcomeOf sight cells e o → Went told o
    went told outcome.Rests not = record {
      next = row;
      step = rests;
      onward = still told rests;
      told_is = Well (λ kind fails. false≢true (sym not ∙ counts_ready fails.equation fails.name
          (subst (λ u. CanUse s A m u fails.equation fails.name) (one_use s uses start.ordered.uses_are.uses_are fails.entry entry fails.used used fails.equation_is) fails.counts))) refl;
    }
      where
        rests : IsTaken s S m entry row row
        rests = inr ((λ v gives. false≢true (sym not ∙ counts_ready gives.equation gives.name gives.can)), λ y. refl)
    went told (outcome.Fails kind) by = record {
      next = row;
      step = none;
      onward = still told none;
      told_is = Ill (record { equation = e.equation; kind = kind }) refl fails refl;
    }
      where
        fails : EquationFails s A uses m e.equation kind
        fails = does (Err kind) by

        none : IsTaken s S m entry row row
        none = inr ((λ v gives. gives_or_fails s uses start.ordered.uses_are.uses_are entry used S m row v kind gives fails), λ y. refl)
    went told (outcome.Gives v) by = record {
      next = put row e.name v;
      step = step;
      onward = turn_next (put row e.name v) step (cells_after sight.places cells e.name (outcome.Gives v)) holds kept typed;
      told_is = Well (λ kind fails. gives_or_fails s uses start.ordered.uses_are.uses_are entry used S m row v kind gives fails) refl;
    }
      where
        gives : Gives s S m row entry v
        gives = does (Ok v) by

        step : IsTaken s S m entry row (put row e.name v)
        step = inl (v, gives, λ y. refl)

        kept : (x : ℕ) → IsSameCell (cell_in sight.places cells₀ x) (cell_in sight.places (put_in sight.places cells e.name v) x)
        kept x = same_trans _ _ _ (turn.at.kept x) (put_becomes sight.places cells e.name v x).same

        holds : (x : ℕ) (cell : Cell) → cell_in sight.places (put_in sight.places cells e.name v) x ≡ Some cell → cell.now ≡ put row e.name v x
        holds x cell found = elim (cases_eq x e.name) [
          | inl same ↦ (put_becomes sight.places cells e.name v x).own same cell found ∙ sym (ap (put row e.name v) same ∙ put_same row e.name v)
          | inr other ↦ turn.at.holds x cell (sym ((put_becomes sight.places cells e.name v x).other other) ∙ found) ∙ sym (put_other row e.name v x other)
        ]

        typed : IsTypedRow s (put row e.name v)
        typed x name w name_found has = elim (cases_eq x e.name) [
          | inl same ↦
              let values : v ≡ w = same_Some v w (sym (put_same row e.name v) ∙ ap (put row e.name v) (sym same) ∙ has) in
              let names : gives.name ≡ name = same_Some gives.name name (sym gives.can.name_is ∙ ap (slice_get s.model.names) (sym same) ∙ name_found) in
              subst (IsOfKind name.kind) values (subst (λ n. IsOfKind n.kind v) names gives.only.typed)
          | inr other ↦ turn.at.typed x name w name_found (sym (put_other row e.name v x other) ∙ has)
        ]

  pub record Gone (es : List Entry) (row : Row) (new : List Cell) (told result : Option EquationFailing) : Type 1 where
    pub last : Row
    pub taken : AreTaken s S m (uses_of es) row last
    pub at : At last new
    pub tells_is : Tells s uses S m (uses_of es) last told result

  pub gone : (es : List Entry) (row : Row) (cells new : List Cell) (told result : Option EquationFailing) → Turn es row cells → TakesAll sight es cells told new result → Gone es row new told result
  gone [] row cells new told result turn (new_is, result_is) = record {
    last = row;
    taken = λ y. refl;
    at = subst (At row) (sym new_is) turn.at;
    tells_is = λ P least. subst (IsLeast (λ i k. P i k ⊎ FailsAmong s uses S m [] row i k)) (sym result_is)
        (least_same P (λ i k. P i k ⊎ FailsAmong s uses S m [] row i k) (λ i k p. inl p) (back P) told least);
  }
    where
      none : (i : ℕ) (k : Fail) → FailsAmong s uses S m [] row i k → ⊥
      none i k (entry, (n, lt, there), at, fails) = absurd (omega (arith, lt))

      back : (P : ℕ → Fail → Type 0) (i : ℕ) (k : Fail) → P i k ⊎ FailsAmong s uses S m [] row i k → P i k
      back P i k (inl p) = p
      back P i k (inr among) = absurd (none i k among)
  gone (e ∷ es) row cells new told result turn (o, outcome, more) =
      let first = went e es row cells turn told o outcome in
      let rest = gone es first.next (cells_after sight.places cells e.name o) new (told_after told e.equation o) result first.onward more in record {
        last = rest.last;
        taken = (first.next, first.step, rest.taken);
        at = rest.at;
        tells_is = tells s uses turn.front after (use_of e) (uses_of es) turn.ordered S m row first.next rest.last turn.at.sound turn.clear first.step rest.taken told (told_after told e.equation o) result first.told_is rest.tells_is;
      }

  -- before the entries that are left
  pub record Left (rest : List Entry) (cells : List Cell) : Type 0 where
    pub row : Row
    pub turn : Turn rest row cells

  pub left_after : (done rest : List Entry) (row : Row) (cells mid : List Cell) (told told_mid : Option EquationFailing) → Turn (done ++ rest) row cells → TakesAll sight done cells told mid told_mid → Left rest mid
  left_after [] rest row cells mid told told_mid turn (mid_is, told_is) = record { row = row; turn = subst (Turn rest row) (sym mid_is) turn }
  left_after (e ∷ done) rest row cells mid told told_mid turn (o, outcome, more) =
      let first = went e (done ++ rest) row cells turn told o outcome in
      left_after done rest first.next (cells_after sight.places cells e.name o) mid (told_after told e.equation o) told_mid first.onward more

  pub has_taken : (new : List Cell) (result : Option EquationFailing) → TakesAll sight all cells₀ None new result → HasTaken s uses S m base sight all cells₀ new result
  has_taken new result takes =
      let all_gone = gone all base cells₀ new None result first_turn takes in record {
        own = all_gone.last;
        taken = all_gone.taken;
        holds = all_gone.at.holds;
        kept = all_gone.at.kept;
        told = least_same (λ i k. ⊥ ⊎ FailsAmong s uses S m (uses_of all) all_gone.last i k) (FailsAmong s uses S m (uses_of all) all_gone.last) (drop_none all_gone.last) (λ i k among. inr among) result (all_gone.tells_is (λ i k. ⊥) (λ i k h. h));
      }
    where
      drop_none : (last : Row) (i : ℕ) (k : Fail) → ⊥ ⊎ FailsAmong s uses S m (uses_of all) last i k → FailsAmong s uses S m (uses_of all) last i k
      drop_none last i k (inl h) = absurd h
      drop_none last i k (inr among) = among
