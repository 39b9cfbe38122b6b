-- A use of an unclocked equation gives again what it gave at the moment before, where nothing that it reads changed.
use Rattle.std.proofs.Common.{◌≡◌, refl, ap, sym, subst, ◌∙◌, ℕ, zero, suc, ◌-◌, ◌<◌, ◌==◌, ◌&&◌, ◌||◌, not, Bool, true, false, List, ◌∷◌, Some, None, Ok, is_none, slice_get, Contains, eq-eqb, inl, inr, arith}
use Rattle.std.proofs.lemmas.Bool.{false≢true, and_parts, cases_eq}
use Rattle.std.proofs.lemmas.List.Elements.{All-contains}
use Rattle.std.proofs.lemmas.Option.{same_Some, none-some}
use Rattle.sync_values.specs.declared.value.Value.{Value}
use Rattle.flat_model.specs.declared.equation.Equation.{Equation}
use Rattle.flat_model.specs.declared.equation.Equation.TheVariants.{Valued}
use Rattle.flat_model.specs.declared.expression.Expr.{Expr}
use Rattle.flat_model.specs.Values.{value_in}
use Rattle.flat_model.specs.Asks.{Asking, OfNow, OfLast, OfPrevious, OfFirst, OfInterval, asked, IsSampled}
use Rattle.flat_model.specs.Assignment.{Assignment, previous_value}
use Rattle.flat_model.specs.Given.{Row, with_row}
use Rattle.flat_model.specs.Meets.{HasOneValue}
use Rattle.flat_model.specs.Runnable.{IsSideClocked}
use Rattle.flat_model.specs.Setting.{Setting, class_of_equation, start_of, class_ticks, name_ticks, views_at}
use Rattle.flat_model.specs.Uses.{Use}
use Rattle.flat_model.specs.Views.{Views}
use Rattle.flat_model.proofs.Asks.{SameAt, value_rests_on_asked}
use Rattle.flat_model.proofs.Links.{asked_bare, asked_last}
use Rattle.eq_orient.specs.declared.standing.Manner.{Manner}
use Rattle.eq_orient.specs.declared.standing.Manner.TheVariants as manner
use Rattle.eq_orient.specs.Solving.{Fits, with_now}
use Rattle.eq_orient.specs.Spine.{count_in}
use Rattle.moment_theory.proofs.Facts.{Facts, UseFacts, facts_of_use}
use Rattle.moment_theory.proofs.FromRunnable.{facts_of}
use Rattle.tree_step.specs.declared.cell.Cell.{Cell}
use Rattle.tree_step.specs.declared.changed.Reads.{Reads}
use Rattle.tree_step.specs.declared.taking.Entry.{Entry}
use Rattle.tree_step.specs.Cells.{cell_in}
use Rattle.tree_step.specs.Changed.{HasSideReads, HasReads, IsValuesBefore, WereMet}
use Rattle.tree_step.specs.Frames.{now_in, last_by, last_in}
use Rattle.tree_step.specs.Starts.{Sight, use_of, IsAmong, IsSideSeen, IsEntry, IsStart}
use Rattle.tree_step.specs.private.Changed.{IsSame, IsResting, AreUnchanged}
use Rattle.tree_step.specs.private.Lacking.{is_missing, is_open_in, is_unsettled, expr_lacks}
use Rattle.tree_step.specs.private.Taking.{is_ready, views_by, SolvesBy}
use Rattle.tree_step.proofs.Going.{Turn, found_own, ready_form}
use Rattle.tree_step.proofs.Lacks.{ties, told}
use Rattle.tree_step.proofs.Plain.{left_asks}
use Rattle.tree_step.proofs.Ready.{missing_is, unsettled_is, closed_rests, is_false, both_false, same_on, used_entry, seen}
use Rattle.tree_step.proofs.Solved.{fits_at, own_now, other_now, one_value}

true≢false : true ≡ false → ⊥
true≢false e = false≢true (sym e)

not_true : (a : Bool) → not a ≡ true → a ≡ false
not_true true e = absurd (false≢true e)
not_true false e = refl

module _ (s : Setting) (uses before after : List Use) (S : Assignment) (m : ℕ) (base : Row) (sight : Sight) (all : List Entry) (cells₀ : List Cell) (start : IsStart s uses before after S m base sight all cells₀)
    (unclocked_all : (entry : Entry) → IsAmong entry all → class_of_equation s entry.equation ≡ None) (left_is : IsValuesBefore S m sight.left.now) (were_met : WereMet s S m all)
    (e : Entry) (es : List Entry) (row : Row) (cells : List Cell) (turn : Turn s uses before after S m base sight all cells₀ start (e ∷ es) row cells)
    (reads : Reads) (tell : (equation : Equation) → slice_get sight.equations e.equation ≡ Some equation → HasReads equation reads) (unchanged : AreUnchanged sight cells e.name reads) where
  abbrev x : ℕ
  x = e.name

  abbrev among : IsAmong e all
  among = turn.within e (inl refl)

  abbrev is : IsEntry s S m base sight cells₀ e
  is = start.each e among

  abbrev facts : Facts s
  facts = facts_of s start.ordered.runs

  abbrev of : UseFacts s (use_of e)
  of = facts_of_use s uses start.ordered.uses_are.uses_are (use_of e) (used_entry s uses before after S m base sight all cells₀ start e among)

  abbrev own : Equation
  own = Valued of.left of.right of.clause

  abbrev views : Views
  views = views_by sight cells is.clock

  unclocked : class_of_equation s e.equation ≡ None
  unclocked = unclocked_all e among

  clocked : IsSideClocked s e.equation of.left × IsSideClocked s e.equation of.right
  clocked = start.ordered.runs.equations e.equation own of.found

  own_found : slice_get sight.equations e.equation ≡ Some own
  own_found = found_own s uses before after S m base sight all cells₀ start e es row cells turn

  told_sides : HasSideReads of.left reads × HasSideReads of.right reads
  told_sides = tell own own_found

  same_bare : (y : ℕ) → Contains reads.bare y → IsSame sight cells x y
  same_bare y there = All-contains (IsSame sight cells x) reads.bare y unchanged.0 there

  rests : (z : ℕ) → Contains reads.held z → IsResting sight cells z
  rests z there = All-contains (IsResting sight cells) reads.held z unchanged.1 there

  -- ---- it is ready

  settled : (z : ℕ) → Contains reads.held z → is_unsettled sight.places cells z ≡ false
  settled z there = let (cell, cell_is, standing) = rests z there in
      unsettled_is sight.places cells z ∙ ap is_open_in cell_is ∙ ap (λ how. is_open_in (Some (record cell { standing = how }))) standing ∙ closed_rests cell.now

  lacks_none : (side : Expr) → HasSideReads side reads → expr_lacks sight.places cells x side ≡ false
  lacks_none side tells = is_false _ (λ lacking. let (k, y, some, tie) = (told (is_missing sight.places cells x) (is_unsettled sight.places cells) side).some lacking in by_manner k y some tie)
    where
      by_manner : (k : Manner) (y : ℕ) → 0 < count_in k y side → ties (is_missing sight.places cells x) (is_unsettled sight.places cells) k y ≡ true → ⊥
      by_manner manner.Bare y some tie =
          let tests = and_parts (not (y == x)) (is_none (now_in (cell_in sight.places cells y))) (sym (missing_is sight.places cells x y) ∙ tie) in
          let (v, now, left) = same_bare y (tells.0 y (let count = asked_bare y side in omega (arith, some, count))) (λ same. true≢false (sym (eq-eqb y x same) ∙ not_true (y == x) tests.0)) in
          true≢false (sym tests.1 ∙ ap is_none now)
      by_manner manner.Held y some tie = true≢false (sym tie ∙ settled y (tells.1 y (let count = asked_last y side in omega (arith, some, count))))
      by_manner manner.Converted y some tie = true≢false (sym tie ∙ settled y (tells.1 y (let count = asked_last y side in omega (arith, some, count))))

  ticks : is.clock.ticks ≡ true
  ticks = is.told.ticks ∙ ap (λ class. class_ticks s (with_row S m base) class m) unclocked

  ready : is_ready sight cells e ≡ true
  ready = ready_form s uses before after S m base sight all cells₀ start e es row cells turn
      ∙ ap (λ b. b && not (expr_lacks sight.places cells x of.left || expr_lacks sight.places cells x of.right)) ticks
      ∙ ap not (both_false _ _ (lacks_none of.left told_sides.0) (lacks_none of.right told_sides.1))

  -- ---- it sees what it saw

  module _ (k : ℕ) (later : m ≡ suc k) (v : Value) (own_left : value_in sight.left.now x ≡ Some v) where
    abbrev there : Views
    there = views_at s S (class_of_equation s e.equation) k

    here : k ≡ k - 0
    here = omega arith

    left_value : (y : ℕ) → value_in sight.left.now y ≡ S y (k - 0)
    left_value y = left_is.later y k later ∙ ap (S y) here

    same_now : (side : Expr) → HasSideReads side reads → (y : ℕ) → 0 < asked side 0 (OfNow y) → (with_now x v views 0).now y ≡ S y (k - 0)
    same_now side tells y some = elim (cases_eq y x) [
      | inl same ↦ ap (λ z. (with_now x v views 0).now z) same ∙ own_now x views v ∙ sym own_left ∙ ap (value_in sight.left.now) (sym same) ∙ left_value y
      | inr other ↦ let (u, now, left) = same_bare y (tells.0 y some) other in other_now x views v y other ∙ now ∙ sym left ∙ left_value y
    ]

    same_last : (side : Expr) → IsSideSeen s S m base sight cells₀ is.clock side → HasSideReads side reads → (z : ℕ) → 0 < asked side 0 (OfLast z) → last_in (cell_in sight.places cells z) ≡ (there 0).last z
    same_last side sees tells z some =
        let (cell, cell_is, standing) = rests z (tells.1 z some) in
        let (old, old_is, keeps, stands) = sees.last z some in
        let same = same_on _ _ old (turn.at.kept z) old_is in
        let one : same.other ≡ cell = same_Some same.other cell (sym same.is ∙ cell_is) in
        ap last_in cell_is ∙ ap (λ how. last_by how cell) standing ∙ ap (λ c. Some c.kept) (sym one) ∙ ap Some same.kept ∙ sym keeps
        ∙ ap (previous_value (name_ticks s S z) (S z) (start_of s z)) (later ∙ ap suc here)

    same_at : (side : Expr) → IsSideClocked s e.equation side → IsSideSeen s S m base sight cells₀ is.clock side → HasSideReads side reads → (d : ℕ) (q : Asking) → 0 < asked side d q → SameAt (with_now x v views) there d q
    same_at side cut sees tells d q some =
        let (at, sampled) = left_asks side (cut.unclocked unclocked) d q some in
        subst (λ n. SameAt (with_now x v views) there n q) (sym at) (by_asking q sampled (subst (λ n. 0 < asked side n q) at some))
      where
        by_asking : (q : Asking) → IsSampled q → 0 < asked side 0 q → SameAt (with_now x v views) there 0 q
        by_asking (OfNow y) sampled some = same_now side tells y some
        by_asking (OfLast z) sampled some = same_last side sees tells z some
        by_asking (OfPrevious y) sampled some = absurd sampled
        by_asking OfFirst sampled some = absurd sampled
        by_asking OfInterval sampled some = absurd sampled

    both_seen : IsSideSeen s S m base sight cells₀ is.clock of.left × IsSideSeen s S m base sight cells₀ is.clock of.right
    both_seen = seen s uses before after S m base sight all cells₀ start row cells turn.at e among

    solves : HasOneValue (with_now x v views) own
    solves =
        let (c, left, right) = were_met e own k among of.found later in (
          c,
          value_rests_on_asked of.left (with_now x v views) there (same_at of.left clocked.0 both_seen.0 told_sides.0) ∙ left,
          value_rests_on_asked of.right (with_now x v views) there (same_at of.right clocked.1 both_seen.1 told_sides.1) ∙ right,
        )

    fits : Fits v
    fits = fits_at of.name.kind (name_ticks s S x k) (S x k) v (sym (left_is.later x k later) ∙ own_left) ((start.meets k (omega (arith, later))).names x of.name of.name_found)

    gives_later : SolvesBy sight cells e (Ok v)
    gives_later = record {
      clock = is.clock;
      equation = own;
      clock_found = is.clock_found;
      found = own_found;
      ready = ready;
      solves = (fits, solves, λ w fine other. one_value x views v w of.left of.right of.clause of.solvable.1 (let total = of.solvable.0 in omega (arith, total)) (facts.formed e.equation of.left of.right of.clause of.found) solves other);
    }

  pub gives_again : (v : Value) → value_in sight.left.now x ≡ Some v → SolvesBy sight cells e (Ok v)
  gives_again v own_left = by_moment m refl
    where
      by_moment : (n : ℕ) → m ≡ n → SolvesBy sight cells e (Ok v)
      by_moment zero first = absurd (none-some v (sym (left_is.first x first) ∙ own_left))
      by_moment (suc k) later = gives_later k later v own_left
