-- Over cells that hold a row a run of the code of a stretch takes its uses, or tells the first that fails.
use Rattle.std.proofs.Common.{◌≡◌, ◌≢◌, refl, ap, sym, subst, ◌∙◌, ℕ, suc, ◌+◌, ◌-◌, ◌<◌, ◌≤◌, Bool, true, false, ℤ, List, [], ◌∷◌, ◌++◌, length, length-append, length-drop, Option, Some, None, slice_get, ◌⊎◌, inl, inr, arith}
use Rattle.std.specs.Prelude.{option_map}
use Rattle.std.proofs.lemmas.Option.{same_Some, none-some, slice_get_within}
use Rattle.sync_values.specs.Arithmetic.{fitted}
use Rattle.sync_values.specs.Relation.{rank}
use Rattle.sync_values.specs.declared.value.Value.{Value}
use Rattle.sync_values.specs.declared.value.Value.TheVariants as value
use Rattle.flat_model.specs.declared.model.FlatName.{FlatName}
use Rattle.flat_model.specs.declared.model.NameKind.{NameKind}
use Rattle.flat_model.specs.declared.model.NameKind.TheVariants as kind
use Rattle.flat_model.specs.Asks.{Asking, OfNow, OfLast, OfPrevious, OfFirst, OfInterval}
use Rattle.flat_model.specs.Assignment.{Assignment, IsOfKind, tick_before, value_at_tick}
use Rattle.flat_model.specs.Faults.{EquationFails}
use Rattle.flat_model.specs.Given.{Row, with_row}
use Rattle.flat_model.specs.Meaning.{whole_of}
use Rattle.flat_model.specs.Meets.{HasValueAtTicks}
use Rattle.flat_model.specs.Models.{IsName}
use Rattle.flat_model.specs.Runnable.{IsRunnable}
use Rattle.flat_model.specs.Setting.{Setting, class_of_name, start_in, start_of, class_ticks, name_ticks, views_at}
use Rattle.flat_model.specs.Typing.{types_in}
use Rattle.flat_model.specs.Uses.{Use, AreUses}
use Rattle.flat_model.specs.Views.{Views}
use Rattle.moment_theory.specs.Free.{IsReachedBy, AreFree, IsOrdered}
use Rattle.moment_theory.specs.Sound.{IsClear}
use Rattle.moment_theory.proofs.FromRunnable.{all_at}
use Rattle.moment_theory.proofs.Rows.{row_now, row_before}
use Rattle.step_code.specs.Code.{Cells}
use Rattle.step_code.specs.Correct.{IsTruth, AreTruths}
use Rattle.step_code.specs.Lines.{Line, Ended, All, Failed, Missing, lines_end, Holds, AreApart, IsNewTo, AreLines, IsKeptBut}
use Rattle.step_lines.specs.declared.running.Failing.{Failing}
use Rattle.step_lines.specs.declared.stretch.Stretch.{Stretch}
use Rattle.step_lines.specs.Stretches.{IsStretch, EndsAs, RunsLines}
use Rattle.side_theory.specs.Counted.{Begins, OnwardEnds}
use Rattle.side_theory.specs.Runs.{AreCelled, AreBooleans, HoldsRow, AllTaken, OneFailed, StretchTaken}
use Rattle.side_theory.specs.Stretches.{IsSameAt, AreShown, AreLinesOf, StretchEnds}
use Rattle.side_theory.proofs.Answering.{at_tick_before, less_or}
use Rattle.side_theory.proofs.Counting.{free_behind, are_counted}
use Rattle.side_theory.proofs.Onward.{onward}
use Rattle.side_theory.proofs.Showing.{at_tick}
use Rattle.side_theory.proofs.Side.{side_facts}
use Rattle.side_theory.proofs.Turns.{stretch_ends, as_many}

has_kind : (k : NameKind) (b : Bool) (o : Option Value) (v : Value) → HasValueAtTicks k b o → o ≡ Some v → IsOfKind k v
has_kind kind.Integer true o v (w, is, typed) e = subst (IsOfKind kind.Integer) (same_Some w v (sym is ∙ e)) typed
has_kind kind.Boolean true o v (w, is, typed) e = subst (IsOfKind kind.Boolean) (same_Some w v (sym is ∙ e)) typed
has_kind kind.Integer false o v is e = absurd (none-some v (sym is ∙ e))
has_kind kind.Boolean false o v is e = absurd (none-some v (sym is ∙ e))
has_kind kind.Clock b o v is e = absurd (none-some v (sym is ∙ e))

truth_of : (v : Value) → IsOfKind kind.Boolean v → IsTruth v
truth_of (value.Int z) typed = typed
truth_of (value.Bool b) typed = tt

record IsBoolean (s : Setting) (x : ℕ) : Type 0 where
  pub name : FlatName
  pub found : slice_get s.model.names x ≡ Some name
  pub kind_is : name.kind ≡ kind.Boolean

boolean_of : (s : Setting) (x : ℕ) → types_in s.model.names x ≡ Some kind.Boolean → IsBoolean s x
boolean_of s x e = by_name (slice_get s.model.names x) refl e
  where
    by_name : (o : Option FlatName) → slice_get s.model.names x ≡ o → option_map (λ name. name.kind) o ≡ Some kind.Boolean → IsBoolean s x
    by_name None found e = absurd (none-some kind.Boolean e)
    by_name (Some name) found e = record { name = name; found = found; kind_is = same_Some name.kind kind.Boolean e }

not_clock : (k : NameKind) → k ≡ kind.Boolean → k ≢ kind.Clock
not_clock k is clock = let h : kind.Boolean ≡ kind.Clock = sym is ∙ clock in cc

-- the views of a typed row have truth values for Booleans
module _ (s : Setting) (runs : IsRunnable s) (S : Assignment) (m : ℕ) (row : Row) (class : ℕ) (before : List Use) (begins : Begins s S m row class before) where
  abbrev A : Assignment
  A = with_row S m row

  module _ (x : ℕ) (is : IsBoolean s x) where
    at_moment : (j : ℕ) → j ≤ m → (v : Value) → A x j ≡ Some v → IsTruth v
    at_moment j le v e = by_place (less_or j m (omega (arith, le)))
      where
        by_place : (j < m) ⊎ (j ≡ m) → IsTruth v
        by_place (inl lt) = truth_of v (subst (λ k. IsOfKind k v) is.kind_is (has_kind is.name.kind (name_ticks s S x j) (S x j) v ((begins.meets j lt).names x is.name is.found) (sym (row_before S m row x j lt) ∙ e)))
        by_place (inr at) = truth_of v (subst (λ k. IsOfKind k v) is.kind_is (begins.typed x is.name v is.found (sym (row_now S m row x) ∙ subst (λ k. A x k ≡ Some v) at e)))

    start_truth : (v : Value) → Some (start_of s x) ≡ Some v → IsTruth v
    start_truth v e =
        let typed = (all_at IsName s.model.names x is.name runs.model.names.each is.found).start (not_clock is.name.kind is.kind_is) in
        truth_of v (subst (λ w. IsOfKind kind.Boolean w) (sym (ap start_in is.found) ∙ same_Some (start_of s x) v e) (subst (λ k. IsOfKind k is.name.start) is.kind_is typed))

    at_tick_truth : (n : ℕ) → n ≤ suc m → (v : Value) → value_at_tick (A x) (start_of s x) (tick_before (name_ticks s A x) n) ≡ Some v → IsTruth v
    at_tick_truth n le = at_tick_before (λ o. (v : Value) → o ≡ Some v → IsTruth v) (name_ticks s A x) (A x) (start_of s x) n start_truth (λ k lt ticks v e. at_moment k (omega (arith, lt, le)) v e)

  pub truths : (at : Cells) → AreBooleans s at → AreTruths at (views_at s A (Some class) m)
  truths at booleans = record {
    now = λ k x v truth has. at_moment x (boolean_of s x (booleans k x truth)) (m - k) (omega arith) v has;
    previous = λ k x v truth has. at_tick_truth x (boolean_of s x (booleans k x truth)) (m - k) (omega arith) v has;
    last = λ k x v truth has. at_tick_truth x (boolean_of s x (booleans k x truth)) (suc (m - k)) (omega arith) v has;
  }

same_self : (views : Views) (d : ℕ) (q : Asking) → IsSameAt views views d q
same_self views d (OfNow y) = refl
same_self views d (OfLast y) = refl
same_self views d (OfPrevious y) = refl
same_self views d OfFirst = refl
same_self views d OfInterval = refl

-- cells that hold views hold all that are the same
holds_same : (at : Cells) (cells : List ℤ) (t : ℕ) (a b : Views) → ((d : ℕ) (q : Asking) → IsSameAt a b d q) → Holds at cells t a → Holds at cells t b
holds_same at cells t a b same holds = record {
  now = λ k x c v is has. holds.now k x c v is (same k (OfNow x) ∙ has);
  previous = λ k x c v is has. holds.previous k x c v is (same k (OfPrevious x) ∙ has);
  last = λ k x c v is has. holds.last k x c v is (same k (OfLast x) ∙ has);
  const = holds.const;
  first = λ k c is. let h = holds.first k c is in (h.0, h.1 ∙ ap (λ z. rank (value.Bool z)) (same k OfFirst));
  interval = λ k n c is. let h = holds.interval k n c is in (h.0, h.1, h.2 ∙ ap (λ z. fitted (whole_of z n)) (same k OfInterval));
}

all_self : (s : Setting) (S : Assignment) (m : ℕ) (row : Row) (class : ℕ) (ls : List Line) → AreShown s S m row class ls (views_at s (with_row S m row) (Some class) m)
all_self s S m row class [] = tt
all_self s S m row class (l ∷ ls) = (λ d q asks. same_self (views_at s (with_row S m row) (Some class) m) d q, all_self s S m row class ls)

-- the element behind others
at_length : (done rest : List Use) (entry : Use) → slice_get (done ++ entry ∷ rest) (length done) ≡ Some entry
at_length [] rest entry = refl
at_length (e ∷ done) rest entry = at_length done rest entry

module _ (s : Setting) (uses : List Use) (class : ℕ) where
  new_to : (x : ℕ) (entries after : List Use) (ls : List Line) → AreLinesOf s uses class entries ls → (IsReachedBy x (entries ++ after) → ⊥) → IsNewTo x ls
  new_to x [] after [] of none = tt
  new_to x [] after (l ∷ ls) of none = absurd of
  new_to x (entry ∷ entries) after [] of none = absurd of
  new_to x (entry ∷ entries) after (l ∷ ls) of none = (λ is. none (inl (is ∙ of.0.1)), new_to x entries after ls of.1 (λ reached. none (inr reached)))

  module _ (runs : IsRunnable s) (are : AreUses s uses) (S : Assignment) (m : ℕ) (row : Row) (ticks : class_ticks s (with_row S m row) (Some class) m ≡ true) (at : Cells) (t : ℕ) where
    pub are_lines : (entries after : List Use) → AreFree s (entries ++ after) → (ls : List Line) → AreLinesOf s uses class entries ls → AreCelled at t ls → IsClear entries row → AreLines at t (views_at s (with_row S m row) (Some class) m) ls
    are_lines [] after free [] of celled clear = tt
    are_lines [] after free (l ∷ ls) of celled clear = absurd of
    are_lines (entry ∷ entries) after free [] of celled clear = absurd of
    are_lines (entry ∷ entries) after free (l ∷ ls) of celled clear = (
      celled.0,
      subst (λ k. with_row S m row l.name k ≡ None) here none,
      subst (λ k. value_at_tick (with_row S m row l.name) (start_of s l.name) (tick_before (name_ticks s (with_row S m row) l.name) (suc k)) ≡ None) here
          (at_tick (name_ticks s (with_row S m row) l.name) (with_row S m row l.name) (start_of s l.name) m tick ∙ none),
      new_to l.name entries after ls of.1 (λ reached. free.0.once (subst (λ x. IsReachedBy x (entries ++ after)) of.0.1 reached)),
      are_lines entries after free.1 ls of.1 celled.1 (λ y reached. clear y (inr reached)),
    )
      where
        here : m ≡ m - 0
        here = omega arith

        none : with_row S m row l.name m ≡ None
        none = row_now S m row l.name ∙ clear l.name (inl of.0.1)

        tick : name_ticks s (with_row S m row) l.name m ≡ true
        tick = ap (λ x. class_ticks s (with_row S m row) (class_of_name s x) m) of.0.1
            ∙ ap (λ c. class_ticks s (with_row S m row) c m) (side_facts s uses runs are entry l.side class of.0.0 of.0.2).clocked ∙ ticks

module _ (s : Setting) (uses before entries after : List Use) (ordered : IsOrdered s uses (before ++ (entries ++ after))) (class : ℕ) (ls : List Line) (of : AreLinesOf s uses class entries ls) (at : Cells) (t : ℕ)
    (S : Assignment) (m : ℕ) (row : Row) (old new : List ℤ) where
  abbrev here : Views
  here = views_at s (with_row S m row) (Some class) m

  taken : (e : Ended) (result : Option Failing) → EndsAs at t old new ls e result → OnwardEnds s uses before S m row entries class here e → StretchEnds s uses S m row entries here e
      → StretchTaken s uses before entries S m row class at t new result × IsKeptBut t ls old new
  taken (All views) result ends on goes =
      let all : AllTaken s uses before entries S m row class at t new = record {
        last = on.0;
        taken = on.1;
        holds = holds_same at new t views _ (on.2 (λ d q. same_self here d q)) ends.1;
        begins = on.3;
      } in
      (subst (λ r. StretchTaken s uses before entries S m row class at t new r) (sym ends.0) all, ends.2)
  taken (Failed views kind line behind) result ends on goes =
      let failing = ends.0 in
      let many = as_many s uses ordered.runs ordered.uses_are.uses_are class S m entries ls of in
      let size : length entries ≡ length goes.done + suc (length goes.rest) = ap length goes.entries_are ∙ length-append goes.done (goes.entry ∷ goes.rest) in
      let within = slice_get_within ls failing.place line ends.3.found in
      let behind_size : length ls - suc failing.place ≡ length behind = sym (length-drop (suc failing.place) ls) ∙ ap length ends.3.rest in
      let rest_size = goes.rest_is in
      let place : length goes.done ≡ failing.place = omega (arith, many, size, within, behind_size, rest_size) in
      let one : OneFailed s uses entries S m row failing = record {
        done = goes.done;
        entry = goes.entry;
        rest = goes.rest;
        entries_are = goes.entries_are;
        place = ap (λ z. slice_get z failing.place) goes.entries_are ∙ ap (slice_get (goes.done ++ goes.entry ∷ goes.rest)) (sym place) ∙ at_length goes.done goes.rest goes.entry;
        last = goes.last;
        taken = goes.taken;
        fails = subst (λ k. EquationFails s (with_row S m goes.last) uses m goes.entry.equation k) (sym ends.2) goes.fails;
      } in
      (subst (λ r. StretchTaken s uses before entries S m row class at t new r) (sym ends.1) one, ends.5)
  taken Missing result ends on goes = absurd goes

  pub run_takes : (stretch : Stretch) → IsStretch at t ls stretch → AreApart at → AreCelled at t ls → AreBooleans s at → Begins s S m row class before → IsClear entries row
      → (result : Option Failing) → HoldsRow s S m row class at t old → RunsLines stretch old new result → StretchTaken s uses before entries S m row class at t new result × IsKeptBut t ls old new
  run_takes stretch is apart celled booleans begins clear result holds runs =
      let free = free_behind s before (entries ++ after) ordered.free in
      let lines = are_lines s uses class ordered.runs ordered.uses_are.uses_are S m row begins.ticks at t entries after free ls of celled clear in
      let ends = runs at t ls is apart here (truths s ordered.runs S m row class before begins at booleans) lines holds in
      taken (lines_end ls here) result ends (onward s uses class S m before entries after ordered ls of row here begins (all_self s S m row class ls))
      (stretch_ends s uses ordered.runs ordered.uses_are.uses_are class S m entries ls of row here (are_counted s uses before entries after ordered class ls of S m row begins) (all_self s S m row class ls))
