-- A run of lines in which none fails takes their uses.
use Rattle.std.proofs.Common.{◌≡◌, refl, ap, sym, subst, ◌∙◌, ℕ, suc, ◌-◌, true, ℤ, List, [], ◌∷◌, ◌++◌, append_assoc, Option, Some, None, IsSome, ◌⊎◌, inl, inr, arith}
use Rattle.sync_values.specs.Arithmetic.{fitted}
use Rattle.sync_values.specs.Relation.{rank}
use Rattle.sync_values.specs.declared.value.Value.{Value}
use Rattle.sync_values.specs.declared.value.Value.TheVariants as value
use Rattle.flat_model.specs.Asks.{Asking, OfNow, OfLast, OfPrevious, OfFirst, OfInterval}
use Rattle.flat_model.specs.Assignment.{Assignment, tick_before, value_at_tick}
use Rattle.flat_model.specs.Given.{Row, with_row}
use Rattle.flat_model.specs.Meaning.{value_of, whole_of}
use Rattle.flat_model.specs.Operators.{Answer, Is, Fails, Absent}
use Rattle.flat_model.specs.Setting.{Setting, class_of_name, partition_of, class_ticks, name_ticks, start_of, views_at}
use Rattle.flat_model.specs.Uses.{Use}
use Rattle.flat_model.specs.Views.{Views}
use Rattle.flat_model.proofs.Asks.{value_rests_on_asked}
use Rattle.moment_theory.specs.Free.{IsReachedBy, AreFree, IsOrdered}
use Rattle.moment_theory.specs.Sound.{IsClear}
use Rattle.moment_theory.specs.Taken.{put, Gives}
use Rattle.moment_theory.proofs.FromRunnable.{facts_of}
use Rattle.moment_theory.proofs.Rows.{row_now}
use Rattle.step_code.specs.Code.{Cells}
use Rattle.step_code.specs.Lines.{Line, given, Ended, All, Failed, Missing, ended_by, lines_end, Holds, AreApart, IsNewTo, AreLines, IsKeptBut}
use Rattle.step_lines.specs.declared.running.Failing.{Failing}
use Rattle.step_lines.specs.declared.stretch.Stretch.{Stretch}
use Rattle.step_lines.specs.Stretches.{IsStretch, EndsAs, RunsLines}
use Rattle.side_theory.specs.Counted.{Begins, OnwardEnds}
use Rattle.side_theory.specs.Runs.{AreCelled, AreBooleans, HoldsRow, AllTaken}
use Rattle.side_theory.specs.Sides.{IsAnswerOfKind}
use Rattle.side_theory.specs.Stretches.{IsSameAt}
use Rattle.side_theory.proofs.Counting.{reached_split, free_behind}
use Rattle.side_theory.proofs.Showing.{at_tick, same_given}
use Rattle.side_theory.proofs.Taking.{truths}
use Rattle.side_theory.proofs.Turns.{same_at}
use Rattle.whole_runs.specs.Lines.{IsCounted, Expresses, AreExpressing}
use Rattle.whole_runs.proofs.Counting.{counted, name_class, sites, still, begins_next}

-- all have values, or one fails
abbrev pub IsNoneMissing : Ended → Type 0
IsNoneMissing (All views) = Unit {0}
IsNoneMissing (Failed views kind line behind) = Unit {0}
IsNoneMissing Missing = ⊥

module _ (s : Setting) (uses : List Use) (class : ℕ) (S : Assignment) (m : ℕ) where
  abbrev views_over : Row → Views
  views_over row = views_at s (with_row S m row) (Some class) m

  no_more : (before : List Use) (row : Row) → Begins s S m row class before → (other : ℕ) → partition_of s (Some other) ≡ partition_of s (Some class) → class_ticks s (with_row S m row) (Some other) m ≡ true → Begins s S m row other (before ++ [])
  no_more before row begins other partition ticks = record {
    meets = begins.meets;
    typed = begins.typed;
    all = λ y reached same now. by_order y (reached_split y before [] reached) (same ∙ partition) now;
    ticks = ticks;
  }
    where
      by_order : (y : ℕ) → IsReachedBy y before ⊎ IsReachedBy y [] → partition_of s (class_of_name s y) ≡ partition_of s (Some class) → name_ticks s (with_row S m row) y m ≡ true → IsSome (row y)
      by_order y (inl h) same now = begins.all y h same now
      by_order y (inr h) same now = absurd h

  -- one use more
  one_on : (before entries : List Use) (row : Row) (views : Views) (entry : Use) (x : ℕ) (v : Value) (e : Ended) → x ≡ entry.name → Gives s S m row entry v
      → ((other : ℕ) → class_ticks s (with_row S m row) (Some other) m ≡ class_ticks s (with_row S m (put row entry.name v)) (Some other) m)
      → ((d : ℕ) (q : Asking) → IsSameAt views (views_over row) d q → IsSameAt (given entry.name v views) (views_over (put row entry.name v)) d q)
      → OnwardEnds s uses (before ++ (entry ∷ [])) S m (put row entry.name v) entries class (given x v views) e → OnwardEnds s uses before S m row (entry ∷ entries) class views e
  one_on before entries row views entry x v (All after) name gives still same_on (last, taken, shows, begins) = (
    last,
    (put row entry.name v, inl (v, gives, λ y. refl), taken),
    λ same. shows (λ d q. subst (λ z. IsSameAt (given z v views) (views_over (put row entry.name v)) d q) (sym name) (same_on d q (same d q))),
    λ other partition ticks. subst (Begins s S m last other) (append_assoc before (entry ∷ []) entries) (begins other partition (sym (still other) ∙ ticks)),
  )
  one_on before entries row views entry x v (Failed after kind line behind) name gives still same_on ends = tt
  one_on before entries row views entry x v Missing name gives still same_on ends = tt

  abbrev Goes : List Use → Row → List Use → Views → Ended → Type 0
  Goes before row entries views e = OnwardEnds s uses before S m row entries class views e × IsNoneMissing e

  pub onward : (before entries after : List Use) → IsOrdered s uses (before ++ (entries ++ after)) → (ls : List Line) → AreExpressing s uses class entries ls → (row : Row) (views : Views) → Begins s S m row class before
      → ((d : ℕ) (q : Asking) → IsSameAt views (views_over row) d q) → Goes before row entries views (lines_end ls views)
  onward before [] after ordered [] lines row views begins same = ((row, λ y. refl, λ is. is, no_more before row begins), tt)
  onward before [] after ordered (l ∷ ls) lines row views begins same = absurd lines
  onward before (entry ∷ entries) after ordered [] lines row views begins same = absurd lines
  onward before (entry ∷ entries) after ordered (l ∷ ls) lines row views begins same =
      by_answer (value_of l.side views) refl (subst (IsAnswerOfKind count.name.kind) (sym seen) (is.answers S m row count))
      (λ v value_is. onward (before ++ (entry ∷ [])) entries after (subst (IsOrdered s uses) (sym (append_assoc before (entry ∷ []) (entries ++ after))) ordered) ls lines.1 (put row entry.name v) (given l.name v views)
      (begins_next s uses before (entries ++ after) entry ordered class lines.0.0 is.class_is S m row begins v (gives v value_is) class refl begins.ticks)
      (λ d q. subst (λ z. IsSameAt (given z v views) (views_over (put row entry.name v)) d q) (sym lines.0.1) (given_same v d q (same d q))))
    where
      is : Expresses s entry l.side class
      is = lines.0.2

      count : IsCounted s S m row entry
      count = counted s uses before (entries ++ after) entry ordered class lines.0.0 is.class_is S m row begins

      seen : value_of l.side views ≡ value_of l.side (views_over row)
      seen = value_rests_on_asked l.side _ _ (λ d q asks. same_at views (views_over row) d q (same d q))

      gives : (v : Value) → value_of l.side views ≡ Is v → Gives s S m row entry v
      gives v value_is = is.gives S m row count v (sym seen ∙ value_is)

      given_same : (v : Value) (d : ℕ) (q : Asking) → IsSameAt views (views_over row) d q → IsSameAt (given entry.name v views) (views_over (put row entry.name v)) d q
      given_same v = same_given s (facts_of s ordered.runs).unclocked S m row class entry.name v begins.ticks (name_class s uses before (entries ++ after) entry ordered class lines.0.0 is.class_is S m row begins)
          (sites s uses before (entries ++ after) entry ordered class lines.0.0 is.class_is S m row begins) views

      by_answer : (a : Answer) → value_of l.side views ≡ a → IsAnswerOfKind count.name.kind a
          → ((v : Value) → value_of l.side views ≡ Is v → Goes (before ++ (entry ∷ [])) (put row entry.name v) entries (given l.name v views) (lines_end ls (given l.name v views)))
          → Goes before row (entry ∷ entries) views (ended_by a views l ls (lines_end ls))
      by_answer (Is v) value_is typed more =
          let rest = more v value_is in (
            one_on before entries row views entry l.name v (lines_end ls (given l.name v views)) lines.0.1 (gives v value_is)
                (λ other. still s uses before (entries ++ after) entry ordered class lines.0.0 is.class_is S m row begins v (gives v value_is) (Some other)) (given_same v) rest.0,
            rest.1,
          )
      by_answer (Fails kind) value_is typed more = (tt, tt)
      by_answer Absent value_is typed more = absurd typed

same_self : (views : Views) (d : ℕ) (q : Asking) → IsSameAt views views d q
same_self views d (OfNow y) = refl
same_self views d (OfLast y) = refl
same_self views d (OfPrevious y) = refl
same_self views d OfFirst = refl
same_self views d OfInterval = refl

-- cells that hold views hold all that are the same
holds_same : (at : Cells) (cells : List ℤ) (t : ℕ) (a b : Views) → ((d : ℕ) (q : Asking) → IsSameAt a b d q) → Holds at cells t a → Holds at cells t b
holds_same at cells t a b same holds = record {
  now = λ k x c v is has. holds.now k x c v is (same k (OfNow x) ∙ has);
  previous = λ k x c v is has. holds.previous k x c v is (same k (OfPrevious x) ∙ has);
  last = λ k x c v is has. holds.last k x c v is (same k (OfLast x) ∙ has);
  const = holds.const;
  first = λ k c is. let h = holds.first k c is in (h.0, h.1 ∙ ap (λ z. rank (value.Bool z)) (same k OfFirst));
  interval = λ k n c is. let h = holds.interval k n c is in (h.0, h.1, h.2 ∙ ap (λ z. fitted (whole_of z n)) (same k OfInterval));
}

no_failing : (failing : Failing) → (let none : Option Failing = None in none) ≡ Some failing → ⊥
no_failing failing e = cc

module _ (s : Setting) (uses : List Use) (class : ℕ) where
  new_to : (x : ℕ) (entries after : List Use) (ls : List Line) → AreExpressing s uses class entries ls → (IsReachedBy x (entries ++ after) → ⊥) → IsNewTo x ls
  new_to x [] after [] of none = tt
  new_to x [] after (l ∷ ls) of none = absurd of
  new_to x (entry ∷ entries) after [] of none = absurd of
  new_to x (entry ∷ entries) after (l ∷ ls) of none = (λ is. none (inl (is ∙ of.0.1)), new_to x entries after ls of.1 (λ reached. none (inr reached)))

  module _ (S : Assignment) (m : ℕ) (row : Row) (ticks : class_ticks s (with_row S m row) (Some class) m ≡ true) (at : Cells) (t : ℕ) where
    are_lines : (entries after : List Use) → ((y : ℕ) → IsReachedBy y entries → class_of_name s y ≡ Some class) → AreFree s (entries ++ after) → (ls : List Line) → AreExpressing s uses class entries ls → AreCelled at t ls → IsClear entries row
        → AreLines at t (views_at s (with_row S m row) (Some class) m) ls
    are_lines [] after own free [] of celled clear = tt
    are_lines [] after own free (l ∷ ls) of celled clear = absurd of
    are_lines (entry ∷ entries) after own free [] of celled clear = absurd of
    are_lines (entry ∷ entries) after own free (l ∷ ls) of celled clear = (
      celled.0,
      subst (λ k. with_row S m row l.name k ≡ None) here none,
      subst (λ k. value_at_tick (with_row S m row l.name) (start_of s l.name) (tick_before (name_ticks s (with_row S m row) l.name) (suc k)) ≡ None) here
          (at_tick (name_ticks s (with_row S m row) l.name) (with_row S m row l.name) (start_of s l.name) m tick ∙ none),
      new_to l.name entries after ls of.1 (λ reached. free.0.once (subst (λ x. IsReachedBy x (entries ++ after)) of.0.1 reached)),
      are_lines entries after (λ y reached. own y (inr reached)) free.1 ls of.1 celled.1 (λ y reached. clear y (inr reached)),
    )
      where
        here : m ≡ m - 0
        here = omega arith

        none : with_row S m row l.name m ≡ None
        none = row_now S m row l.name ∙ clear l.name (inl of.0.1)

        tick : name_ticks s (with_row S m row) l.name m ≡ true
        tick = ap (λ c. class_ticks s (with_row S m row) c m) (own l.name (inl of.0.1)) ∙ ticks

-- a run in which no line fails takes all uses
pub run_takes : (s : Setting) (uses before entries after : List Use) → IsOrdered s uses (before ++ (entries ++ after)) → (class : ℕ) (ls : List Line) → AreExpressing s uses class entries ls → ((y : ℕ) → IsReachedBy y entries → class_of_name s y ≡ Some class)
    → (at : Cells) (t : ℕ) (S : Assignment) (m : ℕ) (row : Row) (old new : List ℤ) (stretch : Stretch) → IsStretch at t ls stretch → AreApart at → AreCelled at t ls → AreBooleans s at → Begins s S m row class before → IsClear entries row
    → HoldsRow s S m row class at t old → RunsLines stretch old new None → AllTaken s uses before entries S m row class at t new × IsKeptBut t ls old new
run_takes s uses before entries after ordered class ls of own at t S m row old new stretch is apart celled booleans begins clear holds runs =
    by_end (lines_end ls here) (runs at t ls is apart here (truths s ordered.runs S m row class before begins at booleans) lines holds)
    (onward s uses class S m before entries after ordered ls of row here begins (same_self here))
  where
    here : Views
    here = views_at s (with_row S m row) (Some class) m

    lines : AreLines at t here ls
    lines = are_lines s uses class S m row begins.ticks at t entries after own (free_behind s before (entries ++ after) ordered.free) ls of celled clear

    by_end : (e : Ended) → EndsAs at t old new ls e None → OnwardEnds s uses before S m row entries class here e × IsNoneMissing e → AllTaken s uses before entries S m row class at t new × IsKeptBut t ls old new
    by_end (All views) ends goes = (
      record {
        last = goes.0.0;
        taken = goes.0.1;
        holds = holds_same at new t views _ (goes.0.2 (same_self here)) ends.1;
        begins = goes.0.3;
      },
      ends.2,
    )
    by_end (Failed views kind line behind) ends goes = absurd (no_failing ends.0 ends.1)
    by_end Missing ends goes = absurd goes.1
