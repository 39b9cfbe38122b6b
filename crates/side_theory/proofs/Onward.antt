-- A stretch whose lines all have values leaves a row from which the next one begins.
use Rattle.std.proofs.Common.{◌≡◌, refl, sym, subst, ◌∙◌, ℕ, true, List, [], ◌∷◌, ◌++◌, append_assoc, Some, IsSome, ◌⊎◌, inl, inr}
use Rattle.sync_values.specs.declared.value.Value.{Value}
use Rattle.flat_model.specs.Asks.{Asking}
use Rattle.flat_model.specs.Assignment.{Assignment}
use Rattle.flat_model.specs.Given.{Row, with_row}
use Rattle.flat_model.specs.Meaning.{value_of}
use Rattle.flat_model.specs.Operators.{Answer, Is, Fails, Absent}
use Rattle.flat_model.specs.Setting.{Setting, class_of_name, partition_of, class_ticks, name_ticks, views_at}
use Rattle.flat_model.specs.Uses.{Use}
use Rattle.flat_model.specs.Views.{Views}
use Rattle.flat_model.proofs.Asks.{value_rests_on_asked}
use Rattle.moment_theory.specs.Free.{IsReachedBy, IsOrdered}
use Rattle.moment_theory.specs.Taken.{put, Gives}
use Rattle.moment_theory.proofs.FromRunnable.{facts_of}
use Rattle.step_code.specs.Lines.{Line, given, Ended, All, Failed, Missing, ended_by, lines_end}
use Rattle.side_theory.specs.Counted.{Begins, OnwardEnds}
use Rattle.side_theory.specs.Sides.{IsSideUse, DoesAs}
use Rattle.side_theory.specs.Stretches.{IsSameAt, AreShown, AreLinesOf}
use Rattle.side_theory.proofs.Side.{does_as}
use Rattle.side_theory.proofs.Showing.{all_shown, same_given}
use Rattle.side_theory.proofs.Turns.{same_at}
use Rattle.side_theory.proofs.Counting.{reached_split, counts, facts, still, begins_next}

module _ (s : Setting) (uses : List Use) (class : ℕ) (S : Assignment) (m : ℕ) where
  no_more : (before : List Use) (row : Row) → Begins s S m row class before → (other : ℕ) → partition_of s (Some other) ≡ partition_of s (Some class) → class_ticks s (with_row S m row) (Some other) m ≡ true → Begins s S m row other (before ++ [])
  no_more before row begins other partition ticks = record {
    meets = begins.meets;
    typed = begins.typed;
    all = λ y reached same now. by_order y (reached_split y before [] reached) (same ∙ partition) now;
    ticks = ticks;
  }
    where
      by_order : (y : ℕ) → IsReachedBy y before ⊎ IsReachedBy y [] → partition_of s (class_of_name s y) ≡ partition_of s (Some class) → name_ticks s (with_row S m row) y m ≡ true → IsSome (row y)
      by_order y (inl h) same now = begins.all y h same now
      by_order y (inr h) same now = absurd h

  -- one use more
  one_on : (before entries : List Use) (row : Row) (views : Views) (entry : Use) (x : ℕ) (v : Value) (e : Ended) → x ≡ entry.name → Gives s S m row entry v
      → ((other : ℕ) → class_ticks s (with_row S m row) (Some other) m ≡ class_ticks s (with_row S m (put row entry.name v)) (Some other) m)
      → ((d : ℕ) (q : Asking) → IsSameAt views (views_at s (with_row S m row) (Some class) m) d q → IsSameAt (given entry.name v views) (views_at s (with_row S m (put row entry.name v)) (Some class) m) d q)
      → OnwardEnds s uses (before ++ (entry ∷ [])) S m (put row entry.name v) entries class (given x v views) e → OnwardEnds s uses before S m row (entry ∷ entries) class views e
  one_on before entries row views entry x v (All after) name gives still same_on (last, taken, shows, begins) = (
    last,
    (put row entry.name v, inl (v, gives, λ y. refl), taken),
    λ same. shows (λ d q. subst (λ z. IsSameAt (given z v views) (views_at s (with_row S m (put row entry.name v)) (Some class) m) d q) (sym name) (same_on d q (same d q))),
    λ other partition ticks. subst (Begins s S m last other) (append_assoc before (entry ∷ []) entries) (begins other partition (sym (still other) ∙ ticks)),
  )
  one_on before entries row views entry x v (Failed after kind line behind) name gives still same_on ends = tt
  one_on before entries row views entry x v Missing name gives still same_on ends = tt

  pub onward : (before entries after : List Use) → IsOrdered s uses (before ++ (entries ++ after)) → (ls : List Line) → AreLinesOf s uses class entries ls → (row : Row) (views : Views) → Begins s S m row class before → AreShown s S m row class ls views
      → OnwardEnds s uses before S m row entries class views (lines_end ls views)
  onward before [] after ordered [] lines row views begins shown = (row, λ y. refl, λ same. same, no_more before row begins)
  onward before [] after ordered (l ∷ ls) lines row views begins shown = absurd lines
  onward before (entry ∷ entries) after ordered [] lines row views begins shown = absurd lines
  onward before (entry ∷ entries) after ordered (l ∷ ls) lines row views begins shown =
      by_answer (value_of l.side views) refl (subst (DoesAs s uses S m row entry) (sym seen) does)
      (λ v value_is. onward (before ++ (entry ∷ [])) entries after (subst (IsOrdered s uses) (sym (append_assoc before (entry ∷ []) (entries ++ after))) ordered) ls lines.1 (put row entry.name v) (given l.name v views)
      (begins_next s uses before (entries ++ after) entry ordered l.side class lines.0.0 is S m row begins v value_is class refl begins.ticks) (shown_more v))
    where
      is : IsSideUse s entry l.side class
      is = lines.0.2

      seen : value_of l.side views ≡ value_of l.side (views_at s (with_row S m row) (Some class) m)
      seen = value_rests_on_asked l.side _ _ (λ d q asks. same_at views (views_at s (with_row S m row) (Some class) m) d q (shown.0 d q asks))

      does : DoesAs s uses S m row entry (value_of l.side (views_at s (with_row S m row) (Some class) m))
      does = does_as s uses ordered.runs ordered.uses_are.uses_are entry l.side class lines.0.0 is S m row (counts s uses before (entries ++ after) entry ordered l.side class lines.0.0 is S m row begins)

      shown_more : (v : Value) → AreShown s S m (put row entry.name v) class ls (given l.name v views)
      shown_more v =
          let of = facts s uses before (entries ++ after) entry ordered l.side class lines.0.0 is S m row begins in
          subst (λ x. AreShown s S m (put row entry.name v) class ls (given x v views)) (sym lines.0.1)
          (all_shown s (facts_of s ordered.runs).unclocked S m row class entry.name v begins.ticks of.clocked of.sites ls views shown.1)

      given_same : (v : Value) (d : ℕ) (q : Asking) → IsSameAt views (views_at s (with_row S m row) (Some class) m) d q → IsSameAt (given entry.name v views) (views_at s (with_row S m (put row entry.name v)) (Some class) m) d q
      given_same v =
          let of = facts s uses before (entries ++ after) entry ordered l.side class lines.0.0 is S m row begins in
          same_given s (facts_of s ordered.runs).unclocked S m row class entry.name v begins.ticks of.clocked of.sites views

      by_answer : (a : Answer) → value_of l.side views ≡ a → DoesAs s uses S m row entry a
          → ((v : Value) → value_of l.side (views_at s (with_row S m row) (Some class) m) ≡ Is v → OnwardEnds s uses (before ++ (entry ∷ [])) S m (put row entry.name v) entries class (given l.name v views) (lines_end ls (given l.name v views)))
          → OnwardEnds s uses before S m row (entry ∷ entries) class views (ended_by a views l ls (lines_end ls))
      by_answer (Is v) value_is gives more =
          one_on before entries row views entry l.name v (lines_end ls (given l.name v views)) lines.0.1 gives
          (λ other. still s uses before (entries ++ after) entry ordered l.side class lines.0.0 is S m row begins v (sym seen ∙ value_is) (Some other)) (given_same v) (more v (sym seen ∙ value_is))
      by_answer (Fails kind) value_is fails more = tt
      by_answer Absent value_is none more = tt
