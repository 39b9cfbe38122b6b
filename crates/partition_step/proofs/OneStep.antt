-- A step has one answer.
use Rattle.std.proofs.Common.{◌≡◌, refl, ap, sym, subst, ◌∙◌, ℕ, List, [], ◌∷◌, inl, inr}
use Rattle.std.proofs.Math.Path.{fun_ext}
use Rattle.std.proofs.lemmas.Option.{same_Some, none-some}
use Rattle.sync_values.specs.declared.value.Value.{Value}
use Rattle.flat_model.specs.Assignment.{Assignment, IsOfKind}
use Rattle.flat_model.specs.Given.{Row, with_row, Solves}
use Rattle.flat_model.specs.Setting.{Setting}
use Rattle.flat_model.specs.Uses.{Use}
use Rattle.moment_theory.specs.Taken.{put, Gives, IsTaken, AreTaken}
use Rattle.first_failure.specs.Turns.{FailsAmong, IsLeast}
use Rattle.first_failure.proofs.Single.{one_told}
use Rattle.partition_step.specs.declared.part.Outcome.{Outcome}
use Rattle.partition_step.specs.declared.part.Outcome.TheVariants.{Stepped, Failed}
use Rattle.partition_step.specs.Laws.{OneStepLaw}
use Rattle.partition_step.specs.Steps.{failing_in}

module _ (s : Setting) (S : Assignment) (m : ℕ) where
  gives_once : (row : Row) (entry : Use) (v w : Value) → Gives s S m row entry v → Gives s S m row entry w → w ≡ v
  gives_once row entry v w one two =
      let equations : two.equation ≡ one.equation = same_Some two.equation one.equation (sym two.can.equation_is ∙ one.can.equation_is) in
      let names : two.name ≡ one.name = same_Some two.name one.name (sym two.can.name_is ∙ one.can.name_is) in
      one.only.only w (subst (λ n. IsOfKind n.kind w) names two.only.typed) (subst (λ q. Solves s (with_row S m row) m entry.equation q entry.name w) equations two.only.solves)

  one_next : (row a b : Row) (entry : Use) → IsTaken s S m entry row a → IsTaken s S m entry row b → (y : ℕ) → a y ≡ b y
  one_next row a b entry (inl (v, one, is)) (inl (w, two, at)) y = is y ∙ ap (λ z. put row entry.name z y) (sym (gives_once row entry v w one two)) ∙ sym (at y)
  one_next row a b entry (inl (v, one, is)) (inr (none, at)) y = absurd (none v one)
  one_next row a b entry (inr (none, is)) (inl (w, two, at)) y = absurd (none w two)
  one_next row a b entry (inr (none, is)) (inr (two, at)) y = is y ∙ sym (at y)

  -- uses that are taken leave one row
  one_last : (entries : List Use) (row a b : Row) → AreTaken s S m entries row a → AreTaken s S m entries row b → (y : ℕ) → a y ≡ b y
  one_last [] row a b one two = λ y. one y ∙ sym (two y)
  one_last (entry ∷ entries) row a b (mid, step, rest) (next, other, more) =
      let same : next ≡ mid = fun_ext (one_next row next mid entry other step) in
      one_last entries mid a b rest (subst (λ r. AreTaken s S m entries r b) same more)

outcome_same : (one two : Outcome) → failing_in one ≡ failing_in two → one ≡ two
outcome_same Stepped Stepped same = refl
outcome_same Stepped (Failed f) same = absurd (none-some f same)
outcome_same (Failed f) Stepped same = absurd (none-some f (sym same))
outcome_same (Failed f) (Failed g) same = ap Failed (same_Some f g same)

pub one_step : OneStepLaw
one_step s uses own S m base showing are a b one two step other =
    let rows : step.row ≡ other.row = fun_ext (one_last s S m own base step.row other.row step.taken other.taken) in (
      outcome_same one two (one_told s uses are S m own other.row (failing_in one) (failing_in two) (subst (λ r. IsLeast (FailsAmong s uses S m own r) (failing_in one)) rows step.told) other.told),
      λ x reached. step.holds x reached ∙ ap (λ r. r x) rows ∙ sym (other.holds x reached),
    )
