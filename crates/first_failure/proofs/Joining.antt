-- One use more, before others that a careful run took.
use Rattle.std.proofs.Common.{◌≡◌, refl, ap, sym, subst, ◌∙◌, ℕ, ◌⊎◌, inl, inr, List, [], ◌∷◌, ◌++◌, Option, Some}
use Rattle.sync_values.specs.declared.value.Fail.{Fail}
use Rattle.flat_model.specs.Assignment.{Assignment}
use Rattle.flat_model.specs.Faults.{EquationFails}
use Rattle.flat_model.specs.Given.{Row, with_row}
use Rattle.flat_model.specs.Setting.{Setting}
use Rattle.flat_model.specs.Uses.{Use}
use Rattle.moment_theory.specs.Free.{IsOrdered}
use Rattle.moment_theory.specs.Sound.{IsSound, IsClear, DoesAlike}
use Rattle.moment_theory.specs.Taken.{IsTaken, AreTaken}
use Rattle.moment_theory.proofs.Members.{IsMember, contains_member, member_contains}
use Rattle.first_failure.specs.declared.least.EquationFailing.{EquationFailing}
use Rattle.first_failure.specs.Careful.{less_of}
use Rattle.first_failure.specs.Turns.{FailsAmong, IsLeast}
use Rattle.first_failure.proofs.Telling.{least_same, least_more}
use Rattle.first_failure.proofs.Turning.{alike_at_turn}

-- what is told of some uses, beside what was told before
abbrev pub Tells : Setting → List Use → Assignment → ℕ → List Use → Row → Option EquationFailing → Option EquationFailing → Type 1
Tells s uses S m entries last told result = (P : ℕ → Fail → Type 0) → IsLeast P told → IsLeast (λ i k. P i k ⊎ FailsAmong s uses S m entries last i k) result

-- what a use does to what is told, at its turn
pub data Told (s : Setting) (uses : List Use) (S : Assignment) (m : ℕ) (row : Row) (entry : Use) (before after : Option EquationFailing) : Type 0 where
  Well : ((kind : Fail) → EquationFails s (with_row S m row) uses m entry.equation kind → ⊥) → after ≡ before → Told s uses S m row entry before after
  Ill : (other : EquationFailing) → other.equation ≡ entry.equation → EquationFails s (with_row S m row) uses m entry.equation other.kind → after ≡ Some (less_of before other) → Told s uses S m row entry before after

module _ (s : Setting) (uses before after : List Use) (entry : Use) (entries : List Use) (ordered : IsOrdered s uses (before ++ ((entry ∷ entries) ++ after))) (S : Assignment) (m : ℕ) (row next last : Row)
    (sound : IsSound s (with_row S m row) m) (clear : IsClear (entry ∷ entries) row) (step : IsTaken s S m entry row next) (rest : AreTaken s S m entries next last) where
  taken : AreTaken s S m (entry ∷ entries) row last
  taken = (next, step, rest)

  alike : DoesAlike s uses S m entry row last × DoesAlike s uses S m entry last row
  alike = alike_at_turn s uses before (entry ∷ entries) after ordered S m row last sound clear taken entry row (record { done = []; rest = entries; entries_are = refl; before = λ y. refl; behind = taken })

  abbrev F : ℕ → Fail → Type 0
  F i k = (entry.equation ≡ i) × EquationFails s (with_row S m last) uses m i k

  own : (told mid : Option EquationFailing) → Told s uses S m row entry told mid → (P : ℕ → Fail → Type 0) → IsLeast P told → IsLeast (λ i k. P i k ⊎ F i k) mid
  own told mid (Well none same) P least = subst (IsLeast (λ i k. P i k ⊎ F i k)) (sym same) (least_same P (λ i k. P i k ⊎ F i k) (λ i k p. inl p) back told least)
    where
      back : (i : ℕ) (k : Fail) → P i k ⊎ F i k → P i k
      back i k (inl p) = p
      back i k (inr (at, fails)) = absurd (none k (alike.1.fails k (subst (λ j. EquationFails s (with_row S m last) uses m j k) (sym at) fails)))
  own told mid (Ill other at fails same) P least = subst (IsLeast (λ i k. P i k ⊎ F i k)) (sym same)
      (least_more P F other (sym at, subst (λ j. EquationFails s (with_row S m last) uses m j other.kind) (sym at) (alike.0.fails other.kind fails)) (λ i k f. at ∙ f.0) told least)

  to : (P : ℕ → Fail → Type 0) (i : ℕ) (k : Fail) → (P i k ⊎ F i k) ⊎ FailsAmong s uses S m entries last i k → P i k ⊎ FailsAmong s uses S m (entry ∷ entries) last i k
  to P i k (inl (inl p)) = inl p
  to P i k (inl (inr (at, fails))) = inr (entry, member_contains entry (entry ∷ entries) (inl refl), at, fails)
  to P i k (inr (e, used, at, fails)) = inr (e, member_contains e (entry ∷ entries) (inr (contains_member e entries used)), at, fails)

  from : (P : ℕ → Fail → Type 0) (i : ℕ) (k : Fail) → P i k ⊎ FailsAmong s uses S m (entry ∷ entries) last i k → (P i k ⊎ F i k) ⊎ FailsAmong s uses S m entries last i k
  from P i k (inl p) = inl (inl p)
  from P i k (inr (e, used, at, fails)) = by_place (contains_member e (entry ∷ entries) used)
    where
      by_place : IsMember e (entry ∷ entries) → (P i k ⊎ F i k) ⊎ FailsAmong s uses S m entries last i k
      by_place (inl same) = inl (inr (ap (λ u. u.equation) same ∙ at, fails))
      by_place (inr member) = inr (e, member_contains e entries member, at, fails)

  -- a use and then the others are told
  pub tells : (told mid result : Option EquationFailing) → Told s uses S m row entry told mid → Tells s uses S m entries last mid result → Tells s uses S m (entry ∷ entries) last told result
  tells told mid result does more P least = least_same (λ i k. (P i k ⊎ F i k) ⊎ FailsAmong s uses S m entries last i k) (λ i k. P i k ⊎ FailsAmong s uses S m (entry ∷ entries) last i k) (to P) (from P) result
      (more (λ i k. P i k ⊎ F i k) (own told mid does P least))
