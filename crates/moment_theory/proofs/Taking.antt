-- Uses taken in an order that is free give exactly the given values.
use Rattle.std.proofs.Common.{◌≡◌, ◌≢◌, refl, ap, ◌∙◌, sym, subst, ℕ, List, [], ◌∷◌, Option, Some, None, IsSome, Contains, if◌then◌else◌, inl, inr, eq-eqb, ne_eqb}
use Rattle.std.proofs.lemmas.Bool.{cases_eq, false≢true}
use Rattle.std.proofs.lemmas.Option.{same_Some}
use Rattle.sync_values.specs.declared.value.Value.{Value}
use Rattle.flat_model.specs.declared.equation.Equation.{Equation}
use Rattle.flat_model.specs.declared.model.FlatName.{FlatName}
use Rattle.flat_model.specs.Assignment.{Assignment, IsOfKind}
use Rattle.flat_model.specs.Setting.{Setting, class_of_name, class_of_equation}
use Rattle.flat_model.specs.Uses.{Use}
use Rattle.flat_model.specs.Given.{Row, with_row, IsKnownToTick, CanUse, IsOnlySolution, IsClosed, Solves}
use Rattle.flat_model.proofs.Agreement.{SameBefore}
use Rattle.flat_model.proofs.OneSolution.{AreSitesUnclocked}
use Rattle.moment_theory.specs.Free.{IsReachedBy}
use Rattle.moment_theory.proofs.Ordered.{IsFreeUse, AreFreeUses}
use Rattle.moment_theory.specs.Taken.{put, Gives, IsTaken, AreTaken}
use Rattle.flat_model.proofs.Above.{IsBelow}
use Rattle.moment_theory.proofs.Rows.{row_now, row_before, below_same}
use Rattle.moment_theory.proofs.Transfer.{IsSound, Needs, needs_earlier, known_up, can_up, only_up}
use Rattle.moment_theory.proofs.Members.{IsMember}

pub put_same : (row : Row) (x : ℕ) (v : Value) → put row x v x ≡ Some v
put_same row x v = ap (λ b. if b then Some v else row x) (eq-eqb x x refl)

pub put_other : (row : Row) (x : ℕ) (v : Value) (y : ℕ) → y ≢ x → put row x v y ≡ row y
put_other row x v y other = ap (λ b. if b then Some v else row y) (ne_eqb y x other)

-- no value of a name that is still to be reached
abbrev pub IsClear : List Use → Row → Type 0
IsClear uses row = (y : ℕ) → IsReachedBy y uses → row y ≡ None

none_below : (o p : Option Value) → o ≡ None → IsBelow o p
none_below o p e = subst (λ z. IsBelow z p) (sym e) tt

module _ (s : Setting) (unclocked : AreSitesUnclocked s) (S : Assignment) (m : ℕ) where
  abbrev pub over : Row → Assignment
  over row = with_row S m row

  pub same_over : (row other : Row) → SameBefore (over row) (over other) m
  same_over row other x k lt = row_before S m row x k lt ∙ sym (row_before S m other x k lt)

  pub below_over : (row other : Row) (y : ℕ) → IsBelow (row y) (other y) → IsBelow (over row y m) (over other y m)
  below_over row other y h = subst (λ o. IsBelow o (over other y m)) (sym (row_now S m row y)) (subst (IsBelow (row y)) (sym (row_now S m other y)) h)

  -- a step changes nothing but its own name, which had no value
  pub step_other : (entry : Use) (row next : Row) → IsTaken s S m entry row next → (y : ℕ) → y ≢ entry.name → next y ≡ row y
  step_other entry row next (inl (v, gives, is)) y other = is y ∙ put_other row entry.name v y other
  step_other entry row next (inr (none, is)) y other = is y

  pub step_up : (entry : Use) (row next : Row) → row entry.name ≡ None → IsTaken s S m entry row next → (y : ℕ) → IsBelow (row y) (next y)
  step_up entry row next clear taken y = elim (cases_eq y entry.name) [
    | inl is ↦ none_below (row y) (next y) (ap row is ∙ clear)
    | inr other ↦ below_same (row y) (next y) (sym (step_other entry row next taken y other))
  ]

  pub step_clear : (entry : Use) (later : List Use) (row next : Row) → IsFreeUse s entry later → IsClear (entry ∷ later) row → IsTaken s S m entry row next → IsClear later next
  step_clear entry later row next free clear taken y reached =
      step_other entry row next taken y (λ is. free.once (subst (λ z. IsReachedBy z later) is reached)) ∙ clear y (inr reached)

  pub sound_up : (row other : Row) (class : Option ℕ) → ((y : ℕ) → IsBelow (row y) (other y)) → IsKnownToTick s (over row) m class → IsKnownToTick s (over other) m class
  sound_up row other class up = known_up s (over row) (over other) m class unclocked (same_over row other) (λ y reads. below_over row other y (up y))

  some_over : (row : Row) (y : ℕ) → IsSome (over row y m) → IsSome (row y)
  some_over row y some = subst IsSome (row_now S m row y) some

  over_some : (row : Row) (y : ℕ) → IsSome (row y) → IsSome (over row y m)
  over_some row y some = subst IsSome (sym (row_now S m row y)) some

  pub step_sound : (entry : Use) (later : List Use) (row next : Row) → IsFreeUse s entry later → row entry.name ≡ None → IsTaken s S m entry row next → IsSound s (over row) m → IsSound s (over next) m
  step_sound entry later row next free clear taken sound z some =
      let up = step_up entry row next clear taken in elim (cases_eq z entry.name) [
        | inl is ↦ subst (λ c. IsKnownToTick s (over next) m (class_of_name s c)) (sym is) (own taken (subst (λ c. IsSome (next c)) is (some_over next z some)))
        | inr other ↦ sound_up row next (class_of_name s z) up (sound z (over_some row z (subst IsSome (step_other entry row next taken z other) (some_over next z some))))
      ]
    where
      own : IsTaken s S m entry row next → IsSome (next entry.name) → IsKnownToTick s (over next) m (class_of_name s entry.name)
      own (inl (v, gives, is)) has = subst (IsKnownToTick s (over next) m) (sym free.class_is)
          (sound_up row next (class_of_equation s entry.equation) (step_up entry row next clear taken) gives.can.ticks)
      own (inr (none, is)) has = absurd (false≢true (subst IsSome (is entry.name ∙ clear) has))

  -- what is not reached does not change
  pub unchanged : (uses : List Use) (row last : Row) → AreTaken s S m uses row last → (y : ℕ) → (IsReachedBy y uses → ⊥) → last y ≡ row y
  unchanged [] row last taken y not = taken y
  unchanged (entry ∷ uses) row last (next, step, rest) y not =
      unchanged uses next last rest y (λ h. not (inr h)) ∙ step_other entry row next step y (λ is. not (inl is))

  pub taken_up : (uses : List Use) (row last : Row) → AreFreeUses s uses → IsClear uses row → AreTaken s S m uses row last → (y : ℕ) → IsBelow (row y) (last y)
  taken_up [] row last order clear taken y = below_same (row y) (last y) (sym (taken y))
  taken_up (entry ∷ uses) row last order clear (next, step, rest) y =
      trans (row y) (next y) (last y) (step_up entry row next (clear entry.name (inl refl)) step y)
      (taken_up uses next last order.1 (step_clear entry uses row next order.0 clear step) rest y)
    where
      trans : (o p q : Option Value) → IsBelow o p → IsBelow p q → IsBelow o q
      trans None p q h k = tt
      trans (Some v) p q h k = subst (λ z. IsBelow z q) h k

  pub taken_sound : (uses : List Use) (row last : Row) → AreFreeUses s uses → IsClear uses row → AreTaken s S m uses row last → IsSound s (over row) m → IsSound s (over last) m
  taken_sound [] row last order clear taken sound = λ z some.
      sound_up row last (class_of_name s z) (λ y. below_same (row y) (last y) (sym (taken y))) (sound z (over_some row z (subst IsSome (taken z) (some_over last z some))))
  taken_sound (entry ∷ uses) row last order clear (next, step, rest) sound =
      taken_sound uses next last order.1 (step_clear entry uses row next order.0 clear step) rest (step_sound entry uses row next order.0 (clear entry.name (inl refl)) step sound)

  -- each value that is taken is in every row that is closed
  pub taken_least : (all uses : List Use) (row last other : Row) → ((entry : Use) → IsMember entry uses → Contains all entry) → AreFreeUses s uses → IsClear uses row → AreTaken s S m uses row last → IsSound s (over row) m
      → IsClosed s S all m other → ((y : ℕ) → IsBelow (row y) (other y)) → (y : ℕ) → IsBelow (last y) (other y)
  taken_least all [] row last other within order clear taken sound closed up = λ y. subst (λ o. IsBelow o (other y)) (sym (taken y)) (up y)
  taken_least all (entry ∷ uses) row last other within order clear (next, step, rest) sound closed up =
      taken_least all uses next last other (λ e h. within e (inr h)) order.1 (step_clear entry uses row next order.0 clear step) rest
      (step_sound entry uses row next order.0 (clear entry.name (inl refl)) step sound) closed (next_up step)
    where
      next_up : IsTaken s S m entry row next → (y : ℕ) → IsBelow (next y) (other y)
      next_up (inr (none, is)) y = subst (λ o. IsBelow o (other y)) (sym (is y)) (up y)
      next_up (inl (v, gives, is)) y = elim (cases_eq y entry.name) [
        | inl here ↦
            let can = can_up s unclocked (over row) (over other) m (same_over row other) entry uses order.0 (λ z not. below_over row other z (up z)) sound gives.equation gives.name gives.can in
            let only = only_up s unclocked (over row) (over other) m (same_over row other) entry uses order.0 (λ z not. below_over row other z (up z)) sound gives.equation gives.name v gives.can gives.only in
            let has : other entry.name ≡ Some v = closed.solved entry gives.equation gives.name v (within entry (inl refl)) can only in
            subst (λ z. IsBelow (next z) (other z)) (sym here) (subst (λ o. IsBelow o (other entry.name)) (sym (is entry.name ∙ put_same row entry.name v)) has)
        | inr apart ↦ subst (λ o. IsBelow o (other y)) (sym (is y ∙ put_other row entry.name v y apart)) (up y)
      ]

  -- each use that gives a value over the last row gave it when it was taken
  pub taken_closed : (uses : List Use) (row last : Row) → AreFreeUses s uses → AreTaken s S m uses row last → IsSound s (over last) m
      → (entry : Use) (equation : Equation) (name : FlatName) (v : Value) → IsMember entry uses → CanUse s (over last) m entry equation name
      → IsOnlySolution s (over last) m entry.equation equation name entry.name v → last entry.name ≡ Some v
  taken_closed [] row last order taken sound entry equation name v within can only = absurd within
  taken_closed (first ∷ uses) row last order (next, step, rest) sound entry equation name v (inr within) can only =
      taken_closed uses next last order.1 rest sound entry equation name v within can only
  taken_closed (first ∷ uses) row last order (next, step, rest) sound entry equation name v (inl is) can only =
      subst (λ e. CanUse s (over last) m e equation name → IsOnlySolution s (over last) m e.equation equation name e.name v → last e.name ≡ Some v) is here can only
    where
      back : (y : ℕ) → Needs s first uses order.0 y → IsBelow (over last y m) (over row y m)
      back y needs = let not = needs_earlier s first uses order.0 y needs in below_over last row y (below_same (last y) (row y)
          (unchanged uses next last rest y (λ h. not (inr h)) ∙ step_other first row next step y (λ same. not (inl same))))

      kept : last first.name ≡ next first.name
      kept = unchanged uses next last rest first.name order.0.once

      here : CanUse s (over last) m first equation name → IsOnlySolution s (over last) m first.equation equation name first.name v → last first.name ≡ Some v
      here can only = by_step step
        where
          earlier : Gives s S m row first v
          earlier = record {
            equation = equation;
            name = name;
            can = can_up s unclocked (over last) (over row) m (same_over last row) first uses order.0 back sound equation name can;
            only = only_up s unclocked (over last) (over row) m (same_over last row) first uses order.0 back sound equation name v can only;
          }

          one : (w : Value) → Gives s S m row first w → w ≡ v
          one w gives =
              let names : gives.name ≡ name = same_Some gives.name name (sym gives.can.name_is ∙ can.name_is) in
              let equations : gives.equation ≡ equation = same_Some gives.equation equation (sym gives.can.equation_is ∙ can.equation_is) in
              earlier.only.only w (subst (λ n. IsOfKind n.kind w) names gives.only.typed) (subst (λ q. Solves s (over row) m first.equation q first.name w) equations gives.only.solves)

          by_step : IsTaken s S m first row next → last first.name ≡ Some v
          by_step (inr (none, same)) = absurd (none v earlier)
          by_step (inl (w, gives, same)) = kept ∙ same first.name ∙ put_same row first.name w ∙ ap Some (one w gives)
