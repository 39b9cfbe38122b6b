-- Where a run of several stretches stands.
use Rattle.std.proofs.Common.{◌≡◌, refl, ap, sym, subst, ◌∙◌, ℕ, suc, ◌+◌, ◌<◌, ◌≤◌, Bool, true, false, ℤ, List, ◌∷◌, length, drop, get_or, drop-cons, Option, Some, None, arith}
use Rattle.std.proofs.lemmas.List.{drop_all}
use Rattle.step_lines.specs.declared.running.Failing.{Failing}
use Rattle.step_lines.specs.Stretches.{RunsLines}
use Rattle.part_stretches.specs.declared.running.ClassStretch.{ClassStretch}
use Rattle.part_stretches.specs.declared.running.PartFailing.{PartFailing}
use Rattle.part_stretches.specs.Running.{tick_in, RunsOne, RunsFrom}

-- what the stretches from number i on do is what all do
pub record Runs (ticking : List Bool) (stretches : List ClassStretch) (i : ℕ) (cells first : List ℤ) : Type 0 where
  pub size : length cells ≡ length first
  pub all : (new : List ℤ) (result : Option PartFailing) → RunsFrom i ticking (drop i stretches) cells new result → RunsFrom 0 ticking stretches first new result

pub runs_first : (ticking : List Bool) (stretches : List ClassStretch) (cells : List ℤ) → Runs ticking stretches 0 cells cells
runs_first ticking stretches cells = record { size = refl; all = λ new result runs. runs }

module _ (ticking : List Bool) (stretches : List ClassStretch) (i : ℕ) (cells first : List ℤ) (runs : Runs ticking stretches i cells first) (one : ClassStretch) (within : i < length stretches) (is : one ≡ get_or stretches i one) where
  here : drop i stretches ≡ one ∷ drop (suc i) stretches
  here = drop-cons stretches i one within ∙ ap (λ z. z ∷ drop (suc i) stretches) (sym is)

  step : (b : Bool) → tick_in ticking one.class ≡ b → (new : List ℤ) (result : Option PartFailing) → RunsOne b i one cells new result (λ mid. RunsFrom (suc i) ticking (drop (suc i) stretches) mid new result) → RunsFrom 0 ticking stretches first new result
  step b tick new result h = runs.all new result (subst (λ z. RunsFrom i ticking z cells new result) (sym here)
      (subst (λ c. RunsOne c i one cells new result (λ mid. RunsFrom (suc i) ticking (drop (suc i) stretches) mid new result)) (sym tick) h))

  -- the class rests
  pub runs_over : tick_in ticking one.class ≡ false → Runs ticking stretches (i + 1) cells first
  runs_over rests =
      let next : i + 1 ≡ suc i = omega arith in
      subst (λ k. Runs ticking stretches k cells first) (sym next) (record { size = runs.size; all = λ new result h. step false rests new result h })

  -- its equations have all values
  pub runs_on : (mid : List ℤ) → tick_in ticking one.class ≡ true → RunsLines one.stretch cells mid None → length mid ≡ length cells → Runs ticking stretches (i + 1) mid first
  runs_on mid ticks ran size =
      let next : i + 1 ≡ suc i = omega arith in
      subst (λ k. Runs ticking stretches k mid first) (sym next) (record { size = size ∙ runs.size; all = λ new result h. step true ticks new result (mid, None, ran, h) })

  -- one of them fails
  pub runs_fails : (mid : List ℤ) (failing : Failing) → tick_in ticking one.class ≡ true → RunsLines one.stretch cells mid (Some failing) → RunsFrom 0 ticking stretches first mid (Some (record { stretch = i; place = failing.place; kind = failing.kind }))
  runs_fails mid failing ticks ran = step true ticks mid (Some (record { stretch = i; place = failing.place; kind = failing.kind })) (mid, Some failing, ran, (refl, refl))

pub runs_last : (ticking : List Bool) (stretches : List ClassStretch) (i : ℕ) (cells first : List ℤ) → Runs ticking stretches i cells first → length stretches ≤ i → RunsFrom 0 ticking stretches first cells None
runs_last ticking stretches i cells first runs past = runs.all cells None (subst (λ z. RunsFrom i ticking z cells cells None) (sym (drop_all i stretches past)) (refl, refl))
