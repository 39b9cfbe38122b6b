-- Where a careful run of several lines stands.
use Rattle.std.proofs.Common.{◌≡◌, refl, ap, ap₂, sym, subst, ◌∙◌, ℕ, suc, ◌+◌, ◌<◌, ◌≤◌, ◌&&◌, Bool, true, false, List, ◌∷◌, length, drop, get_or, drop-cons, Some, None, arith}
use Rattle.std.proofs.lemmas.List.{drop_all}
use Rattle.step_lines.specs.declared.running.Failing.{Failing}
use Rattle.step_lines.specs.Stretches.{RunsLines}
use Rattle.part_stretches.specs.Running.{tick_in}
use Rattle.first_failure.specs.declared.careful.LoneLine.{LoneLine}
use Rattle.first_failure.specs.Careful.{CarefulState, all_in, with_bit, less_of, is_ready, RunsLone, RunsEach}

-- what the lines from number i on do is what all do
pub record Stands (ticking : List Bool) (lines : List LoneLine) (i : ℕ) (now first : CarefulState) : Type 0 where
  pub size : length now.cells ≡ length first.cells
  pub places : length now.marks ≡ length first.marks
  pub all : (after : CarefulState) → RunsEach ticking (drop i lines) now after → RunsEach ticking lines first after

pub stands_first : (ticking : List Bool) (lines : List LoneLine) (first : CarefulState) → Stands ticking lines 0 first first
stands_first ticking lines first = record { size = refl; places = refl; all = λ after runs. runs }

module _ (ticking : List Bool) (lines : List LoneLine) (i : ℕ) (now first : CarefulState) (stands : Stands ticking lines i now first) (one : LoneLine) (within : i < length lines) (is : one ≡ get_or lines i one) where
  here : drop i lines ≡ one ∷ drop (suc i) lines
  here = drop-cons lines i one within ∙ ap (λ z. z ∷ drop (suc i) lines) (sym is)

  step : (b : Bool) → is_ready ticking now.marks one ≡ b → (mid after : CarefulState) → RunsLone b one now mid → RunsEach ticking (drop (suc i) lines) mid after → RunsEach ticking lines first after
  step b ready mid after h rest = stands.all after (subst (λ z. RunsEach ticking z now after) (sym here) (mid, subst (λ c. RunsLone c one now mid) (sym ready) h, rest))

  on : (b : Bool) → is_ready ticking now.marks one ≡ b → (mid : CarefulState) → RunsLone b one now mid → length mid.cells ≡ length now.cells → length mid.marks ≡ length now.marks → Stands ticking lines (i + 1) mid first
  on b ready mid h size places =
      let next : i + 1 ≡ suc i = omega arith in
      subst (λ k. Stands ticking lines k mid first) (sym next) (record { size = size ∙ stands.size; places = places ∙ stands.places; all = λ after rest. step b ready mid after h rest })

  -- the class rests
  pub stands_resting : tick_in ticking one.class ≡ false → Stands ticking lines (i + 1) now first
  stands_resting rests = on false (ap (λ b. b && all_in now.marks one.reads.items) rests) now refl refl refl

  -- the class ticks, and something cannot be read
  pub stands_unready : tick_in ticking one.class ≡ true → all_in now.marks one.reads.items ≡ false → Stands ticking lines (i + 1) now first
  stands_unready ticks unready = on false (ap₂ (λ a b. a && b) ticks unready) now refl refl refl

  module _ (ticks : tick_in ticking one.class ≡ true) (ready : all_in now.marks one.reads.items ≡ true) where
    -- the line has a value
    pub stands_on : (mid : CarefulState) → RunsLines one.stretch now.cells mid.cells None → length mid.cells ≡ length now.cells → mid.marks ≡ with_bit now.marks one.cell → length mid.marks ≡ length now.marks → mid.told ≡ now.told → Stands ticking lines (i + 1) mid first
    stands_on mid ran size marked places told = on true (ap₂ (λ a b. a && b) ticks ready) mid (None, ran, (marked, told)) size places

    -- the line fails
    pub stands_told : (mid : CarefulState) (failing : Failing) → RunsLines one.stretch now.cells mid.cells (Some failing) → length mid.cells ≡ length now.cells → mid.marks ≡ now.marks
        → mid.told ≡ Some (less_of now.told (record { equation = one.equation; kind = failing.kind })) → Stands ticking lines (i + 1) mid first
    stands_told mid failing ran size marked told = on true (ap₂ (λ a b. a && b) ticks ready) mid (Some failing, ran, (marked, told)) size (ap length marked)

pub stands_last : (ticking : List Bool) (lines : List LoneLine) (i : ℕ) (now first : CarefulState) → Stands ticking lines i now first → length lines ≤ i → RunsEach ticking lines first now
stands_last ticking lines i now first stands past = stands.all now (subst (λ z. RunsEach ticking z now now) (sym (drop_all i lines past)) refl)
