-- What a run puts on out and err is one.
use Rattle.std.proofs.Common.{◌≡◌, refl, ap, ap₂, ◌∙◌, sym, subst, ℕ, zero, suc, ◌+◌, ◌-◌, ◌≤◌, List, [], ◌∷◌, ◌++◌, map, length, take, Option, Some, ◌⊎◌, inl, inr, arith}
use Rattle.std.proofs.Math.Path.{fun_ext}
use Rattle.std.proofs.lemmas.List.{length-take-le}
use Rattle.std.proofs.lemmas.Option.{same_Some, none-some}
use Rattle.rational_time.specs.declared.ratio.Ratio.{Ratio}
use Rattle.sync_values.specs.declared.value.Value.{Value}
use Rattle.flat_model.specs.declared.clock.Moment.{Moment}
use Rattle.flat_model.specs.Assignment.{Assignment}
use Rattle.flat_model.specs.Moments.{moment_at}
use Rattle.flat_model.specs.Runs.{IsWholeRun, IsFaultedRun, fault_line}
use Rattle.flat_model.specs.Setting.{Setting}
use Rattle.flat_model.specs.Trace.{columns_of, row_text, rows_text, trace_text, header_text}
use Rattle.flat_model.specs.Uses.{Use}
use Rattle.moment_theory.specs.Free.{IsOrdered}
use Rattle.moment_theory.specs.Going.{AgreeBefore}
use Rattle.moment_theory.specs.Laws.{IsRun}
use Rattle.moment_theory.proofs.Settled.{met_has_run, only_one, one_fault, whole_none}

-- a moment that is there is not behind the last
pub moment_within : (instants : List Ratio) (k : ℕ) (at : Moment) → moment_at instants k ≡ Some at → k ≤ length instants
moment_within instants zero at e = omega arith
moment_within [] (suc k) at e = absurd (none-some at e)
moment_within (t ∷ rest) (suc zero) at e = omega arith
moment_within (t ∷ rest) (suc (suc k)) at e = let earlier = moment_within rest (suc k) at e in omega (arith, earlier)

rows_same : (columns : List ℕ) (S T : Assignment) (m n : ℕ) (instants : List Ratio) → AgreeBefore S T n → m + length instants ≤ n → rows_text columns S m instants ≡ rows_text columns T m instants
rows_same columns S T m n [] agree long = refl
rows_same columns S T m n (t ∷ rest) agree long =
    ap₂ (λ (row : ℕ → Option Value) later. row_text t (map row columns) ++ later) (fun_ext (λ x. agree x m (omega (arith, long)))) (rows_same columns S T (suc m) n rest agree (omega (arith, long)))

trace_same : (s : Setting) (S T : Assignment) (n : ℕ) (instants : List Ratio) → AgreeBefore S T n → 1 + length instants ≤ n → trace_text s.model.names S instants ≡ trace_text s.model.names T instants
trace_same s S T n instants agree long = ap (λ rows. header_text s.model.names ++ rows) (rows_same (columns_of s.model.names) S T 1 n instants agree long)

module _ (s : Setting) (uses order : List Use) (is : IsOrdered s uses order) (out err text line : List ℕ) where
  two_whole : IsWholeRun s out err → IsWholeRun s text line → (out ≡ text) × (err ≡ line)
  two_whole one two =
      let agree = only_one s uses order is one.assignment two.assignment (length s.instants) (omega arith) one.meets two.meets in
      (one.out_is ∙ trace_same s one.assignment two.assignment (suc (length s.instants)) s.instants agree (omega arith) ∙ sym two.out_is, one.err_is ∙ sym two.err_is)

  two_faulted : IsFaultedRun s out err → IsFaultedRun s text line → (out ≡ text) × (err ≡ line)
  two_faulted one two =
      let low = moment_within s.instants one.moment one.at one.found in
      let high = moment_within s.instants two.moment two.at two.found in
      let (moments, places, kinds) = one_fault s uses order is one.assignment two.assignment one.moment two.moment low high one.place two.place one.kind two.kind one.fault two.fault in
      let known = met_has_run s uses order is one.assignment one.moment (omega (arith, low)) one.fault.meets in
      let agree : AgreeBefore one.assignment two.assignment one.moment = known.only one.moment (omega arith) two.assignment (λ k lt. two.fault.meets k (omega (arith, lt, moments))) in
      let instants : one.at ≡ two.at = same_Some one.at two.at (sym one.found ∙ ap (moment_at s.instants) moments ∙ two.found) in (
        one.out_is ∙ rows agree (by_moment one.moment refl) ∙ ap (λ n. trace_text s.model.names two.assignment (take (n - 1) s.instants)) moments ∙ sym two.out_is,
        one.err_is ∙ ap₂ (λ at place. fault_line at place one.kind) instants places ∙ ap (fault_line two.at two.place) kinds ∙ sym two.err_is,
      )
    where
      by_moment : (n : ℕ) → one.moment ≡ n → (one.moment ≡ 0) ⊎ (1 + length (take (one.moment - 1) s.instants) ≤ one.moment)
      by_moment zero e = inl e
      by_moment (suc n) e = inr (let low = moment_within s.instants one.moment one.at one.found in let few = length-take-le (one.moment - 1) s.instants (omega (arith, low)) in omega (arith, few, e))

      rows : AgreeBefore one.assignment two.assignment one.moment → (one.moment ≡ 0) ⊎ (1 + length (take (one.moment - 1) s.instants) ≤ one.moment)
          → trace_text s.model.names one.assignment (take (one.moment - 1) s.instants) ≡ trace_text s.model.names two.assignment (take (one.moment - 1) s.instants)
      rows agree (inl first) = subst (λ n. trace_text s.model.names one.assignment (take (n - 1) s.instants) ≡ trace_text s.model.names two.assignment (take (n - 1) s.instants)) (sym first) refl
      rows agree (inr few) = trace_same s one.assignment two.assignment one.moment (take (one.moment - 1) s.instants) agree few

  whole_or_faulted : IsWholeRun s out err → IsFaultedRun s text line → ⊥
  whole_or_faulted one two =
      let within = moment_within s.instants two.moment two.at two.found in
      whole_none s uses order is one.assignment two.assignment two.moment (length s.instants) within (omega arith) one.meets two.place two.kind two.fault

-- two answers of a run are one
pub one_run : (s : Setting) (uses order : List Use) → IsOrdered s uses order → (out err text line : List ℕ) → IsRun s out err → IsRun s text line → (out ≡ text) × (err ≡ line)
one_run s uses order is out err text line (inl one) (inl two) = two_whole s uses order is out err text line one two
one_run s uses order is out err text line (inr one) (inr two) = two_faulted s uses order is out err text line one two
one_run s uses order is out err text line (inl one) (inr two) = absurd (whole_or_faulted s uses order is out err text line one two)
one_run s uses order is out err text line (inr one) (inl two) = absurd (whole_or_faulted s uses order is text line out err two one)
