-- How a run of a stretch ends.
use Rattle.std.proofs.Common.{◌≡◌, refl, ap, sym, subst, ◌∙◌, ℕ, ◌<◌, ◌≤◌, suc, List, ◌∷◌, length, drop, slice_get, Option, Some, None, ℤ}
use Rattle.sync_values.specs.declared.value.Fail.{Fail}
use Rattle.flat_model.specs.Views.{Views}
use Rattle.step_code.specs.declared.machine.Stop.{Stop}
use Rattle.step_code.specs.declared.machine.Instr.{Instr}
use Rattle.step_code.specs.Machine.{ran, word_at, ended, Done, Stopped, AreWithin}
use Rattle.step_code.specs.Code.{Cells}
use Rattle.step_code.specs.Lines.{Line, lines_code, Ended, All, Failed, Missing, lines_end, Holds, RunsAs}
use Rattle.step_code.proofs.Sequence.{lines_run}
use Rattle.step_lines.specs.declared.running.Failing.{Failing}
use Rattle.step_lines.specs.declared.stretch.Stretch.{Stretch}
use Rattle.step_lines.specs.Stretches.{marks_of, place_in, EndsAs, RunsLines}
use Rattle.step_lines.proofs.Placing.{place_found}

-- what a stop tells, by the marks
abbrev pub failing_of : List ℕ → Option Stop → Option Failing
failing_of marks None = None
failing_of marks (Some stop) = Some (record { place = place_in marks stop.left; kind = stop.kind })

done_cells : (a b : List ℤ) → Done a ≡ Done b → a ≡ b
done_cells a b e = cc

done_stopped : (a b : List ℤ) (kind : Fail) (left : ℕ) → Done a ≡ Stopped b kind left → ⊥
done_stopped a b kind left e = cc

stopped_cells : (a b : List ℤ) (kind other : Fail) (m n : ℕ) → Stopped a kind m ≡ Stopped b other n → a ≡ b
stopped_cells a b kind other m n e = cc

stopped_kind : (a b : List ℤ) (kind other : Fail) (m n : ℕ) → Stopped a kind m ≡ Stopped b other n → kind ≡ other
stopped_kind a b kind other m n e = cc

stopped_left : (a b : List ℤ) (kind other : Fail) (m n : ℕ) → Stopped a kind m ≡ Stopped b other n → m ≡ n
stopped_left a b kind other m n e = cc

module _ (at : Cells) (t : ℕ) (ls : List Line) (marks : List ℕ) (views : Views) (code : List Instr) (old new : List ℤ) (marks_are : marks ≡ marks_of at t ls) where
  ends : (e : Ended) → lines_end ls views ≡ e → (stop : Option Stop) → ran code 0 old ≡ ended new stop → RunsAs at t ls code old e → EndsAs at t old new ls e (failing_of marks stop)
  ends (All after) is None runs r =
      let same = done_cells new r.0 (sym runs ∙ r.1) in
      (refl, subst (λ z. Holds at z t after) (sym same) r.3, λ c below none. ap (λ z. word_at z c) same ∙ r.4 c below none)
  ends (All after) is (Some stop) runs r = absurd (done_stopped r.0 new stop.kind stop.left (sym r.1 ∙ runs))
  ends (Failed after kind line behind) is None runs r = absurd (done_stopped new r.0 kind r.1 (sym runs ∙ r.2))
  ends (Failed after kind line behind) is (Some stop) runs r =
      let stops = sym runs ∙ r.2 in
      let cells = stopped_cells new r.0 stop.kind kind stop.left r.1 stops in
      let left = stopped_left new r.0 stop.kind kind stop.left r.1 stops in
      let found = place_found at t ls views after kind line behind stop.left is (subst (λ n. length (lines_code at t behind) ≤ n) (sym left) r.3) (subst (λ n. n < length (lines_code at t (line ∷ behind))) (sym left) r.4) in
      let place : place_in (marks_of at t ls) stop.left ≡ place_in marks stop.left = ap (λ m. place_in m stop.left) (sym marks_are) in (
        record { place = place_in marks stop.left; kind = stop.kind },
        refl,
        stopped_kind new r.0 stop.kind kind stop.left r.1 stops,
        record { found = ap (λ p. slice_get ls p) (sym place) ∙ found.found; rest = ap (λ p. drop (suc p) ls) (sym place) ∙ found.rest },
        subst (λ z. Holds at z t after) (sym cells) r.6,
        λ c below none. ap (λ z. word_at z c) cells ∙ r.7 c below none,
      )
  ends Missing is stop runs r = tt

-- what `run` did tells how the equations end
pub runs_lines : (stretch : Stretch) (old new : List ℤ) (stop : Option Stop) → AreWithin (length old) stretch.code.items → ran stretch.code.items 0 old ≡ ended new stop → RunsLines stretch old new (failing_of stretch.marks.items stop)
runs_lines stretch old new stop within runs at t ls is apart views truths lines holds =
    ends at t ls stretch.marks.items views stretch.code.items old new is.marks (lines_end ls views) refl stop runs
    (subst (λ code. RunsAs at t ls code old (lines_end ls views)) (sym is.code) (lines_run at t apart ls old views truths lines holds (subst (AreWithin (length old)) is.code within)))
