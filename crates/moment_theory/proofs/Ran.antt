-- Moments that were run go on, one after the other.
use Rattle.std.proofs.Common.{◌≡◌, refl, sym, subst, ℕ, zero, suc, ◌+◌, ◌<◌, ◌≤◌, ◌==◌, Bool, true, false, List, Some, slice_get, ◌⊎◌, inl, inr, arith}
use Rattle.std.proofs.Math.Path.{fun_ext}
use Rattle.std.proofs.lemmas.Bool.{cases_lt}
use Rattle.std.proofs.lemmas.Bool.Decides.{eqb_tells}
use Rattle.sync_values.specs.declared.value.Value.{Value}
use Rattle.sync_values.specs.declared.value.Value.TheVariants as value
use Rattle.flat_model.specs.declared.clock.Moment.{Moment}
use Rattle.flat_model.specs.declared.equation.Equation.{Equation}
use Rattle.flat_model.specs.declared.expression.Expr.{Expr}
use Rattle.flat_model.specs.declared.model.FlatName.{FlatName}
use Rattle.flat_model.specs.Operators.{Is}
use Rattle.flat_model.specs.Moments.{moment_at}
use Rattle.flat_model.specs.Assignment.{Assignment}
use Rattle.flat_model.specs.Setting.{Setting, site_answer}
use Rattle.flat_model.specs.Meets.{MeetsBefore}
use Rattle.flat_model.specs.Uses.{Use, AreUses}
use Rattle.flat_model.specs.Given.{Row, with_row, CanUse, IsOnlySolution, IsGiven}
use Rattle.flat_model.specs.Faults.{SomethingFails}
use Rattle.flat_model.proofs.Agreement.{meets_same}
use Rattle.moment_theory.specs.Going.{AgreeBefore, IsOnlyBefore, HasRun}
use Rattle.moment_theory.specs.Taken.{AreTaken, AreInputs}
use Rattle.moment_theory.proofs.Members.{IsMember}
use Rattle.moment_theory.proofs.GivenByOrder.{AreSameMembers}
use Rattle.moment_theory.proofs.Meeting.{HasTableValues}
use Rattle.moment_theory.proofs.Running.{IsReady, next_row}
use Rattle.moment_theory.proofs.Composed.{quiet}

-- an assignment with its own row is itself
pub with_own_row : (U : Assignment) (m : ℕ) → with_row U m (λ x. U x m) ≡ U
with_own_row U m = fun_ext (λ x. fun_ext (λ k. own x k (eqb_tells k m)))
  where
    own : (x k : ℕ) → ((k == m ≡ true) × (k ≡ m)) ⊎ ((k == m ≡ false) × (k ≡ m → ⊥)) → with_row U m (λ y. U y m) x k ≡ U x k
    own x k (inl (e, at)) = rw e (rw at refl)
    own x k (inr (e, at)) = rw e refl

module _ (s : Setting) (all uses : List Use) (model : IsReady s uses) (are_uses : AreUses s all) (same : AreSameMembers all uses) (U : Assignment) where
  -- the row at m was taken from the inputs
  pub record IsTakenAt (m : ℕ) : Type 0 where
    pub base : Row
    pub are : AreInputs s m base
    pub taken : (T : Assignment) → AgreeBefore U T (suc m) → AreTaken s T m uses base (λ x. U x m)

  -- and all sites and uses had values
  pub record RanAt (m : ℕ) : Type 0 where
    pub at : Moment
    pub here : moment_at s.instants m ≡ Some at
    pub table : HasTableValues s at
    pub row : IsTakenAt m
    pub sites : (site : ℕ) (condition : Expr) → slice_get s.clocking.sites site ≡ Some condition → (b : Bool) × (site_answer s U site m ≡ Is (value.Bool b))
    pub solved : (entry : Use) (equation : Equation) (name : FlatName) → IsMember entry uses → CanUse s U m entry equation name → (v : Value) × IsOnlySolution s U m entry.equation equation name entry.name v

  own_taken : (m : ℕ) (row : IsTakenAt m) → AreTaken s U m uses row.base (λ x. U x m)
  own_taken m row = row.taken U (λ x k lt. refl)

  pub run_next : (m : ℕ) → HasRun s all U m → RanAt m → HasRun s all U (suc m)
  run_next m known ran = record { meets = now.meets; only = only; quiet = still }
    where
      before : IsOnlyBefore s U m
      before = record { meets = known.meets; only = known.only m (omega arith) }

      now : IsOnlyBefore s U (suc m)
      now = subst (λ A. IsOnlyBefore s A (suc m)) (with_own_row U m)
          (next_row s uses model U m before ran.row.base ran.row.are (λ x. U x m) (own_taken m ran.row) ran.at ran.here ran.table
          (λ site condition found. subst (λ A. (b : Bool) × (site_answer s A site m ≡ Is (value.Bool b))) (sym (with_own_row U m)) (ran.sites site condition found))
          (subst (λ A. (entry : Use) (equation : Equation) (name : FlatName) → IsMember entry uses → CanUse s A m entry equation name → (v : Value) × IsOnlySolution s A m entry.equation equation name entry.name v)
          (sym (with_own_row U m)) ran.solved))

      only : (k : ℕ) → k ≤ suc m → (T : Assignment) → MeetsBefore s T k → AgreeBefore U T k
      only k le T meets = elim (cases_lt k (suc m)) [
        | inl lt ↦ known.only k (omega (arith, lt)) T meets
        | inr ge ↦ subst (AgreeBefore U T) (let e : suc m ≡ k = omega (arith, le, ge) in e) (now.only T (subst (MeetsBefore s T) (let e : k ≡ suc m = omega (arith, le, ge) in e) meets))
      ]

      still : (k : ℕ) (row : Row) (T : Assignment) → k < suc m → AgreeBefore U T (suc m) → IsGiven s T all k row → SomethingFails s (with_row T k row) all k → ⊥
      still k row T lt agree given fails = elim (cases_lt k m) [
        | inl less ↦ known.quiet k row T less (λ x j h. agree x j (omega (arith, h))) given fails
        | inr ge ↦ here (let e : k ≡ m = omega (arith, lt, ge) in e)
      ]
        where
          here : k ≡ m → ⊥
          here e = quiet s all uses model same T m row (record { row = ran.row.base; are = ran.row.are; last = (λ x. U x m); taken = ran.row.taken T agree })
              (meets_same s U T m (λ x j le. agree x j (omega (arith, le))) (now.meets m (omega arith)))
              (subst (λ n. IsGiven s T all n row) e given) (subst (λ n. SomethingFails s (with_row T n row) all n) e fails)

  -- moments one after the other
  pub run_all : (n count : ℕ) → HasRun s all U n → ((j : ℕ) → j < count → RanAt (n + j)) → HasRun s all U (n + count)
  run_all n zero known ran = subst (HasRun s all U) (let e : n ≡ n + 0 = omega arith in e) known
  run_all n (suc count) known ran =
      let earlier = run_all n count known (λ j lt. ran j (omega (arith, lt))) in
      subst (HasRun s all U) (let e : suc (n + count) ≡ n + suc count = omega arith in e) (run_next (n + count) earlier (ran count (omega arith)))
