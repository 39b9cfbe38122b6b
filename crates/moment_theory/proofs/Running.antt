-- From one moment to the next: what meets the model up to a moment, and is alone in that, goes on, or nothing does.
use Rattle.std.proofs.Common.{◌≡◌, ◌≢◌, ap, ◌∙◌, sym, subst, ℕ, suc, ◌≤◌, List, [], ◌∷◌, Some, slice_get, inl, inr, arith}
use Rattle.std.proofs.lemmas.Bool.{cases_lt}
use Rattle.std.proofs.lemmas.Option.{same_Some}
use Rattle.flat_model.specs.declared.clock.Moment.{Moment}
use Rattle.flat_model.specs.declared.model.FlatName.{FlatName}
use Rattle.flat_model.specs.declared.model.NameKind.TheVariants as kind
use Rattle.flat_model.specs.Moments.{moment_at}
use Rattle.flat_model.specs.Assignment.{Assignment}
use Rattle.flat_model.specs.Setting.{Setting}
use Rattle.flat_model.specs.Meets.{MeetsAt, MeetsBefore, Meets}
use Rattle.flat_model.specs.Uses.{Use}
use Rattle.flat_model.specs.Given.{Row, with_row}
use Rattle.flat_model.specs.Faults.{SomethingFails}
use Rattle.flat_model.proofs.OneSolution.{AreSitesUnclocked}
use Rattle.moment_theory.specs.Going.{IsOnlyBefore}
use Rattle.moment_theory.specs.Free.{IsReachedBy}
use Rattle.moment_theory.proofs.Ordered.{AreFreeUses}
use Rattle.moment_theory.specs.Taken.{AreTaken, AreInputs}
use Rattle.moment_theory.proofs.Rows.{row_before}
use Rattle.moment_theory.proofs.GivenByOrder.{AreInputsUnclocked}
use Rattle.moment_theory.proofs.Meeting.{AreClassed, AreWhole, HasTableValues, SitesHold, AllSolved, meets_next}
use Rattle.moment_theory.proofs.NoSolution.{nothing_fails, same_now}
use Rattle.moment_theory.proofs.Members.{IsMember}

-- what a model and its order give once and for all
pub record IsReady (s : Setting) (uses : List Use) : Type 0 where
  pub unclocked : AreSitesUnclocked s
  pub inputs : AreInputsUnclocked s
  pub classed : AreClassed s
  pub order : AreFreeUses s uses
  pub whole : AreWhole s uses

-- nothing is asked before the first moment
pub only_at_first : (s : Setting) (S : Assignment) → IsOnlyBefore s S 0
only_at_first s S = record { meets = λ m lt. absurd (omega (arith, lt)); only = λ T meets x k lt. absurd (omega (arith, lt)) }

pub valued_names : (s : Setting) (uses : List Use) → AreWhole s uses → (entry : Use) (name : FlatName) → IsMember entry uses → slice_get s.model.names entry.name ≡ Some name → name.kind ≢ kind.Clock
valued_names s uses whole entry name member found =
    let v = whole.valued entry.name (reached uses entry member) in
    subst (λ n. n.kind ≢ kind.Clock) (same_Some v.name name (sym v.found ∙ found)) v.valued
  where
    reached : (us : List Use) (e : Use) → IsMember e us → IsReachedBy e.name us
    reached [] e h = absurd h
    reached (first ∷ us) e (inl is) = inl (ap (λ u. u.name) (sym is))
    reached (first ∷ us) e (inr h) = inr (reached us e h)

module _ (s : Setting) (uses : List Use) (model : IsReady s uses) (S : Assignment) (m : ℕ) (before : IsOnlyBefore s S m)
    (row : Row) (are : AreInputs s m row) (last : Row) (taken : AreTaken s S m uses row last) where
  abbrev U : Assignment
  U = with_row S m last

  before_now : (T : Assignment) → MeetsAt s T m → MeetsBefore s T m → Meets s T m
  before_now T here earlier k le = elim (cases_lt k m) [
    | inl lt ↦ earlier k lt
    | inr ge ↦ subst (MeetsAt s T) (let e : m ≡ k = omega (arith, le, ge) in e) here
  ]

  -- where nothing fails, the row goes on: it meets the model up to m, and nothing else does
  pub next_row : (at : Moment) (here : moment_at s.instants m ≡ Some at) (table : HasTableValues s at)
      → SitesHold s model.unclocked model.inputs model.classed S m uses model.order model.whole row are last taken at here table
      → AllSolved s model.unclocked model.inputs model.classed S m uses model.order model.whole row are last taken at here table → IsOnlyBefore s U (suc m)
  next_row at here table sites solved =
      let meets = meets_next s model.unclocked model.inputs model.classed S m uses model.order model.whole row are last taken at here table sites solved before.meets in record {
        meets = λ k lt. meets k (omega (arith, lt));
        only = λ T there x k lt. same T there x k (omega (arith, lt)) (meets m (omega arith));
      }
    where
      same : (T : Assignment) → MeetsBefore s T (suc m) → (x k : ℕ) → k ≤ m → MeetsAt s U m → U x k ≡ T x k
      same T there x k le here = elim (cases_lt k m) [
        | inl lt ↦ row_before S m last x k lt ∙ before.only T (λ j less. there j (omega (arith, less))) x k lt
        | inr ge ↦ subst (λ j. U x j ≡ T x j) (let e : m ≡ k = omega (arith, le, ge) in e)
            (same_now s model.unclocked model.inputs S m uses model.order (valued_names s uses model.whole) row are last taken T
            (before.only T (λ j less. there j (omega (arith, less)))) (there m (omega arith)) here x)
      ]

  -- where something fails over the given values, nothing meets the model up to m
  pub no_row : SomethingFails s U uses m → (T : Assignment) → Meets s T m → ⊥
  no_row fails T there = nothing_fails s model.unclocked model.inputs S m uses model.order (valued_names s uses model.whole) row are last taken T
      (before.only T (λ j lt. there j (omega (arith, lt)))) (there m (omega arith)) fails
