-- Over the row that uses gave, nothing fails where an assignment meets the model.
use Rattle.std.proofs.Common.{◌≡◌, refl, subst, ℕ, List, Contains, inl, inr}
use Rattle.sync_values.specs.declared.value.Fail.{Fail}
use Rattle.flat_model.specs.Assignment.{Assignment}
use Rattle.flat_model.specs.Setting.{Setting}
use Rattle.flat_model.specs.Meets.{MeetsAt}
use Rattle.flat_model.specs.Uses.{Use}
use Rattle.flat_model.specs.Given.{Row, with_row, IsGiven}
use Rattle.flat_model.specs.Faults.{EquationFails, SomethingFails}
use Rattle.flat_model.proofs.OneAnswer.{given_once}
use Rattle.moment_theory.specs.Taken.{AreTaken, AreInputs}
use Rattle.moment_theory.proofs.Members.{contains_member, member_contains}
use Rattle.moment_theory.proofs.GivenByOrder.{AreSameMembers, taken_given}
use Rattle.moment_theory.proofs.NoSolution.{nothing_fails}
use Rattle.moment_theory.proofs.Running.{IsReady, valued_names}

-- a failing equation of one list of uses is one of another with the same entries
pub moved_use : (s : Setting) (A : Assignment) (these those : List Use) (m i : ℕ) (kind : Fail) → ((entry : Use) → Contains these entry → Contains those entry) → EquationFails s A these m i kind → EquationFails s A those m i kind
moved_use s A these those m i kind within f = record {
  entry = f.entry;
  used = within f.entry f.used;
  equation_is = f.equation_is;
  equation = f.equation;
  name = f.name;
  counts = f.counts;
  unsolved = f.unsolved;
  kind_is = f.kind_is;
}

pub to_all : (all uses : List Use) → AreSameMembers all uses → (entry : Use) → Contains uses entry → Contains all entry
to_all all uses same entry h = same.within entry (contains_member entry uses h)

pub from_all : (all uses : List Use) → AreSameMembers all uses → (entry : Use) → Contains all entry → Contains uses entry
from_all all uses same entry h = member_contains entry uses (same.whole entry h)

-- at an earlier moment the row was taken, and it is that of an assignment that met the model there
pub record WasTaken (s : Setting) (uses : List Use) (S : Assignment) (k : ℕ) : Type 0 where
  pub row : Row
  pub are : AreInputs s k row
  pub last : Row
  pub taken : AreTaken s S k uses row last

module _ (s : Setting) (all uses : List Use) (model : IsReady s uses) (same : AreSameMembers all uses) (S : Assignment) where
  -- where the assignment meets the model nothing fails over any row of given values
  pub quiet : (k : ℕ) (earlier : Row) → WasTaken s uses S k → MeetsAt s S k → IsGiven s S all k earlier → SomethingFails s (with_row S k earlier) all k → ⊥
  quiet k earlier was meets given fails =
      let own = taken_given s model.unclocked model.inputs S k uses model.order was.row was.are all was.last same was.taken in
      let rows : earlier ≡ was.last = given_once s S all k earlier was.last given own in
      nothing_fails s model.unclocked model.inputs S k uses model.order (valued_names s uses model.whole) was.row was.are was.last was.taken S (λ x j lt. refl) meets
      (moved (subst (λ r. SomethingFails s (with_row S k r) all k) rows fails))
    where
      moved : {A : Assignment} → SomethingFails s A all k → SomethingFails s A uses k
      moved (inl site) = inl site
      moved {A} (inr (i, kind, f)) = inr (i, kind, moved_use s A all uses k i kind (from_all all uses same) f)
