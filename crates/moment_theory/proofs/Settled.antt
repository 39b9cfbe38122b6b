-- The laws of a moment and of a run, for a setting that is runnable and ordered.
use Rattle.std.proofs.Common.{◌≡◌, refl, ap, ap₂, ◌∙◌, sym, subst, ℕ, zero, suc, ◌<◌, ◌≤◌, List, [], ◌∷◌, length, Some, slice_get, inl, inr, arith}
use Rattle.std.proofs.lemmas.Bool.{cases_lt}
use Rattle.std.proofs.lemmas.Option.{same_Some}
use Rattle.rational_time.specs.declared.ratio.Ratio.{Ratio}
use Rattle.sync_values.specs.declared.value.Fail.{Fail}
use Rattle.flat_model.specs.declared.clock.Moment.{Moment}
use Rattle.flat_model.specs.declared.clock.Moment.TheVariants.{Initial, At}
use Rattle.flat_model.specs.declared.fault.FaultPlace.{FaultPlace}
use Rattle.flat_model.specs.declared.fault.FaultPlace.TheVariants as place
use Rattle.flat_model.specs.Operators.{Answer, Fails}
use Rattle.flat_model.specs.Meaning.{seen_by}
use Rattle.flat_model.specs.Ways.{kind_of, parts_beside}
use Rattle.flat_model.specs.Assignment.{Assignment}
use Rattle.flat_model.specs.Faults.{SiteFails, EquationFails, SomethingFails, IsFirstToFail, IsFirstFault}
use Rattle.flat_model.specs.Given.{Row, with_row, IsGiven}
use Rattle.flat_model.specs.Meets.{Meets, MeetsBefore}
use Rattle.flat_model.specs.Moments.{moment_at}
use Rattle.flat_model.specs.Setting.{Setting, class_of_equation, views_at}
use Rattle.flat_model.specs.Uses.{Use}
use Rattle.flat_model.proofs.OneAnswer.{uses_once, given_once}
use Rattle.moment_theory.specs.Free.{AreFree, AreSameUses, IsOrdered}
use Rattle.moment_theory.specs.Going.{AgreeBefore, IsOnlyBefore, HasRun, SitesHold, AllSolved}
use Rattle.moment_theory.specs.Taken.{AreInputs, AreTaken}
use Rattle.moment_theory.proofs.Composed.{moved_use}
use Rattle.moment_theory.proofs.Facts.{same_members}
use Rattle.moment_theory.proofs.FromRunnable.{facts_of}
use Rattle.moment_theory.proofs.GivenByOrder.{AreSameMembers, taken_given}
use Rattle.moment_theory.proofs.Meeting.{HasTableValues}
use Rattle.moment_theory.proofs.Members.{member_contains}
use Rattle.moment_theory.proofs.MetTaken.{AreSolvedOnce, met_run}
use Rattle.moment_theory.proofs.Moved.{rows_up_to, first_moved, fails_moved, given_moved}
use Rattle.moment_theory.proofs.Once.{one_use}
use Rattle.moment_theory.proofs.Ready.{ready, solved_once}
use Rattle.moment_theory.proofs.Running.{IsReady, next_row, no_row}

-- each moment up to the last is there
pub moment_there : (instants : List Ratio) (k : ℕ) → k ≤ length instants → (at : Moment) × (moment_at instants k ≡ Some at)
moment_there instants zero le = (Initial, refl)
moment_there [] (suc k) le = absurd (omega (arith, le))
moment_there (t ∷ rest) (suc zero) le = (At t, refl)
moment_there (t ∷ rest) (suc (suc k)) le = moment_there rest (suc k) (omega (arith, le))

module _ (s : Setting) (uses order : List Use) (is : IsOrdered s uses order) where
  pub model : IsReady s order
  model = ready s uses order is.runs is.uses_are is.same is.free

  pub members : AreSameMembers uses order
  members = same_members uses order is.same

  pub once : AreSolvedOnce s order
  once = solved_once s uses order is.runs is.uses_are is.same is.free

  pub tables : (m : ℕ) (at : Moment) → moment_at s.instants m ≡ Some at → HasTableValues s at
  tables = (facts_of s is.runs).tables

  pub taken_is_given : (S : Assignment) (m : ℕ) (inputs last : Row) → AreInputs s m inputs → AreTaken s S m order inputs last → IsGiven s S uses m last
  taken_is_given S m inputs last are taken = taken_given s model.unclocked model.inputs S m order model.order inputs are uses last members taken

  fails_in_order : (A : Assignment) (m : ℕ) → SomethingFails s A uses m → SomethingFails s A order m
  fails_in_order A m (inl site) = inl site
  fails_in_order A m (inr (i, kind, fails)) = inr (i, kind, moved_use s A uses order m i kind is.same.all fails)

  module _ (S : Assignment) (m : ℕ) (inputs last : Row) (are : AreInputs s m inputs) (taken : AreTaken s S m order inputs last) where
    pub next_only : IsOnlyBefore s S m → (at : Moment) → moment_at s.instants m ≡ Some at → SitesHold s (with_row S m last) m → AllSolved s (with_row S m last) uses m → IsOnlyBefore s (with_row S m last) (suc m)
    next_only before at here sites solved = next_row s order model S m before inputs are last taken at here (tables m at here) sites
        (λ entry equation name member can. solved entry equation name (is.same.only entry (member_contains entry order member)) can)

    pub none_meet : IsOnlyBefore s S m → SomethingFails s (with_row S m last) uses m → (T : Assignment) → Meets s T m → ⊥
    none_meet before fails T there = no_row s order model S m before inputs are last taken (fails_in_order (with_row S m last) m fails) T there

    pub first_fault_is : HasRun s uses S m → (at : FaultPlace) (kind : Fail) → IsFirstToFail s (with_row S m last) uses m at kind → IsFirstFault s S m at kind
    first_fault_is known at kind first = record {
      meets = known.meets;
      uses = uses;
      uses_are = is.uses_are.uses_are;
      row = last;
      given = taken_is_given S m inputs last are taken;
      first = first;
      none_before = λ k earlier lt given. known.quiet k earlier S lt (λ x j h. refl) given;
    }

  pub met_has_run : (S : Assignment) (m : ℕ) → m ≤ suc (length s.instants) → MeetsBefore s S m → HasRun s uses S m
  met_has_run S m le meets =
      met_run s uses order model is.uses_are.uses_are members once tables S m (λ k lt. moment_there s.instants k (omega (arith, lt, le))) meets

  pub only_one : (S T : Assignment) (m : ℕ) → m ≤ length s.instants → Meets s S m → Meets s T m → AgreeBefore S T (suc m)
  only_one S T m le here there =
      (met_has_run S (suc m) (omega (arith, le)) (λ k lt. here k (omega (arith, lt)))).only (suc m) (omega arith) T (λ k lt. there k (omega (arith, lt)))

  -- what fails first over given values fails there for whatever agrees before
  some_first : (A : Assignment) (m : ℕ) (at : FaultPlace) (kind : Fail) → IsFirstToFail s A uses m at kind → SomethingFails s A uses m
  some_first A m (place.Site site) kind first = inl (site, kind, first.0)
  some_first A m (place.Equation i) kind first = inr (i, kind, first.0)

  -- the uses of a fault are the uses of the setting
  pub record FaultOf (S : Assignment) (m : ℕ) (at : FaultPlace) (kind : Fail) : Type 0 where
    pub row : Row
    pub given : IsGiven s S uses m row
    pub first : IsFirstToFail s (with_row S m row) uses m at kind
    pub none : (k : ℕ) (earlier : Row) → k < m → IsGiven s S uses k earlier → SomethingFails s (with_row S k earlier) uses k → ⊥

  fault_of : (S : Assignment) (m : ℕ) (at : FaultPlace) (kind : Fail) → IsFirstFault s S m at kind → FaultOf S m at kind
  fault_of S m at kind fault =
      let same : fault.uses ≡ uses = uses_once s fault.uses uses fault.uses_are is.uses_are.uses_are in record {
        row = fault.row;
        given = subst (λ us. IsGiven s S us m fault.row) same fault.given;
        first = subst (λ us. IsFirstToFail s (with_row S m fault.row) us m at kind) same fault.first;
        none = subst (λ us. (k : ℕ) (earlier : Row) → k < m → IsGiven s S us k earlier → SomethingFails s (with_row S k earlier) us k → ⊥) same fault.none_before;
      }

  -- where two agree before m, and nothing fails at m over the given values of the one, no first fault of the other is there
  not_there : (S T : Assignment) (m : ℕ) → AgreeBefore T S m → (at : FaultPlace) (kind : Fail) → FaultOf T m at kind
      → ((row : Row) → IsGiven s S uses m row → SomethingFails s (with_row S m row) uses m → ⊥) → ⊥
  not_there S T m agree at kind fault quiet =
      quiet fault.row (given_moved s T S m agree uses fault.row fault.given)
      (fails_moved s (with_row T m fault.row) (with_row S m fault.row) m (rows_up_to T S m fault.row agree) uses (some_first (with_row T m fault.row) m at kind fault.first))

  pub whole_none : (S T : Assignment) (m n : ℕ) → m ≤ n → n ≤ length s.instants → Meets s S n → (at : FaultPlace) (kind : Fail) → IsFirstFault s T m at kind → ⊥
  whole_none S T m n le range here at kind fault =
      let known = met_has_run S (suc n) (omega (arith, range)) (λ k lt. here k (omega (arith, lt))) in
      let agree : AgreeBefore T S m = λ x k lt. sym (known.only m (omega (arith, le)) T fault.meets x k lt) in
      not_there S T m agree at kind (fault_of T m at kind fault) (λ row given fails. known.quiet m row S (omega (arith, le)) (λ x k lt. refl) given fails)

  -- the first to fail is one
  same_kind : (a b : Fail) (o : Answer) → o ≡ Fails a → o ≡ Fails b → a ≡ b
  same_kind a b o one two = let h : Fails a ≡ Fails b = sym one ∙ two in cc

  one_site : (A : Assignment) (m i j : ℕ) (kind failure : Fail) → IsFirstToFail s A uses m (place.Site i) kind → IsFirstToFail s A uses m (place.Site j) failure → (place.Site i ≡ place.Site j) × (kind ≡ failure)
  one_site A m i j kind failure one two = elim (cases_lt i j) [
    | inl lt ↦ absurd (two.1 i kind lt one.0)
    | inr ge ↦ elim (cases_lt j i) [
      | inl lt ↦ absurd (one.1 j failure lt two.0)
      | inr le ↦ let same : i ≡ j = omega (arith, ge, le) in
          (ap place.Site same, same_kind kind failure _ (subst (λ k. SiteFails s A m k kind) same one.0).fails two.0.fails)
    ]
  ]

  kind_at : (A : Assignment) (m i : ℕ) (kind failure : Fail) (one : EquationFails s A uses m i kind) (two : EquationFails s A uses m i failure) → kind ≡ failure
  kind_at A m i kind failure one two =
      let entries : one.entry ≡ two.entry = one_use s uses is.uses_are.uses_are one.entry two.entry one.used two.used (one.equation_is ∙ sym two.equation_is) in
      let equations : one.equation ≡ two.equation = same_Some one.equation two.equation (sym (subst (λ e. slice_get s.model.equations e.equation ≡ Some one.equation) entries one.counts.equation_is) ∙ two.counts.equation_is) in
      one.kind_is ∙ ap₂ (λ (e : Use) q. kind_of (seen_by (views_at s A (class_of_equation s i) m) (parts_beside e.name q))) entries equations ∙ sym two.kind_is

  one_equation : (A : Assignment) (m i j : ℕ) (kind failure : Fail) → IsFirstToFail s A uses m (place.Equation i) kind → IsFirstToFail s A uses m (place.Equation j) failure → (place.Equation i ≡ place.Equation j) × (kind ≡ failure)
  one_equation A m i j kind failure one two = elim (cases_lt i j) [
    | inl lt ↦ absurd (two.2 i kind lt one.0)
    | inr ge ↦ elim (cases_lt j i) [
      | inl lt ↦ absurd (one.2 j failure lt two.0)
      | inr le ↦ let same : i ≡ j = omega (arith, ge, le) in
          (ap place.Equation same, kind_at A m j kind failure (subst (λ k. EquationFails s A uses m k kind) same one.0) two.0)
    ]
  ]

  one_first : (A : Assignment) (m : ℕ) (at spot : FaultPlace) (kind failure : Fail) → IsFirstToFail s A uses m at kind → IsFirstToFail s A uses m spot failure → (at ≡ spot) × (kind ≡ failure)
  one_first A m (place.Site i) (place.Site j) kind failure one two = one_site A m i j kind failure one two
  one_first A m (place.Equation i) (place.Equation j) kind failure one two = one_equation A m i j kind failure one two
  one_first A m (place.Site i) (place.Equation j) kind failure one two = absurd (two.1 i kind one.0)
  one_first A m (place.Equation i) (place.Site j) kind failure one two = absurd (one.1 j failure two.0)

  -- two first faults at one moment
  same_moment : (S T : Assignment) (m : ℕ) → AgreeBefore T S m → (at spot : FaultPlace) (kind failure : Fail) → FaultOf S m at kind → FaultOf T m spot failure → (at ≡ spot) × (kind ≡ failure)
  same_moment S T m agree at spot kind failure one two =
      let rows : two.row ≡ one.row = given_once s S uses m two.row one.row (given_moved s T S m agree uses two.row two.given) one.given in
      let moved = first_moved s (with_row T m two.row) (with_row S m two.row) m (rows_up_to T S m two.row agree) uses spot failure two.first in
      one_first (with_row S m one.row) m at spot kind failure one.first (subst (λ r. IsFirstToFail s (with_row S m r) uses m spot failure) rows moved)

  pub one_fault : (S T : Assignment) (m n : ℕ) → m ≤ length s.instants → n ≤ length s.instants → (at spot : FaultPlace) (kind failure : Fail) → IsFirstFault s S m at kind → IsFirstFault s T n spot failure
      → (m ≡ n) × (at ≡ spot) × (kind ≡ failure)
  one_fault S T m n le_m le_n at spot kind failure first second = elim (cases_lt m n) [
    | inl lt ↦
        let known = met_has_run T n (omega (arith, le_n)) second.meets in
        let agree : AgreeBefore S T m = λ x k h. sym (known.only m (omega (arith, lt)) S first.meets x k h) in
        absurd (not_there T S m agree at kind (fault_of S m at kind first) (λ row given fails. (fault_of T n spot failure second).none m row lt given fails))
    | inr ge ↦ elim (cases_lt n m) [
      | inl lt ↦
          let known = met_has_run S m (omega (arith, le_m)) first.meets in
          let agree : AgreeBefore T S n = λ x k h. sym (known.only n (omega (arith, lt)) T second.meets x k h) in
          absurd (not_there S T n agree spot failure (fault_of T n spot failure second) (λ row given fails. (fault_of S m at kind first).none n row lt given fails))
      | inr le ↦
          let same : n ≡ m = omega (arith, ge, le) in
          let second_here : IsFirstFault s T m spot failure = subst (λ k. IsFirstFault s T k spot failure) same second in
          let known = met_has_run S m (omega (arith, le_m)) first.meets in
          let agree : AgreeBefore T S m = λ x k h. sym (known.only m (omega arith) T second_here.meets x k h) in
          let one = same_moment S T m agree at spot kind failure (fault_of S m at kind first) (fault_of T m spot failure second_here) in
          (sym same, one.0, one.1)
    ]
  ]

-- two free orders give one row
pub orders_agree : (s : Setting) (uses first second : List Use) → IsOrdered s uses first → AreSameUses uses second → AreFree s second
    → (S : Assignment) (m : ℕ) (inputs one two : Row) → AreInputs s m inputs → AreTaken s S m first inputs one → AreTaken s S m second inputs two → (x : ℕ) → one x ≡ two x
orders_agree s uses first second is same free S m inputs one two are taken_one taken_two x =
    let other : IsOrdered s uses second = record { runs = is.runs; uses_are = is.uses_are; same = same; free = free } in
    ap (λ (r : Row). r x) (given_once s S uses m one two (taken_is_given s uses first is S m inputs one are taken_one) (taken_is_given s uses second other S m inputs two are taken_two))
