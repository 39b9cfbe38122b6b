-- What is given, what is taken and what fails at a moment rest on the values up to it.
use Rattle.std.proofs.Common.{◌≡◌, refl, ap, ◌∙◌, sym, subst, ℕ, ◌==◌, ◌&&◌, if◌then◌else◌, true, false, List, [], ◌∷◌, Option, Some, None, IsSome, ◌⊎◌, inl, inr, arith}
use Rattle.std.proofs.lemmas.Bool.Decides.{eqb_tells}
use Rattle.sync_values.specs.declared.value.Value.{Value}
use Rattle.sync_values.specs.declared.value.Fail.{Fail}
use Rattle.flat_model.specs.declared.clock.Clock.{Clock}
use Rattle.flat_model.specs.declared.clock.Clock.TheVariants.{Periodic, Event}
use Rattle.flat_model.specs.declared.equation.Equation.{Equation}
use Rattle.flat_model.specs.declared.equation.Equation.TheVariants.{Valued, Clocks}
use Rattle.flat_model.specs.declared.expression.Expr.{Expr}
use Rattle.flat_model.specs.declared.fault.FaultPlace.{FaultPlace}
use Rattle.flat_model.specs.declared.fault.FaultPlace.TheVariants as place
use Rattle.flat_model.specs.declared.model.FlatName.{FlatName}
use Rattle.flat_model.specs.Meaning.{seen_by}
use Rattle.flat_model.specs.Ways.{kind_of, parts_beside}
use Rattle.flat_model.specs.Assignment.{Assignment}
use Rattle.flat_model.specs.Setting.{Setting, class_of_name, class_of_equation, clock_of, class_ticks}
use Rattle.flat_model.specs.Meets.{HasOneValue}
use Rattle.flat_model.specs.Uses.{Use}
use Rattle.flat_model.specs.Given.{Row, with_row, with_value, IsKnownOf, IsKnown, HasLastValue, HasReadIn, HasReadsBut, Solves, IsOnlySolution, CanUse, IsClosed, IsGiven}
use Rattle.flat_model.specs.Faults.{SiteFails, EquationFails, SomethingFails, IsFirstToFail}
use Rattle.flat_model.proofs.Agreement.{SameBefore, SameUpTo, site_same, class_ticks_same, views_same}
use Rattle.moment_theory.specs.Taken.{Gives, IsTaken, AreTaken}

-- two assignments with one row at m, the same before it
pub rows_up_to : (S T : Assignment) (m : ℕ) (row : Row) → SameBefore S T m → SameUpTo (with_row S m row) (with_row T m row) m
rows_up_to S T m row same x k le = by_moment (eqb_tells k m)
  where
    by_moment : ((k == m ≡ true) × (k ≡ m)) ⊎ ((k == m ≡ false) × (k ≡ m → ⊥)) → with_row S m row x k ≡ with_row T m row x k
    by_moment (inl (e, at)) = rw e refl
    by_moment (inr (e, other)) = rw e (same x k (omega (arith, le, other)))

back : {A B : Assignment} {m : ℕ} → SameUpTo A B m → SameUpTo B A m
back same x k le = sym (same x k le)

values_up_to : (A B : Assignment) (m x : ℕ) (v : Value) → SameUpTo A B m → SameUpTo (with_value A m x v) (with_value B m x v) m
values_up_to A B m x v same y k le = ap (λ o. if k == m && y == x then Some v else o) (same y k le)

module _ (s : Setting) (A B : Assignment) (m : ℕ) (same : SameUpTo A B m) where
  known_moved_of : (clock : Option Clock) → IsKnownOf s A m clock → IsKnownOf s B m clock
  known_moved_of None known = tt
  known_moved_of (Some (Periodic p a)) known = tt
  known_moved_of (Some (Event site f g)) known = (known.0, sym (site_same s A B site m m same (omega arith)) ∙ known.1)

  known_moved : (class : Option ℕ) → IsKnown s A m class → IsKnown s B m class
  known_moved class = known_moved_of (clock_of s class)

  ticks_moved : (class : Option ℕ) → class_ticks s A class m ≡ class_ticks s B class m
  ticks_moved class = class_ticks_same s A B class m m same (omega arith)

  some_moved : (y : ℕ) → IsSome (A y m) → IsSome (B y m)
  some_moved y some = subst IsSome (same y m (omega arith)) some

  last_moved : (y : ℕ) → HasLastValue s A m y → HasLastValue s B m y
  last_moved y (inl (known, rests)) = inl (known_moved (class_of_name s y) known, sym (ticks_moved (class_of_name s y)) ∙ rests)
  last_moved y (inr some) = inr (some_moved y some)

  read_moved : (i : ℕ) (e : Expr) (y : ℕ) → HasReadIn s A m i e y → HasReadIn s B m i e y
  read_moved i e y has = record {
    bare = λ some. some_moved y (has.bare some);
    held = λ some. last_moved y (has.held some);
    converted = λ some meet. last_moved y (has.converted some meet);
  }

  reads_moved : (i x : ℕ) (equation : Equation) → HasReadsBut s A m i x equation → HasReadsBut s B m i x equation
  reads_moved i x (Valued left right clause) has = λ y other. (read_moved i left y (has y other).0, read_moved i right y (has y other).1)
  reads_moved i x (Clocks left right clause) has = has

  pub can_moved : (entry : Use) (equation : Equation) (name : FlatName) → CanUse s A m entry equation name → CanUse s B m entry equation name
  can_moved entry equation name can = record {
    equation_is = can.equation_is;
    name_is = can.name_is;
    ticks = (known_moved (class_of_equation s entry.equation) can.ticks.0, sym (ticks_moved (class_of_equation s entry.equation)) ∙ can.ticks.1);
    reads = reads_moved entry.equation entry.name equation can.reads;
  }

  solves_moved : (i : ℕ) (equation : Equation) (x : ℕ) (v : Value) → Solves s A m i equation x v → Solves s B m i equation x v
  solves_moved i equation x v solves =
      subst (λ views. HasOneValue views equation) (views_same s (with_value A m x v) (with_value B m x v) (class_of_equation s i) m (values_up_to A B m x v same)) solves

  solves_back : (i : ℕ) (equation : Equation) (x : ℕ) (v : Value) → Solves s B m i equation x v → Solves s A m i equation x v
  solves_back i equation x v solves =
      subst (λ views. HasOneValue views equation) (sym (views_same s (with_value A m x v) (with_value B m x v) (class_of_equation s i) m (values_up_to A B m x v same))) solves

  pub only_moved : (i : ℕ) (equation : Equation) (name : FlatName) (x : ℕ) (v : Value) → IsOnlySolution s A m i equation name x v → IsOnlySolution s B m i equation name x v
  only_moved i equation name x v only = record {
    typed = only.typed;
    solves = solves_moved i equation x v only.solves;
    only = λ w typed solves. only.only w typed (solves_back i equation x w solves);
  }

  site_moved : (site : ℕ) (kind : Fail) → SiteFails s A m site kind → SiteFails s B m site kind
  site_moved site kind fails = record {
    condition = fails.condition;
    found = fails.found;
    reads = λ y some. some_moved y (fails.reads y some);
    fails = sym (site_same s A B site m m same (omega arith)) ∙ fails.fails;
  }

  equation_moved : (uses : List Use) (i : ℕ) (kind : Fail) → EquationFails s A uses m i kind → EquationFails s B uses m i kind
  equation_moved uses i kind fails = record {
    entry = fails.entry;
    used = fails.used;
    equation_is = fails.equation_is;
    equation = fails.equation;
    name = fails.name;
    counts = can_moved fails.entry fails.equation fails.name fails.counts;
    unsolved = λ v typed solves. fails.unsolved v typed (solves_back i fails.equation fails.entry.name v solves);
    kind_is = fails.kind_is ∙ ap (λ views. kind_of (seen_by views (parts_beside fails.entry.name fails.equation))) (views_same s A B (class_of_equation s i) m same);
  }

  pub fails_moved : (uses : List Use) → SomethingFails s A uses m → SomethingFails s B uses m
  fails_moved uses (inl (site, kind, fails)) = inl (site, kind, site_moved site kind fails)
  fails_moved uses (inr (i, kind, fails)) = inr (i, kind, equation_moved uses i kind fails)

pub first_moved : (s : Setting) (A B : Assignment) (m : ℕ) → SameUpTo A B m → (uses : List Use) (at : FaultPlace) (kind : Fail) → IsFirstToFail s A uses m at kind → IsFirstToFail s B uses m at kind
first_moved s A B m same uses (place.Site site) kind (fails, least) = (site_moved s A B m same site kind fails, λ j k lt f. least j k lt (site_moved s B A m (back same) j k f))
first_moved s A B m same uses (place.Equation i) kind (fails, sites, least) = (
  equation_moved s A B m same uses i kind fails,
  λ j k f. sites j k (site_moved s B A m (back same) j k f),
  λ j k lt f. least j k lt (equation_moved s B A m (back same) uses j k f),
)

module _ (s : Setting) (S T : Assignment) (m : ℕ) (same : SameBefore S T m) where
  same_back : SameBefore T S m
  same_back x k lt = sym (same x k lt)

  closed_moved : (uses : List Use) (row : Row) → IsClosed s T uses m row → IsClosed s S uses m row
  closed_moved uses row closed = record {
    inputs = closed.inputs;
    solved = λ entry equation name v used can only.
        let up = rows_up_to S T m row same in
        closed.solved entry equation name v used (can_moved s (with_row S m row) (with_row T m row) m up entry equation name can)
        (only_moved s (with_row S m row) (with_row T m row) m up entry.equation equation name entry.name v only);
  }

  closed_forth : (uses : List Use) (row : Row) → IsClosed s S uses m row → IsClosed s T uses m row
  closed_forth uses row closed = record {
    inputs = closed.inputs;
    solved = λ entry equation name v used can only.
        let up = rows_up_to T S m row same_back in
        closed.solved entry equation name v used (can_moved s (with_row T m row) (with_row S m row) m up entry equation name can)
        (only_moved s (with_row T m row) (with_row S m row) m up entry.equation equation name entry.name v only);
  }

  -- the given values rest on what comes before
  pub given_moved : (uses : List Use) (row : Row) → IsGiven s S uses m row → IsGiven s T uses m row
  given_moved uses row given = record {
    closed = closed_forth uses row given.closed;
    least = λ other closed x v e. given.least other (closed_moved uses other closed) x v e;
  }

  gives_moved : (row : Row) (entry : Use) (v : Value) → Gives s S m row entry v → Gives s T m row entry v
  gives_moved row entry v gives = let up = rows_up_to S T m row same in record {
    equation = gives.equation;
    name = gives.name;
    can = can_moved s (with_row S m row) (with_row T m row) m up entry gives.equation gives.name gives.can;
    only = only_moved s (with_row S m row) (with_row T m row) m up entry.equation gives.equation gives.name entry.name v gives.only;
  }

  gives_back : (row : Row) (entry : Use) (v : Value) → Gives s T m row entry v → Gives s S m row entry v
  gives_back row entry v gives = let up = rows_up_to T S m row same_back in record {
    equation = gives.equation;
    name = gives.name;
    can = can_moved s (with_row T m row) (with_row S m row) m up entry gives.equation gives.name gives.can;
    only = only_moved s (with_row T m row) (with_row S m row) m up entry.equation gives.equation gives.name entry.name v gives.only;
  }

  step_moved : (entry : Use) (row next : Row) → IsTaken s S m entry row next → IsTaken s T m entry row next
  step_moved entry row next (inl (v, gives, is)) = inl (v, gives_moved row entry v gives, is)
  step_moved entry row next (inr (none, is)) = inr (λ v gives. none v (gives_back row entry v gives), is)

  -- and so do the values that uses give
  pub taken_moved : (uses : List Use) (row last : Row) → AreTaken s S m uses row last → AreTaken s T m uses row last
  taken_moved [] row last taken = taken
  taken_moved (entry ∷ uses) row last (next, step, rest) = (next, step_moved entry row next step, taken_moved uses next last rest)
