-- Where an assignment meets a model at a moment, its row is what the uses give: so it is alone, and nothing failed.
use Rattle.std.proofs.Common.{◌≡◌, refl, ap, ◌∙◌, sym, subst, ℕ, suc, ◌+◌, ◌<◌, ◌==◌, if◌then◌else◌, Bool, true, false, List, [], ◌∷◌, Option, Some, None, IsSome, slice_get, ◌⊎◌, inl, inr, arith}
use Rattle.std.proofs.Math.Path.{fun_ext}
use Rattle.std.proofs.lemmas.Bool.{false≢true, true≢false}
use Rattle.std.proofs.lemmas.Bool.Decides.{eqb_tells}
use Rattle.std.proofs.lemmas.Option.{same_Some}
use Rattle.sync_values.specs.declared.value.Value.{Value}
use Rattle.flat_model.specs.declared.clock.Moment.{Moment}
use Rattle.flat_model.specs.declared.equation.Equation.{Equation}
use Rattle.flat_model.specs.declared.equation.Equation.TheVariants.{Valued}
use Rattle.flat_model.specs.declared.expression.Expr.{Expr}
use Rattle.flat_model.specs.declared.model.FlatName.{FlatName}
use Rattle.flat_model.specs.declared.model.NameKind.{NameKind}
use Rattle.flat_model.specs.declared.model.NameKind.TheVariants as kind
use Rattle.flat_model.specs.Moments.{moment_at}
use Rattle.flat_model.specs.Assignment.{Assignment, IsOfKind}
use Rattle.flat_model.specs.Setting.{Setting, class_of_name, class_of_equation, clock_of, class_ticks, name_ticks}
use Rattle.flat_model.specs.Meets.{MeetsAt, MeetsBefore, HasValueAtTicks, HasOneValue}
use Rattle.flat_model.specs.Uses.{Use, AreUses}
use Rattle.flat_model.specs.Given.{Row, with_row, with_value, IsKnown, HasLastValue, HasReadIn, Solves, CanUse, IsOnlySolution}
use Rattle.flat_model.proofs.Agreement.{views_same, meets_same}
use Rattle.flat_model.proofs.OneSolution.{AreSitesUnclocked}
use Rattle.moment_theory.specs.Going.{AgreeBefore}
use Rattle.moment_theory.specs.Going.{HasRun}
use Rattle.moment_theory.specs.Free.{IsReachedBy}
use Rattle.moment_theory.proofs.Ordered.{IsFreeUse, AreFreeUses}
use Rattle.moment_theory.specs.Taken.{put, Gives, IsTaken, AreTaken, AreInputs}
use Rattle.moment_theory.proofs.Transfer.{IsSound, Needs, needs_earlier}
use Rattle.moment_theory.proofs.Taking.{IsClear, over, step_clear, step_sound}
use Rattle.moment_theory.proofs.Members.{IsMember, reached_member}
use Rattle.moment_theory.proofs.GivenByOrder.{AreInputsUnclocked, AreSameMembers, inputs_clear, inputs_sound}
use Rattle.moment_theory.proofs.Meeting.{IsValued, IsSideClassed, AreClassed, AreWhole, HasTableValues, known_of, with_own_value}
use Rattle.moment_theory.proofs.NoSolution.{value_at, free_of}
use Rattle.moment_theory.proofs.Apart.{gives_same}
use Rattle.moment_theory.proofs.Running.{IsReady}
use Rattle.moment_theory.proofs.Ran.{with_own_row, RanAt, run_all}

-- no use has two solutions at a moment at which it counts
abbrev pub AreSolvedOnce : Setting → List Use → Type 0
AreSolvedOnce s uses = (entry : Use) → IsMember entry uses → (T : Assignment) (m : ℕ) → class_ticks s T (class_of_equation s entry.equation) m ≡ true → (equation : Equation) (name : FlatName) → slice_get s.model.equations entry.equation ≡ Some equation → slice_get s.model.names entry.name ≡ Some name
    → (v w : Value) → IsOfKind name.kind v → IsOfKind name.kind w → Solves s T m entry.equation equation entry.name v → Solves s T m entry.equation equation entry.name w → w ≡ v

none_where : (k : NameKind) (b : Bool) (o : Option Value) → HasValueAtTicks k b o → b ≡ false → o ≡ None
none_where kind.Clock b o h e = h
none_where kind.Integer false o h e = h
none_where kind.Boolean false o h e = h
none_where kind.Integer true o h e = absurd (true≢false e)
none_where kind.Boolean true o h e = absurd (true≢false e)

no_clock : (b : Bool) (o : Option Value) → HasValueAtTicks kind.Clock b o → o ≡ None
no_clock b o h = h

abbrev input_in : Option FlatName → Bool
input_in None = false
input_in (Some name) = name.input

module _ (s : Setting) (unclocked : AreSitesUnclocked s) (inputs : AreInputsUnclocked s) (classed : AreClassed s) (uses : List Use) (order : AreFreeUses s uses) (whole : AreWhole s uses) (once : AreSolvedOnce s uses)
    (T : Assignment) (m : ℕ) (at : Moment) (here : moment_at s.instants m ≡ Some at) (there : MeetsAt s T m) where
  abbrev pub own : Row
  own x = T x m

  known : (class : Option ℕ) → IsKnown s T m class
  known class = known_of s T m (clock_of s class) (λ site f g e. let found = classed.sites class site f g e in there.sites site found.0 found.1)

  none_at_rest : (z : ℕ) → name_ticks s T z m ≡ false → T z m ≡ None
  none_at_rest z rests = by_name (slice_get s.model.names z) refl
    where
      by_name : (o : Option FlatName) → slice_get s.model.names z ≡ o → T z m ≡ None
      by_name None e = there.others z e
      by_name (Some name) e = none_where name.kind (name_ticks s T z m) (T z m) (there.names z name e) rests

  sound : IsSound s T m
  sound z some = (known (class_of_name s z), by_tick (name_ticks s T z m) refl)
    where
      by_tick : (b : Bool) → name_ticks s T z m ≡ b → class_ticks s T (class_of_name s z) m ≡ true
      by_tick true e = e
      by_tick false e = absurd (false≢true (subst IsSome (none_at_rest z e) some))

  value : (y : ℕ) (valued : IsValued s y) → name_ticks s T y m ≡ true → (v : Value) × (T y m ≡ Some v) × IsOfKind valued.name.kind v
  value y valued ticks = value_at valued.name.kind (name_ticks s T y m) (T y m) valued.valued ticks (there.names y valued.name valued.found)

  some_value : (y : ℕ) → IsValued s y → name_ticks s T y m ≡ true → IsSome (T y m)
  some_value y valued ticks = subst IsSome (sym (value y valued ticks).1) refl

  last_value : (y : ℕ) → IsValued s y → HasLastValue s T m y
  last_value y valued = by_tick (name_ticks s T y m) refl
    where
      by_tick : (b : Bool) → name_ticks s T y m ≡ b → HasLastValue s T m y
      by_tick true e = inr (some_value y valued e)
      by_tick false e = inl (known (class_of_name s y), e)

  has_read : (i : ℕ) (e : Expr) → IsSideClassed s i e → class_ticks s T (class_of_equation s i) m ≡ true → (y : ℕ) → HasReadIn s T m i e y
  has_read i e side ticks y = record {
    bare = λ some. let b = side.bare y some in some_value y b.0 (ap (λ c. class_ticks s T c m) b.1 ∙ ticks);
    held = λ some. last_value y (side.last y (inl some));
    converted = λ some meet. last_value y (side.last y (inr some));
  }

  can_here : (entry : Use) (later : List Use) (free : IsFreeUse s entry later) → class_ticks s T (class_of_equation s entry.equation) m ≡ true → CanUse s T m entry (Valued free.left free.right free.clause) free.name
  can_here entry later free ticks =
      let sides = classed.sides entry.equation free.left free.right free.clause free.equation_is in record {
        equation_is = free.equation_is;
        name_is = free.name_is;
        ticks = (known (class_of_equation s entry.equation), ticks);
        reads = λ y other. (has_read entry.equation free.left sides.0 ticks y, has_read entry.equation free.right sides.1 ticks y);
      }

  only_here : (entry : Use) (later : List Use) (free : IsFreeUse s entry later) → IsMember entry uses → class_ticks s T (class_of_equation s entry.equation) m ≡ true → (v : Value) → T entry.name m ≡ Some v → IsOfKind free.name.kind v
      → IsOnlySolution s T m entry.equation (Valued free.left free.right free.clause) free.name entry.name v
  only_here entry later free member ticks v is typed =
      let one = there.equations entry.equation (Valued free.left free.right free.clause) free.equation_is ticks in
      let solves : Solves s T m entry.equation (Valued free.left free.right free.clause) entry.name v =
      subst (λ z. HasOneValue z (Valued free.left free.right free.clause)) (sym (views_same s (with_value T m entry.name v) T (class_of_equation s entry.equation) m (with_own_value T m entry.name v is))) one in record {
        typed = typed;
        solves = solves;
        only = λ w of other. once entry member T m ticks (Valued free.left free.right free.clause) free.name free.equation_is free.name_is v w typed of solves other;
      }

  own_is : with_row T m own ≡ T
  own_is = with_own_row T m

  gives_here : (entry : Use) (later : List Use) (free : IsFreeUse s entry later) → IsMember entry uses → class_ticks s T (class_of_equation s entry.equation) m ≡ true → (v : Value) → T entry.name m ≡ Some v → IsOfKind free.name.kind v → Gives s T m own entry v
  gives_here entry later free member ticks v is typed = record {
    equation = Valued free.left free.right free.clause;
    name = free.name;
    can = subst (λ A. CanUse s A m entry (Valued free.left free.right free.clause) free.name) (sym own_is) (can_here entry later free ticks);
    only = subst (λ A. IsOnlySolution s A m entry.equation (Valued free.left free.right free.clause) free.name entry.name v) (sym own_is) (only_here entry later free member ticks v is typed);
  }

  abbrev then_row : Row → ℕ → Row
  then_row row x y = if y == x then T y m else row y

  -- one use over a row that has T's values of what is not still to be reached
  step_here : (entry : Use) (later : List Use) (free : IsFreeUse s entry later) → IsMember entry uses → (row : Row) → IsClear (entry ∷ later) row → IsSound s (over s unclocked T m row) m
      → ((y : ℕ) → (IsReachedBy y (entry ∷ later) → ⊥) → row y ≡ T y m) → IsTaken s T m entry row (then_row row entry.name)
  step_here entry later free member row clear sound_row same = by_tick (class_ticks s T (class_of_equation s entry.equation) m) refl
    where
      needed : (y : ℕ) → Needs s entry later free y → row y ≡ T y m
      needed y needs = same y (λ h. elim h [
        | inl is ↦ needs_earlier s entry later free y needs (inl is)
        | inr reached ↦ needs_earlier s entry later free y needs (inr reached)
      ])

      by_tick : (b : Bool) → class_ticks s T (class_of_equation s entry.equation) m ≡ b → IsTaken s T m entry row (then_row row entry.name)
      by_tick true ticks =
          let valued = whole.valued entry.name (reached_member uses entry member) in
          let (v, is, typed) = value entry.name valued (ap (λ c. class_ticks s T c m) free.class_is ∙ ticks) in
          let typed_as : IsOfKind free.name.kind v = subst (λ n. IsOfKind n.kind v) (same_Some valued.name free.name (sym valued.found ∙ free.name_is)) typed in
          inl (
            v,
            gives_same s unclocked T m (Needs s entry later free) own row entry later free (λ y n. n) (λ y n. sym (needed y n)) (subst (λ A. IsSound s A m) (sym own_is) sound) v (gives_here entry later free member ticks v is typed_as),
            λ y. cell y v is (eqb_tells y entry.name),
          )
        where
          cell : (y : ℕ) (v : Value) → T entry.name m ≡ Some v → ((y == entry.name ≡ true) × (y ≡ entry.name)) ⊎ ((y == entry.name ≡ false) × (y ≡ entry.name → ⊥)) → then_row row entry.name y ≡ put row entry.name v y
          cell y v is (inl (e, same)) = rw e (ap (λ z. T z m) same ∙ is)
          cell y v is (inr (e, other)) = rw e refl
      by_tick false rests = inr (
        (λ v gives.
            let back = gives_same s unclocked T m (Needs s entry later free) row own entry later free (λ y n. n) needed sound_row v gives in
            absurd (false≢true (sym rests ∙ subst (λ A. class_ticks s A (class_of_equation s entry.equation) m ≡ true) own_is back.can.ticks.1))),
        λ y. cell y (eqb_tells y entry.name),
      )
        where
          cell : (y : ℕ) → ((y == entry.name ≡ true) × (y ≡ entry.name)) ⊎ ((y == entry.name ≡ false) × (y ≡ entry.name → ⊥)) → then_row row entry.name y ≡ row y
          cell y (inl (e, is)) = rw e (ap (λ z. T z m) is ∙ none_at_rest entry.name (ap (λ c. class_ticks s T c m) free.class_is ∙ rests) ∙ sym (clear entry.name (inl refl)) ∙ ap row (sym is))
          cell y (inr (e, other)) = rw e refl

  walk : (rest : List Use) → AreFreeUses s rest → ((entry : Use) → IsMember entry rest → IsMember entry uses) → (row : Row) → IsClear rest row → IsSound s (over s unclocked T m row) m
      → ((y : ℕ) → (IsReachedBy y rest → ⊥) → row y ≡ T y m) → AreTaken s T m rest row own
  walk [] free members row clear sound_row same = λ y. sym (same y (λ r. r))
  walk (entry ∷ later) free members row clear sound_row same =
      let step = step_here entry later free.0 (members entry (inl refl)) row clear sound_row same in (
        then_row row entry.name,
        step,
        walk later free.1 (λ e h. members e (inr h)) (then_row row entry.name) (step_clear s unclocked T m entry later row (then_row row entry.name) free.0 clear step)
            (step_sound s unclocked T m entry later row (then_row row entry.name) free.0 (clear entry.name (inl refl)) step sound_row) (λ y not. next y not (eqb_tells y entry.name)),
      )
    where
      next : (y : ℕ) → (IsReachedBy y later → ⊥) → ((y == entry.name ≡ true) × (y ≡ entry.name)) ⊎ ((y == entry.name ≡ false) × (y ≡ entry.name → ⊥)) → then_row row entry.name y ≡ T y m
      next y not (inl (e, is)) = rw e refl
      next y not (inr (e, other)) = rw e (same y (λ h. elim h [
        | inl is ↦ other is
        | inr reached ↦ not reached
      ]))

  -- the values of the inputs
  abbrev pub input_row : Row
  input_row x = if input_in (slice_get s.model.names x) then T x m else None

  inputs_are : AreInputs s m input_row
  inputs_are = record {
    inputs = λ x name time found input h. ap (λ b. if b then T x m else None) (ap input_in found ∙ input) ∙ there.inputs x name time found input h;
    only = λ x v e. by_name x v (slice_get s.model.names x) refl e;
  }
    where
      by_flag : (x : ℕ) (v : Value) (name : FlatName) (b : Bool) → slice_get s.model.names x ≡ Some name → name.input ≡ b → (if b then T x m else None) ≡ Some v
          → (other : FlatName) × (time : Moment) × (slice_get s.model.names x ≡ Some other) × (other.input ≡ true) × (moment_at s.instants m ≡ Some time)
      by_flag x v name true found input e = (name, at, found, input, here)
      by_flag x v name false found input e = absurd cc

      by_name : (x : ℕ) (v : Value) (o : Option FlatName) → slice_get s.model.names x ≡ o → (if input_in (slice_get s.model.names x) then T x m else None) ≡ Some v
          → (other : FlatName) × (time : Moment) × (slice_get s.model.names x ≡ Some other) × (other.input ≡ true) × (moment_at s.instants m ≡ Some time)
      by_name x v None found e = let none : (if input_in None then T x m else None) ≡ Some v = subst (λ o. (if input_in o then T x m else None) ≡ Some v) found e in absurd cc
      by_name x v (Some name) found e = by_flag x v name name.input found refl (subst (λ o. (if input_in o then T x m else None) ≡ Some v) found e)

  at_first : (y : ℕ) → (IsReachedBy y uses → ⊥) → input_row y ≡ T y m
  at_first y not = by_name (slice_get s.model.names y) refl
    where
      by_kind : (name : FlatName) (k : NameKind) → name.kind ≡ k → slice_get s.model.names y ≡ Some name → name.input ≡ false → T y m ≡ None
      by_kind name kind.Clock e found input = no_clock (name_ticks s T y m) (T y m) (subst (λ k. HasValueAtTicks k (name_ticks s T y m) (T y m)) e (there.names y name found))
      by_kind name kind.Integer e found input = absurd (not (whole.names y name found (λ clock. int_clock (sym e ∙ clock)) input))
        where
          int_clock : kind.Integer ≡ kind.Clock → ⊥
          int_clock h = cc
      by_kind name kind.Boolean e found input = absurd (not (whole.names y name found (λ clock. bool_clock (sym e ∙ clock)) input))
        where
          bool_clock : kind.Boolean ≡ kind.Clock → ⊥
          bool_clock h = cc

      by_flag : (name : FlatName) (b : Bool) → slice_get s.model.names y ≡ Some name → name.input ≡ b → (if b then T y m else None) ≡ T y m
      by_flag name true found input = refl
      by_flag name false found input = sym (by_kind name name.kind refl found input)

      by_name : (o : Option FlatName) → slice_get s.model.names y ≡ o → (if input_in (slice_get s.model.names y) then T y m else None) ≡ T y m
      by_name None found = rw found (sym (there.others y found))
      by_name (Some name) found = rw found (by_flag name name.input found refl)

  -- the uses, taken from the inputs, give T's row
  pub met_taken : AreInputs s m input_row × AreTaken s T m uses input_row own
  met_taken = (
    inputs_are,
    walk uses order (λ e h. h) input_row (inputs_clear s unclocked inputs T m uses order input_row inputs_are) (inputs_sound s unclocked inputs T m uses order input_row inputs_are) at_first,
  )

  -- and each use that counts gives T's value
  pub met_solved : (entry : Use) (equation : Equation) (name : FlatName) → IsMember entry uses → CanUse s T m entry equation name → (v : Value) × IsOnlySolution s T m entry.equation equation name entry.name v
  met_solved entry equation name member can =
      let (later, free) = free_of s uses order entry member in
      let valued = whole.valued entry.name (reached_member uses entry member) in
      let (v, is, typed) = value entry.name valued (ap (λ c. class_ticks s T c m) free.class_is ∙ can.ticks.1) in
      let typed_as : IsOfKind free.name.kind v = subst (λ n. IsOfKind n.kind v) (same_Some valued.name free.name (sym valued.found ∙ free.name_is)) typed in
      let equation_same : Valued free.left free.right free.clause ≡ equation = same_Some (Valued free.left free.right free.clause) equation (sym free.equation_is ∙ can.equation_is) in
      let name_same : free.name ≡ name = same_Some free.name name (sym free.name_is ∙ can.name_is) in (
        v,
        subst (λ n. IsOnlySolution s T m entry.equation equation n entry.name v) name_same
            (subst (λ q. IsOnlySolution s T m entry.equation q free.name entry.name v) equation_same (only_here entry later free member can.ticks.1 v is typed_as)),
      )

-- what meets a runnable model before n is alone in that, and nothing failed
module _ (s : Setting) (all uses : List Use) (model : IsReady s uses) (are_uses : AreUses s all) (same : AreSameMembers all uses) (once : AreSolvedOnce s uses)
    (tables : (m : ℕ) (at : Moment) → moment_at s.instants m ≡ Some at → HasTableValues s at) where
  met_ran : (T : Assignment) (m : ℕ) (at : Moment) → moment_at s.instants m ≡ Some at → MeetsAt s T m → RanAt s all uses model are_uses same T m
  met_ran T m at here there = record {
    at = at;
    here = here;
    table = tables m at here;
    row = record {
      base = input_row s model.unclocked model.inputs model.classed uses model.order model.whole once T m at here there;
      are = (met_taken s model.unclocked model.inputs model.classed uses model.order model.whole once T m at here there).0;
      taken = λ U agree. moved U agree;
    };
    sites = there.sites;
    solved = met_solved s model.unclocked model.inputs model.classed uses model.order model.whole once T m at here there;
  }
    where
      moved : (U : Assignment) → AgreeBefore T U (suc m) → AreTaken s U m uses (λ x. if input_in (slice_get s.model.names x) then T x m else None) (λ x. T x m)
      moved U agree =
          let met = meets_same s T U m (λ x j le. agree x j (omega (arith, le))) there in
          let rows : (λ x. U x m) ≡ (λ x. T x m) = fun_ext (λ x. sym (agree x m (omega arith))) in
          let taken = (met_taken s model.unclocked model.inputs model.classed uses model.order model.whole once U m at here met).1 in
          subst (λ (r : Row). AreTaken s U m uses (λ x. if input_in (slice_get s.model.names x) then r x else None) r) rows taken

  pub met_run : (T : Assignment) (n : ℕ) → ((k : ℕ) → k < n → (at : Moment) × (moment_at s.instants k ≡ Some at)) → MeetsBefore s T n → HasRun s all T n
  met_run T n moments meets =
      subst (HasRun s all T) (let e : 0 + n ≡ n = omega arith in e) (run_all s all uses model are_uses same T 0 n at_start
      (λ j lt. subst (RanAt s all uses model are_uses same T) (let e : j ≡ 0 + j = omega arith in e) (met_ran T j (moments j lt).0 (moments j lt).1 (meets j lt))))
    where
      at_start : HasRun s all T 0
      at_start = record {
        meets = λ k lt. absurd (omega (arith, lt));
        only = λ k le U meets x j lt. absurd (omega (arith, le, lt));
        quiet = λ k row U lt. absurd (omega (arith, lt));
      }
