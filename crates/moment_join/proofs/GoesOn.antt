-- A run goes on where nothing fails; and sites answer over what the pure uses left as over the last row.
use Rattle.std.proofs.Common.{◌≡◌, refl, ap, ◌∙◌, sym, subst, ℕ, suc, ◌<◌, ◌≤◌, List, [], ◌∷◌, ◌++◌, Contains, Some, None, IsSome, slice_get, ◌⊎◌, inl, inr, arith}
use Rattle.std.proofs.lemmas.Bool.{false≢true}
use Rattle.std.proofs.lemmas.Option.{same_Some}
use Rattle.sync_values.specs.declared.value.Value.{Value}
use Rattle.sync_values.specs.declared.value.Fail.{Fail}
use Rattle.flat_model.specs.declared.clock.Moment.{Moment}
use Rattle.flat_model.specs.declared.equation.Equation.{Equation}
use Rattle.flat_model.specs.declared.expression.Expr.{Expr}
use Rattle.flat_model.specs.declared.model.FlatName.{FlatName}
use Rattle.flat_model.specs.Operators.{Answer, Is, Fails, Absent}
use Rattle.flat_model.specs.Assignment.{Assignment, IsOfKind}
use Rattle.flat_model.specs.Faults.{SiteFails, EquationFails}
use Rattle.flat_model.specs.Given.{Row, with_row, CanUse, Solves, IsOnlySolution}
use Rattle.flat_model.specs.Meaning.{seen_by}
use Rattle.flat_model.specs.Moments.{moment_at}
use Rattle.flat_model.specs.Occurrences.{bare_count}
use Rattle.flat_model.specs.Ways.{parts_beside, kind_of}
use Rattle.flat_model.specs.Setting.{Setting, class_of_equation, views_at, site_answer}
use Rattle.flat_model.specs.Uses.{Use}
use Rattle.flat_model.proofs.Above.{Above, IsBelow}
use Rattle.flat_model.proofs.Sites.{site_up}
use Rattle.moment_theory.specs.Division.{joined}
use Rattle.moment_theory.specs.Free.{IsOrdered}
use Rattle.moment_theory.specs.Going.{HasRun, IsOnlyBefore, SitesHold, AllSolved}
use Rattle.moment_theory.specs.Taken.{Gives, IsTaken, AreInputs, AreTaken}
use Rattle.moment_theory.proofs.Answered.{moment_within}
use Rattle.moment_theory.proofs.Beside.{reached_first, reached_second}
use Rattle.moment_theory.proofs.GivenByOrder.{inputs_clear, not_input}
use Rattle.moment_theory.proofs.Members.{IsMember, contains_member}
use Rattle.moment_theory.proofs.Pieces.{reached_twice}
use Rattle.moment_theory.proofs.Rows.{row_now, below_same}
use Rattle.moment_theory.proofs.Running.{IsReady}
use Rattle.moment_theory.proofs.SameUse.{sound_inputs}
use Rattle.moment_theory.proofs.Settled.{model, once, next_only, met_has_run}
use Rattle.moment_theory.proofs.Taking.{unchanged}
use Rattle.first_failure.specs.Turns.{IsLeast}
use Rattle.first_failure.proofs.Turning.{turn_of, alike_at_turn}
use Rattle.moment_join.specs.Sites.{ReachSites, AnswerAlike}
use Rattle.moment_join.specs.Staged.{AreStagesOf, IsStaged}
use Rattle.moment_join.proofs.Alike.{bare_end}
use Rattle.moment_join.proofs.Joined.{behind_pure}

module _ (s : Setting) (uses order : List Use) (is : IsOrdered s uses order) (S : Assignment) (m : ℕ) (inputs last : Row) (are : AreInputs s m inputs) (taken : AreTaken s S m order inputs last) where
  settled : IsReady s order
  settled = model s uses order is

  -- where no equation fails, each use that counts gives a value
  pub all_solved : IsLeast (EquationFails s (with_row S m last) uses m) None → AllSolved s (with_row S m last) uses m
  all_solved none entry equation name used can =
      let member : IsMember entry order = contains_member entry order (is.same.all entry used) in
      let (turn, at) = turn_of s S m order inputs last entry member taken in
      let alike = alike_at_turn s uses [] order [] (subst (IsOrdered s uses) (sym (bare_end order)) is) S m inputs last (sound_inputs s uses is.runs is.uses_are.uses_are S m inputs are)
      (inputs_clear s settled.unclocked settled.inputs S m order settled.order inputs are) taken entry turn at in
      by_step member at.behind.0 at.behind.1 alike.0.gives alike.1.gives
    where
      by_step : IsMember entry order → {turn : Row} (next : Row) → IsTaken s S m entry turn next → ((v : Value) → Gives s S m turn entry v → Gives s S m last entry v) → ((v : Value) → Gives s S m last entry v → Gives s S m turn entry v)
          → (v : Value) × IsOnlySolution s (with_row S m last) m entry.equation equation name entry.name v
      by_step member next (inl (v, gives, e)) forth back =
          let g = forth v gives in (
            v,
            subst (λ n. IsOnlySolution s (with_row S m last) m entry.equation equation n entry.name v) (same_Some g.name name (sym g.can.name_is ∙ can.name_is))
                (subst (λ q. IsOnlySolution s (with_row S m last) m entry.equation q g.name entry.name v) (same_Some g.equation equation (sym g.can.equation_is ∙ can.equation_is)) g.only),
          )
      by_step member next (inr (never, e)) forth back =
          absurd (none entry.equation (kind_of (seen_by (views_at s (with_row S m last) (class_of_equation s entry.equation) m) (parts_beside entry.name equation))) (record {
            entry = entry;
            used = used;
            equation_is = refl;
            equation = equation;
            name = name;
            counts = can;
            unsolved = λ v typed solves. never v (back v (record {
              equation = equation;
              name = name;
              can = can;
              only = record {
                typed = typed;
                solves = solves;
                only = λ w typed_w solves_w. once s uses order is entry member (with_row S m last) m can.ticks.1 equation name can.equation_is can.name_is v w typed typed_w solves solves_w;
              };
            }));
            kind_is = refl;
          }))

  pub goes_on : HasRun s uses S m → (at : Moment) → moment_at s.instants m ≡ Some at → SitesHold s (with_row S m last) m → IsLeast (EquationFails s (with_row S m last) uses m) None → HasRun s uses (with_row S m last) (suc m)
  goes_on known at here sites none =
      let before : IsOnlyBefore s S m = record { meets = known.meets; only = known.only m (omega arith) } in
      let now = next_only s uses order is S m inputs last are taken before at here sites (all_solved none) in
      let within = moment_within s.instants m at here in
      met_has_run s uses order is (with_row S m last) (suc m) (omega (arith, within)) now.meets

above_both : (a b : Answer) → Above a b → Above b a → a ≡ b
above_both (Is v) b h k = sym h
above_both (Fails kind) b h k = sym h
above_both Absent (Is v) h k = k
above_both Absent (Fails kind) h k = k
above_both Absent Absent h k = refl

module _ (s : Setting) (uses pure : List Use) (pieces : List (List Use)) (waiting : List Use) (is : AreStagesOf s uses pure pieces waiting) (reach : ReachSites s pure) (S : Assignment) (m : ℕ)
    (inputs base : Row) (owns : ℕ → Row) (row last : Row) (staged : IsStaged s S m pure pieces waiting inputs base owns row last) where
  abbrev whole : List Use
  whole = pure ++ (joined pieces ++ waiting)

  ready : IsReady s whole
  ready = model s uses whole is.ordered

  -- what a condition reads has its value of the last row
  read_same : (site y : ℕ) (condition : Expr) → slice_get s.clocking.sites site ≡ Some condition → 0 < bare_count y condition → base y ≡ last y
  read_same site y condition found some =
      sym (unchanged s ready.unclocked S m (joined pieces ++ waiting) base last (behind_pure s uses pure pieces waiting is S m inputs base owns row last staged) y
      (λ later. elim (reach site y condition found some) [
        | inl reached ↦ reached_twice s pure (joined pieces ++ waiting) is.ordered.free y reached later
        | inr input ↦ let (name, at, own) = input in
            false≢true (sym (not_input s whole ready.order y (reached_second pure (joined pieces ++ waiting) y later) name at) ∙ own)
      ]))

  row_same : (site y : ℕ) (condition : Expr) → slice_get s.clocking.sites site ≡ Some condition → 0 < bare_count y condition → with_row S m base y m ≡ with_row S m last y m
  row_same site y condition found some = row_now S m base y ∙ read_same site y condition found some ∙ sym (row_now S m last y)

  pub answer_same : (site : ℕ) → site_answer s (with_row S m base) site m ≡ site_answer s (with_row S m last) site m
  answer_same site = above_both _ _
      (site_up s (with_row S m base) (with_row S m last) site m ready.unclocked (λ condition y found some. below_same _ _ (row_same site y condition found some)))
      (site_up s (with_row S m last) (with_row S m base) site m ready.unclocked (λ condition y found some. below_same _ _ (sym (row_same site y condition found some))))

  pub sites_alike : AnswerAlike s S m base last
  sites_alike = record {
    answers = answer_same;
    fails = λ site kind f. record {
      condition = f.condition;
      found = f.found;
      reads = λ y some. subst IsSome (row_same site y f.condition f.found some) (f.reads y some);
      fails = sym (answer_same site) ∙ f.fails;
    };
    back = λ site kind f. record {
      condition = f.condition;
      found = f.found;
      reads = λ y some. subst IsSome (sym (row_same site y f.condition f.found some)) (f.reads y some);
      fails = answer_same site ∙ f.fails;
    };
  }
