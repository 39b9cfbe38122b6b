-- Where no pure use fails, each has a value; so the conditions of sites have values, or fail.
use Rattle.std.proofs.Common.{◌≡◌, ◌≢◌, refl, ap, ◌∙◌, sym, subst, ℕ, zero, suc, ◌-◌, ◌<◌, Bool, true, false, List, [], ◌∷◌, ◌++◌, Contains, Option, Some, None, IsSome, option_map, slice_get, ◌⊎◌, inl, inr, arith}
use Rattle.std.proofs.lemmas.Bool.{cases_eq, false≢true}
use Rattle.std.proofs.lemmas.Option.{same_Some, none-some}
use Rattle.sync_values.specs.declared.value.Value.{Value}
use Rattle.sync_values.specs.declared.value.Value.TheVariants as value
use Rattle.sync_values.specs.declared.value.Fail.{Fail}
use Rattle.flat_model.specs.declared.clock.Moment.{Moment}
use Rattle.flat_model.specs.declared.equation.Equation.{Equation}
use Rattle.flat_model.specs.declared.equation.Equation.TheVariants.{Valued}
use Rattle.flat_model.specs.declared.expression.Expr.{Expr}
use Rattle.flat_model.specs.declared.model.FlatName.{FlatName}
use Rattle.flat_model.specs.declared.model.NameKind.{NameKind}
use Rattle.flat_model.specs.declared.model.NameKind.TheVariants as kind
use Rattle.flat_model.specs.Asks.{Asking, OfNow, OfLast, OfPrevious, OfFirst, OfInterval, asked}
use Rattle.flat_model.specs.Operators.{Answer, Is, Fails, Absent, read}
use Rattle.flat_model.specs.Assignment.{Assignment, IsOfKind}
use Rattle.flat_model.specs.Faults.{SiteFails, EquationFails}
use Rattle.flat_model.specs.Given.{Row, with_row, HasReadIn, HasReadsBut, CanUse, IsKnown}
use Rattle.flat_model.specs.Meaning.{seen_by, value_of}
use Rattle.flat_model.specs.Moments.{moment_at, table_value}
use Rattle.flat_model.specs.Occurrences.{bare_count}
use Rattle.flat_model.specs.Ways.{parts_beside, kind_of}
use Rattle.flat_model.specs.Runnable.{IsCondition}
use Rattle.flat_model.specs.Setting.{Setting, class_of_equation, class_ticks, views_at, unclocked_views, answer_in, site_answer}
use Rattle.flat_model.specs.Tables.{IsInput}
use Rattle.flat_model.specs.Typing.{types_in, valued_type}
use Rattle.flat_model.specs.Uses.{Use}
use Rattle.flat_model.specs.Views.{Views}
use Rattle.flat_model.proofs.Links.{asked_bare}
use Rattle.flat_model.proofs.Typed.{IsAnswerOf, IsTypedAt, typed_value}
use Rattle.moment_theory.specs.Free.{IsReachedBy, AsksLastIn, AreFree, IsOrdered}
use Rattle.moment_theory.specs.Going.{SitesHold}
use Rattle.moment_theory.specs.Taken.{put, Gives, IsTaken, AreInputs, AreTaken}
use Rattle.moment_theory.proofs.Apart.{append_taken}
use Rattle.moment_theory.proofs.Beside.{reached_either, reached_first, reached_second, regroup}
use Rattle.moment_theory.proofs.Facts.{Facts, UseFacts, facts_of_use, free_use}
use Rattle.moment_theory.proofs.FromRunnable.{all_at, facts_of}
use Rattle.moment_theory.proofs.GivenByOrder.{inputs_clear}
use Rattle.moment_theory.proofs.Meeting.{IsValued, IsSideClassed, HasTableValues, HasTyped}
use Rattle.moment_theory.proofs.Members.{IsMember, contains_member, member_contains}
use Rattle.moment_theory.proofs.Ordered.{IsFreeSide, IsFreeUse}
use Rattle.moment_theory.proofs.Pieces.{free_back}
use Rattle.moment_theory.proofs.Rows.{row_now}
use Rattle.moment_theory.proofs.Running.{IsReady}
use Rattle.moment_theory.proofs.SameUse.{sound_inputs}
use Rattle.moment_theory.proofs.Settled.{model, once, tables}
use Rattle.moment_theory.proofs.Taking.{put_same, step_other}
use Rattle.first_failure.specs.Turns.{IsTurn, FailsAmong, IsLeast}
use Rattle.first_failure.proofs.Turning.{member_back, member_front, both_ways}
use Rattle.moment_join.specs.Sites.{ReachSites}
use Rattle.moment_join.specs.Staged.{IsClockless}
use Rattle.moment_join.proofs.Alike.{bare_end}
use Rattle.moment_join.proofs.Direct.{IsNow, asks_now}

some_typed : (s : Setting) (x : ℕ) (o : Option Value) → IsValued s x → HasTyped s x o → IsSome o
some_typed s x o valued has = let h = has valued.name valued.found in subst IsSome (sym h.1) refl

valued_kind : (k type : NameKind) → valued_type (Some k) ≡ Some type → k ≡ type
valued_kind kind.Integer type e = same_Some kind.Integer type e
valued_kind kind.Boolean type e = same_Some kind.Boolean type e
valued_kind kind.Clock type e = absurd (none-some type e)

-- the name of a type that has values
kind_of_name : (o : Option FlatName) (type : NameKind) → valued_type (option_map (λ name. name.kind) o) ≡ Some type → (name : FlatName) × (o ≡ Some name) × (name.kind ≡ type)
kind_of_name None type e = absurd (none-some type e)
kind_of_name (Some name) type e = (name, refl, valued_kind name.kind type e)

module _ (s : Setting) (uses pure rest : List Use) (is : IsOrdered s uses (pure ++ rest)) (clockless : (entry : Use) → Contains pure entry → IsClockless s entry) (S : Assignment) (m : ℕ) (at : Moment) (here : moment_at s.instants m ≡ Some at)
    (inputs base : Row) (are : AreInputs s m inputs) (taken : AreTaken s S m pure inputs base) (none : IsLeast (FailsAmong s uses S m pure base) None) where
  abbrev order : List Use
  order = pure ++ rest

  ready : IsReady s order
  ready = model s uses order is

  facts : Facts s
  facts = facts_of s is.runs

  table : HasTableValues s at
  table = tables s uses order is m at here

  -- no pure use fails at its turn
  never : (entry : Use) (turn : Row) → IsTurn s S m pure inputs base entry turn → (kind : Fail) → EquationFails s (with_row S m turn) uses m entry.equation kind → ⊥
  never entry turn on kind fails = none entry.equation kind
      ((both_ways s uses [] pure rest is S m inputs base (sound_inputs s uses is.runs is.uses_are.uses_are S m inputs are)
      (λ y reached. inputs_clear s ready.unclocked ready.inputs S m order ready.order inputs are y (reached_first pure rest y reached)) taken entry.equation kind).0 (entry, turn, on, refl, fails))

  -- inputs and what these uses reach have values of their types
  abbrev HasVals : List Use → Row → Type 0
  HasVals us row = (y : ℕ) → IsReachedBy y us ⊎ IsInput s.model.names y → HasTyped s y (row y)

  at_first : HasVals [] inputs
  at_first y (inl reached) = absurd reached
  at_first y (inr (name, found, input)) = λ other found'.
      let v = table y name found input in (v.0, are.inputs y name at found input here ∙ v.1, subst (λ n. IsOfKind n.kind v.0) (same_Some name other (sym found ∙ found')) v.2)

  module _ (done todo : List Use) (entry : Use) (split : pure ≡ done ++ entry ∷ todo) (turn next : Row) (front : AreTaken s S m done inputs turn) (step : IsTaken s S m entry turn next) (back : AreTaken s S m todo next base)
      (has : HasVals done turn) where
    member : IsMember entry pure
    member = subst (IsMember entry) (sym split) (member_back done (entry ∷ todo) entry (inl refl))

    used : Contains uses entry
    used = is.same.only entry (member_contains entry order (member_front pure rest entry member))

    use_is : UseFacts s entry
    use_is = facts_of_use s uses is.uses_are.uses_are entry used

    whole : order ≡ done ++ (entry ∷ (todo ++ rest))
    whole = ap (λ us. us ++ rest) split ∙ regroup done (entry ∷ todo) rest

    free : IsFreeUse s entry (todo ++ rest)
    free = free_use s facts entry use_is (todo ++ rest) (free_back s done (entry ∷ (todo ++ rest)) (subst (AreFree s) whole is.free)).0

    -- a name that has values and is not reached later has one
    value_of_read : (y : ℕ) → y ≢ entry.name → IsValued s y → (IsReachedBy y (todo ++ rest) → ⊥) → IsSome (turn y)
    value_of_read y other valued not_later = by_input valued.name.input refl
      where
        by_order : IsReachedBy y (done ++ (entry ∷ (todo ++ rest))) → IsSome (turn y)
        by_order reached = elim (reached_either done (entry ∷ (todo ++ rest)) y reached) [
          | inl own ↦ some_typed s y (turn y) valued (has y (inl own))
          | inr later ↦ absurd (elim later [
            | inl same ↦ other same
            | inr behind ↦ not_later behind
          ])
        ]

        by_input : (b : Bool) → valued.name.input ≡ b → IsSome (turn y)
        by_input true e = some_typed s y (turn y) valued (has y (inr (valued.name, valued.found, e)))
        by_input false e = by_order (subst (IsReachedBy y) whole (ready.whole.names y valued.name valued.found valued.valued e))

    side_reads : (e : Expr) → IsFreeSide s entry.equation entry.name e (todo ++ rest) → IsSideClassed s entry.equation e → ((z : ℕ) → AsksLastIn e z → ⊥) → (y : ℕ) → y ≢ entry.name → HasReadIn s (with_row S m turn) m entry.equation e y
    side_reads e side of plain y other = record {
      bare = λ some. subst IsSome (sym (row_now S m turn y)) (value_of_read y other (of.bare y some).0 (λ later. side.reads y (inl some) later));
      held = λ some. absurd (plain y (inl some));
      converted = λ some meet. absurd (plain y (inr some));
    }

    clock_free : IsClockless s entry
    clock_free = clockless entry (member_contains entry pure member)

    can : CanUse s (with_row S m turn) m entry (Valued free.left free.right free.clause) free.name
    can = record {
      equation_is = free.equation_is;
      name_is = free.name_is;
      ticks = subst (λ c. IsKnown s (with_row S m turn) m c × (class_ticks s (with_row S m turn) c m ≡ true)) (sym clock_free.unclocked) (tt, refl);
      reads = λ y other. let sides = ready.classed.sides entry.equation free.left free.right free.clause free.equation_is in (
        side_reads free.left free.left_free sides.0 (λ z asks. clock_free.plain (Valued free.left free.right free.clause) z free.equation_is (inl asks)) y other,
        side_reads free.right free.right_free sides.1 (λ z asks. clock_free.plain (Valued free.left free.right free.clause) z free.equation_is (inr asks)) y other,
      );
    }

    on : IsTurn s S m pure inputs base entry turn
    on = record { done = done; rest = todo; entries_are = split; before = front; behind = (next, step, back) }

    own_value : IsTaken s S m entry turn next → HasTyped s entry.name (next entry.name)
    own_value (inl (v, gives, e)) = λ name found. (v, e entry.name ∙ put_same turn entry.name v, subst (λ n. IsOfKind n.kind v) (same_Some gives.name name (sym gives.can.name_is ∙ found)) gives.only.typed)
    own_value (inr (not_given, e)) = absurd (never entry turn on
        (kind_of (seen_by (views_at s (with_row S m turn) (class_of_equation s entry.equation) m) (parts_beside entry.name (Valued free.left free.right free.clause)))) (record {
          entry = entry;
          used = used;
          equation_is = refl;
          equation = Valued free.left free.right free.clause;
          name = free.name;
          counts = can;
          unsolved = λ v typed solves. not_given v (record {
            equation = Valued free.left free.right free.clause;
            name = free.name;
            can = can;
            only = record {
              typed = typed;
              solves = solves;
              only = λ w typed_w solves_w. once s uses order is entry (member_front pure rest entry member) (with_row S m turn) m can.ticks.1 (Valued free.left free.right free.clause) free.name can.equation_is can.name_is v w typed typed_w solves solves_w;
            };
          });
          kind_is = refl;
        }))

    has_next : HasVals (done ++ entry ∷ []) next
    has_next y h = elim (cases_eq y entry.name) [
      | inl same ↦ subst (λ z. HasTyped s z (next z)) (sym same) (own_value step)
      | inr other ↦ subst (HasTyped s y) (sym (step_other s ready.unclocked S m entry turn next step y other)) (has y (elim h [
        | inl reached ↦ elim (reached_either done (entry ∷ []) y reached) [
          | inl own ↦ inl own
          | inr last ↦ absurd (elim last [
            | inl same ↦ other same
            | inr more ↦ more
          ])
        ]
        | inr input ↦ inr input
      ]))
    ]

  walk : (done todo : List Use) → pure ≡ done ++ todo → (turn : Row) → AreTaken s S m done inputs turn → AreTaken s S m todo turn base → HasVals done turn → HasVals pure base
  walk done [] split turn front back has = λ y h. subst (HasTyped s y) (sym (back y)) (has y (elim h [
    | inl reached ↦ inl (subst (IsReachedBy y) (split ∙ bare_end done) reached)
    | inr input ↦ inr input
  ]))
  walk done (entry ∷ todo) split turn front (next, step, back) has =
      walk (done ++ entry ∷ []) todo (split ∙ sym (regroup done (entry ∷ []) todo)) next (append_taken s S m done (entry ∷ []) inputs turn next front (next, step, λ y. refl)) back
      (has_next done todo entry split turn next front step back has)

  pub all_values : HasVals pure base
  all_values = walk [] pure refl inputs (λ y. refl) taken at_first

  module _ (reach : ReachSites s pure) (fine : (site : ℕ) (kind : Fail) → SiteFails s (with_row S m base) m site kind → ⊥) where
    module _ (site : ℕ) (condition : Expr) (found : slice_get s.clocking.sites site ≡ Some condition) where
      is_condition : IsCondition s condition
      is_condition = all_at (IsCondition s) s.clocking.sites site condition is.runs.sites found

      read_typed : (y : ℕ) → 0 < bare_count y condition → HasTyped s y (base y)
      read_typed y some = all_values y (reach site y condition found some)

      some_value : (y : ℕ) → 0 < bare_count y condition → IsSome (base y)
      some_value y some = elim (reach site y condition found some) [
        | inl reached ↦ let v = ready.whole.valued y (reached_first pure rest y reached) in subst IsSome (sym (all_values y (inl reached) v.name v.found).1) refl
        | inr input ↦ subst IsSome (sym (all_values y (inr input) input.0 input.1).1) refl
      ]

      abbrev views : Views
      views = unclocked_views (with_row S m base) m

      name_typed : (x : ℕ) → 0 < bare_count x condition → (type : NameKind) → valued_type (types_in s.model.names x) ≡ Some type → IsAnswerOf type (read (with_row S m base x (m - 0)))
      name_typed x some type t =
          let (name, at_name, type_is) = kind_of_name (slice_get s.model.names x) type t in
          let (v, e, typed) = read_typed x some name at_name in
          let now : with_row S m base x (m - 0) ≡ Some v = ap (with_row S m base x) (let h : m - 0 ≡ m = omega arith in h) ∙ row_now S m base x ∙ e in
          subst (λ o. IsAnswerOf type (read o)) (sym now) (subst (λ k. IsOfKind k v) type_is typed)

      asked_typed : (d : ℕ) (q : Asking) → (d ≡ 0) × IsNow q → 0 < asked condition d q → IsTypedAt (types_in s.model.names) views d q
      asked_typed zero (OfNow x) on some = name_typed x (subst (λ n. 0 < n) (asked_bare x condition) some)
      asked_typed zero (OfLast x) on some = absurd on.1
      asked_typed zero (OfPrevious x) on some = absurd on.1
      asked_typed zero OfFirst on some = absurd on.1
      asked_typed zero OfInterval on some = absurd on.1
      asked_typed (suc d) q on some = absurd (omega (arith, on.0))

      answer_typed : IsAnswerOf kind.Boolean (value_of condition views)
      answer_typed = typed_value (types_in s.model.names) condition kind.Boolean views (λ d q some. asked_typed d q (asks_now condition is_condition.direct d q some) some) is_condition.typed

      by_answer : (a : Answer) → value_of condition views ≡ a → IsAnswerOf kind.Boolean a → (b : Bool) × (site_answer s (with_row S m base) site m ≡ Is (value.Bool b))
      by_answer (Is (value.Bool b)) e typed = (b, ap (answer_in views) found ∙ e)
      by_answer (Is (value.Int z)) e typed = absurd typed
      by_answer (Fails kind) e typed = absurd (fine site kind (record {
        condition = condition;
        found = found;
        reads = λ y some. subst IsSome (sym (row_now S m base y)) (some_value y some);
        fails = ap (answer_in views) found ∙ e;
      }))
      by_answer Absent e typed = absurd typed

      holds : (b : Bool) × (site_answer s (with_row S m base) site m ≡ Is (value.Bool b))
      holds = by_answer (value_of condition views) refl answer_typed

    pub sites_hold : SitesHold s (with_row S m base) m
    sites_hold = holds
