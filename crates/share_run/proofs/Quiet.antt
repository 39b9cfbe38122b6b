-- Where nothing of a share fails, its uses give values, and so has each name that the others do not reach.
use Rattle.std.proofs.Common.{◌≡◌, refl, ap, ◌∙◌, sym, subst, ℕ, suc, ◌<◌, Bool, true, false, List, [], ◌∷◌, ◌++◌, Option, Some, None, slice_get, ◌⊎◌, inl, inr}
use Rattle.std.proofs.lemmas.Bool.{false≢true}
use Rattle.std.proofs.lemmas.Option.{same_Some}
use Rattle.sync_values.specs.declared.value.Value.{Value}
use Rattle.sync_values.specs.declared.value.Value.TheVariants as value
use Rattle.sync_values.specs.declared.value.Fail.{Fail}
use Rattle.first_failure.specs.Turns.{FailsAmong, IsLeast, IsTurn}
use Rattle.first_failure.proofs.Turning.{turn_of, alike_at_turn}
use Rattle.flat_model.specs.declared.clock.Moment.{Moment}
use Rattle.flat_model.specs.declared.equation.Equation.{Equation}
use Rattle.flat_model.specs.declared.expression.Expr.{Expr}
use Rattle.flat_model.specs.declared.model.FlatName.{FlatName}
use Rattle.flat_model.specs.declared.model.NameKind.{NameKind}
use Rattle.flat_model.specs.declared.model.NameKind.TheVariants as kinds
use Rattle.flat_model.specs.Assignment.{Assignment, IsOfKind}
use Rattle.flat_model.specs.Faults.{EquationFails, SiteFails}
use Rattle.flat_model.specs.Given.{Row, with_row, CanUse, IsOnlySolution}
use Rattle.flat_model.specs.Meaning.{seen_by}
use Rattle.flat_model.specs.Meets.{HasValueAtTicks}
use Rattle.flat_model.specs.Moments.{moment_at}
use Rattle.flat_model.specs.Occurrences.{bare_count}
use Rattle.flat_model.specs.Models.{IsName}
use Rattle.flat_model.specs.Operators.{Answer, Is, Fails, Absent}
use Rattle.flat_model.specs.Ways.{parts_beside, kind_of}
use Rattle.flat_model.specs.Setting.{Setting, class_of_name, class_of_equation, views_at, site_answer, class_ticks, name_ticks}
use Rattle.flat_model.specs.Uses.{Use}
use Rattle.flat_model.proofs.Above.{Above}
use Rattle.flat_model.proofs.Sites.{site_up, class_ticks_by_site}
use Rattle.moment_join.specs.Sites.{ReachSites}
use Rattle.moment_join.specs.Staged.{AreStagesOf}
use Rattle.moment_join.proofs.Fronts.{reached_or, taken_behind}
use Rattle.moment_join.proofs.PureValues.{sites_hold}
use Rattle.moment_steps.proofs.Rows.{ordered_behind, reached_first, reached_second, together, member_front}
use Rattle.side_theory.specs.Typed.{AreValuedAt}
use Rattle.moment_theory.specs.Division.{joined}
use Rattle.moment_theory.specs.Free.{IsReachedBy, IsOrdered}
use Rattle.moment_theory.specs.Going.{SitesHold}
use Rattle.moment_theory.specs.Pieces.{AreTakenAlone, AreBeside}
use Rattle.moment_theory.specs.Sound.{IsClear, IsSound}
use Rattle.moment_theory.specs.Taken.{Gives, IsTaken, AreInputs, AreTaken}
use Rattle.moment_theory.proofs.Apart.{append_taken}
use Rattle.moment_theory.proofs.Beside.{regroup}
use Rattle.moment_theory.proofs.GivenByOrder.{inputs_clear, not_input}
use Rattle.moment_theory.proofs.Meeting.{IsValued}
use Rattle.moment_theory.proofs.Members.{IsMember, member_contains}
use Rattle.moment_theory.proofs.Facts.{facts_of_use, free_uses}
use Rattle.moment_theory.proofs.FromRunnable.{all_at, facts_of}
use Rattle.moment_theory.proofs.Ordered.{AreFreeUses}
use Rattle.moment_theory.proofs.Pieces.{free_front, reached_twice}
use Rattle.moment_theory.proofs.Rows.{row_now, row_before, below_same}
use Rattle.moment_theory.proofs.Running.{IsReady}
use Rattle.moment_theory.proofs.SameUse.{sound_inputs}
use Rattle.moment_theory.proofs.Settled.{model, once, tables}
use Rattle.moment_theory.proofs.Taking.{unchanged}
use Rattle.moment_theory.proofs.Turns.{in_its_piece}
use Rattle.first_failure.specs.declared.least.EquationFailing.{EquationFailing}
use Rattle.flat_model.specs.Values.{value_in}
use Rattle.fork_steps.specs.declared.slot.Slot.{Slot}
use Rattle.moment_body.specs.declared.model.ClockedModel.{ClockedModel}
use Rattle.moment_join.specs.Told.{earliest}
use Rattle.moment_steps.specs.declared.piece.Piece.{Piece}
use Rattle.tree_step.specs.Starts.{uses_of}
use Rattle.share_run.specs.Standing.{Holding, pieces_of}
use Rattle.share_run.specs.Taking.{Values, Plan, HasNext, TakesShare, GoesOnShare}
use Rattle.share_run.proofs.Waiting.{none_each}
use Rattle.share_run.proofs.Solved.{values, none_at_rest}

-- ---- lists of uses

either_member : (xs ys : List Use) (entry : Use) → IsMember entry (xs ++ ys) → IsMember entry xs ⊎ IsMember entry ys
either_member [] ys entry h = inr h
either_member (x ∷ xs) ys entry (inl at) = inl (inl at)
either_member (x ∷ xs) ys entry (inr h) = elim (either_member xs ys entry h) [
  | inl own ↦ inl (inr own)
  | inr other ↦ inr other
]

piece_of : (ps : List (List Use)) (entry : Use) → IsMember entry (joined ps) → (i : ℕ) × (piece : List Use) × (slice_get ps i ≡ Some piece) × IsMember entry piece
piece_of [] entry member = absurd member
piece_of (p ∷ ps) entry member = elim (either_member p (joined ps) entry member) [
  | inl own ↦ (0, p, refl, own)
  | inr later ↦ let (i, piece, found, there) = piece_of ps entry later in (suc i, piece, found, there)
]

-- ---- a front of a free order, in two parts

module _ (s : Setting) (uses front back after : List Use) (is : IsOrdered s uses (front ++ (back ++ after))) (S : Assignment) (m : ℕ) (inputs mid last : Row) (are : AreInputs s m inputs)
    (taken : AreTaken s S m front inputs mid) (behind : AreTaken s S m back mid last) where
  ready_all : IsReady s (front ++ (back ++ after))
  ready_all = model s uses (front ++ (back ++ after)) is

  sound_at : IsSound s (with_row S m inputs) m
  sound_at = sound_inputs s uses is.runs is.uses_are.uses_are S m inputs are

  clear_all : IsClear (front ++ (back ++ after)) inputs
  clear_all = inputs_clear s ready_all.unclocked ready_all.inputs S m (front ++ (back ++ after)) ready_all.order inputs are

  clear_both : IsClear (front ++ back) inputs
  clear_both y reached = clear_all y (subst (IsReachedBy y) (regroup front back after) (reached_first (front ++ back) after y reached))

  -- what fails over the last row fails over the row that the first part left
  front_fails : (entry : Use) → IsMember entry front → (kind : Fail) → EquationFails s (with_row S m last) uses m entry.equation kind → EquationFails s (with_row S m mid) uses m entry.equation kind
  front_fails entry member kind fails =
      let (turn, at) = turn_of s S m front inputs mid entry member taken in
      let one = alike_at_turn s uses [] front (back ++ after) is S m inputs mid sound_at (λ y reached. clear_all y (reached_first front (back ++ after) y reached)) taken entry turn at in
      let there : IsTurn s S m (front ++ back) inputs last entry turn = record {
        done = at.done;
        rest = at.rest ++ back;
        entries_are = ap (λ us. us ++ back) at.entries_are ∙ regroup at.done (entry ∷ at.rest) back;
        before = at.before;
        behind = append_taken s S m (entry ∷ at.rest) back turn mid last at.behind behind;
      } in
      let two = alike_at_turn s uses [] (front ++ back) after (subst (IsOrdered s uses) (sym (regroup front back after)) is) S m inputs last sound_at clear_both (append_taken s S m front back inputs mid last taken behind) entry turn there in
      one.0.fails kind (two.1.fails kind fails)

-- ---- a share

module _ (s : Setting) (uses pure : List Use) (pieces : List (List Use)) (own others : List Use) (staged : AreStagesOf s uses pure pieces (own ++ others)) (reach : ReachSites s pure)
    (S : Assignment) (m : ℕ) (at : Moment) (here : moment_at s.instants m ≡ Some at) (inputs : Row) (are : AreInputs s m inputs) (base : Row) (first : AreTaken s S m pure inputs base)
    (owns : ℕ → Row) (alone : AreTakenAlone s S m base owns pieces) (mid : Row) (beside : AreBeside base owns pieces mid) (end : Row) (waited : AreTaken s S m own mid end) where
  abbrev clocked : List Use
  clocked = pure ++ joined pieces

  abbrev front : List Use
  front = clocked ++ own

  to_mid : AreTaken s S m clocked inputs mid
  to_mid = together s uses pure pieces (own ++ others) staged S m at here inputs are base first owns alone mid beside

  to_end : AreTaken s S m front inputs end
  to_end = append_taken s S m clocked own inputs mid end to_mid waited

  pieces_taken : AreTaken s S m (joined pieces) base mid
  pieces_taken = taken_behind s S m pure (joined pieces) inputs base mid to_mid first

  ordered : IsOrdered s uses (clocked ++ (own ++ others))
  ordered = ordered_behind s uses pure pieces (own ++ others) staged S m at here inputs are base first owns alone mid beside

  ordered_front : IsOrdered s uses (front ++ others)
  ordered_front = subst (IsOrdered s uses) (sym (regroup clocked own others)) ordered

  ready : IsReady s (front ++ others)
  ready = model s uses (front ++ others) ordered_front

  module _ (none_pure : IsLeast (FailsAmong s uses S m pure base) None) (none_piece : (i : ℕ) (piece : List Use) → slice_get pieces i ≡ Some piece → IsLeast (FailsAmong s uses S m piece (owns i)) None)
      (none_own : IsLeast (FailsAmong s uses S m own end) None) where
    mid_fails : (entry : Use) → IsMember entry clocked → (kind : Fail) → EquationFails s (with_row S m mid) uses m entry.equation kind → ⊥
    mid_fails entry member kind fails = elim (either_member pure (joined pieces) entry member) [
      | inl early ↦ none_pure entry.equation kind (entry, member_contains entry pure early, refl, front_fails s uses pure (joined pieces) (own ++ others) staged.ordered S m inputs base mid are first pieces_taken entry early kind fails)
      | inr later ↦
          let (i, piece, found, there) = piece_of pieces entry later in
          let has = member_contains entry piece there in
          none_piece i piece found entry.equation kind (
            entry,
            has,
            refl,
            (in_its_piece s uses pure (own ++ others) pieces staged.ordered staged.apart S m inputs base are first owns alone mid to_mid beside i piece found entry has).1.fails kind fails,
          )
    ]

    -- no equation of the share fails over the last row
    end_fails : (entry : Use) → IsMember entry front → (kind : Fail) → EquationFails s (with_row S m end) uses m entry.equation kind → ⊥
    end_fails entry member kind fails = elim (either_member clocked own entry member) [
      | inl early ↦ mid_fails entry early kind (front_fails s uses clocked own others ordered S m inputs mid end are to_mid waited entry early kind fails)
      | inr later ↦ none_own entry.equation kind (entry, member_contains entry own later, refl, fails)
    ]

    clear : IsClear front inputs
    clear y reached = inputs_clear s ready.unclocked ready.inputs S m (front ++ others) ready.order inputs are y (reached_first front others y reached)

    -- each use of the share that counts gives a value
    solved : (entry : Use) (equation : Equation) (name : FlatName) → IsMember entry front → CanUse s (with_row S m end) m entry equation name → (v : Value) × IsOnlySolution s (with_row S m end) m entry.equation equation name entry.name v
    solved entry equation name member can =
        let (turn, turn_is) = turn_of s S m front inputs end entry member to_end in
        let alike = alike_at_turn s uses [] front others ordered_front S m inputs end (sound_inputs s uses staged.ordered.runs staged.ordered.uses_are.uses_are S m inputs are) clear to_end entry turn turn_is in
        by_step turn_is.behind.0 turn_is.behind.1 alike.0.gives alike.1.gives
      where
        all_member : IsMember entry (front ++ others)
        all_member = member_front front others entry member

        by_step : {turn : Row} (next : Row) → IsTaken s S m entry turn next → ((v : Value) → Gives s S m turn entry v → Gives s S m end entry v) → ((v : Value) → Gives s S m end entry v → Gives s S m turn entry v)
            → (v : Value) × IsOnlySolution s (with_row S m end) m entry.equation equation name entry.name v
        by_step next (inl (v, gives, e)) forth back =
            let g = forth v gives in (
              v,
              subst (λ n. IsOnlySolution s (with_row S m end) m entry.equation equation n entry.name v) (same_Some g.name name (sym g.can.name_is ∙ can.name_is))
                  (subst (λ q. IsOnlySolution s (with_row S m end) m entry.equation q g.name entry.name v) (same_Some g.equation equation (sym g.can.equation_is ∙ can.equation_is)) g.only),
            )
        by_step next (inr (never, e)) forth back =
            absurd (end_fails entry member (kind_of (seen_by (views_at s (with_row S m end) (class_of_equation s entry.equation) m) (parts_beside entry.name equation))) (record {
              entry = entry;
              used = ordered_front.same.only entry (member_contains entry (front ++ others) all_member);
              equation_is = refl;
              equation = equation;
              name = name;
              counts = can;
              unsolved = λ v typed solves. never v (back v (record {
                equation = equation;
                name = name;
                can = can;
                only = record {
                  typed = typed;
                  solves = solves;
                  only = λ w typed_w solves_w. once s uses (front ++ others) ordered_front entry all_member (with_row S m end) m can.ticks.1 equation name can.equation_is can.name_is v w typed typed_w solves solves_w;
                };
              }));
              kind_is = refl;
            }))

    module _ (no_site : (site : ℕ) (kind : Fail) → SiteFails s (with_row S m base) m site kind → ⊥) where
      at_base : SitesHold s (with_row S m base) m
      at_base = sites_hold s uses pure (joined pieces ++ (own ++ others)) staged.ordered staged.clockless S m at here inputs base are first none_pure reach no_site

      -- what a condition reads has its value of the base
      read_same : (site y : ℕ) (condition : Expr) → slice_get s.clocking.sites site ≡ Some condition → 0 < bare_count y condition → base y ≡ end y
      read_same site y condition found some =
          let later : IsReachedBy y (joined pieces ++ own) → IsReachedBy y (joined pieces ++ (own ++ others)) = λ reached. subst (IsReachedBy y) (regroup (joined pieces) own others) (reached_first (joined pieces ++ own) others y reached) in
          sym (unchanged s ready.unclocked S m (joined pieces ++ own) base end (append_taken s S m (joined pieces) own base mid end pieces_taken waited) y (λ reached. elim (reach site y condition found some) [
            | inl early ↦ reached_twice s pure (joined pieces ++ (own ++ others)) staged.ordered.free y early (later reached)
            | inr input ↦ let (name, name_found, is) = input in
                false≢true (sym (not_input s (pure ++ (joined pieces ++ (own ++ others))) (model s uses (pure ++ (joined pieces ++ (own ++ others))) staged.ordered).order y
                (reached_second pure (joined pieces ++ (own ++ others)) y (later reached)) name name_found) ∙ is)
          ]))

      sites_end : (site : ℕ) (condition : Expr) → slice_get s.clocking.sites site ≡ Some condition → (b : Bool) × (site_answer s (with_row S m end) site m ≡ Is (value.Bool b))
      sites_end site condition found =
          let (b, is) = at_base site condition found in
          let up : Above (site_answer s (with_row S m base) site m) (site_answer s (with_row S m end) site m) =
          site_up s (with_row S m base) (with_row S m end) site m ready.unclocked (λ e y e_found some. below_same _ _ (row_now S m base y ∙ read_same site y e e_found some ∙ sym (row_now S m end y))) in
          (b, subst (λ a. Above a (site_answer s (with_row S m end) site m)) is up)

      front_free : AreFreeUses s front
      front_free = free_uses s (facts_of s staged.ordered.runs) front
          (λ entry member. facts_of_use s uses staged.ordered.uses_are.uses_are entry (ordered_front.same.only entry (member_contains entry (front ++ others) (member_front front others entry member))))
          (free_front s front others ordered_front.free)

      has_value : (y : ℕ) → (IsReachedBy y others → ⊥) → name_ticks s (with_row S m end) y m ≡ true → IsValued s y → (name : FlatName) → slice_get s.model.names y ≡ Some name → (v : Value) × (end y ≡ Some v) × IsOfKind name.kind v
      has_value = values s ready.unclocked ready.inputs ready.classed S m front others front_free ready.order ready.whole inputs are end to_end at here (tables s uses (front ++ others) ordered_front m at here) sites_end solved

      rests : (x : ℕ) → name_ticks s (with_row S m end) x m ≡ false → end x ≡ None
      rests = none_at_rest s ready.unclocked ready.inputs ready.classed S m front others front_free ready.order ready.whole inputs are end to_end at here (tables s uses (front ++ others) ordered_front m at here) sites_end solved

      clock_none : (x : ℕ) (name : FlatName) → slice_get s.model.names x ≡ Some name → name.kind ≡ kinds.Clock → end x ≡ None
      clock_none x name found is =
          unchanged s ready.unclocked S m front inputs end to_end x (λ reached. let v = ready.whole.valued x (reached_first front others x reached) in v.valued (ap (λ n. n.kind) (same_Some v.name name (sym v.found ∙ found)) ∙ is))
          ∙ no_input (inputs x) refl
        where
          no_clock : (v : Value) → IsOfKind kinds.Clock v → ⊥
          no_clock (value.Int z) typed = typed
          no_clock (value.Bool z) typed = typed

          no_input : (o : Option Value) → inputs x ≡ o → inputs x ≡ None
          no_input None e = e
          no_input (Some v) e =
              let (other, moment, other_found, input, there) = are.only x v e in
              let cell = tables s uses (front ++ others) ordered_front m at here x other other_found input in
              absurd (no_clock cell.0 (subst (λ k. IsOfKind k cell.0) (ap (λ n. n.kind) (same_Some other name (sym other_found ∙ found)) ∙ is) cell.2))

      -- a name that the others do not reach has a value of its type exactly where it ticks
      valued : (x : ℕ) (name : FlatName) → (IsReachedBy x others → ⊥) → slice_get s.model.names x ≡ Some name → (k : NameKind) → name.kind ≡ k → (b : Bool) → name_ticks s (with_row S m end) x m ≡ b → HasValueAtTicks k b (end x)
      valued x name not found kinds.Clock is b ticks = clock_none x name found is
      valued x name not found kinds.Integer is true ticks = let v = has_value x not ticks (record { name = name; found = found; valued = λ c. let e : kinds.Integer ≡ kinds.Clock = sym is ∙ c in cc }) name found in (v.0, v.1, subst (λ k. IsOfKind k v.0) is v.2)
      valued x name not found kinds.Boolean is true ticks = let v = has_value x not ticks (record { name = name; found = found; valued = λ c. let e : kinds.Boolean ≡ kinds.Clock = sym is ∙ c in cc }) name found in (v.0, v.1, subst (λ k. IsOfKind k v.0) is v.2)
      valued x name not found kinds.Integer is false ticks = rests x ticks
      valued x name not found kinds.Boolean is false ticks = rests x ticks

      -- ---- what goes on: the row, with the start of each name of the others that ticks

      abbrev started : Option FlatName → Bool → Option Value
      started (Some name) true = Some name.start
      started (Some name) false = None
      started None b = None

      abbrev completed_by : (x : ℕ) → IsReachedBy x others ⊎ (IsReachedBy x others → ⊥) → Option Value
      completed_by x (inl other) = started (slice_get s.model.names x) (name_ticks s (with_row S m end) x m)
      completed_by x (inr none) = end x

      abbrev completed : Row
      completed x = completed_by x (reached_or others x)

      abbrev next : Assignment
      next = with_row S m completed

      completed_own : (x : ℕ) → (IsReachedBy x others → ⊥) → completed x ≡ end x
      completed_own x none = by_reach (reached_or others x)
        where
          by_reach : (d : IsReachedBy x others ⊎ (IsReachedBy x others → ⊥)) → completed_by x d ≡ end x
          by_reach (inl other) = absurd (none other)
          by_reach (inr own) = refl

      -- the others reach nothing that a condition reads
      not_others : (site y : ℕ) (condition : Expr) → slice_get s.clocking.sites site ≡ Some condition → 0 < bare_count y condition → IsReachedBy y others → ⊥
      not_others site y condition found some other =
          let later : IsReachedBy y (joined pieces ++ (own ++ others)) = reached_second (joined pieces) (own ++ others) y (reached_second own others y other) in elim (reach site y condition found some) [
            | inl early ↦ reached_twice s pure (joined pieces ++ (own ++ others)) staged.ordered.free y early later
            | inr input ↦ let (name, name_found, is) = input in
                false≢true (sym (not_input s (pure ++ (joined pieces ++ (own ++ others))) (model s uses (pure ++ (joined pieces ++ (own ++ others))) staged.ordered).order y
                (reached_second pure (joined pieces ++ (own ++ others)) y later) name name_found) ∙ is)
          ]

      above_both : (a b : Answer) → Above a b → Above b a → a ≡ b
      above_both (Is v) b one two = sym one
      above_both (Fails kind) b one two = sym one
      above_both Absent (Is v) one two = two
      above_both Absent (Fails kind) one two = two
      above_both Absent Absent one two = refl

      -- sites answer alike over rows that agree on what conditions read
      answers_same : (a b : Row) → ((site y : ℕ) (condition : Expr) → slice_get s.clocking.sites site ≡ Some condition → 0 < bare_count y condition → a y ≡ b y) → (site : ℕ) → site_answer s (with_row S m a) site m ≡ site_answer s (with_row S m b) site m
      answers_same a b same site = above_both _ _
          (site_up s (with_row S m a) (with_row S m b) site m ready.unclocked (λ e y found some. below_same _ _ (row_now S m a y ∙ same site y e found some ∙ sym (row_now S m b y))))
          (site_up s (with_row S m b) (with_row S m a) site m ready.unclocked (λ e y found some. below_same _ _ (row_now S m b y ∙ sym (same site y e found some) ∙ sym (row_now S m a y))))

      ticks_same : (a b : Row) → ((site y : ℕ) (condition : Expr) → slice_get s.clocking.sites site ≡ Some condition → 0 < bare_count y condition → a y ≡ b y) → (class : Option ℕ) → class_ticks s (with_row S m a) class m ≡ class_ticks s (with_row S m b) class m
      ticks_same a b same class = class_ticks_by_site s (with_row S m a) (with_row S m b) class m (λ x k lt. row_before S m a x k lt ∙ sym (row_before S m b x k lt)) (λ site factor shift e. answers_same a b same site)

      end_next : (site y : ℕ) (condition : Expr) → slice_get s.clocking.sites site ≡ Some condition → 0 < bare_count y condition → end y ≡ completed y
      end_next site y condition found some = sym (completed_own y (not_others site y condition found some))

      base_next : (site y : ℕ) (condition : Expr) → slice_get s.clocking.sites site ≡ Some condition → 0 < bare_count y condition → base y ≡ completed y
      base_next site y condition found some = read_same site y condition found some ∙ end_next site y condition found some

      started_typed : (x : ℕ) (name : FlatName) → IsReachedBy x others → slice_get s.model.names x ≡ Some name → (k : NameKind) → name.kind ≡ k → (b : Bool) → HasValueAtTicks k b (started (Some name) b)
      started_typed x name other found kinds.Clock is b = absurd (let v = ready.whole.valued x (reached_second front others x other) in v.valued (ap (λ n. n.kind) (same_Some v.name name (sym v.found ∙ found)) ∙ is))
      started_typed x name other found kinds.Integer is true = (name.start, refl, subst (λ k. IsOfKind k name.start) is ((all_at IsName s.model.names x name staged.ordered.runs.model.names.each found).start (λ c. let e : kinds.Integer ≡ kinds.Clock = sym is ∙ c in cc)))
      started_typed x name other found kinds.Boolean is true = (name.start, refl, subst (λ k. IsOfKind k name.start) is ((all_at IsName s.model.names x name staged.ordered.runs.model.names.each found).start (λ c. let e : kinds.Boolean ≡ kinds.Clock = sym is ∙ c in cc)))
      started_typed x name other found kinds.Integer is false = refl
      started_typed x name other found kinds.Boolean is false = refl

      valued_by : (x : ℕ) (name : FlatName) → slice_get s.model.names x ≡ Some name → (d : IsReachedBy x others ⊎ (IsReachedBy x others → ⊥)) → HasValueAtTicks name.kind (name_ticks s (with_row S m end) x m) (completed_by x d)
      valued_by x name found (inl other) = subst (λ o. HasValueAtTicks name.kind (name_ticks s (with_row S m end) x m) (started o (name_ticks s (with_row S m end) x m))) (sym found) (started_typed x name other found name.kind refl (name_ticks s (with_row S m end) x m))
      valued_by x name found (inr none) = valued x name none found name.kind refl (name_ticks s (with_row S m end) x m) refl

      next_valued : AreValuedAt s next m
      next_valued = record {
        names = λ x name found.
            subst (λ b. HasValueAtTicks name.kind b (next x m)) (ticks_same end completed end_next (class_of_name s x))
            (subst (HasValueAtTicks name.kind (name_ticks s (with_row S m end) x m)) (sym (row_now S m completed x)) (valued_by x name found (reached_or others x)));
      }

      pub has_next : (ticks : ℕ → Bool) → ((class : ℕ) → ticks class ≡ class_ticks s (with_row S m base) (Some class) m) → HasNext s others S m base end ticks
      has_next ticks ticks_are = record {
        next = next;
        goes_on = record {
          agrees = λ x k lt. sym (row_before S m completed x k lt);
          meets = next_valued;
          values = λ x none. row_now S m completed x ∙ completed_own x none;
          ticks_are = λ class. ticks_are class ∙ ticks_same base completed base_next (Some class);
        };
        alike = answers_same base completed base_next;
      }

-- where no pure use, no site and no use of a share fails, something goes on with what it gave
pub goes_share : (h : Holding) (model_now : ClockedModel) (plan : Plan) (slots : List (Slot Piece)) (base last : Values) (told : Option EquationFailing) → TakesShare h model_now plan slots base last told → GoesOnShare h model_now plan base last told
goes_share h model_now plan slots base last told takes none s uses pure others A n is quiet =
    let taken = takes s uses pure others A n is in
    let all_none : earliest (taken.behind ∷ taken.each) ≡ None = sym taken.told_is ∙ none in
    has_next s uses pure (pieces_of h) (uses_of h.waiting) others is.division.staged is.division.reach A n plan.at is.here is.inputs is.are (value_in base) is.taken
    taken.owns taken.alone taken.row taken.beside (value_in last) taken.waited quiet.pure_told
    (λ i piece found. let (failing, failing_at, least) = taken.each_told i piece found in subst (IsLeast (FailsAmong s uses A n piece (taken.owns i))) (none_each (taken.behind ∷ taken.each) all_none (suc i) failing failing_at) least)
    (subst (IsLeast (FailsAmong s uses A n (uses_of h.waiting) (value_in last))) (none_each (taken.behind ∷ taken.each) all_none 0 taken.behind refl) taken.behind_told)
    quiet.site_told plan.ticks is.ticks_are
