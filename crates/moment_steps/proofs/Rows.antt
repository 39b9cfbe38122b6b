-- The rows of a moment: typed, sound, and without values of what is still to be reached.
use Rattle.std.proofs.Common.{◌≡◌, ◌≢◌, refl, ap, ◌∙◌, sym, subst, ℕ, zero, suc, ◌<◌, ◌<◌, Bool, true, false, List, [], ◌∷◌, ◌++◌, Option, Some, None, slice_get, Contains, arith, ◌⊎◌, inl, inr}
use Rattle.std.proofs.Math.Path.{fun_ext}
use Rattle.std.proofs.lemmas.Bool.{cases_eq, false≢true}
use Rattle.std.proofs.lemmas.Option.{none-some, same_Some}
use Rattle.sync_values.specs.declared.value.Value.{Value}
use Rattle.flat_model.specs.declared.clock.Clock.TheVariants.{Event}
use Rattle.flat_model.specs.declared.clock.Moment.{Moment}
use Rattle.flat_model.specs.declared.expression.Expr.{Expr}
use Rattle.flat_model.specs.declared.model.FlatName.{FlatName}
use Rattle.flat_model.specs.Assignment.{Assignment, IsOfKind}
use Rattle.flat_model.specs.Given.{Row, with_row}
use Rattle.flat_model.specs.Moments.{moment_at}
use Rattle.flat_model.specs.Occurrences.{bare_count}
use Rattle.flat_model.specs.Setting.{Setting, class_of_name, class_of_equation, partition_of, class_ticks}
use Rattle.flat_model.specs.Tables.{IsInput}
use Rattle.flat_model.specs.Uses.{Use, SiteReads}
use Rattle.flat_model.proofs.Agreement.{SameBefore}
use Rattle.flat_model.proofs.Sites.{SameSiteOf, class_ticks_by_site}
use Rattle.side_theory.specs.Typed.{IsTypedRow}
use Rattle.moment_theory.specs.Division.{joined}
use Rattle.moment_theory.specs.Free.{IsOrdered, IsReachedBy}
use Rattle.moment_theory.specs.Pieces.{AreTakenAlone, AreBeside}
use Rattle.moment_theory.specs.Sound.{IsSound, IsClear}
use Rattle.moment_theory.specs.Taken.{put, IsTaken, AreTaken, AreInputs}
use Rattle.moment_theory.proofs.Facts.{facts_of_use, class_of_use}
use Rattle.moment_theory.proofs.FromRunnable.{facts_of}
use Rattle.moment_theory.proofs.GivenByOrder.{not_input, inputs_clear}
use Rattle.moment_theory.proofs.Members.{IsMember, contains_member, member_contains, reached_member, member_reached}
use Rattle.moment_theory.proofs.Pieces.{free_front, reached_twice, pieces_beside}
use Rattle.moment_theory.proofs.Rows.{row_now, row_before}
use Rattle.moment_theory.proofs.Running.{IsReady}
use Rattle.moment_theory.proofs.SameUse.{sound_inputs, sound_taken}
use Rattle.moment_theory.proofs.Settled.{model}
use Rattle.moment_theory.proofs.Taking.{put_same, put_other, unchanged}
use Rattle.moment_theory.proofs.Unknown.{site_same}
use Rattle.moment_join.specs.Sites.{ReachSites}
use Rattle.moment_join.specs.Staged.{AreStagesOf}
use Rattle.moment_join.proofs.Fronts.{reached_or, reached_piece}
use Rattle.partition_step.specs.Parts.{IsPiece}

-- ---- lists of uses

regroup : (a b c : List Use) → (a ++ b) ++ c ≡ a ++ (b ++ c)
regroup [] b c = refl
regroup (x ∷ a) b c = ap (λ us. x ∷ us) (regroup a b c)

pub reached_first : (a b : List Use) (y : ℕ) → IsReachedBy y a → IsReachedBy y (a ++ b)
reached_first [] b y h = absurd h
reached_first (x ∷ a) b y (inl is) = inl is
reached_first (x ∷ a) b y (inr h) = inr (reached_first a b y h)

pub reached_second : (a b : List Use) (y : ℕ) → IsReachedBy y b → IsReachedBy y (a ++ b)
reached_second [] b y h = h
reached_second (x ∷ a) b y h = inr (reached_second a b y h)

pub member_front : (xs ys : List Use) (entry : Use) → IsMember entry xs → IsMember entry (xs ++ ys)
member_front [] ys entry h = absurd h
member_front (x ∷ xs) ys entry (inl at) = inl at
member_front (x ∷ xs) ys entry (inr h) = inr (member_front xs ys entry h)

pub member_back : (xs ys : List Use) (entry : Use) → IsMember entry ys → IsMember entry (xs ++ ys)
member_back [] ys entry h = h
member_back (x ∷ xs) ys entry h = inr (member_back xs ys entry h)

member_either : (xs ys : List Use) (entry : Use) → IsMember entry (xs ++ ys) → IsMember entry xs ⊎ IsMember entry ys
member_either [] ys entry h = inr h
member_either (x ∷ xs) ys entry (inl at) = inl (inl at)
member_either (x ∷ xs) ys entry (inr h) = elim (member_either xs ys entry h) [
  | inl own ↦ inl (inr own)
  | inr other ↦ inr other
]

member_piece : (ps : List (List Use)) (entry : Use) → IsMember entry (joined ps) → (i : ℕ) × (piece : List Use) × (slice_get ps i ≡ Some piece) × IsMember entry piece
member_piece [] entry member = absurd member
member_piece (p ∷ ps) entry member = elim (member_either p (joined ps) entry member) [
  | inl own ↦ (0, p, refl, own)
  | inr later ↦ let (i, piece, found, there) = member_piece ps entry later in (suc i, piece, found, there)
]

reached_within : (ps : List (List Use)) (i : ℕ) (piece : List Use) → slice_get ps i ≡ Some piece → (y : ℕ) → IsReachedBy y piece → IsReachedBy y (joined ps)
reached_within [] i piece found y reached = absurd (none-some piece found)
reached_within (p ∷ ps) zero piece found y reached = reached_first p (joined ps) y (subst (IsReachedBy y) (sym (same_Some p piece found)) reached)
reached_within (p ∷ ps) (suc i) piece found y reached = reached_second p (joined ps) y (reached_within ps i piece found y reached)

-- where a piece stands among all
pub cut : (ps : List (List Use)) (i : ℕ) (piece : List Use) → slice_get ps i ≡ Some piece → (front : List Use) × (back : List Use) × (joined ps ≡ front ++ (piece ++ back))
cut [] i piece found = absurd (none-some piece found)
cut (p ∷ ps) zero piece found = ([], joined ps, ap (λ q. q ++ joined ps) (same_Some p piece found))
cut (p ∷ ps) (suc i) piece found = let (front, back, is) = cut ps i piece found in (p ++ front, back, ap (λ us. p ++ us) is ∙ sym (regroup p front (piece ++ back)))

cut_order : (pure ps waiting front piece back : List Use) → ps ≡ front ++ (piece ++ back) → pure ++ (ps ++ waiting) ≡ (pure ++ front) ++ (piece ++ (back ++ waiting))
cut_order pure ps waiting front piece back is =
    ap (λ us. pure ++ (us ++ waiting)) is ∙ ap (λ us. pure ++ us) (regroup front (piece ++ back) waiting ∙ ap (λ us. front ++ us) (regroup piece back waiting)) ∙ sym (regroup pure front (piece ++ (back ++ waiting)))

-- ---- typed rows

module _ (s : Setting) (S : Assignment) (m : ℕ) where
  typed_step : (entry : Use) (row next : Row) → IsTypedRow s row → IsTaken s S m entry row next → IsTypedRow s next
  typed_step entry row next typed (inr (none, same)) = λ x name v found is. typed x name v found (sym (same x) ∙ is)
  typed_step entry row next typed (inl (v, gives, same)) = λ x name w found is. elim (cases_eq x entry.name) [
    | inl own ↦
        let name_is : gives.name ≡ name = same_Some gives.name name (sym gives.can.name_is ∙ ap (slice_get s.model.names) (sym own) ∙ found) in
        let value_is : v ≡ w = same_Some v w (sym (put_same row entry.name v) ∙ ap (put row entry.name v) (sym own) ∙ sym (same x) ∙ is) in
        subst (IsOfKind name.kind) value_is (subst (λ n. IsOfKind n.kind v) name_is gives.only.typed)
    | inr other ↦ typed x name w found (sym (put_other row entry.name v x other) ∙ sym (same x) ∙ is)
  ]

  pub typed_taken : (us : List Use) (row last : Row) → IsTypedRow s row → AreTaken s S m us row last → IsTypedRow s last
  typed_taken [] row last typed same = λ x name v found is. typed x name v found (sym (same x) ∙ is)
  typed_taken (entry ∷ us) row last typed (next, step, rest) = typed_taken us next last (typed_step entry row next typed step) rest

-- ---- what the pure uses leave

module _ (s : Setting) (uses pure : List Use) (pieces : List (List Use)) (waiting : List Use) (is : AreStagesOf s uses pure pieces waiting) (S : Assignment) (m : ℕ) (at : Moment) (here : moment_at s.instants m ≡ Some at)
    (inputs : Row) (are : AreInputs s m inputs) where
  abbrev order : List Use
  order = pure ++ (joined pieces ++ waiting)

  abbrev behind : List Use
  behind = joined pieces ++ waiting

  ready : IsReady s order
  ready = model s uses order is.ordered

  pub inputs_typed : IsTypedRow s inputs
  inputs_typed x name v found is_value =
      let (other, moment, other_found, input, there) = are.only x v is_value in
      let name_is : other ≡ name = same_Some other name (sym other_found ∙ found) in
      let (w, cell, typed) = (facts_of s is.ordered.runs).tables m moment there x other other_found input in
      let value_is : w ≡ v = same_Some w v (sym cell ∙ sym (are.inputs x other moment other_found input there) ∙ is_value) in
      subst (IsOfKind name.kind) value_is (subst (λ n. IsOfKind n.kind w) name_is typed)

  pub inputs_none : IsClear order inputs
  inputs_none = inputs_clear s ready.unclocked ready.inputs S m order ready.order inputs are

  pub inputs_sound : IsSound s (with_row S m inputs) m
  inputs_sound = sound_inputs s uses is.ordered.runs is.ordered.uses_are.uses_are S m inputs are

  pub clear_at_first : IsClear pure inputs
  clear_at_first y reached = inputs_none y (reached_first pure behind y reached)

  pub used : (entry : Use) → IsMember entry order → Contains uses entry
  used entry member = is.ordered.same.only entry (member_contains entry order member)

  module _ (base : Row) (taken : AreTaken s S m pure inputs base) where
    pub base_typed : IsTypedRow s base
    base_typed = typed_taken s S m pure inputs base inputs_typed taken

    pub base_sound : IsSound s (with_row S m base) m
    base_sound = sound_taken s uses is.ordered.runs is.ordered.uses_are.uses_are S m pure inputs base
        (λ entry own. used entry (member_front pure behind entry (contains_member entry pure own)))
        (free_front s pure behind is.ordered.free) clear_at_first inputs_sound taken

    pub base_clear : IsClear behind base
    base_clear y reached =
        unchanged s ready.unclocked S m pure inputs base taken y (λ own. reached_twice s pure behind is.ordered.free y own reached)
        ∙ inputs_none y (reached_second pure behind y reached)

    pub piece_clear : (i : ℕ) (piece : List Use) → slice_get pieces i ≡ Some piece → IsClear piece base
    piece_clear i piece found y reached = base_clear y (reached_first (joined pieces) waiting y (reached_within pieces i piece found y reached))

    -- what no use reaches has the value of the inputs, and of these none is clocked
    pub base_clocked : (y class : ℕ) → class_of_name s y ≡ Some class → base y ≡ None
    base_clocked y class clocked = unchanged s ready.unclocked S m pure inputs base taken y not_pure ∙ no_input (inputs y) refl
      where
        not_pure : IsReachedBy y pure → ⊥
        not_pure reached =
            let (entry, member, name) = member_reached pure y reached in
            let facts = facts_of_use s uses is.ordered.uses_are.uses_are entry (used entry (member_front pure behind entry member)) in
            none-some class (sym (is.clockless entry (member_contains entry pure member)).unclocked ∙ sym (class_of_use s (facts_of s is.ordered.runs) entry facts) ∙ ap (class_of_name s) (sym name) ∙ clocked)

        no_input : (o : Option Value) → inputs y ≡ o → inputs y ≡ None
        no_input None e = e
        no_input (Some v) e =
            let (name, moment, found, input, there) = are.only y v e in
            absurd (none-some class (sym (is.ordered.runs.inputs y (name, found, input)) ∙ clocked))

    module _ (owns : ℕ → Row) (alone : AreTakenAlone s S m base owns pieces) (row : Row) (beside : AreBeside base owns pieces row) where
      beside_all : (r : Row) × AreTaken s S m (pure ++ joined pieces) inputs r × AreBeside base owns pieces r
      beside_all = pieces_beside s uses pure waiting pieces is.ordered is.apart S m inputs base are taken owns alone

      same_row : (y : ℕ) → beside_all.0 y ≡ row y
      same_row y = elim (reached_or (joined pieces) y) [
        | inl reached ↦ let (i, piece, found, own) = reached_piece pieces y reached in beside_all.2.own i piece y found own ∙ sym (beside.own i piece y found own)
        | inr none ↦ beside_all.2.rest y none ∙ sym (beside.rest y none)
      ]

      pub together : AreTaken s S m (pure ++ joined pieces) inputs row
      together = subst (AreTaken s S m (pure ++ joined pieces) inputs) (fun_ext same_row) beside_all.1

      pub ordered_behind : IsOrdered s uses ((pure ++ joined pieces) ++ waiting)
      ordered_behind = subst (IsOrdered s uses) (sym (regroup pure (joined pieces) waiting)) is.ordered

      pub row_typed : IsTypedRow s row
      row_typed = typed_taken s S m (pure ++ joined pieces) inputs row inputs_typed together

      clear_front : IsClear (pure ++ joined pieces) inputs
      clear_front y reached = inputs_none y (subst (IsReachedBy y) (regroup pure (joined pieces) waiting) (reached_first (pure ++ joined pieces) waiting y reached))

      pub row_sound : IsSound s (with_row S m row) m
      row_sound = sound_taken s uses is.ordered.runs is.ordered.uses_are.uses_are S m (pure ++ joined pieces) inputs row
          (λ entry own. used entry (subst (IsMember entry) (regroup pure (joined pieces) waiting) (member_front (pure ++ joined pieces) waiting entry (contains_member entry (pure ++ joined pieces) own))))
          (free_front s (pure ++ joined pieces) waiting ordered_behind.free) clear_front inputs_sound together

      pub row_clear : IsClear waiting row
      row_clear y reached =
          unchanged s ready.unclocked S m (pure ++ joined pieces) inputs row together y (λ own. reached_twice s (pure ++ joined pieces) waiting ordered_behind.free y own reached)
          ∙ inputs_none y (reached_second pure behind y (reached_second (joined pieces) waiting y reached))

      module _ (reach : ReachSites s pure) where
        -- what a condition reads has its value of the base
        read_same : (site y : ℕ) (condition : Expr) → slice_get s.clocking.sites site ≡ Some condition → 0 < bare_count y condition → base y ≡ row y
        read_same site y condition found some = sym (beside.rest y (λ later. elim (reach site y condition found some) [
          | inl reached ↦ reached_twice s pure behind is.ordered.free y reached (reached_first (joined pieces) waiting y later)
          | inr input ↦ let (name, name_found, own) = input in
              false≢true (sym (not_input s order ready.order y (reached_second pure behind y (reached_first (joined pieces) waiting y later)) name name_found) ∙ own)
        ]))

        pub same_site : (class : Option ℕ) → SameSiteOf s (with_row S m base) (with_row S m row) m class
        same_site class = site_same s (with_row S m base) (with_row S m row) m class ready.unclocked (λ y reads.
            let (site, factor, shift, condition, clock_is, found, some) = reads in row_now S m base y ∙ read_same site y condition found some ∙ sym (row_now S m row y))

        pub same_ticks : (class : Option ℕ) → class_ticks s (with_row S m base) class m ≡ class_ticks s (with_row S m row) class m
        same_ticks class = class_ticks_by_site s (with_row S m base) (with_row S m row) class m
            (λ x k lt. row_before S m base x k lt ∙ sym (row_before S m row x k lt)) (same_site class)

-- no site waits for what the waiting uses reach
module _ (s : Setting) (uses pure : List Use) (pieces : List (List Use)) (waiting : List Use) (is : AreStagesOf s uses pure pieces waiting) (reach : ReachSites s pure) where
  abbrev all : List Use
  all = pure ++ (joined pieces ++ waiting)

  pub site_not_waiting : (class : Option ℕ) (y : ℕ) → SiteReads s class y → IsReachedBy y waiting → ⊥
  site_not_waiting class y (site, factor, shift, condition, clock_is, found, some) reached =
      let later : IsReachedBy y (joined pieces ++ waiting) = reached_second (joined pieces) waiting y reached in
      elim (reach site y condition found some) [
        | inl own ↦ reached_twice s pure (joined pieces ++ waiting) is.ordered.free y own later
        | inr input ↦ let (name, name_found, of) = input in
            false≢true (sym (not_input s all (model s uses all is.ordered).order y (reached_second pure (joined pieces ++ waiting) y later) name name_found) ∙ of)
      ]

  -- the uses of each piece are all those of its partition
  module _ (of : (i : ℕ) (piece : List Use) → slice_get pieces i ≡ Some piece → (entry : Use) → Contains piece entry → partition_of s (class_of_equation s entry.equation) ≡ Some i)
      (waits : (entry : Use) → Contains waiting entry → class_of_equation s entry.equation ≡ None) (i : ℕ) (piece : List Use) (found : slice_get pieces i ≡ Some piece) where
    of_piece : (entry : Use) → partition_of s (class_of_equation s entry.equation) ≡ Some i → IsMember entry pure ⊎ (IsMember entry (joined pieces) ⊎ IsMember entry waiting) → Contains piece entry
    of_piece entry own (inl member) = absurd (none-some i (sym (ap (partition_of s) (is.clockless entry (member_contains entry pure member)).unclocked) ∙ own))
    of_piece entry own (inr (inr member)) = absurd (none-some i (sym (ap (partition_of s) (waits entry (member_contains entry waiting member))) ∙ own))
    of_piece entry own (inr (inl member)) =
        let (j, other, other_found, there) = member_piece pieces entry member in
        let has : Contains other entry = member_contains entry other there in
        let same : j ≡ i = same_Some j i (sym (of j other other_found entry has) ∙ own) in
        let piece_is : other ≡ piece = same_Some other piece (sym other_found ∙ ap (slice_get pieces) same ∙ found) in
        subst (λ p. Contains p entry) piece_is has

    pub piece_whole : (entry : Use) → Contains uses entry → partition_of s (class_of_equation s entry.equation) ≡ Some i → Contains piece entry
    piece_whole entry has own =
        let member : IsMember entry all = contains_member entry all (is.ordered.same.all entry has) in
        of_piece entry own (elim (member_either pure (joined pieces ++ waiting) entry member) [
          | inl early ↦ inl early
          | inr later ↦ inr (member_either (joined pieces) waiting entry later)
        ])

    abbrev pub front : List Use
    front = pure ++ (cut pieces i piece found).0

    abbrev pub back : List Use
    back = (cut pieces i piece found).1 ++ waiting

    pub is_piece : IsPiece s uses front piece back i
    is_piece = record {
      ordered = subst (IsOrdered s uses) (cut_order pure (joined pieces) waiting (cut pieces i piece found).0 piece (cut pieces i piece found).1 (cut pieces i piece found).2) is.ordered;
      of = λ entry has. of i piece found entry has;
      whole = piece_whole;
    }
