-- Where nothing of a share fails, names that the others do not reach have values where they tick.
use Rattle.std.proofs.Common.{◌≡◌, ◌≢◌, refl, ap, ◌∙◌, sym, subst, ℕ, Bool, true, false, List, [], ◌∷◌, ◌++◌, Option, Some, None, IsSome, slice_get, inl, inr}
use Rattle.std.proofs.lemmas.Bool.{false≢true, cases_eq}
use Rattle.std.proofs.lemmas.Option.{same_Some}
use Rattle.sync_values.specs.declared.value.Value.{Value}
use Rattle.sync_values.specs.declared.value.Value.TheVariants as value
use Rattle.flat_model.specs.declared.clock.Moment.{Moment}
use Rattle.flat_model.specs.declared.expression.Expr.{Expr}
use Rattle.flat_model.specs.declared.equation.Equation.{Equation}
use Rattle.flat_model.specs.declared.equation.Equation.TheVariants.{Valued}
use Rattle.flat_model.specs.declared.model.FlatName.{FlatName}
use Rattle.flat_model.specs.declared.model.NameKind.TheVariants as kind
use Rattle.flat_model.specs.Operators.{Is}
use Rattle.flat_model.specs.Moments.{moment_at}
use Rattle.flat_model.specs.Assignment.{Assignment, IsOfKind}
use Rattle.flat_model.specs.Setting.{Setting, class_of_name, class_of_equation, clock_of, site_answer, class_ticks, name_ticks}
use Rattle.flat_model.specs.Uses.{Use, ReadsIn}
use Rattle.flat_model.specs.Given.{Row, with_row, IsKnown, HasLastValue, HasReadIn, CanUse, IsOnlySolution}
use Rattle.flat_model.proofs.OneSolution.{AreSitesUnclocked}
use Rattle.moment_theory.specs.Free.{IsReachedBy}
use Rattle.moment_theory.specs.Taken.{AreTaken, AreInputs}
use Rattle.moment_theory.proofs.GivenByOrder.{AreInputsUnclocked, not_input, inputs_clear, inputs_sound}
use Rattle.moment_theory.proofs.Meeting.{IsValued, IsSideClassed, AreClassed, AreWhole, HasTableValues, HasTyped, known_of}
use Rattle.moment_theory.proofs.Members.{IsMember}
use Rattle.moment_theory.proofs.Ordered.{IsFreeSide, IsFreeUse, AreFreeUses}
use Rattle.moment_theory.proofs.Rows.{row_now}
use Rattle.moment_theory.proofs.Taking.{unchanged, taken_sound, taken_closed}
use Rattle.moment_theory.proofs.Transfer.{IsSound}

some_typed : (s : Setting) (x : ℕ) (o : Option Value) → IsValued s x → HasTyped s x o → IsSome o
some_typed s x o valued has = let h = has valued.name valued.found in subst IsSome (sym h.1) refl

-- uses of a free order are taken before others
module _ (s : Setting) (unclocked : AreSitesUnclocked s) (inputs : AreInputsUnclocked s) (classed : AreClassed s) (S : Assignment) (m : ℕ)
    (uses others : List Use) (front : AreFreeUses s uses) (order : AreFreeUses s (uses ++ others)) (whole : AreWhole s (uses ++ others))
    (row : Row) (are : AreInputs s m row) (last : Row) (taken : AreTaken s S m uses row last) (at : Moment) (here : moment_at s.instants m ≡ Some at) (table : HasTableValues s at)
    (sites : (site : ℕ) (condition : Expr) → slice_get s.clocking.sites site ≡ Some condition → (b : Bool) × (site_answer s (with_row S m last) site m ≡ Is (value.Bool b)))
    (solved : (entry : Use) (equation : Equation) (name : FlatName) → IsMember entry uses → CanUse s (with_row S m last) m entry equation name → (v : Value) × IsOnlySolution s (with_row S m last) m entry.equation equation name entry.name v) where
  abbrev T : Assignment
  T = with_row S m last

  sound : IsSound s T m
  sound = taken_sound s unclocked S m uses row last front (inputs_clear s unclocked inputs S m uses front row are) taken (inputs_sound s unclocked inputs S m uses front row are)

  known : (class : Option ℕ) → IsKnown s T m class
  known class = known_of s T m (clock_of s class) (λ site f g e. let found = classed.sites class site f g e in sites site found.0 found.1)

  input_value : (x : ℕ) (name : FlatName) → slice_get s.model.names x ≡ Some name → name.input ≡ true → (v : Value) × (last x ≡ Some v) × IsOfKind name.kind v
  input_value x name found input =
      let t = table x name found input in
      let kept = unchanged s unclocked S m uses row last taken x (λ reached. false≢true (sym (not_input s uses front x reached name found) ∙ input)) in
      (t.0, kept ∙ are.inputs x name at found input here ∙ t.1, t.2)

  -- what a side reads has values where all names that are not reached by later uses have
  abbrev HasValuesBut : List Use → Type 0
  HasValuesBut later = (y : ℕ) → (IsReachedBy y later → ⊥) → name_ticks s T y m ≡ true → IsValued s y → HasTyped s y (last y)

  has_last : (y : ℕ) (later : List Use) → HasValuesBut later → (IsReachedBy y later → ⊥) → IsValued s y → HasLastValue s T m y
  has_last y later has not valued = by_tick (name_ticks s T y m) refl
    where
      by_tick : (b : Bool) → name_ticks s T y m ≡ b → HasLastValue s T m y
      by_tick true e = inr (subst IsSome (sym (row_now S m last y)) (some_typed s y (last y) valued (has y not e valued)))
      by_tick false e = inl (known (class_of_name s y), e)

  has_read : (i x : ℕ) (e : Expr) (later : List Use) (entry : Use) → x ≡ entry.name → IsFreeSide s i x e later → IsSideClassed s i e → HasValuesBut (entry ∷ later) → class_ticks s T (class_of_equation s i) m ≡ true
      → (y : ℕ) → y ≢ x → HasReadIn s T m i e y
  has_read i x e later entry own side of has ticks y other =
      let not : ReadsIn s i e y → IsReachedBy y (entry ∷ later) → ⊥ = λ reads h. elim h [
        | inl is ↦ other (is ∙ sym own)
        | inr reached ↦ side.reads y reads reached
      ] in record {
        bare = λ some. let b = of.bare y some in subst IsSome (sym (row_now S m last y))
            (some_typed s y (last y) b.0 (has y (not (inl some)) (ap (λ c. class_ticks s T c m) b.1 ∙ ticks) b.0));
        held = λ some. has_last y (entry ∷ later) has (not (inr (inl some))) (of.last y (inl some));
        converted = λ some meet. has_last y (entry ∷ later) has (not (inr (inr (some, meet)))) (of.last y (inr some));
      }

  -- a use of an equation whose class ticks, where what it reads has values
  can_use : (entry : Use) (later : List Use) (free : IsFreeUse s entry later) → HasValuesBut (entry ∷ later) → class_ticks s T (class_of_equation s entry.equation) m ≡ true
      → CanUse s T m entry (Valued free.left free.right free.clause) free.name
  can_use entry later free has ticks =
      let of = classed.sides entry.equation free.left free.right free.clause free.equation_is in record {
        equation_is = free.equation_is;
        name_is = free.name_is;
        ticks = (known (class_of_equation s entry.equation), ticks);
        reads = λ y other. (
          has_read entry.equation entry.name free.left later entry refl free.left_free of.0 has ticks y other,
          has_read entry.equation entry.name free.right later entry refl free.right_free of.1 has ticks y other,
        );
      }

  -- the value of a use that counts
  record HasUse (entry : Use) : Type 0 where
    pub equation : Equation
    pub name : FlatName
    pub v : Value
    pub can : CanUse s T m entry equation name
    pub only : IsOnlySolution s T m entry.equation equation name entry.name v
    pub is : last entry.name ≡ Some v

  use_value : (entry : Use) (later : List Use) (free : IsFreeUse s entry later) → IsMember entry uses → HasValuesBut (entry ∷ later) → class_ticks s T (class_of_equation s entry.equation) m ≡ true → HasUse entry
  use_value entry later free member has ticks =
      let can = can_use entry later free has ticks in
      let one = solved entry (Valued free.left free.right free.clause) free.name member can in record {
        equation = Valued free.left free.right free.clause;
        name = free.name;
        v = one.0;
        can = can;
        only = one.1;
        is = taken_closed s unclocked S m uses row last front taken sound entry (Valued free.left free.right free.clause) free.name one.0 member can one.1;
      }

  typed_use : (entry : Use) → HasUse entry → HasTyped s entry.name (last entry.name)
  typed_use entry given name found = (given.v, given.is, subst (λ n. IsOfKind n.kind given.v) (same_Some given.name name (sym given.can.name_is ∙ found)) given.only.typed)

  -- from the first use to the last
  go_on : (rest : List Use) → AreFreeUses s (rest ++ others) → ((entry : Use) → IsMember entry rest → IsMember entry uses) → HasValuesBut (rest ++ others) → HasValuesBut others
  go_on [] free members has = has
  go_on (entry ∷ later) free members has = go_on later free.1 (λ e h. members e (inr h)) next
    where
      now : class_ticks s T (class_of_equation s entry.equation) m ≡ true → HasUse entry
      now ticks = use_value entry (later ++ others) free.0 (members entry (inl refl)) has ticks

      next : HasValuesBut (later ++ others)
      next y not ticks valued = elim (cases_eq y entry.name) [
        | inl is ↦ subst (λ z. HasTyped s z (last z)) (sym is)
            (typed_use entry (now (subst (λ c. class_ticks s T c m ≡ true) free.0.class_is (subst (λ z. name_ticks s T z m ≡ true) is ticks))))
        | inr other ↦ has y (λ h. elim h [
          | inl is ↦ other is
          | inr reached ↦ not reached
        ]) ticks valued
      ]

  at_first : HasValuesBut (uses ++ others)
  at_first y not ticks valued name found =
      let same = same_Some valued.name name (sym valued.found ∙ found) in
      by_input name.input refl (subst (λ n. n.kind ≢ kind.Clock) same valued.valued)
    where
      by_input : (b : Bool) → name.input ≡ b → name.kind ≢ kind.Clock → (v : Value) × (last y ≡ Some v) × IsOfKind name.kind v
      by_input true e clock = input_value y name found e
      by_input false e clock = absurd (not (whole.names y name found clock e))

  -- what the others do not reach has a value of its type where it ticks
  pub values : (y : ℕ) → (IsReachedBy y others → ⊥) → name_ticks s T y m ≡ true → IsValued s y → HasTyped s y (last y)
  values = go_on uses order (λ e h. h) at_first

  -- and no value where it does not
  pub none_at_rest : (x : ℕ) → name_ticks s T x m ≡ false → last x ≡ None
  none_at_rest x e = by_value (last x) refl
    where
      by_value : (o : Option Value) → last x ≡ o → last x ≡ None
      by_value None h = h
      by_value (Some v) h = absurd (false≢true (sym e ∙ (sound x (subst IsSome (sym (row_now S m last x ∙ h)) refl)).1))
