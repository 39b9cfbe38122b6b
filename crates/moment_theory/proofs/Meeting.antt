-- Where nothing fails, the values that uses give meet the model at the moment.
use Rattle.std.proofs.Common.{◌≡◌, ◌≢◌, refl, ap, ◌∙◌, sym, subst, ℕ, ◌<◌, ◌==◌, ◌&&◌, if◌then◌else◌, Bool, true, false, List, [], ◌∷◌, Option, Some, None, IsSome, slice_get, arith, ◌⊎◌, inl, inr}
use Rattle.std.proofs.lemmas.Bool.{false≢true, cases_eq, cases_lt}
use Rattle.std.proofs.lemmas.Bool.Decides.{eqb_tells}
use Rattle.std.proofs.lemmas.Option.{same_Some, none-some}
use Rattle.sync_values.specs.declared.value.Value.{Value}
use Rattle.sync_values.specs.declared.value.Value.TheVariants as value
use Rattle.flat_model.specs.declared.clock.Clock.{Clock}
use Rattle.flat_model.specs.declared.clock.Clock.TheVariants.{Periodic, Event}
use Rattle.flat_model.specs.declared.clock.Moment.{Moment}
use Rattle.flat_model.specs.declared.expression.Expr.{Expr}
use Rattle.flat_model.specs.declared.equation.Equation.{Equation}
use Rattle.flat_model.specs.declared.equation.Equation.TheVariants.{Valued, Clocks}
use Rattle.flat_model.specs.declared.model.FlatName.{FlatName}
use Rattle.flat_model.specs.declared.model.NameKind.{NameKind}
use Rattle.flat_model.specs.declared.model.NameKind.TheVariants as kind
use Rattle.flat_model.specs.Operators.{Is}
use Rattle.flat_model.specs.Moments.{moment_at, table_value}
use Rattle.flat_model.specs.Assignment.{Assignment, IsOfKind}
use Rattle.flat_model.specs.Occurrences.{bare_count}
use Rattle.flat_model.specs.Setting.{Setting, class_of_name, class_of_equation, clock_of, site_answer, class_ticks, name_ticks, equation_ticks, views_at}
use Rattle.flat_model.specs.Meets.{MeetsAt, MeetsBefore, Meets, HasValueAtTicks, HasOneValue}
use Rattle.flat_model.specs.Uses.{Use, ReadsIn}
use Rattle.flat_model.specs.Given.{Row, with_row, with_value, IsKnownOf, IsKnown, HasLastValue, HasReadIn, CanUse, IsOnlySolution}
use Rattle.flat_model.proofs.Agreement.{SameUpTo, views_same, meets_same}
use Rattle.flat_model.proofs.OneSolution.{AreSitesUnclocked}
use Rattle.moment_theory.specs.Free.{AsksLastIn, IsReachedBy}
use Rattle.moment_theory.proofs.Ordered.{IsFreeSide, IsFreeUse, AreFreeUses}
use Rattle.moment_theory.specs.Taken.{AreTaken, AreInputs}
use Rattle.moment_theory.proofs.Rows.{row_now, row_before}
use Rattle.moment_theory.proofs.Transfer.{IsSound}
use Rattle.moment_theory.proofs.Taking.{unchanged, taken_sound, taken_closed}
use Rattle.moment_theory.proofs.GivenByOrder.{AreInputsUnclocked, not_input, inputs_clear, inputs_sound}
use Rattle.moment_theory.proofs.Members.{IsMember}

-- a name that has values
pub record IsValued (s : Setting) (y : ℕ) : Type 0 where
  pub name : FlatName
  pub found : slice_get s.model.names y ≡ Some name
  pub valued : name.kind ≢ kind.Clock

-- what stands in a side of equation i has values, and what stands bare in it has its class
pub record IsSideClassed (s : Setting) (i : ℕ) (e : Expr) : Type 0 where
  pub bare : (y : ℕ) → 0 < bare_count y e → IsValued s y × (class_of_name s y ≡ class_of_equation s i)
  pub last : (z : ℕ) → AsksLastIn e z → IsValued s z

pub record AreClassed (s : Setting) : Type 0 where
  pub sides : (i : ℕ) (left right : Expr) (clause : Option ℕ) → slice_get s.model.equations i ≡ Some (Valued left right clause) → IsSideClassed s i left × IsSideClassed s i right
  pub sites : (class : Option ℕ) (site factor shift : ℕ) → clock_of s class ≡ Some (Event site factor shift) → (condition : Expr) × (slice_get s.clocking.sites site ≡ Some condition)

-- the uses reach every name with values that is no input, and no other, and use every equation between values
pub record AreWhole (s : Setting) (uses : List Use) : Type 0 where
  pub names : (x : ℕ) (name : FlatName) → slice_get s.model.names x ≡ Some name → name.kind ≢ kind.Clock → name.input ≡ false → IsReachedBy x uses
  pub valued : (x : ℕ) → IsReachedBy x uses → IsValued s x
  pub equations : (i : ℕ) (left right : Expr) (clause : Option ℕ) → slice_get s.model.equations i ≡ Some (Valued left right clause) → (entry : Use) × IsMember entry uses × (entry.equation ≡ i)

-- at this moment the table has a value of its type for each input
abbrev pub HasTableValues : Setting → Moment → Type 0
HasTableValues s at = (x : ℕ) (name : FlatName) → slice_get s.model.names x ≡ Some name → name.input ≡ true → (v : Value) × (table_value s.table x at ≡ Some v) × IsOfKind name.kind v

-- the value of a name that is there, of its type
abbrev pub HasTyped : Setting → ℕ → Option Value → Type 0
HasTyped s x o = (name : FlatName) → slice_get s.model.names x ≡ Some name → (v : Value) × (o ≡ Some v) × IsOfKind name.kind v

pub with_own_value : (S : Assignment) (m x : ℕ) (v : Value) → S x m ≡ Some v → SameUpTo (with_value S m x v) S m
with_own_value S m x v own y k le = by_place (eqb_tells k m) (eqb_tells y x)
  where
    by_place : ((k == m ≡ true) × (k ≡ m)) ⊎ ((k == m ≡ false) × (k ≡ m → ⊥)) → ((y == x ≡ true) × (y ≡ x)) ⊎ ((y == x ≡ false) × (y ≡ x → ⊥))
        → (if k == m && y == x then Some v else S y k) ≡ S y k
    by_place (inl (e, at)) (inl (f, is)) = rw (e, f) (rw (at, is) (sym own))
    by_place (inl (e, at)) (inr (f, is)) = rw (e, f) refl
    by_place (inr (e, at)) g = rw e refl

pub known_of : (s : Setting) (S : Assignment) (m : ℕ) (clock : Option Clock) → ((site factor shift : ℕ) → clock ≡ Some (Event site factor shift) → (b : Bool) × (site_answer s S site m ≡ Is (value.Bool b))) → IsKnownOf s S m clock
known_of s S m None sites = tt
known_of s S m (Some (Periodic p a)) sites = tt
known_of s S m (Some (Event site f g)) sites = sites site f g refl

some_typed : (s : Setting) (x : ℕ) (o : Option Value) → IsValued s x → HasTyped s x o → IsSome o
some_typed s x o valued has = let h = has valued.name valued.found in subst IsSome (sym h.1) refl

module _ (s : Setting) (unclocked : AreSitesUnclocked s) (inputs : AreInputsUnclocked s) (classed : AreClassed s) (S : Assignment) (m : ℕ) (uses : List Use) (order : AreFreeUses s uses) (whole : AreWhole s uses)
    (row : Row) (are : AreInputs s m row) (last : Row) (taken : AreTaken s S m uses row last) (at : Moment) (here : moment_at s.instants m ≡ Some at) (table : HasTableValues s at) where
  abbrev T : Assignment
  T = with_row S m last

  -- the condition of each site has a value
  abbrev pub SitesHold : Type 0
  SitesHold = (site : ℕ) (condition : Expr) → slice_get s.clocking.sites site ≡ Some condition → (b : Bool) × (site_answer s T site m ≡ Is (value.Bool b))

  -- each use that counts gives a value
  abbrev pub AllSolved : Type 0
  AllSolved = (entry : Use) (equation : Equation) (name : FlatName) → IsMember entry uses → CanUse s T m entry equation name → (v : Value) × IsOnlySolution s T m entry.equation equation name entry.name v

  module _ (sites : SitesHold) (solved : AllSolved) where
    sound : IsSound s T m
    sound = taken_sound s unclocked S m uses row last order (inputs_clear s unclocked inputs S m uses order row are) taken (inputs_sound s unclocked inputs S m uses order row are)

    known : (class : Option ℕ) → IsKnown s T m class
    known class = known_of s T m (clock_of s class) (λ site f g e. let found = classed.sites class site f g e in sites site found.0 found.1)

    input_value : (x : ℕ) (name : FlatName) → slice_get s.model.names x ≡ Some name → name.input ≡ true → (v : Value) × (last x ≡ Some v) × IsOfKind name.kind v
    input_value x name found input =
        let t = table x name found input in
        let kept = unchanged s unclocked S m uses row last taken x (λ reached. false≢true (sym (not_input s uses order x reached name found) ∙ input)) in
        (t.0, kept ∙ are.inputs x name at found input here ∙ t.1, t.2)

    -- what a side reads has values where all names that are not reached by later uses have
    abbrev HasValuesBut : List Use → Type 0
    HasValuesBut later = (y : ℕ) → (IsReachedBy y later → ⊥) → name_ticks s T y m ≡ true → IsValued s y → HasTyped s y (last y)

    has_last : (y : ℕ) (later : List Use) → HasValuesBut later → (IsReachedBy y later → ⊥) → IsValued s y → HasLastValue s T m y
    has_last y later has not valued = by_tick (name_ticks s T y m) refl
      where
        by_tick : (b : Bool) → name_ticks s T y m ≡ b → HasLastValue s T m y
        by_tick true e = inr (subst IsSome (sym (row_now S m last y)) (some_typed s y (last y) valued (has y not e valued)))
        by_tick false e = inl (known (class_of_name s y), e)

    has_read : (i x : ℕ) (e : Expr) (later : List Use) (entry : Use) → x ≡ entry.name → IsFreeSide s i x e later → IsSideClassed s i e → HasValuesBut (entry ∷ later) → class_ticks s T (class_of_equation s i) m ≡ true
        → (y : ℕ) → y ≢ x → HasReadIn s T m i e y
    has_read i x e later entry own side of has ticks y other =
        let not : ReadsIn s i e y → IsReachedBy y (entry ∷ later) → ⊥ = λ reads h. elim h [
          | inl is ↦ other (is ∙ sym own)
          | inr reached ↦ side.reads y reads reached
        ] in record {
          bare = λ some. let b = of.bare y some in subst IsSome (sym (row_now S m last y))
              (some_typed s y (last y) b.0 (has y (not (inl some)) (ap (λ c. class_ticks s T c m) b.1 ∙ ticks) b.0));
          held = λ some. has_last y (entry ∷ later) has (not (inr (inl some))) (of.last y (inl some));
          converted = λ some meet. has_last y (entry ∷ later) has (not (inr (inr (some, meet)))) (of.last y (inr some));
        }

    -- a use of an equation whose class ticks, where what it reads has values
    can_use : (entry : Use) (later : List Use) (free : IsFreeUse s entry later) → HasValuesBut (entry ∷ later) → class_ticks s T (class_of_equation s entry.equation) m ≡ true
        → CanUse s T m entry (Valued free.left free.right free.clause) free.name
    can_use entry later free has ticks =
        let of = classed.sides entry.equation free.left free.right free.clause free.equation_is in record {
          equation_is = free.equation_is;
          name_is = free.name_is;
          ticks = (known (class_of_equation s entry.equation), ticks);
          reads = λ y other. (
            has_read entry.equation entry.name free.left later entry refl free.left_free of.0 has ticks y other,
            has_read entry.equation entry.name free.right later entry refl free.right_free of.1 has ticks y other,
          );
        }

    -- the value of a use that counts
    pub record HasUse (entry : Use) : Type 0 where
      pub equation : Equation
      pub name : FlatName
      pub v : Value
      pub can : CanUse s T m entry equation name
      pub only : IsOnlySolution s T m entry.equation equation name entry.name v
      pub is : last entry.name ≡ Some v

    use_value : (entry : Use) (later : List Use) (free : IsFreeUse s entry later) → IsMember entry uses → HasValuesBut (entry ∷ later) → class_ticks s T (class_of_equation s entry.equation) m ≡ true → HasUse entry
    use_value entry later free member has ticks =
        let can = can_use entry later free has ticks in
        let one = solved entry (Valued free.left free.right free.clause) free.name member can in record {
          equation = Valued free.left free.right free.clause;
          name = free.name;
          v = one.0;
          can = can;
          only = one.1;
          is = taken_closed s unclocked S m uses row last order taken sound entry (Valued free.left free.right free.clause) free.name one.0 member can one.1;
        }

    typed_use : (entry : Use) → HasUse entry → HasTyped s entry.name (last entry.name)
    typed_use entry given name found = (given.v, given.is, subst (λ n. IsOfKind n.kind given.v) (same_Some given.name name (sym given.can.name_is ∙ found)) given.only.typed)

    -- from the first use to the last
    go_on : (rest : List Use) → AreFreeUses s rest → ((entry : Use) → IsMember entry rest → IsMember entry uses) → HasValuesBut rest → HasValuesBut [] × ((entry : Use) → IsMember entry rest → class_ticks s T (class_of_equation s entry.equation) m ≡ true → HasUse entry)
    go_on [] free members has = (has, λ entry member. absurd member)
    go_on (entry ∷ later) free members has =
        let rest = go_on later free.1 (λ e h. members e (inr h)) next in (
          rest.0,
          λ other member. by_place rest.1 other member,
        )
      where
        now : class_ticks s T (class_of_equation s entry.equation) m ≡ true → HasUse entry
        now ticks = use_value entry later free.0 (members entry (inl refl)) has ticks

        next : HasValuesBut later
        next y not ticks valued = elim (cases_eq y entry.name) [
          | inl is ↦ subst (λ z. HasTyped s z (last z)) (sym is)
              (typed_use entry (now (subst (λ c. class_ticks s T c m ≡ true) free.0.class_is (subst (λ z. name_ticks s T z m ≡ true) is ticks))))
          | inr other ↦ has y (λ h. elim h [
            | inl is ↦ other is
            | inr reached ↦ not reached
          ]) ticks valued
        ]

        by_place : ((e : Use) → IsMember e later → class_ticks s T (class_of_equation s e.equation) m ≡ true → HasUse e) → (other : Use) → IsMember other (entry ∷ later)
            → class_ticks s T (class_of_equation s other.equation) m ≡ true → HasUse other
        by_place rest other (inl is) ticks = subst HasUse is (now (subst (λ e. class_ticks s T (class_of_equation s e.equation) m ≡ true) (sym is) ticks))
        by_place rest other (inr member) ticks = rest other member ticks

    at_first : HasValuesBut uses
    at_first y not ticks valued name found =
        let same = same_Some valued.name name (sym valued.found ∙ found) in
        by_input name.input refl (subst (λ n. n.kind ≢ kind.Clock) same valued.valued)
      where
        by_input : (b : Bool) → name.input ≡ b → name.kind ≢ kind.Clock → (v : Value) × (last y ≡ Some v) × IsOfKind name.kind v
        by_input true e clock = input_value y name found e
        by_input false e clock = absurd (not (whole.names y name found clock e))

    all_values : HasValuesBut []
    all_values = (go_on uses order (λ e h. h) at_first).0

    pub all_uses : (entry : Use) → IsMember entry uses → class_ticks s T (class_of_equation s entry.equation) m ≡ true → HasUse entry
    all_uses = (go_on uses order (λ e h. h) at_first).1

    -- a value is of an input or of a name that a use reaches
    no_value : (x : ℕ) → (IsReachedBy x uses → ⊥) → ((name : FlatName) → slice_get s.model.names x ≡ Some name → name.input ≡ false) → T x m ≡ None
    no_value x not own = row_now S m last x ∙ unchanged s unclocked S m uses row last taken x not ∙ by_value (row x) refl
      where
        by_value : (o : Option Value) → row x ≡ o → row x ≡ None
        by_value None e = e
        by_value (Some v) e = let (name, time, found, input, h) = are.only x v e in absurd (false≢true (sym (own name found) ∙ input))

    none_at_rest : (x : ℕ) → name_ticks s T x m ≡ false → T x m ≡ None
    none_at_rest x e = by_value (T x m) refl
      where
        by_value : (o : Option Value) → T x m ≡ o → T x m ≡ None
        by_value None h = h
        by_value (Some v) h = absurd (false≢true (sym e ∙ (sound x (subst IsSome (sym h) refl)).1))

    name_meets : (x : ℕ) (name : FlatName) (k : NameKind) → slice_get s.model.names x ≡ Some name → name.kind ≡ k → (b : Bool) → name_ticks s T x m ≡ b → HasValueAtTicks k b (T x m)
    name_meets x name kind.Clock found is b e = no_value x
        (λ reached. let v = whole.valued x reached in v.valued (ap (λ n. n.kind) (same_Some v.name name (sym v.found ∙ found)) ∙ is))
        (λ other found'. by_input other found' other.input refl)
      where
        no_clock : (v : Value) → IsOfKind kind.Clock v → ⊥
        no_clock (value.Int z) h = h
        no_clock (value.Bool z) h = h

        by_input : (other : FlatName) → slice_get s.model.names x ≡ Some other → (b : Bool) → other.input ≡ b → other.input ≡ false
        by_input other found' false h = h
        by_input other found' true h =
            let t = table x other found' h in
            absurd (subst (λ k. IsOfKind k t.0 → ⊥) (sym (ap (λ n. n.kind) (same_Some other name (sym found' ∙ found)) ∙ is)) (no_clock t.0) t.2)
    name_meets x name kind.Integer found is true e =
        let h = all_values x (λ r. r) e (record { name = name; found = found; valued = λ c. cc }) name found in
        (h.0, row_now S m last x ∙ h.1, subst (λ k. IsOfKind k h.0) is h.2)
    name_meets x name kind.Boolean found is true e =
        let h = all_values x (λ r. r) e (record { name = name; found = found; valued = λ c. cc }) name found in
        (h.0, row_now S m last x ∙ h.1, subst (λ k. IsOfKind k h.0) is h.2)
    name_meets x name kind.Integer found is false e = none_at_rest x e
    name_meets x name kind.Boolean found is false e = none_at_rest x e

    equation_meets : (i : ℕ) (equation : Equation) → slice_get s.model.equations i ≡ Some equation → equation_ticks s T i m ≡ true → HasOneValue (views_at s T (class_of_equation s i) m) equation
    equation_meets i (Clocks left right clause) found ticks = tt
    equation_meets i (Valued left right clause) found ticks =
        let used = whole.equations i left right clause found in
        let given = all_uses used.0 used.1 (subst (λ j. class_ticks s T (class_of_equation s j) m ≡ true) (sym used.2) ticks) in
        let solves : HasOneValue (views_at s T (class_of_equation s used.0.equation) m) given.equation =
        subst (λ z. HasOneValue z given.equation) (views_same s (with_value T m used.0.name given.v) T (class_of_equation s used.0.equation) m
        (with_own_value T m used.0.name given.v (row_now S m last used.0.name ∙ given.is))) given.only.solves in
        let same : given.equation ≡ Valued left right clause = same_Some given.equation (Valued left right clause) (sym given.can.equation_is ∙ ap (slice_get s.model.equations) used.2 ∙ found) in
        subst (λ j. HasOneValue (views_at s T (class_of_equation s j) m) (Valued left right clause)) used.2 (subst (HasOneValue (views_at s T (class_of_equation s used.0.equation) m)) same solves)

    -- the values that are given meet the model at the moment
    pub meets_now : MeetsAt s T m
    meets_now = record {
      inputs = λ x name time found input h.
          let v = input_value x name found input in
          row_now S m last x ∙ unchanged s unclocked S m uses row last taken x (λ reached. false≢true (sym (not_input s uses order x reached name found) ∙ input)) ∙ are.inputs x name time found input h;
      names = λ x name found. name_meets x name name.kind found refl (name_ticks s T x m) refl;
      others = λ x found. no_value x
          (λ reached. let v = whole.valued x reached in none-some v.name (sym found ∙ v.found))
          (λ name is. absurd (none-some name (sym found ∙ is)));
      sites = sites;
      equations = equation_meets;
    }

    -- and up to it
    pub meets_next : MeetsBefore s S m → Meets s T m
    meets_next before k le = elim (cases_lt k m) [
      | inl lt ↦ meets_same s S T k (λ x j h. sym (row_before S m last x j (omega (arith, h, lt)))) (before k lt)
      | inr ge ↦ subst (MeetsAt s T) (let e : m ≡ k = omega (arith, le, ge) in e) meets_now
    ]
