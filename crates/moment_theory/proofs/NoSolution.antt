-- Where something fails over the given values, nothing meets the model at the moment; where nothing does, only one assignment does.
use Rattle.std.proofs.Common.{◌≡◌, ◌≢◌, refl, ◌∙◌, sym, subst, ℕ, Bool, true, false, List, [], ◌∷◌, Option, Some, None, slice_get, inl, inr, ◌==◌, if◌then◌else◌}
use Rattle.std.proofs.Math.Path.{fun_ext}
use Rattle.sync_values.specs.declared.value.Value.{Value}
use Rattle.sync_values.specs.declared.value.Value.TheVariants as value
use Rattle.sync_values.specs.declared.value.Fail.{Fail}
use Rattle.flat_model.specs.declared.model.FlatName.{FlatName}
use Rattle.flat_model.specs.declared.model.NameKind.{NameKind}
use Rattle.flat_model.specs.declared.model.NameKind.TheVariants as kind
use Rattle.flat_model.specs.Operators.{Is, Fails}
use Rattle.flat_model.specs.Assignment.{Assignment, IsOfKind}
use Rattle.flat_model.specs.Setting.{Setting, class_of_equation, site_answer, class_ticks, name_ticks}
use Rattle.flat_model.specs.Meets.{MeetsAt, HasValueAtTicks, HasOneValue}
use Rattle.flat_model.specs.Uses.{Use}
use Rattle.flat_model.specs.Given.{Row, with_row, with_value, IsGiven, CanUse, Solves, IsOnlySolution}
use Rattle.flat_model.specs.Faults.{SiteFails, EquationFails, SomethingFails}
use Rattle.flat_model.proofs.Agreement.{SameBefore, views_same}
use Rattle.flat_model.proofs.GivenValues.{AreOfOneClass, given_where_met}
use Rattle.flat_model.proofs.OneSolution.{AreSitesUnclocked, same_where_given}
use Rattle.moment_theory.proofs.Ordered.{IsFreeUse, AreFreeUses}
use Rattle.moment_theory.specs.Taken.{Gives, IsTaken, AreTaken, AreInputs}
use Rattle.flat_model.proofs.Above.{IsBelow, Above}
use Rattle.flat_model.proofs.Sites.{site_up}
use Rattle.moment_theory.proofs.Rows.{row_now, row_before}
use Rattle.moment_theory.proofs.Transfer.{IsSound, can_up, solved_down}
use Rattle.moment_theory.proofs.Taking.{taken_sound}
use Rattle.moment_theory.proofs.GivenByOrder.{AreInputsUnclocked, AreSameMembers, inputs_clear, inputs_sound, taken_given}
use Rattle.moment_theory.proofs.Meeting.{with_own_value}
use Rattle.moment_theory.proofs.Members.{IsMember, contains_member, member_contains}

pub same_uses : (uses : List Use) → AreSameMembers uses uses
same_uses uses = record { within = λ entry h. member_contains entry uses h; whole = λ entry h. contains_member entry uses h }

pub free_of : (s : Setting) (uses : List Use) → AreFreeUses s uses → (entry : Use) → IsMember entry uses → (later : List Use) × IsFreeUse s entry later
free_of s [] order entry h = absurd h
free_of s (first ∷ uses) order entry (inl is) = (uses, subst (λ e. IsFreeUse s e uses) is order.0)
free_of s (first ∷ uses) order entry (inr h) = free_of s uses order.1 entry h

pub one_class : (s : Setting) (uses : List Use) → AreFreeUses s uses → AreOfOneClass s uses
one_class s uses order entry h = (free_of s uses order entry (contains_member entry uses h)).1.class_is

pub value_at : (k : NameKind) (ticks : Bool) (o : Option Value) → k ≢ kind.Clock → ticks ≡ true → HasValueAtTicks k ticks o → (w : Value) × (o ≡ Some w) × IsOfKind k w
value_at kind.Integer true o valued t h = h
value_at kind.Boolean true o valued t h = h
value_at kind.Clock ticks o valued t h = absurd (valued refl)
value_at k false o valued t h = absurd cc

cell : (b : Bool) (a c d : Option Value) → (if b then a else d) ≡ (if b then a else (if b then c else d))
cell true a c d = refl
cell false a c d = refl

below_is : (o p : Option Value) → ((v : Value) → o ≡ Some v → p ≡ Some v) → IsBelow o p
below_is None p h = tt
below_is (Some v) p h = h v refl

-- the same uses taken over an assignment that is the same apart from m
taken_again : (s : Setting) (S U : Assignment) (m : ℕ) → ((row : Row) → with_row S m row ≡ with_row U m row) → (uses : List Use) (row last : Row) → AreTaken s S m uses row last → AreTaken s U m uses row last
taken_again s S U m path [] row last taken = taken
taken_again s S U m path (entry ∷ uses) row last (next, step, rest) = (next, again step, taken_again s S U m path uses next last rest)
  where
    moved : (A B : Assignment) (v : Value) → with_row A m row ≡ with_row B m row → Gives s A m row entry v → Gives s B m row entry v
    moved A B v is gives = record {
      equation = gives.equation;
      name = gives.name;
      can = subst (λ R. CanUse s R m entry gives.equation gives.name) is gives.can;
      only = subst (λ R. IsOnlySolution s R m entry.equation gives.equation gives.name entry.name v) is gives.only;
    }

    again : IsTaken s S m entry row next → IsTaken s U m entry row next
    again (inl (v, gives, is)) = inl (v, moved S U v (path row) gives, is)
    again (inr (none, is)) = inr (λ v gives. none v (moved U S v (sym (path row)) gives), is)

module _ (s : Setting) (unclocked : AreSitesUnclocked s) (inputs : AreInputsUnclocked s) (S : Assignment) (m : ℕ) (uses : List Use) (order : AreFreeUses s uses)
    (valued : (entry : Use) (name : FlatName) → IsMember entry uses → slice_get s.model.names entry.name ≡ Some name → name.kind ≢ kind.Clock)
    (row : Row) (are : AreInputs s m row) (last : Row) (taken : AreTaken s S m uses row last) (T : Assignment) (same : SameBefore S T m) (there : MeetsAt s T m) where
  abbrev U : Assignment
  U = with_row S m last

  pub given : IsGiven s S uses m last
  given = taken_given s unclocked inputs S m uses order row are uses last (same_uses uses) taken

  same_there : SameBefore U T m
  same_there x k lt = row_before S m last x k lt ∙ same x k lt

  up : (y : ℕ) → IsBelow (U y m) (T y m)
  up y = subst (λ o. IsBelow o (T y m)) (sym (row_now S m last y)) (below_is (last y) (T y m) (given_where_met s S T uses m last (one_class s uses order) given same there y))

  site_has : (site : ℕ) (kind : Fail) → SiteFails s U m site kind → ⊥
  site_has site kind fails =
      let above = site_up s U T site m unclocked (λ condition y f some. up y) in
      let failing : site_answer s T site m ≡ Fails kind = subst (λ a. Above a (site_answer s T site m)) fails.fails above in
      let holds = there.sites site fails.condition fails.found in
      clash kind holds.0 (sym failing ∙ holds.1)
    where
      clash : (kind : Fail) (b : Bool) → Fails kind ≡ Is (value.Bool b) → ⊥
      clash kind b e = absurd cc

  sound : IsSound s U m
  sound = taken_sound s unclocked S m uses row last order (inputs_clear s unclocked inputs S m uses order row are) taken (inputs_sound s unclocked inputs S m uses order row are)

  equation_has : (i : ℕ) (kind : Fail) → EquationFails s U uses m i kind → ⊥
  equation_has i kind fails =
      let entry = fails.entry in
      let member = contains_member entry uses fails.used in
      let (later, free) = free_of s uses order entry member in
      let can = can_up s unclocked U T m same_there entry later free (λ y not. up y) sound fails.equation fails.name fails.counts in
      let ticks : name_ticks s T entry.name m ≡ true = subst (λ c. class_ticks s T c m ≡ true) (sym free.class_is) can.ticks.1 in
      let (w, is, typed) = value_at fails.name.kind (name_ticks s T entry.name m) (T entry.name m) (valued entry fails.name member can.name_is) ticks (there.names entry.name fails.name can.name_is) in
      let one = there.equations entry.equation fails.equation can.equation_is can.ticks.1 in
      let solves : Solves s T m entry.equation fails.equation entry.name w =
      subst (λ z. HasOneValue z fails.equation) (sym (views_same s (with_value T m entry.name w) T (class_of_equation s entry.equation) m (with_own_value T m entry.name w is))) one in
      let down = solved_down s unclocked U T m same_there entry later free (λ y not. up y) sound fails.equation fails.name w fails.counts solves in
      fails.unsolved w typed (subst (λ j. Solves s U m j fails.equation entry.name w) fails.equation_is down)

  -- so whatever meets the model at m, nothing fails there
  pub nothing_fails : SomethingFails s U uses m → ⊥
  nothing_fails (inl (site, kind, fails)) = site_has site kind fails
  nothing_fails (inr (i, kind, fails)) = equation_has i kind fails

  -- and where the given values meet the model, they are its values
  pub same_now : MeetsAt s U m → (x : ℕ) → U x m ≡ T x m
  same_now here x = same_where_given s U T uses m last (one_class s uses order) unclocked given_over (λ y v e. sym (row_now S m last y) ∙ e) same_there here there x
    where
      row_again : (other : Row) → with_row S m other ≡ with_row U m other
      row_again other = fun_ext (λ y. fun_ext (λ k. cell (k == m) (other y) (last y) (S y k)))

      given_over : IsGiven s U uses m last
      given_over = taken_given s unclocked inputs U m uses order row are uses last (same_uses uses) (taken_again s S U m row_again uses row last taken)
