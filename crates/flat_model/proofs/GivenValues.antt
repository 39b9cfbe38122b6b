-- The given values at a moment are those of every assignment that meets the model there.
use Rattle.std.proofs.Common.{◌≡◌, refl, ap, ◌∙◌, sym, subst, ℕ, ◌==◌, ◌&&◌, Bool, true, false, List, Option, Some, if◌then◌else◌, arith, ◌⊎◌, inl, inr}
use Rattle.std.specs.List.{Contains}
use Rattle.std.proofs.lemmas.Bool.Decides.{eqb_tells}
use Rattle.sync_values.specs.declared.value.Value.{Value}
use Rattle.flat_model.specs.declared.model.NameKind.{NameKind}
use Rattle.flat_model.specs.declared.model.NameKind.TheVariants as kind
use Rattle.flat_model.specs.Assignment.{Assignment, IsOfKind}
use Rattle.flat_model.specs.Setting.{Setting, class_of_name, class_of_equation, class_ticks, name_ticks}
use Rattle.flat_model.specs.Meets.{MeetsAt, HasValueAtTicks, HasOneValue}
use Rattle.flat_model.specs.Uses.{Use}
use Rattle.flat_model.specs.Given.{Row, with_row, with_value, Solves, IsClosed, IsGiven}
use Rattle.flat_model.proofs.Agreement.{SameBefore, SameUpTo, views_same, meets_same}

-- each name that is reached has the class of the equation that reaches it
abbrev pub AreOfOneClass : Setting → List Use → Type 0
AreOfOneClass s uses = (entry : Use) → Contains uses entry → class_of_name s entry.name ≡ class_of_equation s entry.equation

-- T is S before m with T's own row at m
with_own_row : (S T : Assignment) (m : ℕ) → SameBefore S T m → SameUpTo T (with_row S m (λ x. T x m)) m
with_own_row S T m same x k le = by_moment (eqb_tells k m)
  where
    by_moment : ((k == m ≡ true) × (k ≡ m)) ⊎ ((k == m ≡ false) × (k ≡ m → ⊥)) → T x k ≡ (if k == m then T x m else S x k)
    by_moment (inl (e, at)) = rw e (ap (T x) at)
    by_moment (inr (e, other)) = rw e (sym (same x k (omega arith)))

-- setting a name to the value that it has changes nothing
with_own_value : (S : Assignment) (m x : ℕ) (v : Value) → S x m ≡ Some v → SameUpTo S (with_value S m x v) m
with_own_value S m x v own y k le = by_place (eqb_tells k m) (eqb_tells y x)
  where
    by_place : ((k == m ≡ true) × (k ≡ m)) ⊎ ((k == m ≡ false) × (k ≡ m → ⊥)) → ((y == x ≡ true) × (y ≡ x)) ⊎ ((y == x ≡ false) × (y ≡ x → ⊥))
        → S y k ≡ (if k == m && y == x then Some v else S y k)
    by_place (inl (e, at)) (inl (f, is)) = rw (e, f) (rw (at, is) own)
    by_place (inl (e, at)) (inr (f, is)) = rw (e, f) refl
    by_place (inr (e, at)) g = rw e refl

-- a name with a value at a tick
value_at : (k : NameKind) (ticks : Bool) (o : Option Value) (v : Value) → IsOfKind k v → ticks ≡ true → HasValueAtTicks k ticks o → (w : Value) × (o ≡ Some w) × IsOfKind k w
value_at kind.Integer true o v typed t h = h
value_at kind.Boolean true o v typed t h = h
value_at kind.Clock ticks o v typed t h = absurd typed
value_at k false o v typed t h = absurd cc

-- the row of an assignment that meets the model is closed
pub closed_where_met : (s : Setting) (S T : Assignment) (uses : List Use) (m : ℕ) → AreOfOneClass s uses → SameBefore S T m → MeetsAt s T m → IsClosed s S uses m (λ x. T x m)
closed_where_met s S T uses m classes same meets = record {
  inputs = λ x name at f i e. meets.inputs x name at f i e;
  solved = λ entry equation name v used can only.
      let U = with_row S m (λ x. T x m) in
      let own = meets_same s T U m (with_own_row S T m same) meets in
      let ticks : name_ticks s U entry.name m ≡ true = subst (λ c. class_ticks s U c m ≡ true) (sym (classes entry used)) can.ticks.1 in
      let (w, is, typed) = value_at name.kind (name_ticks s U entry.name m) (U entry.name m) v only.typed ticks (own.names entry.name name can.name_is) in
      let one = own.equations entry.equation equation can.equation_is can.ticks.1 in
      let solves : Solves s U m entry.equation equation entry.name w =
      subst (λ z. HasOneValue z equation) (views_same s U (with_value U m entry.name w) (class_of_equation s entry.equation) m (with_own_value U m entry.name w is)) one in
      with_own_row S T m same entry.name m (omega arith) ∙ is ∙ ap Some (only.only w typed solves);
}

-- what is given at a moment is what each assignment has that is the same before it and meets the model there
pub given_where_met : (s : Setting) (S T : Assignment) (uses : List Use) (m : ℕ) (row : Row) → AreOfOneClass s uses → IsGiven s S uses m row → SameBefore S T m → MeetsAt s T m
    → (x : ℕ) (v : Value) → row x ≡ Some v → T x m ≡ Some v
given_where_met s S T uses m row classes given same meets = given.least (λ x. T x m) (closed_where_met s S T uses m classes same meets)
