-- What a use gives stays where what decides of it stays.
use Rattle.std.proofs.Common.{◌≡◌, ◌≢◌, refl, ◌∙◌, sym, subst, ℕ, List, Option, Some, IsSome, slice_get, ◌⊎◌, inl, inr}
use Rattle.std.proofs.lemmas.Option.{same_Some}
use Rattle.sync_values.specs.declared.value.Value.{Value}
use Rattle.flat_model.specs.declared.equation.Equation.{Equation}
use Rattle.flat_model.specs.declared.equation.Equation.TheVariants.{Valued}
use Rattle.flat_model.specs.declared.expression.Expr.{Expr}
use Rattle.flat_model.specs.declared.model.FlatName.{FlatName}
use Rattle.flat_model.specs.Meaning.{value_of}
use Rattle.flat_model.specs.Assignment.{Assignment}
use Rattle.flat_model.specs.Setting.{Setting, class_of_name, class_of_equation, views_at}
use Rattle.flat_model.specs.Uses.{Use, ReadsIn, SiteReads}
use Rattle.flat_model.specs.Given.{IsKnownToTick, HasReadsBut, Solves, IsOnlySolution, CanUse, with_value}
use Rattle.flat_model.proofs.Agreement.{SameBefore}
use Rattle.flat_model.proofs.OneSolution.{AreSitesUnclocked}
use Rattle.moment_theory.specs.Free.{AsksLastIn, IsReachedBy}
use Rattle.moment_theory.proofs.Ordered.{IsFreeSide, IsFreeUse}
use Rattle.flat_model.proofs.Above.{IsBelow}
use Rattle.flat_model.proofs.Sites.{class_ticks_by_site, known_same, still_known}
use Rattle.moment_theory.proofs.Rows.{IsSideUp, read_up, side_same}

-- each value at m is of a name that is known to tick
abbrev pub IsSound : Setting → Assignment → ℕ → Type 0
IsSound s S m = (z : ℕ) → IsSome (S z m) → IsKnownToTick s S m (class_of_name s z)

-- what is known to tick stays so
pub known_up : (s : Setting) (A B : Assignment) (m : ℕ) (class : Option ℕ) → AreSitesUnclocked s → SameBefore A B m → ((y : ℕ) → SiteReads s class y → IsBelow (A y m) (B y m))
    → IsKnownToTick s A m class → IsKnownToTick s B m class
known_up s A B m class unclocked same up counts =
    let site = known_same s A B m class unclocked counts.0 up in
    (still_known s A B m class counts.0 site, sym (class_ticks_by_site s A B class m same site) ∙ counts.1)

-- what decides whether a use counts, and what it gives, is a value of y
abbrev pub Needs : (s : Setting) (entry : Use) (later : List Use) → IsFreeUse s entry later → ℕ → Type 0
Needs s entry later free y = (y ≢ entry.name × (ReadsIn s entry.equation free.left y ⊎ ReadsIn s entry.equation free.right y))
    ⊎ SiteReads s (class_of_equation s entry.equation) y
    ⊎ ((z : ℕ) × (AsksLastIn free.left z ⊎ AsksLastIn free.right z) × SiteReads s (class_of_name s z) y)

-- a value that is needed is not still to be reached
pub needs_earlier : (s : Setting) (entry : Use) (later : List Use) (free : IsFreeUse s entry later) (y : ℕ) → Needs s entry later free y → (y ≡ entry.name) ⊎ IsReachedBy y later → ⊥
needs_earlier s entry later free y (inl (other, reads)) (inl is) = other is
needs_earlier s entry later free y (inl (other, inl reads)) (inr reached) = free.left_free.reads y reads reached
needs_earlier s entry later free y (inl (other, inr reads)) (inr reached) = free.right_free.reads y reads reached
needs_earlier s entry later free y (inr (inl reads)) h = free.site y reads h
needs_earlier s entry later free y (inr (inr (z, inl asks, reads))) h = free.left_free.sites z y asks reads h
needs_earlier s entry later free y (inr (inr (z, inr asks, reads))) h = free.right_free.sites z y asks reads h

module _ (s : Setting) (unclocked : AreSitesUnclocked s) (A B : Assignment) (m : ℕ) (same : SameBefore A B m) (entry : Use) (later : List Use) (free : IsFreeUse s entry later)
    (up : (y : ℕ) → Needs s entry later free y → IsBelow (A y m) (B y m)) (sound : IsSound s A m) where
  abbrev i : ℕ
  i = entry.equation

  abbrev x : ℕ
  x = entry.name

  abbrev own : Equation
  own = Valued free.left free.right free.clause

  side_up : (e : Expr) → ((y : ℕ) → ReadsIn s i e y → ReadsIn s i free.left y ⊎ ReadsIn s i free.right y) → ((z : ℕ) → AsksLastIn e z → AsksLastIn free.left z ⊎ AsksLastIn free.right z)
      → IsFreeSide s i x e later → IsSideUp s unclocked A B m same i x e
  side_up e reads asks side = record {
    reads = λ y other r. up y (inl (other, reads y r));
    sites = λ z y a r. up y (inr (inr (z, asks z a, r)));
    known = λ z a some. (sound z some).0;
    not_own = λ z a r. side.sites z x a r (inl refl);
    own = side.own;
    axis = side.axis;
    samples = side.samples;
  }

  left_up : IsSideUp s unclocked A B m same i x free.left
  left_up = side_up free.left (λ y r. inl r) (λ z a. inl a) free.left_free

  right_up : IsSideUp s unclocked A B m same i x free.right
  right_up = side_up free.right (λ y r. inr r) (λ z a. inr a) free.right_free

  counts_up : IsKnownToTick s A m (class_of_equation s i) → IsKnownToTick s B m (class_of_equation s i)
  counts_up = known_up s A B m (class_of_equation s i) unclocked same (λ y reads. up y (inr (inl reads)))

  own_is : (equation : Equation) → slice_get s.model.equations i ≡ Some equation → own ≡ equation
  own_is equation e = same_Some own equation (sym free.equation_is ∙ e)

  reads_up : IsKnownToTick s A m (class_of_equation s i) → HasReadsBut s A m i x own → HasReadsBut s B m i x own
  reads_up counts has y other = (
    read_up s unclocked A B m same i x free.left left_up counts y other (has y other).0,
    read_up s unclocked A B m same i x free.right right_up counts y other (has y other).1,
  )

  pub can_up : (equation : Equation) (name : FlatName) → CanUse s A m entry equation name → CanUse s B m entry equation name
  can_up equation name can = record {
    equation_is = can.equation_is;
    name_is = can.name_is;
    ticks = counts_up can.ticks;
    reads = subst (HasReadsBut s B m i x) (own_is equation can.equation_is) (reads_up can.ticks (subst (HasReadsBut s A m i x) (sym (own_is equation can.equation_is)) can.reads));
  }

  module _ (counts : IsKnownToTick s A m (class_of_equation s i)) (has : HasReadsBut s A m i x own) where
    left_same : (v : Value) → value_of free.left (views_at s (with_value A m x v) (class_of_equation s i) m) ≡ value_of free.left (views_at s (with_value B m x v) (class_of_equation s i) m)
    left_same v = side_same s unclocked A B m same i x free.left left_up counts v (λ y other. (has y other).0)

    right_same : (v : Value) → value_of free.right (views_at s (with_value A m x v) (class_of_equation s i) m) ≡ value_of free.right (views_at s (with_value B m x v) (class_of_equation s i) m)
    right_same v = side_same s unclocked A B m same i x free.right right_up counts v (λ y other. (has y other).1)

    solves_up : (v : Value) → Solves s A m i own x v → Solves s B m i own x v
    solves_up v (w, one, two) = (w, sym (left_same v) ∙ one, sym (right_same v) ∙ two)

    solves_down : (v : Value) → Solves s B m i own x v → Solves s A m i own x v
    solves_down v (w, one, two) = (w, left_same v ∙ one, right_same v ∙ two)

    own_only_up : (name : FlatName) (v : Value) → IsOnlySolution s A m i own name x v → IsOnlySolution s B m i own name x v
    own_only_up name v only = record {
      typed = only.typed;
      solves = solves_up v only.solves;
      only = λ w typed solves. only.only w typed (solves_down w solves);
    }

  reads_own : (equation : Equation) (name : FlatName) → CanUse s A m entry equation name → HasReadsBut s A m i x own
  reads_own equation name can = subst (HasReadsBut s A m i x) (sym (own_is equation can.equation_is)) can.reads

  pub only_up : (equation : Equation) (name : FlatName) (v : Value) → CanUse s A m entry equation name → IsOnlySolution s A m i equation name x v → IsOnlySolution s B m i equation name x v
  only_up equation name v can only = subst (λ q. IsOnlySolution s B m i q name x v) (own_is equation can.equation_is)
      (own_only_up can.ticks (reads_own equation name can) name v (subst (λ q. IsOnlySolution s A m i q name x v) (sym (own_is equation can.equation_is)) only))

  pub solved_down : (equation : Equation) (name : FlatName) (v : Value) → CanUse s A m entry equation name → Solves s B m i equation x v → Solves s A m i equation x v
  solved_down equation name v can solves = subst (λ q. Solves s A m i q x v) (own_is equation can.equation_is)
      (solves_down can.ticks (reads_own equation name can) v (subst (λ q. Solves s B m i q x v) (sym (own_is equation can.equation_is)) solves))

  pub solved_up : (equation : Equation) (name : FlatName) (v : Value) → CanUse s A m entry equation name → Solves s A m i equation x v → Solves s B m i equation x v
  solved_up equation name v can solves = subst (λ q. Solves s B m i q x v) (own_is equation can.equation_is)
      (solves_up can.ticks (reads_own equation name can) v (subst (λ q. Solves s A m i q x v) (sym (own_is equation can.equation_is)) solves))
