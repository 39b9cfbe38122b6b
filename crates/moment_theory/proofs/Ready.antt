-- A setting that is runnable, with an order and a free order of the same uses, is ready for the lemmas of a moment.
use Rattle.std.proofs.Common.{◌≡◌, ◌≢◌, refl, ap, ◌∙◌, sym, subst, ℕ, zero, suc, false, List, [], ◌∷◌, map, Contains, Option, Some, slice_get, ◌⊎◌, inl, inr, arith}
use Rattle.std.proofs.lemmas.Bool.{cases_eq}
use Rattle.std.proofs.lemmas.Option.{same_Some}
use Rattle.flat_model.specs.declared.equation.Equation.{Equation}
use Rattle.flat_model.specs.declared.equation.Equation.TheVariants.{Valued}
use Rattle.flat_model.specs.declared.expression.Expr.{Expr}
use Rattle.flat_model.specs.declared.model.FlatName.{FlatName}
use Rattle.flat_model.specs.declared.model.NameKind.TheVariants as kind
use Rattle.flat_model.specs.Given.{Solves}
use Rattle.flat_model.specs.Order.{IsOrder}
use Rattle.flat_model.specs.Runnable.{IsRunnable}
use Rattle.flat_model.specs.Setting.{Setting, class_of_name}
use Rattle.flat_model.specs.Uses.{Use, SiteReads, used_equations, reached_names}
use Rattle.flat_model.proofs.Links.{asked_earlier}
use Rattle.moment_theory.specs.Free.{AsksLastIn, IsReachedBy, AreFree, AreSameUses}
use Rattle.moment_theory.proofs.Ordered.{IsFreeUse}
use Rattle.moment_theory.proofs.MetTaken.{AreSolvedOnce}
use Rattle.moment_theory.proofs.Facts.{Facts, UseFacts, facts_of_use, ordered, once_left, once_right}
use Rattle.moment_theory.proofs.FromRunnable.{facts_of}
use Rattle.moment_theory.proofs.Meeting.{IsValued, AreWhole}
use Rattle.moment_theory.proofs.Members.{IsMember, contains_member, member_contains, reached_member, member_reached}
use Rattle.moment_theory.proofs.NoSolution.{free_of}
use Rattle.moment_theory.proofs.Running.{IsReady}
use Rattle.moment_theory.proofs.Solutions.{one_solution}

-- a number is in a list or not
contains_or : (xs : List ℕ) (x : ℕ) → Contains xs x ⊎ (Contains xs x → ⊥)
contains_or [] x = inr none
  where
    none : Contains [] x → ⊥
    none (k, lt, e) = absurd (omega (arith, lt))
contains_or (y ∷ xs) x = by_first (cases_eq y x) (contains_or xs x)
  where
    by_first : (y ≡ x) ⊎ (y ≢ x) → Contains xs x ⊎ (Contains xs x → ⊥) → Contains (y ∷ xs) x ⊎ (Contains (y ∷ xs) x → ⊥)
    by_first (inl is) rest = inl (0, omega arith, is)
    by_first (inr other) (inl (k, lt, e)) = inl (suc k, omega (arith, lt), e)
    by_first (inr other) (inr none) = inr neither
      where
        neither : Contains (y ∷ xs) x → ⊥
        neither (zero, lt, e) = other e
        neither (suc k, lt, e) = none (k, omega (arith, lt), e)

-- an entry behind a number of a list of numbers
entry_of : (f : Use → ℕ) (uses : List Use) (x : ℕ) → Contains (map f uses) x → (entry : Use) × IsMember entry uses × (f entry ≡ x)
entry_of f [] x (k, lt, e) = absurd (omega (arith, lt))
entry_of f (first ∷ uses) x (zero, lt, e) = (first, inl refl, e)
entry_of f (first ∷ uses) x (suc k, lt, e) = let (entry, member, is) = entry_of f uses x (k, omega (arith, lt), e) in (entry, inr member, is)

module _ (s : Setting) (uses order : List Use) (order_is : IsOrder s uses) (same : AreSameUses uses order) where
  to_order : (entry : Use) → IsMember entry uses → IsMember entry order
  to_order entry member = contains_member entry order (same.all entry (member_contains entry uses member))

  all_reached : (x : ℕ) (name : FlatName) → slice_get s.model.names x ≡ Some name → name.kind ≢ kind.Clock → name.input ≡ false → IsReachedBy x order
  all_reached x name found valued own = by_place (contains_or (reached_names uses) x)
    where
      by_place : Contains (reached_names uses) x ⊎ (Contains (reached_names uses) x → ⊥) → IsReachedBy x order
      by_place (inl there) = let (entry, member, is) = entry_of (λ e. e.name) uses x there in subst (λ z. IsReachedBy z order) is (reached_member order entry (to_order entry member))
      by_place (inr none) = absurd (order_is.reached x (record { name = name; found = found; valued = valued; own = own; later = none }))

  all_used : (i : ℕ) (left right : Expr) (clause : Option ℕ) → slice_get s.model.equations i ≡ Some (Valued left right clause) → (entry : Use) × IsMember entry order × (entry.equation ≡ i)
  all_used i left right clause found = by_place (contains_or (used_equations uses) i)
    where
      by_place : Contains (used_equations uses) i ⊎ (Contains (used_equations uses) i → ⊥) → (entry : Use) × IsMember entry order × (entry.equation ≡ i)
      by_place (inl there) = let (entry, member, is) = entry_of (λ e. e.equation) uses i there in (entry, to_order entry member, is)
      by_place (inr none) = absurd (order_is.used i (left, right, clause, found, none))

  -- what is known of the entries of the free order
  pub order_facts : (entry : Use) → IsMember entry order → UseFacts s entry
  order_facts entry member = facts_of_use s uses order_is.uses_are entry (same.only entry (member_contains entry order member))

  order_valued : (x : ℕ) → IsReachedBy x order → IsValued s x
  order_valued x reached =
      let (entry, member, is) = member_reached order x reached in
      let of = order_facts entry member in
      record { name = of.name; found = ap (slice_get s.model.names) is ∙ of.name_found; valued = of.valued }

  pub whole_order : AreWhole s order
  whole_order = record { names = all_reached; valued = order_valued; equations = all_used }

pub ready : (s : Setting) (uses order : List Use) → IsRunnable s → IsOrder s uses → AreSameUses uses order → AreFree s order → IsReady s order
ready s uses order runs order_is same free =
    let facts = facts_of s runs in record {
      unclocked = facts.unclocked;
      inputs = facts.inputs;
      classed = facts.classed;
      order = ordered s facts uses order order_is.uses_are same free;
      whole = whole_order s uses order order_is same;
    }

-- no use of a free order has two solutions
pub solved_once : (s : Setting) (uses order : List Use) → IsRunnable s → IsOrder s uses → AreSameUses uses order → AreFree s order → AreSolvedOnce s order
solved_once s uses order runs order_is same free entry member T m ticks equation name found name_found v w typed_v typed_w solves_v solves_w =
    let facts = facts_of s runs in
    let of = order_facts s uses order order_is same entry member in
    let (later, at) = free_of s order (ordered s facts uses order order_is.uses_are same free) entry member in
    let ends : Valued of.left of.right of.clause ≡ equation = same_Some (Valued of.left of.right of.clause) equation (sym of.found ∙ found) in
    let formed = facts.formed entry.equation of.left of.right of.clause of.found in
    one_solution s facts.unclocked T m entry.equation entry.name ticks w v of.left of.right of.clause of.solvable
    (record {
      own = once_left s facts entry of;
      sites = λ z asks reads. waits facts of at z (inl asks) reads;
      early = λ class d q some. facts.samples entry.equation of.left of.right of.clause of.found class (inl (asked_earlier of.left d q some));
      formed = formed.0;
    })
    (record {
      own = once_right s facts entry of;
      sites = λ z asks reads. waits facts of at z (inr asks) reads;
      early = λ class d q some. facts.samples entry.equation of.left of.right of.clause of.found class (inr (asked_earlier of.right d q some));
      formed = formed.1;
    })
    (subst (λ q. Solves s T m entry.equation q entry.name w) (sym ends) solves_w)
    (subst (λ q. Solves s T m entry.equation q entry.name v) (sym ends) solves_v)
  where
    waits : Facts s → (of : UseFacts s entry) {later : List Use} → IsFreeUse s entry later → (z : ℕ) → AsksLastIn of.left z ⊎ AsksLastIn of.right z → SiteReads s (class_of_name s z) entry.name → ⊥
    waits facts of at z asks reads = elim asks [
      | inl own ↦ at.left_free.sites z entry.name (subst (λ e. AsksLastIn e z) (same_left of.found at.equation_is) own) reads (inl refl)
      | inr own ↦ at.right_free.sites z entry.name (subst (λ e. AsksLastIn e z) (same_right of.found at.equation_is) own) reads (inl refl)
    ]
      where
        same_left : {a b c d : Expr} {i j : Option ℕ} {o : Option Equation} → o ≡ Some (Valued a b i) → o ≡ Some (Valued c d j) → a ≡ c
        same_left e f = let h = sym e ∙ f in cc

        same_right : {a b c d : Expr} {i j : Option ℕ} {o : Option Equation} → o ≡ Some (Valued a b i) → o ≡ Some (Valued c d j) → b ≡ d
        same_right e f = let h = sym e ∙ f in cc
