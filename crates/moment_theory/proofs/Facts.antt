-- What the model gives of each equation that is used, and with it a free order as the lemmas take it.
use Rattle.std.proofs.Common.{◌≡◌, ◌≢◌, refl, subst, ℕ, ◌<◌, true, false, List, [], ◌∷◌, ◌++◌, Option, Some, None, slice_get, Contains, ◌⊎◌, inl, inr, arith}
use Rattle.flat_model.specs.declared.equation.Equation.{Equation}
use Rattle.flat_model.specs.declared.equation.Equation.TheVariants.{Valued, Clocks}
use Rattle.flat_model.specs.declared.expression.Expr.{Expr}
use Rattle.flat_model.specs.declared.model.FlatName.{FlatName}
use Rattle.flat_model.specs.declared.model.NameKind.TheVariants as kind
use Rattle.flat_model.specs.Occurrences.{held_count, converted_count, sample_count}
use Rattle.flat_model.specs.Moments.{moment_at}
use Rattle.flat_model.specs.declared.clock.Moment.{Moment}
use Rattle.flat_model.specs.Setting.{Setting, class_of_name, class_of_equation, clock_of}
use Rattle.flat_model.specs.Uses.{Use, IsSolvableFor, CanReach, AreUsesAfter, AreUses}
use Rattle.flat_model.proofs.OneSolution.{AreSitesUnclocked}
use Rattle.moment_theory.specs.Free.{AsksLastIn, IsFree, AreFree, AreSameUses}
use Rattle.flat_model.specs.Clocks.{AreOnOneAxis}
use Rattle.moment_theory.proofs.Ordered.{IsFreeUse, AreFreeUses}
use Rattle.moment_theory.proofs.GivenByOrder.{AreInputsUnclocked, AreSameMembers}
use Rattle.moment_theory.proofs.Meeting.{AreClassed, HasTableValues}
use Rattle.moment_theory.proofs.Members.{IsMember, contains_member, member_contains}
use Rattle.moment_theory.proofs.Alone.{is_formed}
use Rattle.moment_theory.proofs.Stands.{stands_bare}

-- what a model and its clocking give, whatever is used
pub record Facts (s : Setting) : Type 0 where
  pub unclocked : AreSitesUnclocked s
  pub inputs : AreInputsUnclocked s
  pub classed : AreClassed s
  pub axis : (i : ℕ) (left right : Expr) (clause : Option ℕ) → slice_get s.model.equations i ≡ Some (Valued left right clause)
      → (z : ℕ) → (0 < converted_count z left) ⊎ (0 < converted_count z right) → AreOnOneAxis (clock_of s (class_of_equation s i)) (clock_of s (class_of_name s z))
  pub samples : (i : ℕ) (left right : Expr) (clause : Option ℕ) → slice_get s.model.equations i ≡ Some (Valued left right clause)
      → class_of_equation s i ≡ None → (0 < sample_count left) ⊎ (0 < sample_count right) → ⊥
  pub formed : (i : ℕ) (left right : Expr) (clause : Option ℕ) → slice_get s.model.equations i ≡ Some (Valued left right clause) → (is_formed left ≡ true) × (is_formed right ≡ true)
  pub tables : (m : ℕ) (at : Moment) → moment_at s.instants m ≡ Some at → HasTableValues s at

-- what is known of a use
pub record UseFacts (s : Setting) (entry : Use) : Type 0 where
  pub left : Expr
  pub right : Expr
  pub clause : Option ℕ
  pub found : slice_get s.model.equations entry.equation ≡ Some (Valued left right clause)
  pub solvable : IsSolvableFor entry.name (Valued left right clause)
  pub name : FlatName
  pub name_found : slice_get s.model.names entry.name ≡ Some name
  pub valued : name.kind ≢ kind.Clock
  pub no_input : name.input ≡ false

use_facts : (s : Setting) (done : List Use) (entry : Use) → CanReach s done entry.equation entry.name → UseFacts s entry
use_facts s done entry can = by_kind can.equation can.found can.solvable
  where
    by_kind : (equation : Equation) → slice_get s.model.equations entry.equation ≡ Some equation → IsSolvableFor entry.name equation → UseFacts s entry
    by_kind (Clocks left right clause) found solvable = absurd solvable
    by_kind (Valued left right clause) found solvable = record {
      left = left;
      right = right;
      clause = clause;
      found = found;
      solvable = solvable;
      name = can.unreached.name;
      name_found = can.unreached.found;
      valued = can.unreached.valued;
      no_input = can.unreached.own;
    }

after_facts : (s : Setting) (done rest : List Use) → AreUsesAfter s done rest → (entry : Use) → IsMember entry rest → UseFacts s entry
after_facts s done [] are entry member = absurd member
after_facts s done (first ∷ rest) are entry (inl is) = subst (UseFacts s) is (use_facts s done first are.0.reaches)
after_facts s done (first ∷ rest) are entry (inr member) = after_facts s (done ++ first ∷ []) rest are.1 entry member

pub facts_of_use : (s : Setting) (uses : List Use) → AreUses s uses → (entry : Use) → Contains uses entry → UseFacts s entry
facts_of_use s uses are entry used = after_facts s [] uses are entry (contains_member entry uses used)

-- an expression in which a name is bare and stands once in all does not ask for its last value
not_last : (x : ℕ) (e : Expr) → held_count x e ≡ 0 → converted_count x e ≡ 0 → AsksLastIn e x → ⊥
not_last x e no_hold no_conversion (inl some) = omega (arith, some, no_hold)
not_last x e no_hold no_conversion (inr some) = omega (arith, some, no_conversion)

module _ (s : Setting) (facts : Facts s) (entry : Use) (use_is : UseFacts s entry) where
  pub once_left : AsksLastIn use_is.left entry.name → ⊥
  once_left = elim use_is.solvable.1 [
    | inl reached ↦ let one = stands_bare entry.name use_is.left reached in let total = use_is.solvable.0 in not_last entry.name use_is.left (omega (arith, one, total)) (omega (arith, one, total))
    | inr reached ↦ let one = stands_bare entry.name use_is.right reached in let total = use_is.solvable.0 in not_last entry.name use_is.left (omega (arith, one, total)) (omega (arith, one, total))
  ]

  pub once_right : AsksLastIn use_is.right entry.name → ⊥
  once_right = elim use_is.solvable.1 [
    | inl reached ↦ let one = stands_bare entry.name use_is.left reached in let total = use_is.solvable.0 in not_last entry.name use_is.right (omega (arith, one, total)) (omega (arith, one, total))
    | inr reached ↦ let one = stands_bare entry.name use_is.right reached in let total = use_is.solvable.0 in not_last entry.name use_is.right (omega (arith, one, total)) (omega (arith, one, total))
  ]

  pub class_of_use : class_of_name s entry.name ≡ class_of_equation s entry.equation
  class_of_use = let sides = facts.classed.sides entry.equation use_is.left use_is.right use_is.clause use_is.found in elim use_is.solvable.1 [
    | inl reached ↦ (sides.0.bare entry.name (let one = stands_bare entry.name use_is.left reached in omega (arith, one))).1
    | inr reached ↦ (sides.1.bare entry.name (let one = stands_bare entry.name use_is.right reached in omega (arith, one))).1
  ]

  pub free_use : (later : List Use) → IsFree s entry later → IsFreeUse s entry later
  free_use later free = record {
    left = use_is.left;
    right = use_is.right;
    clause = use_is.clause;
    equation_is = use_is.found;
    left_free = record {
      reads = λ y reads reached. free.reads y (Valued use_is.left use_is.right use_is.clause, use_is.found, inl reads) reached;
      sites = λ z y asks reads reached. free.sites (class_of_name s z) y (inr (Valued use_is.left use_is.right use_is.clause, z, use_is.found, inl asks, refl)) reads reached;
      own = once_left;
      axis = λ z some. facts.axis entry.equation use_is.left use_is.right use_is.clause use_is.found z (inl some);
      samples = λ class some. facts.samples entry.equation use_is.left use_is.right use_is.clause use_is.found class (inl some);
    };
    right_free = record {
      reads = λ y reads reached. free.reads y (Valued use_is.left use_is.right use_is.clause, use_is.found, inr reads) reached;
      sites = λ z y asks reads reached. free.sites (class_of_name s z) y (inr (Valued use_is.left use_is.right use_is.clause, z, use_is.found, inr asks, refl)) reads reached;
      own = once_right;
      axis = λ z some. facts.axis entry.equation use_is.left use_is.right use_is.clause use_is.found z (inr some);
      samples = λ class some. facts.samples entry.equation use_is.left use_is.right use_is.clause use_is.found class (inr some);
    };
    once = free.once;
    site = λ y reads reached. free.sites (class_of_equation s entry.equation) y (inl refl) reads reached;
    class_is = class_of_use;
    name = use_is.name;
    name_is = use_is.name_found;
    no_input = use_is.no_input;
  }

pub free_uses : (s : Setting) → Facts s → (order : List Use) → ((entry : Use) → IsMember entry order → UseFacts s entry) → AreFree s order → AreFreeUses s order
free_uses s facts [] each free = tt
free_uses s facts (entry ∷ later) each free = (free_use s facts entry (each entry (inl refl)) later free.0, free_uses s facts later (λ e member. each e (inr member)) free.1)

pub same_members : (uses order : List Use) → AreSameUses uses order → AreSameMembers uses order
same_members uses order same = record {
  within = λ entry member. same.only entry (member_contains entry order member);
  whole = λ entry used. contains_member entry order (same.all entry used);
}

-- the uses of a model in a free order
pub ordered : (s : Setting) → Facts s → (uses order : List Use) → AreUses s uses → AreSameUses uses order → AreFree s order → AreFreeUses s order
ordered s facts uses order are same free = free_uses s facts order (λ entry member. facts_of_use s uses are entry (same.only entry (member_contains entry order member))) free
