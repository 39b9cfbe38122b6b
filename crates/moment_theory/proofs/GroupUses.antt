-- A use within a group gives, and fails, alike under two assignments that agree on the group.
use Rattle.std.proofs.Common.{◌≡◌, refl, ap, ◌∙◌, sym, subst, ℕ, ◌==◌, ◌&&◌, if◌then◌else◌, Bool, true, Option, Some, None, IsSome, slice_get, inl, inr, arith}
use Rattle.std.proofs.lemmas.Option.{same_Some}
use Rattle.sync_values.specs.declared.value.Value.{Value}
use Rattle.flat_model.specs.declared.clock.Clock.{Clock}
use Rattle.flat_model.specs.declared.clock.Clock.TheVariants.{Periodic, Event}
use Rattle.flat_model.specs.declared.equation.Equation.{Equation}
use Rattle.flat_model.specs.declared.equation.Equation.TheVariants.{Valued}
use Rattle.flat_model.specs.declared.expression.Expr.{Expr}
use Rattle.flat_model.specs.declared.model.FlatName.{FlatName}
use Rattle.flat_model.specs.Assignment.{Assignment, IsOfKind}
use Rattle.flat_model.specs.Given.{with_value, IsKnownOf, IsKnown, HasLastValue, HasReadIn, HasReadsBut, Solves, IsOnlySolution, CanUse}
use Rattle.flat_model.specs.Setting.{Setting, class_of_name, class_of_equation, clock_of, site_answer, class_ticks}
use Rattle.flat_model.specs.Uses.{Use}
use Rattle.flat_model.proofs.Links.{asked_bare, asked_last}
use Rattle.flat_model.proofs.OneSolution.{AreSitesUnclocked}
use Rattle.moment_theory.specs.Groups.{AgreeOnUpTo, IsClockWithin, IsNameWithin, IsWithin, IsUseWithin}
use Rattle.moment_theory.proofs.Groups.{class_local, value_local}
use Rattle.moment_theory.proofs.Unknown.{site_same}

module _ (s : Setting) (unclocked : AreSitesUnclocked s) (group : ℕ → Bool) where
  -- setting one name in both changes nothing of their agreement
  values_agree : (A B : Assignment) (m x : ℕ) (v : Value) → AgreeOnUpTo group A B m → AgreeOnUpTo group (with_value A m x v) (with_value B m x v) m
  values_agree A B m x v same y k own le = ap (λ o. if k == m && y == x then Some v else o) (same y k own le)

  back : {A B : Assignment} {m : ℕ} → AgreeOnUpTo group A B m → AgreeOnUpTo group B A m
  back same x k own le = sym (same x k own le)

  module _ (A B : Assignment) (m : ℕ) (same : AgreeOnUpTo group A B m) where
    known_by : (clock : Option Clock) → ((site factor shift : ℕ) → clock ≡ Some (Event site factor shift) → site_answer s A site m ≡ site_answer s B site m) → IsKnownOf s A m clock → IsKnownOf s B m clock
    known_by None alike known = tt
    known_by (Some (Periodic p a)) alike known = tt
    known_by (Some (Event site f g)) alike known = (known.0, sym (alike site f g refl) ∙ known.1)

    known_within : (class : Option ℕ) → IsClockWithin s group class → IsKnown s A m class → IsKnown s B m class
    known_within class within known = known_by (clock_of s class) (site_same s A B m class unclocked (λ y reads. same y m (within y reads) (omega arith))) known

    ticks_within : (class : Option ℕ) → IsClockWithin s group class → class_ticks s A class m ≡ class_ticks s B class m
    ticks_within class within = class_local s unclocked group A B m same class within m (omega arith)

    some_within : (y : ℕ) → group y ≡ true → IsSome (A y m) → IsSome (B y m)
    some_within y own some = subst IsSome (same y m own (omega arith)) some

    last_within : (y : ℕ) → IsNameWithin s group y → HasLastValue s A m y → HasLastValue s B m y
    last_within y within (inl (known, rests)) = inl (known_within (class_of_name s y) within.clock known, sym (ticks_within (class_of_name s y) within.clock) ∙ rests)
    last_within y within (inr some) = inr (some_within y within.own some)

    read_within : (i : ℕ) (e : Expr) → IsWithin s group (class_of_equation s i) e → (y : ℕ) → HasReadIn s A m i e y → HasReadIn s B m i e y
    read_within i e within y has = record {
      bare = λ some. some_within y (within.now 0 y (let count = asked_bare y e in omega (arith, some, count))) (has.bare some);
      held = λ some. last_within y (within.last 0 y (let count = asked_last y e in omega (arith, some, count))) (has.held some);
      converted = λ some meet. last_within y (within.last 0 y (let count = asked_last y e in omega (arith, some, count))) (has.converted some meet);
    }

    module _ (entry : Use) (within : IsUseWithin s group entry) where
      own_is : (equation : Equation) → slice_get s.model.equations entry.equation ≡ Some equation → Valued within.left within.right within.clause ≡ equation
      own_is equation found = same_Some (Valued within.left within.right within.clause) equation (sym within.found ∙ found)

      can_within : (equation : Equation) (name : FlatName) → CanUse s A m entry equation name → CanUse s B m entry equation name
      can_within equation name can = record {
        equation_is = can.equation_is;
        name_is = can.name_is;
        ticks = (
          known_within (class_of_equation s entry.equation) within.left_is.clock can.ticks.0,
          sym (ticks_within (class_of_equation s entry.equation) within.left_is.clock) ∙ can.ticks.1,
        );
        reads = subst (HasReadsBut s B m entry.equation entry.name) (own_is equation can.equation_is)
            (λ y other. let has = subst (HasReadsBut s A m entry.equation entry.name) (sym (own_is equation can.equation_is)) can.reads y other in
            (read_within entry.equation within.left within.left_is y has.0, read_within entry.equation within.right within.right_is y has.1));
      }

      solves_own : (v : Value) → Solves s A m entry.equation (Valued within.left within.right within.clause) entry.name v → Solves s B m entry.equation (Valued within.left within.right within.clause) entry.name v
      solves_own v (a, one, two) =
          let both = values_agree A B m entry.name v same in (
            a,
            sym (value_local s unclocked group (with_value A m entry.name v) (with_value B m entry.name v) m both within.left (class_of_equation s entry.equation) within.left_is) ∙ one,
            sym (value_local s unclocked group (with_value A m entry.name v) (with_value B m entry.name v) m both within.right (class_of_equation s entry.equation) within.right_is) ∙ two,
          )

      pub solves_within : (equation : Equation) → slice_get s.model.equations entry.equation ≡ Some equation → (v : Value) → Solves s A m entry.equation equation entry.name v → Solves s B m entry.equation equation entry.name v
      solves_within equation found v solves =
          subst (λ q. Solves s B m entry.equation q entry.name v) (own_is equation found) (solves_own v (subst (λ q. Solves s A m entry.equation q entry.name v) (sym (own_is equation found)) solves))

  -- what a use gives rests on the group
  pub only_within : (A B : Assignment) (m : ℕ) → AgreeOnUpTo group A B m → (entry : Use) → IsUseWithin s group entry → (equation : Equation) (name : FlatName) (v : Value)
      → CanUse s A m entry equation name → IsOnlySolution s A m entry.equation equation name entry.name v → CanUse s B m entry equation name × IsOnlySolution s B m entry.equation equation name entry.name v
  only_within A B m same entry within equation name v can only = (
    can_within A B m same entry within equation name can,
    record {
      typed = only.typed;
      solves = solves_within A B m same entry within equation can.equation_is v only.solves;
      only = λ w typed solves. only.only w typed (solves_within B A m (back same) entry within equation can.equation_is w solves);
    },
  )

  -- and so does that no value solves it
  pub none_within : (A B : Assignment) (m : ℕ) → AgreeOnUpTo group A B m → (entry : Use) → IsUseWithin s group entry → (equation : Equation) (name : FlatName)
      → CanUse s A m entry equation name → ((v : Value) → IsOfKind name.kind v → Solves s A m entry.equation equation entry.name v → ⊥)
      → CanUse s B m entry equation name × ((v : Value) → IsOfKind name.kind v → Solves s B m entry.equation equation entry.name v → ⊥)
  none_within A B m same entry within equation name can none = (
    can_within A B m same entry within equation name can,
    λ v typed solves. none v typed (solves_within B A m (back same) entry within equation can.equation_is v solves),
  )
