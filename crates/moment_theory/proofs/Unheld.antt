-- Uses of names on which the conditions of sites rest, and no clock, are pure.
use Rattle.std.proofs.Common.{◌≡◌, ap, ◌∙◌, sym, subst, ℕ, ◌<◌, Bool, true, List, Contains, Option, Some, None, slice_get, ◌⊎◌, inl, inr, arith}
use Rattle.std.proofs.lemmas.Bool.{false≢true}
use Rattle.std.proofs.lemmas.Option.{same_Some}
use Rattle.flat_model.specs.declared.clock.Clock.{Clock}
use Rattle.flat_model.specs.declared.equation.Equation.{Equation}
use Rattle.flat_model.specs.declared.equation.Equation.TheVariants.{Valued}
use Rattle.flat_model.specs.declared.expression.Expr.{Expr}
use Rattle.flat_model.specs.Clocks.{AreOnOneAxis}
use Rattle.flat_model.specs.Occurrences.{bare_count, converted_count}
use Rattle.flat_model.specs.Runnable.{IsSideClocked, IsRunnable}
use Rattle.flat_model.specs.Setting.{Setting, class_of_name, class_of_equation, clock_of}
use Rattle.flat_model.specs.Tables.{IsInput}
use Rattle.flat_model.specs.Uses.{Use, ReadsIn, EquationReads, Reads, AreUses}
use Rattle.moment_theory.specs.Division.{ArePure, AreUnheld, IsReachedWhere, StandsBare}
use Rattle.moment_theory.specs.Free.{AsksLastIn, AsksLast, IsReachedBy}
use Rattle.moment_theory.proofs.Facts.{UseFacts, facts_of_use, class_of_use}
use Rattle.moment_theory.proofs.FromRunnable.{facts_of}
use Rattle.moment_theory.proofs.Members.{member_reached, member_contains}
use Rattle.moment_theory.proofs.Stands.{stands_bare}

module _ (s : Setting) (uses : List Use) (group : ℕ → Bool) (runs : IsRunnable s) (are : AreUses s uses) (unheld : AreUnheld s group) where
  -- the name of a use stands bare in its equation
  own_bare : (entry : Use) (of : UseFacts s entry) → StandsBare (Valued of.left of.right of.clause) entry.name
  own_bare entry of = elim of.solvable.1 [
    | inl reached ↦ inl (let one = stands_bare entry.name of.left reached in omega (arith, one))
    | inr reached ↦ inr (let one = stands_bare entry.name of.right reached in omega (arith, one))
  ]

  none_axis : (c : Option Clock) → AreOnOneAxis None c → ⊥
  none_axis c axis = axis

  use_unclocked : (entry : Use) → Contains uses entry → group entry.name ≡ true → class_of_equation s entry.equation ≡ None
  use_unclocked entry used in_group = sym (class_of_use s (facts_of s runs) entry (facts_of_use s uses are entry used)) ∙ unheld.unclocked entry.name in_group

  not_converted : (entry : Use) → Contains uses entry → group entry.name ≡ true → (e : Expr) → IsSideClocked s entry.equation e → (z : ℕ) → 0 < converted_count z e → ⊥
  not_converted entry used in_group e side z some =
      none_axis (clock_of s (class_of_name s z)) (subst (λ c. AreOnOneAxis (clock_of s c) (clock_of s (class_of_name s z))) (use_unclocked entry used in_group) (side.converted z some).axis)

  abbrev pure : Use → Bool
  pure entry = group entry.name

  reached_in_group : (y : ℕ) → (group y ≡ true) ⊎ IsInput s.model.names y → IsReachedBy y uses → IsReachedWhere pure uses y
  reached_in_group y at reached =
      let (entry, member, same) = member_reached uses y reached in
      let used = member_contains entry uses member in elim at [
        | inl inside ↦ (entry, used, ap group (sym same) ∙ inside, sym same)
        | inr input ↦
            let of = facts_of_use s uses are entry used in
            let names = same_Some of.name input.0 (sym of.name_found ∙ ap (slice_get s.model.names) (sym same) ∙ input.1) in
            absurd (false≢true (sym of.no_input ∙ ap (λ n. n.input) names ∙ input.2))
      ]

  plain_use : (entry : Use) (equation : Equation) (z : ℕ) → Contains uses entry → group entry.name ≡ true → slice_get s.model.equations entry.equation ≡ Some equation → AsksLast equation z → ⊥
  plain_use entry equation z used in_group found asks =
      let of = facts_of_use s uses are entry used in
      let sides : IsSideClocked s entry.equation of.left × IsSideClocked s entry.equation of.right = runs.equations entry.equation (Valued of.left of.right of.clause) of.found in
      let own : AsksLastIn of.left z ⊎ AsksLastIn of.right z = subst (λ q. AsksLast q z) (same_Some equation (Valued of.left of.right of.clause) (sym found ∙ of.found)) asks in elim own [
        | inl last ↦ elim last [
          | inl held ↦ unheld.holds entry.equation (Valued of.left of.right of.clause) entry.name z of.found in_group (own_bare entry of) (inl held)
          | inr converted ↦ not_converted entry used in_group of.left sides.0 z converted
        ]
        | inr last ↦ elim last [
          | inl held ↦ unheld.holds entry.equation (Valued of.left of.right of.clause) entry.name z of.found in_group (own_bare entry of) (inr held)
          | inr converted ↦ not_converted entry used in_group of.right sides.1 z converted
        ]
      ]

  reads_use : (entry : Use) (y : ℕ) → Contains uses entry → group entry.name ≡ true → Reads s entry.equation y → IsReachedBy y uses → IsReachedWhere pure uses y
  reads_use entry y used in_group (equation, found, reads) reached =
      let of = facts_of_use s uses are entry used in
      let own : ReadsIn s entry.equation of.left y ⊎ ReadsIn s entry.equation of.right y = subst (λ q. EquationReads s entry.equation q y) (same_Some equation (Valued of.left of.right of.clause) (sym found ∙ of.found)) reads in elim own [
        | inl r ↦ side (facts_of_use s uses are entry used).left r (λ b. inl b) (λ last. plain_use entry (Valued of.left of.right of.clause) y used in_group of.found (inl last))
        | inr r ↦ side (facts_of_use s uses are entry used).right r (λ b. inr b) (λ last. plain_use entry (Valued of.left of.right of.clause) y used in_group of.found (inr last))
      ]
    where
      side : (e : Expr) → ReadsIn s entry.equation e y → (0 < bare_count y e → StandsBare (Valued (facts_of_use s uses are entry used).left (facts_of_use s uses are entry used).right (facts_of_use s uses are entry used).clause) y) → (AsksLastIn e y → ⊥) → IsReachedWhere pure uses y
      side e (inl bare) there none =
          let of = facts_of_use s uses are entry used in
          reached_in_group y (unheld.beside entry.equation (Valued of.left of.right of.clause) entry.name y of.found in_group (own_bare entry of) (there bare)) reached
      side e (inr (inl held)) there none = absurd (none (inl held))
      side e (inr (inr (converted, meet))) there none = absurd (none (inr converted))

  pub unheld_pure : ArePure s uses pure
  unheld_pure = record {
    unclocked = use_unclocked;
    plain = plain_use;
    reads = reads_use;
    sites = λ class y reads reached. reached_in_group y (unheld.sites class y reads) reached;
  }
