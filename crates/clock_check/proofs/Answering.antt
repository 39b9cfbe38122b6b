-- The answers, rule by rule.
use Rattle.std.proofs.Common.{◌≡◌, subst, ℕ, List, Option, Err, length}
use Rattle.flat_model.specs.declared.model.FlatModel.{FlatModel}
use Rattle.clock_terms.specs.declared.data.Terms.{Terms}
use Rattle.clock_terms.specs.declared.data.Classes.{Classes}
use Rattle.clock_terms.specs.declared.data.Grid.{Grid}
use Rattle.clock_terms.specs.declared.data.NodeOf.{NodeOf}
use Rattle.clock_terms.specs.Said.{AreTermsOf}
use Rattle.clock_spread.specs.Least.{IsLeastOf}
use Rattle.clock_spread.proofs.Leasts.{least_same}
use Rattle.clock_check.specs.declared.kinds.CheckEnd.{CheckEnd}
use Rattle.clock_check.specs.declared.kinds.CheckEnd.TheVariants.{Factor, EarlyStart, NotOnEvent, EventFactor, HoldInCondition, NoMemory}
use Rattle.clock_check.specs.Checking.{Checks, BreaksRule, HoldsInCondition}
use Rattle.clock_check.specs.private.Holding.{IsHoldingAt}
use Rattle.clock_check.proofs.Conditions.{holding_to, holding_from}

pub breaks_checks : (model : FlatModel) (terms : Terms) (classes : Classes) (grids : List Grid) (end : CheckEnd) → BreaksRule terms classes grids end → Checks model terms classes grids (Err end)
breaks_checks model terms classes grids (Factor e) h = h
breaks_checks model terms classes grids (EarlyStart c) h = h
breaks_checks model terms classes grids (NotOnEvent c) h = h
breaks_checks model terms classes grids (EventFactor c) h = h
breaks_checks model terms classes grids (HoldInCondition e) h = absurd h
breaks_checks model terms classes grids NoMemory h = absurd h

pub held_least : (model : FlatModel) (terms : Terms) (classes : Classes) (o : Option ℕ) → AreTermsOf model terms → IsLeastOf (IsHoldingAt classes.class_of terms.holds terms.nodes (length model.names)) o
    → IsLeastOf (HoldsInCondition model classes) o
held_least model terms classes o are h =
    least_same (IsHoldingAt classes.class_of terms.holds terms.nodes (length model.names)) (HoldsInCondition model classes) o (λ e p. holding_to model terms classes are e p) (λ e p. holding_from model terms classes are e p) h

pub held_at : (model : FlatModel) (terms : Terms) (classes : Classes) (class_of holds : List ℕ) (nodes : List NodeOf) (first : ℕ) (o : Option ℕ) → AreTermsOf model terms
    → class_of ≡ classes.class_of → holds ≡ terms.holds → nodes ≡ terms.nodes → first ≡ length model.names → IsLeastOf (IsHoldingAt class_of holds nodes first) o → IsLeastOf (HoldsInCondition model classes) o
held_at model terms classes class_of holds nodes first o are e1 e2 e3 e4 h =
    held_least model terms classes o are
    (subst (λ x. IsLeastOf (IsHoldingAt x terms.holds terms.nodes (length model.names)) o) e1
    (subst (λ x. IsLeastOf (IsHoldingAt class_of x terms.nodes (length model.names)) o) e2
    (subst (λ x. IsLeastOf (IsHoldingAt class_of holds x (length model.names)) o) e3
    (subst (λ x. IsLeastOf (IsHoldingAt class_of holds nodes x) o) e4 h))))
