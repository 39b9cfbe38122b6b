-- A side that solves the equation of an entry is one of the entry.
use Rattle.std.proofs.Common.{◌≡◌, ◌∙◌, sym, subst, List, Some, None, IfErr, Result, IfOk, slice_get}
use Rattle.std.proofs.lemmas.Option.{none-some, same_Some}
use Rattle.std.proofs.lemmas.Result.{IfOk-weaker}
use Rattle.flat_model.specs.declared.equation.Equation.{Equation}
use Rattle.step_code.specs.declared.compile.NoCode.{NoCode}
use Rattle.tree_step.specs.declared.taking.Entry.{Entry}
use Rattle.undone_side.specs.Undone.{IsSolvedSide, IsUnsolved}
use Rattle.part_code.specs.declared.sides.NameSide.{NameSide}
use Rattle.part_code.specs.Coded.{IsSideOf}
use Rattle.part_code.specs.Uncoded.{HasNoSide}
use Rattle.part_code.specs.private.Lines.{expr_of}
use Rattle.part_code.specs.private.Refused.{IsDueTo}
use Rattle.part_code.proofs.Refusing.{due_within}

module _ (equations : List Equation) (entry : Entry) where
  module _ (equation : Equation) (found : slice_get equations entry.equation ≡ Some equation) where
    pub side_found : (r : Result NameSide NoCode) → IfOk r (λ side. IsSolvedSide entry.name equation (expr_of side)) → IfOk r (λ side. IsSideOf equations entry (expr_of side))
    side_found r = IfOk-weaker r (λ side. IsSolvedSide entry.name equation (expr_of side)) (λ side. IsSideOf equations entry (expr_of side)) (λ side solved. record { equation = equation; found = found; solved = solved })

    pub side_refused : (r : Result NameSide NoCode) → IfErr r (IsDueTo (IsUnsolved entry.name equation)) → IfErr r (IsDueTo (HasNoSide equations entry))
    side_refused = due_within (λ unsolved other other_found. subst (IsUnsolved entry.name) (same_Some equation other (sym found ∙ other_found)) unsolved)
