-- Typed equations that can be solved have no code only for their size.
use Rattle.std.proofs.Common.{◌∙◌, sym, subst, List}
use Rattle.std.proofs.lemmas.Option.{same_Some}
use Rattle.flat_model.specs.declared.equation.Equation.{Equation}
use Rattle.flat_model.specs.declared.equation.Equation.TheVariants.{Valued}
use Rattle.flat_model.specs.declared.expression.Expr.{Expr}
use Rattle.flat_model.specs.declared.model.FlatName.{FlatName}
use Rattle.flat_model.specs.Typing.{types_in}
use Rattle.tree_step.specs.declared.taking.Entry.{Entry}
use Rattle.tree_step.specs.Starts.{IsAmong}
use Rattle.undone_side.specs.Undone.{IsSolvedSide}
use Rattle.undone_side.proofs.Kept.{side_known}
use Rattle.part_code.specs.Coded.{IsSideOf}
use Rattle.part_code.specs.Uncoded.{HasNoSide, IsTypedSide, AreTooLarge, HasNoCode, unsolved, untyped, large, IsSolvable}

module _ (equations : List Equation) (names : List FlatName) (entry : Entry) (is : IsSolvable equations names entry) where
  has_side : HasNoSide equations entry → ⊥
  has_side none = none (Valued is.left is.right is.clause) is.found is.made is.on_left is.spine

  typed : (side : Expr) → IsSideOf equations entry side → IsTypedSide names side
  typed side of =
      let solved : IsSolvedSide entry.name (Valued is.left is.right is.clause) side = subst (λ q. IsSolvedSide entry.name q side) (same_Some of.equation (Valued is.left is.right is.clause) (sym of.found ∙ is.found)) of.solved in
      let known = side_known (types_in names) entry.name is.left is.right is.clause side solved is.made is.type is.left_typed is.right_typed in
      record { type = known.type; typed = known.side_type; plain = known.plain }

pub only_size : (equations : List Equation) (names : List FlatName) (entries : List Entry) → ((entry : Entry) → IsAmong entry entries → IsSolvable equations names entry) → HasNoCode equations names entries → AreTooLarge equations entries
only_size equations names entries all (unsolved entry among none) = absurd (has_side equations names entry (all entry among) none)
only_size equations names entries all (untyped entry among side of not_typed) = absurd (not_typed (typed equations names entry (all entry among) side of))
only_size equations names entries all (large size) = size
