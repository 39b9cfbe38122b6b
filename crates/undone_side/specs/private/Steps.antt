-- One step on the way to a name, undone.
use Rattle.std.specs.Prelude.{◌≡◌, ℕ, true, List, ◌∷◌, ◌++◌}
use Rattle.sync_values.specs.declared.value.ChainOp.{ChainOp}
use Rattle.flat_model.specs.declared.expression.Expr.{Expr}
use Rattle.flat_model.specs.declared.expression.Expr.TheVariants.{Chain}
use Rattle.flat_model.specs.Occurrences.{is_reached}
use Rattle.undone_side.specs.Undone.{UndoesTo}

-- what is left of a sum without all parts but one is what this one is undone from
abbrev pub LeadsTo : Expr → List Expr → List ChainOp → List Expr → Expr → Type 0
LeadsTo whole front ops back rest = (x : ℕ) (part side : Expr) → is_reached x part ≡ true → UndoesTo x part rest side → UndoesTo x (Chain (front ++ part ∷ back) ops) whole side
