use Rattle.std.proofs.Common.{rules, ◌≡◌, ◌-ℤ◌, sym, subst}
use Rattle.flat_model.specs.Operators.{Is, joined}
use Rattle.sync_values.specs.Arithmetic.{fitted}
use Rattle.sync_values.specs.declared.value.Value.TheVariants as value
use Rattle.sync_values.specs.declared.value.ChainOp.TheVariants.{Minus}
use Rattle.eq_orient.specs.private.Undoing.{UndoneBy}
use Rattle.eq_orient.proofs.Undoing.{by_whole, minus_left}
use Rattle.eq_orient.proofs.solving.before_left.Goals as goal

pub returns-in-Minus : goal.returns-in-Minus
returns-in-Minus c =
    let number : c.sub-in-Minus.result ≡ fitted (c.args.left -ℤ c.args.target) = search rules in
    subst (λ op. UndoneBy (λ a. joined op (Is (value.Int c.args.left)) a) (value.Int c.args.target) c.whole-in-Minus.result) (sym c.in-Minus.is)
    (by_whole (λ a. joined Minus (Is (value.Int c.args.left)) a) (λ t. c.args.left -ℤ t) c.args.target c.sub-in-Minus.result c.whole-in-Minus.result (minus_left c.args.left) c.requires.target number c.whole-in-Minus.ensures)
