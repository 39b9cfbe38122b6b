use Rattle.std.proofs.Common.{◌≡◌, ap, sym, ◌∙◌, [], ◌∷◌, drop}
use Rattle.flat_types.specs.Outcomes.{first_broken}
use Rattle.flat_types.specs.Readings.{in_turn}
use Rattle.flat_types.proofs.Lists.{no_condition, no_branch}
use Rattle.flat_types.proofs.operators.first_broken_in_turn.Goals as goal
use Rattle.flat_types.proofs.operators.first_broken_in_turn.Goals.{then-turns-test+else-at-branches, else-turns-test}

pub returns : goal.returns
returns c =
    let ended : in_turn (drop c.turns.at c.args.conditions.now) (drop c.turns.at c.args.branches.now) c.args.other.now ≡ c.args.other.now ∷ [] =
    elim c.turns-test.branch [
      | then-turns-test+else-at-branches w ↦ no_branch c.args.conditions.now c.args.branches.now c.args.other.now c.turns.at w.if-at-branches.false
      | else-turns-test w ↦ no_condition c.args.conditions.now c.args.branches.now c.args.other.now c.turns.at w.turns-test.false
    ] in
    c.broken.ensures ∙ ap first_broken (sym ended) ∙ c.turns.invariant
