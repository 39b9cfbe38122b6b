use Rattle.std.proofs.Common.{◌≡◌, ◌∙◌, ap, ap₂, sym, ◌++◌, append-nil, map, length, false, replicate, drop, [], arith}
use Rattle.std.proofs.lemmas.List.{drop_all}
use Rattle.eq_order.specs.Order.{use_of}
use Rattle.moment_order.specs.private.Resting.{stages_from}
use Rattle.moment_order.proofs.Staged.{staged}
use Rattle.moment_order.proofs.division.stages.Goals as goal

pub returns : goal.returns
returns c = λ s model clocking uses_are.
    let e = c.args.flat.now.equations in
    let uses = c.args.uses.now in
    let none : drop c.loop-entry.entry-index uses ≡ [] = drop_all c.loop-entry.entry-index uses (omega (arith, c.loop-entry-test.false)) in
    let found : c.loop-entry.stages ≡ stages_from e c.args.clocking.now (replicate (length c.args.flat.now.names) false) (map use_of uses) =
    sym (append-nil c.loop-entry.stages) ∙ ap (λ rest. c.loop-entry.stages ++ stages_from e c.args.clocking.now c.loop-entry.late.items (map use_of rest)) (sym none) ∙ c.loop-entry.invariant in
    staged s (map use_of uses) uses_are c.loop-entry.stages
    (found ∙ ap₂ (λ m k. stages_from m.equations k (replicate (length m.names) false) (map use_of uses)) (sym model) (sym clocking))
