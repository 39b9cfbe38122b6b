use Rattle.std.proofs.Common.{rules, ◌≡◌, true, Ok, Err, Some, slice_get, ap, sym, ◌∙◌, ltb-true}
use Rattle.tree_step.specs.Starts.{sight_of}
use Rattle.tree_step.specs.private.Taking.{ready_in}
use Rattle.tree_step.proofs.Taken.{found_at, solvable_at, solves_at}
use Rattle.tree_step.proofs.taking.take_one.Goals as goal

pub solve_value-requires-clause-spine : goal.solve_value-requires-clause-spine
solve_value-requires-clause-spine c =
    let clock_is : slice_get c.args.scene.now.clocks.now c.args.entry.clock ≡ Some c.in-Some.clock.now =
    found_at c.args.scene.now.clocks.now c.args.entry.clock c.in-Some.clock.now (ltb-true _ _ (sym c.in-Some.ensures.lookup.0)) c.in-Some.ensures.lookup.1 in
    let equation_is : slice_get c.args.scene.now.flat.now.equations c.args.entry.equation ≡ Some c.in-Some-get.equation.now =
    ap (λ es. slice_get es c.args.entry.equation) (sym c.as_slice.ensures)
    ∙ found_at c.as_slice.result.now c.args.entry.equation c.in-Some-get.equation.now (ltb-true _ _ (sym c.in-Some-get.ensures.lookup.0)) c.in-Some-get.ensures.lookup.1 in
    let ready : ready_in c.args.scene.now.places.now c.args.cells.now c.args.entry.name (Some c.in-Some.clock.now) (Some c.in-Some-get.equation.now) ≡ true = search rules in
    (solvable_at (sight_of c.args.scene.now) c.args.cells.now c.args.entry c.in-Some.clock.now c.in-Some-get.equation.now clock_is equation_is ready c.requires).spine

pub solve_value-requires-clause-made : goal.solve_value-requires-clause-made
solve_value-requires-clause-made c =
    let clock_is : slice_get c.args.scene.now.clocks.now c.args.entry.clock ≡ Some c.in-Some.clock.now =
    found_at c.args.scene.now.clocks.now c.args.entry.clock c.in-Some.clock.now (ltb-true _ _ (sym c.in-Some.ensures.lookup.0)) c.in-Some.ensures.lookup.1 in
    let equation_is : slice_get c.args.scene.now.flat.now.equations c.args.entry.equation ≡ Some c.in-Some-get.equation.now =
    ap (λ es. slice_get es c.args.entry.equation) (sym c.as_slice.ensures)
    ∙ found_at c.as_slice.result.now c.args.entry.equation c.in-Some-get.equation.now (ltb-true _ _ (sym c.in-Some-get.ensures.lookup.0)) c.in-Some-get.ensures.lookup.1 in
    let ready : ready_in c.args.scene.now.places.now c.args.cells.now c.args.entry.name (Some c.in-Some.clock.now) (Some c.in-Some-get.equation.now) ≡ true = search rules in
    (solvable_at (sight_of c.args.scene.now) c.args.cells.now c.args.entry c.in-Some.clock.now c.in-Some-get.equation.now clock_is equation_is ready c.requires).can.made

pub solve_value-requires-clause-present : goal.solve_value-requires-clause-present
solve_value-requires-clause-present c =
    let clock_is : slice_get c.args.scene.now.clocks.now c.args.entry.clock ≡ Some c.in-Some.clock.now =
    found_at c.args.scene.now.clocks.now c.args.entry.clock c.in-Some.clock.now (ltb-true _ _ (sym c.in-Some.ensures.lookup.0)) c.in-Some.ensures.lookup.1 in
    let equation_is : slice_get c.args.scene.now.flat.now.equations c.args.entry.equation ≡ Some c.in-Some-get.equation.now =
    ap (λ es. slice_get es c.args.entry.equation) (sym c.as_slice.ensures)
    ∙ found_at c.as_slice.result.now c.args.entry.equation c.in-Some-get.equation.now (ltb-true _ _ (sym c.in-Some-get.ensures.lookup.0)) c.in-Some-get.ensures.lookup.1 in
    let ready : ready_in c.args.scene.now.places.now c.args.cells.now c.args.entry.name (Some c.in-Some.clock.now) (Some c.in-Some-get.equation.now) ≡ true = search rules in
    (solvable_at (sight_of c.args.scene.now) c.args.cells.now c.args.entry c.in-Some.clock.now c.in-Some-get.equation.now clock_is equation_is ready c.requires).can.present

pub solve_value-requires-clause-interval : goal.solve_value-requires-clause-interval
solve_value-requires-clause-interval c =
    let clock_is : slice_get c.args.scene.now.clocks.now c.args.entry.clock ≡ Some c.in-Some.clock.now =
    found_at c.args.scene.now.clocks.now c.args.entry.clock c.in-Some.clock.now (ltb-true _ _ (sym c.in-Some.ensures.lookup.0)) c.in-Some.ensures.lookup.1 in
    let equation_is : slice_get c.args.scene.now.flat.now.equations c.args.entry.equation ≡ Some c.in-Some-get.equation.now =
    ap (λ es. slice_get es c.args.entry.equation) (sym c.as_slice.ensures)
    ∙ found_at c.as_slice.result.now c.args.entry.equation c.in-Some-get.equation.now (ltb-true _ _ (sym c.in-Some-get.ensures.lookup.0)) c.in-Some-get.ensures.lookup.1 in
    let ready : ready_in c.args.scene.now.places.now c.args.cells.now c.args.entry.name (Some c.in-Some.clock.now) (Some c.in-Some-get.equation.now) ≡ true = search rules in
    (solvable_at (sight_of c.args.scene.now) c.args.cells.now c.args.entry c.in-Some.clock.now c.in-Some-get.equation.now clock_is equation_is ready c.requires).measured

pub returns-in-Ok : goal.returns-in-Ok
returns-in-Ok c =
    let clock_is : slice_get c.args.scene.now.clocks.now c.args.entry.clock ≡ Some c.in-Some.clock.now =
    found_at c.args.scene.now.clocks.now c.args.entry.clock c.in-Some.clock.now (ltb-true _ _ (sym c.in-Some.ensures.lookup.0)) c.in-Some.ensures.lookup.1 in
    let equation_is : slice_get c.args.scene.now.flat.now.equations c.args.entry.equation ≡ Some c.in-Some-get.equation.now =
    ap (λ es. slice_get es c.args.entry.equation) (sym c.as_slice.ensures)
    ∙ found_at c.as_slice.result.now c.args.entry.equation c.in-Some-get.equation.now (ltb-true _ _ (sym c.in-Some-get.ensures.lookup.0)) c.in-Some-get.ensures.lookup.1 in
    let ready : ready_in c.args.scene.now.places.now c.args.cells.now c.args.entry.name (Some c.in-Some.clock.now) (Some c.in-Some-get.equation.now) ≡ true = search rules in
    solves_at (sight_of c.args.scene.now) c.args.cells.now c.args.entry c.in-Some.clock.now c.in-Some-get.equation.now clock_is equation_is ready (Ok c.in-Ok.value) c.in-Ok.ensures

pub returns-in-Err : goal.returns-in-Err
returns-in-Err c =
    let clock_is : slice_get c.args.scene.now.clocks.now c.args.entry.clock ≡ Some c.in-Some.clock.now =
    found_at c.args.scene.now.clocks.now c.args.entry.clock c.in-Some.clock.now (ltb-true _ _ (sym c.in-Some.ensures.lookup.0)) c.in-Some.ensures.lookup.1 in
    let equation_is : slice_get c.args.scene.now.flat.now.equations c.args.entry.equation ≡ Some c.in-Some-get.equation.now =
    ap (λ es. slice_get es c.args.entry.equation) (sym c.as_slice.ensures)
    ∙ found_at c.as_slice.result.now c.args.entry.equation c.in-Some-get.equation.now (ltb-true _ _ (sym c.in-Some-get.ensures.lookup.0)) c.in-Some-get.ensures.lookup.1 in
    let ready : ready_in c.args.scene.now.places.now c.args.cells.now c.args.entry.name (Some c.in-Some.clock.now) (Some c.in-Some-get.equation.now) ≡ true = search rules in
    solves_at (sight_of c.args.scene.now) c.args.cells.now c.args.entry c.in-Some.clock.now c.in-Some-get.equation.now clock_is equation_is ready (Err c.in-Err.kind) c.in-Err.ensures
