use Rattle.std.proofs.Common.{arith, ◌≡◌, ◌<◌, sym, subst, ℕ, length, get_or}
use Rattle.std.proofs.lemmas.Option.{slice_get-get_or}
use Rattle.moment_inputs.proofs.SetInputs.{AreSet, none_set, set_next, all_set}
use Rattle.moment_inputs.proofs.inputs.set_inputs.Goals as goal

pub loop-column-init : goal.loop-column-init
loop-column-init c = subst (AreSet c.args.table.now c.args.row 0 (length c.args.now.now)) (sym c.clear.ensures) (none_set c.args.table.now c.args.row (length c.args.now.now))

pub loop-column-preserved : goal.loop-column-preserved
loop-column-preserved c =
    let lt : c.loop-column.column < length c.args.table.now.columns = omega (arith, c.loop-column-test.true, c.len-column-end.ensures) in
    let x : ℕ = get_or c.args.table.now.columns c.loop-column.column 0 in
    let found = slice_get-get_or c.args.table.now.columns c.loop-column.column 0 lt in
    set_next c.args.table.now c.args.row c.loop-column.column (length c.args.now.now) c.loop-column.now c.set_column.new.now x c.requires.fits c.loop-column.invariant found (c.set_column.ensures x found)

pub returns-clause-values : goal.returns-clause-values
returns-clause-values c =
    let all : c.loop-column.column ≡ length c.args.table.now.columns = omega (arith, c.loop-column-test.false, c.loop-column.auto.column-end, c.len-column-end.ensures) in
    all_set c.args.table.now c.args.row (length c.args.now.now) c.loop-column.now (subst (λ k. AreSet c.args.table.now c.args.row k (length c.args.now.now) c.loop-column.now) all c.loop-column.invariant)
