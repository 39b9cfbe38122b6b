use Rattle.std.proofs.Common.{◌∙◌, subst, Ok}
use Rattle.flat_types.specs.private.Checked.{AreChecked}
use Rattle.flat_types.proofs.Answering.{ended, known_right, typed_so}
use Rattle.flat_types.proofs.model.typed.Goals as goal

pub returns-in_err-equations : goal.returns-in_err-equations
returns-in_err-equations c =
    let passed = c.from_residual-in_err-equations.ensures in
    ended c.args.raw.now c.as_slice.result.now c.as_slice-2.result.now c.as_slice-3.result.now c.as_slice-4.result.now c.in_err-equations.field-0.0
    c.as_slice.ensures c.as_slice-2.ensures (c.as_slice-3.ensures ∙ c.in_ok-clocks.ensures) c.as_slice-4.ensures c.in_err-equations.ensures
    c.from_residual-in_err-equations.result passed.0 passed.1

pub all_clocks-requires : goal.all_clocks-requires
all_clocks-requires c =
    known_right c.args.raw.now c.as_slice.result.now c.as_slice-2.result.now c.in_ok-clocks.clocks c.as_slice-4.result.now c.in_ok-equations.equations
    c.as_slice.ensures c.as_slice-2.ensures c.in_ok-clocks.ensures c.as_slice-4.ensures
    (subst (λ known. AreChecked c.as_slice.result.now known c.as_slice-4.result.now (Ok c.in_ok-equations.equations)) c.as_slice-3.ensures c.in_ok-equations.ensures) c.requires.used

pub returns : goal.returns
returns c =
    typed_so c.args.raw.now c.as_slice.result.now c.as_slice-2.result.now c.in_ok-clocks.clocks c.as_slice-4.result.now
    (record { names = c.in_ok-names.names; equations = c.in_ok-equations.equations; clauses = c.in_ok-clauses.clauses })
    c.as_slice.ensures c.as_slice-2.ensures c.in_ok-clocks.ensures c.as_slice-4.ensures
    (subst (λ known. AreChecked c.as_slice.result.now known c.as_slice-4.result.now (Ok c.in_ok-equations.equations)) c.as_slice-3.ensures c.in_ok-equations.ensures)
    (c.in_ok-names.ensures ∙ c.as_slice-5.ensures) c.in_ok-clauses.ensures
