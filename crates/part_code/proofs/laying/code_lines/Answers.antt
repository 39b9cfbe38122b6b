use Rattle.std.proofs.Common.{rules, ◌≡◌, refl, ◌∙◌, sym, Some, None}
use Rattle.part_code.proofs.Growing.{code_lines_next}
use Rattle.part_code.proofs.Refusing.{due_all}
use Rattle.part_code.proofs.Whole.{not_laid}
use Rattle.part_code.proofs.laying.code_lines.Goals as goal

pub loop-line-preserved : goal.loop-line-preserved
loop-line-preserved c =
    let some : c.number.result ≡ Some c.in_ok-cell.cell = search rules in
    code_lines_next c.args.keys.now c.args.lines.now c.loop-line.line-index c.loop-line.coded.items c.push.new.self.items _ c.line-item.result (record { name = c.line-item.result.name; cell = c.in_ok-cell.cell; side = c.line-item.result.side }) c.loop-line.invariant c.loop-line-test.true c.line-item.is
    (sym c.number.ensures ∙ some) refl refl (search rules)

pub returns-in_err-cell-clause-refused : goal.returns-in_err-cell-clause-refused
returns-in_err-cell-clause-refused c =
    let none : c.number.result ≡ None = search rules in
    due_all (not_laid c.args.keys.now c.args.lines.now c.loop-line.line-index _ c.line-item.result c.loop-line-test.true c.line-item.is (sym c.number.ensures ∙ none)) c.from_residual.result
