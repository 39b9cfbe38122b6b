use Rattle.std.proofs.Common.{◌≡◌, ◌∙◌, ◌++◌, ap, subst, ℕ, ◌<◌, List, [], ◌∷◌, slice_get, Some}
use Rattle.rational_time.specs.declared.ratio.Ratio.{Ratio}
use Rattle.flat_model.specs.Tables.{IsInput}
use Rattle.input_table.proofs.Columns.{name_at}
use Rattle.input_table.proofs.NoTable.{one_row, one_row_table, first_input, none_more, none_at_all}
use Rattle.input_table.proofs.read.no_table.Goals as goal

pub returns-then-name-clause-answers : goal.returns-then-name-clause-answers
returns-then-name-clause-answers c =
    let names = c.args.flat.now.names in
    let found = subst (λ ns. slice_get ns c.loop-at.at ≡ Some c.index-names-at.result) c.as_slice-names.ensures
    (name_at c.as_slice-names.result.now c.loop-at.at c.index-names-at.result c.loop-at-test.true c.index-names-at.is) in
    let none = subst (λ ns. (y : ℕ) → y < c.loop-at.at → IsInput ns y → ⊥) c.as_slice-names.ensures c.loop-at.invariant in
    first_input names c.loop-at.at c.index-names-at.result c.missing.result found c.if-name.true none c.missing.ensures

pub loop-at-preserved : goal.loop-at-preserved
loop-at-preserved c =
    let found = name_at c.as_slice-names.result.now c.loop-at.at c.index-names-at.result c.loop-at-test.true c.index-names-at.is in
    none_more c.as_slice-names.result.now c.loop-at.at c.index-names-at.result found c.if-name.false c.loop-at.invariant

pub returns-clause-answers : goal.returns-clause-answers
returns-clause-answers c =
    let none = subst (λ ns. (y : ℕ) → IsInput ns y → ⊥) c.as_slice-names.ensures (none_at_all c.as_slice-names.result.now c.loop-at.at c.loop-at-test.false c.loop-at.invariant) in
    let times = c.in_ok-push.ensures.ok ∙ ap (λ (ts : List Ratio). ts ++ c.make.result ∷ []) c.new-times.ensures in
    (none, one_row (record { times = c.push.new.self; columns = c.new.result; cells = c.new-2.result }) c.make.result times c.make.ensures c.new.ensures c.new-2.ensures)

pub returns-clause-table : goal.returns-clause-table
returns-clause-table c =
    let none = subst (λ ns. (y : ℕ) → IsInput ns y → ⊥) c.as_slice-names.ensures (none_at_all c.as_slice-names.result.now c.loop-at.at c.loop-at-test.false c.loop-at.invariant) in
    let times = c.in_ok-push.ensures.ok ∙ ap (λ (ts : List Ratio). ts ++ c.make.result ∷ []) c.new-times.ensures in
    one_row_table c.args.flat.now (record { times = c.push.new.self; columns = c.new.result; cells = c.new-2.result }) c.make.result none times c.make.ensures c.new.ensures c.new-2.ensures
