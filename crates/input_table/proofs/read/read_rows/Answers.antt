use Rattle.std.proofs.Common.{◌≡◌, ◌∙◌, ◌<◌, ◌+◌, ◌^◌, sym, subst, List, ℕ, [], ◌∷◌, All, Err, length}
use Rattle.flat_model.specs.Tables.{IsInput}
use Rattle.input_table.specs.Fields.{Record}
use Rattle.input_table.specs.Tables.{records_of}
use Rattle.input_table.specs.private.Standing.{IsStanding}
use Rattle.input_table.specs.private.Reading.{BodyAnswers, IsReading}
use Rattle.input_table.proofs.Whole.{all_read, too_many}
use Rattle.input_table.proofs.read.read_rows.Goals as goal

pub read_next-requires-clause-inputs : goal.read_next-requires-clause-inputs
read_next-requires-clause-inputs c =
    let same = c.as_slice.ensures ∙ c.loop-number.invariant.same in
    subst (λ cs. All (IsInput c.args.names.now) cs) (sym same) c.requires.inputs

pub read_next-requires-clause-few : goal.read_next-requires-clause-few
read_next-requires-clause-few c =
    let same = c.as_slice.ensures ∙ c.loop-number.invariant.same in
    subst (λ (cs : List ℕ). length cs < 2 ^ 31) (sym same) c.requires.few

pub returns-in-Err : goal.returns-in-Err
returns-in-Err c header standing =
    let inv = c.loop-number.invariant in
    let text = c.args.bytes.now in
    let names = c.args.names.now in
    let slice = c.as_slice.ensures in
    let reading = subst (λ cs. IsReading c.args.form names cs text header c.loop-number.number c.loop-number.times c.loop-number.cells c.loop-number.records) (sym slice) (inv.reading header standing) in
    subst (λ cs. BodyAnswers c.args.form names cs (records_of text) header (Err c.in-Err.end)) (slice ∙ inv.same) (c.in-Err.ensures text header reading)

pub returns-in-Ok-false : goal.returns-in-Ok-false
returns-in-Ok-false c header standing =
    let inv = c.loop-number.invariant in
    let text = c.args.bytes.now in
    let names = c.args.names.now in
    let number = c.loop-number.number in
    let slice = c.as_slice.ensures in
    let reading = subst (λ cs. IsReading c.args.form names cs text header number c.loop-number.times c.loop-number.cells c.loop-number.records) (sym slice) (inv.reading header standing) in
    let none = rw c.in-Ok-false.field-0-test at (c.in-Ok-false.ensures text header reading) in
    let last = subst (λ cs. (reading : IsReading c.args.form names cs text header number c.read_next.new.times c.read_next.new.cells none.0) × (records_of text ≡ header ∷ reading.records_)) slice (none.1, none.2) in
    subst (λ cs. BodyAnswers c.args.form names cs (records_of text) header c.whole.result) inv.same
    (all_read c.args.form names c.loop-number.columns text header number c.read_next.new.times c.read_next.new.cells none.0 c.whole.result last.0 last.1 c.whole.ensures)

pub loop-number-preserved : goal.loop-number-preserved
loop-number-preserved c =
    let inv = c.loop-number.invariant in
    let text = c.args.bytes.now in
    let names = c.args.names.now in
    let columns = c.loop-number.columns in
    let number = c.loop-number.number in
    let slice = c.as_slice.ensures in
    let more : (header : Record) → IsStanding text (header ∷ []) c.args.records.now
    → IsReading c.args.form names columns text header (number + 1) c.read_next.new.times c.read_next.new.cells c.read_next.new.records = λ header standing.
    let reading = subst (λ cs. IsReading c.args.form names cs text header number c.loop-number.times c.loop-number.cells c.loop-number.records) (sym slice) (inv.reading header standing) in
    subst (λ cs. IsReading c.args.form names cs text header (number + 1) c.read_next.new.times c.read_next.new.cells c.read_next.new.records) slice
    (rw c.in-Ok-true.field-0-test at (c.in-Ok-true.ensures text header reading))
    in
    record { same = inv.same; range = (more c.requires.standing.0 c.requires.standing.1).hold.range; reading = more }

pub unreachable-requires : goal.unreachable-requires
unreachable-requires c =
    let reading = c.loop-number.invariant.reading c.requires.standing.0 c.requires.standing.1 in
    too_many c.args.form c.args.names.now c.loop-number.columns c.args.bytes.now c.requires.standing.0 c.loop-number.number c.loop-number.times c.loop-number.cells c.loop-number.records reading c.loop-number-test.false
