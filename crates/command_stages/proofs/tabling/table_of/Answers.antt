use Rattle.std.proofs.Common.{sym, subst, Err, Ok}
use Rattle.input_table.specs.Tables as tables
use Rattle.command_answer.specs.Actions.{table_of}
use Rattle.command_answer.specs.Calls.{reads_in}
use Rattle.command_stages.specs.Ends.{Halts, IsPrintable, of_table}
use Rattle.command_stages.specs.Reading.{name_of}
use Rattle.command_stages.proofs.Halting.{passed}
use Rattle.command_stages.proofs.Short.{no_table_short, table_short}
use Rattle.command_stages.proofs.Tabled.{untabled_makes, untabled_halts, table_unread, tabled_makes, tabled_halts}
use Rattle.command_stages.proofs.tabling.table_of.Goals as goal

pub returns-in_err-no_table-in-None-clause-ended : goal.returns-in_err-no_table-in-None-clause-ended
returns-in_err-no_table-in-None-clause-ended g c = λ o step.
    let flat = c.args.flat.now in
    let end = c.in_err-no_table-in-None.field-0.0 in
    passed (Halts (table_of (reads_in o) flat (name_of c.args.file))) c.from_residual.result (of_table end) c.from_residual.ensures.1
    (subst (λ f. Halts (table_of (reads_in o) flat (name_of f)) (of_table end)) (sym c.in-None.is) (untabled_halts (reads_in o) flat end c.in_err-no_table-in-None.ensures.answers))

pub returns-in_err-no_table-in-None-clause-short : goal.returns-in_err-no_table-in-None-clause-short
returns-in_err-no_table-in-None-clause-short g c =
    let end = c.in_err-no_table-in-None.field-0.0 in
    passed IsPrintable c.from_residual.result (of_table end) c.from_residual.ensures.1 (no_table_short c.args.flat.now c.requires end c.in_err-no_table-in-None.ensures.answers)

pub returns-in_err-bytes-in-Some-clause-ended : goal.returns-in_err-bytes-in-Some-clause-ended
returns-in_err-bytes-in-Some-clause-ended g c = λ o step.
    let flat = c.args.flat.now in
    let end = c.in_err-bytes-in-Some.field-0.0 in
    passed (Halts (table_of (reads_in o) flat (name_of c.args.file))) c.from_residual-in_err-bytes-in-Some.result end c.from_residual-in_err-bytes-in-Some.ensures.1
    (subst (λ f. Halts (table_of (reads_in o) flat (name_of f)) end) (sym c.in-Some.is) (table_unread (reads_in o) flat c.in-Some.name.now end (c.in_err-bytes-in-Some.ensures.ended o step)))

pub returns-in_err-read_table-in-Some-clause-ended : goal.returns-in_err-read_table-in-Some-clause-ended
returns-in_err-read_table-in-Some-clause-ended g c = λ o step.
    let flat = c.args.flat.now in
    let end = c.in_err-read_table-in-Some.field-0.0 in
    let broken = subst (λ b. tables.Answers flat.names (tables.records_of b) (Err end)) c.as_slice.ensures.value c.in_err-read_table-in-Some.ensures.answers in
    passed (Halts (table_of (reads_in o) flat (name_of c.args.file))) c.from_residual-in_err-read_table-in-Some.result (of_table end) c.from_residual-in_err-read_table-in-Some.ensures.1
    (subst (λ f. Halts (table_of (reads_in o) flat (name_of f)) (of_table end)) (sym c.in-Some.is)
    (tabled_halts (reads_in o) flat c.in-Some.name.now c.in_ok-bytes-in-Some.bytes.items (c.in_ok-bytes-in-Some.ensures.made o step) end broken))

pub returns-in_err-read_table-in-Some-clause-short : goal.returns-in_err-read_table-in-Some-clause-short
returns-in_err-read_table-in-Some-clause-short g c =
    let end = c.in_err-read_table-in-Some.field-0.0 in
    passed IsPrintable c.from_residual-in_err-read_table-in-Some.result (of_table end) c.from_residual-in_err-read_table-in-Some.ensures.1
    (table_short c.args.flat.now c.requires (tables.records_of c.as_slice.result.now) end c.in_err-read_table-in-Some.ensures.answers)

pub returns-in_ok-no_table-in-None-clause-made : goal.returns-in_ok-no_table-in-None-clause-made
returns-in_ok-no_table-in-None-clause-made g c = λ o step.
    let flat = c.args.flat.now in
    let table = c.in_ok-no_table-in-None.field-0 in
    subst (λ f. (table_of (reads_in o) flat (name_of f)).makes table) (sym c.in-None.is) (untabled_makes (reads_in o) flat table c.in_ok-no_table-in-None.ensures.answers)

pub returns-in_ok-read_table-in-Some-clause-made : goal.returns-in_ok-read_table-in-Some-clause-made
returns-in_ok-read_table-in-Some-clause-made g c = λ o step.
    let flat = c.args.flat.now in
    let table = c.in_ok-read_table-in-Some.field-0 in
    let read = subst (λ b. tables.Answers flat.names (tables.records_of b) (Ok table)) c.as_slice.ensures.value c.in_ok-read_table-in-Some.ensures.answers in
    subst (λ f. (table_of (reads_in o) flat (name_of f)).makes table) (sym c.in-Some.is)
    (tabled_makes (reads_in o) flat c.in-Some.name.now c.in_ok-bytes-in-Some.bytes.items (c.in_ok-bytes-in-Some.ensures.made o step) table read)
