use Rattle.std.proofs.Common.{◌≡◌, [], ◌∷◌, All}
use Rattle.flat_model.specs.Tables.{IsTime}
use Rattle.input_table.specs.Fields.{Record}
use Rattle.input_table.specs.private.Standing.{IsStanding}
use Rattle.input_table.specs.private.Reading.{IsReading}
use Rattle.input_table.proofs.read.read_rows.Given as goal

abbrev pub invariant-loop-number : goal.invariant-loop-number
invariant-loop-number l = record {
  same : l.columns ≡ l.fn.columns;
  range : All IsTime l.times;
  reading : (header : Record) → IsStanding l.bytes (header ∷ []) l.fn.records → IsReading l.form l.names l.columns l.bytes header l.number l.times l.cells l.records;
}
