use Rattle.std.proofs.Common.{◌≡◌, false, [], length}
use Rattle.csv.specs.Machine.{next_record}
use Rattle.csv.specs.Reading.{default_config}
use Rattle.csv.specs.Records.{fields_of, partial_of}
use Rattle.csv.specs.declared.parser.State.TheVariants as st
use Rattle.input_table.specs.private.Plain.{has_quote}
use Rattle.input_table.proofs.plain.take_record.Given as goal

-- the fields taken begin the record, and it goes on with a field
abbrev pub invariant-fields : goal.invariant-fields
invariant-fields l = record {
  goes : has_quote l.text ≡ false → next_record default_config st.StartRecord [] [] l.text ≡ next_record default_config st.StartField (fields_of l.row) [] l.rest;
  quotes : has_quote l.text ≡ false → has_quote l.rest ≡ false;
  whole : partial_of l.row ≡ [];
}

abbrev pub decreases-fields : goal.decreases-fields
decreases-fields l = length l.rest
