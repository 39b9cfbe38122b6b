use Rattle.std.proofs.Common.{◌≡◌, length}
use Rattle.csv.specs.Records.{fields_of}
use Rattle.input_table.specs.private.Finding.{AreFirst, AreNoted}
use Rattle.input_table.proofs.header.columns_seen.Given as goal

abbrev pub invariant-loop-place : goal.invariant-loop-place
invariant-loop-place l = record {
  long : length l.seen ≡ length l.names;
  first : AreFirst l.names (fields_of l.header) l.place l.columns;
  noted : AreNoted l.columns l.seen;
}
