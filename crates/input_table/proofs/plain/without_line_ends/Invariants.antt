use Rattle.std.proofs.Common.{◌≡◌, false, [], length}
use Rattle.csv.specs.Machine.{next_record}
use Rattle.csv.specs.Reading.{default_config}
use Rattle.csv.specs.declared.parser.State.TheVariants as st
use Rattle.input_table.specs.private.Plain.{has_quote}
use Rattle.input_table.proofs.plain.without_line_ends.Given as goal

-- what is left begins the same record
abbrev pub invariant-loop-first : goal.invariant-loop-first
invariant-loop-first l = record {
  same : next_record default_config st.StartRecord [] [] l.rest ≡ next_record default_config st.StartRecord [] [] l.text;
  quotes : has_quote l.text ≡ false → has_quote l.rest ≡ false;
}

abbrev pub decreases-loop-first : goal.decreases-loop-first
decreases-loop-first l = length l.rest
