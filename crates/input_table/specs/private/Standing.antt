-- Where the taking of records stands in a text: the records that were taken, and that it goes on behind them.
use Rattle.std.specs.Prelude.{◌≡◌, ℕ, ◌≤◌, ◌+◌, List, [], ◌∷◌, ◌++◌, length, Bool, true, false, Option, Some, None}
use Rattle.std.specs.Borrow.{Bor}
use Rattle.csv.specs.Reading.{Reached, Ready, default_config, source_of, strip_bom}
use Rattle.csv.specs.Records.{fields_of}
use Rattle.csv.specs.declared.parser.State.{State}
use Rattle.csv.specs.declared.parser.State.TheVariants as st
use Rattle.csv.specs.declared.reader.Reader.{Reader}
use Rattle.csv.specs.declared.reader.Trim.TheVariants as trim
use Rattle.input_table.specs.declared.records.Records.{Records}
use Rattle.input_table.specs.Fields.{Record}
use Rattle.input_table.specs.Tables.{records_of}
use Rattle.input_table.specs.private.Plain.{IsBetween, has_quote}

-- a reader goes on in this state with these bytes
pub record IsReaderAt (state : State) (left : List ℕ) (rdr : Reader (Bor (List ℕ))) : Type 0 where
  pub plain : rdr.trim ≡ trim.None
  pub ready : Ready rdr
  pub config : rdr.config ≡ default_config
  pub is : rdr.state ≡ state
  pub source : source_of (λ s. Some s.now) rdr ≡ Some left

-- the reader goes on so, or these bytes are left of a text without quotes
abbrev pub GoesOn : State → List ℕ → Option (Bor (List ℕ)) → Reader (Bor (List ℕ)) → Type 0
GoesOn state left None rdr = IsReaderAt state left rdr
GoesOn state left (Some rest) rdr = IsBetween state × (rest.now ≡ left) × (has_quote left ≡ false)

-- these records of the text were taken and no others, and the taking goes on behind them
pub record IsStanding (text : List ℕ) (rows : List Record) (records : Records) : Type 0 where
  pub state : State
  pub left : List ℕ
  pub reached : Reached default_config st.StartRecord (strip_bom text) rows state left
  pub goes : GoesOn state left records.unquoted records.rdr

-- these records are the first of the text
abbrev pub Begin : List Record → List ℕ → Type 0
Begin rows text = (rest : List Record) × (records_of text ≡ rows ++ rest)

-- after a call: one record more, with no more fields than bytes and one, or these were all
abbrev pub Took : List ℕ → List Record → Bool → Records → Type 0
Took text rows true records = IsStanding text (rows ++ fields_of records.row ∷ []) records × (length (fields_of records.row) ≤ length text + 1)
Took text rows false records = records_of text ≡ rows
