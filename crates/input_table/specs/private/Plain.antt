-- How the records of a text without quotes are taken, one after the other.
use Rattle.std.specs.Prelude.{◌≡◌, ◌==◌, ◌⊎◌, ℕ, List, [], ◌∷◌, Bool, false, Option, Some, None, ⊤}
use Rattle.std.specs.List.{list_any}
use Rattle.std.specs.Borrow.{Bor}
use Rattle.csv.specs.Machine.{next_record}
use Rattle.csv.specs.Reading.{default_config}
use Rattle.csv.specs.declared.parser.State.{State}
use Rattle.csv.specs.declared.parser.State.TheVariants as st
use Rattle.input_table.specs.Fields.{Record}

-- a double quote stands somewhere
abbrev pub has_quote : List ℕ → Bool
has_quote text = list_any (λ byte. byte == 34) text

-- a comma or an end of a line, or the end of the text
abbrev pub IsFieldEnd : List ℕ → Type 0
IsFieldEnd [] = ⊤
IsFieldEnd (byte ∷ rest) = (byte ≡ 44) ⊎ ((byte ≡ 13) ⊎ (byte ≡ 10))

-- the text does not begin with an end of a line
abbrev pub IsRecordStart : List ℕ → Type 0
IsRecordStart [] = ⊤
IsRecordStart (byte ∷ rest) = (byte ≡ 13 → ⊥) × (byte ≡ 10 → ⊥)

-- a state between two records
abbrev pub IsBetween : State → Type 0
IsBetween state = (state ≡ st.StartRecord) ⊎ (state ≡ st.AfterCr)

-- the fields of the next record of a text, and what follows it, without quotes too
abbrev pub TakesRecord : List ℕ → Record → Option (Bor (List ℕ)) → Type 0
TakesRecord text fields None = next_record default_config st.StartRecord [] [] text ≡ None
TakesRecord text fields (Some rest) = (state : State) × IsBetween state × (next_record default_config st.StartRecord [] [] text ≡ Some (fields, state, rest.now)) × (has_quote rest.now ≡ false)
