-- The line of a broken rule: its code and its place. This project's own.
use Rattle.std.specs.Prelude.{ℕ, ◌+◌, ◌≤◌, List, ◌++◌, codes, decimal, length}
use Rattle.flat_model.specs.declared.place.Place.{Place}
use Rattle.flat_model.specs.declared.place.Place.TheVariants.{At, Equation, Name, Cell, Model, Table, Plan}
use Rattle.trace_print.specs.declared.code.Code.{Code}
use Rattle.trace_print.specs.declared.code.Code.TheVariants.{L0, L1, L2, L3, L4, S1, S2, S3, N1, N2, N3, N4, N5, N6, N7, N8, N9, N10, N11, Y1, Y2, Y3, Y4, Y5, C1, C2, C3, C4, C5, C6, C7, C8, C9, C10, Q1, Q2, Q3, Q4, I1, I2, I3, I4, I5, I6, I7, P1}

-- how many bytes the line of a refusal or a fault has at most
abbrev pub line_limit : ℕ
line_limit = 4608

-- a code is its own text
abbrev pub code_text : Code → List ℕ
code_text L0 = codes "L0"
code_text L1 = codes "L1"
code_text L2 = codes "L2"
code_text L3 = codes "L3"
code_text L4 = codes "L4"
code_text S1 = codes "S1"
code_text S2 = codes "S2"
code_text S3 = codes "S3"
code_text N1 = codes "N1"
code_text N2 = codes "N2"
code_text N3 = codes "N3"
code_text N4 = codes "N4"
code_text N5 = codes "N5"
code_text N6 = codes "N6"
code_text N7 = codes "N7"
code_text N8 = codes "N8"
code_text N9 = codes "N9"
code_text N10 = codes "N10"
code_text N11 = codes "N11"
code_text Y1 = codes "Y1"
code_text Y2 = codes "Y2"
code_text Y3 = codes "Y3"
code_text Y4 = codes "Y4"
code_text Y5 = codes "Y5"
code_text C1 = codes "C1"
code_text C2 = codes "C2"
code_text C3 = codes "C3"
code_text C4 = codes "C4"
code_text C5 = codes "C5"
code_text C6 = codes "C6"
code_text C7 = codes "C7"
code_text C8 = codes "C8"
code_text C9 = codes "C9"
code_text C10 = codes "C10"
code_text Q1 = codes "Q1"
code_text Q2 = codes "Q2"
code_text Q3 = codes "Q3"
code_text Q4 = codes "Q4"
code_text I1 = codes "I1"
code_text I2 = codes "I2"
code_text I3 = codes "I3"
code_text I4 = codes "I4"
code_text I5 = codes "I5"
code_text I6 = codes "I6"
code_text I7 = codes "I7"
code_text P1 = codes "P1"

-- lines, columns, rows, columns of a table and equations are printed from 1; the header of a table is row 0
abbrev pub place_text : Place → List ℕ
place_text (At line column) = decimal line ++ codes ":" ++ decimal column
place_text (Equation i) = codes "equation " ++ decimal (i + 1)
place_text (Name text) = text
place_text (Cell row column) = codes "row " ++ decimal row ++ codes " column " ++ decimal column
place_text Model = codes "model"
place_text Table = codes "table"
place_text Plan = codes "plan"

abbrev pub refusal_line : Code → Place → List ℕ
refusal_line code place = codes "refused " ++ code_text code ++ codes " at " ++ place_text place ++ codes "\n"

-- a name in a place is short enough for a line
abbrev pub IsShort : Place → Type 0
IsShort (Name text) = length text ≤ 4500
IsShort _ = Unit {0}
