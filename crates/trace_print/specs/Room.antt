-- What contracts see of a line of the trace: its columns, and the bytes for which it has room.
use Rattle.std.specs.Prelude.{ℕ, ◌+◌, ◌*◌}

pub record Room : Type 0 where
  pub columns : ℕ
  pub bytes : ℕ

-- an instant has at most 41 bytes, each cell with its comma at most 21, and a line feed ends the row
abbrev pub row_len : ℕ → ℕ
row_len columns = 42 + 21 * columns
