-- A text that is known or not, and how it grows.
use Rattle.std.specs.Prelude.{◌≡◌, ℕ, ◌≤◌, List, ◌++◌, Option, Some, None, length, take}

-- the text with more at its end, where it is known
abbrev pub grown : List ℕ → Option (List ℕ) → Option (List ℕ)
grown more None = None
grown more (Some text) = Some (text ++ more)

-- the text grew by some prefix of a piece
abbrev pub GrewByPrefix : List ℕ → Option (List ℕ) → Option (List ℕ) → Type 0
GrewByPrefix piece old new = (k : ℕ) × (k ≤ length piece) × (new ≡ grown (take k piece) old)
