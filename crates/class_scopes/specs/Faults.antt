-- Rules that are broken at places, and the first place of one. This project's own.
use Rattle.std.specs.Prelude.{ℕ, ◌≤◌, Option, Some, None}

-- the rule is broken at the place, and at none before it
pub record IsFirstOf (Breaks : ℕ → Type 0) (place : ℕ) : Type 0 where
  pub broken : Breaks place
  pub least : (other : ℕ) → Breaks other → place ≤ other

-- the rule is broken at no place
abbrev pub IsKept : (ℕ → Type 0) → Type 0
IsKept Breaks = (place : ℕ) → Breaks place → ⊥

-- the first place where the rule is broken, or none where it is kept
abbrev pub IsFirstPlace : (ℕ → Type 0) → Option ℕ → Type 0
IsFirstPlace Breaks (Some place) = IsFirstOf Breaks place
IsFirstPlace Breaks None = IsKept Breaks
