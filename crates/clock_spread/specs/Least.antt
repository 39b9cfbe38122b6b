-- The least number of which something holds, where it is asked for or found step by step.
use Rattle.std.specs.Prelude.{◌≡◌, ℕ, Bool, true, false, List, Option, Some, None, Contains, min}
use Rattle.clock_terms.specs.Least.{IsLeast}

-- the least number of which something holds, or none where it holds of none
abbrev pub IsLeastOf : (ℕ → Type 0) → Option ℕ → Type 0
IsLeastOf P None = (n : ℕ) → P n → ⊥
IsLeastOf P (Some n) = IsLeast P n

-- the number of an element of a list of which something holds
abbrev pub IsNumberIn : {X : Type 0} → (X → ℕ) → (X → Type 0) → List X → ℕ → Type 0
IsNumberIn {X} number P xs n = (x : X) × Contains xs x × (number x ≡ n) × P x

-- the lesser of the least number so far and one more, where that counts
abbrev pub lesser_of : Option ℕ → ℕ → Bool → Option ℕ
lesser_of least n false = least
lesser_of None n true = Some n
lesser_of (Some m) n true = Some (min m n)
