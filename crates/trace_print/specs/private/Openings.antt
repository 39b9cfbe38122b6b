-- The brackets that a chain of so many operators begins with.
use Rattle.std.specs.Prelude.{ℕ, zero, suc, List, [], ◌++◌, codes}

abbrev pub openings : ℕ → List ℕ
openings zero = []
openings (suc n) = codes "(" ++ openings n
