-- Numbers from which so many steps lead to a marked one. This project's own.
use Rattle.std.specs.Prelude.{◌≡◌, ◌↔◌, ℕ, zero, suc, List, Bool, true, false, slice_index_or}
use Rattle.mo_order.specs.Graphs.{Graph, IsEdge}

-- whether a number is marked; one past the list is not
abbrev pub is_marked : List Bool → ℕ → Bool
is_marked marks x = slice_index_or marks x false

-- just so many steps lead from a number to a marked one
abbrev pub Reaches : Graph → List Bool → ℕ → ℕ → Type 0
Reaches graph marks zero x = is_marked marks x ≡ true
Reaches graph marks (suc n) x = (y : ℕ) × IsEdge graph x y × Reaches graph marks n y

-- the found marks are those of the numbers from which so many steps lead to a marked one
abbrev pub AreLeading : Graph → List Bool → ℕ → List Bool → Type 0
AreLeading graph marks steps found = (x : ℕ) → is_marked found x ≡ true ↔ Reaches graph marks steps x
