-- Which names equations wait for, and what can be taken next, over lists of what each equation reads.
use Rattle.std.specs.Prelude.{◌≡◌, ℕ, Bool, true, not, ◌<◌, List, [], ◌∷◌, Some, slice_get, slice_index_or, slice_set, filter, count_by}
use Rattle.flat_model.specs.declared.equation.Equation.{Equation}
use Rattle.flat_model.specs.Uses.{IsSolvableFor}
use Rattle.eq_orient.specs.Gathered.{count_of}
use Rattle.eq_order.specs.declared.uses.Use.{Use}
use Rattle.eq_order.specs.Order.{HasSpine}

-- the list at a place; none past the end
abbrev pub list_at : List (List ℕ) → ℕ → List ℕ
list_at lists i = slice_index_or lists i []

-- a name is not reached by these flags; a name without a flag counts as reached
abbrev pub is_waiting : List Bool → ℕ → Bool
is_waiting reached x = not (slice_index_or reached x true)

-- those of some names that are not reached
abbrev pub waiting : List Bool → List ℕ → List ℕ
waiting reached names = filter (is_waiting reached) names

-- how many names equation i waits for
abbrev pub waiting_count : List (List ℕ) → List Bool → ℕ → ℕ
waiting_count reads reached i = count_by (is_waiting reached) (list_at reads i)

-- equation i is solvable for name x
abbrev pub IsSolvableAt : List Equation → ℕ → ℕ → Type 0
IsSolvableAt equations i x = (equation : Equation) × (slice_get equations i ≡ Some equation) × IsSolvableFor x equation

-- of the names that equation i reads, x alone is not reached, and the equation is solvable for it
abbrev pub CanTake : List Equation → List (List ℕ) → List Bool → ℕ → ℕ → Type 0
CanTake equations reads reached i x = (waiting reached (list_at reads i) ≡ x ∷ []) × IsSolvableAt equations i x

-- the next use: the first equation that can be taken, with the side of its name
pub record IsNext (equations : List Equation) (reads : List (List ℕ)) (reached : List Bool) (entry : Use) : Type 0 where
  pub takes : CanTake equations reads reached entry.equation entry.name
  pub first : (j y : ℕ) → j < entry.equation → CanTake equations reads reached j y → ⊥
  pub spine : HasSpine equations entry

-- the uses from these flags on, to the end, where no equation can be taken
abbrev pub AreTaken : List Equation → List (List ℕ) → List Bool → List Use → Type 0
AreTaken equations reads reached [] = (i x : ℕ) → CanTake equations reads reached i x → ⊥
AreTaken equations reads reached (entry ∷ rest) =
    IsNext equations reads reached entry × AreTaken equations reads (slice_set reached entry.name true) rest

-- the flags once these uses have reached their names
abbrev pub flags_after : List Bool → List Use → List Bool
flags_after reached [] = reached
flags_after reached (entry ∷ rest) = flags_after (slice_set reached entry.name true) rest

-- two tables turned into each other: x stands in the list of i as often as i in that of x
abbrev pub AreMirrored : List (List ℕ) → List (List ℕ) → Type 0
AreMirrored reads readers = (i x : ℕ) → count_of i (list_at readers x) ≡ count_of x (list_at reads i)

-- how many names each equation still waits for
abbrev pub AreLeft : List (List ℕ) → List Bool → List ℕ → Type 0
AreLeft reads reached left = (i : ℕ) → slice_index_or left i 0 ≡ waiting_count reads reached i
