-- Places at which something is wrong, as lists; the least of them counts.
use Rattle.std.specs.Prelude.{ℕ, min, List, [], ◌∷◌, ◌++◌, Option, Some, None, Bool, true, false, bytes_eq}
use Rattle.std.specs.List.{list_any}
use Rattle.class_scopes.specs.Spelled.{Ident}

abbrev pub lesser : Option ℕ → Option ℕ → Option ℕ
lesser None b = b
lesser (Some a) None = Some a
lesser (Some a) (Some b) = Some (min a b)

-- the least of the places
abbrev pub least : List ℕ → Option ℕ
least [] = None
least (x ∷ xs) = lesser (Some x) (least xs)

-- the place, where something is wrong there
abbrev pub unless : Bool → ℕ → List ℕ
unless true place = []
unless false place = place ∷ []

-- a list that something has where it is there
abbrev pub in_option : {A B : Type 0} → (A → List B) → Option A → List B
in_option f (Some x) = f x
in_option f None = []

-- something with a name that stands at a place
pub record Entry : Type 0 where
  pub key : Ident
  pub place : ℕ

-- a name is one of these
abbrev pub is_among : List Ident → Ident → Bool
is_among names name = list_any (bytes_eq name) names

abbrev pub if_among : Bool → ℕ → List ℕ
if_among true place = place ∷ []
if_among false place = []

-- the places of entries whose name stands before them already
abbrev pub repeats : List Ident → List Entry → List ℕ
repeats before [] = []
repeats before (entry ∷ rest) = if_among (is_among before entry.key) entry.place ++ repeats (before ++ entry.key ∷ []) rest
