-- Marks of classes.
use Rattle.std.specs.Prelude.{◌≡◌, ℕ, ◌<◌, ◌↔◌, Bool, true, false, if◌then◌else◌, List, length, slice_index_or, slice_set, Contains}
use Rattle.base_partition.specs.private.Numbered.{is_member}

-- a member of the list is of the class
abbrev pub HasOne : List Bool → List ℕ → List ℕ → ℕ → Type 0
HasOne members class_of list c = (x : ℕ) × Contains list x × (is_member members x ≡ true) × (slice_index_or class_of x 0 ≡ c)

-- a class is marked where a member of the list is of it
pub record HasMarks (members : List Bool) (class_of list : List ℕ) (count : ℕ) (marks : List Bool) : Type 0 where
  pub count_is : length marks ≡ count
  pub marked : (c : ℕ) → (slice_index_or marks c false ≡ true) ↔ HasOne members class_of list c

-- the classes of members are below the count
abbrev pub HasClasses : List Bool → List ℕ → ℕ → Type 0
HasClasses members class_of count = (x : ℕ) → is_member members x ≡ true → slice_index_or class_of x 0 < count

-- the class of a member is marked
abbrev pub with_mark : Bool → ℕ → List Bool → List Bool
with_mark member c marks = if member then slice_set marks c true else marks

abbrev pub IsBoth : List Bool → List Bool → ℕ → Type 0
IsBoth clocked unclocked c = (slice_index_or clocked c false ≡ true) × (slice_index_or unclocked c false ≡ true)
