-- The numbers of cells.
use Rattle.std.specs.Prelude.{◌≡◌, ℕ, ◌≤◌, ◌^◌, ◌==◌, ◌&&◌, Bool, true, false, if◌then◌else◌, List, [], ◌∷◌, ◌++◌, length, Option, Some, IsSome, position, Result, Ok, Err}
use Rattle.std.specs.Ordering.{int_eq}
use Rattle.std.specs.Option.{is_some}
use Rattle.cell_keys.specs.declared.key.CellKey.{CellKey}
use Rattle.cell_keys.specs.declared.keys.NoCell.{NoCell}
use Rattle.cell_keys.specs.declared.keys.NoCell.TheVariants.{Memory, Large}
use Rattle.cell_keys.specs.declared.key.CellKey.TheVariants.{Value, Previous, Left, LeftLast, Constant, First, Interval, Unfit}

-- two keys are the same
abbrev pub same_key : CellKey → CellKey → Bool
same_key (Value x) (Value y) = x == y
same_key (Previous x) (Previous y) = x == y
same_key (Left x) (Left y) = x == y
same_key (LeftLast x) (LeftLast y) = x == y
same_key (Constant a) (Constant b) = int_eq a b
same_key (First c) (First d) = c == d
same_key (Interval c k) (Interval d n) = c == d && k == n
same_key (Unfit c k) (Unfit d n) = c == d && k == n
same_key _ _ = false

-- the cell of a key: its place
abbrev pub cell_of : List CellKey → CellKey → Option ℕ
cell_of keys key = position (same_key key) keys

-- a key that is new comes behind the others
abbrev pub with_key : List CellKey → CellKey → List CellKey
with_key keys key = if is_some (cell_of keys key) then keys else keys ++ key ∷ []

-- the same for several keys, one after the other
abbrev pub with_keys : List CellKey → List CellKey → List CellKey
with_keys keys [] = keys
with_keys keys (key ∷ more) = with_keys (with_key keys key) more

-- keys are added; or memory is refused, or they are too many for numbers of 32 bits
abbrev pub Adds : {A : Type 0} → List CellKey → List CellKey → List CellKey → Result A NoCell → Type 0
Adds old asked new (Ok done) = new ≡ with_keys old asked
Adds old asked new (Err Memory) = Unit {0}
Adds old asked new (Err Large) = 2 ^ 32 ≤ length (with_keys old asked)

-- a value at the tick before has its name's cell to be copied from, and an interval a cell that tells whether it fits
pub record AreWhole (keys : List CellKey) : Type 0 where
  pub previous : (x c : ℕ) → cell_of keys (Previous x) ≡ Some c → IsSome (cell_of keys (Value x))
  pub interval : (class times c : ℕ) → cell_of keys (Interval class times) ≡ Some c → IsSome (cell_of keys (Unfit class times))
