-- Marks that go one step back in each round.
use Rattle.std.specs.Prelude.{ℕ, zero, suc, List, map, Bool}
use Rattle.std.specs.List.{list_any}
use Rattle.mo_order.specs.Graphs.{Graph}
use Rattle.mo_order.specs.Marks.{is_marked}

-- whether one of these numbers is marked
abbrev pub has_marked : List Bool → List ℕ → Bool
has_marked marks links = list_any (is_marked marks) links

-- the marks of the numbers that point to a marked one
abbrev pub before : Graph → List Bool → List Bool
before graph marks = map (has_marked marks) graph

-- the marks after so many rounds
abbrev pub rounds : Graph → List Bool → ℕ → List Bool
rounds graph marks zero = marks
rounds graph marks (suc n) = rounds graph (before graph marks) n
