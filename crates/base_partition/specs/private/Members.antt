-- Which names and nodes are members of classes.
use Rattle.std.specs.Prelude.{ℕ, Bool, true, not, List, ◌++◌, map, replicate}
use Rattle.flat_model.specs.declared.model.FlatName.{FlatName}

-- each name that is no input, and each of n nodes
abbrev pub members_of : List FlatName → ℕ → List Bool
members_of names n = map (λ name. not name.input) names ++ replicate n true
