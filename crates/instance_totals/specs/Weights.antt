-- What each item of instances counts in a sum: a number for a variable, and the number of its class for the equations of one.
use Rattle.std.specs.Prelude.{ℕ, List, slice_index_or}
use Rattle.flat_instances.specs.Instances.{Item, Declared, Own}

-- the number of a class, or 0 where it has none
abbrev pub number_at : List ℕ → ℕ → ℕ
number_at numbers class = slice_index_or numbers class 0

abbrev pub weight : ℕ → List ℕ → Item → ℕ
weight variable own (Declared v) = variable
weight variable own (Own scope class) = number_at own class
