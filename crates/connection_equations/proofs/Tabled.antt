-- The numbers of a table of names.
use Rattle.std.proofs.Common.{◌≡◌, ◌∙◌, sym, ℕ, ◌+◌, ◌<◌, ◌≤◌, Bool, true, false, List, [], ◌∷◌, length, Some, cond, bytes_eq, arith}
use Rattle.std.specs.List.{position_from}
use Rattle.class_scopes.specs.Spelled.{Ident}
use Rattle.class_scopes.specs.Tables.{Numbered, number_of, IsTableOf}
use Rattle.connection_equations.specs.Connections.{NumbersBelow}

position_below : {A : Type 0} (t : A → Bool) (i : ℕ) (xs : List A) (y : ℕ) → position_from t i xs ≡ Some y → y < i + length xs
position_below t i [] y is = absurd (cc is)
position_below t i (x ∷ xs) y is = by (t x) is (position_below t (i + 1) xs y)
  where
    by : (b : Bool) → cond b (Some i) (position_from t (i + 1) xs) ≡ Some y → (position_from t (i + 1) xs ≡ Some y → y < i + 1 + length xs) → y < i + length (x ∷ xs)
    by true is again = let same : i ≡ y = cc is in omega (arith, same)
    by false is again = let below = again is in omega (arith, below)

-- the numbers of a table of so many names are below their count
pub table_below : (names : List Ident) (table : Numbered) (count : ℕ) → IsTableOf names table → length names ≤ count → NumbersBelow count (number_of table)
table_below names table count tabled few name n is =
    let within : n < 0 + length names = position_below (bytes_eq name) 0 names n (sym (tabled name) ∙ is) in
    omega (arith, within, few)
