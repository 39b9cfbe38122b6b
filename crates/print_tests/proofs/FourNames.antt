-- A list of four names, one of them a Clock.
use Rattle.std.proofs.Common.{◌≡◌, refl, sym, subst, ℕ, zero, suc, ◌<◌, ◌≤◌, true, false, List, [], ◌∷◌, length, get_or, arith}
use Rattle.std.specs.List.{All}
use Rattle.flat_model.specs.declared.model.FlatName.{FlatName}
use Rattle.flat_model.specs.Models.{IsName}
use Rattle.flat_model.specs.Trace.{columns_of, is_column}

all_four : (a b c d : FlatName) → IsName a → IsName b → IsName c → IsName d → All IsName (a ∷ b ∷ c ∷ d ∷ [])
all_four a b c d first second third fourth = each
  where
    each : (k : ℕ) (e : FlatName) → k < 4 → IsName (get_or (a ∷ b ∷ c ∷ d ∷ []) k e)
    each zero e less = first
    each (suc zero) e less = second
    each (suc (suc zero)) e less = third
    each (suc (suc (suc zero))) e less = fourth
    each (suc (suc (suc (suc k)))) e less = absurd (omega (arith, less))

three_columns : (a b c d : FlatName) → is_column a.kind ≡ true → is_column b.kind ≡ true → is_column c.kind ≡ false → is_column d.kind ≡ true → length (columns_of (a ∷ b ∷ c ∷ d ∷ [])) ≡ 3
three_columns a b c d first second third fourth = rw first (rw second (rw third (rw fourth refl)))

pub record AreFour (names : List FlatName) : Type 0 where
  pub few : length names ≤ 65536
  pub each : All IsName names
  pub columns : length (columns_of names) ≡ 3

pub are_four : (names : List FlatName) (a b c d : FlatName) → names ≡ a ∷ b ∷ c ∷ d ∷ [] → IsName a → IsName b → IsName c → IsName d
    → is_column a.kind ≡ true → is_column b.kind ≡ true → is_column c.kind ≡ false → is_column d.kind ≡ true → AreFour names
are_four names a b c d is first second third fourth one two three four = subst AreFour (sym is) (record {
  few = omega arith;
  each = all_four a b c d first second third fourth;
  columns = three_columns a b c d one two three four;
})
