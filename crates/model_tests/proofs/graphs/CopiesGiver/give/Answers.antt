use Rattle.std.proofs.Common.{◌≡◌, refl, ap, ◌∙◌, ℕ, zero, suc, ◌-◌, ◌<◌, List, ◌∷◌, length, Option, Some, None, slice_get, get_or, arith}
use Rattle.std.proofs.lemmas.Option.{slice_get_read, get_or_from_slice_get}
use Rattle.sync_values.specs.declared.value.Value.{Value}
use Rattle.model_tests.proofs.graphs.CopiesGiver.give.Goals as goal

behind : (s : Option Value) (slots : List (Option Value)) (x : ℕ) → (x ≡ 0 → ⊥) → get_or (s ∷ slots) x None ≡ get_or slots (x - 1) None
behind s slots zero other = absurd (other refl)
behind s slots (suc x) other = let e : suc x - 1 ≡ x = omega arith in rw e refl
