-- Chains of outcomes.
use Rattle.std.proofs.Common.{◌≡◌, refl, ℕ, zero, suc, ◌≤◌, List, [], ◌∷◌, length, drop, arith}
use Rattle.std.proofs.lemmas.List.{length-drop}
use Rattle.sync_values.specs.declared.value.ChainOp.{ChainOp}
use Rattle.parameter_values.specs.declared.evaluate.Outcome.{Outcome}
use Rattle.parameter_values.specs.Outcomes.{chained_outcome}

none_dropped : (k : ℕ) (xs : List Outcome) → length xs ≡ 0 → length (drop k xs) ≡ 0
none_dropped zero xs none = none
none_dropped (suc k) [] none = none
none_dropped (suc k) (x ∷ xs) none = absurd (omega (arith, none))

chain_empty : (total : Outcome) (ops : List ChainOp) (xs : List Outcome) → length xs ≡ 0 → chained_outcome total ops xs ≡ total
chain_empty total [] xs none = refl
chain_empty total (op ∷ ops) [] none = refl
chain_empty total (op ∷ ops) (x ∷ xs) none = absurd (omega (arith, none))

pub chain_done : (total : Outcome) (ops : List ChainOp) (i : ℕ) (rest : List Outcome) → length rest ≤ i → chained_outcome total ops (drop i rest) ≡ total
chain_done total ops i rest past = chain_empty total ops (drop i rest) (omega (arith, length-drop i rest, past))
