-- The flat model of items is a raw model.
use Rattle.std.proofs.Common.{◌≡◌, ◌≢◌, sym, ap, subst, ℕ, ◌+◌, ◌<◌, ◌≤◌, true, List, ◌++◌, length, All, AllPairs, flat_map, arith}
use Rattle.flat_model.specs.declared.model.FlatName.{FlatName}
use Rattle.flat_model.specs.declared.raw.RawEq.{RawEq}
use Rattle.flat_model.specs.declared.raw.RawExpr.{RawExpr}
use Rattle.flat_model.specs.RawModels.{IsRawModel, HasConstants, constants_fit}
use Rattle.flat_model.specs.Models.{IsName}
use Rattle.flat_expressions.specs.Equations.{Group, equations_from, clocks_of}
use Rattle.connection_equations.specs.Sets.{equations_of_set}
use Rattle.flat_limits.proofs.Clauses.{AreFull}
use Rattle.flat_limits.proofs.Used.{IsUsed, AllBelow, used_before, clauses_used, clauses_below, connections_below, all_below}

same : (k : ℕ) → 0 + k ≡ k
same k = omega arith

pub raw_model : (names : List FlatName) (equations connections : List RawEq) (clauses : List RawExpr) (all : List Group) (sets : List (List ℕ))
    → length names ≤ 65536 → length equations ≤ 65536 → AllPairs (λ a b. a.text ≢ b.text) names → All IsName names → All HasConstants equations
    → All (λ clause. constants_fit clause ≡ true) clauses → AreFull all → equations ≡ equations_from 0 all ++ connections → clauses ≡ clocks_of all → connections ≡ flat_map equations_of_set sets
    → IsRawModel (record { names = names; equations = equations; clauses = clauses })
raw_model names equations connections clauses all sets few enough apart each constants clause_constants full equations_are clauses_are connections_are = record {
  names = record { few = few; each = each; apart = apart };
  few = enough;
  below = subst (AllBelow (length clauses)) (sym equations_are)
      (all_below (length clauses) (equations_from 0 all) connections (clauses_below (length clauses) 0 all (omega (arith, ap length clauses_are)))
      (subst (AllBelow (length clauses)) (sym connections_are) (connections_below (length clauses) sets)));
  used = λ k below.
      let within : k < length (clocks_of all) = omega (arith, below, ap length clauses_are) in
      subst (λ es. IsUsed es k) (sym equations_are) (used_before (equations_from 0 all) connections k (subst (IsUsed (equations_from 0 all)) (same k) (clauses_used 0 all full k within)));
  constants = constants;
  clause_constants = clause_constants;
}
