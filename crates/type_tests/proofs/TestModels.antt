-- The clause of a model that a test types is that of its second equation.
use Rattle.std.proofs.Common.{◌≡◌, ap, zero, suc, [], ◌∷◌, length, Some, arith}
use Rattle.std.specs.Prelude.{slice_get}
use Rattle.flat_model.specs.declared.raw.RawEq.{RawEq}
use Rattle.flat_model.specs.declared.raw.RawExpr.{RawExpr}
use Rattle.flat_model.specs.declared.raw.RawModel.{RawModel}
use Rattle.flat_model.specs.RawModels.{AreClausesUsed}

pub used_by_second : (raw : RawModel) (a b c : RawEq) (clause : RawExpr) → raw.equations ≡ a ∷ (b ∷ (c ∷ [])) → raw.clauses ≡ clause ∷ [] → b.clause ≡ Some 0 → AreClausesUsed raw
used_by_second raw a b c clause equations clauses is zero less = (1, b, ap (λ xs. slice_get xs 1) equations, is)
used_by_second raw a b c clause equations clauses is (suc k) less = absurd (omega (arith, ap length clauses))
