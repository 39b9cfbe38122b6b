-- Only one answer is right for a model.
use Rattle.std.proofs.Common.{◌≡◌, refl, ap, ℕ, Some, None, arith}
use Rattle.class_scopes.specs.Faults.{IsFirstOf}
use Rattle.value_rules.specs.declared.faults.ValueFault.TheVariants.{Waiting, Failing}
use Rattle.value_rules.specs.Faults.{OneFaultLaw}

one_first : (Breaks : ℕ → Type 0) (x y : ℕ) → IsFirstOf Breaks x → IsFirstOf Breaks y → x ≡ y
one_first Breaks x y one other =
    let low = one.least y other.broken in
    let high = other.least x one.broken in
    omega (arith, low, high)

pub one_fault : OneFaultLaw
one_fault text table found classes all None None a b = refl
one_fault text table found classes all None (Some (Waiting y)) a b = absurd (a.0 y b.broken)
one_fault text table found classes all None (Some (Failing y)) a b = absurd (a.1 y b.1.broken)
one_fault text table found classes all (Some (Waiting x)) None a b = absurd (b.0 x a.broken)
one_fault text table found classes all (Some (Waiting x)) (Some (Waiting y)) a b = ap (λ n. Some (Waiting n)) (one_first _ x y a b)
one_fault text table found classes all (Some (Waiting x)) (Some (Failing y)) a b = absurd (b.0 x a.broken)
one_fault text table found classes all (Some (Failing x)) None a b = absurd (b.1 x a.1.broken)
one_fault text table found classes all (Some (Failing x)) (Some (Waiting y)) a b = absurd (a.0 y b.broken)
one_fault text table found classes all (Some (Failing x)) (Some (Failing y)) a b = ap (λ n. Some (Failing n)) (one_first _ x y a.1 b.1)
