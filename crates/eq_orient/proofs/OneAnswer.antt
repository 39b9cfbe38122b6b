-- A spine and what solves an equation are determined.
use Rattle.std.proofs.Common.{◌≡◌, refl, ap, sym, ◌∙◌, ℕ, ◌<◌, Bool, true, false, Result, Ok, Err, arith}
use Rattle.sync_values.specs.declared.value.Value.{Value}
use Rattle.sync_values.specs.declared.value.Fail.{Fail}
use Rattle.flat_model.specs.declared.expression.Expr.{Expr}
use Rattle.flat_model.specs.declared.equation.Equation.{Equation}
use Rattle.flat_model.specs.declared.equation.Equation.TheVariants.{Valued, Clocks}
use Rattle.flat_model.specs.Occurrences.{bare_count, is_reached}
use Rattle.flat_model.specs.Views.{Views}
use Rattle.eq_orient.specs.Spine.{IsSpineOf}
use Rattle.eq_orient.specs.Solving.{Solves}
use Rattle.eq_orient.proofs.Passing.{is_passed}

-- what is reached stands bare
pub stands_bare : (x : ℕ) (e : Expr) → is_reached x e ≡ true → 0 < bare_count x e
stands_bare x e reached = (is_passed x e).some ((is_passed x e).whole reached)

pub one_side : (x : ℕ) (equation : Equation) (a b : Bool) → IsSpineOf x equation a → IsSpineOf x equation b → a ≡ b
one_side x (Valued left right clause) true true s t = refl
one_side x (Valued left right clause) true false s t = absurd (omega (arith, s.0, stands_bare x left s.1, stands_bare x right t.1))
one_side x (Valued left right clause) false true s t = absurd (omega (arith, s.0, stands_bare x right s.1, stands_bare x left t.1))
one_side x (Valued left right clause) false false s t = refl
one_side x (Clocks left right clause) a b s t = absurd s

pub one_answer : (x : ℕ) (equation : Equation) (views : Views) (a b : Result Value Fail) → Solves x equation views a → Solves x equation views b → a ≡ b
one_answer x equation views (Ok v) (Ok w) s t = ap (λ u. Ok u) (t.2 v s.0 s.1)
one_answer x equation views (Ok v) (Err kind) s t = absurd (t.0 v s.0 s.1)
one_answer x equation views (Err kind) (Ok w) s t = absurd (s.0 w t.0 t.1)
one_answer x equation views (Err kind) (Err other) s t = ap (λ u. Err u) (s.1 ∙ sym t.1)
