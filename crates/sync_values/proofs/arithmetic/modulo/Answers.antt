use Rattle.std.proofs.Common.{rules, ap, ap₂, to_z, of_z, sym, subst, ◌∙◌, ◌≡◌, ◌≢◌, w64, ℤ, pos, ◌+ℤ◌, int_rem, FitsSigned, Ok}
use Rattle.std.proofs.lemmas.Int.{to_z-of_z}
use Rattle.sync_values.specs.Arithmetic.{exact_modulo}
use Rattle.sync_values.proofs.Remainders.{AreUnlike, unlike_is, like_is, sum_fits, modulo_moved, modulo_same, answered}
use Rattle.sync_values.proofs.arithmetic.modulo.Goals as goal

pub returns-then-are_unlike : goal.returns-then-are_unlike
returns-then-are_unlike c =
    let left = c.wrapping_rem-left.result in
    let is : left ≡ int_rem c.args.a c.args.b = search rules in
    let fits : FitsSigned w64 left = search rules in
    let some : c.args.b ≢ pos 0 = search rules in
    let differ : AreUnlike left c.args.b = unlike_is left c.args.b (search rules) in
    let sum_fit : FitsSigned w64 (left +ℤ c.args.b) = sum_fits left c.args.b differ fits c.ranges.b in
    let moved = modulo_moved c.args.a c.args.b some (subst (λ (z : ℤ). AreUnlike z c.args.b) is differ) in
    let kept : to_z w64 (of_z w64 left) +ℤ to_z w64 (of_z w64 c.args.b) ≡ left +ℤ c.args.b = ap₂ (λ x y. x +ℤ y) (to_z-of_z w64 left fits) (to_z-of_z w64 c.args.b c.ranges.b) in
    let answer = ap (λ z. to_z w64 (of_z w64 z)) kept ∙ to_z-of_z w64 (left +ℤ c.args.b) sum_fit in
    ap Ok answer ∙ sym (answered c.args.b (exact_modulo c.args.a c.args.b) (left +ℤ c.args.b) some (moved ∙ ap (λ z. z +ℤ c.args.b) (sym is)) sum_fit)

pub returns-else-are_unlike : goal.returns-else-are_unlike
returns-else-are_unlike c =
    let left = c.wrapping_rem-left.result in
    let is : left ≡ int_rem c.args.a c.args.b = search rules in
    let fits : FitsSigned w64 left = search rules in
    let some : c.args.b ≢ pos 0 = search rules in
    let same = modulo_same c.args.a c.args.b some (subst (λ (z : ℤ). AreUnlike z c.args.b → ⊥) is (like_is left c.args.b (search rules))) in
    ap Ok (to_z-of_z w64 left fits) ∙ sym (answered c.args.b (exact_modulo c.args.a c.args.b) left some (same ∙ sym is) fits)
