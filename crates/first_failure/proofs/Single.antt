-- What is told of uses over a row is one.
use Rattle.std.proofs.Common.{◌≡◌, refl, ap, ap₂, sym, subst, ◌∙◌, ℕ, ◌<◌, List, Option, Some, None, slice_get, arith}
use Rattle.std.proofs.lemmas.Option.{same_Some}
use Rattle.sync_values.specs.declared.value.Fail.{Fail}
use Rattle.flat_model.specs.Assignment.{Assignment}
use Rattle.flat_model.specs.Faults.{EquationFails}
use Rattle.flat_model.specs.Given.{Row, with_row}
use Rattle.flat_model.specs.Meaning.{seen_by}
use Rattle.flat_model.specs.Ways.{parts_beside, kind_of}
use Rattle.flat_model.specs.Setting.{Setting, class_of_equation, views_at}
use Rattle.flat_model.specs.Uses.{Use, AreUses}
use Rattle.moment_theory.proofs.Once.{one_use}
use Rattle.first_failure.specs.declared.least.EquationFailing.{EquationFailing}
use Rattle.first_failure.specs.Turns.{FailsAmong, IsLeast}

-- an equation fails in one way
one_kind : (s : Setting) (uses : List Use) → AreUses s uses → (S : Assignment) (m i : ℕ) (a b : Fail) → EquationFails s S uses m i a → EquationFails s S uses m i b → a ≡ b
one_kind s uses are S m i a b one two =
    let same : one.entry ≡ two.entry = one_use s uses are one.entry two.entry one.used two.used (one.equation_is ∙ sym two.equation_is) in
    let equations : one.equation ≡ two.equation = same_Some one.equation two.equation (sym one.counts.equation_is ∙ ap (λ e. slice_get s.model.equations e.equation) same ∙ two.counts.equation_is) in
    one.kind_is ∙ ap (λ e. kind_of (seen_by (views_at s S (class_of_equation s i) m) (parts_beside e.name one.equation))) same ∙ ap (λ q. kind_of (seen_by (views_at s S (class_of_equation s i) m) (parts_beside two.entry.name q))) equations ∙ sym two.kind_is

pub one_told : (s : Setting) (uses : List Use) → AreUses s uses → (S : Assignment) (m : ℕ) (entries : List Use) (row : Row) (one two : Option EquationFailing)
    → IsLeast (FailsAmong s uses S m entries row) one → IsLeast (FailsAmong s uses S m entries row) two → one ≡ two
one_told s uses are S m entries row None None none other = refl
one_told s uses are S m entries row None (Some failing) none (own, first) = absurd (none failing.equation failing.kind own)
one_told s uses are S m entries row (Some failing) None (own, first) none = absurd (none failing.equation failing.kind own)
one_told s uses are S m entries row (Some one) (Some two) (own, first) (other, least) =
    let not_less : one.equation < two.equation → ⊥ = λ less. least one.equation one.kind less own in
    let not_more : two.equation < one.equation → ⊥ = λ less. first two.equation two.kind less other in
    let same : one.equation ≡ two.equation = omega (arith, not_less, not_more) in
    let fails_one : EquationFails s (with_row S m row) uses m one.equation one.kind = own.3 in
    let fails_two : EquationFails s (with_row S m row) uses m one.equation two.kind = subst (λ i. EquationFails s (with_row S m row) uses m i two.kind) (sym same) other.3 in
    told_same one two same (one_kind s uses are (with_row S m row) m one.equation one.kind two.kind fails_one fails_two)
  where
    told_same : (a b : EquationFailing) → a.equation ≡ b.equation → a.kind ≡ b.kind → Some a ≡ Some b
    told_same a b equation kind = ap₂ (λ e k. Some (record { equation = e; kind = k })) equation kind
