-- The Integer that no equation binds.
use Rattle.std.proofs.Common.{◌≡◌, refl, ap, ℕ, zero, suc, Some, None, pos, slice_get, Option, true, eq-eqb, if◌then◌else◌, subst, Ok}
use Rattle.sync_values.specs.declared.value.Value.{Value}
use Rattle.sync_values.specs.declared.value.Value.TheVariants as value
use Rattle.sync_values.specs.Arithmetic.{fitted}
use Rattle.flat_model.specs.declared.model.NameKind.TheVariants as kind
use Rattle.flat_model.specs.Assignment.{IsOfKind}
use Rattle.flat_model.specs.Meets.{MeetsAt}
use Rattle.flat_model.specs.Given.{with_value}
use Rattle.clocked_rows.specs.FreeName as row
use Rattle.clocked_rows.proofs.Each.{met_at}

others : (m x : ℕ) → slice_get row.setting.model.names x ≡ None → row.values x m ≡ None
others m zero h = absurd cc
others m (suc x) h = refl

at : (m : ℕ) → MeetsAt row.setting row.values m
at zero = met_at row.setting row.values 0 ((tt, (value.Int (pos 9223372036854775807), refl, refl)), tt) (others 0) tt tt
at (suc m) = met_at row.setting row.values (suc m) ((tt, (value.Int (pos 9223372036854775807), refl, refl)), tt) (others (suc m)) tt tt

pub met : row.IsMet
met m le = at m

no_other_type : (v : Value) → Some (value.Bool true) ≡ Some v → IsOfKind kind.Integer v → ⊥
no_other_type (value.Bool b) is typed = typed
no_other_type (value.Int z) is typed = absurd cc

pub other_type_refused : row.IsOtherTypeRefused
other_type_refused h = let (v, is, typed) = h.names 0 _ refl in no_other_type v is typed

not_too_large : (v : Value) → Some (value.Int (pos 9223372036854775808)) ≡ Some v → IsOfKind kind.Integer v → ⊥
not_too_large (value.Bool b) is typed = typed
not_too_large (value.Int z) is typed =
    let same : z ≡ pos 9223372036854775808 = cc is in
    let none : fitted (pos 9223372036854775808) ≡ Ok (pos 9223372036854775808) = subst (λ y. fitted y ≡ Ok y) same typed in
    cc none

pub too_large_refused : row.IsTooLargeRefused
too_large_refused h = let (v, is, typed) = h.names 0 _ refl in not_too_large v is typed

some_none : (o : Option Value) (v : Value) → o ≡ Some v → o ≡ None → ⊥
some_none o v some none = cc (some, none)

pub stranger_refused : row.IsStrangerRefused
stranger_refused x h =
    let there : with_value row.values 1 (suc x) (value.Int (pos 0)) (suc x) 1 ≡ Some (value.Int (pos 0))
    = ap (λ b. if b then Some (value.Int (pos 0)) else None) (eq-eqb (suc x) (suc x) refl) in
    some_none _ _ there (h.others (suc x) refl)
