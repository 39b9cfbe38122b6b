-- Event clocks of two conditions share no instant.
use Rattle.std.proofs.Common.{◌≡◌, refl, sym, subst, ℕ, zero, suc, [], ◌∷◌, Some, None, arith, inl, inr, slice_get}
use Rattle.std.specs.List.{Contains}
use Rattle.flat_model.specs.declared.clock.Clock.TheVariants as clock
use Rattle.flat_model.specs.declared.equation.Equation.{Equation}
use Rattle.flat_model.specs.declared.equation.Equation.TheVariants.{Valued}
use Rattle.flat_model.specs.declared.expression.Expr.{Expr}
use Rattle.flat_model.specs.declared.expression.Expr.TheVariants.{Read}
use Rattle.flat_model.specs.Clocks.{ShareInstant}
use Rattle.flat_model.specs.Occurrences.{bare_count, held_count, converted_count}
use Rattle.flat_model.specs.Uses.{IsUnreached, ClassesMeet, EquationReads, Reads}
use Rattle.clocked_rows.specs.SitesApart as row
use Rattle.clocked_rows.proofs.Counts.{levels}
use Rattle.clocked_rows.proofs.Conversions.{conversions}
use Rattle.clocked_rows.proofs.Alone.{IsSilent, some_of, two_uses}

-- the two clocks have no instant in common
apart : ClassesMeet row.setting (Some 0) (Some 1) → ⊥
apart (p, q, is_p, is_q, share) =
    let first : clock.Event 0 1 0 ≡ p = some_of (clock.Event 0 1 0) p is_p in
    let second : clock.Event 1 1 0 ≡ q = some_of (clock.Event 1 1 0) q is_q in
    let own : ShareInstant (clock.Event 0 1 0) (clock.Event 1 1 0) = subst (λ z. ShareInstant z (clock.Event 1 1 0)) (sym first) (subst (λ z. ShareInstant p z) (sym second) share) in
    absurd (let e : 0 ≡ 1 = own.0 in cc)

apart_back : ClassesMeet row.setting (Some 1) (Some 0) → ⊥
apart_back (p, q, is_p, is_q, share) =
    let first : clock.Event 1 1 0 ≡ p = some_of (clock.Event 1 1 0) p is_p in
    let second : clock.Event 0 1 0 ≡ q = some_of (clock.Event 0 1 0) q is_q in
    let own : ShareInstant (clock.Event 1 1 0) (clock.Event 0 1 0) = subst (λ z. ShareInstant z (clock.Event 0 1 0)) (sym first) (subst (λ z. ShareInstant p z) (sym second) share) in
    absurd (let e : 1 ≡ 0 = own.0 in cc)

b_silent : IsSilent row.setting 0 row.one_more_than_b
b_silent y (inl bare) = let none : bare_count y row.one_more_than_b ≡ 0 = simp (levels, conversions) in omega (arith, bare, none)
b_silent y (inr (inl held)) = let none : held_count y row.one_more_than_b ≡ 0 = simp (levels, conversions) in omega (arith, held, none)
b_silent zero (inr (inr (converted, meets))) = let none : converted_count 0 row.one_more_than_b ≡ 0 = simp (levels, conversions) in omega (arith, converted, none)
b_silent (suc zero) (inr (inr (converted, meets))) = let none : converted_count 1 row.one_more_than_b ≡ 0 = simp (levels, conversions) in omega (arith, converted, none)
b_silent (suc (suc zero)) (inr (inr (converted, meets))) = apart meets
b_silent (suc (suc (suc y))) (inr (inr (converted, (p, q, is_p, is_q, share)))) = absurd (let e : None ≡ Some q = is_q in cc)

a_silent : IsSilent row.setting 1 row.one_more_than_a
a_silent y (inl bare) = let none : bare_count y row.one_more_than_a ≡ 0 = simp (levels, conversions) in omega (arith, bare, none)
a_silent y (inr (inl held)) = let none : held_count y row.one_more_than_a ≡ 0 = simp (levels, conversions) in omega (arith, held, none)
a_silent zero (inr (inr (converted, meets))) = let none : converted_count 0 row.one_more_than_a ≡ 0 = simp (levels, conversions) in omega (arith, converted, none)
a_silent (suc zero) (inr (inr (converted, meets))) = apart_back meets
a_silent (suc (suc zero)) (inr (inr (converted, meets))) = let none : converted_count 2 row.one_more_than_a ≡ 0 = simp (levels, conversions) in omega (arith, converted, none)
a_silent (suc (suc (suc y))) (inr (inr (converted, (p, q, is_p, is_q, share)))) = absurd (let e : None ≡ Some q = is_q in cc)

none : (i : ℕ) (equation : Equation) → slice_get row.setting.model.equations (suc (suc i)) ≡ Some equation → ⊥
none i equation h = absurd cc

a_unreached : IsUnreached row.setting [] 1
a_unreached = record { name = row.a; found = refl; valued = λ e. absurd cc; own = refl; later = λ reached. omega (arith, reached.1) }

b_unreached : IsUnreached row.setting (record { equation = 0; name = 1 } ∷ []) 2
b_unreached = record { name = row.b; found = refl; valued = λ e. absurd cc; own = refl; later = later }
  where
    later : Contains {X = ℕ} (1 ∷ []) 2 → ⊥
    later (zero, lt, e) = absurd cc
    later (suc k, lt, e) = omega (arith, lt)

pub uses : row.HasUses
uses = two_uses row.setting 1 2 row.one_more_than_b row.one_more_than_a (Some 0) (Some 1) refl refl none a_unreached b_unreached b_silent a_silent (simp (levels, conversions)) (simp (levels, conversions))

pub other_unread : row.IsOtherUnread
other_unread = (b_unread, a_unread)
  where
    own : (left right : Expr) (n : ℕ) (equation : Equation) → Some (Valued left right (Some n)) ≡ Some equation → Valued left right (Some n) ≡ equation
    own left right n equation h = cc

    not_left : EquationReads row.setting 0 (Valued (Read 1) row.one_more_than_b (Some 0)) 2 → ⊥
    not_left (inl (inl bare)) = let none : bare_count 2 (Read 1) ≡ 0 = simp levels in omega (arith, bare, none)
    not_left (inl (inr (inl held))) = let none : held_count 2 (Read 1) ≡ 0 = simp levels in omega (arith, held, none)
    not_left (inl (inr (inr (converted, meets)))) = apart meets
    not_left (inr reads) = b_silent 2 reads

    not_right : EquationReads row.setting 1 (Valued (Read 2) row.one_more_than_a (Some 1)) 1 → ⊥
    not_right (inl (inl bare)) = let none : bare_count 1 (Read 2) ≡ 0 = simp levels in omega (arith, bare, none)
    not_right (inl (inr (inl held))) = let none : held_count 1 (Read 2) ≡ 0 = simp levels in omega (arith, held, none)
    not_right (inl (inr (inr (converted, meets)))) = apart_back meets
    not_right (inr reads) = a_silent 1 reads

    b_unread : Reads row.setting 0 2 → ⊥
    b_unread (equation, found, reads) = not_left (subst (λ z. EquationReads row.setting 0 z 2) (sym (own _ _ 0 equation found)) reads)

    a_unread : Reads row.setting 1 1 → ⊥
    a_unread (equation, found, reads) = not_right (subst (λ z. EquationReads row.setting 1 z 1) (sym (own _ _ 1 equation found)) reads)
