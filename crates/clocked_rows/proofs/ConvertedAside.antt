-- The name that stands bare and under a conversion.
use Rattle.std.proofs.Common.{◌≡◌, refl, sym, subst, ℕ, zero, suc, ◌+◌, ◌<◌, List, [], ◌∷◌, Some, None, arith, pos, inl, inr, slice_get}
use Rattle.sync_values.specs.declared.value.Value.TheVariants as value
use Rattle.flat_model.specs.declared.expression.Expr.TheVariants.{Const}
use Rattle.flat_model.specs.Occurrences.{bare_count, held_count, converted_count}
use Rattle.flat_model.specs.Uses.{Use, occurrences, CanReach, IsUnreached, IsSolvableFor}
use Rattle.flat_model.proofs.Values.{values}
use Rattle.clocked_rows.specs.ConvertedAside as row
use Rattle.clocked_rows.proofs.Counts.{levels}
use Rattle.clocked_rows.proofs.Conversions.{conversions}
use Rattle.clocked_rows.proofs.Each.{met_at}
use Rattle.clocked_rows.proofs.Alone.{IsSilent, some_of, reaches}

-- x stands twice
twice : occurrences 0 row.doubled + occurrences 0 (Const (value.Int (pos 2))) ≡ 2
twice = simp (levels, conversions)

pub unsolvable : row.IsUnsolvable
unsolvable solvable = omega (arith, solvable.0, twice)

-- y stands nowhere in the first equation
nowhere : occurrences 1 row.doubled + occurrences 1 (Const (value.Int (pos 2))) ≡ 0
nowhere = simp (levels, conversions)

-- so the first equation reaches neither name
reaches_none : (uses : List Use) (y : ℕ) → CanReach row.setting uses 0 y → ⊥
reaches_none uses zero reach =
    let own : IsSolvableFor 0 row.doubling = subst (λ z. IsSolvableFor 0 z) (sym (some_of row.doubling reach.equation reach.found)) reach.solvable in
    unsolvable own
reaches_none uses (suc zero) reach =
    let own : IsSolvableFor 1 row.doubling = subst (λ z. IsSolvableFor 1 z) (sym (some_of row.doubling reach.equation reach.found)) reach.solvable in
    omega (arith, own.0, nowhere)
reaches_none uses (suc (suc y)) reach = absurd (let e : None ≡ Some reach.unreached.name = reach.unreached.found in cc)

silent : IsSilent row.setting 1 row.next
silent y (inl bare) = let none : bare_count y row.next ≡ 0 = simp levels in omega (arith, bare, none)
silent y (inr (inl held)) = let none : held_count y row.next ≡ 0 = simp levels in omega (arith, held, none)
silent y (inr (inr (converted, meets))) = let none : converted_count y row.next ≡ 0 = simp levels in omega (arith, converted, none)

y_unreached : IsUnreached row.setting [] 1
y_unreached = record { name = row.y; found = refl; valued = λ e. absurd cc; own = refl; later = λ reached. omega (arith, reached.1) }

pub uses : row.HasUses
uses = (record { reaches = reaches row.setting [] 1 1 row.next (Some 0) refl (λ used. omega (arith, used.1)) y_unreached silent (simp levels); first = earlier }, later)
  where
    earlier : (j y : ℕ) → j < 1 → CanReach row.setting [] j y → ⊥
    earlier zero y lt reach = reaches_none [] y reach
    earlier (suc j) y lt reach = omega (arith, lt)

    later : (i y : ℕ) → CanReach row.setting (record { equation = 1; name = 1 } ∷ []) i y → ⊥
    later zero y reach = reaches_none (record { equation = 1; name = 1 } ∷ []) y reach
    later (suc zero) y reach = reach.unused (0, omega arith, refl)
    later (suc (suc i)) y reach = absurd (let e : None ≡ Some reach.equation = reach.found in cc)

others : (m x : ℕ) → slice_get row.setting.model.names x ≡ None → row.values x m ≡ None
others m zero h = absurd cc
others m (suc zero) h = absurd cc
others m (suc (suc x)) h = refl

pub met : row.IsMet
met zero le = met_at row.setting row.values 0 ((tt, refl), ((tt, refl), tt)) (others 0) tt (tt, (tt, tt))
met (suc zero) le = met_at row.setting row.values 1
    ((tt, (value.Int (pos 1), refl, refl)), ((tt, (value.Int (pos 1), refl, refl)), tt)) (others 1) tt
    ((value.Int (pos 2), simp values, simp values), ((value.Int (pos 1), simp values, simp values), tt))
met (suc (suc m)) le = absurd (omega (arith, le))
