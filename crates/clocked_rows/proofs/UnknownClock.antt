-- The condition that reads what has no value.
use Rattle.std.proofs.Common.{◌≡◌, refl, ap, subst, ◌∙◌, ◌==◌, ◌⊎◌, ℕ, zero, suc, ◌<◌, [], ◌∷◌, Some, None, lit<, arith, pos, inl, inr, true, false, Bool, IsSome}
use Rattle.std.proofs.lemmas.Fmt.{decimal_digit}
use Rattle.std.proofs.lemmas.Bool.{false≢true}
use Rattle.std.proofs.lemmas.Bool.Decides.{eqb_tells}
use Rattle.std.proofs.Math.Dec.{eqb-zero-suc}
use Rattle.sync_values.specs.declared.value.Value.{Value}
use Rattle.sync_values.specs.declared.value.Value.TheVariants as value
use Rattle.sync_values.specs.declared.value.Fail.{Fail}
use Rattle.sync_values.specs.declared.value.Fail.TheVariants.{Divide}
use Rattle.flat_model.specs.declared.expression.Expr.{Expr}
use Rattle.flat_model.specs.declared.expression.Expr.TheVariants.{Const, Read, Apply, Hold}
use Rattle.flat_model.specs.declared.expression.Fun.TheVariants.{Div}
use Rattle.flat_model.specs.Faults.{SiteFails}
use Rattle.flat_model.specs.Occurrences.{one_if, bare_count, held_count, converted_count}
use Rattle.flat_model.specs.Setting.{site_answer, views_at}
use Rattle.flat_model.specs.Meaning.{value_of}
use Rattle.flat_model.specs.Operators.{Is, Fails}
use Rattle.flat_model.specs.Given.{with_value, Solves, HasReadsBut, HasLastValue}
use Rattle.flat_model.proofs.Values.{values}
use Rattle.flat_model.proofs.Levels.{bare_count-Read}
use Rattle.clocked_rows.specs.UnknownClock as row
use Rattle.clocked_rows.proofs.Counts.{levels, ways}

abbrev quotient : Expr
quotient = Apply Div (Const (value.Int (pos 1)) ∷ Read 0 ∷ [])

-- the equation of y reads u alone, which has a value
reads_input : HasReadsBut row.setting row.values 0 0 1 row.dividing
reads_input y other =
    let held_left : held_count y (Read 1) ≡ 0 = simp levels in
    let converted_left : converted_count y (Read 1) ≡ 0 = simp levels in
    let held_right : held_count y quotient ≡ 0 = simp levels in
    let converted_right : converted_count y quotient ≡ 0 = simp levels in (
      record { bare = left y other; held = λ lt. absurd (omega (arith, lt, held_left)); converted = λ lt meets. absurd (omega (arith, lt, converted_left)) },
      record { bare = right y; held = λ lt. absurd (omega (arith, lt, held_right)); converted = λ lt meets. absurd (omega (arith, lt, converted_right)) },
    )
  where
    apart : (y : ℕ) → (((1 == suc (suc y)) ≡ true) × (1 ≡ suc (suc y))) ⊎ (((1 == suc (suc y)) ≡ false) × (1 ≡ suc (suc y) → ⊥)) → one_if (1 == suc (suc y)) ≡ 0
    apart y (inl same) = absurd (omega (arith, same.1))
    apart y (inr other) = ap one_if other.0

    none : (y : ℕ) → bare_count (suc (suc y)) (Read 1) ≡ 0
    none y = bare_count-Read (suc (suc y)) 1 ∙ apart y (eqb_tells 1 (suc (suc y)))

    left : (y : ℕ) → (y ≡ 1 → ⊥) → 0 < bare_count y (Read 1) → IsSome (row.values y 0)
    left zero other lt = refl
    left (suc zero) other lt = absurd (other refl)
    left (suc (suc y)) other lt = absurd (omega (arith, lt, none y))

    right : (y : ℕ) → 0 < bare_count y quotient → IsSome (row.values y 0)
    right zero lt = refl
    right (suc y) lt = let none : bare_count (suc y) quotient ≡ 0 = simp (levels, eqb-zero-suc) in absurd (omega (arith, lt, none))

divides : (v : Value) → value_of quotient (views_at row.setting (with_value row.values 0 1 v) None 0) ≡ Fails Divide
divides v = simp values

unsolved : (v : Value) → Solves row.setting row.values 0 0 row.dividing 1 v → ⊥
unsolved v (w, left, right) = let fails = divides v in absurd cc

-- the condition reads y, which has no value
no_site : (j : ℕ) (k : Fail) → SiteFails row.setting row.values 0 j k → ⊥
no_site zero k f =
    let same : row.condition ≡ f.condition = (let e : Some row.condition ≡ Some f.condition = f.found in cc) in
    let reads : bare_count 1 row.condition ≡ 1 = simp levels in
    false≢true (f.reads 1 (subst (λ z. 0 < bare_count 1 z) same (omega (arith, reads))))
no_site (suc j) k f = absurd (let e : None ≡ Some f.condition = f.found in cc)

pub first : row.IsFirst
first = (
  record {
    entry = record { equation = 0; name = 1 };
    used = (0, omega arith, refl);
    equation_is = refl;
    equation = row.dividing;
    name = row.y;
    counts = record { equation_is = refl; name_is = refl; ticks = (tt, refl); reads = reads_input };
    unsolved = λ v t h. unsolved v h;
    kind_is = simp (ways, values);
  },
  no_site,
  λ j k lt f. omega (arith, lt),
)

fails_to_tell : (b : Bool) → site_answer row.setting row.values 0 0 ≡ Is (value.Bool b) → ⊥
fails_to_tell b is = let fails : site_answer row.setting row.values 0 0 ≡ Fails Divide = simp values in absurd cc

no_last_value : HasLastValue row.setting row.values 0 2 → ⊥
no_last_value (inl (known, rests)) = fails_to_tell known.0 known.1
no_last_value (inr some) = false≢true some

pub held_unknown : row.IsHeldUnknown
held_unknown name can =
    let held : held_count 2 (Hold 2) ≡ 1 = simp levels in
    no_last_value ((can.reads 2 (λ e. absurd cc)).1.held (omega (arith, held)))

pub line : row.IsLine
line = rw (decimal_digit 1 (lit< tt))
