-- The hold of a name that fails where it ticks.
use Rattle.std.proofs.Common.{◌≡◌, refl, sym, subst, ◌∙◌, ℕ, zero, suc, ◌<◌, [], ◌∷◌, Some, None, lit<, arith, pos, inl, inr, slice_get, true, false}
use Rattle.std.proofs.lemmas.Fmt.{decimal_digit}
use Rattle.std.proofs.lemmas.Bool.{false≢true}
use Rattle.std.specs.List.{Contains}
use Rattle.std.proofs.Math.Dec.{eqb-zero-suc}
use Rattle.sync_values.specs.declared.value.Value.{Value}
use Rattle.sync_values.specs.declared.value.Value.TheVariants as value
use Rattle.sync_values.specs.declared.value.ChainOp.TheVariants.{Plus}
use Rattle.sync_values.specs.declared.value.Fail.{Fail}
use Rattle.sync_values.specs.declared.value.Fail.TheVariants.{TooLarge}
use Rattle.flat_model.specs.declared.model.FlatName.{FlatName}
use Rattle.flat_model.specs.declared.equation.Equation.{Equation}
use Rattle.flat_model.specs.declared.expression.Expr.{Expr}
use Rattle.flat_model.specs.declared.expression.Expr.TheVariants.{Const, Read, Chain, Previous, Hold}
use Rattle.flat_model.specs.Faults.{EquationFails}
use Rattle.flat_model.specs.Occurrences.{bare_count, held_count, converted_count}
use Rattle.flat_model.specs.Setting.{views_at}
use Rattle.flat_model.specs.Meaning.{value_of}
use Rattle.flat_model.specs.Operators.{Is, Fails}
use Rattle.flat_model.specs.Uses.{Use}
use Rattle.flat_model.specs.Given.{with_value, CanUse, Solves, HasReadsBut, HasLastValue}
use Rattle.flat_model.proofs.Values.{values}
use Rattle.clocked_rows.specs.HeldFault as row
use Rattle.clocked_rows.proofs.Counts.{levels, ways}
use Rattle.clocked_rows.proofs.Each.{met_at}

others : (m x : ℕ) → slice_get row.setting.model.names x ≡ None → row.values x m ≡ None
others m zero h = absurd cc
others m (suc zero) h = absurd cc
others m (suc (suc x)) h = refl

pub met_before : row.IsMetBefore
met_before zero le = met_at row.setting row.values 0 ((tt, refl), ((tt, (value.Int (pos 9223372036854775807), refl, refl)), tt)) (others 0) tt
    ((value.Int (pos 9223372036854775807), simp values, simp values), (tt, tt))
met_before (suc m) le = absurd (omega arith)

abbrev next : Expr
next = Chain (Previous 0 ∷ Const (value.Int (pos 1)) ∷ []) (Plus ∷ [])

-- the equation of a reads no other name now
reads_no_other : HasReadsBut row.setting row.values 1 1 0 row.counting
reads_no_other zero other = absurd (other refl)
reads_no_other (suc y) other =
    let bare_left : bare_count (suc y) (Read 0) ≡ 0 = simp (levels, eqb-zero-suc) in
    let held_left : held_count (suc y) (Read 0) ≡ 0 = simp levels in
    let converted_left : converted_count (suc y) (Read 0) ≡ 0 = simp levels in
    let bare_right : bare_count (suc y) next ≡ 0 = simp levels in
    let held_right : held_count (suc y) next ≡ 0 = simp levels in
    let converted_right : converted_count (suc y) next ≡ 0 = simp levels in (
      record { bare = λ lt. absurd (omega (arith, lt, bare_left)); held = λ lt. absurd (omega (arith, lt, held_left)); converted = λ lt meets. absurd (omega (arith, lt, converted_left)) },
      record { bare = λ lt. absurd (omega (arith, lt, bare_right)); held = λ lt. absurd (omega (arith, lt, held_right)); converted = λ lt meets. absurd (omega (arith, lt, converted_right)) },
    )

too_large : (v : Value) → value_of next (views_at row.setting (with_value row.values 1 0 v) (Some 0) 1) ≡ Fails TooLarge
too_large v = simp values

unsolved : (v : Value) → Solves row.setting row.values 1 1 row.counting 0 v → ⊥
unsolved v (w, left, right) = let fails = too_large v in absurd cc

-- a, which ticks, has no last value there
no_last_value : HasLastValue row.setting row.values 1 0 → ⊥
no_last_value (inl rests) = false≢true (sym rests.1)
no_last_value (inr some) = false≢true some

-- so the hold of it does not count
holds_not : (equation : Equation) (name : FlatName) → CanUse row.setting row.values 1 (record { equation = 0; name = 1 }) equation name → ⊥
holds_not equation name can =
    let same : row.holding ≡ equation = (let e : Some row.holding ≡ Some equation = can.equation_is in cc) in
    let reads : HasReadsBut row.setting row.values 1 0 1 row.holding = subst (λ z. HasReadsBut row.setting row.values 1 0 1 z) (sym same) can.reads in
    let held : held_count 0 (Hold 0) ≡ 1 = simp levels in
    no_last_value ((reads 0 (λ e. absurd cc)).1.held (omega (arith, held)))

by_use : (entry : Use) (equation : Equation) (name : FlatName) → Contains row.uses entry → entry.equation ≡ 0 → CanUse row.setting row.values 1 entry equation name → ⊥
by_use entry equation name (zero, lt, e) first can =
    let two : 1 ≡ entry.equation = (let same : record { equation = 1; name = 0 } ≡ entry = e in subst (λ z. 1 ≡ z.equation) same refl) in
    absurd (omega (arith, two, first))
by_use entry equation name (suc zero, lt, e) first can =
    let same : record { equation = 0; name = 1 } ≡ entry = e in
    holds_not equation name (subst (λ z. CanUse row.setting row.values 1 z equation name) (sym same) can)
by_use entry equation name (suc (suc k), lt, e) first can = absurd (omega (arith, lt))

none_first : (j : ℕ) (k : Fail) → j < 1 → EquationFails row.setting row.values row.uses 1 j k → ⊥
none_first j k lt f = by_use f.entry f.equation f.name f.used (f.equation_is ∙ (let z : j ≡ 0 = omega (arith, lt) in z)) f.counts

pub first : row.IsFirst
first = (
  record {
    entry = record { equation = 1; name = 0 };
    used = (0, omega arith, refl);
    equation_is = refl;
    equation = row.counting;
    name = row.a;
    counts = record { equation_is = refl; name_is = refl; ticks = (tt, refl); reads = reads_no_other };
    unsolved = λ v t h. unsolved v h;
    kind_is = simp ways;
  },
  λ j k f. absurd (let e : None ≡ Some f.condition = f.found in cc),
  none_first,
)

pub line : row.IsLine
line = rw (decimal_digit 0 (lit< tt), decimal_digit 2 (lit< tt))
