-- Two equations that fail at one instant.
use Rattle.std.proofs.Common.{◌≡◌, refl, ℕ, zero, suc, ◌<◌, [], ◌∷◌, Some, None, lit<, arith, inl, inr, slice_get, true}
use Rattle.std.specs.List.{Contains}
use Rattle.std.proofs.lemmas.Fmt.{decimal_digit}
use Rattle.std.proofs.lemmas.Option.{same_Some}
use Rattle.sync_values.specs.declared.value.Value.{Value}
use Rattle.sync_values.specs.declared.value.Fail.{Fail}
use Rattle.sync_values.specs.declared.value.Fail.TheVariants.{Divide, TooLarge}
use Rattle.flat_model.specs.declared.equation.Equation.{Equation}
use Rattle.flat_model.specs.declared.equation.Equation.TheVariants.{Valued}
use Rattle.flat_model.specs.declared.expression.Expr.TheVariants.{Read}
use Rattle.flat_model.specs.declared.model.FlatName.{FlatName}
use Rattle.flat_model.specs.Assignment.{Assignment}
use Rattle.flat_model.specs.Setting.{views_at}
use Rattle.flat_model.specs.Occurrences.{bare_count, held_count, converted_count}
use Rattle.flat_model.specs.Meaning.{value_of}
use Rattle.flat_model.specs.Operators.{Fails}
use Rattle.flat_model.specs.Uses.{Use, IsUnreached, AreUses}
use Rattle.flat_model.specs.Given.{with_row, with_value, IsGiven, CanUse, Solves}
use Rattle.flat_model.specs.Faults.{EquationFails, SomethingFails}
use Rattle.flat_model.specs.Meets.{MeetsBefore}
use Rattle.flat_model.proofs.Values.{values}
use Rattle.clocked_rows.specs.TwoEquations as row
use Rattle.clocked_rows.proofs.Counts.{levels, ways}
use Rattle.clocked_rows.proofs.Each.{met_at}
use Rattle.clocked_rows.proofs.Alone.{IsSilent, which, two_uses, reads_but, counts, own_solves, does_not_fail}

abbrev first_equation : Equation
first_equation = Valued (Read 0) row.next (Some 0)

abbrev second_equation : Equation
second_equation = Valued (Read 1) row.quotient (Some 0)

abbrev use_of_a : Use
use_of_a = record { equation = 0; name = 0 }

abbrev use_of_b : Use
use_of_b = record { equation = 1; name = 1 }

met : MeetsBefore row.setting row.values 1
met zero le = met_at row.setting row.values 0 ((tt, refl), ((tt, refl), tt)) (λ x h. refl) tt (tt, (tt, tt))
met (suc m) le = absurd (omega (arith, le))

a_silent : IsSilent row.setting 0 row.next
a_silent y (inl bare) = let none : bare_count y row.next ≡ 0 = simp levels in omega (arith, bare, none)
a_silent y (inr (inl held)) = let none : held_count y row.next ≡ 0 = simp levels in omega (arith, held, none)
a_silent y (inr (inr (converted, meets))) = let none : converted_count y row.next ≡ 0 = simp levels in omega (arith, converted, none)

b_silent : IsSilent row.setting 1 row.quotient
b_silent y (inl bare) = let none : bare_count y row.quotient ≡ 0 = simp levels in omega (arith, bare, none)
b_silent y (inr (inl held)) = let none : held_count y row.quotient ≡ 0 = simp levels in omega (arith, held, none)
b_silent y (inr (inr (converted, meets))) = let none : converted_count y row.quotient ≡ 0 = simp levels in omega (arith, converted, none)

uses_are : AreUses row.setting row.uses
uses_are = two_uses row.setting 0 1 row.next row.quotient (Some 0) (Some 0) refl refl none a_unreached b_unreached a_silent b_silent (simp levels) (simp levels)
  where
    none : (i : ℕ) (equation : Equation) → slice_get row.setting.model.equations (suc (suc i)) ≡ Some equation → ⊥
    none i equation h = absurd cc

    later : Contains {X = ℕ} (0 ∷ []) 1 → ⊥
    later (zero, lt, e) = absurd cc
    later (suc k, lt, e) = omega (arith, lt)

    a_unreached : IsUnreached row.setting [] 0
    a_unreached = record { name = row.a; found = refl; valued = λ e. absurd cc; own = refl; later = λ reached. omega (arith, reached.1) }

    b_unreached : IsUnreached row.setting (use_of_a ∷ []) 1
    b_unreached = record { name = row.b; found = refl; valued = λ e. absurd cc; own = refl; later = later }

-- whatever the values at the instant 0 are, one sum is too large and one division is by 0
too_large : (S : Assignment) → value_of row.next (views_at row.setting S (Some 0) 1) ≡ Fails TooLarge
too_large S = simp values

divides : (S : Assignment) → value_of row.quotient (views_at row.setting S (Some 0) 1) ≡ Fails Divide
divides S = simp values

a_unsolved : (S : Assignment) (v : Value) → Solves row.setting S 1 0 first_equation 0 v → ⊥
a_unsolved S v (w, left, right) = let fails = too_large (with_value S 1 0 v) in absurd cc

b_unsolved : (S : Assignment) (v : Value) → Solves row.setting S 1 1 second_equation 1 v → ⊥
b_unsolved S v (w, left, right) = let fails = divides (with_value S 1 1 v) in absurd cc

no_solution : (S : Assignment) (entry : Use) (equation : Equation) (name : FlatName) (v : Value) → Contains row.uses entry → CanUse row.setting S 1 entry equation name
    → Solves row.setting S 1 entry.equation equation entry.name v → ⊥
no_solution S entry equation name v used can solves = elim (which use_of_a use_of_b entry used) [
  | inl same ↦ a_unsolved S v (own_solves row.setting S S 1 use_of_a entry first_equation equation row.a name v (counts row.setting S 1 use_of_a entry first_equation equation row.a name same refl refl can) solves)
  | inr same ↦ b_unsolved S v (own_solves row.setting S S 1 use_of_b entry second_equation equation row.b name v (counts row.setting S 1 use_of_b entry second_equation equation row.b name same refl refl can) solves)
]

no_input : (x : ℕ) (name : FlatName) → slice_get row.setting.model.names x ≡ Some name → name.input ≡ true → ⊥
no_input zero name f i = absurd (let e : row.a ≡ name = same_Some row.a name f in cc)
no_input (suc zero) name f i = absurd (let e : row.b ≡ name = same_Some row.b name f in cc)
no_input (suc (suc x)) name f i = absurd cc

abbrev at_zero : Assignment
at_zero = with_row row.values 1 (λ x. None)

given : IsGiven row.setting row.values row.uses 1 (λ x. None)
given = record {
  closed = record {
    inputs = λ x name at f i e. absurd (no_input x name f i);
    solved = λ entry equation name v used can only. absurd (no_solution at_zero entry equation name v used can only.solves);
  };
  least = λ other closed x v e. absurd cc;
}

a_fails : (S : Assignment) → EquationFails row.setting S row.uses 1 0 TooLarge
a_fails S = record {
  entry = use_of_a;
  used = (0, omega arith, refl);
  equation_is = refl;
  equation = first_equation;
  name = row.a;
  counts = record { equation_is = refl; name_is = refl; ticks = (tt, refl); reads = reads_but row.setting S 1 0 0 row.next (Some 0) a_silent };
  unsolved = λ v t h. a_unsolved S v h;
  kind_is = simp ways;
}

b_fails : (S : Assignment) → EquationFails row.setting S row.uses 1 1 Divide
b_fails S = record {
  entry = use_of_b;
  used = (1, omega arith, refl);
  equation_is = refl;
  equation = second_equation;
  name = row.b;
  counts = record { equation_is = refl; name_is = refl; ticks = (tt, refl); reads = reads_but row.setting S 1 1 1 row.quotient (Some 0) b_silent };
  unsolved = λ v t h. b_unsolved S v h;
  kind_is = simp ways;
}

-- nothing counts at Initial
rests : (S : Assignment) (j : ℕ) (k : Fail) → EquationFails row.setting S row.uses 0 j k → ⊥
rests S j k f = elim (which use_of_a use_of_b f.entry f.used) [
  | inl same ↦ does_not_fail row.setting S row.uses 0 j k use_of_a first_equation row.a f same refl refl (inl refl)
  | inr same ↦ does_not_fail row.setting S row.uses 0 j k use_of_b second_equation row.b f same refl refl (inl refl)
]

none_before : (m : ℕ) (S : Assignment) → m < 1 → SomethingFails row.setting S row.uses m → ⊥
none_before zero S lt (inl (site, k, f)) = absurd (let e : None ≡ Some f.condition = f.found in cc)
none_before zero S lt (inr (j, k, f)) = rests S j k f
none_before (suc m) S lt f = absurd (omega (arith, lt))

pub fault : row.IsFault
fault = record {
  meets = met;
  uses = row.uses;
  uses_are = uses_are;
  row = λ x. None;
  given = given;
  first = (a_fails at_zero, λ j k f. absurd (let e : None ≡ Some f.condition = f.found in cc), λ j k lt f. omega (arith, lt));
  none_before = λ k earlier lt g f. none_before k _ lt f;
}

pub second_not_first : row.IsSecondNotFirst
second_not_first = (b_fails row.values, λ is. is.2 0 TooLarge (omega arith) (a_fails row.values))

pub line : row.IsLine
line = rw (decimal_digit 0 (lit< tt), decimal_digit 1 (lit< tt))

pub printed : row.IsPrinted
printed = refl

pub met_by_none : row.IsMetByNone
met_by_none S h =
    let (w, left, right) = (h 1 (omega arith)).equations 0 first_equation refl refl in
    let fails = too_large S in
    absurd cc
