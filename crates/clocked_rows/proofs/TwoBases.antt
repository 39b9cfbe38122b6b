-- Two base partitions, of which the second fails.
use Rattle.std.proofs.Common.{◌≡◌, refl, sym, ap, ◌∙◌, ℕ, zero, suc, ◌<◌, List, [], ◌∷◌, Option, Some, None, lit<, arith, pos, inl, inr, slice_get, true}
use Rattle.std.specs.List.{Contains}
use Rattle.std.proofs.lemmas.Fmt.{decimal_digit, decimal_step}
use Rattle.std.proofs.lemmas.Option.{same_Some}
use Rattle.rational_time.specs.declared.ratio.Ratio.{Ratio}
use Rattle.rational_time.specs.Fraction.{Same, AtMost}
use Rattle.sync_values.specs.declared.value.Value.{Value}
use Rattle.sync_values.specs.declared.value.Value.TheVariants as value
use Rattle.sync_values.specs.declared.value.Fail.{Fail}
use Rattle.sync_values.specs.declared.value.Fail.TheVariants.{Divide}
use Rattle.flat_model.specs.declared.equation.Equation.{Equation}
use Rattle.flat_model.specs.declared.equation.Equation.TheVariants.{Valued}
use Rattle.flat_model.specs.declared.expression.Expr.TheVariants.{Read}
use Rattle.flat_model.specs.declared.model.FlatName.{FlatName}
use Rattle.flat_model.specs.Assignment.{Assignment}
use Rattle.flat_model.specs.Setting.{views_at}
use Rattle.flat_model.specs.Occurrences.{bare_count, held_count, converted_count}
use Rattle.flat_model.specs.Meaning.{value_of}
use Rattle.flat_model.specs.Operators.{Is, Fails, read}
use Rattle.flat_model.specs.Uses.{Use, IsUnreached, AreUses}
use Rattle.flat_model.specs.Given.{Row, with_row, with_value, IsGiven, IsClosed, IsOnlySolution, CanUse, Solves}
use Rattle.flat_model.specs.Faults.{EquationFails, SomethingFails}
use Rattle.flat_model.specs.Meets.{MeetsBefore, HasOneValue}
use Rattle.flat_model.proofs.Values.{values}
use Rattle.clocked_rows.specs.Instants.{whole}
use Rattle.clocked_rows.specs.TwoBases as row
use Rattle.clocked_rows.proofs.Listed.{Among, Cause, are_instants}
use Rattle.clocked_rows.proofs.Counts.{levels, ways}
use Rattle.clocked_rows.proofs.Each.{met_at}
use Rattle.clocked_rows.proofs.Alone.{IsSilent, which, two_uses, reads_but, counts, own_solves, does_not_fail}

abbrev first_equation : Equation
first_equation = Valued (Read 0) row.next (Some 0)

abbrev second_equation : Equation
second_equation = Valued (Read 1) row.quotient (Some 1)

abbrev use_of_a : Use
use_of_a = record { equation = 0; name = 0 }

abbrev use_of_b : Use
use_of_b = record { equation = 1; name = 1 }

abbrev uses : List Use
uses = use_of_a ∷ use_of_b ∷ []

listed : (t : Ratio) → AtMost t (whole 1) → Cause row.setting.clocking.clocks row.setting.table.times (whole 1) row.setting.instants t → Among (Same t) row.setting.instants
listed t within (inl first) = inl (omega (arith, first))
listed t within (inr (inl (inl first))) = inl first
listed t within (inr (inl (inr none))) = absurd none
listed t within (inr (inr (inl (zero, tick)))) = inl (omega (arith, tick))
listed t within (inr (inr (inl (suc zero, tick)))) = inr (inr (inl (omega (arith, tick))))
listed t within (inr (inr (inl (suc (suc zero), tick)))) = inr (inr (inr (inr (inl (omega (arith, tick))))))
listed t within (inr (inr (inl (suc (suc (suc k)), tick)))) = absurd (omega (arith, tick, within, t.positive))
listed t within (inr (inr (inr (inl (zero, tick))))) = inl (omega (arith, tick))
listed t within (inr (inr (inr (inl (suc zero, tick))))) = inr (inl (omega (arith, tick)))
listed t within (inr (inr (inr (inl (suc (suc zero), tick))))) = inr (inr (inr (inl (omega (arith, tick)))))
listed t within (inr (inr (inr (inl (suc (suc (suc zero)), tick))))) = inr (inr (inr (inr (inl (omega (arith, tick))))))
listed t within (inr (inr (inr (inl (suc (suc (suc (suc k))), tick))))) = absurd (omega (arith, tick, within, t.positive))
listed t within (inr (inr (inr (inr none)))) = absurd none

pub instants : row.HasInstants
instants = are_instants _ _ _ _ (omega arith, (omega arith, (omega arith, (omega arith, tt))))
    ((omega arith, inl refl), ((omega arith, inr (inr (inr (inl (1, refl))))), ((omega arith, inr (inr (inl (1, refl)))), ((omega arith, inr (inr (inr (inl (2, refl))))), ((omega arith, inr (inr (inl (2, refl)))), tt)))))
    listed

others : (m x : ℕ) → slice_get row.setting.model.names x ≡ None → row.values x m ≡ None
others m zero h = absurd cc
others m (suc zero) h = absurd cc
others m (suc (suc x)) h = refl

met : MeetsBefore row.setting row.values 5
met zero le = met_at row.setting row.values 0 ((tt, refl), ((tt, refl), tt)) (others 0) tt (tt, (tt, tt))
met (suc zero) le = met_at row.setting row.values 1
    ((tt, (value.Int (pos 1), refl, refl)), ((tt, (value.Int (pos 2), refl, refl)), tt)) (others 1) tt
    ((value.Int (pos 1), simp values, simp values), ((value.Int (pos 2), simp values, simp values), tt))
met (suc (suc zero)) le = met_at row.setting row.values 2
    ((tt, refl), ((tt, (value.Int (pos 12), refl, refl)), tt)) (others 2) tt (tt, ((value.Int (pos 12), simp values, simp values), tt))
met (suc (suc (suc zero))) le = met_at row.setting row.values 3
    ((tt, (value.Int (pos 2), refl, refl)), ((tt, refl), tt)) (others 3) tt ((value.Int (pos 2), simp values, simp values), (tt, tt))
met (suc (suc (suc (suc zero)))) le = met_at row.setting row.values 4
    ((tt, refl), ((tt, (value.Int (pos 1), refl, refl)), tt)) (others 4) tt (tt, ((value.Int (pos 1), simp values, simp values), tt))
met (suc (suc (suc (suc (suc m))))) le = absurd (omega (arith, le))

a_silent : IsSilent row.setting 0 row.next
a_silent y (inl bare) = let none : bare_count y row.next ≡ 0 = simp levels in omega (arith, bare, none)
a_silent y (inr (inl held)) = let none : held_count y row.next ≡ 0 = simp levels in omega (arith, held, none)
a_silent y (inr (inr (converted, meets))) = let none : converted_count y row.next ≡ 0 = simp levels in omega (arith, converted, none)

b_silent : IsSilent row.setting 1 row.quotient
b_silent y (inl bare) = let none : bare_count y row.quotient ≡ 0 = simp levels in omega (arith, bare, none)
b_silent y (inr (inl held)) = let none : held_count y row.quotient ≡ 0 = simp levels in omega (arith, held, none)
b_silent y (inr (inr (converted, meets))) = let none : converted_count y row.quotient ≡ 0 = simp levels in omega (arith, converted, none)

uses_are : AreUses row.setting uses
uses_are = two_uses row.setting 0 1 row.next row.quotient (Some 0) (Some 1) refl refl none a_unreached b_unreached a_silent b_silent (simp levels) (simp levels)
  where
    none : (i : ℕ) (equation : Equation) → slice_get row.setting.model.equations (suc (suc i)) ≡ Some equation → ⊥
    none i equation h = absurd cc

    later : Contains {X = ℕ} (0 ∷ []) 1 → ⊥
    later (zero, lt, e) = absurd cc
    later (suc k, lt, e) = omega (arith, lt)

    a_unreached : IsUnreached row.setting [] 0
    a_unreached = record { name = row.a; found = refl; valued = λ e. absurd cc; own = refl; later = λ reached. omega (arith, reached.1) }

    b_unreached : IsUnreached row.setting (use_of_a ∷ []) 1
    b_unreached = record { name = row.b; found = refl; valued = λ e. absurd cc; own = refl; later = later }

-- where b was 1 at 2/3, the division at 1 is by 0
divides : (S : Assignment) → S 1 4 ≡ Some (value.Int (pos 1)) → value_of row.quotient (views_at row.setting S (Some 1) 5) ≡ Fails Divide
divides S one = simp (values, one)

b_unsolved : (S : Assignment) (v : Value) → S 1 4 ≡ Some (value.Int (pos 1)) → Solves row.setting S 5 1 second_equation 1 v → ⊥
b_unsolved S v one (w, left, right) = let fails = divides (with_value S 5 1 v) one in absurd cc

-- where a was 2 at 1/2, it is 3 at 1, and nothing else
three : (S : Assignment) → S 0 3 ≡ Some (value.Int (pos 2)) → value_of row.next (views_at row.setting S (Some 0) 5) ≡ Is (value.Int (pos 3))
three S two = simp (values, two)

a_solved : (S : Assignment) → S 0 3 ≡ Some (value.Int (pos 2)) → Solves row.setting S 5 0 first_equation 0 (value.Int (pos 3))
a_solved S two = (value.Int (pos 3), simp values, three (with_value S 5 0 (value.Int (pos 3))) two)

a_only : (S : Assignment) (v : Value) → S 0 3 ≡ Some (value.Int (pos 2)) → Solves row.setting S 5 0 first_equation 0 v → v ≡ value.Int (pos 3)
a_only S v two (w, left, right) =
    let now : value_of (Read 0) (views_at row.setting (with_value S 5 0 v) (Some 0) 5) ≡ Is v = simp values in
    let next = three (with_value S 5 0 v) two in
    let same : Is v ≡ Is (value.Int (pos 3)) = sym now ∙ left ∙ sym right ∙ next in
    cc

-- at 1 a is 3, and b has no value
abbrev at_one : Row
at_one zero = Some (value.Int (pos 3))
at_one (suc x) = None

abbrev with_one : Assignment
with_one = with_row row.values 5 at_one

no_input : (x : ℕ) (name : FlatName) → slice_get row.setting.model.names x ≡ Some name → name.input ≡ true → ⊥
no_input zero name f i = absurd (let e : row.a ≡ name = same_Some row.a name f in cc)
no_input (suc zero) name f i = absurd (let e : row.b ≡ name = same_Some row.b name f in cc)
no_input (suc (suc x)) name f i = absurd cc

solved_is : (entry : Use) (equation : Equation) (name : FlatName) (v : Value) → Contains uses entry → CanUse row.setting with_one 5 entry equation name
    → Solves row.setting with_one 5 entry.equation equation entry.name v → at_one entry.name ≡ Some v
solved_is entry equation name v used can solves = elim (which use_of_a use_of_b entry used) [
  | inl same ↦
      let c = counts row.setting with_one 5 use_of_a entry first_equation equation row.a name same refl refl can in
      let is : v ≡ value.Int (pos 3) = a_only with_one v refl (own_solves row.setting with_one with_one 5 use_of_a entry first_equation equation row.a name v c solves) in
      let own : at_one entry.name ≡ at_one 0 = ap (λ z. at_one z.name) (sym same) in
      own ∙ ap Some (sym is)
  | inr same ↦
      let c = counts row.setting with_one 5 use_of_b entry second_equation equation row.b name same refl refl can in
      absurd (b_unsolved with_one v refl (own_solves row.setting with_one with_one 5 use_of_b entry second_equation equation row.b name v c solves))
]

-- the equation of a counts at 1, and 3 is its only solution
a_counts : (S : Assignment) → CanUse row.setting S 5 use_of_a first_equation row.a
a_counts S = record { equation_is = refl; name_is = refl; ticks = (tt, refl); reads = reads_but row.setting S 5 0 0 row.next (Some 0) a_silent }

a_only_solution : (S : Assignment) → S 0 3 ≡ Some (value.Int (pos 2)) → IsOnlySolution row.setting S 5 0 first_equation row.a 0 (value.Int (pos 3))
a_only_solution S two = record { typed = refl; solves = a_solved S two; only = λ w typed h. a_only S w two h }

least : (other : Row) → IsClosed row.setting row.values uses 5 other → (x : ℕ) (v : Value) → at_one x ≡ Some v → other x ≡ Some v
least other closed zero v e = closed.solved use_of_a first_equation row.a (value.Int (pos 3)) (0, omega arith, refl) (a_counts (with_row row.values 5 other)) (a_only_solution (with_row row.values 5 other) refl) ∙ e
least other closed (suc x) v e = absurd cc

given : IsGiven row.setting row.values uses 5 at_one
given = record {
  closed = record {
    inputs = λ x name at f i e. absurd (no_input x name f i);
    solved = λ entry equation name v used can only. solved_is entry equation name v used can only.solves;
  };
  least = least;
}

b_fails : EquationFails row.setting with_one uses 5 1 Divide
b_fails = record {
  entry = use_of_b;
  used = (1, omega arith, refl);
  equation_is = refl;
  equation = second_equation;
  name = row.b;
  counts = record { equation_is = refl; name_is = refl; ticks = (tt, refl); reads = reads_but row.setting with_one 5 1 1 row.quotient (Some 1) b_silent };
  unsolved = λ v t h. b_unsolved with_one v refl h;
  kind_is = simp ways;
}

-- a does not fail at 1
none_first : (j : ℕ) (k : Fail) → j < 1 → EquationFails row.setting with_one uses 5 j k → ⊥
none_first j k lt f = elim (which use_of_a use_of_b f.entry f.used) [
  | inl same ↦ does_not_fail row.setting with_one uses 5 j k use_of_a first_equation row.a f same refl refl (inr (value.Int (pos 3), refl, a_solved with_one refl))
  | inr same ↦ let one : 1 ≡ f.entry.equation = ap (λ z. z.equation) same in absurd (omega (arith, lt, one, f.equation_is))
]

-- at the moments before, each use rests or is solved
spared : (S : Assignment) (m j : ℕ) (k : Fail) (f : EquationFails row.setting S uses m j k)
    → ((use_of_a ≡ f.entry) → ⊥) → ((use_of_b ≡ f.entry) → ⊥) → ⊥
spared S m j k f a_spared b_spared = elim (which use_of_a use_of_b f.entry f.used) [ inl same ↦ a_spared same | inr same ↦ b_spared same ]

abbrev at : ℕ → Row → Assignment
at m earlier = with_row row.values m earlier

nothing_fails : (m j : ℕ) (k : Fail) (earlier : Row) → m < 5 → EquationFails row.setting (at m earlier) uses m j k → ⊥
nothing_fails zero j k earlier lt f = spared (at 0 earlier) 0 j k f
    (λ same. does_not_fail row.setting (at 0 earlier) uses 0 j k use_of_a first_equation row.a f same refl refl (inl refl))
    (λ same. does_not_fail row.setting (at 0 earlier) uses 0 j k use_of_b second_equation row.b f same refl refl (inl refl))
nothing_fails (suc zero) j k earlier lt f = spared (at 1 earlier) 1 j k f
    (λ same. does_not_fail row.setting (at 1 earlier) uses 1 j k use_of_a first_equation row.a f same refl refl (inr (value.Int (pos 1), refl, (value.Int (pos 1), simp values, simp values))))
    (λ same. does_not_fail row.setting (at 1 earlier) uses 1 j k use_of_b second_equation row.b f same refl refl (inr (value.Int (pos 2), refl, (value.Int (pos 2), simp values, simp values))))
nothing_fails (suc (suc zero)) j k earlier lt f = spared (at 2 earlier) 2 j k f
    (λ same. does_not_fail row.setting (at 2 earlier) uses 2 j k use_of_a first_equation row.a f same refl refl (inl refl))
    (λ same. does_not_fail row.setting (at 2 earlier) uses 2 j k use_of_b second_equation row.b f same refl refl (inr (value.Int (pos 12), refl, (value.Int (pos 12), simp values, simp values))))
nothing_fails (suc (suc (suc zero))) j k earlier lt f = spared (at 3 earlier) 3 j k f
    (λ same. does_not_fail row.setting (at 3 earlier) uses 3 j k use_of_a first_equation row.a f same refl refl (inr (value.Int (pos 2), refl, (value.Int (pos 2), simp values, simp values))))
    (λ same. does_not_fail row.setting (at 3 earlier) uses 3 j k use_of_b second_equation row.b f same refl refl (inl refl))
nothing_fails (suc (suc (suc (suc zero)))) j k earlier lt f = spared (at 4 earlier) 4 j k f
    (λ same. does_not_fail row.setting (at 4 earlier) uses 4 j k use_of_a first_equation row.a f same refl refl (inl refl))
    (λ same. does_not_fail row.setting (at 4 earlier) uses 4 j k use_of_b second_equation row.b f same refl refl (inr (value.Int (pos 1), refl, (value.Int (pos 1), simp values, simp values))))
nothing_fails (suc (suc (suc (suc (suc m))))) j k earlier lt f = absurd (omega (arith, lt))

none_before : (m : ℕ) (earlier : Row) → m < 5 → SomethingFails row.setting (at m earlier) uses m → ⊥
none_before m earlier lt (inl (site, k, f)) = absurd (let e : None ≡ Some f.condition = f.found in cc)
none_before m earlier lt (inr (j, k, f)) = nothing_fails m j k earlier lt f

pub fault : row.IsFault
fault = record {
  meets = met;
  uses = uses;
  uses_are = uses_are;
  row = at_one;
  given = given;
  first = (b_fails, λ j k f. absurd (let e : None ≡ Some f.condition = f.found in cc), none_first);
  none_before = λ k earlier lt g f. none_before k earlier lt f;
}

pub line : row.IsLine
line = rw (decimal_digit 1 (lit< tt), decimal_digit 2 (lit< tt))

pub printed : row.IsPrinted
printed = rw (
  decimal_step 12 (omega arith) (lit< tt),
  decimal_digit 0 (lit< tt),
  decimal_digit 1 (lit< tt),
  decimal_digit 2 (lit< tt),
  decimal_digit 3 (lit< tt),
)

value_read : (o : Option Value) (v : Value) → read o ≡ Is v → o ≡ Some v
value_read None v h = absurd cc
value_read (Some w) v h = cc

-- b has the value of its right side
b_is : (S : Assignment) (m : ℕ) (v : Value) → HasOneValue (views_at row.setting S (Some 1) m) second_equation → value_of (Read 1) (views_at row.setting S (Some 1) m) ≡ read (S 1 m)
    → value_of row.quotient (views_at row.setting S (Some 1) m) ≡ Is v → S 1 m ≡ Some v
b_is S m v (w, left, right) now is = value_read (S 1 m) v (sym now ∙ left ∙ sym right ∙ is)

pub met_by_none : row.IsMetByNone
met_by_none S h =
    let two : S 1 1 ≡ Some (value.Int (pos 2)) = b_is S 1 (value.Int (pos 2)) ((h 1 (omega arith)).equations 1 second_equation refl refl) (simp values) (simp values) in
    let twelve : S 1 2 ≡ Some (value.Int (pos 12)) = b_is S 2 (value.Int (pos 12)) ((h 2 (omega arith)).equations 1 second_equation refl refl) (simp values) (simp (values, two)) in
    let one : S 1 4 ≡ Some (value.Int (pos 1)) = b_is S 4 (value.Int (pos 1)) ((h 4 (omega arith)).equations 1 second_equation refl refl) (simp values) (simp (values, twelve)) in
    let (w, left, right) = (h 5 (omega arith)).equations 1 second_equation refl refl in
    let fails = divides S one in
    absurd cc
