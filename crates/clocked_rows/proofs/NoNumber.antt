-- The equation that no Integer of 64 bits meets.
use Rattle.std.proofs.Common.{◌≡◌, refl, sym, ap, subst, ◌∙◌, ℕ, zero, suc, ◌<◌, ◌^◌, nat_lt, Bool, List, [], ◌∷◌, Some, None, lit<, arith, ℤ, pos, negsuc, ◌-ℤ◌, inl, inr, slice_get, true, false, Result, Ok, Err, codes, if◌then◌else◌}
use Rattle.std.specs.Prelude.{◌+ℤ◌}
use Rattle.std.proofs.lemmas.Fmt.{decimal_digit}
use Rattle.std.specs.List.{Contains}
use Rattle.std.proofs.Math.Dec.{eqb-zero-suc}
use Rattle.std.proofs.Math.IntN.{ -ℤ-+ℤ_cancel}
use Rattle.sync_values.specs.Arithmetic.{fitted}
use Rattle.sync_values.specs.declared.value.Value.{Value}
use Rattle.sync_values.specs.declared.value.Value.TheVariants as value
use Rattle.sync_values.specs.declared.value.ChainOp.TheVariants.{Minus}
use Rattle.sync_values.specs.declared.value.Fail.{Fail}
use Rattle.sync_values.specs.declared.value.Fail.TheVariants.{TooLarge}
use Rattle.flat_model.specs.declared.model.FlatName.{FlatName}
use Rattle.flat_model.specs.declared.model.NameKind.TheVariants as kind
use Rattle.flat_model.specs.declared.equation.Equation.{Equation}
use Rattle.flat_model.specs.declared.equation.Equation.TheVariants.{Valued}
use Rattle.flat_model.specs.declared.expression.Expr.{Expr}
use Rattle.flat_model.specs.declared.expression.Expr.TheVariants.{Const, Read, Chain}
use Rattle.flat_model.specs.Assignment.{Assignment, IsOfKind}
use Rattle.flat_model.specs.Faults.{SomethingFails}
use Rattle.flat_model.specs.Occurrences.{bare_count, held_count, converted_count}
use Rattle.flat_model.specs.Setting.{views_at}
use Rattle.flat_model.specs.Views.{Views}
use Rattle.flat_model.specs.Meaning.{value_of}
use Rattle.flat_model.specs.Operators.{Is, settled, read, joined}
use Rattle.flat_model.specs.Uses.{Use, AreUses}
use Rattle.flat_model.specs.Given.{with_value, with_row, IsGiven, CanUse, Solves, HasReadsBut}
use Rattle.flat_model.specs.Meets.{MeetsBefore, HasOneValue}
use Rattle.flat_model.proofs.Values.{values}
use Rattle.clocked_rows.specs.NoNumber as row
use Rattle.clocked_rows.proofs.Each.{met_at}
use Rattle.clocked_rows.proofs.Counts.{levels, ways}

others : (m x : ℕ) → slice_get row.setting.model.names x ≡ None → row.values x m ≡ None
others m x h = refl

met : MeetsBefore row.setting row.values 1
met zero le = met_at row.setting row.values 0 ((tt, refl), tt) (others 0) tt (tt, tt)
met (suc m) le = absurd (omega arith)

abbrev less_one : Expr
less_one = Chain (Read 0 ∷ Const (value.Int (pos 1)) ∷ []) (Minus ∷ [])

abbrev greatest : Value
greatest = value.Int (pos 9223372036854775807)

abbrev equal : Equation
equal = Valued less_one (Const greatest) (Some 0)

abbrev x_name : FlatName
x_name = record { text = codes "x"; kind = kind.Integer; input = false; start = value.Int (pos 0) }

abbrev use_of_x : Use
use_of_x = record { equation = 0; name = 0 }

abbrev uses : List Use
uses = use_of_x ∷ []

the_name : (x : ℕ) (name : FlatName) → slice_get row.setting.model.names x ≡ Some name → x ≡ 0
the_name zero name h = refl
the_name (suc x) name h = absurd cc

read_at_left : 0 < bare_count 0 less_one
read_at_left = let e : bare_count 0 less_one ≡ 1 = simp levels in omega (arith, e)

uses_are : AreUses row.setting uses
uses_are = (
  record {
    reaches = record {
      equation = equal;
      found = refl;
      unused = λ used. omega (arith, used.1);
      reads = inl (inl read_at_left);
      unreached = record { name = _; found = refl; valued = λ e. absurd cc; own = refl; later = λ reached. omega (arith, reached.1) };
      only = λ y reads unreached. the_name y unreached.name unreached.found;
      solvable = (simp levels, inl (simp levels));
    };
    first = λ j y lt reach. omega (arith, lt);
  },
  λ i x reach. reach.unreached.later (0, omega arith, sym (the_name x reach.unreached.name reach.unreached.found)),
)

the_use : (entry : Use) → Contains uses entry → use_of_x ≡ entry
the_use entry (zero, lt, e) = e
the_use entry (suc k, lt, e) = absurd (omega (arith, lt))

some_of : {A : Type 0} (a b : A) → Some a ≡ Some b → a ≡ b
some_of a b h = cc

-- no other name is read
reads_no_other : (S : Assignment) (m : ℕ) → HasReadsBut row.setting S m 0 0 equal
reads_no_other S m zero other = absurd (other refl)
reads_no_other S m (suc y) other =
    let bare_left : bare_count (suc y) less_one ≡ 0 = simp (levels, eqb-zero-suc) in
    let held_left : held_count (suc y) less_one ≡ 0 = simp levels in
    let converted_left : converted_count (suc y) less_one ≡ 0 = simp levels in
    let bare_right : bare_count (suc y) (Const greatest) ≡ 0 = simp levels in
    let held_right : held_count (suc y) (Const greatest) ≡ 0 = simp levels in
    let converted_right : converted_count (suc y) (Const greatest) ≡ 0 = simp levels in (
      record { bare = λ lt. absurd (omega (arith, lt, bare_left)); held = λ lt. absurd (omega (arith, lt, held_left)); converted = λ lt meets. absurd (omega (arith, lt, converted_left)) },
      record { bare = λ lt. absurd (omega (arith, lt, bare_right)); held = λ lt. absurd (omega (arith, lt, held_right)); converted = λ lt meets. absurd (omega (arith, lt, converted_right)) },
    )

-- a number that fits is the one that was asked for
fitted_if : (b : Bool) (z t : ℤ) → (if b then Ok z else Err TooLarge) ≡ Ok t → z ≡ t
fitted_if true z t e = cc e
fitted_if false z t e = absurd (cc e)

fitted_is : (z t : ℤ) → fitted z ≡ Ok t → z ≡ t
fitted_is (pos n) t e = fitted_if (nat_lt n (2 ^ 63)) (pos n) t e
fitted_is (negsuc n) t e = fitted_if (nat_lt n (2 ^ 63)) (negsuc n) t e

-- the value one below the greatest would be 2^63, which does not fit
none_above : (z : ℤ) → fitted z ≡ Ok z → settled (fitted (z -ℤ pos 1)) ≡ Is greatest → ⊥
none_above z fits is = by (fitted (z -ℤ pos 1)) refl is
  where
    by : (r : Result ℤ Fail) → fitted (z -ℤ pos 1) ≡ r → settled r ≡ Is greatest → ⊥
    by (Err kind) e is = cc is
    by (Ok t) e is =
        let target : t ≡ pos 9223372036854775807 = cc is in
        let below : z -ℤ pos 1 ≡ pos 9223372036854775807 = fitted_is (z -ℤ pos 1) t e ∙ target in
        let number : z ≡ pos 9223372036854775808 = sym (-ℤ-+ℤ_cancel z (pos 1)) ∙ ap (λ y. y +ℤ pos 1) below in
        let none : fitted (pos 9223372036854775808) ≡ Ok (pos 9223372036854775808) = subst (λ y. fitted y ≡ Ok y) number fits in
        cc none

-- no value of x is one above the greatest Integer
unmet : (views : Views) (v : Value) → IsOfKind kind.Integer v → (views 0).now 0 ≡ Some v → HasOneValue views equal → ⊥
unmet views (value.Bool b) is now (w, left, right) = is
unmet views (value.Int z) is now (w, left, right) =
    let less : value_of less_one views ≡ joined Minus (read ((views 0).now 0)) (Is (value.Int (pos 1))) = simp values in
    let number : value_of less_one views ≡ settled (fitted (z -ℤ pos 1)) = less ∙ ap (λ o. joined Minus (read o) (Is (value.Int (pos 1)))) now in
    let other : value_of (Const greatest) views ≡ Is greatest = simp values in
    none_above z is (sym number ∙ left ∙ sym right ∙ other)

unsolved : (S : Assignment) (v : Value) → IsOfKind kind.Integer v → Solves row.setting S 1 0 equal 0 v → ⊥
unsolved S v is solves = unmet (views_at row.setting (with_value S 1 0 v) (Some 0) 1) v is refl solves

no_input : (x : ℕ) (name : FlatName) → slice_get row.setting.model.names x ≡ Some name → name.input ≡ true → ⊥
no_input zero name f i = absurd (let e : x_name ≡ name = some_of x_name name f in let j : x_name.input ≡ true = subst (λ z. z.input ≡ true) (sym e) i in cc)
no_input (suc x) name f i = absurd cc

abbrev at_zero : Assignment
at_zero = with_row row.values 1 (λ x. None)

-- a use of the equation at the instant 0 has no solution
no_solution : (S : Assignment) (entry : Use) (equation : Equation) (name : FlatName) (v : Value) → Contains uses entry → CanUse row.setting S 1 entry equation name
    → IsOfKind name.kind v → Solves row.setting S 1 entry.equation equation entry.name v → ⊥
no_solution S entry equation name v used can is solves =
    let same : use_of_x ≡ entry = the_use entry used in
    let own : CanUse row.setting S 1 use_of_x equation name = subst (λ z. CanUse row.setting S 1 z equation name) (sym same) can in
    let own_solves : Solves row.setting S 1 0 equation 0 v = subst (λ z. Solves row.setting S 1 z.equation equation z.name v) (sym same) solves in
    unsolved S v (subst (λ z. IsOfKind z.kind v) (sym (some_of x_name name own.name_is)) is)
    (subst (λ z. Solves row.setting S 1 0 z 0 v) (sym (some_of equal equation own.equation_is)) own_solves)

given : IsGiven row.setting row.values uses 1 (λ x. None)
given = record {
  closed = record {
    inputs = λ x name at f i e. absurd (no_input x name f i);
    solved = λ entry equation name v used can only. absurd (no_solution at_zero entry equation name v used can only.typed only.solves);
  };
  least = λ other closed x v e. absurd cc;
}

-- nothing counts at Initial
nothing_fails : (S : Assignment) → SomethingFails row.setting S uses 0 → ⊥
nothing_fails S (inl (site, k, f)) = absurd (let e : None ≡ Some f.condition = f.found in cc)
nothing_fails S (inr (i, k, f)) =
    let same : use_of_x ≡ f.entry = the_use f.entry f.used in
    let own : CanUse row.setting S 0 use_of_x f.equation f.name = subst (λ z. CanUse row.setting S 0 z f.equation f.name) (sym same) f.counts in
    absurd (let t : false ≡ true = own.ticks.1 in cc)

none_before : (k : ℕ) (S : Assignment) → k < 1 → SomethingFails row.setting S uses k → ⊥
none_before zero S lt f = nothing_fails S f
none_before (suc k) S lt f = absurd (omega (arith, lt))

pub fault : row.IsFault
fault = record {
  meets = met;
  uses = uses;
  uses_are = uses_are;
  row = λ x. None;
  given = given;
  first = (
    record {
      entry = use_of_x;
      used = (0, omega arith, refl);
      equation_is = refl;
      equation = equal;
      name = x_name;
      counts = record { equation_is = refl; name_is = refl; ticks = (tt, refl); reads = reads_no_other at_zero 1 };
      unsolved = λ v t h. unsolved at_zero v t h;
      kind_is = simp ways;
    },
    λ j k f. absurd (let e : None ≡ Some f.condition = f.found in cc),
    λ j k lt f. omega (arith, lt),
  );
  none_before = λ k earlier lt g f. none_before k _ lt f;
}

pub line : row.IsLine
line = rw (decimal_digit 0 (lit< tt), decimal_digit 1 (lit< tt))

pub printed : row.IsPrinted
printed = refl

pub met_by_none : row.IsMetByNone
met_by_none S h =
    let at = h 1 (omega arith) in
    let (v, now, is) = at.names 0 x_name refl in
    unmet (views_at row.setting S (Some 0) 1) v is now (at.equations 0 equal refl refl)
