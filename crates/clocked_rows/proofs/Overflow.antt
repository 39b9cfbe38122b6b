-- The counter that outgrows 64 bits.
use Rattle.std.proofs.Common.{◌≡◌, refl, sym, subst, ℕ, zero, suc, ◌<◌, List, [], ◌∷◌, Some, None, lit<, arith, pos, inl, inr, slice_get, true, false, Option, codes, decimal}
use Rattle.std.proofs.lemmas.Fmt.{decimal_digit, decimal_step}
use Rattle.std.specs.List.{Contains}
use Rattle.std.proofs.Math.Dec.{eqb-zero-suc}
use Rattle.sync_values.specs.declared.value.Value.{Value}
use Rattle.sync_values.specs.declared.value.Value.TheVariants as value
use Rattle.sync_values.specs.declared.value.Fail.TheVariants.{TooLarge}
use Rattle.flat_model.specs.declared.model.FlatName.{FlatName}
use Rattle.flat_model.specs.declared.equation.Equation.{Equation}
use Rattle.flat_model.specs.declared.equation.Equation.TheVariants.{Valued}
use Rattle.flat_model.specs.declared.expression.Expr.{Expr}
use Rattle.flat_model.specs.declared.expression.Expr.TheVariants.{Const, Read, Chain, Previous}
use Rattle.flat_model.specs.declared.model.NameKind.TheVariants as kind
use Rattle.sync_values.specs.declared.value.ChainOp.TheVariants.{Plus}
use Rattle.flat_model.specs.Assignment.{Assignment, IsOfKind}
use Rattle.flat_model.specs.Faults.{SomethingFails, EquationFails}
use Rattle.sync_values.specs.declared.value.Fail.{Fail}
use Rattle.flat_model.specs.Occurrences.{bare_count, held_count, converted_count}
use Rattle.flat_model.specs.Setting.{class_ticks, views_at}
use Rattle.flat_model.specs.Meaning.{value_of}
use Rattle.flat_model.specs.Operators.{Is, Fails, read}
use Rattle.flat_model.specs.Uses.{Use, AreUses}
use Rattle.flat_model.specs.Given.{with_value, with_row, IsGiven, CanUse, Solves, HasReadsBut}
use Rattle.flat_model.specs.Meets.{MeetsBefore}
use Rattle.flat_model.proofs.Values.{values}
use Rattle.flat_model.proofs.Levels.{bare_count-Const, bare_count-Read, bare_count-Previous, bare_count-Chain, held_count-Const, held_count-Read, held_count-Previous, held_count-Chain, converted_count-Const, converted_count-Read, converted_count-Previous, converted_count-Chain, is_reached-Read, way_to-Const, way_to-Read, way_to-Previous, way_to-Chain}
use Rattle.clocked_rows.specs.Overflow as row
use Rattle.clocked_rows.proofs.Each.{met_at}

ruleset levels = (bare_count-Const, bare_count-Read, bare_count-Previous, bare_count-Chain, held_count-Const, held_count-Read, held_count-Previous, held_count-Chain, converted_count-Const, converted_count-Read, converted_count-Previous, converted_count-Chain, is_reached-Read)

ruleset ways = (way_to-Const, way_to-Read, way_to-Previous, way_to-Chain)

others : (m x : ℕ) → slice_get row.setting.model.names x ≡ None → row.values x m ≡ None
others m zero h = absurd cc
others m (suc x) h = refl

met : MeetsBefore row.setting row.values 2
met zero le = met_at row.setting row.values 0 ((tt, refl), tt) (others 0) tt (tt, tt)
met (suc zero) le = met_at row.setting row.values 1 ((tt, (value.Int (pos 9223372036854775807), refl, refl)), tt) (others 1) tt ((value.Int (pos 9223372036854775807), simp values, simp values), tt)
met (suc (suc m)) le = absurd (omega arith)

abbrev next : Expr
next = Chain (Previous 0 ∷ Const (value.Int (pos 1)) ∷ []) (Plus ∷ [])

abbrev counting : Equation
counting = Valued (Read 0) next (Some 0)

abbrev x_name : FlatName
x_name = record { text = codes "x"; kind = kind.Integer; input = false; start = value.Int (pos 9223372036854775806) }

abbrev use_of_x : Use
use_of_x = record { equation = 0; name = 0 }

abbrev uses : List Use
uses = use_of_x ∷ []

the_name : (x : ℕ) (name : FlatName) → slice_get row.setting.model.names x ≡ Some name → x ≡ 0
the_name zero name h = refl
the_name (suc x) name h = absurd cc

read_at_left : 0 < bare_count 0 (Read 0)
read_at_left = let e : bare_count 0 (Read 0) ≡ 1 = simp levels in omega (arith, e)

uses_are : AreUses row.setting uses
uses_are = (
  record {
    reaches = record {
      equation = counting;
      found = refl;
      unused = λ used. omega (arith, used.1);
      reads = inl (inl read_at_left);
      unreached = record { name = _; found = refl; valued = λ e. absurd cc; own = refl; later = λ reached. omega (arith, reached.1) };
      only = λ y reads unreached. the_name y unreached.name unreached.found;
      solvable = (simp levels, inl (simp levels));
    };
    first = λ j y lt reach. omega (arith, lt);
  },
  λ i x reach. reach.unreached.later (0, omega arith, sym (the_name x reach.unreached.name reach.unreached.found)),
)

the_use : (entry : Use) → Contains uses entry → use_of_x ≡ entry
the_use entry (zero, lt, e) = e
the_use entry (suc k, lt, e) = absurd (omega (arith, lt))

-- no other name is read
reads_no_other : (S : Assignment) (m : ℕ) → HasReadsBut row.setting S m 0 0 counting
reads_no_other S m zero other = absurd (other refl)
reads_no_other S m (suc y) other =
    let bare_left : bare_count (suc y) (Read 0) ≡ 0 = simp (levels, eqb-zero-suc) in
    let held_left : held_count (suc y) (Read 0) ≡ 0 = simp levels in
    let converted_left : converted_count (suc y) (Read 0) ≡ 0 = simp levels in
    let bare_right : bare_count (suc y) next ≡ 0 = simp levels in
    let held_right : held_count (suc y) next ≡ 0 = simp levels in
    let converted_right : converted_count (suc y) next ≡ 0 = simp levels in (
      record { bare = λ lt. absurd (omega (arith, lt, bare_left)); held = λ lt. absurd (omega (arith, lt, held_left)); converted = λ lt meets. absurd (omega (arith, lt, converted_left)) },
      record { bare = λ lt. absurd (omega (arith, lt, bare_right)); held = λ lt. absurd (omega (arith, lt, held_right)); converted = λ lt meets. absurd (omega (arith, lt, converted_right)) },
    )

-- a use of the only equation for the only name, at a tick
record Counts (S : Assignment) (m : ℕ) (entry : Use) (equation : Equation) (name : FlatName) : Type 0 where
  use_is : use_of_x ≡ entry
  equation_is : counting ≡ equation
  name_is : x_name ≡ name
  ticks : class_ticks row.setting S (Some 0) m ≡ true

some_of : {A : Type 0} (a b : A) → Some a ≡ Some b → a ≡ b
some_of a b h = cc

counts : (S : Assignment) (m : ℕ) (entry : Use) (equation : Equation) (name : FlatName) → Contains uses entry → CanUse row.setting S m entry equation name → Counts S m entry equation name
counts S m entry equation name used can =
    let is : use_of_x ≡ entry = the_use entry used in
    let own : CanUse row.setting S m use_of_x equation name = subst (λ z. CanUse row.setting S m z equation name) (sym is) can in
    record { use_is = is; equation_is = some_of counting equation own.equation_is; name_is = some_of x_name name own.name_is; ticks = own.ticks.1 }

-- what solves an equation that counts solves this one, and the other way round
own_solves : (S T : Assignment) (m : ℕ) (entry : Use) (equation : Equation) (name : FlatName) (v : Value) → Counts S m entry equation name
    → Solves row.setting T m entry.equation equation entry.name v → Solves row.setting T m 0 counting 0 v
own_solves S T m entry equation name v c h =
    subst (λ z. Solves row.setting T m 0 z 0 v) (sym c.equation_is) (subst (λ z. Solves row.setting T m z.equation equation z.name v) (sym c.use_is) h)

their_solves : (S T : Assignment) (m : ℕ) (entry : Use) (equation : Equation) (name : FlatName) (v : Value) → Counts S m entry equation name
    → Solves row.setting T m 0 counting 0 v → Solves row.setting T m entry.equation equation entry.name v
their_solves S T m entry equation name v c h =
    subst (λ z. Solves row.setting T m z.equation equation z.name v) c.use_is (subst (λ z. Solves row.setting T m 0 z 0 v) c.equation_is h)

abbrev greatest : Value
greatest = value.Int (pos 9223372036854775807)

-- no value of x at 1/2 is one above the greatest Integer
too_large : (S : Assignment) → S 0 1 ≡ Some greatest → value_of next (views_at row.setting S (Some 0) 2) ≡ Fails TooLarge
too_large S one = simp (values, one)

unsolved : (S : Assignment) (v : Value) → S 0 1 ≡ Some greatest → Solves row.setting S 2 0 counting 0 v → ⊥
unsolved S v one (w, left, right) = let fails = too_large (with_value S 2 0 v) one in absurd cc

solved : (S : Assignment) → Solves row.setting S 1 0 counting 0 greatest
solved S = (greatest, simp values, simp values)

no_input : (x : ℕ) (name : FlatName) → slice_get row.setting.model.names x ≡ Some name → name.input ≡ true → ⊥
no_input zero name f i = absurd (let e : x_name ≡ name = some_of x_name name f in let j : x_name.input ≡ true = subst (λ z. z.input ≡ true) (sym e) i in cc)
no_input (suc x) name f i = absurd cc

-- the given values at 1/2 are none
abbrev at_half : Assignment
at_half = with_row row.values 2 (λ x. None)

given : IsGiven row.setting row.values uses 2 (λ x. None)
given = record {
  closed = record {
    inputs = λ x name at f i e. absurd (no_input x name f i);
    solved = λ entry equation name v used can only.
        let own = own_solves at_half at_half 2 entry equation name v (counts at_half 2 entry equation name used can) only.solves in
        absurd (unsolved at_half v refl own);
  };
  least = λ other closed x v e. absurd cc;
}

fails_nowhere : (S : Assignment) (m i : ℕ) (k : Fail) → m < 2 → EquationFails row.setting S uses m i k → ⊥
fails_nowhere S zero i k lt f = absurd (let t : false ≡ true = (counts S 0 f.entry f.equation f.name f.used f.counts).ticks in cc)
fails_nowhere S (suc zero) i k lt f =
    let c = counts S 1 f.entry f.equation f.name f.used f.counts in
    f.unsolved greatest (subst (λ z. IsOfKind z.kind greatest) c.name_is refl)
    (subst (λ z. Solves row.setting S 1 z f.equation f.entry.name greatest) f.equation_is (their_solves S S 1 f.entry f.equation f.name greatest c (solved S)))
fails_nowhere S (suc (suc m)) i k lt f = absurd (omega (arith, lt))

nothing_fails : (S : Assignment) (m : ℕ) → m < 2 → SomethingFails row.setting S uses m → ⊥
nothing_fails S m lt (inl (site, k, f)) = absurd (let e : None ≡ Some f.condition = f.found in cc)
nothing_fails S m lt (inr (i, k, f)) = fails_nowhere S m i k lt f

pub fault : row.IsFault
fault = record {
  meets = met;
  uses = uses;
  uses_are = uses_are;
  row = λ x. None;
  given = given;
  first = (
    record {
      entry = use_of_x;
      used = (0, omega arith, refl);
      equation_is = refl;
      equation = counting;
      name = x_name;
      counts = record { equation_is = refl; name_is = refl; ticks = (tt, refl); reads = reads_no_other at_half 2 };
      unsolved = λ v t h. unsolved at_half v refl h;
      kind_is = simp ways;
    },
    λ j k f. absurd (let e : None ≡ Some f.condition = f.found in cc),
    λ j k lt f. omega (arith, lt),
  );
  none_before = λ k earlier lt g f. nothing_fails _ k lt f;
}

decimal_of_greatest : decimal 9223372036854775807 ≡ codes "9223372036854775807"
decimal_of_greatest = rw (decimal_step 9223372036854775807 (omega arith) (lit< tt), decimal_step 922337203685477580 (omega arith) (lit< tt), decimal_step 92233720368547758 (omega arith) (lit< tt), decimal_step 9223372036854775 (omega arith) (lit< tt), decimal_step 922337203685477 (omega arith) (lit< tt), decimal_step 92233720368547 (omega arith) (lit< tt), decimal_step 9223372036854 (omega arith) (lit< tt), decimal_step 922337203685 (omega arith) (lit< tt), decimal_step 92233720368 (omega arith) (lit< tt), decimal_step 9223372036 (omega arith) (lit< tt), decimal_step 922337203 (omega arith) (lit< tt), decimal_step 92233720 (omega arith) (lit< tt), decimal_step 9223372 (omega arith) (lit< tt), decimal_step 922337 (omega arith) (lit< tt), decimal_step 92233 (omega arith) (lit< tt), decimal_step 9223 (omega arith) (lit< tt), decimal_step 922 (omega arith) (lit< tt), decimal_step 92 (omega arith) (lit< tt), decimal_digit 9 (lit< tt))

pub printed : row.IsPrinted
printed = rw (decimal_of_greatest, decimal_digit 0 (lit< tt))

value_read : (o : Option Value) (v : Value) → read o ≡ Is v → o ≡ Some v
value_read None v h = absurd cc
value_read (Some w) v h = cc

pub met_by_none : row.IsMetByNone
met_by_none S h =
    let (v, v_left, v_right) = (h 1 (omega arith)).equations 0 counting refl refl in
    let first : value_of next (views_at row.setting S (Some 0) 1) ≡ Is greatest = simp values in
    let now : value_of (Read 0) (views_at row.setting S (Some 0) 1) ≡ read (S 0 1) = simp values in
    let one : S 0 1 ≡ Some greatest = value_read (S 0 1) greatest cc in
    let (w, left, right) = (h 2 (omega arith)).equations 0 counting refl refl in
    let fails = too_large S one in
    absurd cc
