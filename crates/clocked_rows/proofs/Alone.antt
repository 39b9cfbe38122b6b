-- Equations of a name and an expression that reads nothing now, and models of two of them.
use Rattle.std.proofs.Common.{◌≡◌, refl, ap, sym, subst, ◌∙◌, ℕ, zero, suc, ◌<◌, ◌==◌, ◌⊎◌, inl, inr, true, false, List, [], ◌∷◌, Option, Some, arith, slice_get}
use Rattle.std.specs.List.{Contains}
use Rattle.std.proofs.lemmas.Bool.{eq-eqb, false≢true}
use Rattle.std.proofs.lemmas.Bool.Decides.{eqb_tells}
use Rattle.sync_values.specs.declared.value.Fail.{Fail}
use Rattle.sync_values.specs.declared.value.Value.{Value}
use Rattle.flat_model.specs.declared.expression.Expr.{Expr}
use Rattle.flat_model.specs.declared.expression.Expr.TheVariants.{Read}
use Rattle.flat_model.specs.declared.equation.Equation.{Equation}
use Rattle.flat_model.specs.declared.equation.Equation.TheVariants.{Valued}
use Rattle.flat_model.specs.declared.model.FlatName.{FlatName}
use Rattle.flat_model.specs.Assignment.{Assignment, IsOfKind}
use Rattle.flat_model.specs.Setting.{Setting, class_of_equation, class_ticks}
use Rattle.flat_model.specs.Occurrences.{one_if, bare_count, held_count, converted_count, is_reached}
use Rattle.flat_model.specs.Uses.{ReadsIn, EquationReads, Use, used_equations, IsUnreached, CanReach, AreUses, occurrences}
use Rattle.flat_model.specs.Given.{CanUse, Solves, HasReadsBut}
use Rattle.flat_model.specs.Faults.{EquationFails}
use Rattle.flat_model.proofs.Levels.{bare_count-Read, held_count-Read, converted_count-Read, is_reached-Read}

-- nothing is read in an expression of equation i
abbrev pub IsSilent : Setting → ℕ → Expr → Type 0
IsSilent s i e = (y : ℕ) → ReadsIn s i e y → ⊥

-- a name alone is read alone
reads_own : (s : Setting) (i x y : ℕ) → ReadsIn s i (Read x) y → y ≡ x
reads_own s i x y (inl bare) = by (eqb_tells x y)
  where
    by : (((x == y) ≡ true) × (x ≡ y)) ⊎ (((x == y) ≡ false) × (x ≡ y → ⊥)) → y ≡ x
    by (inl same) = sym same.1
    by (inr other) = let none : bare_count y (Read x) ≡ 0 = bare_count-Read y x ∙ ap one_if other.0 in absurd (omega (arith, bare, none))
reads_own s i x y (inr (inl held)) = absurd (omega (arith, held, held_count-Read y x))
reads_own s i x y (inr (inr (converted, meets))) = absurd (omega (arith, converted, converted_count-Read y x))

pub reads_but : (s : Setting) (S : Assignment) (m i x : ℕ) (e : Expr) (clause : Option ℕ) → IsSilent s i e → HasReadsBut s S m i x (Valued (Read x) e clause)
reads_but s S m i x e clause silent y other = (
  record {
    bare = λ lt. absurd (other (reads_own s i x y (inl lt)));
    held = λ lt. absurd (other (reads_own s i x y (inr (inl lt))));
    converted = λ lt meets. absurd (other (reads_own s i x y (inr (inr (lt, meets)))));
  },
  record {
    bare = λ lt. absurd (silent y (inl lt));
    held = λ lt. absurd (silent y (inr (inl lt)));
    converted = λ lt meets. absurd (silent y (inr (inr (lt, meets))));
  },
)

bare_own : (x : ℕ) → bare_count x (Read x) ≡ 1
bare_own x = bare_count-Read x x ∙ ap one_if (eq-eqb x x refl)

-- such an equation reaches its name
pub reaches : (s : Setting) (uses : List Use) (i x : ℕ) (e : Expr) (clause : Option ℕ) → slice_get s.model.equations i ≡ Some (Valued (Read x) e clause)
    → (Contains (used_equations uses) i → ⊥) → IsUnreached s uses x → IsSilent s i e → occurrences x e ≡ 0 → CanReach s uses i x
reaches s uses i x e clause found unused unreached silent none = record {
  equation = Valued (Read x) e clause;
  found = found;
  unused = unused;
  reads = inl (inl (omega (arith, bare_own x)));
  unreached = unreached;
  only = λ y reads other. only y reads;
  solvable = (omega (arith, bare_own x, held_count-Read x x, converted_count-Read x x, none), inl (is_reached-Read x x ∙ eq-eqb x x refl));
}
  where
    only : (y : ℕ) → EquationReads s i (Valued (Read x) e clause) y → y ≡ x
    only y (inl left) = reads_own s i x y left
    only y (inr right) = absurd (silent y right)

-- two such equations are the uses
pub two_uses : (s : Setting) (x y : ℕ) (e f : Expr) (c d : Option ℕ) → slice_get s.model.equations 0 ≡ Some (Valued (Read x) e c) → slice_get s.model.equations 1 ≡ Some (Valued (Read y) f d)
    → ((i : ℕ) (equation : Equation) → slice_get s.model.equations (suc (suc i)) ≡ Some equation → ⊥)
    → IsUnreached s [] x → IsUnreached s (record { equation = 0; name = x } ∷ []) y → IsSilent s 0 e → IsSilent s 1 f → occurrences x e ≡ 0 → occurrences y f ≡ 0
    → AreUses s (record { equation = 0; name = x } ∷ record { equation = 1; name = y } ∷ [])
two_uses s x y e f c d first second none x_left y_left e_silent f_silent e_none f_none = (
  record { reaches = reaches s [] 0 x e c first (λ used. omega (arith, used.1)) x_left e_silent e_none; first = λ j z lt reach. omega (arith, lt) },
  (
    record {
      reaches = reaches s (record { equation = 0; name = x } ∷ []) 1 y f d second second_unused y_left f_silent f_none;
      first = first_used;
    },
    all_used,
  ),
)
  where
    second_unused : Contains {X = ℕ} (0 ∷ []) 1 → ⊥
    second_unused (zero, lt, e) = absurd cc
    second_unused (suc k, lt, e) = omega (arith, lt)

    first_used : (j z : ℕ) → j < 1 → CanReach s (record { equation = 0; name = x } ∷ []) j z → ⊥
    first_used zero z lt reach = reach.unused (0, omega arith, refl)
    first_used (suc j) z lt reach = omega (arith, lt)

    all_used : (i z : ℕ) → CanReach s (record { equation = 0; name = x } ∷ record { equation = 1; name = y } ∷ []) i z → ⊥
    all_used zero z reach = reach.unused (0, omega arith, refl)
    all_used (suc zero) z reach = reach.unused (1, omega arith, refl)
    all_used (suc (suc i)) z reach = none i reach.equation reach.found

-- one of two
pub which : {A : Type 0} (a b x : A) → Contains (a ∷ b ∷ []) x → (a ≡ x) ⊎ (b ≡ x)
which a b x (zero, lt, e) = inl e
which a b x (suc zero, lt, e) = inr e
which a b x (suc (suc k), lt, e) = absurd (omega (arith, lt))

pub some_of : {A : Type 0} (a b : A) → Some a ≡ Some b → a ≡ b
some_of a b h = cc

-- a use counts, as this equation for this name
pub record Counts (s : Setting) (S : Assignment) (m : ℕ) (used entry : Use) (equation found : Equation) (name named : FlatName) : Type 0 where
  pub use_is : used ≡ entry
  pub equation_is : equation ≡ found
  pub name_is : name ≡ named
  pub ticks : class_ticks s S (class_of_equation s used.equation) m ≡ true

pub counts : (s : Setting) (S : Assignment) (m : ℕ) (used entry : Use) (equation found : Equation) (name named : FlatName) → used ≡ entry
    → slice_get s.model.equations used.equation ≡ Some equation → slice_get s.model.names used.name ≡ Some name → CanUse s S m entry found named
    → Counts s S m used entry equation found name named
counts s S m used entry equation found name named same is_equation is_name can =
    let own : CanUse s S m used found named = subst (λ z. CanUse s S m z found named) (sym same) can in record {
      use_is = same;
      equation_is = some_of equation found (sym is_equation ∙ own.equation_is);
      name_is = some_of name named (sym is_name ∙ own.name_is);
      ticks = own.ticks.1;
    }

-- what solves such a use solves this equation, and the other way round
pub own_solves : (s : Setting) (S T : Assignment) (m : ℕ) (used entry : Use) (equation found : Equation) (name named : FlatName) (v : Value)
    → Counts s S m used entry equation found name named → Solves s T m entry.equation found entry.name v → Solves s T m used.equation equation used.name v
own_solves s S T m used entry equation found name named v c h =
    subst (λ z. Solves s T m used.equation z used.name v) (sym c.equation_is) (subst (λ z. Solves s T m z.equation found z.name v) (sym c.use_is) h)

pub their_solves : (s : Setting) (S T : Assignment) (m : ℕ) (used entry : Use) (equation found : Equation) (name named : FlatName) (v : Value)
    → Counts s S m used entry equation found name named → Solves s T m used.equation equation used.name v → Solves s T m entry.equation found entry.name v
their_solves s S T m used entry equation found name named v c h =
    subst (λ z. Solves s T m z.equation found z.name v) c.use_is (subst (λ z. Solves s T m used.equation z used.name v) c.equation_is h)

-- a use that does not tick does not fail, and one that is solved does not fail
pub does_not_fail : (s : Setting) (S : Assignment) (uses : List Use) (m j : ℕ) (k : Fail) (used : Use) (equation : Equation) (name : FlatName) (f : EquationFails s S uses m j k)
    → used ≡ f.entry → slice_get s.model.equations used.equation ≡ Some equation → slice_get s.model.names used.name ≡ Some name
    → (class_ticks s S (class_of_equation s used.equation) m ≡ false) ⊎ ((v : Value) × IsOfKind name.kind v × Solves s S m used.equation equation used.name v) → ⊥
does_not_fail s S uses m j k used equation name f same is_equation is_name (inl rests) =
    let c = counts s S m used f.entry equation f.equation name f.name same is_equation is_name f.counts in
    false≢true (sym rests ∙ c.ticks)
does_not_fail s S uses m j k used equation name f same is_equation is_name (inr (v, typed, solves)) =
    let c = counts s S m used f.entry equation f.equation name f.name same is_equation is_name f.counts in
    f.unsolved v (subst (λ z. IsOfKind z.kind v) c.name_is typed)
    (subst (λ z. Solves s S m z f.equation f.entry.name v) f.equation_is (their_solves s S S m used f.entry equation f.equation name f.name v c solves))
