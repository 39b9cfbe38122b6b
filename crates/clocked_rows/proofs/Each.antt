-- What is asked of an assignment at a moment, name by name, site by site and equation by equation.
use Rattle.std.proofs.Common.{sym, ◌≡◌, subst, ℕ, zero, suc, ◌+◌, Bool, true, false, List, [], ◌∷◌, Option, Some, None, arith}
use Rattle.std.specs.List.{slice_get}
use Rattle.sync_values.specs.declared.value.Value.{Value}
use Rattle.sync_values.specs.declared.value.Value.TheVariants as value
use Rattle.flat_model.specs.declared.clock.Moment.{Moment}
use Rattle.flat_model.specs.declared.model.FlatName.{FlatName}
use Rattle.flat_model.specs.declared.equation.Equation.{Equation}
use Rattle.flat_model.specs.declared.expression.Expr.{Expr}
use Rattle.flat_model.specs.declared.equation.Equation.TheVariants.{Valued}
use Rattle.flat_model.specs.Operators.{Is}
use Rattle.flat_model.specs.Views.{Views}
use Rattle.flat_model.specs.Meaning.{value_of}
use Rattle.flat_model.specs.Moments.{moment_at, table_value}
use Rattle.flat_model.specs.Assignment.{Assignment}
use Rattle.flat_model.specs.Setting.{Setting, class_of_equation, site_answer, name_ticks, equation_ticks, views_at}
use Rattle.flat_model.specs.Meets.{HasValueAtTicks, HasOneValue, MeetsAt}

-- P of each element and its number, the first of which is n
abbrev pub Each : {A : Type 0} → (ℕ → A → Type 0) → ℕ → List A → Type 0
Each P n [] = Unit {0}
Each P n (a ∷ rest) = P n a × Each P (suc n) rest

found : {A : Type 0} (P : ℕ → A → Type 0) (xs : List A) (n : ℕ) → Each P n xs → (i : ℕ) (a : A) → slice_get xs i ≡ Some a → P (n + i) a
found P [] n each i a h = absurd cc
found P (x ∷ xs) n each zero a h = subst (λ z. P (n + 0) z) (let e : x ≡ a = cc in e) (subst (λ z. P z x) (let e : n ≡ n + 0 = omega arith in e) each.0)
found P (x ∷ xs) n each (suc i) a h = subst (λ z. P z a) (let e : suc n + i ≡ n + suc i = omega arith in e) (found P xs (suc n) each.1 i a h)

from_each : {A : Type 0} (P : ℕ → A → Type 0) (xs : List A) → Each P 0 xs → (i : ℕ) (a : A) → slice_get xs i ≡ Some a → P i a
from_each P xs each i a h = subst (λ z. P z a) (let e : 0 + i ≡ i = omega arith in e) (found P xs 0 each i a h)

-- an input has the table's value
abbrev pub InputIs : Setting → Assignment → ℕ → ℕ → Bool → Option Moment → Type 0
InputIs s S m x true (Some at) = S x m ≡ table_value s.table x at
InputIs s S m x _ _ = Unit {0}

abbrev pub NameMeets : Setting → Assignment → ℕ → ℕ → FlatName → Type 0
NameMeets s S m x name = InputIs s S m x name.input (moment_at s.instants m) × HasValueAtTicks name.kind (name_ticks s S x m) (S x m)

abbrev pub SiteMeets : Setting → Assignment → ℕ → ℕ → Expr → Type 0
SiteMeets s S m site condition = (b : Bool) × (site_answer s S site m ≡ Is (value.Bool b))

-- where the equation counts, its sides have one value
abbrev pub IfCounts : Bool → Type 0 → Type 0
IfCounts true A = A
IfCounts false A = Unit {0}

abbrev pub EquationMeets : Setting → Assignment → ℕ → ℕ → Equation → Type 0
EquationMeets s S m i equation = IfCounts (equation_ticks s S i m) (HasOneValue (views_at s S (class_of_equation s i) m) equation)

input_is : (s : Setting) (S : Assignment) (m x : ℕ) (input : Bool) (moment : Option Moment) (at : Moment) → InputIs s S m x input moment → input ≡ true → moment ≡ Some at → S x m ≡ table_value s.table x at
input_is s S m x input moment at h i e = subst (λ z. InputIs s S m x true z) e (subst (λ z. InputIs s S m x z moment) i h)

counted : (counts : Bool) (A : Type 0) → IfCounts counts A → counts ≡ true → A
counted counts A h e = subst (λ z. IfCounts z A) e h

pub met_at : (s : Setting) (S : Assignment) (m : ℕ) → Each (NameMeets s S m) 0 s.model.names → ((x : ℕ) → slice_get s.model.names x ≡ None → S x m ≡ None)
    → Each (SiteMeets s S m) 0 s.clocking.sites → Each (EquationMeets s S m) 0 s.model.equations → MeetsAt s S m
met_at s S m names others sites equations = record {
  inputs = λ x name at f i e. input_is s S m x name.input (moment_at s.instants m) at (from_each (NameMeets s S m) s.model.names names x name f).0 i e;
  names = λ x name f. (from_each (NameMeets s S m) s.model.names names x name f).1;
  others = others;
  sites = λ site condition f. from_each (SiteMeets s S m) s.clocking.sites sites site condition f;
  equations = λ i equation f t. counted (equation_ticks s S i m) _ (from_each (EquationMeets s S m) s.model.equations equations i equation f) t;
}

-- sides with two values
pub differ : (left right : Expr) (clause : Option ℕ) (views : Views) (a b : Value) → value_of left views ≡ Is a → value_of right views ≡ Is b → (a ≡ b → ⊥) → HasOneValue views (Valued left right clause) → ⊥
differ left right clause views a b l r other (v, p, q) = other cc

-- the same where ticks are known by a proof
pub name_at : (s : Setting) (S : Assignment) (m x : ℕ) (name : FlatName) (ticks : Bool) → name_ticks s S x m ≡ ticks → InputIs s S m x name.input (moment_at s.instants m) → HasValueAtTicks name.kind ticks (S x m) → NameMeets s S m x name
name_at s S m x name ticks t i h = (i, subst (λ z. HasValueAtTicks name.kind z (S x m)) (sym t) h)

pub equation_at : (s : Setting) (S : Assignment) (m i : ℕ) (equation : Equation) (ticks : Bool) → equation_ticks s S i m ≡ ticks → IfCounts ticks (HasOneValue (views_at s S (class_of_equation s i) m) equation) → EquationMeets s S m i equation
equation_at s S m i equation ticks t h = subst (λ z. IfCounts z (HasOneValue (views_at s S (class_of_equation s i) m) equation)) (sym t) h
