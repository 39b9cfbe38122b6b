-- The table of a model without inputs.
use Rattle.std.proofs.Common.{◌≡◌, ◌∙◌, ap, sym, subst, refl, ℕ, zero, suc, ◌+◌, ◌*◌, ◌<◌, ◌≤◌, inl, inr, true, false, List, [], ◌∷◌, length, Some, slice_get, get_or, All, Err, arith}
use Rattle.std.proofs.lemmas.Bool.Decides.{eqb_tells}
use Rattle.std.proofs.lemmas.Nat.Gcd.{IsGcd-swap, IsGcd-from_zero}
use Rattle.std.proofs.lemmas.Option.{slice_get_within}
use Rattle.rational_time.specs.declared.ratio.Ratio.{Ratio}
use Rattle.rational_time.specs.Fraction.{IsFraction, IsLowest}
use Rattle.rational_time.proofs.Fractions.{IsLowest-unique, IsLowest-ratio}
use Rattle.flat_model.specs.declared.model.FlatModel.{FlatModel}
use Rattle.flat_model.specs.declared.model.FlatName.{FlatName}
use Rattle.flat_model.specs.declared.place.Place.TheVariants as place
use Rattle.flat_model.specs.declared.table.Table.{Table}
use Rattle.flat_model.specs.Moments.{IsRising}
use Rattle.flat_model.specs.Tables.{IsTime, IsInput, IsTableOf, AreColumns, StartAtZero}
use Rattle.input_table.specs.declared.ends.TableCode.TheVariants.{I2}
use Rattle.input_table.specs.declared.ends.TableEnd.{TableEnd}
use Rattle.input_table.specs.declared.ends.TableEnd.TheVariants.{Fault, NoMemory}
use Rattle.input_table.specs.Tables.{IsOneRow, AnswersNone}
use Rattle.input_table.specs.private.Finding.{IsMissingFault}

-- the instant 0/1
pub zero_time : (t : Ratio) → IsFraction t 0 1 → (t.num ≡ 0) × IsTime t
zero_time t is =
    let lowest : IsLowest 0 1 0 1 = record { positive = omega arith; same = omega arith; lowest = IsGcd-swap 1 0 1 (IsGcd-from_zero 1 0 refl) } in
    let parts = IsLowest-unique 0 1 t.num t.den 0 1 (omega arith) (IsLowest-ratio t 0 1 is) lowest in
    (parts.0, (omega (arith, parts.0, parts.1), omega (arith, parts.1)))

pub one_row : (table : Table) (t : Ratio) → table.times ≡ t ∷ [] → IsFraction t 0 1 → table.columns ≡ [] → table.cells ≡ [] → IsOneRow table
one_row table t times is columns cells = record { time = t; times = times; zero_ = (zero_time t is).0; columns = columns; cells = cells }

no_column : (x : ℕ) (k : ℕ) → slice_get [] k ≡ Some x → ⊥
no_column x k is = cc

-- it is one of the model
pub one_row_table : (model : FlatModel) (table : Table) (t : Ratio) → ((x : ℕ) → IsInput model.names x → ⊥) → table.times ≡ t ∷ [] → IsFraction t 0 1 → table.columns ≡ [] → table.cells ≡ []
    → IsTableOf model table
one_row_table model table t none times is columns cells = record {
  times = record {
    first = subst StartAtZero (sym times) (zero_time t is).0;
    rising = subst IsRising (sym times) tt;
    range = subst (λ (ts : List Ratio). All IsTime ts) (sym times) range;
  };
  columns = subst (λ (cs : List ℕ). AreColumns model.names cs) (sym columns) (record {
    inputs = λ k d less. absurd (omega arith);
    all = λ x input. absurd (none x input);
    once = λ i j d less within. absurd (omega arith);
  });
  cells = record {
    count =
        let none : length table.columns ≡ 0 = ap length columns in
        let product : length table.times * length table.columns ≡ length table.times * 0 = ap (λ n. length table.times * n) none in
        omega (arith, ap length cells, product);
    typed = λ row k x name v column found there. absurd (no_column x k (subst (λ cs. slice_get cs k ≡ Some x) columns column));
  };
}
  where
    range : (k : ℕ) (d : Ratio) → k < 1 → IsTime (get_or (t ∷ []) k d)
    range zero d less = (zero_time t is).1
    range (suc k) d less = absurd (omega arith)

-- I2 at the first input
pub first_input : (names : List FlatName) (x : ℕ) (name : FlatName) (end : TableEnd) → slice_get names x ≡ Some name → name.input ≡ true → ((y : ℕ) → y < x → IsInput names y → ⊥)
    → IsMissingFault name.text end → AnswersNone names (Err end)
first_input names x name (Fault I2 (place.Name other)) found input first is = (x, name, found, input, is, first)
first_input names x name (Fault code at) found input first is = absurd is
first_input names x name NoMemory found input first is = tt

-- one name more is no input
pub none_more : (names : List FlatName) (at : ℕ) (name : FlatName) → slice_get names at ≡ Some name → name.input ≡ false → ((y : ℕ) → y < at → IsInput names y → ⊥) → (y : ℕ) → y < at + 1 → IsInput names y → ⊥
none_more names at name found off none y less is = elim (eqb_tells y at) [
  | inl same ↦
      let there : slice_get names at ≡ Some is.0 = subst (λ z. slice_get names z ≡ Some is.0) same.1 is.1 in
      let one : name ≡ is.0 = cc in
      let bad : false ≡ true = sym off ∙ ap (λ (n : FlatName). n.input) one ∙ is.2 in cc
  | inr apart ↦ none y (omega (arith, apart.1)) is
]

pub none_at_all : (names : List FlatName) (at : ℕ) → length names ≤ at → ((y : ℕ) → y < at → IsInput names y → ⊥) → (y : ℕ) → IsInput names y → ⊥
none_at_all names at past none y is = let less = slice_get_within names y is.0 is.1 in none y (omega (arith, less, past)) is
