-- Values by finite derivation, and a table that nothing can be added to.
use Rattle.std.proofs.Common.{◌≡◌, refl, ap, ◌∙◌, ℕ, zero, suc, Bool, true, false, List, Option, Some, None, option_and_then, bytes_eq, if◌then◌else◌}
use Rattle.std.proofs.lemmas.Slice.Eq.{bytes_eq-Decides}
use Rattle.sync_values.specs.declared.value.Value.{Value}
use Rattle.mo_parser.specs.declared.tree.ClassDef.{ClassDef}
use Rattle.class_scopes.specs.Spelled.{Ident}
use Rattle.flat_instances.specs.Instances.{Variable}
use Rattle.parameter_values.specs.Values.{Values, value_from, parameter_named, derived, AreValues}

-- the second table has all values of the first
abbrev pub Below : Values → Values → Type 0
Below a b = (name : Ident) (v : Value) → a name ≡ Some v → b name ≡ Some v

-- a table with one more value
abbrev pub with_value : Values → Ident → Value → Values
with_value values name v other = if bytes_eq other name then Some v else values other

module _ (text : List ℕ) (classes : List ClassDef) (all : List Variable)
    (grows : (a b : Values) → Below a b → (p : Variable) (w : Value) → value_from text classes a p ≡ Some w → value_from text classes b p ≡ Some w) where
  by_parameter : (a b : Values) → Below a b → (p : Option Variable) (w : Value)
      → option_and_then (value_from text classes a) p ≡ Some w → option_and_then (value_from text classes b) p ≡ Some w
  by_parameter a b below None w is = absurd (cc is)
  by_parameter a b below (Some p) w is = grows a b below p w is

  pub rises : (n : ℕ) → Below (derived text classes all n) (derived text classes all (suc n))
  rises zero name v is = absurd (cc is)
  rises (suc n) name v is =
      by_parameter (derived text classes all n) (derived text classes all (suc n)) (rises n) (parameter_named text classes all name) v is

  -- each value in the table has a derivation
  abbrev pub IsSound : Values → Type 0
  IsSound values = (n : ℕ) × Below values (derived text classes all n)

  -- whatever the table gives a value is in it
  abbrev pub IsClosed : Values → Type 0
  IsClosed values = (name : Ident) (w : Value) → option_and_then (value_from text classes values) (parameter_named text classes all name) ≡ Some w → values name ≡ Some w

  within : (values : Values) → IsClosed values → (n : ℕ) → Below (derived text classes all n) values
  within values closed zero name v is = absurd (cc is)
  within values closed (suc n) name v is =
      closed name v (by_parameter (derived text classes all n) values (within values closed n) (parameter_named text classes all name) v is)

  -- such a table has the values
  pub are_values : (values : Values) → IsSound values → IsClosed values → AreValues text classes all values
  are_values values sound closed name v = (λ is. (sound.0, sound.1 name v is), λ has. within values closed has.0 name v has.1)

  -- one more value that the table gives
  pub sound_more : (values : Values) (name : Ident) (w : Value) → IsSound values
      → option_and_then (value_from text classes values) (parameter_named text classes all name) ≡ Some w → IsSound (with_value values name w)
  sound_more values name w sound given = (suc sound.0, λ other v is. by other v (bytes_eq other name) refl is)
    where
      by : (other : Ident) (v : Value) (b : Bool) → bytes_eq other name ≡ b → (if b then Some w else values other) ≡ Some v → derived text classes all (suc sound.0) other ≡ Some v
      by other v true same is =
          let this : other ≡ name = (bytes_eq-Decides other name).0 same in
          let here : derived text classes all (suc sound.0) name ≡ Some w =
          by_parameter values (derived text classes all sound.0) sound.1 (parameter_named text classes all name) w given in
          ap (derived text classes all (suc sound.0)) this ∙ here ∙ is
      by other v false same is = rises sound.0 other v (sound.1 other v is)

  pub sound_none : IsSound (λ name. None)
  sound_none = (zero, λ name v is. absurd (cc is))
