-- The texts of a record.
use Rattle.std.proofs.Common.{◌≡◌, refl, ℕ, zero, suc, [], ◌∷◌, Some, None, slice_index_or}
use Rattle.csv.specs.Records.{field_at}
use Rattle.input_table.specs.Fields.{Field, Record, trimmed, text_in}

field_is : (fields : Record) (i : ℕ) (field : Field) → field_at fields i ≡ Some field → slice_index_or fields i [] ≡ field
unfolding field_at
field_is [] i field is = cc
field_is (f ∷ fs) zero field is = cc
field_is (f ∷ fs) (suc i) field is = field_is fs i field is

no_field : (fields : Record) (i : ℕ) → field_at fields i ≡ None → slice_index_or fields i [] ≡ []
unfolding field_at
no_field [] i is = refl
no_field (f ∷ fs) zero is = cc
no_field (f ∷ fs) (suc i) is = no_field fs i is

pub text_is : (fields : Record) (i : ℕ) (field : Field) → field_at fields i ≡ Some field → trimmed field ≡ text_in fields i
text_is fields i field is = rw (field_is fields i field is) refl

pub no_text : (fields : Record) (i : ℕ) → field_at fields i ≡ None → [] ≡ text_in fields i
no_text fields i is = rw (no_field fields i is) refl
