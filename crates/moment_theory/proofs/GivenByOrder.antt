-- What uses give in a free order over the inputs are the given values, and nothing else.
use Rattle.std.proofs.Common.{◌≡◌, refl, ap, ◌∙◌, sym, subst, ℕ, true, false, List, [], ◌∷◌, Option, Some, None, IsSome, slice_get, Contains, inl, inr}
use Rattle.std.proofs.lemmas.Bool.{false≢true}
use Rattle.std.proofs.lemmas.Option.{same_Some}
use Rattle.sync_values.specs.declared.value.Value.{Value}
use Rattle.flat_model.specs.declared.model.FlatName.{FlatName}
use Rattle.flat_model.specs.Assignment.{Assignment}
use Rattle.flat_model.specs.Setting.{Setting, class_of_name}
use Rattle.flat_model.specs.Uses.{Use}
use Rattle.flat_model.specs.Given.{Row, with_row, IsKnownToTick, IsClosed, IsGiven}
use Rattle.flat_model.proofs.OneSolution.{AreSitesUnclocked}
use Rattle.moment_theory.specs.Free.{IsReachedBy}
use Rattle.moment_theory.proofs.Ordered.{AreFreeUses}
use Rattle.moment_theory.specs.Taken.{AreTaken, AreInputs}
use Rattle.flat_model.proofs.Above.{IsBelow}
use Rattle.moment_theory.proofs.Rows.{row_now}
use Rattle.moment_theory.proofs.Transfer.{IsSound}
use Rattle.moment_theory.proofs.Taking.{IsClear, unchanged, taken_sound, taken_least, taken_closed}
use Rattle.moment_theory.proofs.Members.{IsMember}

-- inputs are unclocked
abbrev pub AreInputsUnclocked : Setting → Type 0
AreInputsUnclocked s = (x : ℕ) (name : FlatName) → slice_get s.model.names x ≡ Some name → name.input ≡ true → class_of_name s x ≡ None

pub not_input : (s : Setting) (uses : List Use) → AreFreeUses s uses → (x : ℕ) → IsReachedBy x uses → (name : FlatName) → slice_get s.model.names x ≡ Some name → name.input ≡ false
not_input s [] order x reached name found = absurd reached
not_input s (entry ∷ uses) order x (inr reached) name found = not_input s uses order.1 x reached name found
not_input s (entry ∷ uses) order x (inl is) name found =
    subst (λ n. n.input ≡ false) (same_Some order.0.name name (sym order.0.name_is ∙ sym (ap (slice_get s.model.names) is) ∙ found)) order.0.no_input

some_is : (o : Option Value) → IsSome o → (v : Value) × (o ≡ Some v)
some_is None some = absurd (false≢true some)
some_is (Some v) some = (v, refl)

-- two lists of uses with the same entries
pub record AreSameMembers (all uses : List Use) : Type 0 where
  pub within : (entry : Use) → IsMember entry uses → Contains all entry
  pub whole : (entry : Use) → Contains all entry → IsMember entry uses

module _ (s : Setting) (unclocked : AreSitesUnclocked s) (inputs : AreInputsUnclocked s) (S : Assignment) (m : ℕ) (uses : List Use) (order : AreFreeUses s uses) (row : Row) (are : AreInputs s m row) where
  pub inputs_clear : IsClear uses row
  inputs_clear y reached = by_value (row y) refl
    where
      by_value : (o : Option Value) → row y ≡ o → row y ≡ None
      by_value None e = e
      by_value (Some v) e = let (name, at, found, input, here) = are.only y v e in absurd (false≢true (sym (not_input s uses order y reached name found) ∙ input))

  pub inputs_sound : IsSound s (with_row S m row) m
  inputs_sound z some =
      let (v, is) = some_is (row z) (subst IsSome (row_now S m row z) some) in
      let (name, at, found, input, here) = are.only z v is in
      subst (IsKnownToTick s (with_row S m row) m) (sym (inputs z name found input)) (tt, refl)

  pub taken_given : (all : List Use) (last : Row) → AreSameMembers all uses → AreTaken s S m uses row last → IsGiven s S all m last
  taken_given all last same taken =
      let sound = taken_sound s unclocked S m uses row last order inputs_clear taken inputs_sound in record {
        closed = record {
          inputs = λ x name at found input here. unchanged s unclocked S m uses row last taken x
              (λ reached. false≢true (sym (not_input s uses order x reached name found) ∙ input)) ∙ are.inputs x name at found input here;
          solved = λ entry equation name v within can only. taken_closed s unclocked S m uses row last order taken sound entry equation name v (same.whole entry within) can only;
        };
        least = λ other closed x v is.
            let up = taken_least s unclocked S m all uses row last other same.within order inputs_clear taken inputs_sound closed (λ y. in_closed other closed y (row y) refl) x in
            subst (λ o. IsBelow o (other x)) is up;
      }
    where
      in_closed : (other : Row) → IsClosed s S all m other → (y : ℕ) (o : Option Value) → row y ≡ o → IsBelow (row y) (other y)
      in_closed other closed y None e = subst (λ o. IsBelow o (other y)) (sym e) tt
      in_closed other closed y (Some v) e =
          let (name, at, found, input, here) = are.only y v e in
          subst (λ o. IsBelow o (other y)) (sym e) (closed.inputs y name at found input here ∙ sym (are.inputs y name at found input here) ∙ e)
