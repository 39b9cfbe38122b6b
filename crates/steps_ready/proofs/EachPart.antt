-- The parts of base partitions, prepared one by one.
use Rattle.std.proofs.Common.{◌≡◌, refl, ap, ◌∙◌, sym, subst, ℕ, zero, suc, ◌≤◌, List, [], ◌∷◌, ◌++◌, length, map, Some, slice_get, ◌⊎◌, inl, inr, arith}
use Rattle.std.proofs.lemmas.Option.{none-some, same_Some, slice_get_within}
use Rattle.flat_model.specs.declared.clock.Clocking.{Clocking}
use Rattle.flat_model.specs.declared.model.FlatModel.{FlatModel}
use Rattle.eq_order.specs.declared.uses.Use.{Use}
use Rattle.eq_order.specs.Order.{use_of}
use Rattle.moment_theory.specs.Free.{IsReachedBy}
use Rattle.fork_steps.specs.declared.slot.Slot.{Slot}
use Rattle.moment_steps.specs.declared.piece.Piece.{Piece}
use Rattle.partition_step.specs.Prepared.{IsPrepared}
use Rattle.partition_step.proofs.Resting.{places}
use Rattle.steps_ready.specs.Parting.{IsReadySlot, AreReady}

append_cases : {A : Type 0} (xs : List A) (y : A) (j : ℕ) (x : A) → slice_get (xs ++ y ∷ []) j ≡ Some x → (slice_get xs j ≡ Some x) ⊎ ((j ≡ length xs) × (x ≡ y))
append_cases [] y zero x found = inr (refl, sym (same_Some y x found))
append_cases [] y (suc j) x found = absurd (none-some x found)
append_cases (z ∷ xs) y zero x found = inl found
append_cases (z ∷ xs) y (suc j) x found = elim (append_cases xs y j x found) [ inl here ↦ inl here | inr last ↦ inr (ap suc last.0, last.1) ]

pub ready_first : (model : FlatModel) (clocking : Clocking) (parts : List (List Use)) (places : List ℕ) → AreReady model clocking parts places []
ready_first model clocking parts places_of s are k own slot own_found found = absurd (none-some slot found)

-- one part more: those before it stay, since its names are none of theirs
pub ready_next : (model : FlatModel) (clocking : Clocking) (parts : List (List Use)) (old new : List ℕ) (slots : List (Slot Piece)) (own : List Use) (slot : Slot Piece)
    → AreReady model clocking parts old slots → slice_get parts (length slots) ≡ Some own → length model.names ≤ length old → IsPrepared model clocking own old new slot.piece.part
    → ((x : ℕ) → (IsReachedBy x (map use_of own) → ⊥) → slice_get new x ≡ slice_get old x) → AreReady model clocking parts new (slots ++ slot ∷ [])
ready_next model clocking parts old new slots own slot ready own_found wide prepared rest s are k one at one_found at_found = elim (append_cases slots slot k at at_found) [
  | inl here ↦
      let was = ready s are k one at one_found here in
      let before = slice_get_within slots k at here in record {
        part_of = places s (map use_of one) old new at.piece.part was.part_of
            (λ x reached. rest x (λ own_reached. are.apart k (length slots) one own (λ same. omega (arith, before, same)) one_found own_found x reached own_reached));
        stands = was.stands;
      }
  | inr last ↦
      let (uses, before, after, piece) = are.piece (length slots) own own_found in
      let made = prepared s uses before after (length slots) (record {
        model = are.model_is;
        clocking_is = are.clocking_is;
        piece = piece;
        spines = are.spines (length slots) own own_found;
        wide = subst (λ m. length m.names ≤ length old) (sym are.model_is) wide;
      }) in
      let own_is : own ≡ one = same_Some own one (sym own_found ∙ ap (slice_get parts) (sym last.0) ∙ one_found) in
      subst (λ slot. IsReadySlot s one new slot) (sym last.1) (subst (λ us. IsReadySlot s us new slot) own_is (record { part_of = made.0; stands = made.1 }))
]
