-- The values that are gathered from the base partitions of a share.
use Rattle.std.proofs.Common.{◌≡◌, refl, ap, ◌∙◌, sym, subst, ℕ, zero, suc, ◌<◌, List, [], ◌∷◌, ◌++◌, length, Option, Some, None, slice_get, arith, inl, inr}
use Rattle.std.proofs.lemmas.Bool.{cases_lt}
use Rattle.std.proofs.lemmas.Option.{none-some, same_Some, slice_get_past}
use Rattle.std.specs.Prelude.{option_map}
use Rattle.sync_values.specs.declared.value.Value.{Value}
use Rattle.flat_model.specs.Values.{value_in}
use Rattle.flat_model.specs.Assignment.{Assignment}
use Rattle.flat_model.specs.Given.{Row}
use Rattle.flat_model.specs.Setting.{Setting, flattened}
use Rattle.flat_model.specs.Uses.{Use}
use Rattle.fork_steps.specs.declared.slot.Slot.{Slot}
use Rattle.moment_body.specs.declared.model.ClockedModel.{ClockedModel}
use Rattle.moment_steps.specs.declared.piece.Piece.{Piece}
use Rattle.moment_steps.specs.Gathered.{value_of_slot}
use Rattle.moment_steps.specs.Settled.{own_uses}
use Rattle.moment_steps.specs.Stepped.{AreSteppedAt}
use Rattle.moment_steps.proofs.Rows.{reached_first, reached_second}
use Rattle.moment_steps.proofs.Starting.{valued_within}
use Rattle.moment_theory.specs.Division.{joined}
use Rattle.moment_theory.specs.Free.{IsReachedBy}
use Rattle.moment_theory.specs.Pieces.{AreBeside}
use Rattle.moment_theory.proofs.Settled.{model}
use Rattle.partition_step.specs.Writing.{IsWritten}
use Rattle.partition_step.proofs.Lists.{map_at, at_map, some_at}
use Rattle.share_run.specs.private.Gathering.{owned, owned_at}
use Rattle.share_run.specs.Standing.{Holding, pieces_of}
use Rattle.share_run.specs.Taking.{Values, Plan, IsShareAt}
use Rattle.share_run.proofs.Slots.{owns, slot_of_piece, owns_value}
use Rattle.share_run.proofs.Starts.{showing}
use Rattle.tree_step.specs.Starts.{uses_of}

-- what a piece reaches, all of them do
pub reached_joined : (ps : List (List Use)) (i : ℕ) (piece : List Use) → slice_get ps i ≡ Some piece → (y : ℕ) → IsReachedBy y piece → IsReachedBy y (joined ps)
reached_joined [] i piece found y reached = absurd (none-some piece found)
reached_joined (p ∷ ps) zero piece found y reached = reached_first p (joined ps) y (subst (IsReachedBy y) (sym (same_Some p piece found)) reached)
reached_joined (p ∷ ps) (suc i) piece found y reached = reached_second p (joined ps) y (reached_joined ps i piece found y reached)

module _ (h : Holding) (model_now : ClockedModel) (plan : Plan) (now : Values) (s : Setting) (uses pure others : List Use) (A : Assignment) (n : ℕ) (is : IsShareAt h model_now plan now s uses pure others A n)
    (new : List (Slot Piece)) (stepped : AreSteppedAt (showing h model_now plan now) h.classes h.slots new) (after : Values) (gathers : IsWritten (owned_at h.owners h.numbers h.places new) now after) where
  abbrev rows : ℕ → Row
  rows = owns h model_now plan now s uses pure others A n is new stepped

  abbrev order : List Use
  order = pure ++ (joined (pieces_of h) ++ (uses_of h.waiting ++ others))

  value_at : (y : ℕ) → y < length s.model.names → (there : Option Value) × (value_in now y ≡ there) × (value_in after y ≡ owned new h.places (flattened (slice_get h.owners y)) (Some y) there)
  value_at y lt =
      let wide = is.wide in
      let (value, found) = some_at now y (omega (arith, lt, wide)) in (
        value,
        ap flattened found,
        ap flattened (gathers.each y ∙ ap (option_map (owned_at h.owners h.numbers h.places new y)) found)
            ∙ ap (λ o. owned new h.places (flattened (slice_get h.owners y)) o value) (is.before.settled.numbered y lt),
      )

  gathered_own : (i : ℕ) (piece : List Use) (y : ℕ) → slice_get (pieces_of h) i ≡ Some piece → IsReachedBy y piece → value_in after y ≡ rows i y
  gathered_own i piece y found reached =
      let in_order : IsReachedBy y order = reached_second pure (joined (pieces_of h) ++ (uses_of h.waiting ++ others)) y (reached_first (joined (pieces_of h)) (uses_of h.waiting ++ others) y (reached_joined (pieces_of h) i piece found y reached)) in
      let lt = valued_within s y ((model s uses order is.division.staged.ordered).whole.valued y in_order) in
      let (value, value_is, got) = value_at y lt in
      let (was, was_found, was_is) = map_at own_uses h.slots i piece found in
      let own = is.before.owners_are.owned i y was was_found (subst (IsReachedBy y) (sym was_is) reached) in
      got ∙ ap (λ o. owned new h.places o (Some y) value) own
      ∙ ap (value_of_slot h.places y) (slot_of_piece h model_now plan now s uses pure others A n is new stepped i piece found).1
      ∙ owns_value h model_now plan now s uses pure others A n is new stepped i piece found y reached

  rest_value : (y : ℕ) → (IsReachedBy y (joined (pieces_of h)) → ⊥) → (value : Option Value) → value_in now y ≡ value → (o : Option ℕ) → flattened (slice_get h.owners y) ≡ o → owned new h.places o (Some y) value ≡ value_in now y
  rest_value y none value value_is None owner = sym value_is
  rest_value y none value value_is (Some i) owner = absurd (
      let (slot, found, reached) = is.before.owners_are.only i y owner in
      none (reached_joined (pieces_of h) i (own_uses slot) (at_map own_uses h.slots i slot found) y reached))

  gathered_rest : (y : ℕ) → (IsReachedBy y (joined (pieces_of h)) → ⊥) → value_in after y ≡ value_in now y
  gathered_rest y none = elim (cases_lt y (length s.model.names)) [
    | inl lt ↦ let (value, value_is, got) = value_at y lt in got ∙ rest_value y none value value_is (flattened (slice_get h.owners y)) refl
    | inr le ↦
        let wide = is.wide in let size = gathers.size in
        ap flattened (slice_get_past after y (omega (arith, le, wide, size))) ∙ sym (ap flattened (slice_get_past now y (omega (arith, le, wide))))
  ]

  pub beside : AreBeside (value_in now) rows (pieces_of h) (value_in after)
  beside = record {
    own = λ i piece y found reached. gathered_own i piece y found reached;
    rest = gathered_rest;
  }
