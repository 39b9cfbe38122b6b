-- Slots that were marked, and stepped side by side.
use Rattle.std.proofs.Common.{◌≡◌, refl, ap, ◌∙◌, sym, subst, ℕ, ◌<◌, Bool, true, false, List, length, get_or, Option, Some, None, slice_get, arith, ◌⊎◌, inl, inr}
use Rattle.std.proofs.lemmas.Option.{same_Some, slice_get-get_or, slice_get_within}
use Rattle.fork_steps.specs.declared.slot.Slot.{Slot}
use Rattle.fork_steps.specs.Stepping.{AreReady, IsStepped, AreStepped}
use Rattle.partition_step.specs.Steps.{Showing, CanStep}
use Rattle.partition_step.proofs.Lists.{some_at}
use Rattle.moment_steps.specs.declared.piece.Piece.{Piece}
use Rattle.moment_steps.specs.Stepped.{IsPieceStepped, HasRested, HasCounted, AreSteppedAt}
use Rattle.moment_steps.specs.private.Marking.{AreSamePieces, AreMarked}

pub may_step : (showing : Showing) (old marked : List (Slot Piece)) → AreSamePieces old marked → ((i : ℕ) (slot : Slot Piece) → slice_get old i ≡ Some slot → CanStep showing slot.piece.part)
    → AreReady (λ piece. CanStep showing piece.part) marked
may_step showing old marked same can i d lt counts =
    let (was, was_found, is) = same.each i (get_or marked i d) (slice_get-get_or marked i d lt) in
    subst (λ p. CanStep showing p.part) (sym is) (can i was was_found)

module _ (showing : Showing) (partitions : List ℕ) (old marked new : List (Slot Piece)) (same : AreSamePieces old marked) (marks : AreMarked partitions showing.ticks marked)
    (stepped : AreStepped (λ o n. IsPieceStepped showing o n) marked new) where
  module _ (i : ℕ) (slot mid : Slot Piece) (mid_found : slice_get marked i ≡ Some mid) (is : IsStepped (λ o n. IsPieceStepped showing o n) mid slot) (was : Slot Piece) (piece_is : mid.piece ≡ was.piece) where
    by_counts : (b : Bool) → mid.counts ≡ b → HasCounted showing was slot ⊎ HasRested showing partitions i was slot
    by_counts true e = inl (record { counts = is.counts ∙ e; stepped = subst (λ p. IsPieceStepped showing p slot.piece) piece_is (is.steps e) })
    by_counts false e = inr (record { counts = is.counts ∙ e; same = is.rests e ∙ piece_is; rests = λ class own. marks i class mid mid_found e own })

  each_at : (i : ℕ) (slot : Slot Piece) → slice_get new i ≡ Some slot → (was : Slot Piece) × (slice_get old i ≡ Some was) × (HasCounted showing was slot ⊎ HasRested showing partitions i was slot)
  each_at i slot found =
      let within = slice_get_within new i slot found in
      let long = stepped.long in
      let lt : i < length marked = omega (arith, within, long) in
      let (mid, mid_found) = some_at marked i lt in
      let (was, was_found, piece_is) = same.each i mid mid_found in
      let mid_is : get_or marked i mid ≡ mid = same_Some (get_or marked i mid) mid (sym (slice_get-get_or marked i mid lt) ∙ mid_found) in
      let slot_is : get_or new i mid ≡ slot = same_Some (get_or new i mid) slot (sym (slice_get-get_or new i mid within) ∙ found) in
      let is : IsStepped (λ o n. IsPieceStepped showing o n) mid slot =
      subst (λ z. IsStepped (λ o n. IsPieceStepped showing o n) z slot) mid_is (subst (IsStepped (λ o n. IsPieceStepped showing o n) (get_or marked i mid)) slot_is (stepped.each i mid lt)) in
      (was, was_found, by_counts i slot mid mid_found is was piece_is mid.counts refl)

  pub stepped_at : AreSteppedAt showing partitions old new
  stepped_at = record { long = stepped.long ∙ same.long; each = each_at }
