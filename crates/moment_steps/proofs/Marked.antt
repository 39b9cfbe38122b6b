-- Slots with the same pieces, and which of them count.
use Rattle.std.proofs.Common.{◌≡◌, ◌≢◌, refl, ap, ◌∙◌, sym, subst, ℕ, ◌+◌, ◌<◌, ◌≤◌, Bool, true, false, List, length, get_or, length-set, Option, Some, None, slice_get, slice_set, arith, ◌⊎◌, inl, inr}
use Rattle.std.proofs.lemmas.Bool.{cases_eq, cases_lt, false≢true}
use Rattle.std.proofs.lemmas.Option.{none-some, same_Some, slice_get-get_or, slice_get_within}
use Rattle.fork_steps.specs.declared.slot.Slot.{Slot}
use Rattle.partition_step.proofs.Lists.{set_same, set_other}
use Rattle.moment_steps.specs.private.Marking.{AreSamePieces, IsMarkedAt, AreMarkedTo, AreMarked}

module _ {T : Type 0} where
  pub same_first : (old : List (Slot T)) → AreSamePieces old old
  same_first old = record { long = refl; each = λ i slot found. (slot, found, refl) }

  pub same_then : (old mid new : List (Slot T)) → AreSamePieces old mid → AreSamePieces mid new → AreSamePieces old new
  same_then old mid new one two = record {
    long = two.long ∙ one.long;
    each = λ i slot found.
        let (between, between_found, is) = two.each i slot found in
        let (was, was_found, before) = one.each i between between_found in
        (was, was_found, is ∙ before);
  }

  pub same_set : (old now : List (Slot T)) (k : ℕ) (x e : Slot T) → AreSamePieces old now → k < length now → slice_get now k ≡ Some e → x.piece ≡ e.piece → AreSamePieces old (slice_set now k x)
  same_set old now k x e same lt found piece = same_then old now (slice_set now k x) same (record {
    long = length-set now k x;
    each = λ i slot slot_found. elim (cases_eq i k) [
      | inl here ↦ (
        e,
        ap (slice_get now) here ∙ found,
        ap (λ z. z.piece) (sym (same_Some x slot (sym (set_same now k x lt) ∙ ap (slice_get (slice_set now k x)) (sym here) ∙ slot_found))) ∙ piece,
      )
      | inr other ↦ (slot, sym (set_other now k i x other) ∙ slot_found, refl)
    ];
  })

  pub marked_set : (now : List (Slot T)) (k : ℕ) (x : Slot T) → k < length now → x.counts ≡ true → IsMarkedAt k now (slice_set now k x)
  marked_set now k x lt counts j slot found rests = elim (cases_eq j k) [
    | inl here ↦ absurd (
        let is : x ≡ slot = same_Some x slot (sym (set_same now k x lt) ∙ ap (slice_get (slice_set now k x)) (sym here) ∙ found) in
        false≢true (sym rests ∙ ap (λ z. z.counts) (sym is) ∙ counts))
    | inr other ↦ (other, sym (set_other now k j x other) ∙ found)
  ]

  pub marked_past : (now : List (Slot T)) (k : ℕ) → length now ≤ k → IsMarkedAt k now now
  marked_past now k le j slot found rests = ((λ same. let lt = slice_get_within now j slot found in omega (arith, lt, le, same)), found)

  pub marked_none : (partitions : List ℕ) (ticks : ℕ → Bool) (slots : List (Slot T)) → AreMarkedTo 0 partitions ticks slots
  marked_none partitions ticks slots j class slot lt = absurd (omega (arith, lt))

  pub marked_next : (partitions : List ℕ) (ticks : ℕ → Bool) (now new : List (Slot T)) (k place : ℕ) → AreMarkedTo k partitions ticks now → slice_get partitions k ≡ Some place → IsMarkedAt place now new → AreMarkedTo (k + 1) partitions ticks new
  marked_next partitions ticks now new k place marked at marks j class slot lt found rests own =
      let (other, was) = marks j slot found rests in elim (cases_eq class k) [
        | inl here ↦ absurd (other (same_Some j place (sym own ∙ ap (slice_get partitions) here ∙ at)))
        | inr apart ↦ marked j class slot (omega (arith, lt, apart)) was rests own
      ]

  pub marked_rest : (partitions : List ℕ) (ticks : ℕ → Bool) (now : List (Slot T)) (k : ℕ) → AreMarkedTo k partitions ticks now → ticks k ≡ false → AreMarkedTo (k + 1) partitions ticks now
  marked_rest partitions ticks now k marked rests_here j class slot lt found rests own = elim (cases_eq class k) [
    | inl here ↦ ap ticks here ∙ rests_here
    | inr apart ↦ marked j class slot (omega (arith, lt, apart)) found rests own
  ]

  pub marked_all : (partitions : List ℕ) (ticks : ℕ → Bool) (now : List (Slot T)) (k : ℕ) → length partitions ≤ k → AreMarkedTo k partitions ticks now → AreMarked partitions ticks now
  marked_all partitions ticks now k le marked j class slot found rests own =
      marked j class slot (let lt = slice_get_within partitions class j own in omega (arith, lt, le)) found rests own
