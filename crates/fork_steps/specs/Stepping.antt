-- What a moment leaves of slots. This project's own.
use Rattle.std.specs.Prelude.{◌≡◌, ℕ, ◌<◌, true, false, List, length, get_or, All}
use Rattle.fork_steps.specs.declared.slot.Slot.{Slot}

-- the piece may be stepped, if the slot counts
abbrev pub IsReady : {T : Type 0} → (T → Type 0) → Slot T → Type 0
IsReady can slot = slot.counts ≡ true → can slot.piece

abbrev pub AreReady : {T : Type 0} → (T → Type 0) → List (Slot T) → Type 0
AreReady can slots = All (IsReady can) slots

-- the piece of a slot that counts was stepped, and any other one is unchanged
pub record IsStepped {T : Type 0} (stepped : T → T → Type 0) (old new : Slot T) : Type 0 where
  pub number : new.number ≡ old.number
  pub counts : new.counts ≡ old.counts
  pub steps : old.counts ≡ true → stepped old.piece new.piece
  pub rests : old.counts ≡ false → new.piece ≡ old.piece

-- place by place
pub record AreStepped {T : Type 0} (stepped : T → T → Type 0) (old new : List (Slot T)) : Type 0 where
  pub long : length new ≡ length old
  pub each : (i : ℕ) (d : Slot T) → i < length old → IsStepped stepped (get_or old i d) (get_or new i d)
