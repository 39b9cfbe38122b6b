-- Lists that are written place by place.
use Rattle.std.specs.Prelude.{◌≡◌, ℕ, List, length, slice_get, option_map}

-- each element is what is written over the one that was there
pub record IsWritten {A : Type 0} (write : ℕ → A → A) (old new : List A) : Type 0 where
  pub size : length new ≡ length old
  pub each : (i : ℕ) → slice_get new i ≡ option_map (write i) (slice_get old i)
