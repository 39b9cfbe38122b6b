-- The places of classes.
use Rattle.std.specs.Prelude.{◌≡◌, ℕ, List, length, slice_get, Some}
use Rattle.flat_model.specs.declared.model.FlatModel.{FlatModel}
use Rattle.flat_model.specs.declared.place.Place.{Place}
use Rattle.clock_terms.specs.Classing.{IsPlaceOf}

-- a place for each of the first members
pub record ArePlaces (model : FlatModel) (firsts : List ℕ) (places : List Place) : Type 0 where
  pub count : length places ≡ length firsts
  pub each : (c first : ℕ) (p : Place) → slice_get firsts c ≡ Some first → slice_get places c ≡ Some p → IsPlaceOf model first p
