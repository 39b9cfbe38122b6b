-- What is kept of the constructors of a base partition while they are gone over.
use Rattle.std.specs.Prelude.{◌≡◌, ℕ, ◌<◌, Bool, true, false, ◌||◌, if◌then◌else◌, List, [], ◌∷◌, Option, Some, None, length, slice_get, slice_index_or, nat_lt}
use Rattle.std.specs.List.{list_any}
use Rattle.std.specs.Option.{option_map}
use Rattle.clock_terms.specs.declared.data.Classes.{Classes}
use Rattle.clock_terms.specs.declared.data.Constructor.{Constructor}
use Rattle.base_partition.specs.declared.source.Sources.{Sources}
use Rattle.base_partition.specs.Classified.{is_event, sources_in, IsSecondOf}

abbrev pub no_sources : Sources
no_sources = record { any = false; second = None; at_site = false }

abbrev pub is_some_list : List Constructor → Bool
is_some_list [] = false
is_some_list (constructor ∷ constructors) = true

-- whether there is one, the equation of the second, and whether one is an event constructor
abbrev pub summary : List Constructor → Sources
summary constructors = record {
  any = is_some_list constructors;
  second = option_map (λ constructor. constructor.equation) (slice_get constructors 1);
  at_site = list_any is_event constructors;
}

-- a second one stays; else one with others before it is the second
abbrev pub second_with : Option ℕ → Bool → ℕ → Option ℕ
second_with (Some equation) any e = Some equation
second_with None true e = Some e
second_with None false e = None

-- what is kept with one constructor more
abbrev pub with_source : Sources → ℕ → Bool → Sources
with_source before e event = record { any = true; second = second_with before.second before.any e; at_site = before.at_site || event }

-- each base partition has what is to be kept of these constructors
abbrev pub AreKept : Classes → List Constructor → List Sources → Type 0
AreKept classes constructors bases = (p : ℕ) → p < length bases → slice_index_or bases p no_sources ≡ summary (sources_in classes p constructors)

-- the second constructor's equation, where one is an event constructor
abbrev pub mixed_in : Sources → Option ℕ
mixed_in base = if base.at_site then base.second else None

-- the lesser of two numbers, where both are there
abbrev pub lesser_of : Option ℕ → Option ℕ → Option ℕ
lesser_of None second = second
lesser_of (Some a) None = Some a
lesser_of (Some a) (Some b) = if nat_lt b a then Some b else Some a

-- the least number that a base has
abbrev pub IsLeastOf : List Sources → Option ℕ → Type 0
IsLeastOf bases None = (p : ℕ) → p < length bases → mixed_in (slice_index_or bases p no_sources) ≡ None
IsLeastOf bases (Some e) =
    ((p : ℕ) × (p < length bases) × (mixed_in (slice_index_or bases p no_sources) ≡ Some e))
    × ((p d : ℕ) → p < length bases → d < e → mixed_in (slice_index_or bases p no_sources) ≡ Some d → ⊥)

-- the least equation of a second constructor in the first so many base partitions
abbrev pub IsFirstMixed : Classes → List Constructor → ℕ → Option ℕ → Type 0
IsFirstMixed classes constructors count None = (p e : ℕ) → p < count → IsSecondOf classes constructors p e → ⊥
IsFirstMixed classes constructors count (Some e) =
    ((p : ℕ) × (p < count) × IsSecondOf classes constructors p e)
    × ((p d : ℕ) → p < count → d < e → IsSecondOf classes constructors p d → ⊥)
