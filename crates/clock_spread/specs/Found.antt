-- What is kept of the clocks of classes while they spread.
use Rattle.std.specs.Prelude.{◌≡◌, ℕ, ◌^◌, ◌<◌, ◌≢◌, ◌||◌, ◌&&◌, ◌==◌, Bool, true, false, List, [], ◌∷◌, ◌++◌, Option, Some, None, length, slice_index_or}
use Rattle.clock_terms.specs.declared.data.Relation.{Relation}
use Rattle.clock_terms.specs.Position.{Progression, AreSame, progression_of_grid, IsFine, IsTooFine}
use Rattle.clock_terms.specs.Clocking.{Held}
use Rattle.clock_spread.specs.declared.offers.Found.{Found}
use Rattle.clock_spread.specs.declared.offers.Found.TheVariants.{Not, Kept, Lost}
use Rattle.clock_spread.specs.Rounds.{is_given}

abbrev pub IsFineFound : Found → Type 0
IsFineFound (Kept g) = IsFine (2 ^ 40) g
IsFineFound _ = Unit {0}

-- what is kept is this clock; where it was too fine to be kept, that there is one
abbrev pub Agrees : Found → Option Progression → Type 0
Agrees Not o = o ≡ None
Agrees (Kept g) o = (p : Progression) × (o ≡ Some p) × AreSame (progression_of_grid g) p
Agrees Lost o = (p : Progression) × (o ≡ Some p)

abbrev pub found_of : List Found → ℕ → Found
found_of found c = slice_index_or found c Not

-- the same for each class
abbrev pub Agree : List Found → Held → Type 0
Agree found held = (c : ℕ) → Agrees (found_of found c) (held c)

-- what is lost is a clock with a part that reaches the limit
abbrev pub IsExact : Found → Option Progression → Type 0
IsExact Lost o = (p : Progression) × (o ≡ Some p) × IsTooFine (2 ^ 40) p
IsExact _ o = Unit {0}

-- no clock is lost
abbrev pub NoneLost : List Found → Type 0
NoneLost found = (c : ℕ) → found_of found c ≢ Lost

-- the class of a name or node
abbrev pub class_in : List ℕ → ℕ → ℕ
class_in class_of x = slice_index_or class_of x 0

-- the relation's ends are names or nodes with a class
abbrev pub HasEnds : List ℕ → Relation → Type 0
HasEnds class_of r = (r.result < length class_of) × (r.argument < length class_of)

-- the relation is given and has an end in the class
abbrev pub touches : (ℕ → ℕ) → ℕ → Relation → Bool
touches class_of c r = (is_given r.by && class_of r.result == c) || (is_given r.by && class_of r.argument == c)

-- a list with one relation more, where the test holds
abbrev pub with_relation : Bool → Relation → List Relation → List Relation
with_relation true r rs = rs ++ r ∷ []
with_relation false r rs = rs
