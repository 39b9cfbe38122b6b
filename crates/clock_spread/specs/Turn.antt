-- One round of spreading.
use Rattle.std.specs.Prelude.{◌≡◌, ◌≢◌, ℕ, zero, suc, ◌<◌, ◌^◌, ◌⊎◌, Bool, true, false, List, [], length, slice_index_or, filter, All, Option, Some, None, Contains}
use Rattle.clock_terms.specs.declared.data.Relation.{Relation}
use Rattle.clock_terms.specs.Position.{Progression, IsProper, IsTooFine}
use Rattle.clock_terms.specs.Clocking.{Said, Held}
use Rattle.clock_spread.specs.declared.offers.Found.{Found}
use Rattle.clock_spread.specs.declared.offers.Found.TheVariants.{Not, Lost}
use Rattle.clock_spread.specs.Rounds.{first_some, if_clocked, offered}
use Rattle.clock_spread.specs.Found.{Agree, NoneLost, found_of, class_in, touches}
use Rattle.clock_spread.specs.Queue.{marked, IsNextTo}
use Rattle.clock_terms.specs.Least.{IsLeast}
use Rattle.clock_spread.specs.Least.{IsLeastOf, IsNumberIn}

-- at the first n of these classes stand the new clocks, and at others the old ones
abbrev pub Commits : ℕ → List ℕ → List Found → List Found → List Found → Type 0
Commits n next taken old new = (c : ℕ) →
    ((k : ℕ) × (k < n) × (slice_index_or next k 0 ≡ c) × (found_of new c ≡ found_of taken k))
    ⊎ (((k : ℕ) → k < n → slice_index_or next k 0 ≡ c → ⊥) × (found_of new c ≡ found_of old c))

-- what classes, marks of classes and relations say, as far as it decides how clocks spread
abbrev pub said_by : List ℕ → List Bool → List Relation → Said
said_by class_of clocked relations = record { class_of = class_in class_of; clocked = marked clocked; sources = []; relations = relations }

-- the clocks of one round from those of the round before
abbrev pub following : Said → Held → Held
following said held c = first_some (held c) (if_clocked (said.clocked c) (offered said.class_of held said.relations c))

-- each list has the given relations that touch its class
abbrev pub AreTouching : List ℕ → List Relation → List (List Relation) → Type 0
AreTouching class_of relations lists = (c : ℕ) → c < length lists → slice_index_or lists c [] ≡ filter (touches (class_in class_of) c) relations

-- what is kept stands for the clocks, and whatever takes one in the next round takes it from the last ones
pub record Stands (class_of : List ℕ) (clocked : List Bool) (relations : List Relation) (lists : List (List Relation)) (held : Held) (found : List Found) (marks : List Bool) (last : List ℕ) : Type 0 where
  pub agree : Agree found held
  pub has : (c : ℕ) → marked marks c ≡ true → found_of found c ≢ Not
  pub has_not : (c : ℕ) → marked marks c ≡ false → found_of found c ≡ Not
  pub last_has : All (λ d. found_of found d ≢ Not) last
  pub covers : (c : ℕ) (p : Progression) → held c ≡ None → following (said_by class_of clocked relations) held c ≡ Some p → IsNextTo (class_in class_of) lists last c

-- the clocks after some more rounds
abbrev pub after_more : Said → Held → ℕ → Held
after_more said held zero = held
after_more said held (suc n) = following said (after_more said held n)

-- the denominators of all clocks are above 0
abbrev pub AreProper : Held → Type 0
AreProper held = (c : ℕ) (p : Progression) → held c ≡ Some p → IsProper p

-- the class has no clock, and takes this one in the next round
abbrev pub Newly : Said → Held → ℕ → Progression → Type 0
Newly said held c p = (held c ≡ None) × (following said held c ≡ Some p)

-- it takes one with a part that reaches the limit
abbrev pub NewlyTooFine : Said → Held → ℕ → Type 0
NewlyTooFine said held c = (p : Progression) × Newly said held c p × IsTooFine (2 ^ 40) p

-- what is lost after a round is just what took too fine a clock in it
pub record AreLost (said : Said) (held : Held) (found : List Found) (next : List ℕ) : Type 0 where
  pub listed : (c : ℕ) → found_of found c ≡ Lost → Contains next c
  pub too_fine : (c : ℕ) → found_of found c ≡ Lost → NewlyTooFine said held c
  pub lost : (c : ℕ) → NewlyTooFine said held c → found_of found c ≡ Lost

-- the least of these classes that is lost, unless one was lost before
abbrev pub IsNextLost : Option ℕ → List Found → List ℕ → Option ℕ → Type 0
IsNextLost None found next lost = IsLeastOf (IsNumberIn (λ c. c) (λ c. found_of found c ≡ Lost) next) lost
IsNextLost (Some c) found next lost = lost ≡ Some c

-- the first class that takes too fine a clock, of the first of some rounds in which there is one; or none does
abbrev pub IsFirstLost : Said → Held → ℕ → Option ℕ → Type 0
IsFirstLost said held rounds None = (m : ℕ) → m < rounds → (c : ℕ) → NewlyTooFine said (after_more said held m) c → ⊥
IsFirstLost said held rounds (Some c) =
    (m : ℕ) × (m < rounds)
    × ((k : ℕ) → k < m → (d : ℕ) → NewlyTooFine said (after_more said held k) d → ⊥)
    × IsLeast (NewlyTooFine said (after_more said held m)) c

-- what is kept stands for the clocks after some more rounds, the last of which changes nothing
pub record Settles (said : Said) (held : Held) (found : List Found) (lost : Option ℕ) : Type 0 where
  pub rounds : ℕ
  pub agree : Agree found (after_more said held rounds)
  pub still : (c : ℕ) → following said (after_more said held rounds) c ≡ after_more said held rounds c
  pub first : IsFirstLost said held rounds lost
  pub kept : lost ≡ None → NoneLost found
