-- Each class at which a rule of clocks is broken has a place.
use Rattle.std.proofs.Common.{◌≡◌, refl, ℕ, zero, suc, ◌<◌, ◌⊎◌, inl, inr, Bool, true, false, List, [], ◌∷◌, Option, Some, None, Err, length, slice_index_or, if◌then◌else◌, arith}
use Rattle.flat_model.specs.declared.model.FlatModel.{FlatModel}
use Rattle.clock_terms.specs.declared.data.Terms.{Terms}
use Rattle.clock_terms.specs.declared.data.Classes.{Classes}
use Rattle.clock_terms.specs.declared.data.Grid.{Grid}
use Rattle.clock_terms.specs.Classing.{AreClassesOf}
use Rattle.clock_terms.specs.Clocking.{Said}
use Rattle.clock_terms.specs.Position.{Progression}
use Rattle.clock_spread.specs.Rounds.{first_some, if_clocked, after_round}
use Rattle.sub_clock_solve.specs.declared.kinds.SolveEnd.{SolveEnd}
use Rattle.sub_clock_solve.specs.declared.kinds.SolveEnd.TheVariants as solve
use Rattle.sub_clock_solve.specs.Solving.{Solves, Takes, said_of}
use Rattle.clock_check.specs.declared.kinds.CheckEnd.{CheckEnd}
use Rattle.clock_check.specs.declared.kinds.CheckEnd.TheVariants as check
use Rattle.clock_check.specs.Checking.{Checks, grid_of}
use Rattle.command_stages.specs.private.Placed.{HasPlace, HasPlaceIn}

marked_below : (bs : List Bool) (c : ℕ) → slice_index_or bs c false ≡ true → c < length bs
marked_below [] c is = absurd (cc is)
marked_below (b ∷ bs) zero is = omega arith
marked_below (b ∷ bs) (suc c) is = let e = marked_below bs c is in omega (arith, e)

clocked_one : (b : Bool) (clock : Option Progression) (p : Progression) → if_clocked b clock ≡ Some p → b ≡ true
clocked_one true clock p is = refl
clocked_one false clock p is = absurd (cc is)

one_of : (a b : Option Progression) (p : Progression) → first_some a b ≡ Some p → (a ≡ Some p) ⊎ (b ≡ Some p)
one_of None b p is = inr is
one_of (Some a) b p is = inl is

-- only clocked classes get a clock
gets_clocked : (said : Said) (round c : ℕ) (p : Progression) → after_round said round c ≡ Some p → said.clocked c ≡ true
gets_clocked said zero c p is = clocked_one (said.clocked c) _ p is
gets_clocked said (suc round) c p is = elim (one_of (after_round said round c) _ p is) [
  | inl before ↦ gets_clocked said round c p before
  | inr now ↦ clocked_one (said.clocked c) _ p now
]

takes_clocked : (said : Said) (round c : ℕ) (p : Progression) → Takes said round c p → said.clocked c ≡ true
takes_clocked said zero c p takes = gets_clocked said zero c p takes
takes_clocked said (suc round) c p takes = gets_clocked said (suc round) c p takes.1

gridded : (b : Bool) (o : Option Grid) (g : Grid) → (if b then o else None) ≡ Some g → b ≡ true
gridded true o g is = refl
gridded false o g is = absurd (cc is)

module _ (flat : FlatModel) (classes : Classes) (are : AreClassesOf flat classes) where
  -- a clocked class has a place
  has_place : (c : ℕ) → slice_index_or classes.clocked c false ≡ true → c < length classes.places
  has_place c is = let below = marked_below classes.clocked c is in let marks = are.lengths.clocked in let places = are.lengths.places in omega (arith, below, marks, places)

  grid_place : (grids : List Grid) (c : ℕ) (g : Grid) → grid_of classes grids c ≡ Some g → c < length classes.places
  grid_place grids c g is = has_place c (gridded (slice_index_or classes.clocked c false) _ g is)

  pub solve_placed : (terms : Terms) (e : SolveEnd) → Solves terms classes (Err e) → HasPlace classes e
  solve_placed terms (solve.Unknown c) p = has_place c p.0.0
  solve_placed terms (solve.TooFine c) (inl (held, gotten, (round, first, least))) = let (clock, takes, fine) = least.0 in has_place c (takes_clocked (said_of terms classes) round c clock takes)
  solve_placed terms (solve.TooFine c) (inr (held, grids, are_solved, past)) = has_place c past.0
  solve_placed terms (solve.Conflict i) p = tt
  solve_placed terms solve.NoMemory p = tt

  pub check_placed : (terms : Terms) (grids : List Grid) (e : CheckEnd) → Checks flat terms classes grids (Err e) → HasPlaceIn classes e
  check_placed terms grids (check.Factor i) p = tt
  check_placed terms grids (check.EarlyStart c) p = let (g, is, early) = p.1.0 in grid_place grids c g is
  check_placed terms grids (check.NotOnEvent c) p = let (g, is, early) = p.1.0 in grid_place grids c g is
  check_placed terms grids (check.EventFactor c) p = let (g, is, early) = p.1.0 in grid_place grids c g is
  check_placed terms grids (check.HoldInCondition i) p = tt
  check_placed terms grids check.NoMemory p = tt
