-- What is answered for terms rests on their constructors and relations, which a model gives alone.
use Rattle.std.proofs.Common.{◌≡◌, ap₂, subst, ℕ, inl, inr, List, Result, Ok, Err}
use Rattle.flat_model.specs.declared.clock.Clocking.{Clocking}
use Rattle.flat_model.specs.declared.model.FlatModel.{FlatModel}
use Rattle.clock_terms.specs.declared.data.Terms.{Terms}
use Rattle.clock_terms.specs.declared.data.Classes.{Classes}
use Rattle.clock_terms.specs.declared.data.Constructor.{Constructor}
use Rattle.clock_terms.specs.declared.data.Relation.{Relation}
use Rattle.clock_terms.specs.declared.data.Grid.{Grid}
use Rattle.clock_terms.specs.Clocking.{Said, Held, RelationHolds, IsClocking}
use Rattle.clock_terms.specs.Least.{IsLeast}
use Rattle.clock_terms.specs.Source.{sources_of}
use Rattle.clock_spread.specs.Least.{IsNumberIn}
use Rattle.clock_spread.specs.Rounds.{AreGotten}
use Rattle.sub_clock_solve.specs.declared.kinds.SolveEnd.{SolveEnd}
use Rattle.sub_clock_solve.specs.declared.kinds.SolveEnd.TheVariants as solve
use Rattle.sub_clock_solve.specs.Solving.{said_of, AreSolved, NoneTooFine, NoneFails, GetsNone, IsFirstTooFine, FailsAt, HasNoClocking, Solves}
use Rattle.clock_check.specs.declared.kinds.CheckEnd.{CheckEnd}
use Rattle.clock_check.specs.declared.kinds.CheckEnd.TheVariants as check
use Rattle.clock_check.specs.Checking.{held_by, HaveFactors, IsNowhere, Checks}
use Rattle.clock_check.specs.ClockingOf.{AreSites, held_in, IsClockingOf}
use Rattle.clock_check.specs.Inferring.{IsInferred}

module _ (s t : Terms) (constructors : s.constructors ≡ t.constructors) (relations : s.relations ≡ t.relations) (classes : Classes) where
  abbrev saying : List Constructor → List Relation → Said
  saying ks rs = record { class_of = (said_of t classes).class_of; clocked = (said_of t classes).clocked; sources = sources_of ks; relations = rs }

  said_same : said_of s classes ≡ said_of t classes
  said_same = ap₂ saying constructors relations

  solved_same : (held : Held) (grids : List Grid) → AreSolved s classes held grids → AreSolved t classes held grids
  solved_same held grids a = record {
    gotten = subst (λ k. AreGotten k held) said_same a.gotten;
    none_too_fine = subst NoneTooFine said_same a.none_too_fine;
    are_grids = a.are_grids;
  }

  pub solves_same : (r : Result (List Grid) SolveEnd) → Solves s classes r → Solves t classes r
  solves_same (Ok grids) (held, solved, below, none) = (held, solved_same held grids solved, below, subst (λ k. NoneFails k held) said_same none)
  solves_same (Err (solve.Unknown c)) least = subst (λ k. IsLeast (GetsNone k) c) said_same least
  solves_same (Err (solve.TooFine c)) (inl (held, gotten, first)) = inl (held, subst (λ k. AreGotten k held) said_same gotten, subst (λ k. IsFirstTooFine k c) said_same first)
  solves_same (Err (solve.TooFine c)) (inr (held, grids, solved, past)) = inr (held, grids, solved_same held grids solved, past)
  solves_same (Err (solve.Conflict e)) ((held, grids, solved, below, least), none) =
      ((held, grids, solved_same held grids solved, below, subst (λ k. IsLeast (FailsAt k held) e) said_same least), subst HasNoClocking said_same none)
  solves_same (Err solve.NoMemory) x = tt

  -- a relation of this equation with an inferred factor does not hold
  abbrev FailsToInfer : List Grid → Said → ℕ → Type 0
  FailsToInfer grids said = IsNumberIn (λ relation. relation.equation) (λ relation. IsInferred relation.by × (RelationHolds said (held_by classes grids) relation → ⊥)) said.relations

  factors_same : (grids : List Grid) → HaveFactors s classes grids → HaveFactors t classes grids
  factors_same grids = subst (λ k. IsNowhere (FailsToInfer grids k)) said_same

  clocking_same : (flat : FlatModel) (clocking : Clocking) → IsClockingOf flat s classes clocking → IsClockingOf flat t classes clocking
  clocking_same flat clocking a = record {
    name_count = a.name_count;
    names = a.names;
    equation_count = a.equation_count;
    equations = a.equations;
    partition_count = a.partition_count;
    partitions = a.partitions;
    clock_count = a.clock_count;
    sites = subst (λ ks. AreSites ks clocking.sites) constructors a.sites;
    clocks = subst (λ k. IsClocking k (held_in classes clocking.clocks)) said_same a.clocks;
    limits = a.limits;
  }

  pub checks_same : (flat : FlatModel) (grids : List Grid) (r : Result Clocking CheckEnd) → Checks flat s classes grids r → Checks flat t classes grids r
  checks_same flat grids (Ok clocking) (((((have, starts), shifts), wholes), holds), is) =
      (((((factors_same grids have, starts), shifts), wholes), holds), clocking_same flat clocking is)
  checks_same flat grids (Err (check.Factor e)) least = subst (λ k. IsLeast (FailsToInfer grids k) e) said_same least
  checks_same flat grids (Err (check.EarlyStart c)) (have, least) = (factors_same grids have, least)
  checks_same flat grids (Err (check.NotOnEvent c)) ((have, starts), least) = ((factors_same grids have, starts), least)
  checks_same flat grids (Err (check.EventFactor c)) (((have, starts), shifts), least) = (((factors_same grids have, starts), shifts), least)
  checks_same flat grids (Err (check.HoldInCondition e)) ((((have, starts), shifts), wholes), least) = ((((factors_same grids have, starts), shifts), wholes), least)
  checks_same flat grids (Err check.NoMemory) x = tt
