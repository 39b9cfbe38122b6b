-- The stages of the clocks of a model, where each of them ends.
use Rattle.std.proofs.Common.{◌≡◌, sym, ◌∙◌, refl, inl, inr, ℕ, ◌<◌, ◌⊎◌, List, Ok, Err, All, length, Option, Some, None}
use Rattle.std.proofs.lemmas.List.Elements.{All-weaker}
use Rattle.flat_model.specs.declared.clock.Clocking.{Clocking}
use Rattle.flat_model.specs.declared.model.FlatModel.{FlatModel}
use Rattle.flat_model.specs.Models.{IsModel, clause_of}
use Rattle.clock_terms.specs.declared.data.Terms.{Terms}
use Rattle.clock_terms.specs.declared.data.Classes.{Classes}
use Rattle.clock_terms.specs.declared.data.Grid.{Grid}
use Rattle.clock_terms.specs.Gathered.{HaveClauses, IsClauseBelow}
use Rattle.clock_terms.specs.Said.{AreTermsOf}
use Rattle.base_partition.specs.declared.kinds.ClassEnd.{ClassEnd}
use Rattle.base_partition.specs.Classified.{Classifies}
use Rattle.sub_clock_solve.specs.declared.kinds.SolveEnd.{SolveEnd}
use Rattle.sub_clock_solve.specs.Solving.{Solves}
use Rattle.clock_check.specs.declared.kinds.CheckEnd.{CheckEnd}
use Rattle.clock_check.specs.Checking.{Checks}
use Rattle.clock_terms.specs.Asked.{IsGiven}
use Rattle.clock_check.specs.Inferring.{IsInferred}
use Rattle.sub_clock_solve.specs.Standing.{FitTogether}
use Rattle.flat_model.specs.Runnable.{AreClocks}
use Rattle.clock_ready.proofs.Fitting.{fits}
use Rattle.command_answer.specs.Actions.{clocking_of}
use Rattle.command_answer.specs.Layers.{termed, classed, solved, checked}
use Rattle.command_answer.specs.Stages.{◌>>=◌, always, layer}
use Rattle.command_answer.specs.Told.{told_clocks, told_checks}
use Rattle.command_stages.specs.declared.end.End.{End}
use Rattle.command_stages.specs.Ends.{Halts, IsToldBy, of_classes}
use Rattle.command_stages.proofs.Halting.{classes_told}

-- the clause of each equation is one of the model
pub has_clauses : (flat : FlatModel) → IsModel flat → HaveClauses (length flat.clauses) flat.equations
has_clauses flat is = All-weaker _ _ (λ equation below. by_clause (clause_of equation) below) flat.equations is.clauses.below
  where
    by_clause : (clause : Option ℕ) → ((c : ℕ) → clause ≡ Some c → c < length flat.clauses) → IsClauseBelow (length flat.clauses) clause
    by_clause None below = tt
    by_clause (Some c) below = below c refl

-- terms and classes fit together
pub fit_together : (flat : FlatModel) (terms : Terms) (classes : Classes) → IsModel flat → AreTermsOf flat terms → Classifies flat (Ok classes) → FitTogether terms classes
fit_together flat terms classes is are k = (fits flat terms classes is are k.are).0

pub known_factors : (flat : FlatModel) (terms : Terms) (classes : Classes) → IsModel flat → AreTermsOf flat terms → Classifies flat (Ok classes)
    → All (λ relation. IsGiven relation.by ⊎ IsInferred relation.by) terms.relations
known_factors flat terms classes is are k = (fits flat terms classes is are k.are).1

-- the clocks of a clocking are in their limits
pub are_clocks : (flat : FlatModel) (terms : Terms) (classes : Classes) (grids : List Grid) (clocking : Clocking) → Checks flat terms classes grids (Ok clocking) → AreClocks clocking
are_clocks flat terms classes grids clocking p = p.1.limits

module _ (flat : FlatModel) (terms : Terms) (are : AreTermsOf flat terms) where
  pub unclassed : (e : ClassEnd) → Classifies flat (Err e) → Halts (clocking_of flat) (of_classes e)
  unfolding clocking_of termed classed always layer ◌>>=◌
  unclassed e p answer is = inr (terms, are, inl (e, p, sym (classes_told e) ∙ is))

  pub unsolved : (classes : Classes) (e : SolveEnd) (end : End) → Classifies flat (Ok classes) → Solves terms classes (Err e) → IsToldBy (told_clocks classes e) end → Halts (clocking_of flat) end
  unfolding clocking_of termed classed solved always layer ◌>>=◌
  unsolved classes e end k p told answer is = inr (terms, are, inr (classes, k, inl (e, p, told answer is)))

  pub unchecked : (classes : Classes) (grids : List Grid) (e : CheckEnd) (end : End) → Classifies flat (Ok classes) → Solves terms classes (Ok grids) → Checks flat terms classes grids (Err e)
      → IsToldBy (told_checks classes e) end → Halts (clocking_of flat) end
  unfolding clocking_of termed classed solved checked always layer ◌>>=◌
  unchecked classes grids e end k l p told answer is = inr (terms, are, inr (classes, k, inr (grids, l, (e, p, told answer is))))

  pub clocked : (classes : Classes) (grids : List Grid) (clocking : Clocking) → Classifies flat (Ok classes) → Solves terms classes (Ok grids) → Checks flat terms classes grids (Ok clocking)
      → (clocking_of flat).makes clocking
  unfolding clocking_of termed classed solved checked always layer ◌>>=◌
  clocked classes grids clocking k l n = (terms, are, (classes, k, (grids, l, n)))
