-- A model has one clocking.
use Rattle.std.proofs.Common.{refl, sym, ◌∙◌, List, Result, Ok, Err}
use Rattle.flat_model.specs.declared.clock.Clocking.{Clocking}
use Rattle.flat_model.specs.declared.model.FlatModel.{FlatModel}
use Rattle.flat_model.specs.Models.{IsModel}
use Rattle.clock_terms.specs.declared.data.Terms.{Terms}
use Rattle.clock_terms.specs.declared.data.Classes.{Classes}
use Rattle.clock_terms.specs.declared.data.Grid.{Grid}
use Rattle.clock_terms.specs.Said.{AreTermsOf}
use Rattle.base_partition.specs.Classified.{Classifies}
use Rattle.base_partition.specs.declared.kinds.ClassEnd.TheVariants as class
use Rattle.base_partition.proofs.Once.{answer_once}
use Rattle.sub_clock_solve.specs.declared.kinds.SolveEnd.{SolveEnd}
use Rattle.sub_clock_solve.specs.declared.kinds.SolveEnd.TheVariants as solve
use Rattle.sub_clock_solve.specs.Laws.{IsNoMemory}
use Rattle.sub_clock_solve.specs.Solving.{IsSolution}
use Rattle.sub_clock_solve.specs.Standing.{FitTogether}
use Rattle.sub_clock_solve.proofs.Once as solving
use Rattle.clock_check.specs.declared.kinds.CheckEnd.{CheckEnd}
use Rattle.clock_check.specs.declared.kinds.CheckEnd.TheVariants as check
use Rattle.clock_ready.specs.Laws as ready
use Rattle.clock_ready.proofs.Checked.{check_once}
use Rattle.clock_ready.proofs.Fitting.{fits}
use Rattle.clock_sides.specs.Laws.{IsAnswered}
use Rattle.command_answer.specs.Actions.{clocking_of}
use Rattle.command_answer.specs.Layers.{termed, classed, solved, checked}
use Rattle.command_answer.specs.Stages.{◌>>=◌, always, layer}
use Rattle.command_answer.specs.Told.{told_classes, told_clocks, told_checks}
use Rattle.command_answer.proofs.Joined.{IsOne, IsTold, Below, layer_one, both_one, any_one, below_after, below_both, below_layer, none_told, not_memory}
use Rattle.command_answer.proofs.SameTerms.{solves_same, checks_same}

classed_one : (flat : FlatModel) → IsOne (classed flat)
unfolding classed
classed_one flat = layer_one _ _ (λ r s p q t u. answer_once flat r s p q (not_memory told_classes class.NoMemory refl r t) (not_memory told_classes class.NoMemory refl s u))

solve_told : (classes : Classes) (r : Result (List Grid) SolveEnd) → IsTold (told_clocks classes) r → IsNoMemory r → ⊥
solve_told classes (Ok grids) t m = m
solve_told classes (Err (solve.Unknown c)) t m = m
solve_told classes (Err (solve.TooFine c)) t m = m
solve_told classes (Err (solve.Conflict i)) t m = m
solve_told classes (Err solve.NoMemory) t m = none_told t.0 t.1

solved_one : (terms : Terms) (classes : Classes) → FitTogether terms classes → IsOne (solved terms classes)
unfolding solved
solved_one terms classes fit = layer_one _ _ (λ r s p q t u. solving.one_answer terms classes fit r s p q (solve_told classes r t) (solve_told classes s u))

check_told : (classes : Classes) (r : Result Clocking CheckEnd) → IsTold (told_checks classes) r → ready.IsNoMemory r → ⊥
check_told classes (Ok clocking) t m = m
check_told classes (Err (check.Factor i)) t m = m
check_told classes (Err (check.EarlyStart c)) t m = m
check_told classes (Err (check.NotOnEvent c)) t m = m
check_told classes (Err (check.EventFactor c)) t m = m
check_told classes (Err (check.HoldInCondition i)) t m = m
check_told classes (Err check.NoMemory) t m = none_told t.0 t.1

checked_one : (flat : FlatModel) (terms : Terms) (classes : Classes) (grids : List Grid) → FitTogether terms classes → IsSolution terms classes grids → IsOne (checked flat terms classes grids)
unfolding checked
checked_one flat terms classes grids fit solution =
    layer_one _ _ (λ r s p q t u. check_once flat terms classes grids fit solution r s p q (check_told classes r t) (check_told classes s u))

-- what the stages of a clocking made
classes_are : (flat : FlatModel) (classes : Classes) → (classed flat).makes classes → Classifies flat (Ok classes)
unfolding classed layer
classes_are flat classes made = made

grids_are : (terms : Terms) (classes : Classes) (grids : List Grid) → (solved terms classes).makes grids → IsSolution terms classes grids
unfolding solved layer
grids_are terms classes grids made = made

-- what is solved and checked for the terms of one model
module _ (flat : FlatModel) (s t : Terms) (a : AreTermsOf flat s) (b : AreTermsOf flat t) (classes : Classes) where
  below_solved : Below (solved s classes) (solved t classes)
  unfolding solved
  below_solved = below_layer _ _ _ (solves_same s t (a.constructors ∙ sym b.constructors) (a.relations ∙ sym b.relations) classes)

  below_checked : (grids : List Grid) → Below (checked flat s classes grids) (checked flat t classes grids)
  unfolding checked
  below_checked grids = below_layer _ _ _ (checks_same s t (a.constructors ∙ sym b.constructors) (a.relations ∙ sym b.relations) classes flat grids)

pub clocking_one : (flat : FlatModel) → IsModel flat → IsOne (clocking_of flat)
unfolding clocking_of termed
clocking_one flat is = any_one _ _
    (λ s t a b. below_after _ _ _ (λ classes. below_both _ _ _ _ (below_solved flat s t a b classes) (λ grids. below_checked flat s t a b classes grids)))
    (λ terms a. both_one _ _ (classed_one flat) (λ classes k.
    let fit = (fits flat terms classes is a (classes_are flat classes k).are).0 in
    both_one _ _ (solved_one terms classes fit) (λ grids l. checked_one flat terms classes grids fit (grids_are terms classes grids l))))

-- a clocking that is made is answered for the model
pub is_answered : (flat : FlatModel) (clocking : Clocking) → (clocking_of flat).makes clocking → IsAnswered flat clocking
unfolding clocking_of termed classed solved checked always layer ◌>>=◌
is_answered flat clocking (terms, a, (classes, k, (grids, l, n))) = record { terms = terms; classes = classes; grids = grids; are_terms = a; classified = k; solved = l; checked = n }
