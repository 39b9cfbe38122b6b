-- What the front end gives is what a run asks.
use Rattle.std.proofs.Common.{◌≡◌, refl, ℕ, ◌++◌, List, slice_get, Some}
use Rattle.std.proofs.lemmas.List.Elements.{Contains-append_left, Contains-append_right}
use Rattle.rational_time.specs.declared.ratio.Ratio.{Ratio}
use Rattle.flat_model.specs.declared.clock.Clocking.{Clocking}
use Rattle.flat_model.specs.declared.equation.Equation.{Equation}
use Rattle.flat_model.specs.declared.equation.Equation.TheVariants.{Valued, Clocks}
use Rattle.flat_model.specs.declared.model.FlatModel.{FlatModel}
use Rattle.flat_model.specs.declared.table.Table.{Table}
use Rattle.flat_model.specs.Models.{IsModel}
use Rattle.flat_model.specs.Runnable.{IsEquationClocked, IsRunnable}
use Rattle.flat_model.specs.Setting.{Setting}
use Rattle.flat_model.specs.Tables.{IsTableOf}
use Rattle.clock_terms.specs.Mentions.{seen, clock_mentions}
use Rattle.clock_terms.specs.Nodes.{own_node}
use Rattle.clock_check.proofs.Ready.{ready}
use Rattle.clock_ready.proofs.Equations.{own_node_of}
use Rattle.clock_ready.proofs.Fitting.{fits}
use Rattle.clock_ready.proofs.Own.{equation_own}
use Rattle.clock_sides.specs.Laws.{IsAnswered}
use Rattle.clock_sides.proofs.Clocks.{clocks_on_axis}
use Rattle.clock_sides.proofs.Conditions.{conditions}
use Rattle.clock_sides.proofs.Placed.{side_cut}
use Rattle.clock_sides.proofs.Sides.{side_clocked}

module _ (model : FlatModel) (clocking : Clocking) (table : Table) (instants : List Ratio) (is_model : IsModel model) (a : IsAnswered model clocking) where
  abbrev s : Setting
  s = record { model = model; clocking = clocking; table = table; instants = instants }

  equation_clocked : (i : ℕ) (equation : Equation) → slice_get model.equations i ≡ Some equation → IsEquationClocked s i equation
  equation_clocked i (Valued left right clause) e =
      let is = a.checked.1 in
      let are = a.classified.are in
      let apart = a.classified.classes_apart in
      let (fit, known) = fits model a.terms a.classes is_model a.are_terms are in
      let (held, solved, grain, none) = a.solved in
      let axis = clocks_on_axis model a.terms a.classes clocking is_model a.are_terms are a.classified.bases_apart fit is held solved.gotten in
      let own = equation_own model a.classes are (λ c x y. apart c (x, y)) a.terms clocking is_model is table instants i (Valued left right clause) e in
      let (j, clock, at) = own_node_of model i (Valued left right clause) e in
      let lead = clock_mentions clock in
      let first = (seen left).mentions in
      let second = (seen right).mentions in
      let before = (seen left).cuts in
      let after = (seen right).cuts in
      let node = own_node clock i (Valued left right clause) in (
        side_clocked model a.terms a.classes clocking table instants is_model are apart is axis i j node left at refl refl
            (λ m c. Contains-append_right lead (first ++ second) m (Contains-append_left first second m c))
            (λ cut c. side_cut model i (Valued left right clause) e cut (Contains-append_left before after cut c)) own.0,
        side_clocked model a.terms a.classes clocking table instants is_model are apart is axis i j node right at refl refl
            (λ m c. Contains-append_right lead (first ++ second) m (Contains-append_right first second m c))
            (λ cut c. side_cut model i (Valued left right clause) e cut (Contains-append_right before after cut c)) own.1,
      )
  equation_clocked i (Clocks left right clause) e = tt

  pub runnable : IsTableOf model table → IsRunnable s
  runnable is_table =
      let is = a.checked.1 in
      let given = ready model a.terms a.classes clocking table instants a.are_terms a.classified.are is in
      record {
        model = is_model;
        table = is_table;
        classes = given.classes;
        clocks = given.clocks;
        inputs = given.inputs;
        equations = equation_clocked;
        sites = conditions model a.terms a.classes clocking table instants is_model a.are_terms a.classified.are a.classified.classes_apart is a.checked.0.1;
      }
