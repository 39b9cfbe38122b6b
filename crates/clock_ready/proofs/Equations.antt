-- Each equation has its node.
use Rattle.std.proofs.Common.{◌≡◌, ◌∙◌, ap, ap₂, ℕ, zero, suc, ◌+◌, ◌<◌, List, [], ◌∷◌, ◌++◌, length, slice_get, Option, Some, None, arith}
use Rattle.std.proofs.lemmas.List.{length-append}
use Rattle.flat_model.specs.declared.clock.ClockExpr.{ClockExpr}
use Rattle.flat_model.specs.declared.equation.Equation.{Equation}
use Rattle.flat_model.specs.declared.model.FlatModel.{FlatModel}
use Rattle.flat_model.specs.Models.{clause_of}
use Rattle.clock_terms.specs.Mentions.{clock_cuts}
use Rattle.clock_terms.specs.Nodes.{Node, cut_nodes, own_node, side_cuts, leading_clock, nodes_of_equation, nodes_from}
use Rattle.clock_terms.specs.Said.{IsNode}
use Rattle.clock_check.proofs.Ready.{own_at, get_left, get_right, node_for}

pub node_of_equation : (model : FlatModel) (k : ℕ) → k < length model.equations → (j : ℕ) × (node : Node) × IsNode model j node × (node.equation ≡ k) × (node.cause ≡ None)
node_of_equation model k lt =
    let (j, node, at, is, none) = node_for model.clauses [] model.equations k lt in
    (j, node, at, is ∙ (let e : 0 + k ≡ k = omega arith in e), none)

-- the node of an equation, with what stands on its sides
own_node_from : (clauses : List ClockExpr) (before equations : List Equation) (k : ℕ) (equation : Equation) → slice_get equations k ≡ Some equation
    → (j : ℕ) × (clock : Option ClockExpr) × (slice_get (nodes_from clauses before equations) j ≡ Some (own_node clock (length before + k) equation))
own_node_from clauses before [] k equation e = absurd cc
own_node_from clauses before (first ∷ rest) zero equation e =
    let clock = leading_clock clauses before (clause_of first) in
    let cuts = cut_nodes (length before) (clock_cuts clock) in
    let own = own_node clock (length before) first in
    let after = cut_nodes (length before) (side_cuts first) in
    let same : first ≡ equation = cc in (
      length cuts,
      clock,
      get_left (cuts ++ own ∷ after) (nodes_from clauses (before ++ first ∷ []) rest) (length cuts) own (own_at cuts own after)
          ∙ ap₂ (λ n q. Some (own_node clock n q)) (let z : length before ≡ length before + 0 = omega arith in z) same,
    )
own_node_from clauses before (first ∷ rest) (suc k) equation e =
    let nodes = nodes_of_equation (leading_clock clauses before (clause_of first)) (length before) first in
    let (j, clock, at) = own_node_from clauses (before ++ first ∷ []) rest k equation e in
    let size : length (before ++ first ∷ []) ≡ length before + 1 = length-append before (first ∷ []) in
    let number : length (before ++ first ∷ []) + k ≡ length before + suc k = omega (arith, size) in
    (length nodes + j, clock, get_right nodes (nodes_from clauses (before ++ first ∷ []) rest) j ∙ at ∙ ap (λ n. Some (own_node clock n equation)) number)

pub own_node_of : (model : FlatModel) (i : ℕ) (equation : Equation) → slice_get model.equations i ≡ Some equation
    → (j : ℕ) × (clock : Option ClockExpr) × IsNode model j (own_node clock i equation)
own_node_of model i equation e =
    let (j, clock, at) = own_node_from model.clauses [] model.equations i equation e in
    (j, clock, at ∙ ap (λ n. Some (own_node clock n equation)) (let z : 0 + i ≡ i = omega arith in z))
