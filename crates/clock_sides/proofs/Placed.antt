-- Each node of a model has arguments that are no inputs, and what is cut from it is a node.
use Rattle.std.proofs.Common.{◌≡◌, refl, sym, subst, ℕ, zero, suc, ◌+◌, Bool, true, false, if◌then◌else◌, List, [], ◌∷◌, ◌++◌, length, slice_get, Option, Some, None, Contains, ⊎_elim, arith}
use Rattle.std.specs.List.{list_any}
use Rattle.std.proofs.lemmas.Option.{none-some}
use Rattle.std.proofs.lemmas.List.{length-append}
use Rattle.std.proofs.lemmas.List.Elements.{Contains-append_left, Contains-append_right}
use Rattle.flat_model.specs.declared.clock.ClockExpr.{ClockExpr}
use Rattle.flat_model.specs.declared.equation.Equation.{Equation}
use Rattle.flat_model.specs.declared.equation.Equation.TheVariants.{Valued, Clocks}
use Rattle.flat_model.specs.declared.model.FlatModel.{FlatModel}
use Rattle.flat_model.specs.declared.model.FlatName.{FlatName}
use Rattle.flat_model.specs.Arguments.{HasOwnArguments, clock_holds_no_input}
use Rattle.flat_model.specs.Models.{IsModel, clause_of}
use Rattle.clock_terms.specs.Mentions.{Cut, seen, seen_clock, clock_mentions, clock_cuts}
use Rattle.clock_terms.specs.Nodes.{Node, is_of_clause, leading_clock, side_mentions, side_cuts, cut_node, cut_nodes, own_node, nodes_of_equation, nodes_from, nodes_of}
use Rattle.clock_terms.proofs.Joining.{here, there, in_none, cons_cases}
use Rattle.clock_ready.proofs.Good.{Each, each_append, each_of_all, each_at}
use Rattle.clock_sides.proofs.Lists.{each_left, each_right, each_from}
use Rattle.clock_sides.proofs.Owned.{IsOwn, AreOwn, own_expr, own_clock}

-- a part that is cut is a node of some equation
abbrev pub IsPlaced : List Node → Cut → Type 0
IsPlaced all cut = (i : ℕ) × Contains all (cut_node i cut)

cut_in : (i : ℕ) (cuts : List Cut) (cut : Cut) → Contains cuts cut → Contains (cut_nodes i cuts) (cut_node i cut)
cut_in i [] cut c = absurd (in_none cut c)
cut_in i (first ∷ cuts) cut c = ⊎_elim
    (λ e. subst (λ z. Contains (cut_nodes i (first ∷ cuts)) (cut_node i z)) e (here (cut_node i first) (cut_nodes i cuts)))
    (λ later. there (cut_node i first) (cut_nodes i cuts) (cut_node i cut) (cut_in i cuts cut later))
    (cons_cases first cuts cut c)

module _ (names : List FlatName) (clauses : List ClockExpr) (all : List Node) (lead : Each (λ k. clock_holds_no_input names k ≡ true) clauses) where
  abbrev Placed : Cut → Type 0
  Placed cut = IsPlaced all cut

  abbrev IsOwnNode : Node → Type 0
  IsOwnNode node = Each (IsOwn names Placed) node.mentions

  abbrev IsOwnCut : Cut → Type 0
  IsOwnCut cut = Each (IsOwn names Placed) cut.mentions

  placed : (i : ℕ) (cuts : List Cut) → ((node : Node) → Contains (cut_nodes i cuts) node → Contains all node) → Each Placed cuts
  placed i cuts within = each_from Placed cuts (λ cut c. (i, within (cut_node i cut) (cut_in i cuts cut c)))

  cut_own : (i : ℕ) (cuts : List Cut) → Each IsOwnCut cuts → Each IsOwnNode (cut_nodes i cuts)
  cut_own i [] h = tt
  cut_own i (cut ∷ cuts) h = (h.0, cut_own i cuts h.1)

  sides_own : (equation : Equation) → HasOwnArguments names equation → Each Placed (side_cuts equation) → AreOwn names Placed (side_mentions equation) (side_cuts equation)
  sides_own (Valued left right clause) h has =
      let c = (seen left).cuts in
      let d = (seen right).cuts in
      let k = own_expr names Placed left h.0 (each_left Placed c d has) in
      let l = own_expr names Placed right h.1 (each_right Placed c d has) in
      (each_append (IsOwn names Placed) (seen left).mentions (seen right).mentions k.0 l.0, each_append IsOwnCut c d k.1 l.1)
  sides_own (Clocks left right clause) h has =
      let c = (seen_clock left).cuts in
      let d = (seen_clock right).cuts in
      let k = own_clock names Placed left h.0 (each_left Placed c d has) in
      let l = own_clock names Placed right h.1 (each_right Placed c d has) in
      (each_append (IsOwn names Placed) (seen_clock left).mentions (seen_clock right).mentions k.0 l.0, each_append IsOwnCut c d k.1 l.1)

  given_own : (o : Option ClockExpr) → ((k : ClockExpr) → o ≡ Some k → clock_holds_no_input names k ≡ true) → Each Placed (clock_cuts o) → AreOwn names Placed (clock_mentions o) (clock_cuts o)
  given_own None h has = (tt, tt)
  given_own (Some k) h has = own_clock names Placed k (h k refl) has

  lead_own : (before : List Equation) (o : Option ℕ) (k : ClockExpr) → leading_clock clauses before o ≡ Some k → clock_holds_no_input names k ≡ true
  lead_own before None k e = absurd (none-some k e)
  lead_own before (Some c) k e = each_at (λ k. clock_holds_no_input names k ≡ true) clauses c k lead (taken (list_any (is_of_clause c) before) (slice_get clauses c) e)
    where
      taken : (b : Bool) (o : Option ClockExpr) → (if b then None else o) ≡ Some k → o ≡ Some k
      taken true o e = absurd (none-some k e)
      taken false o e = e

  nodes_own : (before equations : List Equation) → Each (HasOwnArguments names) equations → ((node : Node) → Contains (nodes_from clauses before equations) node → Contains all node)
      → Each IsOwnNode (nodes_from clauses before equations)
  nodes_own before [] h within = tt
  nodes_own before (equation ∷ rest) h within =
      let o = leading_clock clauses before (clause_of equation) in
      let i = length before in
      let cuts = cut_nodes i (clock_cuts o) in
      let own = own_node o i equation in
      let after = cut_nodes i (side_cuts equation) in
      let more = nodes_from clauses (before ++ equation ∷ []) rest in
      let first = given_own o (lead_own before (clause_of equation)) (placed i (clock_cuts o)
      (λ node c. within node (Contains-append_left (cuts ++ own ∷ after) more node (Contains-append_left cuts (own ∷ after) node c)))) in
      let sides = sides_own equation h.0 (placed i (side_cuts equation)
      (λ node c. within node (Contains-append_left (cuts ++ own ∷ after) more node (Contains-append_right cuts (own ∷ after) node (there own after node c))))) in
      each_append IsOwnNode (cuts ++ own ∷ after) more
      (each_append IsOwnNode cuts (own ∷ after) (cut_own i (clock_cuts o) first.1)
      (each_append (IsOwn names Placed) (clock_mentions o) (side_mentions equation) first.0 sides.0, cut_own i (side_cuts equation) sides.1))
      (nodes_own (before ++ equation ∷ []) rest h.1 (λ node c. within node (Contains-append_right (cuts ++ own ∷ after) more node c)))

pub model_own : (model : FlatModel) → IsModel model → Each (λ node. Each (IsOwn model.names (IsPlaced (nodes_of model))) node.mentions) (nodes_of model)
model_own model is =
    nodes_own model.names model.clauses (nodes_of model)
    (each_of_all (λ k. clock_holds_no_input model.names k ≡ true) model.clauses is.arguments.clauses)
    [] model.equations
    (each_of_all (HasOwnArguments model.names) model.equations is.arguments.equations) (λ node c. c)

side_cut_from : (clauses : List ClockExpr) (before equations : List Equation) (k : ℕ) (equation : Equation) → slice_get equations k ≡ Some equation
    → (cut : Cut) → Contains (side_cuts equation) cut → Contains (nodes_from clauses before equations) (cut_node (length before + k) cut)
side_cut_from clauses before [] k equation e cut c = absurd cc
side_cut_from clauses before (first ∷ rest) zero equation e cut c =
    let o = leading_clock clauses before (clause_of first) in
    let i = length before in
    let cuts = cut_nodes i (clock_cuts o) in
    let own = own_node o i first in
    let after = cut_nodes i (side_cuts first) in
    let same : first ≡ equation = cc in
    let z : length before ≡ length before + 0 = omega arith in
    subst (λ n. Contains (nodes_from clauses before (first ∷ rest)) (cut_node n cut)) z
    (Contains-append_left (cuts ++ own ∷ after) (nodes_from clauses (before ++ first ∷ []) rest) (cut_node i cut)
    (Contains-append_right cuts (own ∷ after) (cut_node i cut) (there own after (cut_node i cut) (cut_in i (side_cuts first) cut (subst (λ q. Contains (side_cuts q) cut) (sym same) c)))))
side_cut_from clauses before (first ∷ rest) (suc k) equation e cut c =
    let nodes = nodes_of_equation (leading_clock clauses before (clause_of first)) (length before) first in
    let size : length (before ++ first ∷ []) ≡ length before + 1 = length-append before (first ∷ []) in
    let number : length (before ++ first ∷ []) + k ≡ length before + suc k = omega (arith, size) in
    subst (λ n. Contains (nodes_from clauses before (first ∷ rest)) (cut_node n cut)) number
    (Contains-append_right nodes (nodes_from clauses (before ++ first ∷ []) rest) (cut_node (length (before ++ first ∷ []) + k) cut) (side_cut_from clauses (before ++ first ∷ []) rest k equation e cut c))

-- what is cut from a side of equation i is a node
pub side_cut : (model : FlatModel) (i : ℕ) (equation : Equation) → slice_get model.equations i ≡ Some equation → (cut : Cut) → Contains (side_cuts equation) cut → Contains (nodes_of model) (cut_node i cut)
side_cut model i equation e cut c = subst (λ n. Contains (nodes_of model) (cut_node n cut)) (let z : 0 + i ≡ i = omega arith in z) (side_cut_from model.clauses [] model.equations i equation e cut c)
