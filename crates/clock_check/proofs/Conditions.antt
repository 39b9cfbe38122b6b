-- Event conditions in whose class a `hold` stands.
use Rattle.std.proofs.Common.{◌≡◌, ◌∙◌, refl, sym, ap, ℕ, ◌+◌, inr, length, get_or, Option, Some, None, option_map, slice_get, All, arith}
use Rattle.std.proofs.lemmas.Option.{slice_get-map, slice_get_within}
use Rattle.std.proofs.lemmas.List.{length-map}
use Rattle.std.proofs.lemmas.List.Elements.{Contains-get_or}
use Rattle.flat_model.specs.declared.model.FlatModel.{FlatModel}
use Rattle.clock_terms.specs.declared.data.Terms.{Terms}
use Rattle.clock_terms.specs.declared.data.Classes.{Classes}
use Rattle.clock_terms.specs.declared.data.NodeOf.{NodeOf}
use Rattle.clock_terms.specs.Classing.{AreClassesOf, class_in}
use Rattle.clock_terms.specs.Nodes.{Node, entry, nodes_of}
use Rattle.clock_terms.specs.Said.{AreTermsOf, IsNode, IsHolding}
use Rattle.clock_check.specs.Checking.{HoldsInCondition}
use Rattle.clock_check.specs.private.Holding.{IsInClass, IsHoldingAt}

none_some : {A : Type 0} {a : A} → None ≡ Some a → ⊥
none_some e = absurd cc

some_same : {A : Type 0} {a b : A} → Some a ≡ Some b → a ≡ b
some_same e = cc

mapped : (o : Option Node) (n : NodeOf) → option_map entry o ≡ Some n → (node : Node) × (o ≡ Some node) × (entry node ≡ n)
mapped None n e = absurd (none_some e)
mapped (Some node) n e = (node, refl, some_same e)

-- node j among the terms is that of the model
pub node_of : (model : FlatModel) (terms : Terms) → AreTermsOf model terms → (j : ℕ) (n : NodeOf) → slice_get terms.nodes j ≡ Some n → (node : Node) × IsNode model j node × (entry node ≡ n)
node_of model terms are j n e = mapped (slice_get (nodes_of model) j) n (sym (slice_get-map entry (nodes_of model) j) ∙ ap (λ l. slice_get l j) (sym are.nodes) ∙ e)

pub entry_of : (model : FlatModel) (terms : Terms) → AreTermsOf model terms → (j : ℕ) (node : Node) → IsNode model j node → slice_get terms.nodes j ≡ Some (entry node)
entry_of model terms are j node e = ap (λ l. slice_get l j) are.nodes ∙ slice_get-map entry (nodes_of model) j ∙ ap (λ o. option_map entry o) e

pub holding_to : (model : FlatModel) (terms : Terms) (classes : Classes) → AreTermsOf model terms → (e : ℕ) → IsHoldingAt classes.class_of terms.holds terms.nodes (length model.names) e → HoldsInCondition model classes e
holding_to model terms classes are e (j, h) =
    let (node, is_node, same) = node_of model terms are j h.node h.is_node in
    let (a, within, class) = h.hold in
    (j, node, is_node, ap (λ n. n.equation) same ∙ h.equation, ap (λ n. n.cause) same ∙ h.cause, (a, (are.holds a).0 within, class))

pub holding_from : (model : FlatModel) (terms : Terms) (classes : Classes) → AreTermsOf model terms → (e : ℕ) → HoldsInCondition model classes e → IsHoldingAt classes.class_of terms.holds terms.nodes (length model.names) e
holding_from model terms classes are e (j, node, is_node, equation, cause, (a, holding, class)) =
    (j, record { node = entry node; is_node = entry_of model terms are j node is_node; equation = equation; cause = cause; hold = (a, (are.holds a).1 holding, class) })

-- names and nodes have entries
pub node_count : (model : FlatModel) (terms : Terms) (classes : Classes) → AreTermsOf model terms → AreClassesOf model classes → length model.names + length terms.nodes ≡ length classes.class_of
node_count model terms classes are own =
    let size : length terms.nodes ≡ length (nodes_of model) = ap length are.nodes ∙ length-map (nodes_of model) entry in
    let all = own.lengths.class_of in omega (arith, size, all)

pub holds_below : (model : FlatModel) (terms : Terms) (classes : Classes) → AreTermsOf model terms → AreClassesOf model classes → All (IsInClass classes.class_of (length classes.clocked)) terms.holds
holds_below model terms classes are own k d lt = below (get_or terms.holds k d) ((are.holds (get_or terms.holds k d)).0 (Contains-get_or terms.holds k d lt))
  where
    below : (a : ℕ) → IsHolding model a → IsInClass classes.class_of (length classes.clocked) a
    below a (j, is, (node, is_node, mention)) =
        let within = slice_get_within (nodes_of model) j node is_node in
        let all = own.lengths.class_of in
        let at : a ≡ length model.names + j = is in
        let (first, found, joined, before) = own.numbered_by.found a (inr (j, is, within)) in
        let inside = slice_get_within own.firsts (class_in classes a) first found in
        let count = own.lengths.clocked in
        record { within = omega (arith, within, all, at); class = omega (arith, inside, count) }
