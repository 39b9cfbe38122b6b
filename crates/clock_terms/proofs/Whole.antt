-- The terms of a model say what its nodes say, and all that do say the same.
use Rattle.std.proofs.Common.{◌≡◌, ap, subst, ◌∙◌, sym, List, [], ◌∷◌, ◌++◌, map, ◌↔◌}
use Rattle.std.proofs.lemmas.List.{append-nil, append_assoc}
use Rattle.flat_model.specs.declared.model.FlatModel.{FlatModel}
use Rattle.flat_model.specs.declared.model.FlatName.{FlatName}
use Rattle.clock_terms.specs.declared.data.Terms.{Terms}
use Rattle.clock_terms.specs.Nodes.{Node, nodes_of, entry}
use Rattle.clock_terms.specs.Gathered.{terms_of, with_node, with_nodes, start_of}
use Rattle.clock_terms.specs.Said.{AreTermsOf, SayTheSame}
use Rattle.clock_terms.proofs.Leading.{nodes_node}
use Rattle.clock_terms.proofs.Joining.{joined_class, class_joined}
use Rattle.clock_terms.proofs.Listing.{constructors_are, relations_are}
use Rattle.clock_terms.proofs.Converting.{holds_hold, hold_holds, conversions_converted, converted_conversions}
use Rattle.clock_terms.proofs.Marking.{clocked_marked, marked_clocked, unclocked_marked, marked_unclocked, joins_below}

nodes_more : (names : List FlatName) (t : Terms) (nodes : List Node) → (with_nodes names t nodes).nodes ≡ t.nodes ++ map entry nodes
nodes_more names t [] = sym (append-nil t.nodes)
nodes_more names t (node ∷ nodes) = nodes_more names (with_node names t node) nodes ∙ ap (λ ns. ns ++ map entry nodes) (nodes_node names t node) ∙ append_assoc t.nodes (entry node ∷ []) (map entry nodes)

pub nodes_are : (model : FlatModel) → (terms_of model).nodes ≡ map entry (nodes_of model)
nodes_are model = nodes_more model.names (start_of model.names) (nodes_of model)

pub terms_said : (model : FlatModel) (terms : Terms) → terms ≡ terms_of model → AreTermsOf model terms
terms_said model terms e = subst (AreTermsOf model) (sym e) (record {
  nodes = nodes_are model;
  below = joins_below model;
  joins = λ a b. (joined_class model a b, class_joined model a b);
  clocked = λ a. (clocked_marked model a, marked_clocked model a);
  unclocked = λ a. (unclocked_marked model a, marked_unclocked model a);
  constructors = constructors_are model;
  relations = relations_are model;
  holds = λ a. (holds_hold model a, hold_holds model a);
  conversions = λ a x. (conversions_converted model a x, converted_conversions model a x);
})

both : {A B C : Type 0} → A ↔ B → C ↔ B → A ↔ C
both f g = (λ a. g.1 (f.0 a), λ c. f.1 (g.0 c))

-- all terms of a model say the same
pub terms_once : (model : FlatModel) (s t : Terms) → AreTermsOf model s → AreTermsOf model t → SayTheSame s t
terms_once model s t f g = record {
  nodes = f.nodes ∙ sym g.nodes;
  joins = λ a b. both (f.joins a b) (g.joins a b);
  clocked = λ a. both (f.clocked a) (g.clocked a);
  unclocked = λ a. both (f.unclocked a) (g.unclocked a);
  constructors = f.constructors ∙ sym g.constructors;
  relations = f.relations ∙ sym g.relations;
  holds = λ a. both (f.holds a) (g.holds a);
  conversions = λ pair. both (f.conversions pair.a pair.b) (g.conversions pair.a pair.b);
}
