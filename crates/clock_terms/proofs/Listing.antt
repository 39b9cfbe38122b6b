-- The lists of terms to which only mentions add are those of the nodes' mentions, in their order.
use Rattle.std.proofs.Common.{◌≡◌, refl, ap, ap₂, ◌∙◌, sym, ℕ, ◌+◌, Bool, true, false, List, [], ◌∷◌, ◌++◌, length, flat_map, Option, Some, None, slice_get, arith}
use Rattle.std.proofs.lemmas.List.{append-nil, append_assoc, length-append}
use Rattle.flat_model.specs.declared.model.FlatName.{FlatName}
use Rattle.flat_model.specs.declared.model.FlatModel.{FlatModel}
use Rattle.flat_model.specs.declared.clock.Conversion.{Conversion}
use Rattle.flat_model.specs.declared.clock.Conversion.TheVariants.{Sub, Super, Shift, Back, NoClock}
use Rattle.clock_terms.specs.declared.data.Terms.{Terms}
use Rattle.clock_terms.specs.declared.data.Cause.{Cause}
use Rattle.clock_terms.specs.declared.walk.At.{At}
use Rattle.clock_terms.specs.Mentions.{Mention, Stands, Ticks, Samples, Holds, Converts, Gives}
use Rattle.clock_terms.specs.Nodes.{Node, nodes_of, entry}
use Rattle.clock_terms.specs.Listed.{of_nodes, constructors_by, relation_by, relations_by, constructors_of, relations_of}
use Rattle.clock_terms.specs.Gathered.{with_join, with_clocked, with_unclocked, with_entry, with_mention, with_name, with_relation, with_cause, with_clause, with_lead, with_place, with_node, with_nodes, next_number, lead_from, start_of, terms_of}
use Rattle.clock_terms.specs.private.Added.{holds_by, conversions_by}
use Rattle.clock_terms.proofs.Leading.{nodes_node}
use Rattle.clock_terms.proofs.Adding.{by_mentions}

-- a list that joins, marks and entries of nodes leave as it is
module _ {X : Type 0} (list : Terms → List X)
    (clocked : (n : ℕ) (t : Terms) → list (with_clocked n t) ≡ list t)
    (unclocked : (n : ℕ) (t : Terms) → list (with_unclocked n t) ≡ list t)
    (joined : (a b : ℕ) (t : Terms) → list (with_join a b t) ≡ list t)
    (entered : (i : ℕ) (cause : Option Cause) (clause : Option ℕ) (t : Terms) → list (with_entry i cause clause t) ≡ list t) where
  pub name_same : (at : At) (x : ℕ) (name : Option FlatName) (t : Terms) → list (with_name at x name t) ≡ list t
  name_same at x None t = refl
  name_same at x (Some name) t = by_input name.input
    where
      by_input : (input : Bool) → list (with_name at x (Some (record name { input = input })) t) ≡ list t
      by_input true = unclocked at.node t
      by_input false = joined x at.node t

  lead_same : (lead : Option ℕ) (n : ℕ) (t : Terms) → list (with_lead lead n t) ≡ list t
  lead_same None n t = refl
  lead_same (Some lead) n t = joined lead n t

  clause_same : (first n : ℕ) (clause : Option ℕ) (t : Terms) → list (with_clause first n clause t) ≡ list t
  clause_same first n None t = refl
  clause_same first n (Some c) t = clocked n (with_lead (lead_from first t.nodes c) n t) ∙ lead_same (lead_from first t.nodes c) n t

  cause_same : (n : ℕ) (cause : Option Cause) (t : Terms) → list (with_cause n cause t) ≡ list t
  cause_same n None t = refl
  cause_same n (Some cause) t = unclocked n t

  place_same : (names : List FlatName) (i : ℕ) (cause : Option Cause) (clause : Option ℕ) (t : Terms) → list (with_place names i cause clause t) ≡ list t
  place_same names i cause clause t =
      entered i cause clause (with_cause (next_number names t) cause (with_clause (length names) (next_number names t) clause t))
      ∙ cause_same (next_number names t) cause (with_clause (length names) (next_number names t) clause t)
      ∙ clause_same (length names) (next_number names t) clause t

  module _ (names : List FlatName) (by : ℕ → ℕ → Mention → List X)
      (mention : (at : At) (t : Terms) (m : Mention) → list (with_mention names at t m) ≡ list t ++ by at.node at.equation m) where
    node_adds : (t : Terms) (node : Node) → list (with_node names t node) ≡ list t ++ flat_map (by (next_number names t) node.equation) node.mentions
    node_adds t node =
        by_mentions list names (record { node = next_number names t; equation = node.equation }) (by (next_number names t) node.equation) (mention (record { node = next_number names t; equation = node.equation })) (with_place names node.equation node.cause node.clause t) node.mentions
        ∙ ap (λ xs. xs ++ flat_map (by (next_number names t) node.equation) node.mentions) (place_same names node.equation node.cause node.clause t)

    number_more : (t : Terms) (node : Node) → next_number names (with_node names t node) ≡ next_number names t + 1
    number_more t node =
        let e = ap length (nodes_node names t node) in
        let size = length-append t.nodes (entry node ∷ []) in
        omega (arith, e, size)

    pub nodes_add : (t : Terms) (nodes : List Node) → list (with_nodes names t nodes) ≡ list t ++ of_nodes by (next_number names t) nodes
    nodes_add t [] = sym (append-nil (list t))
    nodes_add t (node ∷ nodes) =
        nodes_add (with_node names t node) nodes
        ∙ ap₂ (λ xs n. xs ++ of_nodes by n nodes) (node_adds t node) (number_more t node)
        ∙ append_assoc (list t) (flat_map (by (next_number names t) node.equation) node.mentions) (of_nodes by (next_number names t + 1) nodes)

-- no node is there at the start
first_number : (model : FlatModel) → next_number model.names (start_of model.names) ≡ length model.names
first_number model = omega arith

-- ---- constructors

constructors_name : (at : At) (x : ℕ) (name : Option FlatName) (t : Terms) → (with_name at x name t).constructors ≡ t.constructors
constructors_name = name_same (λ u. u.constructors) (λ n t. refl) (λ n t. refl) (λ a b t. refl) (λ i cause clause t. refl)

constructors_relation : (at : At) (by : Conversion) (x : ℕ) (t : Terms) → (with_relation at by x t).constructors ≡ t.constructors
constructors_relation at NoClock x t = refl
constructors_relation at (Sub f) x t = refl
constructors_relation at (Super f) x t = refl
constructors_relation at (Shift k r) x t = refl
constructors_relation at (Back k r) x t = refl

constructors_mention : (names : List FlatName) (at : At) (t : Terms) (m : Mention) → (with_mention names at t m).constructors ≡ t.constructors ++ constructors_by at.node at.equation m
constructors_mention names at t (Stands x) = constructors_name at x (slice_get names x) t ∙ sym (append-nil t.constructors)
constructors_mention names at t Ticks = sym (append-nil t.constructors)
constructors_mention names at t Samples = sym (append-nil t.constructors)
constructors_mention names at t (Holds x) = sym (append-nil t.constructors)
constructors_mention names at t (Converts by x) = constructors_relation at by x _ ∙ sym (append-nil t.constructors)
constructors_mention names at t (Gives clock) = refl

pub constructors_are : (model : FlatModel) → (terms_of model).constructors ≡ constructors_of model
constructors_are model =
    nodes_add (λ u. u.constructors) (λ n t. refl) (λ n t. refl) (λ a b t. refl) (λ i cause clause t. refl) model.names constructors_by (constructors_mention model.names) (start_of model.names) (nodes_of model)
    ∙ ap (λ n. of_nodes constructors_by n (nodes_of model)) (first_number model)

-- ---- relations

relations_name : (at : At) (x : ℕ) (name : Option FlatName) (t : Terms) → (with_name at x name t).relations ≡ t.relations
relations_name = name_same (λ u. u.relations) (λ n t. refl) (λ n t. refl) (λ a b t. refl) (λ i cause clause t. refl)

relations_conversion : (at : At) (by : Conversion) (x : ℕ) (t : Terms) → (with_relation at by x t).relations ≡ t.relations ++ relation_by at.node at.equation by x
relations_conversion at NoClock x t = sym (append-nil t.relations)
relations_conversion at (Sub f) x t = refl
relations_conversion at (Super f) x t = refl
relations_conversion at (Shift k r) x t = refl
relations_conversion at (Back k r) x t = refl

relations_mention : (names : List FlatName) (at : At) (t : Terms) (m : Mention) → (with_mention names at t m).relations ≡ t.relations ++ relations_by at.node at.equation m
relations_mention names at t (Stands x) = relations_name at x (slice_get names x) t ∙ sym (append-nil t.relations)
relations_mention names at t Ticks = sym (append-nil t.relations)
relations_mention names at t Samples = sym (append-nil t.relations)
relations_mention names at t (Holds x) = sym (append-nil t.relations)
relations_mention names at t (Converts by x) = relations_conversion at by x _
relations_mention names at t (Gives clock) = sym (append-nil t.relations)

pub relations_are : (model : FlatModel) → (terms_of model).relations ≡ relations_of model
relations_are model =
    nodes_add (λ u. u.relations) (λ n t. refl) (λ n t. refl) (λ a b t. refl) (λ i cause clause t. refl) model.names relations_by (relations_mention model.names) (start_of model.names) (nodes_of model)
    ∙ ap (λ n. of_nodes relations_by n (nodes_of model)) (first_number model)

-- ---- nodes with `hold`

holds_name : (at : At) (x : ℕ) (name : Option FlatName) (t : Terms) → (with_name at x name t).holds ≡ t.holds
holds_name = name_same (λ u. u.holds) (λ n t. refl) (λ n t. refl) (λ a b t. refl) (λ i cause clause t. refl)

holds_relation : (at : At) (by : Conversion) (x : ℕ) (t : Terms) → (with_relation at by x t).holds ≡ t.holds
holds_relation at NoClock x t = refl
holds_relation at (Sub f) x t = refl
holds_relation at (Super f) x t = refl
holds_relation at (Shift k r) x t = refl
holds_relation at (Back k r) x t = refl

holds_mention : (names : List FlatName) (at : At) (t : Terms) (m : Mention) → (with_mention names at t m).holds ≡ t.holds ++ holds_by at.node at.equation m
holds_mention names at t (Stands x) = holds_name at x (slice_get names x) t ∙ sym (append-nil t.holds)
holds_mention names at t Ticks = sym (append-nil t.holds)
holds_mention names at t Samples = sym (append-nil t.holds)
holds_mention names at t (Holds x) = refl
holds_mention names at t (Converts by x) = holds_relation at by x _ ∙ sym (append-nil t.holds)
holds_mention names at t (Gives clock) = sym (append-nil t.holds)

pub holds_are : (model : FlatModel) → (terms_of model).holds ≡ of_nodes holds_by (length model.names) (nodes_of model)
holds_are model =
    nodes_add (λ u. u.holds) (λ n t. refl) (λ n t. refl) (λ a b t. refl) (λ i cause clause t. refl) model.names holds_by (holds_mention model.names) (start_of model.names) (nodes_of model)
    ∙ ap (λ n. of_nodes holds_by n (nodes_of model)) (first_number model)

-- ---- conversions

conversions_name : (at : At) (x : ℕ) (name : Option FlatName) (t : Terms) → (with_name at x name t).conversions ≡ t.conversions
conversions_name = name_same (λ u. u.conversions) (λ n t. refl) (λ n t. refl) (λ a b t. refl) (λ i cause clause t. refl)

conversions_relation : (at : At) (by : Conversion) (x : ℕ) (t : Terms) → (with_relation at by x t).conversions ≡ t.conversions
conversions_relation at NoClock x t = refl
conversions_relation at (Sub f) x t = refl
conversions_relation at (Super f) x t = refl
conversions_relation at (Shift k r) x t = refl
conversions_relation at (Back k r) x t = refl

conversions_mention : (names : List FlatName) (at : At) (t : Terms) (m : Mention) → (with_mention names at t m).conversions ≡ t.conversions ++ conversions_by at.node at.equation m
conversions_mention names at t (Stands x) = conversions_name at x (slice_get names x) t ∙ sym (append-nil t.conversions)
conversions_mention names at t Ticks = sym (append-nil t.conversions)
conversions_mention names at t Samples = sym (append-nil t.conversions)
conversions_mention names at t (Holds x) = sym (append-nil t.conversions)
conversions_mention names at t (Converts by x) = conversions_relation at by x _
conversions_mention names at t (Gives clock) = sym (append-nil t.conversions)

pub conversions_are : (model : FlatModel) → (terms_of model).conversions ≡ of_nodes conversions_by (length model.names) (nodes_of model)
conversions_are model =
    nodes_add (λ u. u.conversions) (λ n t. refl) (λ n t. refl) (λ a b t. refl) (λ i cause clause t. refl) model.names conversions_by (conversions_mention model.names) (start_of model.names) (nodes_of model)
    ∙ ap (λ n. of_nodes conversions_by n (nodes_of model)) (first_number model)
