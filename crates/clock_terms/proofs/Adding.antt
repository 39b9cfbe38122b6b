-- The lists of terms are what the nodes of the model add.
use Rattle.std.proofs.Common.{◌≡◌, refl, ap, ap₂, Bool, true, false, length, ◌∙◌, sym, ℕ, List, [], ◌∷◌, ◌++◌, Option, Some, None, flat_map, slice_get}
use Rattle.std.proofs.lemmas.List.{append_assoc, append-nil}
use Rattle.flat_model.specs.declared.model.FlatName.{FlatName}
use Rattle.flat_model.specs.declared.model.FlatModel.{FlatModel}
use Rattle.flat_model.specs.declared.clock.Conversion.{Conversion}
use Rattle.flat_model.specs.declared.clock.Conversion.TheVariants.{Sub, Super, Shift, Back, NoClock}
use Rattle.clock_terms.specs.declared.data.Terms.{Terms}
use Rattle.clock_terms.specs.declared.data.NodeOf.{NodeOf}
use Rattle.clock_terms.specs.declared.data.Cause.{Cause}
use Rattle.clock_terms.specs.declared.walk.At.{At}
use Rattle.clock_terms.specs.Mentions.{Mention, Stands, Ticks, Samples, Holds, Converts, Gives}
use Rattle.clock_terms.specs.Nodes.{Node, nodes_of, entry}
use Rattle.clock_terms.specs.Gathered.{with_mention, with_mentions, with_name, with_relation, with_cause, with_clause, with_lead, with_place, with_node, with_nodes, next_number, lead_from, start_of, terms_of, clock_names}
use Rattle.clock_terms.specs.private.Added.{adds, clocked_by, clause_marks, clocked_step, input_marks, name_marks, unclocked_by, cause_marks, unclocked_step, own_joins, name_joins, joins_by, lead_joins, clause_joins, joins_step}
use Rattle.clock_terms.proofs.Leading.{nodes_node}

module _ {X : Type 0} (list : Terms → List X) (names : List FlatName) where
  -- mentions in turn
  pub by_mentions : (at : At) (by : Mention → List X) → ((t : Terms) (m : Mention) → list (with_mention names at t m) ≡ list t ++ by m)
      → (t : Terms) (ms : List Mention) → list (with_mentions names at t ms) ≡ list t ++ flat_map by ms
  by_mentions at by one t [] = sym (append-nil (list t))
  by_mentions at by one t (m ∷ ms) = by_mentions at by one (with_mention names at t m) ms ∙ ap (λ xs. xs ++ flat_map by ms) (one t m) ∙ append_assoc (list t) (by m) (flat_map by ms)

  -- nodes in turn
  pub by_nodes : (step : List NodeOf → Node → List X) → ((t : Terms) (node : Node) → list (with_node names t node) ≡ list t ++ step t.nodes node)
      → (t : Terms) (nodes : List Node) → list (with_nodes names t nodes) ≡ list t ++ adds step t.nodes nodes
  by_nodes step one t [] = sym (append-nil (list t))
  by_nodes step one t (node ∷ nodes) =
      by_nodes step one (with_node names t node) nodes
      ∙ ap₂ (λ xs before. xs ++ adds step before nodes) (one t node) (nodes_node names t node)
      ∙ append_assoc (list t) (step t.nodes node) (adds step (t.nodes ++ entry node ∷ []) nodes)

-- ---- clocked

clocked_name : (at : At) (x : ℕ) (name : Option FlatName) (t : Terms) → (with_name at x name t).clocked ≡ t.clocked
clocked_name at x None t = refl
clocked_name at x (Some name) t = by_input name.input
  where
    by_input : (input : Bool) → (with_name at x (Some (record name { input = input })) t).clocked ≡ t.clocked
    by_input true = refl
    by_input false = refl

clocked_relation : (at : At) (by : Conversion) (x : ℕ) (t : Terms) → (with_relation at by x t).clocked ≡ t.clocked
clocked_relation at NoClock x t = refl
clocked_relation at (Sub f) x t = refl
clocked_relation at (Super f) x t = refl
clocked_relation at (Shift k r) x t = refl
clocked_relation at (Back k r) x t = refl

clocked_mention : (names : List FlatName) (at : At) (t : Terms) (m : Mention) → (with_mention names at t m).clocked ≡ t.clocked ++ clocked_by at.node m
clocked_mention names at t (Stands x) = clocked_name at x (slice_get names x) t ∙ sym (append-nil t.clocked)
clocked_mention names at t Ticks = refl
clocked_mention names at t Samples = refl
clocked_mention names at t (Holds x) = refl
clocked_mention names at t (Converts by x) = clocked_relation at by x _ ∙ append_assoc t.clocked (at.node ∷ []) (x ∷ [])
clocked_mention names at t (Gives clock) = sym (append-nil t.clocked)

clocked_place : (names : List FlatName) (i : ℕ) (cause : Option Cause) (clause : Option ℕ) (t : Terms) → (with_place names i cause clause t).clocked ≡ t.clocked ++ clause_marks (next_number names t) clause
clocked_place names i cause clause t = by_cause cause ∙ by_clause clause
  where
    by_cause : (cause : Option Cause) → (with_cause (next_number names t) cause (with_clause (length names) (next_number names t) clause t)).clocked ≡ (with_clause (length names) (next_number names t) clause t).clocked
    by_cause None = refl
    by_cause (Some c) = refl

    by_clause : (clause : Option ℕ) → (with_clause (length names) (next_number names t) clause t).clocked ≡ t.clocked ++ clause_marks (next_number names t) clause
    by_clause None = sym (append-nil t.clocked)
    by_clause (Some c) = by_lead (lead_from (length names) t.nodes c)
      where
        by_lead : (lead : Option ℕ) → (with_lead lead (next_number names t) t).clocked ++ next_number names t ∷ [] ≡ t.clocked ++ next_number names t ∷ []
        by_lead None = refl
        by_lead (Some l) = refl

clocked_node : (names : List FlatName) (t : Terms) (node : Node) → (with_node names t node).clocked ≡ t.clocked ++ clocked_step names t.nodes node
clocked_node names t node =
    by_mentions (λ u. u.clocked) names (record { node = next_number names t; equation = node.equation }) (clocked_by (next_number names t)) (λ u m. clocked_mention names (record { node = next_number names t; equation = node.equation }) u m) (with_place names node.equation node.cause node.clause t) node.mentions
    ∙ ap (λ xs. xs ++ flat_map (clocked_by (next_number names t)) node.mentions) (clocked_place names node.equation node.cause node.clause t)
    ∙ append_assoc t.clocked (clause_marks (next_number names t) node.clause) (flat_map (clocked_by (next_number names t)) node.mentions)

pub clocked_are : (model : FlatModel) → (terms_of model).clocked ≡ clock_names 0 model.names ++ adds (clocked_step model.names) [] (nodes_of model)
clocked_are model = by_nodes (λ u. u.clocked) model.names (clocked_step model.names) (clocked_node model.names) (start_of model.names) (nodes_of model)

-- ---- unclocked

unclocked_name : (at : At) (x : ℕ) (name : Option FlatName) (t : Terms) → (with_name at x name t).unclocked ≡ t.unclocked ++ name_marks at.node name
unclocked_name at x None t = sym (append-nil t.unclocked)
unclocked_name at x (Some name) t = by_input name.input
  where
    by_input : (input : Bool) → (with_name at x (Some (record name { input = input })) t).unclocked ≡ t.unclocked ++ input_marks at.node input
    by_input true = refl
    by_input false = sym (append-nil t.unclocked)

unclocked_relation : (at : At) (by : Conversion) (x : ℕ) (t : Terms) → (with_relation at by x t).unclocked ≡ t.unclocked
unclocked_relation at NoClock x t = refl
unclocked_relation at (Sub f) x t = refl
unclocked_relation at (Super f) x t = refl
unclocked_relation at (Shift k r) x t = refl
unclocked_relation at (Back k r) x t = refl

unclocked_mention : (names : List FlatName) (at : At) (t : Terms) (m : Mention) → (with_mention names at t m).unclocked ≡ t.unclocked ++ unclocked_by names at.node m
unclocked_mention names at t (Stands x) = unclocked_name at x (slice_get names x) t
unclocked_mention names at t Ticks = sym (append-nil t.unclocked)
unclocked_mention names at t Samples = sym (append-nil t.unclocked)
unclocked_mention names at t (Holds x) = refl
unclocked_mention names at t (Converts by x) = unclocked_relation at by x _ ∙ sym (append-nil t.unclocked)
unclocked_mention names at t (Gives clock) = sym (append-nil t.unclocked)

unclocked_place : (names : List FlatName) (i : ℕ) (cause : Option Cause) (clause : Option ℕ) (t : Terms) → (with_place names i cause clause t).unclocked ≡ t.unclocked ++ cause_marks (next_number names t) cause
unclocked_place names i cause clause t = by_cause cause
  where
    by_clause : (clause : Option ℕ) → (with_clause (length names) (next_number names t) clause t).unclocked ≡ t.unclocked
    by_clause None = refl
    by_clause (Some c) = by_lead (lead_from (length names) t.nodes c)
      where
        by_lead : (lead : Option ℕ) → (with_lead lead (next_number names t) t).unclocked ≡ t.unclocked
        by_lead None = refl
        by_lead (Some l) = refl

    by_cause : (cause : Option Cause) → (with_cause (next_number names t) cause (with_clause (length names) (next_number names t) clause t)).unclocked ≡ t.unclocked ++ cause_marks (next_number names t) cause
    by_cause None = by_clause clause ∙ sym (append-nil t.unclocked)
    by_cause (Some c) = ap (λ xs. xs ++ next_number names t ∷ []) (by_clause clause)

unclocked_node : (names : List FlatName) (t : Terms) (node : Node) → (with_node names t node).unclocked ≡ t.unclocked ++ unclocked_step names t.nodes node
unclocked_node names t node =
    by_mentions (λ u. u.unclocked) names (record { node = next_number names t; equation = node.equation }) (unclocked_by names (next_number names t)) (λ u m. unclocked_mention names (record { node = next_number names t; equation = node.equation }) u m) (with_place names node.equation node.cause node.clause t) node.mentions
    ∙ ap (λ xs. xs ++ flat_map (unclocked_by names (next_number names t)) node.mentions) (unclocked_place names node.equation node.cause node.clause t)
    ∙ append_assoc t.unclocked (cause_marks (next_number names t) node.cause) (flat_map (unclocked_by names (next_number names t)) node.mentions)

pub unclocked_are : (model : FlatModel) → (terms_of model).unclocked ≡ adds (unclocked_step model.names) [] (nodes_of model)
unclocked_are model = by_nodes (λ u. u.unclocked) model.names (unclocked_step model.names) (unclocked_node model.names) (start_of model.names) (nodes_of model)

-- ---- joins

joins_name : (at : At) (x : ℕ) (name : Option FlatName) (t : Terms) → (with_name at x name t).joins ≡ t.joins ++ name_joins x at.node name
joins_name at x None t = sym (append-nil t.joins)
joins_name at x (Some name) t = by_input name.input
  where
    by_input : (input : Bool) → (with_name at x (Some (record name { input = input })) t).joins ≡ t.joins ++ own_joins x at.node input
    by_input true = sym (append-nil t.joins)
    by_input false = refl

joins_relation : (at : At) (by : Conversion) (x : ℕ) (t : Terms) → (with_relation at by x t).joins ≡ t.joins
joins_relation at NoClock x t = refl
joins_relation at (Sub f) x t = refl
joins_relation at (Super f) x t = refl
joins_relation at (Shift k r) x t = refl
joins_relation at (Back k r) x t = refl

joins_mention : (names : List FlatName) (at : At) (t : Terms) (m : Mention) → (with_mention names at t m).joins ≡ t.joins ++ joins_by names at.node m
joins_mention names at t (Stands x) = joins_name at x (slice_get names x) t
joins_mention names at t Ticks = sym (append-nil t.joins)
joins_mention names at t Samples = sym (append-nil t.joins)
joins_mention names at t (Holds x) = sym (append-nil t.joins)
joins_mention names at t (Converts by x) = joins_relation at by x _ ∙ sym (append-nil t.joins)
joins_mention names at t (Gives clock) = sym (append-nil t.joins)

joins_place : (names : List FlatName) (i : ℕ) (cause : Option Cause) (clause : Option ℕ) (t : Terms) → (with_place names i cause clause t).joins ≡ t.joins ++ clause_joins (length names) t.nodes (next_number names t) clause
joins_place names i cause clause t = by_cause cause ∙ by_clause clause
  where
    by_cause : (cause : Option Cause) → (with_cause (next_number names t) cause (with_clause (length names) (next_number names t) clause t)).joins ≡ (with_clause (length names) (next_number names t) clause t).joins
    by_cause None = refl
    by_cause (Some c) = refl

    by_clause : (clause : Option ℕ) → (with_clause (length names) (next_number names t) clause t).joins ≡ t.joins ++ clause_joins (length names) t.nodes (next_number names t) clause
    by_clause None = sym (append-nil t.joins)
    by_clause (Some c) = by_lead (lead_from (length names) t.nodes c)
      where
        by_lead : (lead : Option ℕ) → (with_lead lead (next_number names t) t).joins ≡ t.joins ++ lead_joins (next_number names t) lead
        by_lead None = sym (append-nil t.joins)
        by_lead (Some l) = refl

joins_node : (names : List FlatName) (t : Terms) (node : Node) → (with_node names t node).joins ≡ t.joins ++ joins_step names t.nodes node
joins_node names t node =
    by_mentions (λ u. u.joins) names (record { node = next_number names t; equation = node.equation }) (joins_by names (next_number names t)) (λ u m. joins_mention names (record { node = next_number names t; equation = node.equation }) u m) (with_place names node.equation node.cause node.clause t) node.mentions
    ∙ ap (λ xs. xs ++ flat_map (joins_by names (next_number names t)) node.mentions) (joins_place names node.equation node.cause node.clause t)
    ∙ append_assoc t.joins (clause_joins (length names) t.nodes (next_number names t) node.clause) (flat_map (joins_by names (next_number names t)) node.mentions)

pub joins_are : (model : FlatModel) → (terms_of model).joins ≡ adds (joins_step model.names) [] (nodes_of model)
joins_are model = by_nodes (λ u. u.joins) model.names (joins_step model.names) (joins_node model.names) (start_of model.names) (nodes_of model)
