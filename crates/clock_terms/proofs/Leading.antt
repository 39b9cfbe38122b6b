-- Clauses and their first equations, while nodes are added.
use Rattle.std.proofs.Common.{Result, Ok, Err, OnOk, ◌≡◌, refl, ap, ap₂, subst, zero, suc, ◌+◌, ◌<◌, ◌==◌, ◌||◌, if◌then◌else◌, Bool, true, false, length, get_or, take, drop, arith, ◌∙◌, sym, ℕ, List, [], ◌∷◌, ◌++◌, Option, Some, None, slice_get, slice_index_or, slice_set, inl, inr}
use Rattle.std.proofs.lemmas.List.{drop_more, length-set, get_or-set_same, get_or-set_other}
use Rattle.std.proofs.lemmas.Bool.{cases_eq}
use Rattle.std.proofs.lemmas.Bool.Decides.{nat_tests}
use Rattle.std.specs.List.{list_any}
use Rattle.flat_model.specs.declared.model.FlatName.{FlatName}
use Rattle.flat_model.specs.declared.clock.Conversion.{Conversion}
use Rattle.flat_model.specs.declared.clock.Conversion.TheVariants.{Sub, Super, Shift, Back, NoClock}
use Rattle.flat_model.specs.declared.clock.ClockExpr.{ClockExpr}
use Rattle.flat_model.specs.declared.equation.Equation.{Equation}
use Rattle.clock_terms.specs.declared.data.Terms.{Terms}
use Rattle.clock_terms.specs.declared.data.NodeOf.{NodeOf}
use Rattle.clock_terms.specs.declared.data.Cause.{Cause}
use Rattle.clock_terms.specs.declared.walk.At.{At}
use Rattle.clock_terms.specs.Mentions.{Mention, Stands, Ticks, Samples, Holds, Converts, Gives, Cut, clock_mentions, clock_cuts}
use Rattle.clock_terms.specs.Nodes.{Node, is_clause, is_of_clause, leading_clock, side_mentions, side_cuts, cut_node, cut_nodes, own_node, nodes_of_equation, nodes_from}
use Rattle.flat_model.specs.Models.{clause_of}
use Rattle.clock_terms.specs.Gathered.{with_mention, with_mentions, with_name, with_relation, with_cause, with_clause, with_lead, with_place, with_node, with_nodes, with_cuts, next_number, lead_from, IsClauseBelow, clock_names}
use Rattle.clock_terms.specs.private.Leads.{lead_by, leads_with, clock_by, clock_at, has_lead, AreLeads, HaveBegun}
use Rattle.flat_model.specs.declared.model.NameKind.{NameKind}
use Rattle.flat_model.specs.declared.model.NameKind.TheVariants as kind

-- ---- the nodes of terms

abbrev nodes_by_name : (at : At) (x : ℕ) (name : Option FlatName) (t : Terms) → (with_name at x name t).nodes ≡ t.nodes
nodes_by_name at x None t = refl
nodes_by_name at x (Some name) t = by_input name.input
  where
    by_input : (input : Bool) → (with_name at x (Some (record name { input = input })) t).nodes ≡ t.nodes
    by_input true = refl
    by_input false = refl

nodes_by_relation : (at : At) (by : Conversion) (x : ℕ) (t : Terms) → (with_relation at by x t).nodes ≡ t.nodes
nodes_by_relation at NoClock x t = refl
nodes_by_relation at (Sub f) x t = refl
nodes_by_relation at (Super f) x t = refl
nodes_by_relation at (Shift k r) x t = refl
nodes_by_relation at (Back k r) x t = refl

nodes_mention : (names : List FlatName) (at : At) (t : Terms) (m : Mention) → (with_mention names at t m).nodes ≡ t.nodes
nodes_mention names at t (Stands x) = nodes_by_name at x (slice_get names x) t
nodes_mention names at t Ticks = refl
nodes_mention names at t Samples = refl
nodes_mention names at t (Holds x) = refl
nodes_mention names at t (Converts by x) = nodes_by_relation at by x _
nodes_mention names at t (Gives clock) = refl

pub nodes_mentions : (names : List FlatName) (at : At) (t : Terms) (ms : List Mention) → (with_mentions names at t ms).nodes ≡ t.nodes
nodes_mentions names at t [] = refl
nodes_mentions names at t (m ∷ ms) = nodes_mentions names at (with_mention names at t m) ms ∙ nodes_mention names at t m

pub nodes_node : (names : List FlatName) (t : Terms) (node : Node) → (with_node names t node).nodes ≡ t.nodes ++ record { equation = node.equation; cause = node.cause; clause = node.clause } ∷ []
nodes_node names t node = nodes_mentions names _ _ node.mentions ∙ ap (λ nodes. nodes ++ record { equation = node.equation; cause = node.cause; clause = node.clause } ∷ []) (by_cause node.cause ∙ by_clause node.clause)
  where
    by_clause : (clause : Option ℕ) → (with_clause (length names) (next_number names t) clause t).nodes ≡ t.nodes
    by_clause None = refl
    by_clause (Some c) = by_lead (lead_from (length names) t.nodes c)
      where
        by_lead : (lead : Option ℕ) → (with_lead lead (next_number names t) t).nodes ≡ t.nodes
        by_lead None = refl
        by_lead (Some l) = refl

    by_cause : (cause : Option Cause) → (with_cause (next_number names t) cause (with_clause (length names) (next_number names t) node.clause t)).nodes ≡ (with_clause (length names) (next_number names t) node.clause t).nodes
    by_cause None = refl
    by_cause (Some c) = refl

-- ---- the first node of a clause

lead_more : (n : ℕ) (nodes : List NodeOf) (c : ℕ) (node : NodeOf) → lead_from n (nodes ++ node ∷ []) c ≡ (if has_lead (lead_from n nodes c) then lead_from n nodes c else if is_clause node.clause c then Some (n + length nodes) else None)
lead_more n [] c node = ap (λ k. if is_clause node.clause c then Some k else None) (omega arith)
lead_more n (first ∷ nodes) c node = by_first (is_clause first.clause c) (lead_more (n + 1) nodes c node ∙ ap (λ k. if has_lead (lead_from (n + 1) nodes c) then lead_from (n + 1) nodes c else if is_clause node.clause c then Some k else None) (omega arith))
  where
    by_first : (test : Bool) → lead_from (n + 1) (nodes ++ node ∷ []) c ≡ (if has_lead (lead_from (n + 1) nodes c) then lead_from (n + 1) nodes c else if is_clause node.clause c then Some (n + length (first ∷ nodes)) else None)
        → (if test then Some n else lead_from (n + 1) (nodes ++ node ∷ []) c) ≡ (if has_lead (if test then Some n else lead_from (n + 1) nodes c) then (if test then Some n else lead_from (n + 1) nodes c) else if is_clause node.clause c then Some (n + length (first ∷ nodes)) else None)
    by_first true e = refl
    by_first false e = e

or_none : (o : Option ℕ) → (if has_lead o then o else None) ≡ o
or_none None = refl
or_none (Some x) = refl

or_this : (o : Option ℕ) (n : ℕ) → (if has_lead o then o else Some n) ≡ lead_by o n
or_this None n = refl
or_this (Some x) n = refl

same_number : (c : ℕ) → (c == c) ≡ true
same_number c = grind (arith, nat_tests)

other_number : (c d : ℕ) → (c ≡ d → ⊥) → (c == d) ≡ false
other_number c d ne = grind (arith, nat_tests, ne)

-- one node more
pub leads_more : (names : List FlatName) (nodes : List NodeOf) (leads : List (Option ℕ)) (i : ℕ) (cause : Option Cause) (clause : Option ℕ) → IsClauseBelow (length leads) clause → AreLeads names nodes leads
    → AreLeads names (nodes ++ record { equation = i; cause = cause; clause = clause } ∷ []) (leads_with leads (length names + length nodes) clause)
leads_more names nodes leads i cause None below h c within = h c within ∙ sym (lead_more (length names) nodes c _ ∙ or_none (lead_from (length names) nodes c))
leads_more names nodes leads i cause (Some d) below h c within =
    let n = length names + length nodes in
    let old = lead_from (length names) nodes c in
    let inside : c < length leads = omega (arith, within, length-set leads d (lead_by (slice_index_or leads d None) n)) in
    elim (cases_eq d c) [
      | inl same ↦
          let own : slice_index_or (slice_set leads d (lead_by (slice_index_or leads d None) n)) d None ≡ lead_by (slice_index_or leads d None) n = get_or-set_same leads d _ None below in
          subst (λ z. slice_index_or (slice_set leads d (lead_by (slice_index_or leads d None) n)) z None ≡ lead_by (slice_index_or leads z None) n) same own
          ∙ ap (λ o. lead_by o n) (h c inside)
          ∙ sym (lead_more (length names) nodes c _ ∙ ap (λ b. if has_lead old then old else if b then Some n else None) (subst (λ z. (d == z) ≡ true) same (same_number d)) ∙ or_this old n)
      | inr other ↦
          get_or-set_other leads d c _ None (λ e. other (sym e))
          ∙ h c inside
          ∙ sym (lead_more (length names) nodes c _ ∙ ap (λ b. if has_lead old then old else if b then Some n else None) (other_number d c other) ∙ or_none old)
    ]

-- parts that are cut leave the first nodes
pub leads_cuts : (names : List FlatName) (i : ℕ) (t : Terms) (cuts : List Cut) (leads : List (Option ℕ)) → AreLeads names t.nodes leads → AreLeads names (with_cuts names i t cuts).nodes leads
leads_cuts names i t [] leads h = h
leads_cuts names i t (part ∷ parts) leads h =
    leads_cuts names i (with_node names t (cut_node i part)) parts leads
    (subst (λ nodes. AreLeads names nodes leads) (sym (nodes_node names t (cut_node i part))) (leads_more names t.nodes leads i (Some part.cause) None tt h))

-- ---- clauses that have begun

any_more : (c : ℕ) (before : List Equation) (equation : Equation) → list_any (is_of_clause c) (before ++ equation ∷ []) ≡ (list_any (is_of_clause c) before || is_of_clause c equation)
any_more c [] equation = by_test (is_of_clause c equation)
  where
    by_test : (b : Bool) → (b || false) ≡ b
    by_test true = refl
    by_test false = refl
any_more c (first ∷ before) equation = ap (λ b. is_of_clause c first || b) (any_more c before equation) ∙ by_test (is_of_clause c first)
  where
    by_test : (b : Bool) → (b || (list_any (is_of_clause c) before || is_of_clause c equation)) ≡ ((b || list_any (is_of_clause c) before) || is_of_clause c equation)
    by_test true = refl
    by_test false = refl

pub begun_more : (before : List Equation) (equation : Equation) (leads : List (Option ℕ)) (n : ℕ) → IsClauseBelow (length leads) (clause_of equation) → HaveBegun before leads → HaveBegun (before ++ equation ∷ []) (leads_with leads n (clause_of equation))
begun_more before equation leads n below h c within = by_clause (clause_of equation) below within ∙ sym (any_more c before equation)
  where
    or_false : (b : Bool) → b ≡ (b || false)
    or_false true = refl
    or_false false = refl

    or_true : (b : Bool) → true ≡ (b || true)
    or_true true = refl
    or_true false = refl

    led : (o : Option ℕ) → has_lead (lead_by o n) ≡ true
    led None = refl
    led (Some x) = refl

    by_clause : (clause : Option ℕ) → IsClauseBelow (length leads) clause → c < length (leads_with leads n clause) → has_lead (slice_index_or (leads_with leads n clause) c None) ≡ (list_any (is_of_clause c) before || is_clause clause c)
    by_clause None inside less = h c less ∙ or_false (list_any (is_of_clause c) before)
    by_clause (Some d) inside less =
        let here : c < length leads = omega (arith, less, length-set leads d (lead_by (slice_index_or leads d None) n)) in
        elim (cases_eq d c) [
          | inl same ↦
              let own : has_lead (slice_index_or (slice_set leads d (lead_by (slice_index_or leads d None) n)) d None) ≡ true = ap has_lead (get_or-set_same leads d (lead_by (slice_index_or leads d None) n) None inside) ∙ led (slice_index_or leads d None) in
              subst (λ z. has_lead (slice_index_or (slice_set leads d (lead_by (slice_index_or leads d None) n)) z None) ≡ true) same own
              ∙ or_true (list_any (is_of_clause c) before)
              ∙ ap (λ b. list_any (is_of_clause c) before || b) (sym (subst (λ z. (d == z) ≡ true) same (same_number d)))
          | inr other ↦
              ap has_lead (get_or-set_other leads d c (lead_by (slice_index_or leads d None) n) None (λ e. other (sym e)))
              ∙ h c here
              ∙ or_false (list_any (is_of_clause c) before)
              ∙ ap (λ b. list_any (is_of_clause c) before || b) (sym (other_number d c other))
        ]

-- the clock of a clause without a node is that of a clause without an equation before
pub same_clock : (clauses : List ClockExpr) (before : List Equation) (leads : List (Option ℕ)) (clause : Option ℕ) → IsClauseBelow (length leads) clause → HaveBegun before leads → clock_at clauses leads clause ≡ leading_clock clauses before clause
same_clock clauses before leads None below h = refl
same_clock clauses before leads (Some c) below h = by_lead (slice_index_or leads c None) ∙ ap (λ b. if b then None else slice_get clauses c) (h c below)
  where
    by_lead : (o : Option ℕ) → clock_by o (slice_get clauses c) ≡ (if has_lead o then None else slice_get clauses c)
    by_lead None = refl
    by_lead (Some x) = refl

-- ---- an equation in parts

pub cuts_as_nodes : (names : List FlatName) (i : ℕ) (t : Terms) (cuts : List Cut) → with_nodes names t (cut_nodes i cuts) ≡ with_cuts names i t cuts
cuts_as_nodes names i t [] = refl
cuts_as_nodes names i t (part ∷ parts) = cuts_as_nodes names i (with_node names t (cut_node i part)) parts

pub with_nodes-append : (names : List FlatName) (t : Terms) (first second : List Node) → with_nodes names t (first ++ second) ≡ with_nodes names (with_nodes names t first) second
with_nodes-append names t [] second = refl
with_nodes-append names t (node ∷ nodes) second = with_nodes-append names (with_node names t node) nodes second

mentions_after : (names : List FlatName) (at : At) (t : Terms) (first second : List Mention) → with_mentions names at t (first ++ second) ≡ with_mentions names at (with_mentions names at t first) second
mentions_after names at t [] second = refl
mentions_after names at t (m ∷ ms) second = mentions_after names at (with_mention names at t m) ms second

pub of_equation : (names : List FlatName) (i : ℕ) (t t₁ t₂ t₃ t₄ t₅ : Terms) (at : At) (clock : Option ClockExpr) (equation : Equation)
    → t₁ ≡ with_cuts names i t (clock_cuts clock) → at.node ≡ next_number names t₁ → at.equation ≡ i
    → t₂ ≡ with_place names i None (clause_of equation) t₁ → t₃ ≡ with_mentions names at t₂ (clock_mentions clock) → t₄ ≡ with_mentions names at t₃ (side_mentions equation)
    → t₅ ≡ with_cuts names i t₄ (side_cuts equation)
    → t₅ ≡ with_nodes names t (nodes_of_equation clock i equation)
of_equation names i t t₁ t₂ t₃ t₄ t₅ at clock equation e₁ en ee e₂ e₃ e₄ e₅ =
    let here : at ≡ record { node = next_number names t₁; equation = i } = ap₂ (λ n k. record { node = n; equation = k }) en ee in
    let own : with_node names t₁ (own_node clock i equation) ≡ t₄ =
    mentions_after names (record { node = next_number names t₁; equation = i }) (with_place names i None (clause_of equation) t₁) (clock_mentions clock) (side_mentions equation)
    ∙ ap (λ u. with_mentions names (record { node = next_number names t₁; equation = i }) (with_mentions names (record { node = next_number names t₁; equation = i }) u (clock_mentions clock)) (side_mentions equation)) (sym e₂)
    ∙ ap (λ a. with_mentions names a (with_mentions names a t₂ (clock_mentions clock)) (side_mentions equation)) (sym here)
    ∙ ap (λ u. with_mentions names at u (side_mentions equation)) (sym e₃)
    ∙ sym e₄ in
    sym (
    with_nodes-append names t (cut_nodes i (clock_cuts clock)) (own_node clock i equation ∷ cut_nodes i (side_cuts equation))
    ∙ ap (λ u. with_nodes names u (own_node clock i equation ∷ cut_nodes i (side_cuts equation))) (cuts_as_nodes names i t (clock_cuts clock) ∙ sym e₁)
    ∙ ap (λ u. with_nodes names u (cut_nodes i (side_cuts equation))) own
    ∙ cuts_as_nodes names i t₄ (side_cuts equation)
    ∙ sym e₅)

-- an equation more
pub equation_more : (names : List FlatName) (clauses : List ClockExpr) (t u : Terms) (equations : List Equation) (i : ℕ) (equation : Equation) (clock : Option ClockExpr) (before : List Equation) → i < length equations → equation ≡ get_or equations i equation
    → length before ≡ i → clock ≡ leading_clock clauses before (clause_of equation) → u ≡ with_nodes names t (nodes_of_equation clock i equation)
    → with_nodes names u (nodes_from clauses (before ++ equation ∷ []) (drop (i + 1) equations)) ≡ with_nodes names t (nodes_from clauses before (drop i equations))
equation_more names clauses t u equations i equation clock before within is size e₁ e =
    let whole : drop i equations ≡ equation ∷ drop (i + 1) equations = drop_more equations i equation within ∙ ap (λ p. p ∷ drop (i + 1) equations) (sym is) in
    let rest = nodes_from clauses (before ++ equation ∷ []) (drop (i + 1) equations) in
    ap (λ v. with_nodes names v rest) (e ∙ ap₂ (λ o k. with_nodes names t (nodes_of_equation o k equation)) e₁ (sym size))
    ∙ sym (with_nodes-append names t (nodes_of_equation (leading_clock clauses before (clause_of equation)) (length before) equation) rest)
    ∙ ap (λ es. with_nodes names t (nodes_from clauses before es)) (sym whole)

pub clause_nodes : (first n : ℕ) (clause : Option ℕ) (t : Terms) → (with_clause first n clause t).nodes ≡ t.nodes
clause_nodes first n None t = refl
clause_nodes first n (Some c) t = by_lead (lead_from first t.nodes c)
  where
    by_lead : (lead : Option ℕ) → (with_lead lead n t).nodes ≡ t.nodes
    by_lead None = refl
    by_lead (Some l) = refl

pub own_leads : (names : List FlatName) (t u : Terms) (nodes : List NodeOf) (leads later : List (Option ℕ)) (n i : ℕ) (clause : Option ℕ) → IsClauseBelow (length leads) clause → AreLeads names t.nodes leads
    → n ≡ next_number names t → u ≡ with_clause (length names) n clause t → nodes ≡ u.nodes ++ record { equation = i; cause = None; clause = clause } ∷ [] → later ≡ leads_with leads n clause
    → AreLeads names nodes later
own_leads names t u nodes leads later n i clause below h en eu es el =
    let es' : nodes ≡ t.nodes ++ record { equation = i; cause = None; clause = clause } ∷ [] = es ∙ ap (λ v. v.nodes ++ record { equation = i; cause = None; clause = clause } ∷ []) eu ∙ ap (λ ns. ns ++ record { equation = i; cause = None; clause = clause } ∷ []) (clause_nodes (length names) n clause t) in
    let el' : later ≡ leads_with leads (length names + length t.nodes) clause = el ∙ ap (λ m. leads_with leads m clause) en in
    subst (λ l. AreLeads names nodes l) (sym el') (subst (λ ns. AreLeads names ns (leads_with leads (length names + length t.nodes) clause)) (sym es') (leads_more names t.nodes leads i None clause below h))

-- the parts that are cut, and what stands in an equation, leave its first nodes
pub equation_leads : (names : List FlatName) (i : ℕ) (t u v w : Terms) (at : At) (ms ns : List Mention) (cuts : List Cut) (leads : List (Option ℕ)) → AreLeads names t.nodes leads
    → u ≡ with_mentions names at t ms → v ≡ with_mentions names at u ns → w ≡ with_cuts names i v cuts → AreLeads names w.nodes leads
equation_leads names i t u v w at ms ns cuts leads h eu ev ew =
    let same : v.nodes ≡ t.nodes = ap (λ x. x.nodes) ev ∙ nodes_mentions names at u ns ∙ ap (λ x. x.nodes) eu ∙ nodes_mentions names at t ms in
    subst (λ x. AreLeads names x.nodes leads) (sym ew) (leads_cuts names i v cuts leads (subst (λ nodes. AreLeads names nodes leads) (sym same) h))

pub lead_leads : (names : List FlatName) (i : ℕ) (t u : Terms) (cuts : List Cut) (leads : List (Option ℕ)) → AreLeads names t.nodes leads → u ≡ with_cuts names i t cuts → AreLeads names u.nodes leads
lead_leads names i t u cuts leads h e = subst (λ x. AreLeads names x.nodes leads) (sym e) (leads_cuts names i t cuts leads h)

pub length_leads : (leads : List (Option ℕ)) (n : ℕ) (clause : Option ℕ) → length (leads_with leads n clause) ≡ length leads
length_leads leads n None = refl
length_leads leads n (Some c) = length-set leads c (lead_by (slice_index_or leads c None) n)

pub none_more : (leads : List (Option ℕ)) → ((c : ℕ) → slice_index_or leads c None ≡ None) → (c : ℕ) → slice_index_or (leads ++ None ∷ []) c None ≡ None
none_more [] h zero = refl
none_more [] h (suc c) = refl
none_more (x ∷ xs) h zero = h zero
none_more (x ∷ xs) h (suc c) = none_more xs (λ k. h (suc k)) c

-- names of clocks, one name more
pub clocks_more : (i : ℕ) (names : List FlatName) (name : FlatName) → i < length names → name ≡ get_or names i name → clock_names i (drop i names) ≡ clock_names i (name ∷ []) ++ clock_names (i + 1) (drop (i + 1) names)
clocks_more i names name within is =
    let whole : drop i names ≡ name ∷ drop (i + 1) names = drop_more names i name within ∙ ap (λ p. p ∷ drop (i + 1) names) (sym is) in
    ap (λ ns. clock_names i ns) whole ∙ by_kind name.kind
  where
    by_kind : (k : NameKind) → clock_names i ((record name { kind = k }) ∷ drop (i + 1) names) ≡ clock_names i ((record name { kind = k }) ∷ []) ++ clock_names (i + 1) (drop (i + 1) names)
    by_kind kind.Clock = refl
    by_kind kind.Integer = refl
    by_kind kind.Boolean = refl

pub on_ok : {A B : Type 0} (P Q : Type 0) (r : Result A B) → (P → Q) → OnOk r P → OnOk r Q
on_ok P Q (Ok a) f h = f h
on_ok P Q (Err e) f h = h

pub length_taken : (i : ℕ) (equations : List Equation) → i < length equations → length (take i equations) ≡ i
length_taken zero equations within = refl
length_taken (suc i) [] within = absurd (omega (arith, within))
length_taken (suc i) (x ∷ xs) within = ap suc (length_taken i xs (omega (arith, within)))
