-- The first node of each clause, as it is kept while equations are gone over.
use Rattle.std.specs.Prelude.{◌≡◌, ℕ, ◌<◌, Bool, true, false, List, Option, Some, None, length, slice_get, slice_index_or, slice_set}
use Rattle.std.specs.List.{list_any}
use Rattle.flat_model.specs.declared.clock.ClockExpr.{ClockExpr}
use Rattle.flat_model.specs.declared.equation.Equation.{Equation}
use Rattle.flat_model.specs.declared.model.FlatName.{FlatName}
use Rattle.clock_terms.specs.declared.data.NodeOf.{NodeOf}
use Rattle.clock_terms.specs.Nodes.{is_of_clause}
use Rattle.clock_terms.specs.Gathered.{lead_from}

-- the list has the first node of each clause
abbrev pub AreLeads : List FlatName → List NodeOf → List (Option ℕ) → Type 0
AreLeads names nodes leads = (c : ℕ) → c < length leads → slice_index_or leads c None ≡ lead_from (length names) nodes c

-- the clock of a clause that has no node yet
abbrev pub clock_by : Option ℕ → Option ClockExpr → Option ClockExpr
clock_by None clock = clock
clock_by (Some lead) clock = None

abbrev pub clock_at : List ClockExpr → List (Option ℕ) → Option ℕ → Option ClockExpr
clock_at clauses leads None = None
clock_at clauses leads (Some c) = clock_by (slice_index_or leads c None) (slice_get clauses c)

-- a clause that has no node yet gets this one
abbrev pub lead_by : Option ℕ → ℕ → Option ℕ
lead_by None n = Some n
lead_by (Some lead) n = Some lead

abbrev pub leads_with : List (Option ℕ) → ℕ → Option ℕ → List (Option ℕ)
leads_with leads n None = leads
leads_with leads n (Some c) = slice_set leads c (lead_by (slice_index_or leads c None) n)

-- the clauses that have a node are those of the equations before
abbrev pub has_lead : Option ℕ → Bool
has_lead None = false
has_lead (Some lead) = true

abbrev pub HaveBegun : List Equation → List (Option ℕ) → Type 0
HaveBegun before leads = (c : ℕ) → c < length leads → has_lead (slice_index_or leads c None) ≡ list_any (is_of_clause c) before
