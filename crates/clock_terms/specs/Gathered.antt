-- The lists of terms, as mentions add to them.
use Rattle.std.specs.Prelude.{ℕ, ◌+◌, ◌<◌, Bool, true, false, if◌then◌else◌, List, [], ◌∷◌, ◌++◌, length, Option, Some, None, slice_get, All}
use Rattle.flat_model.specs.declared.equation.Equation.{Equation}
use Rattle.flat_model.specs.declared.model.FlatModel.{FlatModel}
use Rattle.flat_model.specs.declared.model.NameKind.{NameKind}
use Rattle.flat_model.specs.declared.model.NameKind.TheVariants as kind
use Rattle.clock_terms.specs.declared.data.Cause.{Cause}
use Rattle.clock_terms.specs.declared.data.NodeOf.{NodeOf}
use Rattle.clock_terms.specs.Nodes.{Node, nodes_of, is_clause, cut_node}
use Rattle.flat_model.specs.Models.{clause_of}
use Rattle.flat_model.specs.declared.clock.Conversion.{Conversion}
use Rattle.flat_model.specs.declared.clock.Conversion.TheVariants.{NoClock}
use Rattle.flat_model.specs.declared.model.FlatName.{FlatName}
use Rattle.clock_terms.specs.declared.data.Terms.{Terms}
use Rattle.clock_terms.specs.declared.walk.At.{At}
use Rattle.clock_terms.specs.Mentions.{Mention, Cut, Stands, Ticks, Samples, Holds, Converts, Gives}

abbrev pub with_join : ℕ → ℕ → Terms → Terms
with_join a b t = record t { joins = t.joins ++ record { a = a; b = b } ∷ [] }

abbrev pub with_clocked : ℕ → Terms → Terms
with_clocked a t = record t { clocked = t.clocked ++ a ∷ [] }

abbrev pub with_unclocked : ℕ → Terms → Terms
with_unclocked a t = record t { unclocked = t.unclocked ++ a ∷ [] }

abbrev pub with_hold : ℕ → Terms → Terms
with_hold a t = record t { holds = t.holds ++ a ∷ [] }

abbrev pub with_conversion : ℕ → ℕ → Terms → Terms
with_conversion a b t = record t { conversions = t.conversions ++ record { a = a; b = b } ∷ [] }

abbrev pub with_relation : At → Conversion → ℕ → Terms → Terms
with_relation at NoClock x t = t
with_relation at by x t = record t { relations = t.relations ++ record { result = at.node; argument = x; equation = at.equation; by = by } ∷ [] }

-- an input says that its node is unclocked; any other name joins it
abbrev pub with_name : At → ℕ → Option FlatName → Terms → Terms
with_name at x None t = t
with_name at x (Some name) t = by_input name.input
  where
    by_input : Bool → Terms
    by_input true = with_unclocked at.node t
    by_input false = with_join x at.node t

-- the terms with what one mention adds
abbrev pub with_mention : List FlatName → At → Terms → Mention → Terms
with_mention names at t (Stands x) = with_name at x (slice_get names x) t
with_mention names at t Ticks = with_clocked at.node t
with_mention names at t Samples = with_clocked at.node t
with_mention names at t (Holds x) = with_clocked x (with_unclocked at.node (with_hold at.node t))
with_mention names at t (Converts by x) = with_relation at by x (with_conversion at.node x (with_clocked x (with_clocked at.node t)))
with_mention names at t (Gives clock) = record t { constructors = t.constructors ++ record { node = at.node; equation = at.equation; clock = clock } ∷ [] }

-- and with what several add, in their order
abbrev pub with_mentions : List FlatName → At → Terms → List Mention → Terms
with_mentions names at t [] = t
with_mentions names at t (mention ∷ mentions) = with_mentions names at (with_mention names at t mention) mentions

-- the first of the nodes, numbered from n on, that is an equation of the clause
abbrev pub lead_from : ℕ → List NodeOf → ℕ → Option ℕ
lead_from n [] c = None
lead_from n (node ∷ nodes) c = if is_clause node.clause c then Some n else lead_from (n + 1) nodes c

-- an equation of a clause is clocked, and it is joined to the first one of the clause
abbrev pub with_lead : Option ℕ → ℕ → Terms → Terms
with_lead None n t = t
with_lead (Some lead) n t = with_join lead n t

abbrev pub with_clause : ℕ → ℕ → Option ℕ → Terms → Terms
with_clause first n None t = t
with_clause first n (Some c) t = with_clocked n (with_lead (lead_from first t.nodes c) n t)

-- a part that is cut is unclocked
abbrev pub with_cause : ℕ → Option Cause → Terms → Terms
with_cause n None t = t
with_cause n (Some cause) t = with_unclocked n t

abbrev pub with_entry : ℕ → Option Cause → Option ℕ → Terms → Terms
with_entry i cause clause t = record t { nodes = t.nodes ++ record { equation = i; cause = cause; clause = clause } ∷ [] }

-- the number of the next node
abbrev pub next_number : List FlatName → Terms → ℕ
next_number names t = length names + length t.nodes

-- the terms with what a node adds before its mentions
abbrev pub with_place : List FlatName → ℕ → Option Cause → Option ℕ → Terms → Terms
with_place names i cause clause t = with_entry i cause clause (with_cause (next_number names t) cause (with_clause (length names) (next_number names t) clause t))

-- the terms with what a node adds
abbrev pub with_node : List FlatName → Terms → Node → Terms
with_node names t node = with_mentions names (record { node = next_number names t; equation = node.equation }) (with_place names node.equation node.cause node.clause t) node.mentions

abbrev pub with_nodes : List FlatName → Terms → List Node → Terms
with_nodes names t [] = t
with_nodes names t (node ∷ nodes) = with_nodes names (with_node names t node) nodes

-- the names of clocks are clocked
abbrev pub clock_names : ℕ → List FlatName → List ℕ
clock_names x [] = []
clock_names x (name ∷ names) = marked name.kind (clock_names (x + 1) names)
  where
    marked : NameKind → List ℕ → List ℕ
    marked kind.Clock rest = x ∷ rest
    marked _ rest = rest

abbrev pub start_of : List FlatName → Terms
start_of names = record { nodes = []; joins = []; clocked = clock_names 0 names; unclocked = []; constructors = []; relations = []; holds = []; conversions = [] }

-- what the nodes of a model say, in their order
abbrev pub terms_of : FlatModel → Terms
terms_of model = with_nodes model.names (start_of model.names) (nodes_of model)

-- a clause, where there is one, is one of so many
abbrev pub IsClauseBelow : ℕ → Option ℕ → Type 0
IsClauseBelow count None = Unit {0}
IsClauseBelow count (Some c) = c < count

-- the clause of each equation is one of so many
abbrev pub HaveClauses : ℕ → List Equation → Type 0
HaveClauses count equations = All (λ equation. IsClauseBelow count (clause_of equation)) equations

-- the terms with what several parts that are cut add
abbrev pub with_cuts : List FlatName → ℕ → Terms → List Cut → Terms
with_cuts names i t [] = t
with_cuts names i t (part ∷ parts) = with_cuts names i (with_node names t (cut_node i part)) parts
