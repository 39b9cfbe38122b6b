-- The nodes of a model: its equations, and the parts that are cut from them. MLS 3.6, chapter 16, "Clock Partitioning", in this project's profile.
use Rattle.std.specs.Prelude.{ℕ, ◌==◌, Bool, false, if◌then◌else◌, List, [], ◌∷◌, ◌++◌, length, map, Option, Some, None, slice_get}
use Rattle.std.specs.List.{list_any}
use Rattle.flat_model.specs.declared.clock.ClockExpr.{ClockExpr}
use Rattle.flat_model.specs.declared.equation.Equation.{Equation}
use Rattle.flat_model.specs.declared.equation.Equation.TheVariants.{Valued, Clocks}
use Rattle.flat_model.specs.declared.model.FlatModel.{FlatModel}
use Rattle.flat_model.specs.Models.{clause_of}
use Rattle.clock_terms.specs.Mentions.{Mention, Cut, seen, seen_clock, clock_mentions, clock_cuts}
use Rattle.clock_terms.specs.declared.data.Cause.{Cause}
use Rattle.clock_terms.specs.declared.data.NodeOf.{NodeOf}

-- a node, of the equation with this number: the equation itself, with its clause, or a part that is cut from it, with the cause
pub record Node : Type 0 where
  pub equation : ℕ
  pub cause : Option Cause
  pub clause : Option ℕ
  pub mentions : List Mention

-- the clause is the one of this number
abbrev pub is_clause : Option ℕ → ℕ → Bool
is_clause None c = false
is_clause (Some d) c = d == c

abbrev pub is_of_clause : ℕ → Equation → Bool
is_of_clause c equation = is_clause (clause_of equation) c

-- the clock of a clause stands at the first equation of the clause, with these equations before
abbrev pub leading_clock : List ClockExpr → List Equation → Option ℕ → Option ClockExpr
leading_clock clauses before None = None
leading_clock clauses before (Some c) = if list_any (is_of_clause c) before then None else slice_get clauses c

-- what stands uncut on the sides of an equation
abbrev pub side_mentions : Equation → List Mention
side_mentions (Valued left right clause) = (seen left).mentions ++ (seen right).mentions
side_mentions (Clocks left right clause) = (seen_clock left).mentions ++ (seen_clock right).mentions

-- what is cut from them
abbrev pub side_cuts : Equation → List Cut
side_cuts (Valued left right clause) = (seen left).cuts ++ (seen right).cuts
side_cuts (Clocks left right clause) = (seen_clock left).cuts ++ (seen_clock right).cuts

-- a part that is cut from equation i
abbrev pub cut_node : ℕ → Cut → Node
cut_node i part = record { equation = i; cause = Some part.cause; clause = None; mentions = part.mentions }

abbrev pub cut_nodes : ℕ → List Cut → List Node
cut_nodes i cuts = map (cut_node i) cuts

-- equation i itself, with the clock of its clause where that stands at it
abbrev pub own_node : Option ClockExpr → ℕ → Equation → Node
own_node clock i equation = record { equation = i; cause = None; clause = clause_of equation; mentions = clock_mentions clock ++ side_mentions equation }

-- what is cut from the clock of a clause comes before the equation, other parts after
abbrev pub nodes_of_equation : Option ClockExpr → ℕ → Equation → List Node
nodes_of_equation clock i equation =
    cut_nodes i (clock_cuts clock)
    ++ own_node clock i equation
    ∷ cut_nodes i (side_cuts equation)

-- the nodes of equations, behind others
abbrev pub nodes_from : List ClockExpr → List Equation → List Equation → List Node
nodes_from clauses before [] = []
nodes_from clauses before (equation ∷ rest) =
    nodes_of_equation (leading_clock clauses before (clause_of equation)) (length before) equation ++ nodes_from clauses (before ++ equation ∷ []) rest

-- the nodes of a model, in their order: node j has the number j behind those of the names
abbrev pub nodes_of : FlatModel → List Node
nodes_of model = nodes_from model.clauses [] model.equations

-- a node without what stands in it
abbrev pub entry : Node → NodeOf
entry node = record { equation = node.equation; cause = node.cause; clause = node.clause }
