-- What each node adds to the lists of terms.
use Rattle.std.specs.Prelude.{ℕ, ◌+◌, Bool, true, false, List, [], ◌∷◌, ◌++◌, length, flat_map, Option, Some, None, slice_get}
use Rattle.flat_model.specs.declared.model.FlatName.{FlatName}
use Rattle.mo_connect.specs.declared.Pair.{Pair}
use Rattle.clock_terms.specs.declared.data.NodeOf.{NodeOf}
use Rattle.clock_terms.specs.declared.data.Cause.{Cause}
use Rattle.clock_terms.specs.Mentions.{Mention, Stands, Ticks, Samples, Holds, Converts}
use Rattle.clock_terms.specs.Nodes.{Node, entry}
use Rattle.clock_terms.specs.Gathered.{lead_from}

-- what nodes add in turn, where each may look at those before it
abbrev pub adds : {X : Type 0} → (List NodeOf → Node → List X) → List NodeOf → List Node → List X
adds step before [] = []
adds step before (node ∷ nodes) = step before node ++ adds step (before ++ entry node ∷ []) nodes

abbrev pub number_after : List FlatName → List NodeOf → ℕ
number_after names before = length names + length before

abbrev pub clocked_by : ℕ → Mention → List ℕ
clocked_by n Ticks = n ∷ []
clocked_by n Samples = n ∷ []
clocked_by n (Holds x) = x ∷ []
clocked_by n (Converts by x) = n ∷ x ∷ []
clocked_by n _ = []

abbrev pub clause_marks : ℕ → Option ℕ → List ℕ
clause_marks n None = []
clause_marks n (Some c) = n ∷ []

abbrev pub clocked_step : List FlatName → List NodeOf → Node → List ℕ
clocked_step names before node = clause_marks (number_after names before) node.clause ++ flat_map (clocked_by (number_after names before)) node.mentions

abbrev pub input_marks : ℕ → Bool → List ℕ
input_marks n true = n ∷ []
input_marks n false = []

abbrev pub name_marks : ℕ → Option FlatName → List ℕ
name_marks n None = []
name_marks n (Some name) = input_marks n name.input

abbrev pub unclocked_by : List FlatName → ℕ → Mention → List ℕ
unclocked_by names n (Stands x) = name_marks n (slice_get names x)
unclocked_by names n (Holds x) = n ∷ []
unclocked_by names n _ = []

abbrev pub cause_marks : ℕ → Option Cause → List ℕ
cause_marks n None = []
cause_marks n (Some cause) = n ∷ []

abbrev pub unclocked_step : List FlatName → List NodeOf → Node → List ℕ
unclocked_step names before node = cause_marks (number_after names before) node.cause ++ flat_map (unclocked_by names (number_after names before)) node.mentions

abbrev pub own_joins : ℕ → ℕ → Bool → List Pair
own_joins x n true = []
own_joins x n false = record { a = x; b = n } ∷ []

abbrev pub name_joins : ℕ → ℕ → Option FlatName → List Pair
name_joins x n None = []
name_joins x n (Some name) = own_joins x n name.input

abbrev pub joins_by : List FlatName → ℕ → Mention → List Pair
joins_by names n (Stands x) = name_joins x n (slice_get names x)
joins_by names n _ = []

abbrev pub lead_joins : ℕ → Option ℕ → List Pair
lead_joins n None = []
lead_joins n (Some lead) = record { a = lead; b = n } ∷ []

abbrev pub clause_joins : ℕ → List NodeOf → ℕ → Option ℕ → List Pair
clause_joins first before n None = []
clause_joins first before n (Some c) = lead_joins n (lead_from first before c)

abbrev pub joins_step : List FlatName → List NodeOf → Node → List Pair
joins_step names before node = clause_joins (length names) before (number_after names before) node.clause ++ flat_map (joins_by names (number_after names before)) node.mentions

-- the nodes with `hold`, and the conversions, from each mention
abbrev pub holds_by : ℕ → ℕ → Mention → List ℕ
holds_by n i (Holds x) = n ∷ []
holds_by n i _ = []

abbrev pub conversions_by : ℕ → ℕ → Mention → List Pair
conversions_by n i (Converts by x) = record { a = n; b = x } ∷ []
conversions_by n i _ = []
