-- The constructors and relations of a model, as lists in the order of its nodes, and in a node in the order of the text. MLS 3.6, chapter 16, "Clock Constructors" and "Sub-Clock Conversion Operators".
use Rattle.std.specs.Prelude.{ℕ, ◌+◌, List, [], ◌∷◌, ◌++◌, length, flat_map}
use Rattle.flat_model.specs.declared.clock.Conversion.{Conversion}
use Rattle.flat_model.specs.declared.clock.Conversion.TheVariants.{NoClock}
use Rattle.flat_model.specs.declared.model.FlatModel.{FlatModel}
use Rattle.clock_terms.specs.declared.data.Constructor.{Constructor}
use Rattle.clock_terms.specs.declared.data.Relation.{Relation}
use Rattle.clock_terms.specs.Mentions.{Mention, Converts, Gives}
use Rattle.clock_terms.specs.Nodes.{Node, nodes_of}

-- what each mention of each node gives, where the nodes are numbered from n on
abbrev pub of_nodes : {X : Type 0} → (ℕ → ℕ → Mention → List X) → ℕ → List Node → List X
of_nodes by n [] = []
of_nodes by n (node ∷ nodes) = flat_map (by n node.equation) node.mentions ++ of_nodes by (n + 1) nodes

-- a constructor that is mentioned in node n, of equation i
abbrev pub constructors_by : ℕ → ℕ → Mention → List Constructor
constructors_by n i (Gives clock) = record { node = n; equation = i; clock = clock } ∷ []
constructors_by n i _ = []

-- a conversion is a relation, other than `noClock`, which ties no clocks
abbrev pub relation_by : ℕ → ℕ → Conversion → ℕ → List Relation
relation_by n i NoClock x = []
relation_by n i by x = record { result = n; argument = x; equation = i; by = by } ∷ []

abbrev pub relations_by : ℕ → ℕ → Mention → List Relation
relations_by n i (Converts by x) = relation_by n i by x
relations_by n i _ = []

abbrev pub constructors_of : FlatModel → List Constructor
constructors_of model = of_nodes constructors_by (length model.names) (nodes_of model)

abbrev pub relations_of : FlatModel → List Relation
relations_of model = of_nodes relations_by (length model.names) (nodes_of model)
