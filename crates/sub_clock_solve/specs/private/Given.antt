-- What is kept of constructors.
use Rattle.std.specs.Prelude.{◌≡◌, ℕ, ◌+◌, ◌^◌, List, [], ◌∷◌, ◌++◌, Some, None}
use Rattle.clock_terms.specs.declared.data.Constructor.{Constructor}
use Rattle.clock_terms.specs.declared.data.Grid.{Grid}
use Rattle.clock_terms.specs.Position.{Progression, AreSame, progression_of_grid, IsFine}
use Rattle.clock_terms.specs.Source.{Kind, Inferred, Every, AtSite, Other, kind_of, Source, every, at_site}
use Rattle.sub_clock_solve.specs.declared.given.Given.{Given}

-- the grid is a fine one of this clock
pub record IsGridOf (g : Grid) (clock : Progression) : Type 0 where
  pub same : AreSame (progression_of_grid g) clock
  pub fine : IsFine (2 ^ 40) g

pub record IsSource (given : Given) (source : Source) : Type 0 where
  pub node : given.node ≡ source.node
  pub equation : given.equation ≡ source.equation
  pub grid : IsGridOf given.grid source.clock

-- one for each source, in their order
abbrev pub AreSources : List Given → List Source → Type 0
AreSources [] [] = Unit {0}
AreSources (given ∷ givens) (source ∷ sources) = IsSource given source × AreSources givens sources
AreSources _ _ = ⊥

-- what is no source
abbrev pub GivesNone : Kind → Type 0
GivesNone Inferred = Unit {0}
GivesNone Other = Unit {0}
GivesNone _ = ⊥

-- the grid of a source, with the number of the next site
abbrev pub GivesGrid : Kind → ℕ → Grid → Type 0
GivesGrid (Every n r) site g = IsGridOf g (every n r) × (g.site ≡ None)
GivesGrid AtSite site g = IsGridOf g (at_site site) × (g.site ≡ Some site)
GivesGrid _ site g = ⊥

-- one more source, or none, and the number of the next site
abbrev pub AddsSource : Constructor → Progression → List Given → List Given → Type 0
AddsSource constructor clock old new = (g : Grid) × IsGridOf g clock × (new ≡ old ++ record { node = constructor.node; equation = constructor.equation; grid = g } ∷ [])

abbrev pub Steps : Kind → Constructor → ℕ → List Given → ℕ → List Given → Type 0
Steps (Every n r) constructor site old next new = (next ≡ site) × AddsSource constructor (every n r) old new
Steps AtSite constructor site old next new = (next ≡ site + 1) × AddsSource constructor (at_site site) old new
Steps _ constructor site old next new = (next ≡ site) × (new ≡ old)

abbrev pub IsStep : Constructor → ℕ → List Given → ℕ → List Given → Type 0
IsStep constructor = Steps (kind_of constructor.clock) constructor
