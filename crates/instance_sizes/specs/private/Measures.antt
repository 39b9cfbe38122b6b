-- What is decided of instances and their items.
use Rattle.std.specs.Prelude.{◌≡◌, ℕ, ◌<◌, ◌≤◌, ◌⊎◌, min, List, [], ◌∷◌, length, sum_by, Bool, true, false, if◌then◌else◌}
use Rattle.mo_lexer.specs.declared.token.Token.{Token}
use Rattle.mo_parser.specs.declared.tree.ClassDef.{ClassDef}
use Rattle.class_scopes.specs.Spelled.{Ident}
use Rattle.flat_instances.specs.declared.item.Item.{Item as KeptItem}
use Rattle.flat_instances.specs.declared.item.Item.TheVariants as kept
use Rattle.flat_instances.specs.Instances.{Item, instances, variables}
use Rattle.parameter_values.specs.Values.{is_fixed}
use Rattle.instance_totals.specs.Weights.{number_at}
use Rattle.class_sizes.specs.Equations.{own_equations}
use Rattle.item_sizes.specs.Items.{item_equations}
use Rattle.flat_model.specs.Models.{size_limit}
use Rattle.instance_sizes.specs.Counts.{equation_count, token_count}
use Rattle.instance_sizes.specs.N10.{token_limit}

-- the flat name of a variable that is no parameter or constant
abbrev pub free_name : KeptItem → List Ident
free_name (kept.Declared v) = if is_fixed v.element.now.variability then [] else (v.name ∷ [])
free_name (kept.Own scope class) = []

module _ (text : List ℕ) (classes : List ClassDef) where
  -- what the own equations of classes count
  pub record AreEquations (numbers : List ℕ) : Type 0 where
    pub size : length numbers ≤ length classes
    pub counts : (class : ℕ) → number_at numbers class ≡ min (own_equations text classes class) 65537

  -- the instances of a class have more names or equations of their own than the limit, or else not more names
  abbrev pub HasMany : ℕ → Bool → Type 0
  HasMany root true = (size_limit < length (variables text classes (instances text classes root))) ⊎ (size_limit < sum_by (item_equations text classes) (instances text classes root))
  HasMany root false = length (variables text classes (instances text classes root)) ≤ size_limit

  abbrev pub HaveFew : List Item → Type 0
  HaveFew items = length (variables text classes items) ≤ size_limit

  module _ (tokens : List Token) where
    -- items count more equations or tokens than the limits, or not
    abbrev pub Exceeds : List Item → Bool → Type 0
    Exceeds items true = (size_limit < equation_count text classes items) ⊎ (token_limit < token_count text classes tokens items)
    Exceeds items false = (equation_count text classes items ≤ size_limit) × (token_count text classes tokens items ≤ token_limit)
