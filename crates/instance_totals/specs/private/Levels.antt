-- Sums of classes, level by level.
use Rattle.std.specs.Prelude.{◌≡◌, ℕ, zero, suc, ◌+◌, min, List, sum_by, Option, Some, is_some, if◌then◌else◌}
use Rattle.mo_parser.specs.declared.tree.ClassDef.{ClassDef}
use Rattle.mo_parser.specs.declared.tree.Element.{Element}
use Rattle.mo_parser.specs.declared.tree.Short.{Short}
use Rattle.class_scopes.specs.declared.type_name.TypeName.{TypeName}
use Rattle.class_scopes.specs.declared.type_name.TypeName.TheVariants.{Simple, Class}
use Rattle.class_scopes.specs.Types.{type_of, elements_of, short_of}
use Rattle.instance_totals.specs.Weights.{number_at}

module _ (text : List ℕ) (classes : List ClassDef) (variable : ℕ) where
  -- the sum of a component, from the sums of classes
  abbrev pub class_weight : (ℕ → ℕ) → Option Short → ℕ → ℕ
  class_weight below short class = if is_some short then variable else below class

  abbrev pub type_weight : (ℕ → ℕ) → Option TypeName → ℕ
  type_weight below (Some (Simple kind)) = variable
  type_weight below (Some (Class class)) = class_weight below (short_of text classes class) class
  type_weight below _ = 0

  abbrev pub weight : (ℕ → ℕ) → Element → ℕ
  weight below element = type_weight below (type_of text classes element.base)

  module _ (own : List ℕ) where
    -- the sum of a class, from those of the classes of its components
    abbrev pub next : (ℕ → ℕ) → ℕ → ℕ
    next below class = sum_by (weight below) (elements_of text classes class) + number_at own class

    -- down to so many levels
    unfoldable pub total : ℕ → ℕ → ℕ
    total zero class = 0
    total (suc levels) class = next (total levels) class

    module _ (most : ℕ) where
      -- the sums of all classes with a level more, none above the most
      abbrev pub AreNext : List ℕ → List ℕ → Type 0
      AreNext below totals = (class : ℕ) → number_at totals class ≡ min (next (number_at below) class) most

      -- the sums of all classes down to so many levels
      abbrev pub AreTotals : ℕ → List ℕ → Type 0
      AreTotals levels totals = (class : ℕ) → number_at totals class ≡ min (total levels class) most
