-- Depths of classes that are found from those of their parts.
use Rattle.std.specs.Prelude.{◌≡◌, ◌↔◌, ℕ, ◌+◌, ◌<◌, ◌≤◌, min, max, List, [], ◌∷◌, length, slice_get, slice_index_or, Option, Some}
use Rattle.mo_parser.specs.declared.tree.ClassDef.{ClassDef}
use Rattle.mo_parser.specs.declared.tree.Element.{Element}
use Rattle.class_scopes.specs.declared.type_name.TypeName.{TypeName}
use Rattle.class_scopes.specs.declared.type_name.TypeName.TheVariants.{Class}
use Rattle.class_scopes.specs.Types.{type_of, elements_of}
use Rattle.class_order.specs.N11.{HasDepth}

abbrev pub depth_of : List ℕ → ℕ → ℕ
depth_of depths class = slice_index_or depths class 0

abbrev pub depth_by : List ℕ → Option TypeName → ℕ
depth_by depths (Some (Class class)) = min (depth_of depths class) 32 + 1
depth_by depths _ = 1

module _ (text : List ℕ) (classes : List ClassDef) where
  -- how deep a component goes, not more than 33
  abbrev pub depth_in : List ℕ → Element → ℕ
  depth_in depths element = depth_by depths (type_of text classes element.base)

  abbrev pub deepest_in : List ℕ → List Element → ℕ
  deepest_in depths [] = 0
  deepest_in depths (element ∷ rest) = max (depth_in depths element) (deepest_in depths rest)

  abbrev pub deepest : List ℕ → ℕ → ℕ
  deepest depths class = deepest_in depths (elements_of text classes class)

  -- a class has components at the depths up to this one, and of those up to 33 at no other
  abbrev pub IsDepth : ℕ → ℕ → Type 0
  IsDepth class depth = (n : ℕ) → n ≤ 33 → HasDepth text classes n class ↔ ((1 ≤ n) × (n ≤ depth))

  -- the depths of the first classes of an order are found
  pub record AreDepths (order : List ℕ) (count : ℕ) (depths : List ℕ) : Type 0 where
    pub size : length depths ≡ length classes
    pub done : (k class : ℕ) → k < count → slice_get order k ≡ Some class → IsDepth class (depth_of depths class)
