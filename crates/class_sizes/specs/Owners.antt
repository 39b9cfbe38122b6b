-- Classes whose own equations give something: an equation, one inside a clause, or a connect of connectors with members.
use Rattle.std.specs.Prelude.{ℕ, ◌==◌, List, length, Option, Some, None, option_and_then, is_some, Bool, true, false, ◌||◌, not}
use Rattle.std.specs.List.{list_any}
use Rattle.mo_parser.specs.declared.tree.ClassDef.{ClassDef}
use Rattle.mo_parser.specs.declared.tree.Path.{Path}
use Rattle.mo_parser.specs.declared.tree.TreeEq.{TreeEq}
use Rattle.mo_parser.specs.declared.tree.TreeEq.TheOpen.{TreeEq-F}
use Rattle.mo_parser.specs.declared.tree.TreeEq.TheViews.{out-TreeEq}
use Rattle.class_scopes.specs.Spelled.{idents}
use Rattle.class_scopes.specs.Types.{elements_of, short_of, class_equations}
use Rattle.scope_names.specs.Scopes.{element_along, class_of}

abbrev pub equal_by : TreeEq-F TreeEq → Bool
equal_by (TreeEq-F.Equal left right) = true
equal_by _ = false

abbrev pub is_equal : TreeEq → Bool
is_equal equation = equal_by (out-TreeEq equation)

module _ (text : List ℕ) (classes : List ClassDef) where
  -- a connector has a member; a short one is its own
  abbrev pub has_members : ℕ → Bool
  has_members connector = is_some (short_of text classes connector) || not (length (elements_of text classes connector) == 0)

  abbrev pub joins_by : Option ℕ → Bool
  joins_by (Some connector) = has_members connector
  joins_by None = false

  -- the first argument of a connect leads to such a connector
  abbrev pub joins : ℕ → Path → Bool
  joins class path = joins_by (option_and_then (class_of text classes) (element_along text classes (idents text path) class))

  abbrev pub gives_by : ℕ → TreeEq-F TreeEq → Bool
  gives_by class (TreeEq-F.Equal left right) = true
  gives_by class (TreeEq-F.When clock inside) = list_any is_equal inside
  gives_by class (TreeEq-F.Connect a b) = joins class a

  abbrev pub gives : ℕ → TreeEq → Bool
  gives class equation = gives_by class (out-TreeEq equation)

  -- a class has something of its own
  abbrev pub has_own : ℕ → Bool
  has_own class = list_any (gives class) (class_equations text classes class)
