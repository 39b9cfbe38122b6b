-- How many equations the own equations of a class stand for in each instance. Pairs of connects are counted elsewhere.
use Rattle.std.specs.Prelude.{ℕ, List, sum_by}
use Rattle.mo_parser.specs.declared.tree.ClassDef.{ClassDef}
use Rattle.mo_parser.specs.declared.tree.TreeEq.{TreeEq}
use Rattle.mo_parser.specs.declared.tree.TreeEq.TheOpen.{TreeEq-F}
use Rattle.mo_parser.specs.declared.tree.TreeEq.TheViews.{out-TreeEq}
use Rattle.class_scopes.specs.Types.{class_equations}

-- an equation inside a clause
abbrev pub inside_by : TreeEq-F TreeEq → ℕ
inside_by (TreeEq-F.Equal left right) = 1
inside_by _ = 0

abbrev pub inside_equations : TreeEq → ℕ
inside_equations equation = inside_by (out-TreeEq equation)

-- an equation of a class: one, or for a clause one for each equation inside it
abbrev pub equations_by : TreeEq-F TreeEq → ℕ
equations_by (TreeEq-F.Equal left right) = 1
equations_by (TreeEq-F.When clock inside) = sum_by inside_equations inside
equations_by (TreeEq-F.Connect a b) = 0

abbrev pub equations_at : TreeEq → ℕ
equations_at equation = equations_by (out-TreeEq equation)

-- all of a class
abbrev pub own_equations : List ℕ → List ClassDef → ℕ → ℕ
own_equations text classes class = sum_by equations_at (class_equations text classes class)
