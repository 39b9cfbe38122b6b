-- The names that are written in parts of a tree, in the order of the text.
use Rattle.std.specs.Borrow.{Bor}
use Rattle.std.specs.Prelude.{◌≡◌, List, [], ◌∷◌, ◌++◌, map, flat_map}
use Rattle.mo_parser.specs.declared.tree.Path.{Path}
use Rattle.mo_parser.specs.declared.tree.Arg.{Arg}
use Rattle.mo_parser.specs.declared.tree.Arg.TheOpen.{Arg-F}
use Rattle.mo_parser.specs.declared.tree.Arg.TheFolds.{fold-Arg}
use Rattle.mo_parser.specs.declared.tree.Element.{Element}
use Rattle.mo_parser.specs.declared.tree.Short.{Short}
use Rattle.mo_parser.specs.declared.tree.ClassDef.{ClassDef}
use Rattle.mo_parser.specs.declared.tree.TreeEq.{TreeEq}
use Rattle.mo_parser.specs.declared.tree.TreeEq.TheOpen.{TreeEq-F}
use Rattle.mo_parser.specs.declared.tree.TreeEq.TheFolds.{fold-TreeEq}
use Rattle.mo_parser.specs.declared.tree.TreeExpr.{TreeExpr}
use Rattle.mo_parser.specs.declared.tree.TreeNode.TheOpen.{TreeNode-F}
use Rattle.mo_parser.specs.declared.tree.TreeNode.TheFolds.{fold-TreeExpr}
use Rattle.class_scopes.specs.Places.{in_option}

-- lists one behind the other
abbrev pub joined : {A : Type 0} → List (List A) → List A
joined parts = flat_map (λ part. part) parts

-- the names in an expression; that of a called function is none of them
abbrev pub names_in_level : TreeNode-F (List Path) (List Path) → List Path
names_in_level (TreeNode-F.Const v) = []
names_in_level (TreeNode-F.Name path) = path ∷ []
names_in_level (TreeNode-F.Call function arguments) = joined arguments
names_in_level (TreeNode-F.Chain parts ops) = joined parts
names_in_level (TreeNode-F.Relation rel left right) = left ++ right
names_in_level (TreeNode-F.Neg part) = part
names_in_level (TreeNode-F.Not part) = part
names_in_level (TreeNode-F.Power base exponent) = base ++ exponent
names_in_level (TreeNode-F.If conditions branches other) = joined conditions ++ joined branches ++ other

unfoldable pub names_in : TreeExpr → List Path
names_in = fold-TreeExpr (List Path) (List Path) names_in_level (λ expr. expr.node)

-- the names in the values of a modification, those of arguments inside arguments among them
abbrev pub names_in_argument : Arg-F (List Path) → List Path
names_in_argument arg = joined arg.args ++ in_option names_in arg.binding

unfoldable pub names_in_arg : Arg → List Path
names_in_arg = fold-Arg (List Path) names_in_argument

-- the names in the equations of a class, but those that it connects
abbrev pub names_in_equation_level : TreeEq-F (List Path) → List Path
names_in_equation_level (TreeEq-F.Equal left right) = names_in left ++ names_in right
names_in_equation_level (TreeEq-F.Connect a b) = []
names_in_equation_level (TreeEq-F.When clock equations) = names_in clock ++ joined equations

unfoldable pub names_in_equation : TreeEq → List Path
names_in_equation = fold-TreeEq (List Path) names_in_equation_level

-- the names that an equation connects
abbrev pub connected_level : TreeEq-F (List Path) → List Path
connected_level (TreeEq-F.Equal left right) = []
connected_level (TreeEq-F.Connect a b) = a ∷ b ∷ []
connected_level (TreeEq-F.When clock equations) = joined equations

unfoldable pub connected_in : TreeEq → List Path
connected_in = fold-TreeEq (List Path) connected_level

-- the names in the modifications and the binding of a component
abbrev pub names_in_element : Element → List Path
names_in_element element = flat_map names_in_arg element.args ++ in_option names_in element.binding

-- the names of variables that a class has in its elements and equations
abbrev pub names_of_class : ClassDef → List Path
names_of_class class = flat_map names_in_element class.elements ++ flat_map names_in_equation class.equations

-- the names that a class connects
abbrev pub connected_in_class : ClassDef → List Path
connected_in_class class = flat_map connected_in class.equations

-- the names in the arguments of a short connector
abbrev pub names_of_short : Short → List Path
names_of_short short = flat_map names_in_arg short.args

-- names are added at the end
abbrev pub Adds : List (Bor Path) → List Path → List (Bor Path) → Type 0
Adds old more new = map (λ path. path.now) new ≡ map (λ path. path.now) old ++ more
