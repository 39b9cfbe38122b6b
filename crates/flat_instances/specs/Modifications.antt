-- What modifications give. MLS 3.6, chapter 7, "Modifications", in this project's profile.
use Rattle.std.specs.Prelude.{ℕ, List, [], ◌∷◌, map, Option, Some, None, bytes_eq, if◌then◌else◌}
use Rattle.std.specs.Option.{option_or}
use Rattle.mo_parser.specs.declared.tree.Arg.{Arg}
use Rattle.mo_parser.specs.declared.tree.Arg.TheOpen.{Arg-F}
use Rattle.mo_parser.specs.declared.tree.Arg.TheFolds.{fold-Arg}
use Rattle.mo_parser.specs.declared.tree.TreeExpr.{TreeExpr}
use Rattle.class_scopes.specs.Spelled.{Ident, idents}

-- the first value that is there
abbrev pub first_of : {A : Type 0} → List (Option A) → Option A
first_of [] = None
first_of (x ∷ xs) = option_or x (first_of xs)

-- what is left of a path behind its first parts, where it begins with these
abbrev pub behind : List Ident → List Ident → Option (List Ident)
behind [] path = Some path
behind (x ∷ xs) [] = None
behind (x ∷ xs) (y ∷ ys) = if bytes_eq x y then behind xs ys else None

-- the value that modifications give what a path leads to, where they give one
abbrev pub Giving : Type 0
Giving = List Ident → Option TreeExpr

module _ (text : List ℕ) where
  abbrev pub given_behind : Option TreeExpr → List Giving → Option (List Ident) → Option TreeExpr
  given_behind binding nested None = None
  given_behind binding nested (Some []) = binding
  given_behind binding nested (Some (x ∷ path)) = first_of (map (λ giving. giving (x ∷ path)) nested)

  -- an argument `name(nested) = binding` gives the value to its name, and its nested arguments theirs behind the name
  abbrev pub giving_level : Arg-F Giving → Giving
  giving_level arg path = given_behind arg.binding arg.args (behind (idents text arg.name) path)

  unfoldable pub given_by : Arg → Giving
  given_by = fold-Arg Giving giving_level

  -- what a declaration `name(args) = binding` gives to a path that begins behind its name
  abbrev pub given : List Arg → Option TreeExpr → Giving
  given args binding path = given_behind binding (map given_by args) (Some path)
