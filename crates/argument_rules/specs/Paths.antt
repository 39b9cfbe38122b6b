-- The paths that arguments of modifications give something to. MLS 3.6, chapter 7, "Modifications", in this project's profile.
use Rattle.std.specs.Prelude.{◌≡◌, ℕ, List, [], ◌∷◌, ◌++◌, map, flat_map, Option, Bool, true, false, is_some}
use Rattle.mo_parser.specs.declared.tree.Arg.{Arg}
use Rattle.mo_parser.specs.declared.tree.Arg.TheOpen.{Arg-F}
use Rattle.mo_parser.specs.declared.tree.Arg.TheFolds.{fold-Arg}
use Rattle.mo_parser.specs.declared.tree.TreeExpr.{TreeExpr}
use Rattle.class_scopes.specs.Places.{Entry, repeats}
use Rattle.class_scopes.specs.Spelled.{Ident, idents, inside, place_of}
use Rattle.argument_rules.specs.declared.paths.Leaf.{Leaf}

-- what stands before the names inside what a path leads to: each of its names with a dot behind it
abbrev pub along : Ident → List Ident → Ident
along prefix [] = prefix
along prefix (x ∷ path) = along (inside prefix x) path

-- the paths behind a prefix, each with the place of the argument that ends it
abbrev pub Leaves : Type 0
Leaves = Ident → List Entry

-- an argument with nested arguments and without a value counts through these alone
abbrev pub counts : {A : Type 0} → List A → Option TreeExpr → Bool
counts [] binding = true
counts (x ∷ nested) binding = is_some binding

abbrev pub own_leaf : Bool → Entry → List Entry
own_leaf true leaf = leaf ∷ []
own_leaf false leaf = []

abbrev pub nested_leaves : List Leaves → Leaves
nested_leaves nested prefix = flat_map (λ leaves. leaves prefix) nested

abbrev pub entry : Leaf → Entry
entry leaf = record { key = leaf.path.items; place = leaf.place }

-- leaves are added at the end
abbrev pub Adds : List Leaf → List Entry → List Leaf → Type 0
Adds old more new = map entry new ≡ map entry old ++ more

module _ (text : List ℕ) where
  abbrev pub leaves_level : Arg-F Leaves → Leaves
  leaves_level arg prefix =
      let path = along prefix (idents text arg.name) in
      nested_leaves arg.args path ++ own_leaf (counts arg.args arg.binding) (record { key = path; place = place_of arg.name })

  unfoldable pub leaves_of : Arg → Leaves
  leaves_of = fold-Arg Leaves leaves_level

  abbrev pub leaves_in : Ident → List Arg → List Entry
  leaves_in prefix args = flat_map (λ arg. leaves_of arg prefix) args

  -- the places of arguments that give something to a path for the second time
  abbrev pub given_twice : List Arg → List ℕ
  given_twice args = repeats [] (leaves_in [] args)
