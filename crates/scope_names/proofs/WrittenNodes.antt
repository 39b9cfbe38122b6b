-- The equations of the names that are written in parts of a tree, one for each kind of part.
use Rattle.mo_parser.specs.declared.tree.Arg.{Arg}
use Rattle.mo_parser.specs.declared.tree.Arg.TheViews.{out-Arg}
use Rattle.mo_parser.specs.declared.tree.Arg.TheFolds.{fold_out-Arg}
use Rattle.mo_parser.specs.declared.tree.TreeEq.{TreeEq}
use Rattle.mo_parser.specs.declared.tree.TreeEq.TheVariants.{Equal, Connect, When, rolls-Equal, rolls-Connect, rolls-When}
use Rattle.mo_parser.specs.declared.tree.TreeEq.TheOpen.{TreeEq-F}
use Rattle.mo_parser.specs.declared.tree.TreeEq.TheFolds.{fold-roll-TreeEq}
use Rattle.class_scopes.specs.Places.{in_option}
use Rattle.std.proofs.Common.{◌≡◌, refl, ap, ◌∙◌, sym, List, [], ◌∷◌, map}
use Rattle.sync_values.specs.declared.value.Value.{Value}
use Rattle.sync_values.specs.declared.value.Rel.{Rel}
use Rattle.sync_values.specs.declared.value.ChainOp.{ChainOp}
use Rattle.mo_parser.specs.declared.tree.Path.{Path}
use Rattle.mo_parser.specs.declared.tree.TreeExpr.{TreeExpr}
use Rattle.mo_parser.specs.declared.tree.TreeNode.{TreeNode}
use Rattle.mo_parser.specs.declared.tree.TreeNode.TheVariants.{Const, Name, Call, Chain, Relation, Neg, Not, Power, If, rolls-Const, rolls-Name, rolls-Call, rolls-Chain, rolls-Relation, rolls-Neg, rolls-Not, rolls-Power, rolls-If}
use Rattle.mo_parser.specs.declared.tree.TreeNode.TheOpen.{TreeNode-F}
use Rattle.mo_parser.specs.declared.tree.TreeNode.TheViews.{roll-TreeNode}
use Rattle.mo_parser.specs.declared.tree.TreeNode.TheFolds.{fold-TreeNode, fold-roll-TreeNode, fold_out-TreeExpr, map-TreeNode}
use Rattle.std.proofs.Common.{◌++◌}
use Rattle.std.proofs.Common.{Result, Ok, Err, OnOk, subst, flat_map}
use Rattle.std.proofs.lemmas.List.{append-nil}
use Rattle.std.specs.Borrow.{Bor}
use Rattle.scope_names.specs.Written.{joined, names_in, names_in_level, names_in_arg, names_in_argument, names_in_equation, names_in_equation_level, connected_in, connected_level, Adds}

abbrev node_told : TreeNode → List Path
node_told = fold-TreeNode (List Path) (List Path) names_in_level (λ expr. expr.node)

told_at : (expr : TreeExpr) (node : TreeNode) (y : TreeNode-F TreeNode TreeExpr) → expr.node ≡ node → roll-TreeNode y ≡ node
    → names_in expr ≡ names_in_level (map-TreeNode TreeNode TreeExpr (List Path) (List Path) node_told names_in y)
unfolding names_in
told_at expr node y is rolls =
    fold_out-TreeExpr (List Path) (List Path) names_in_level (λ expr. expr.node) expr
    ∙ ap node_told (is ∙ sym rolls) ∙ fold-roll-TreeNode (List Path) (List Path) names_in_level (λ expr. expr.node) y

module _ (expr : TreeExpr) where
  pub names-Const : (value : Value) → expr.node ≡ Const value → names_in expr ≡ []
  names-Const value is = told_at expr (Const value) (TreeNode-F.Const value) is (rolls-Const value)

  pub names-Name : (path : Path) → expr.node ≡ Name path → names_in expr ≡ path ∷ []
  names-Name path is = told_at expr (Name path) (TreeNode-F.Name path) is (rolls-Name path)

  pub names-Call : (path : Path) (parts : List TreeExpr) → expr.node ≡ Call path parts → names_in expr ≡ joined (map names_in parts)
  names-Call path parts is = told_at expr (Call path parts) (TreeNode-F.Call path parts) is (rolls-Call path parts)

  pub names-Chain : (parts : List TreeExpr) (ops : List ChainOp) → expr.node ≡ Chain parts ops → names_in expr ≡ joined (map names_in parts)
  names-Chain parts ops is = told_at expr (Chain parts ops) (TreeNode-F.Chain parts ops) is (rolls-Chain parts ops)

  pub names-Relation : (rel : Rel) (left right : TreeExpr) → expr.node ≡ Relation rel left right → names_in expr ≡ names_in left ++ names_in right
  names-Relation rel left right is = told_at expr (Relation rel left right) (TreeNode-F.Relation rel left right) is (rolls-Relation rel left right)

  pub names-Neg : (part : TreeExpr) → expr.node ≡ Neg part → names_in expr ≡ names_in part
  names-Neg part is = told_at expr (Neg part) (TreeNode-F.Neg part) is (rolls-Neg part)

  pub names-Not : (part : TreeExpr) → expr.node ≡ Not part → names_in expr ≡ names_in part
  names-Not part is = told_at expr (Not part) (TreeNode-F.Not part) is (rolls-Not part)

  pub names-Power : (base exponent : TreeExpr) → expr.node ≡ Power base exponent → names_in expr ≡ names_in base ++ names_in exponent
  names-Power base exponent is = told_at expr (Power base exponent) (TreeNode-F.Power base exponent) is (rolls-Power base exponent)

  pub names-If : (conditions branches : List TreeExpr) (other : TreeExpr) → expr.node ≡ If conditions branches other
      → names_in expr ≡ joined (map names_in conditions) ++ joined (map names_in branches) ++ names_in other
  names-If conditions branches other is =
      told_at expr (If conditions branches other) (TreeNode-F.If conditions branches other) is (rolls-If conditions branches other)

-- one level of an argument
pub names-Arg : (arg : Arg) → names_in_arg arg ≡ joined (map names_in_arg (out-Arg arg).args) ++ in_option names_in (out-Arg arg).binding
unfolding names_in_arg
names-Arg arg = fold_out-Arg (List Path) names_in_argument arg

-- one level of an equation
module _ (equation : TreeEq) where
  pub names-Equal : (left right : TreeExpr) → equation ≡ Equal left right → names_in_equation equation ≡ names_in left ++ names_in right
  unfolding names_in_equation
  names-Equal left right is = ap names_in_equation (is ∙ sym (rolls-Equal left right)) ∙ fold-roll-TreeEq (List Path) names_in_equation_level (TreeEq-F.Equal left right)

  pub names-Connect : (a b : Path) → equation ≡ Connect a b → names_in_equation equation ≡ []
  unfolding names_in_equation
  names-Connect a b is = ap names_in_equation (is ∙ sym (rolls-Connect a b)) ∙ fold-roll-TreeEq (List Path) names_in_equation_level (TreeEq-F.Connect a b)

  pub names-When : (clock : TreeExpr) (inside : List TreeEq) → equation ≡ When clock inside
      → names_in_equation equation ≡ names_in clock ++ joined (map names_in_equation inside)
  unfolding names_in_equation
  names-When clock inside is = ap names_in_equation (is ∙ sym (rolls-When clock inside)) ∙ fold-roll-TreeEq (List Path) names_in_equation_level (TreeEq-F.When clock inside)

  pub connected-Equal : (left right : TreeExpr) → equation ≡ Equal left right → connected_in equation ≡ []
  unfolding connected_in
  connected-Equal left right is = ap connected_in (is ∙ sym (rolls-Equal left right)) ∙ fold-roll-TreeEq (List Path) connected_level (TreeEq-F.Equal left right)

  pub connected-Connect : (a b : Path) → equation ≡ Connect a b → connected_in equation ≡ a ∷ b ∷ []
  unfolding connected_in
  connected-Connect a b is = ap connected_in (is ∙ sym (rolls-Connect a b)) ∙ fold-roll-TreeEq (List Path) connected_level (TreeEq-F.Connect a b)

  pub connected-When : (clock : TreeExpr) (inside : List TreeEq) → equation ≡ When clock inside → connected_in equation ≡ joined (map connected_in inside)
  unfolding connected_in
  connected-When clock inside is = ap connected_in (is ∙ sym (rolls-When clock inside)) ∙ fold-roll-TreeEq (List Path) connected_level (TreeEq-F.When clock inside)

pub in_turn : {A : Type 0} (a b c : List A) → (a ++ b) ++ c ≡ a ++ (b ++ c)
in_turn [] b c = refl
in_turn (x ∷ a) b c = ap (λ r. x ∷ r) (in_turn a b c)

pub adds_none : (old : List (Bor Path)) (want : List Path) → want ≡ [] → Adds old want old
adds_none old want none = sym (append-nil (map (λ path. path.now) old)) ∙ ap (λ m. map (λ path. path.now) old ++ m) (sym none)

pub adds_one : (old new : List (Bor Path)) (path : Bor Path) (want : List Path) → want ≡ path.now ∷ [] → new ≡ old ++ path ∷ [] → Adds old want new
adds_one old new path want one pushed = ap (map (λ p. p.now)) pushed ∙ push old ∙ ap (λ m. map (λ p. p.now) old ++ m) (sym one)
  where
    push : (xs : List (Bor Path)) → map (λ p. p.now) (xs ++ path ∷ []) ≡ map (λ p. p.now) xs ++ path.now ∷ []
    push [] = refl
    push (x ∷ xs) = ap (λ r. x.now ∷ r) (push xs)

module _ {A E : Type 0} (r : Result A E) where
  pub adds_as : (old new : List (Bor Path)) (more want : List Path) → want ≡ more → OnOk r (Adds old more new) → OnOk r (Adds old want new)
  adds_as old new more want same added = subst (λ m. OnOk r (Adds old m new)) (sym same) added

  pub adds_then : (old mid new : List (Bor Path)) (a b want : List Path) → want ≡ a ++ b → Adds old a mid → OnOk r (Adds mid b new) → OnOk r (Adds old want new)
  adds_then old mid new a b want same first next = adds_as old new (a ++ b) want same (by r next)
    where
      by : (s : Result A E) → OnOk s (Adds mid b new) → OnOk s (Adds old (a ++ b) new)
      by (Ok x) added = added ∙ ap (λ m. m ++ b) first ∙ in_turn (map (λ path. path.now) old) a b
      by (Err e) added = added

pub adds_on : (old mid new : List (Bor Path)) (a b : List Path) → Adds old a mid → Adds mid b new → Adds old (a ++ b) new
adds_on old mid new a b first next = next ∙ ap (λ m. m ++ b) first ∙ in_turn (map (λ path. path.now) old) a b

pub adds_two : (old mid new : List (Bor Path)) (a b : Bor Path) (want : List Path) → want ≡ a.now ∷ (b.now ∷ []) → mid ≡ old ++ a ∷ [] → new ≡ mid ++ b ∷ [] → Adds old want new
adds_two old mid new a b want two first next =
    let whole : Adds old (a.now ∷ (b.now ∷ [])) new = adds_on old mid new (a.now ∷ []) (b.now ∷ []) (adds_one old mid a (a.now ∷ []) refl first) (adds_one mid new b (b.now ∷ []) refl next) in
    subst (λ m. Adds old m new) (sym two) whole

pub joined_map : {A : Type 0} (f : A → List Path) (xs : List A) → joined (map f xs) ≡ flat_map f xs
joined_map f [] = refl
joined_map f (x ∷ xs) = ap (λ rest. f x ++ rest) (joined_map f xs)
