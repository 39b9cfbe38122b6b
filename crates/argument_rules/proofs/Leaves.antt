-- The paths of arguments.
use Rattle.std.proofs.Common.{◌≡◌, refl, ap, ap₂, sym, ◌∙◌, subst, ℕ, true, false, List, [], ◌∷◌, ◌++◌, map, Option, is_some}
use Rattle.std.proofs.lemmas.List.{append-nil}
use Rattle.mo_parser.specs.declared.tree.Arg.{Arg}
use Rattle.mo_parser.specs.declared.tree.Arg.TheViews.{out-Arg}
use Rattle.mo_parser.specs.declared.tree.Arg.TheFolds.{fold_out-Arg}
use Rattle.mo_parser.specs.declared.tree.Path.{Path}
use Rattle.mo_parser.specs.declared.tree.Span.{Span}
use Rattle.mo_parser.specs.declared.tree.TreeExpr.{TreeExpr}
use Rattle.class_scopes.specs.Places.{Entry}
use Rattle.class_scopes.specs.Spelled.{Ident, idents, place_of, spelled}
use Rattle.argument_rules.specs.declared.paths.Leaf.{Leaf}
use Rattle.argument_rules.specs.Paths.{along, Leaves, counts, own_leaf, nested_leaves, entry, Adds, leaves_level, leaves_of, leaves_in}

pub in_turn : {A : Type 0} (a b c : List A) → (a ++ b) ++ c ≡ a ++ (b ++ c)
in_turn [] b c = refl
in_turn (x ∷ a) b c = ap (λ r. x ∷ r) (in_turn a b c)

pub counts_none : {A : Type 0} (args : List A) (binding : Option TreeExpr) → args ≡ [] → counts args binding ≡ true
counts_none [] binding none = refl
counts_none (x ∷ args) binding none = absurd (cc none)

pub counts_some : {A : Type 0} (args : List A) (binding : Option TreeExpr) → (args ≡ [] → ⊥) → counts args binding ≡ is_some binding
counts_some [] binding some = absurd (some refl)
counts_some (x ∷ args) binding some = refl

counts_map : {A B : Type 0} (f : A → B) (args : List A) (binding : Option TreeExpr) → counts (map f args) binding ≡ counts args binding
counts_map f [] binding = refl
counts_map f (x ∷ args) binding = refl

-- the path of an argument, by the parts of its name
pub path_is : (text : List ℕ) (prefix path : Ident) (parts : List Span) (name : Path) → path ≡ along prefix (map (spelled text) parts) → parts ≡ name.parts → path ≡ along prefix (idents text name)
path_is text prefix path parts name is these = is ∙ ap (λ ps. along prefix (map (spelled text) ps)) these

module _ (text : List ℕ) where
  through : (prefix : Ident) (args : List Arg) → nested_leaves (map (leaves_of text) args) prefix ≡ leaves_in text prefix args
  through prefix [] = refl
  through prefix (arg ∷ args) = ap (λ rest. leaves_of text arg prefix ++ rest) (through prefix args)

  module _ (arg : Arg) (prefix path : Ident) (is : path ≡ along prefix (idents text (out-Arg arg).name)) where
    abbrev own : Entry
    own = record { key = path; place = place_of (out-Arg arg).name }

    leaves-Arg : leaves_of text arg prefix ≡ leaves_level text (record { name = (out-Arg arg).name; args = map (leaves_of text) (out-Arg arg).args; binding = (out-Arg arg).binding }) prefix
    unfolding leaves_of
    leaves-Arg = ap (λ leaves. leaves prefix) (fold_out-Arg Leaves (leaves_level text) arg)

    level : leaves_of text arg prefix ≡ leaves_in text path (out-Arg arg).args ++ own_leaf (counts (out-Arg arg).args (out-Arg arg).binding) own
    level =
        leaves-Arg
        ∙ ap (λ p. nested_leaves (map (leaves_of text) (out-Arg arg).args) p ++ own_leaf (counts (map (leaves_of text) (out-Arg arg).args) (out-Arg arg).binding) (record { key = p; place = place_of (out-Arg arg).name })) (sym is)
        ∙ ap₂ (λ rest b. rest ++ own_leaf b own) (through path (out-Arg arg).args) (counts_map (leaves_of text) (out-Arg arg).args (out-Arg arg).binding)

    pub alone : counts (out-Arg arg).args (out-Arg arg).binding ≡ true → leaves_of text arg prefix ≡ leaves_in text path (out-Arg arg).args ++ own ∷ []
    alone counted = level ∙ ap (λ b. leaves_in text path (out-Arg arg).args ++ own_leaf b own) counted

    pub nested : counts (out-Arg arg).args (out-Arg arg).binding ≡ false → leaves_of text arg prefix ≡ leaves_in text path (out-Arg arg).args
    nested none = level ∙ ap (λ b. leaves_in text path (out-Arg arg).args ++ own_leaf b own) none ∙ append-nil (leaves_in text path (out-Arg arg).args)

pub adds_on : (old mid new : List Leaf) (a b : List Entry) → Adds old a mid → Adds mid b new → Adds old (a ++ b) new
adds_on old mid new a b first next = next ∙ ap (λ m. m ++ b) first ∙ in_turn (map entry old) a b

pub adds_one : (old new : List Leaf) (leaf : Leaf) → new ≡ old ++ leaf ∷ [] → Adds old (entry leaf ∷ []) new
adds_one old new leaf pushed = ap (map entry) pushed ∙ push old
  where
    push : (xs : List Leaf) → map entry (xs ++ leaf ∷ []) ≡ map entry xs ++ entry leaf ∷ []
    push [] = refl
    push (x ∷ xs) = ap (λ r. entry x ∷ r) (push xs)

pub adds_as : (old new : List Leaf) (more want : List Entry) → want ≡ more → Adds old more new → Adds old want new
adds_as old new more want same added = subst (λ m. Adds old m new) (sym same) added
