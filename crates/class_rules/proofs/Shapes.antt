-- Equations by their kinds, and members of connectors.
use Rattle.std.proofs.Common.{◌≡◌, refl, ap, sym, ◌∙◌, ℕ, zero, suc, Bool, true, false, ◌&&◌, List, [], ◌∷◌, length, Some, slice_get}
use Rattle.mo_parser.specs.declared.tree.ClassDef.{ClassDef}
use Rattle.mo_parser.specs.declared.tree.Element.{Element}
use Rattle.mo_parser.specs.declared.tree.Path.{Path}
use Rattle.mo_parser.specs.declared.tree.TreeExpr.{TreeExpr}
use Rattle.mo_parser.specs.declared.tree.TreeEq.{TreeEq}
use Rattle.mo_parser.specs.declared.tree.TreeEq.TheVariants.{Equal, Connect, When, rolls-Equal, rolls-Connect, rolls-When}
use Rattle.mo_parser.specs.declared.tree.TreeEq.TheOpen.{TreeEq-F}
use Rattle.mo_parser.specs.declared.tree.TreeEq.TheViews.{out-TreeEq, out-roll-TreeEq}
use Rattle.class_scopes.specs.Types.{class_equations}
use Rattle.class_rules.specs.N8.{same_member, same_members}

module _ (equation : TreeEq) where
  pub out-Equal : (left right : TreeExpr) → equation ≡ Equal left right → out-TreeEq equation ≡ TreeEq-F.Equal left right
  out-Equal left right is = ap out-TreeEq (is ∙ sym (rolls-Equal left right)) ∙ out-roll-TreeEq (TreeEq-F.Equal left right)

  pub out-Connect : (a b : Path) → equation ≡ Connect a b → out-TreeEq equation ≡ TreeEq-F.Connect a b
  out-Connect a b is = ap out-TreeEq (is ∙ sym (rolls-Connect a b)) ∙ out-roll-TreeEq (TreeEq-F.Connect a b)

  pub out-When : (clock : TreeExpr) (inside : List TreeEq) → equation ≡ When clock inside → out-TreeEq equation ≡ TreeEq-F.When clock inside
  out-When clock inside is = ap out-TreeEq (is ∙ sym (rolls-When clock inside)) ∙ out-roll-TreeEq (TreeEq-F.When clock inside)

module _ (text : List ℕ) (classes : List ClassDef) where
  pub unlike_lengths : (a b : List Element) → (length a ≡ length b → ⊥) → same_members text classes a b ≡ false
  unlike_lengths [] [] not = absurd (not refl)
  unlike_lengths [] (y ∷ b) not = refl
  unlike_lengths (x ∷ a) [] not = refl
  unlike_lengths (x ∷ a) (y ∷ b) not = by (same_member text classes x y) (unlike_lengths a b (λ same. not (ap suc same)))
    where
      by : (t : Bool) → same_members text classes a b ≡ false → (t && same_members text classes a b) ≡ false
      by true none = none
      by false none = refl

-- the equations of a class
pub equations_at : (text : List ℕ) (classes : List ClassDef) (class : ℕ) (definition : ClassDef) → slice_get classes class ≡ Some definition
    → class_equations text classes class ≡ definition.equations
equations_at text [] class definition is = absurd (cc is)
equations_at text (c ∷ classes) zero definition is = let same : c ≡ definition = cc is in ap (λ d. d.equations) same
equations_at text (c ∷ classes) (suc class) definition is = equations_at text classes class definition is
