-- Equations by their kinds.
use Rattle.std.proofs.Common.{◌≡◌, ap, sym, ◌∙◌}
use Rattle.mo_parser.specs.declared.tree.TreeExpr.{TreeExpr}
use Rattle.mo_parser.specs.declared.tree.TreeEq.{TreeEq}
use Rattle.mo_parser.specs.declared.tree.TreeEq.TheVariants.{Equal, rolls-Equal}
use Rattle.mo_parser.specs.declared.tree.TreeEq.TheOpen.{TreeEq-F}
use Rattle.mo_parser.specs.declared.tree.TreeEq.TheViews.{out-TreeEq, out-roll-TreeEq}

pub out-Equal : (equation : TreeEq) (left right : TreeExpr) → equation ≡ Equal left right → out-TreeEq equation ≡ TreeEq-F.Equal left right
out-Equal equation left right is = ap out-TreeEq (is ∙ sym (rolls-Equal left right)) ∙ out-roll-TreeEq (TreeEq-F.Equal left right)
