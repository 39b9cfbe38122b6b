-- Chains.
use Rattle.std.proofs.Common.{◌≡◌, ℕ, true, false, None, List, [], ◌++◌, Option, refl, arith}
use Rattle.std.proofs.lemmas.List.{append-nil}
use Rattle.sync_values.specs.declared.value.ChainOp.{ChainOp}
use Rattle.mo_lexer.specs.declared.token.Token.{Token}
use Rattle.mo_parser.specs.declared.tree.TreeExpr.{TreeExpr}
use Rattle.mo_parser.specs.declared.grammar.parts.Links.{Links}
use Rattle.mo_parser.specs.grammar.Rules.{Rule, one}
use Rattle.mo_parser.specs.grammar.Trees.{alone}
use Rattle.mo_parser.specs.grammar.Expressions as rule
use Rattle.mo_parser.specs.reading.Outcomes.{Parser}
use Rattle.mo_parser.specs.reading.Outcomes as reads
use Rattle.mo_parser.specs.reading.Expressions as read
use Rattle.mo_parser.proofs.rules.Fits.{Fits, fits_as}
use Rattle.mo_parser.proofs.rules.Kinds.{among, apart, within}
use Rattle.mo_parser.proofs.rules.Within.{apart_none, within_both, within_left, within_right, within_self}
use Rattle.mo_parser.proofs.rules.Gives.{fits_gives}
use Rattle.mo_parser.proofs.rules.Then.{fits_then}
use Rattle.mo_parser.proofs.rules.Choose.{Tells, fits_choose}
use Rattle.mo_parser.proofs.rules.Many.{fits_many}

-- the operators are told by the tokens `ops`, and none of them lengthens a part
module _ {n : ℕ} (op_of : Token → Option ChainOp) {R : ℕ → Rule TreeExpr} {p : ℕ → Parser TreeExpr} {ops starts more : List ℕ}
    (tells : Tells (read.is_op op_of) ops) (fits_op : Fits ops [] 1 None (λ _. one op_of) (λ _. reads.one op_of) n) (fits_part : Fits starts more 1 None R p n)
    (no_end : among ops 4 ≡ false) (parted : apart ops more ≡ true) where
  fits_link : (l : Links) → Fits ops more 1 None (λ k. rule.link op_of (R k) l) (λ k. read.link op_of (p k) l) n
  unfolding rule.link read.link
  fits_link l = fits_as ops more (within_both ops [] ops (within_self ops) refl) (within_both more [] more (within_self more) refl)
      (fits_then fits_op (λ op. fits_then fits_part (λ e. fits_gives _) refl) (apart_none (starts ++ [])))

  pub fits_links : (first : TreeExpr) → Fits ops (ops ++ more) 0 None (λ k. rule.links op_of (R k) first) (λ k. read.links op_of (p k) first) n
  unfolding rule.links read.links
  fits_links first =
      let all = ops ++ more in
      let in_ops : within (ops ++ []) ops ≡ true = within_both ops [] ops (within_self ops) refl in
      let in_more : within (all ++ more) all ≡ true = within_both all more all (within_self all) (within_right ops more) in
      let fine : apart (ops ++ []) more ≡ true = rw (append-nil ops) parted in
      fits_as ops all (within_both (ops ++ []) [] ops in_ops refl)
      (within_both ops ((all ++ more) ++ []) all (within_left ops more) (within_both (all ++ more) [] all in_more refl))
      (fits_choose (read.is_op op_of) ops tells
      (fits_then (fits_link (alone first)) (λ l. fits_then (fits_many (read.is_op op_of) ops tells no_end (λ l. fits_link l) (within_self ops) parted l) (λ all. fits_gives _) refl) fine)
      (fits_gives first) in_ops refl (omega arith))
