-- The number of nodes of an expression, which falls at each step into it.
use Rattle.std.proofs.Common.{◌≡◌, refl, ap, ◌∙◌, sym, ℕ, zero, suc, ◌+◌, ◌<◌, ◌≤◌, List, [], ◌∷◌, Option, map, length, get_or, arith}
use Rattle.sync_values.specs.declared.value.Rel.{Rel}
use Rattle.sync_values.specs.declared.value.ChainOp.{ChainOp}
use Rattle.flat_model.specs.declared.expression.Fun.{Fun}
use Rattle.flat_model.specs.declared.clock.ClockExpr.{ClockExpr}
use Rattle.flat_model.specs.declared.expression.Expr.{Expr}
use Rattle.flat_model.specs.declared.expression.Expr.TheVariants.{Chain, Relation, Neg, Not, If, Apply, Sample, rolls-Chain, rolls-Relation, rolls-Neg, rolls-Not, rolls-If, rolls-Apply, rolls-Sample}
use Rattle.flat_model.specs.declared.clock.ClockExpr.TheOpen.{Expr-F}
use Rattle.flat_model.specs.declared.clock.ClockExpr.TheFolds.{fold-Expr, fold-roll-Expr}

-- the sum of several numbers
abbrev pub total : List ℕ → ℕ
total [] = 0
total (n ∷ ns) = n + total ns

abbrev pub nodes_of_level : Expr-F (Unit {0}) ℕ → ℕ
nodes_of_level (Expr-F.Chain parts ops) = 2 + total parts
nodes_of_level (Expr-F.Relation rel left right) = 1 + (left + right)
nodes_of_level (Expr-F.Neg part) = 1 + part
nodes_of_level (Expr-F.Not part) = 1 + part
nodes_of_level (Expr-F.If conditions branches other) = 2 + (total conditions + (total branches + other))
nodes_of_level (Expr-F.Apply function parts) = 2 + total parts
nodes_of_level (Expr-F.Sample part clock) = 1 + part
nodes_of_level _ = 1

unfoldable pub nodes : Expr → ℕ
nodes = fold-Expr (Unit {0}) ℕ (λ _. tt) nodes_of_level

abbrev pub all_nodes : List Expr → ℕ
all_nodes parts = total (map nodes parts)

pub nodes-Chain : (parts : List Expr) (ops : List ChainOp) → nodes (Chain parts ops) ≡ 2 + all_nodes parts
unfolding nodes
nodes-Chain parts ops = ap nodes (sym (rolls-Chain parts ops)) ∙ fold-roll-Expr (Unit {0}) ℕ (λ _. tt) nodes_of_level (Expr-F.Chain parts ops)

pub nodes-Relation : (rel : Rel) (left right : Expr) → nodes (Relation rel left right) ≡ 1 + (nodes left + nodes right)
unfolding nodes
nodes-Relation rel left right = ap nodes (sym (rolls-Relation rel left right)) ∙ fold-roll-Expr (Unit {0}) ℕ (λ _. tt) nodes_of_level (Expr-F.Relation rel left right)

pub nodes-Neg : (part : Expr) → nodes (Neg part) ≡ 1 + nodes part
unfolding nodes
nodes-Neg part = ap nodes (sym (rolls-Neg part)) ∙ fold-roll-Expr (Unit {0}) ℕ (λ _. tt) nodes_of_level (Expr-F.Neg part)

pub nodes-Not : (part : Expr) → nodes (Not part) ≡ 1 + nodes part
unfolding nodes
nodes-Not part = ap nodes (sym (rolls-Not part)) ∙ fold-roll-Expr (Unit {0}) ℕ (λ _. tt) nodes_of_level (Expr-F.Not part)

pub nodes-If : (conditions branches : List Expr) (other : Expr) → nodes (If conditions branches other) ≡ 2 + (all_nodes conditions + (all_nodes branches + nodes other))
unfolding nodes
nodes-If conditions branches other = ap nodes (sym (rolls-If conditions branches other)) ∙ fold-roll-Expr (Unit {0}) ℕ (λ _. tt) nodes_of_level (Expr-F.If conditions branches other)

pub nodes-Apply : (function : Fun) (parts : List Expr) → nodes (Apply function parts) ≡ 2 + all_nodes parts
unfolding nodes
nodes-Apply function parts = ap nodes (sym (rolls-Apply function parts)) ∙ fold-roll-Expr (Unit {0}) ℕ (λ _. tt) nodes_of_level (Expr-F.Apply function parts)

pub nodes-Sample : (part : Expr) (clock : Option ClockExpr) → nodes (Sample part clock) ≡ 1 + nodes part
unfolding nodes
nodes-Sample part clock = ap nodes (sym (rolls-Sample part clock)) ∙ fold-roll-Expr (Unit {0}) ℕ (λ _. tt) nodes_of_level (Expr-F.Sample part clock)

-- one of several expressions has no more nodes than all
pub nodes_within : (parts : List Expr) (i : ℕ) (part : Expr) → i < length parts → part ≡ get_or parts i part → nodes part ≤ all_nodes parts
nodes_within [] i part within is = absurd (omega (arith, within))
nodes_within (first ∷ parts) zero part within is =
    let same : nodes part ≡ nodes first = ap nodes is in
    let all : all_nodes (first ∷ parts) ≡ nodes first + all_nodes parts = refl in
    omega (arith, same, all)
nodes_within (first ∷ parts) (suc i) part within is =
    let rest = nodes_within parts i part (omega (arith, within)) is in
    let all : all_nodes (first ∷ parts) ≡ nodes first + all_nodes parts = refl in
    omega (arith, rest, all)
