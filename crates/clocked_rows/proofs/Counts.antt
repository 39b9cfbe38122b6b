-- Where names stand in expressions, for all kinds of expressions that the worked models have.
use Rattle.std.proofs.Common.{◌≡◌, ap, ◌∙◌, sym, ℕ, ◌+◌, ◌==◌, ◌&&◌, Bool, false, List, map, sum}
use Rattle.std.specs.List.{list_any, list_all}
use Rattle.sync_values.specs.declared.value.Value.{Value}
use Rattle.sync_values.specs.declared.value.ChainOp.{ChainOp}
use Rattle.sync_values.specs.declared.value.Rel.{Rel}
use Rattle.flat_model.specs.declared.expression.Expr.{Expr}
use Rattle.flat_model.specs.declared.expression.Fun.{Fun}
use Rattle.flat_model.specs.declared.expression.Expr.TheVariants.{Const, Chain, Relation, Apply, Hold, rolls-Const, rolls-Chain, rolls-Relation, rolls-Apply, rolls-Hold}
use Rattle.flat_model.specs.declared.clock.ClockExpr.TheOpen.{Expr-F}
use Rattle.flat_model.specs.declared.clock.ClockExpr.TheFolds.{fold-roll-Expr}
use Rattle.flat_model.specs.Occurrences.{is_sum, one_if, bare_in_level, held_in_level, converted_in_level, reached_in_level, bare_count, held_count, converted_count, is_reached}
use Rattle.flat_model.specs.Ways.{Way, way_through, way_to}
use Rattle.flat_model.proofs.Levels.{bare_count-Const, bare_count-Read, bare_count-Previous, bare_count-Chain, held_count-Const, held_count-Read, held_count-Previous, held_count-Chain, converted_count-Const, converted_count-Read, converted_count-Previous, converted_count-Chain, is_reached-Read, way_to-Const, way_to-Read, way_to-Previous, way_to-Chain}

pub is_reached-Const : (x : ℕ) (v : Value) → is_reached x (Const v) ≡ false
unfolding is_reached
is_reached-Const x v = ap (is_reached x) (sym (rolls-Const v)) ∙ fold-roll-Expr (Unit {0}) Bool (λ _. tt) (reached_in_level x) (Expr-F.Const v)

pub is_reached-Chain : (x : ℕ) (parts : List Expr) (ops : List ChainOp) → is_reached x (Chain parts ops) ≡ (list_all is_sum ops && list_any (λ part. part) (map (is_reached x) parts))
unfolding is_reached
is_reached-Chain x parts ops = ap (is_reached x) (sym (rolls-Chain parts ops)) ∙ fold-roll-Expr (Unit {0}) Bool (λ _. tt) (reached_in_level x) (Expr-F.Chain parts ops)

pub bare_count-Relation : (x : ℕ) (rel : Rel) (left right : Expr) → bare_count x (Relation rel left right) ≡ bare_count x left + bare_count x right
unfolding bare_count
bare_count-Relation x rel left right = ap (bare_count x) (sym (rolls-Relation rel left right)) ∙ fold-roll-Expr (Unit {0}) ℕ (λ _. tt) (bare_in_level x) (Expr-F.Relation rel left right)

pub bare_count-Apply : (x : ℕ) (function : Fun) (parts : List Expr) → bare_count x (Apply function parts) ≡ sum (map (bare_count x) parts)
unfolding bare_count
bare_count-Apply x function parts = ap (bare_count x) (sym (rolls-Apply function parts)) ∙ fold-roll-Expr (Unit {0}) ℕ (λ _. tt) (bare_in_level x) (Expr-F.Apply function parts)

pub bare_count-Hold : (x : ℕ) (y : ℕ) → bare_count x (Hold y) ≡ 0
unfolding bare_count
bare_count-Hold x y = ap (bare_count x) (sym (rolls-Hold y)) ∙ fold-roll-Expr (Unit {0}) ℕ (λ _. tt) (bare_in_level x) (Expr-F.Hold y)

pub held_count-Relation : (x : ℕ) (rel : Rel) (left right : Expr) → held_count x (Relation rel left right) ≡ held_count x left + held_count x right
unfolding held_count
held_count-Relation x rel left right = ap (held_count x) (sym (rolls-Relation rel left right)) ∙ fold-roll-Expr (Unit {0}) ℕ (λ _. tt) (held_in_level x) (Expr-F.Relation rel left right)

pub held_count-Apply : (x : ℕ) (function : Fun) (parts : List Expr) → held_count x (Apply function parts) ≡ sum (map (held_count x) parts)
unfolding held_count
held_count-Apply x function parts = ap (held_count x) (sym (rolls-Apply function parts)) ∙ fold-roll-Expr (Unit {0}) ℕ (λ _. tt) (held_in_level x) (Expr-F.Apply function parts)

pub held_count-Hold : (x : ℕ) (y : ℕ) → held_count x (Hold y) ≡ one_if (y == x)
unfolding held_count
held_count-Hold x y = ap (held_count x) (sym (rolls-Hold y)) ∙ fold-roll-Expr (Unit {0}) ℕ (λ _. tt) (held_in_level x) (Expr-F.Hold y)

pub converted_count-Relation : (x : ℕ) (rel : Rel) (left right : Expr) → converted_count x (Relation rel left right) ≡ converted_count x left + converted_count x right
unfolding converted_count
converted_count-Relation x rel left right = ap (converted_count x) (sym (rolls-Relation rel left right)) ∙ fold-roll-Expr (Unit {0}) ℕ (λ _. tt) (converted_in_level x) (Expr-F.Relation rel left right)

pub converted_count-Apply : (x : ℕ) (function : Fun) (parts : List Expr) → converted_count x (Apply function parts) ≡ sum (map (converted_count x) parts)
unfolding converted_count
converted_count-Apply x function parts = ap (converted_count x) (sym (rolls-Apply function parts)) ∙ fold-roll-Expr (Unit {0}) ℕ (λ _. tt) (converted_in_level x) (Expr-F.Apply function parts)

pub converted_count-Hold : (x : ℕ) (y : ℕ) → converted_count x (Hold y) ≡ 0
unfolding converted_count
converted_count-Hold x y = ap (converted_count x) (sym (rolls-Hold y)) ∙ fold-roll-Expr (Unit {0}) ℕ (λ _. tt) (converted_in_level x) (Expr-F.Hold y)

pub way_to-Apply : (x : ℕ) (function : Fun) (parts : List Expr) → way_to x (Apply function parts) ≡ way_through x (Expr-F.Apply function (map (way_to x) parts))
unfolding way_to
way_to-Apply x function parts = ap (way_to x) (sym (rolls-Apply function parts)) ∙ fold-roll-Expr (Unit {0}) Way (λ _. tt) (way_through x) (Expr-F.Apply function parts)

pub way_to-Hold : (x : ℕ) (y : ℕ) → way_to x (Hold y) ≡ way_through x (Expr-F.Hold y)
unfolding way_to
way_to-Hold x y = ap (way_to x) (sym (rolls-Hold y)) ∙ fold-roll-Expr (Unit {0}) Way (λ _. tt) (way_through x) (Expr-F.Hold y)

pub ruleset levels = (bare_count-Const, bare_count-Read, bare_count-Previous, bare_count-Chain, held_count-Const, held_count-Read, held_count-Previous, held_count-Chain, converted_count-Const, converted_count-Read, converted_count-Previous, converted_count-Chain, is_reached-Const, is_reached-Read, is_reached-Chain, bare_count-Relation, bare_count-Apply, bare_count-Hold, held_count-Relation, held_count-Apply, held_count-Hold, converted_count-Relation, converted_count-Apply, converted_count-Hold)

pub ruleset ways = (way_to-Const, way_to-Read, way_to-Previous, way_to-Chain, way_to-Apply, way_to-Hold)
