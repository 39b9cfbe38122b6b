-- Where names stand in the expressions of one level, and what a way passes by.
use Rattle.std.proofs.Common.{◌≡◌, ap, ◌∙◌, sym, ℕ, ◌==◌, Bool, List, map, sum}
use Rattle.sync_values.specs.declared.value.Value.{Value}
use Rattle.sync_values.specs.declared.value.ChainOp.{ChainOp}
use Rattle.flat_model.specs.declared.expression.Expr.{Expr}
use Rattle.flat_model.specs.declared.expression.Expr.TheVariants.{Const, Read, Chain, Previous, rolls-Const, rolls-Read, rolls-Chain, rolls-Previous}
use Rattle.flat_model.specs.declared.clock.ClockExpr.TheOpen.{Expr-F}
use Rattle.flat_model.specs.declared.clock.ClockExpr.TheFolds.{fold-roll-Expr}
use Rattle.flat_model.specs.Occurrences.{one_if, bare_in_level, held_in_level, converted_in_level, reached_in_level, bare_count, held_count, converted_count, is_reached}
use Rattle.flat_model.specs.Ways.{Way, way_through, way_to}

pub bare_count-Const : (x : ℕ) (v : Value) → bare_count x (Const v) ≡ 0
unfolding bare_count
bare_count-Const x v = ap (bare_count x) (sym (rolls-Const v)) ∙ fold-roll-Expr (Unit {0}) ℕ (λ _. tt) (bare_in_level x) (Expr-F.Const v)

pub bare_count-Read : (x : ℕ) (y : ℕ) → bare_count x (Read y) ≡ one_if (y == x)
unfolding bare_count
bare_count-Read x y = ap (bare_count x) (sym (rolls-Read y)) ∙ fold-roll-Expr (Unit {0}) ℕ (λ _. tt) (bare_in_level x) (Expr-F.Read y)

pub bare_count-Previous : (x : ℕ) (y : ℕ) → bare_count x (Previous y) ≡ 0
unfolding bare_count
bare_count-Previous x y = ap (bare_count x) (sym (rolls-Previous y)) ∙ fold-roll-Expr (Unit {0}) ℕ (λ _. tt) (bare_in_level x) (Expr-F.Previous y)

pub bare_count-Chain : (x : ℕ) (parts : List Expr) (ops : List ChainOp) → bare_count x (Chain parts ops) ≡ sum (map (bare_count x) parts)
unfolding bare_count
bare_count-Chain x parts ops = ap (bare_count x) (sym (rolls-Chain parts ops)) ∙ fold-roll-Expr (Unit {0}) ℕ (λ _. tt) (bare_in_level x) (Expr-F.Chain parts ops)

pub held_count-Const : (x : ℕ) (v : Value) → held_count x (Const v) ≡ 0
unfolding held_count
held_count-Const x v = ap (held_count x) (sym (rolls-Const v)) ∙ fold-roll-Expr (Unit {0}) ℕ (λ _. tt) (held_in_level x) (Expr-F.Const v)

pub held_count-Read : (x : ℕ) (y : ℕ) → held_count x (Read y) ≡ 0
unfolding held_count
held_count-Read x y = ap (held_count x) (sym (rolls-Read y)) ∙ fold-roll-Expr (Unit {0}) ℕ (λ _. tt) (held_in_level x) (Expr-F.Read y)

pub held_count-Previous : (x : ℕ) (y : ℕ) → held_count x (Previous y) ≡ 0
unfolding held_count
held_count-Previous x y = ap (held_count x) (sym (rolls-Previous y)) ∙ fold-roll-Expr (Unit {0}) ℕ (λ _. tt) (held_in_level x) (Expr-F.Previous y)

pub held_count-Chain : (x : ℕ) (parts : List Expr) (ops : List ChainOp) → held_count x (Chain parts ops) ≡ sum (map (held_count x) parts)
unfolding held_count
held_count-Chain x parts ops = ap (held_count x) (sym (rolls-Chain parts ops)) ∙ fold-roll-Expr (Unit {0}) ℕ (λ _. tt) (held_in_level x) (Expr-F.Chain parts ops)

pub converted_count-Const : (x : ℕ) (v : Value) → converted_count x (Const v) ≡ 0
unfolding converted_count
converted_count-Const x v = ap (converted_count x) (sym (rolls-Const v)) ∙ fold-roll-Expr (Unit {0}) ℕ (λ _. tt) (converted_in_level x) (Expr-F.Const v)

pub converted_count-Read : (x : ℕ) (y : ℕ) → converted_count x (Read y) ≡ 0
unfolding converted_count
converted_count-Read x y = ap (converted_count x) (sym (rolls-Read y)) ∙ fold-roll-Expr (Unit {0}) ℕ (λ _. tt) (converted_in_level x) (Expr-F.Read y)

pub converted_count-Previous : (x : ℕ) (y : ℕ) → converted_count x (Previous y) ≡ 0
unfolding converted_count
converted_count-Previous x y = ap (converted_count x) (sym (rolls-Previous y)) ∙ fold-roll-Expr (Unit {0}) ℕ (λ _. tt) (converted_in_level x) (Expr-F.Previous y)

pub converted_count-Chain : (x : ℕ) (parts : List Expr) (ops : List ChainOp) → converted_count x (Chain parts ops) ≡ sum (map (converted_count x) parts)
unfolding converted_count
converted_count-Chain x parts ops = ap (converted_count x) (sym (rolls-Chain parts ops)) ∙ fold-roll-Expr (Unit {0}) ℕ (λ _. tt) (converted_in_level x) (Expr-F.Chain parts ops)

pub is_reached-Read : (x : ℕ) (y : ℕ) → is_reached x (Read y) ≡ y == x
unfolding is_reached
is_reached-Read x y = ap (is_reached x) (sym (rolls-Read y)) ∙ fold-roll-Expr (Unit {0}) Bool (λ _. tt) (reached_in_level x) (Expr-F.Read y)

pub way_to-Const : (x : ℕ) (v : Value) → way_to x (Const v) ≡ way_through x (Expr-F.Const v)
unfolding way_to
way_to-Const x v = ap (way_to x) (sym (rolls-Const v)) ∙ fold-roll-Expr (Unit {0}) Way (λ _. tt) (way_through x) (Expr-F.Const v)

pub way_to-Read : (x : ℕ) (y : ℕ) → way_to x (Read y) ≡ way_through x (Expr-F.Read y)
unfolding way_to
way_to-Read x y = ap (way_to x) (sym (rolls-Read y)) ∙ fold-roll-Expr (Unit {0}) Way (λ _. tt) (way_through x) (Expr-F.Read y)

pub way_to-Previous : (x : ℕ) (y : ℕ) → way_to x (Previous y) ≡ way_through x (Expr-F.Previous y)
unfolding way_to
way_to-Previous x y = ap (way_to x) (sym (rolls-Previous y)) ∙ fold-roll-Expr (Unit {0}) Way (λ _. tt) (way_through x) (Expr-F.Previous y)

pub way_to-Chain : (x : ℕ) (parts : List Expr) (ops : List ChainOp) → way_to x (Chain parts ops) ≡ way_through x (Expr-F.Chain (map (way_to x) parts) ops)
unfolding way_to
way_to-Chain x parts ops = ap (way_to x) (sym (rolls-Chain parts ops)) ∙ fold-roll-Expr (Unit {0}) Way (λ _. tt) (way_through x) (Expr-F.Chain parts ops)
