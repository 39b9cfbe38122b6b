-- How often a name stands in an expression, from its parts.
use Rattle.std.proofs.Common.{◌≡◌, ap, sym, ◌∙◌, ℕ, ◌+◌, List, map, sum, Result, Ok, Err, arith}
use Rattle.std.specs.Prelude.{OnOk, IfOk}
use Rattle.sync_values.specs.declared.value.ChainOp.{ChainOp}
use Rattle.flat_model.specs.declared.expression.Fun.{Fun}
use Rattle.flat_model.specs.declared.expression.Expr.{Expr}
use Rattle.flat_model.specs.declared.expression.Expr.TheVariants.{Chain, If, Apply}
use Rattle.eq_orient.specs.declared.standing.Manner.{Manner}
use Rattle.eq_orient.specs.Spine.{count_in}
use Rattle.eq_orient.proofs.Counts.{count_in-Chain, count_in-If, count_in-Apply}

pub on_ok : {A E : Type 0} (r : Result A E) (P Q : Type 0) → (P → Q) → OnOk r P → OnOk r Q
on_ok (Ok v) P Q f h = f h
on_ok (Err e) P Q f h = tt

pub chain_count : (m : Manner) (x : ℕ) (e : Expr) (parts slice : List Expr) (ops : List ChainOp) (old new : ℕ) → e ≡ Chain parts ops → slice ≡ parts
    → new ≡ old + sum (map (count_in m x) slice) → new ≡ old + count_in m x e
chain_count m x e parts slice ops old new is same all =
    all ∙ ap (λ n. old + n) (ap (λ ps. sum (map (count_in m x) ps)) same ∙ (sym (count_in-Chain m x parts ops) ∙ ap (count_in m x) (sym is)))

pub call_count : (m : Manner) (x : ℕ) (e : Expr) (function : Fun) (parts slice : List Expr) (old new : ℕ) → e ≡ Apply function parts → slice ≡ parts
    → new ≡ old + sum (map (count_in m x) slice) → new ≡ old + count_in m x e
call_count m x e function parts slice old new is same all =
    all ∙ ap (λ n. old + n) (ap (λ ps. sum (map (count_in m x) ps)) same ∙ (sym (count_in-Apply m x function parts) ∙ ap (count_in m x) (sym is)))

pub choice_count : (m : Manner) (x : ℕ) (e : Expr) (conditions branches first second : List Expr) (other : Expr) (old a b new : ℕ) → e ≡ If conditions branches other
    → first ≡ conditions → second ≡ branches → a ≡ old + sum (map (count_in m x) first) → b ≡ a + sum (map (count_in m x) second) → new ≡ b + count_in m x other
    → new ≡ old + count_in m x e
choice_count m x e conditions branches first second other old a b new is same same_too p q r =
    let whole : count_in m x e ≡ sum (map (count_in m x) conditions) + sum (map (count_in m x) branches) + count_in m x other = ap (count_in m x) is ∙ count_in-If m x conditions branches other in
    let s : sum (map (count_in m x) first) ≡ sum (map (count_in m x) conditions) = ap (λ ps. sum (map (count_in m x) ps)) same in
    let t : sum (map (count_in m x) second) ≡ sum (map (count_in m x) branches) = ap (λ ps. sum (map (count_in m x) ps)) same_too in
    omega (arith, whole, s, t, p, q, r)

pub if_ok : {A E : Type 0} (r : Result A E) (P Q : A → Type 0) → ((v : A) → P v → Q v) → IfOk r P → IfOk r Q
if_ok (Ok v) P Q f h = f v h
if_ok (Err e) P Q f h = tt
