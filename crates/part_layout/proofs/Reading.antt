-- The equations of `keys_read`, one for each kind of expression, and what comes of keys that are added one after the other.
use Rattle.std.proofs.Common.{◌≡◌, refl, ap, ◌∙◌, sym, subst, ℕ, suc, ◌+◌, ◌<◌, ◌≤◌, ◌^◌, List, [], ◌∷◌, ◌++◌, length, get_or, drop, Option, Result, Ok, Err, IsErr, IsErrAnd, arith}
use Rattle.std.proofs.Math.Seq.{drop-cons}
use Rattle.std.proofs.lemmas.Bool.{false≢true}
use Rattle.sync_values.specs.Relation.{rank}
use Rattle.sync_values.specs.declared.value.Value.{Value}
use Rattle.sync_values.specs.declared.value.Rel.{Rel}
use Rattle.sync_values.specs.declared.value.ChainOp.{ChainOp}
use Rattle.flat_model.specs.declared.expression.Fun.{Fun}
use Rattle.flat_model.specs.declared.clock.Conversion.{Conversion}
use Rattle.flat_model.specs.declared.clock.ClockExpr.{ClockExpr}
use Rattle.flat_model.specs.declared.expression.Expr.{Expr}
use Rattle.flat_model.specs.declared.expression.Expr.TheVariants.{Const, Read, Chain, Relation, Neg, Not, If, Apply, Previous, FirstTick, IntervalTimes, Hold, Convert, Sample, rolls-Const, rolls-Read, rolls-Chain, rolls-Relation, rolls-Neg, rolls-Not, rolls-If, rolls-Apply, rolls-Previous, rolls-FirstTick, rolls-IntervalTimes, rolls-Hold, rolls-Convert, rolls-Sample}
use Rattle.flat_model.specs.declared.clock.ClockExpr.TheOpen.{Expr-F}
use Rattle.flat_model.specs.declared.clock.ClockExpr.TheFolds.{fold-roll-Expr}
use Rattle.cell_keys.specs.declared.key.CellKey.{CellKey}
use Rattle.cell_keys.specs.declared.key.CellKey.TheVariants as key
use Rattle.cell_keys.specs.declared.keys.NoCell.{NoCell}
use Rattle.cell_keys.specs.declared.keys.NoCell.TheVariants.{Memory, Large}
use Rattle.cell_keys.specs.Cells.{with_keys, Adds}
use Rattle.cell_keys.proofs.Distinct.{with_both, longer}
use Rattle.cell_keys.specs.declared.sight.Sight.{Sight}
use Rattle.part_layout.specs.declared.lines.PartLine.{PartLine}
use Rattle.part_layout.specs.Reads.{Reading, keys_of_line, keys_of_lines, Lays, before, value_keys, previous_keys, last_keys, first_keys, interval_keys, keys_of_level, keys_read, all_keys_read}

pub keys_read-Const : (v : Value) (class : ℕ) (sight : Sight) → keys_read (Const v) class sight ≡ key.Constant (rank v) ∷ []
unfolding keys_read
keys_read-Const v class sight = ap (λ e. keys_read e class sight) (sym (rolls-Const v)) ∙ ap (λ f. f class sight) (fold-roll-Expr (Unit {0}) Reading (λ _. tt) keys_of_level (Expr-F.Const v))

pub keys_read-Read : (x : ℕ) (class : ℕ) (sight : Sight) → keys_read (Read x) class sight ≡ value_keys sight x
unfolding keys_read
keys_read-Read x class sight = ap (λ e. keys_read e class sight) (sym (rolls-Read x)) ∙ ap (λ f. f class sight) (fold-roll-Expr (Unit {0}) Reading (λ _. tt) keys_of_level (Expr-F.Read x))

pub keys_read-Chain : (parts : List Expr) (ops : List ChainOp) (class : ℕ) (sight : Sight) → keys_read (Chain parts ops) class sight ≡ all_keys_read parts class sight
unfolding keys_read
keys_read-Chain parts ops class sight = ap (λ e. keys_read e class sight) (sym (rolls-Chain parts ops)) ∙ ap (λ f. f class sight) (fold-roll-Expr (Unit {0}) Reading (λ _. tt) keys_of_level (Expr-F.Chain parts ops))

pub keys_read-Relation : (rel : Rel) (left right : Expr) (class : ℕ) (sight : Sight) → keys_read (Relation rel left right) class sight ≡ keys_read left class sight ++ keys_read right class sight
unfolding keys_read
keys_read-Relation rel left right class sight = ap (λ e. keys_read e class sight) (sym (rolls-Relation rel left right)) ∙ ap (λ f. f class sight) (fold-roll-Expr (Unit {0}) Reading (λ _. tt) keys_of_level (Expr-F.Relation rel left right))

pub keys_read-Neg : (part : Expr) (class : ℕ) (sight : Sight) → keys_read (Neg part) class sight ≡ keys_read part class sight
unfolding keys_read
keys_read-Neg part class sight = ap (λ e. keys_read e class sight) (sym (rolls-Neg part)) ∙ ap (λ f. f class sight) (fold-roll-Expr (Unit {0}) Reading (λ _. tt) keys_of_level (Expr-F.Neg part))

pub keys_read-Not : (part : Expr) (class : ℕ) (sight : Sight) → keys_read (Not part) class sight ≡ keys_read part class sight
unfolding keys_read
keys_read-Not part class sight = ap (λ e. keys_read e class sight) (sym (rolls-Not part)) ∙ ap (λ f. f class sight) (fold-roll-Expr (Unit {0}) Reading (λ _. tt) keys_of_level (Expr-F.Not part))

pub keys_read-If : (cs bs : List Expr) (other : Expr) (class : ℕ) (sight : Sight) → keys_read (If cs bs other) class sight ≡ all_keys_read cs class sight ++ (all_keys_read bs class sight ++ keys_read other class sight)
unfolding keys_read
keys_read-If cs bs other class sight = ap (λ e. keys_read e class sight) (sym (rolls-If cs bs other)) ∙ ap (λ f. f class sight) (fold-roll-Expr (Unit {0}) Reading (λ _. tt) keys_of_level (Expr-F.If cs bs other))

pub keys_read-Apply : (function : Fun) (parts : List Expr) (class : ℕ) (sight : Sight) → keys_read (Apply function parts) class sight ≡ all_keys_read parts class sight
unfolding keys_read
keys_read-Apply function parts class sight = ap (λ e. keys_read e class sight) (sym (rolls-Apply function parts)) ∙ ap (λ f. f class sight) (fold-roll-Expr (Unit {0}) Reading (λ _. tt) keys_of_level (Expr-F.Apply function parts))

pub keys_read-Previous : (x : ℕ) (class : ℕ) (sight : Sight) → keys_read (Previous x) class sight ≡ previous_keys sight x
unfolding keys_read
keys_read-Previous x class sight = ap (λ e. keys_read e class sight) (sym (rolls-Previous x)) ∙ ap (λ f. f class sight) (fold-roll-Expr (Unit {0}) Reading (λ _. tt) keys_of_level (Expr-F.Previous x))

pub keys_read-FirstTick : (x : Option ℕ) (class : ℕ) (sight : Sight) → keys_read (FirstTick x) class sight ≡ first_keys sight class
unfolding keys_read
keys_read-FirstTick x class sight = ap (λ e. keys_read e class sight) (sym (rolls-FirstTick x)) ∙ ap (λ f. f class sight) (fold-roll-Expr (Unit {0}) Reading (λ _. tt) keys_of_level (Expr-F.FirstTick x))

pub keys_read-IntervalTimes : (x : Option ℕ) (k : ℕ) (class : ℕ) (sight : Sight) → keys_read (IntervalTimes x k) class sight ≡ interval_keys sight class k
unfolding keys_read
keys_read-IntervalTimes x k class sight = ap (λ e. keys_read e class sight) (sym (rolls-IntervalTimes x k)) ∙ ap (λ f. f class sight) (fold-roll-Expr (Unit {0}) Reading (λ _. tt) keys_of_level (Expr-F.IntervalTimes x k))

pub keys_read-Hold : (x : ℕ) (class : ℕ) (sight : Sight) → keys_read (Hold x) class sight ≡ last_keys sight x
unfolding keys_read
keys_read-Hold x class sight = ap (λ e. keys_read e class sight) (sym (rolls-Hold x)) ∙ ap (λ f. f class sight) (fold-roll-Expr (Unit {0}) Reading (λ _. tt) keys_of_level (Expr-F.Hold x))

pub keys_read-Convert : (conversion : Conversion) (x : ℕ) (class : ℕ) (sight : Sight) → keys_read (Convert conversion x) class sight ≡ last_keys sight x
unfolding keys_read
keys_read-Convert conversion x class sight = ap (λ e. keys_read e class sight) (sym (rolls-Convert conversion x)) ∙ ap (λ f. f class sight) (fold-roll-Expr (Unit {0}) Reading (λ _. tt) keys_of_level (Expr-F.«Expr::Convert» conversion x))

pub keys_read-Sample : (part : Expr) (clock : Option ClockExpr) (class : ℕ) (sight : Sight) → keys_read (Sample part clock) class sight ≡ keys_read part class (before sight)
unfolding keys_read
keys_read-Sample part clock class sight = ap (λ e. keys_read e class sight) (sym (rolls-Sample part clock)) ∙ ap (λ f. f class sight) (fold-roll-Expr (Unit {0}) Reading (λ _. tt) keys_of_level (Expr-F.Sample part clock))

pub ruleset readings = (keys_read-Const, keys_read-Read, keys_read-Chain, keys_read-Relation, keys_read-Neg, keys_read-Not, keys_read-If, keys_read-Apply, keys_read-Previous, keys_read-FirstTick, keys_read-IntervalTimes, keys_read-Hold, keys_read-Convert, keys_read-Sample)

-- ---- keys that are added one after the other

pub adds_then : {B : Type 0} (old a mid b new : List CellKey) (r : Result B NoCell) → mid ≡ with_keys old a → Adds {A = B} mid b new r → Adds {A = B} old (a ++ b) new r
adds_then old a mid b new (Ok y) first second = second ∙ ap (λ ks. with_keys ks b) first ∙ sym (with_both old a b)
adds_then old a mid b new (Err Memory) first second = tt
adds_then old a mid b new (Err Large) first second = subst (λ ks. 2 ^ 32 ≤ length ks) (ap (λ ks. with_keys ks b) first ∙ sym (with_both old a b)) second

-- what a `?` hands on, where these keys and others were asked from the keys so far
pub adds_err : {B : Type 0} (old asked so_far a b new : List CellKey) (r : Result B NoCell) (kind : NoCell) → IsErr r → IsErrAnd r (λ k. k ≡ kind)
    → with_keys so_far (a ++ b) ≡ with_keys old asked → Adds {A = Unit {0}} so_far a new (Err kind) → Adds {A = B} old asked new r
adds_err {B} old asked so_far a b new (Ok done) kind err same whole first = absurd (false≢true err)
adds_err {B} old asked so_far a b new (Err k) kind err same whole first = by_kind kind k same first
  where
    by_kind : (kind k : NoCell) → k ≡ kind → Adds {A = Unit {0}} so_far a new (Err kind) → Adds {A = B} old asked new (Err k)
    by_kind kind Memory same first = tt
    by_kind Memory Large same first = absurd (other same)
      where
        other : Large ≡ Memory → ⊥
        other e = cc
    by_kind Large Large same first =
        let more = longer (with_keys so_far a) b in
        subst (λ ks. 2 ^ 32 ≤ length ks) (sym (with_both so_far a b) ∙ whole) (omega (arith, first, more))

pub lays_err : (asked so_far a b new : List CellKey) (r : Result (List CellKey) NoCell) (kind : NoCell) → IsErr r → IsErrAnd r (λ k. k ≡ kind)
    → with_keys so_far (a ++ b) ≡ with_keys [] asked → Adds {A = Unit {0}} so_far a new (Err kind) → Lays asked r
lays_err asked so_far a b new (Ok keys) kind err same whole first = absurd (false≢true err)
lays_err asked so_far a b new (Err Memory) kind err same whole first = tt
lays_err asked so_far a b new (Err Large) kind err same whole first = adds_err {B = Unit {0}} [] asked so_far a b new (Err Large) kind err same whole first

-- ---- the parts from a place on

next_is : (i : ℕ) → suc i ≡ i + 1
next_is i = omega arith

pub parts_from : (parts : List Expr) (i : ℕ) (part : Expr) (class : ℕ) (sight : Sight) → i < length parts → part ≡ get_or parts i part
    → keys_read part class sight ++ all_keys_read (drop (i + 1) parts) class sight ≡ all_keys_read (drop i parts) class sight
parts_from parts i part class sight within is =
    ap (λ n. keys_read part class sight ++ all_keys_read (drop n parts) class sight) (sym (next_is i))
    ∙ ap (λ p. keys_read p class sight ++ all_keys_read (drop (suc i) parts) class sight) is
    ∙ ap (λ ps. all_keys_read ps class sight) (sym (drop-cons parts i part within))

pub one_more : (so_far new whole : List CellKey) (parts : List Expr) (i : ℕ) (part : Expr) (class : ℕ) (sight : Sight) → i < length parts → part ≡ get_or parts i part
    → with_keys so_far (all_keys_read (drop i parts) class sight) ≡ whole → new ≡ with_keys so_far (keys_read part class sight) → with_keys new (all_keys_read (drop (i + 1) parts) class sight) ≡ whole
one_more so_far new whole parts i part class sight within is all added =
    ap (λ ks. with_keys ks (all_keys_read (drop (i + 1) parts) class sight)) added
    ∙ sym (with_both so_far (keys_read part class sight) (all_keys_read (drop (i + 1) parts) class sight))
    ∙ ap (with_keys so_far) (parts_from parts i part class sight within is) ∙ all

pub lines_from : (lines : List PartLine) (i : ℕ) (line : PartLine) → i < length lines → line ≡ get_or lines i line → keys_of_line line ++ keys_of_lines (drop (i + 1) lines) ≡ keys_of_lines (drop i lines)
lines_from lines i line within is =
    ap (λ n. keys_of_line line ++ keys_of_lines (drop n lines)) (sym (next_is i))
    ∙ ap (λ l. keys_of_line l ++ keys_of_lines (drop (suc i) lines)) is
    ∙ ap keys_of_lines (sym (drop-cons lines i line within))

pub one_line_more : (so_far new whole : List CellKey) (lines : List PartLine) (i : ℕ) (line : PartLine) → i < length lines → line ≡ get_or lines i line
    → with_keys so_far (keys_of_lines (drop i lines)) ≡ whole → new ≡ with_keys so_far (keys_of_line line) → with_keys new (keys_of_lines (drop (i + 1) lines)) ≡ whole
one_line_more so_far new whole lines i line within is all added =
    ap (λ ks. with_keys ks (keys_of_lines (drop (i + 1) lines))) added
    ∙ sym (with_both so_far (keys_of_line line) (keys_of_lines (drop (i + 1) lines)))
    ∙ ap (with_keys so_far) (lines_from lines i line within is) ∙ all
