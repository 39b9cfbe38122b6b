-- The code of each expression gives its value.
use Rattle.std.proofs.Common.{◌≡◌, refl, ap, sym, subst, ℕ, ◌<◌, ℤ, true, false, ◌&&◌, List, [], ◌∷◌, length, map, Some}
use Rattle.sync_values.specs.declared.value.Value.{Value}
use Rattle.sync_values.specs.declared.value.Value.TheVariants as value
use Rattle.flat_model.specs.declared.expression.Expr.{Expr}
use Rattle.flat_model.specs.declared.clock.ClockExpr.{ClockExpr}
use Rattle.flat_model.specs.declared.clock.ClockExpr.TheOpen.{Expr-F}
use Rattle.flat_model.specs.declared.clock.ClockExpr.TheViews.{roll-Expr}
use Rattle.flat_model.specs.declared.clock.ClockExpr.TheFolds.{ind-Expr, fold-roll-Expr, map-Expr}
use Rattle.flat_model.specs.Operators.{Answer, Is, Fails, Absent, relation, negated, inverted, chosen, read}
use Rattle.flat_model.specs.Operators as Operators
use Rattle.flat_model.specs.Functions.{called}
use Rattle.flat_model.specs.Views.{Views, before}
use Rattle.flat_model.specs.Meaning.{Meaning, meaning_of_level, seen_by, whole_of, value_of}
use Rattle.sync_values.specs.Arithmetic.{fitted}
use Rattle.step_code.specs.declared.machine.Op.TheVariants as op
use Rattle.step_code.specs.Machine.{AreWithin}
use Rattle.step_code.specs.Code.{Cells, cells_before, Shape, shape_of, shape_of_level, pieces_at, piece_of, value_truth, all_known, all_truths, is_chain, is_call, is_if, chain_code, chain_truth, binary_code, unary_code, if_code, call_code, op_of_rel}
use Rattle.step_code.specs.Correct.{IsTruth, IsHeld, Stands, AreTruths, Gives}
use Rattle.step_code.proofs.Emitting.{shape_roll}
use Rattle.step_code.proofs.Giving.{stands_before, truths_before}
use Rattle.step_code.proofs.Righting.{and_left, and_right, Right, AllRight, made_right, cell_right, guarded_right, chain_gives, chain_truths, if_gives, if_truths, call_gives, binary, unary, rel_is_value, joins_relation, relation_truth, turns_negated, turns_inverted, inverted_truth, no_truth}

value_roll : (y : Expr-F ClockExpr Expr) (views : Views) → value_of (roll-Expr y) views ≡ meaning_of_level (map-Expr ClockExpr Expr (Unit {0}) Meaning (λ _. tt) value_of y) views
unfolding value_of
value_roll y views = ap (λ f. f views) (fold-roll-Expr (Unit {0}) Meaning (λ _. tt) meaning_of_level y)

unknown : false ≡ true → ⊥
unknown e = cc

abbrev Good : Expr → Type 0
Good e = (at : Cells) (views : Views) → AreTruths at views → (piece_of at e).known ≡ true → Right at views (piece_of at e) (value_of e views)

module _ {A B : Type 0} (f : A → ClockExpr) (g : B → Expr) (all : (b : B) → Good (g b)) where
  all_right : (at : Cells) (views : Views) → AreTruths at views → (zs : List B) → all_known (pieces_at at (map shape_of (map g zs))) ≡ true → AllRight at views (pieces_at at (map shape_of (map g zs))) (seen_by views (map value_of (map g zs)))
  all_right at views truths [] known = tt
  all_right at views truths (z ∷ zs) known =
      let first = (piece_of at (g z)).known in
      let rest = all_known (pieces_at at (map shape_of (map g zs))) in
      (all z at views truths (and_left first rest known), all_right at views truths zs (and_right first rest known))

  level_good : (y : Expr-F A B) (at : Cells) (views : Views) → AreTruths at views → (shape_of_level (map-Expr ClockExpr Expr (Unit {0}) Shape (λ _. tt) shape_of (map-Expr A B ClockExpr Expr f g y)) at).known ≡ true
      → Right at views (shape_of_level (map-Expr ClockExpr Expr (Unit {0}) Shape (λ _. tt) shape_of (map-Expr A B ClockExpr Expr f g y)) at) (meaning_of_level (map-Expr ClockExpr Expr (Unit {0}) Meaning (λ _. tt) value_of (map-Expr A B ClockExpr Expr f g y)) views)
  level_good (Expr-F.Const v) at views truths known = cell_right at views ((at 0).const v) (value_truth v) (Some v) (λ c w is has cells d t s. subst (IsHeld cells d t c) (some_is v w has) (s.const 0 v c is)) (λ truth w has. subst IsTruth (some_is v w has) (const_truth v truth)) known where
    some_is : (v w : Value) → Some v ≡ Some w → v ≡ w
    some_is v w h = cc

    const_truth : (v : Value) → value_truth v ≡ true → IsTruth v
    const_truth (value.Int z) h = no_truth at views (value.Int z) h
    const_truth (value.Bool b) h = tt
  level_good (Expr-F.Read x) at views truths known = cell_right at views ((at 0).now x) ((at 0).truth x) ((views 0).now x) (λ c v is has cells d t s. s.now 0 x c v is has) (λ truth v has. truths.now 0 x v truth has) known
  level_good (Expr-F.Chain ps ops) at views truths known =
      let pieces = pieces_at at (map shape_of (map g ps)) in
      let rs = seen_by views (map value_of (map g ps)) in
      let shape = and_left (is_chain ops pieces) (all_known pieces) known in
      let right = all_right at views truths ps (and_right (is_chain ops pieces) (all_known pieces) known) in
      made_right at views (chain_code ops pieces) (is_chain ops pieces && all_known pieces) (chain_truth ops) (Operators.chain ops rs) (chain_gives at views ops pieces rs shape right) (chain_truths at views ops pieces rs shape right)
  level_good (Expr-F.Relation r p q) at views truths known =
      let left = piece_of at (g p) in
      let right = piece_of at (g q) in
      let l = value_of (g p) views in
      let m = value_of (g q) views in
      made_right at views (binary_code (op_of_rel r) left right) (left.known && right.known) true (relation r l m)
      (binary at views (op_of_rel r) left right l m (relation r l m) (rel_is_value at views r) (all p at views truths (and_left left.known right.known known)) (all q at views truths (and_right left.known right.known known)) (joins_relation at views r l m))
      (λ truth w eq. relation_truth at views r l m w eq)
  level_good (Expr-F.Neg p) at views truths known =
      let l = value_of (g p) views in
      made_right at views (unary_code op.Negate (piece_of at (g p))) (piece_of at (g p)).known false (negated l) (unary at views op.Negate (piece_of at (g p)) l (negated l) refl (all p at views truths known) (turns_negated at views l)) (λ truth w eq. no_truth at views w truth)
  level_good (Expr-F.Not p) at views truths known =
      let l = value_of (g p) views in
      made_right at views (unary_code op.Invert (piece_of at (g p))) (piece_of at (g p)).known true (inverted l) (unary at views op.Invert (piece_of at (g p)) l (inverted l) refl (all p at views truths known) (turns_inverted at views l)) (λ truth w eq. inverted_truth at views l w eq)
  level_good (Expr-F.If cs bs other) at views truths known =
      let ps = pieces_at at (map shape_of (map g cs)) in
      let qs = pieces_at at (map shape_of (map g bs)) in
      let o = piece_of at (g other) in
      let xs = seen_by views (map value_of (map g cs)) in
      let ys = seen_by views (map value_of (map g bs)) in
      let z = value_of (g other) views in
      let k = and_right (is_if ps qs) (all_known ps && (all_known qs && o.known)) known in
      let k2 = and_right (all_known ps) (all_known qs && o.known) k in
      let right_b = all_right at views truths bs (and_left (all_known qs) o.known k2) in
      let right_o = all other at views truths (and_right (all_known qs) o.known k2) in
      made_right at views (if_code ps qs o) (is_if ps qs && (all_known ps && (all_known qs && o.known))) (all_truths qs && o.truth) (chosen xs ys z)
      (if_gives at views ps qs o xs ys z (and_left (is_if ps qs) (all_known ps && (all_known qs && o.known)) known) (all_right at views truths cs (and_left (all_known ps) (all_known qs && o.known) k)) right_b right_o)
      (λ truth w eq. if_truths at views qs o xs ys z right_b right_o (and_left (all_truths qs) o.truth truth) (and_right (all_truths qs) o.truth truth) w eq)
  level_good (Expr-F.Apply function ps) at views truths known =
      let pieces = pieces_at at (map shape_of (map g ps)) in
      let rs = seen_by views (map value_of (map g ps)) in
      made_right at views (call_code function pieces) (is_call pieces && all_known pieces) false (called function rs)
      (call_gives at views function pieces rs (and_left (is_call pieces) (all_known pieces) known) (all_right at views truths ps (and_right (is_call pieces) (all_known pieces) known)))
      (λ truth w eq. no_truth at views w truth)
  level_good (Expr-F.Previous x) at views truths known = cell_right at views ((at 0).previous x) ((at 0).truth x) ((views 0).previous x) (λ c v is has cells d t s. s.previous 0 x c v is has) (λ truth v has. truths.previous 0 x v truth has) known
  level_good (Expr-F.FirstTick x) at views truths known = cell_right at views (at 0).first true (Some (value.Bool (views 0).first)) (λ c w is has cells d t s. subst (IsHeld cells d t c) (some_is (value.Bool (views 0).first) w has) (s.first 0 c is)) (λ truth w has. subst IsTruth (some_is (value.Bool (views 0).first) w has) tt) known where
    some_is : (v w : Value) → Some v ≡ Some w → v ≡ w
    some_is v w h = cc
  level_good (Expr-F.IntervalTimes x k) at views truths known = guarded_right at views ((at 0).interval k) ((at 0).unfit k) (fitted (whole_of (views 0).interval k)) (λ c is cells d t s. s.interval 0 k c is) known
  level_good (Expr-F.Hold x) at views truths known = cell_right at views ((at 0).last x) ((at 0).truth x) ((views 0).last x) (λ c v is has cells d t s. s.last 0 x c v is has) (λ truth v has. truths.last 0 x v truth has) known
  level_good (Expr-F.«Expr::Convert» conversion x) at views truths known = cell_right at views ((at 0).last x) ((at 0).truth x) ((views 0).last x) (λ c v is has cells d t s. s.last 0 x c v is has) (λ truth v has. truths.last 0 x v truth has) known
  level_good (Expr-F.Sample p clock) at views truths known =
      let right = all p (cells_before at) (before views) (truths_before at views truths) known in
      record {
        code = λ cells d t below s within. right.code cells d t below (stands_before at cells d t views s) within;
        held = λ cells d t below s within. right.held cells d t below (stands_before at cells d t views s) within;
        truth = right.truth;
      }

  rolled : (y : Expr-F A B) → Good (roll-Expr (map-Expr A B ClockExpr Expr f g y))
  rolled y at views truths known =
      let z = map-Expr A B ClockExpr Expr f g y in
      let piece : piece_of at (roll-Expr z) ≡ shape_of_level (map-Expr ClockExpr Expr (Unit {0}) Shape (λ _. tt) shape_of z) at = ap (λ h. h at) (shape_roll z) in
      let value = value_roll z views in
      let right = level_good y at views truths (subst (λ p. p.known ≡ true) piece known) in
      subst (λ p. Right at views p (value_of (roll-Expr z) views)) (sym piece) (subst (Right at views (shape_of_level (map-Expr ClockExpr Expr (Unit {0}) Shape (λ _. tt) shape_of z) at)) (sym value) right)

good : (e : Expr) → Good e
good = ind-Expr (λ c. Unit {0}) Good (λ x y is. tt) (λ x y is. subst (λ z. Good (roll-Expr z)) is (rolled (λ c. c.0) (λ e. e.0) (λ e. e.1) y))

-- the code of a known expression gives its value, seen from views that the cells stand for
pub code_right : (at : Cells) (views : Views) → AreTruths at views → (e : Expr) → (piece_of at e).known ≡ true → Right at views (piece_of at e) (value_of e views)
code_right at views truths e = good e at views truths

pub code_gives : (at : Cells) (views : Views) → AreTruths at views → (e : Expr) → (piece_of at e).known ≡ true → (cells : List ℤ) (d t : ℕ) → d < t → Stands at cells d t views → AreWithin (length cells) ((piece_of at e).code d t) → Gives ((piece_of at e).code d t) cells d t d (value_of e views)
code_gives at views truths e known = (code_right at views truths e known).code
