-- Where the making of code stands.
use Rattle.std.proofs.Common.{◌≡◌, refl, ap, ap₂, ◌∙◌, sym, subst, ℕ, zero, suc, ◌-◌, ◌<◌, ◌≤◌, List, [], ◌∷◌, ◌++◌, length, length-append, append_assoc, map, drop, get_or, drop-cons, Option, Some, None, Bool, true, arith}
use Rattle.sync_values.specs.declared.value.ChainOp.{ChainOp}
use Rattle.flat_model.specs.declared.expression.Expr.{Expr}
use Rattle.flat_model.specs.declared.clock.ClockExpr.{ClockExpr}
use Rattle.flat_model.specs.declared.clock.ClockExpr.TheOpen.{Expr-F}
use Rattle.flat_model.specs.declared.clock.ClockExpr.TheViews.{roll-Expr}
use Rattle.flat_model.specs.declared.clock.ClockExpr.TheFolds.{ind-Expr, fold-roll-Expr, map-Expr}
use Rattle.step_code.specs.declared.machine.Op.TheVariants as op
use Rattle.step_code.specs.declared.machine.Instr.{Instr}
use Rattle.step_code.specs.Code.{Cells, cells_before, Piece, Shape, shape_of, shape_of_level, guarded, value_truth, instr, piece_of, cell_piece, joined_code, more_code, turn_code, if_code}

pub record CodeLeft (out old made : List Instr) (i n : ℕ) : Type 0 where
  pub code : out ≡ made ++ old
  pub within : i ≤ n

drop_map : {A B : Type 0} (f : A → B) (k : ℕ) (xs : List A) → drop k (map f xs) ≡ map f (drop k xs)
drop_map f zero xs = refl
drop_map f (suc k) [] = refl
drop_map f (suc k) (x ∷ xs) = drop_map f k xs

drop_at : {A B : Type 0} (f : A → B) (k : ℕ) (xs : List A) (x : A) → k < length xs → x ≡ get_or xs k x → drop k (map f xs) ≡ f x ∷ drop (suc k) (map f xs)
drop_at f k xs x within is =
    drop_map f k xs ∙ ap (map f) (drop-cons xs k x within ∙ ap (λ y. y ∷ drop (suc k) xs) (sym is)) ∙ ap (λ ys. f x ∷ ys) (sym (drop_map f (suc k) xs))

left_on : (new out old made more piece : List Instr) (i n : ℕ) → CodeLeft out old made i n → new ≡ piece ++ out → more ≡ piece ++ made → (k : ℕ) → k ≤ i → CodeLeft new old more k n
left_on new out old made more piece i n left is eq k le = record {
  code = is ∙ ap (λ o. piece ++ o) left.code ∙ sym (append_assoc piece made old) ∙ ap (λ m. m ++ old) (sym eq);
  within = omega (arith, left.within, le);
}

module _ (at : Cells) where
  P : Expr → Piece
  P = piece_of at

  pub chain_turn : (new out old : List Instr) (ops : List ChainOp) (parts : List Expr) (i : ℕ) (o : ChainOp) (part : Expr) (d t : ℕ) → 0 < i → length parts ≡ length ops
      → CodeLeft out old (more_code (drop i ops) (drop i (map (piece_of at) parts)) d t) i (length ops)
      → part ≡ get_or parts (i - 1) part
      → new ≡ joined_code (get_or ops (i - 1) o) (piece_of at part) d t ++ out
      → CodeLeft new old (more_code (drop (i - 1) ops) (drop (i - 1) (map (piece_of at) parts)) d t) (i - 1) (length ops)
  chain_turn new out old ops parts i o part d t some same left is eq =
      let k = i - 1 in
      let step : suc k ≡ i = omega (arith, some) in
      let in_ops : k < length ops = omega (arith, some, left.within) in
      let in_parts : k < length parts = omega (arith, some, left.within, same) in
      let turn : more_code (drop k ops) (drop k (map (piece_of at) parts)) d t ≡ joined_code (get_or ops k o) (piece_of at part) d t ++ more_code (drop (suc k) ops) (drop (suc k) (map (piece_of at) parts)) d t
      = ap₂ (λ a b. more_code a b d t) (drop-cons ops k o in_ops) (drop_at (piece_of at) k parts part in_parts is) in
      left_on new out old _ _ (joined_code (get_or ops k o) (piece_of at part) d t) i (length ops) left eq
      (turn ∙ ap (λ n. joined_code (get_or ops k o) (piece_of at part) d t ++ more_code (drop n ops) (drop n (map (piece_of at) parts)) d t) step) k (omega arith)

  pub choice_turn : (new out old : List Instr) (cs bs : List Expr) (other : Expr) (i after before : ℕ) (c b : Expr) (d t : ℕ) → 0 < i → length cs ≡ length bs
      → CodeLeft out old (if_code (drop i (map (piece_of at) cs)) (drop i (map (piece_of at) bs)) (piece_of at other) d t) i (length cs)
      → c ≡ get_or cs (i - 1) c → b ≡ get_or bs (i - 1) b
      → before ≡ length old → after ≡ length out - before
      → new ≡ turn_code (piece_of at c) (piece_of at b) after d t ++ out
      → CodeLeft new old (if_code (drop (i - 1) (map (piece_of at) cs)) (drop (i - 1) (map (piece_of at) bs)) (piece_of at other) d t) (i - 1) (length cs)
  choice_turn new out old cs bs other i after before c b d t some same left is_c is_b was length_is eq =
      let k = i - 1 in
      let step : suc k ≡ i = omega (arith, some) in
      let in_cs : k < length cs = omega (arith, some, left.within) in
      let in_bs : k < length bs = omega (arith, some, left.within, same) in
      let made = if_code (drop i (map (piece_of at) cs)) (drop i (map (piece_of at) bs)) (piece_of at other) d t in
      let size : length made ≡ after = omega (arith, ap length left.code, length-append made old, was, length_is) in
      let turn : if_code (drop k (map (piece_of at) cs)) (drop k (map (piece_of at) bs)) (piece_of at other) d t ≡ if_code (piece_of at c ∷ drop (suc k) (map (piece_of at) cs)) (piece_of at b ∷ drop (suc k) (map (piece_of at) bs)) (piece_of at other) d t
      = ap₂ (λ x y. if_code x y (piece_of at other) d t) (drop_at (piece_of at) k cs c in_cs is_c) (drop_at (piece_of at) k bs b in_bs is_b) in
      let moved : if_code (piece_of at c ∷ drop (suc k) (map (piece_of at) cs)) (piece_of at b ∷ drop (suc k) (map (piece_of at) bs)) (piece_of at other) d t ≡ turn_code (piece_of at c) (piece_of at b) (length made) d t ++ made
      = ap (λ n. turn_code (piece_of at c) (piece_of at b) (length (if_code (drop n (map (piece_of at) cs)) (drop n (map (piece_of at) bs)) (piece_of at other) d t)) d t ++ if_code (drop n (map (piece_of at) cs)) (drop n (map (piece_of at) bs)) (piece_of at other) d t) step in
      left_on new out old made _ (turn_code (piece_of at c) (piece_of at b) after d t) i (length cs) left eq
      (turn ∙ moved ∙ ap (λ n. turn_code (piece_of at c) (piece_of at b) n d t ++ made) size) k (omega arith)

  -- an expression that is a cell is moved
  abbrev Moves : Piece → Type 0
  Moves p = (c : ℕ) → p.leaf ≡ Some c → (d t : ℕ) → p.code d t ≡ instr op.Move d c c ∷ []

  cell_moves : (o : Option ℕ) (truth : Bool) → Moves (cell_piece o truth)
  cell_moves None truth c is d t = cc
  cell_moves (Some b) truth c is d t = let same : b ≡ c = cc in ap (λ n. instr op.Move d n n ∷ []) same

  guarded_moves : (o : Option ℕ) (u : ℕ) → Moves (guarded o u)
  guarded_moves None u c is d t = cc
  guarded_moves (Some b) u c is d t = cc

abbrev MovesAll : Shape → Type 0
MovesAll shape = (at : Cells) → Moves at (shape at)

level_moves : {A B : Type 0} (f : A → ClockExpr) (g : B → Expr) (all : (b : B) → MovesAll (shape_of (g b))) (y : Expr-F A B) → MovesAll (shape_of_level (map-Expr ClockExpr Expr (Unit {0}) Shape (λ _. tt) shape_of (map-Expr A B ClockExpr Expr f g y)))
level_moves f g all (Expr-F.Const v) at c is d t = cell_moves at ((at 0).const v) (value_truth v) c is d t
level_moves f g all (Expr-F.Read x) at c is d t = cell_moves at ((at 0).now x) ((at 0).truth x) c is d t
level_moves f g all (Expr-F.Chain ps ops) at c is d t = cc
level_moves f g all (Expr-F.Relation r p q) at c is d t = cc
level_moves f g all (Expr-F.Neg p) at c is d t = cc
level_moves f g all (Expr-F.Not p) at c is d t = cc
level_moves f g all (Expr-F.If cs bs other) at c is d t = cc
level_moves f g all (Expr-F.Apply h ps) at c is d t = cc
level_moves f g all (Expr-F.Previous x) at c is d t = cell_moves at ((at 0).previous x) ((at 0).truth x) c is d t
level_moves f g all (Expr-F.FirstTick x) at c is d t = cell_moves at (at 0).first true c is d t
level_moves f g all (Expr-F.IntervalTimes x k) at c is d t = guarded_moves at ((at 0).interval k) ((at 0).unfit k) c is d t
level_moves f g all (Expr-F.Hold x) at c is d t = cell_moves at ((at 0).last x) ((at 0).truth x) c is d t
level_moves f g all (Expr-F.«Expr::Convert» conversion x) at c is d t = cell_moves at ((at 0).last x) ((at 0).truth x) c is d t
level_moves f g all (Expr-F.Sample p clock) at c is d t = all p (cells_before at) c is d t

pub shape_roll : (y : Expr-F ClockExpr Expr) → shape_of (roll-Expr y) ≡ shape_of_level (map-Expr ClockExpr Expr (Unit {0}) Shape (λ _. tt) shape_of y)
unfolding shape_of
shape_roll y = fold-roll-Expr (Unit {0}) Shape (λ _. tt) shape_of_level y

all_moves : (e : Expr) → MovesAll (shape_of e)
all_moves =
    ind-Expr (λ c. Unit {0}) (λ e. MovesAll (shape_of e)) (λ x y is. tt)
    (λ x y is. subst (λ z. MovesAll (shape_of (roll-Expr z))) is (subst MovesAll (sym (shape_roll (map-Expr _ _ ClockExpr Expr (λ c. c.0) (λ e. e.0) y))) (level_moves (λ c. c.0) (λ e. e.0) (λ e. e.1) y)))

pub leaf_moves : (at : Cells) (e : Expr) (c : ℕ) → (piece_of at e).leaf ≡ Some c → (d t : ℕ) → (piece_of at e).code d t ≡ instr op.Move d c c ∷ []
leaf_moves at e = all_moves e at
