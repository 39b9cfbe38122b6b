-- An expression needs no more instructions than its definition allows it.
use Rattle.std.proofs.Common.{◌≡◌, sym, subst, ℕ, suc, ◌+◌, ◌*◌, ◌≤◌, Bool, true, false, List, [], ◌∷◌, ◌++◌, length, length-append, map, Option, Some, None, arith}
use Rattle.sync_values.specs.declared.value.ChainOp.{ChainOp}
use Rattle.flat_model.specs.declared.expression.Expr.{Expr}
use Rattle.flat_model.specs.declared.expression.Fun.{Fun}
use Rattle.flat_model.specs.declared.clock.ClockExpr.{ClockExpr}
use Rattle.flat_model.specs.declared.clock.ClockExpr.TheOpen.{Expr-F}
use Rattle.flat_model.specs.declared.clock.ClockExpr.TheViews.{roll-Expr}
use Rattle.flat_model.specs.declared.clock.ClockExpr.TheFolds.{ind-Expr, fold-roll-Expr, map-Expr}
use Rattle.step_code.specs.declared.machine.Op.{Op}
use Rattle.step_code.specs.declared.machine.Op.TheVariants as op
use Rattle.step_code.specs.declared.machine.Instr.{Instr}
use Rattle.step_code.specs.Code.{Cells, cells_before, Piece, Shape, shape_of, shape_of_level, pieces_at, cell_piece, guarded, value_truth, instr, code_or_none, held_code, held_place, unary_code, binary_code, choose_code, is_lazy, op_of_chain, op_of_rel, op_of_fun, strict_code, lazy_code, joined_code, more_code, first_code, chain_code, turn_code, if_code, call_code}
use Rattle.step_code.proofs.Emitting.{shape_roll}
use Rattle.part_code.specs.Uncoded.{total, instructions_of_level, most_instructions}

-- a piece has at most so many instructions
abbrev AtMost : Piece → ℕ → Type 0
AtMost p n = (d t : ℕ) → length (p.code d t) ≤ n

cell_most : (o : Option ℕ) (truth : Bool) → AtMost (cell_piece o truth) 1
cell_most None truth d t = omega arith
cell_most (Some c) truth d t = omega arith

guarded_most : (o : Option ℕ) (u : ℕ) → AtMost (guarded o u) 1
guarded_most None u d t = omega arith
guarded_most (Some c) u d t = omega arith

none_or : (o : Option ℕ) (is : List Instr) → length (code_or_none o is) ≤ length is
none_or None is = omega arith
none_or (Some c) is = omega arith

held_most : (p : Piece) (n : ℕ) → AtMost p n → (d t : ℕ) → length (held_code p d t) ≤ n
held_most p n most d t = let some = none_or p.leaf (p.code d t) in let all = most d t in omega (arith, some, all)

unary_most : (o : Op) (p : Piece) (n : ℕ) → AtMost p n → (d t : ℕ) → length (unary_code o p d t) ≤ n + 1
unary_most o p n most d t =
    let size = length-append (held_code p d t) (instr o d (held_place p d) (held_place p d) ∷ []) in
    let part = held_most p n most d t in
    omega (arith, size, part)

binary_most : (o : Op) (p q : Piece) (n m : ℕ) → AtMost p n → AtMost q m → (d t : ℕ) → length (binary_code o p q d t) ≤ n + m + 1
binary_most o p q n m p_most q_most d t =
    let size = length-append (held_code p d t) (held_code q t (suc t) ++ instr o d (held_place p d) (held_place q t) ∷ []) in
    let more = length-append (held_code q t (suc t)) (instr o d (held_place p d) (held_place q t) ∷ []) in
    let left = held_most p n p_most d t in
    let right = held_most q m q_most t (suc t) in
    omega (arith, size, more, left, right)

choose_most : (b : Bool) (x y : List Instr) (n : ℕ) → length x ≤ n → length y ≤ n → length (choose_code b x y) ≤ n
choose_most true x y n first second = first
choose_most false x y n first second = second

strict_most : (o : Op) (q : Piece) (m : ℕ) → AtMost q m → (d t : ℕ) → length (strict_code o d q d t) ≤ m + 1
strict_most o q m most d t =
    let size = length-append (held_code q t (suc t)) (instr o d d (held_place q t) ∷ []) in
    let part = held_most q m most t (suc t) in
    omega (arith, size, part)

lazy_most : (o : Op) (q : Piece) (m : ℕ) → AtMost q m → (d t : ℕ) → length (lazy_code o q d t) ≤ m + 1
lazy_most o q m most d t = let part = most d t in omega (arith, part)

joined_most : (o : ChainOp) (q : Piece) (m : ℕ) → AtMost q m → (d t : ℕ) → length (joined_code o q d t) ≤ m + 1
joined_most o q m most d t = choose_most (is_lazy o) (lazy_code (op_of_chain o) q d t) (strict_code (op_of_chain o) d q d t) (m + 1) (lazy_most (op_of_chain o) q m most d t) (strict_most (op_of_chain o) q m most d t)

first_most : (o : ChainOp) (p q : Piece) (n m : ℕ) → AtMost p n → AtMost q m → (d t : ℕ) → length (first_code o p q d t) ≤ n + m + 1
first_most o p q n m p_most q_most d t =
    let size = length-append (p.code d t) (lazy_code (op_of_chain o) q d t) in
    let left = p_most d t in
    let right = lazy_most (op_of_chain o) q m q_most d t in
    choose_most (is_lazy o) (p.code d t ++ lazy_code (op_of_chain o) q d t) (binary_code (op_of_chain o) p q d t) (n + m + 1) (omega (arith, size, left, right)) (binary_most (op_of_chain o) p q n m p_most q_most d t)

turn_most : (c b : Piece) (n m : ℕ) → AtMost c n → AtMost b m → (after d t : ℕ) → length (turn_code c b after d t) ≤ n + m + 2
turn_most c b n m c_most b_most after d t =
    let size = length-append (held_code c d t) (instr op.SkipIfFalse (length (b.code d t) + 1) (held_place c d) (held_place c d) ∷ (b.code d t ++ instr op.Skip after d d ∷ [])) in
    let more = length-append (b.code d t) (instr op.Skip after d d ∷ []) in
    let left = held_most c n c_most d t in
    let right = b_most d t in
    omega (arith, size, more, left, right)

abbrev IsWithinMost : Expr → Type 0
IsWithinMost e = (at : Cells) → AtMost (shape_of e at) (most_instructions e)

module _ {A B : Type 0} (f : A → ClockExpr) (g : B → Expr) (all : (b : B) → IsWithinMost (g b)) where
  abbrev pieces : Cells → List B → List Piece
  pieces at zs = pieces_at at (map shape_of (map g zs))

  abbrev counts : List B → List ℕ
  counts zs = map most_instructions (map g zs)

  more_most : (at : Cells) (ops : List ChainOp) (zs : List B) (d t : ℕ) → length (more_code ops (pieces at zs) d t) ≤ total (counts zs) + length (counts zs)
  more_most at [] [] d t = omega arith
  more_most at [] (z ∷ zs) d t = omega arith
  more_most at (o ∷ ops) [] d t = omega arith
  more_most at (o ∷ ops) (z ∷ zs) d t =
      let size = length-append (joined_code o (shape_of (g z) at) d t) (more_code ops (pieces at zs) d t) in
      let one = joined_most o (shape_of (g z) at) (most_instructions (g z)) (all z at) d t in
      let rest = more_most at ops zs d t in
      omega (arith, size, one, rest)

  chain_most : (at : Cells) (ops : List ChainOp) (zs : List B) (d t : ℕ) → length (chain_code ops (pieces at zs) d t) ≤ total (counts zs) + length (counts zs)
  chain_most at [] zs d t = omega arith
  chain_most at (o ∷ ops) [] d t = omega arith
  chain_most at (o ∷ ops) (y ∷ []) d t = omega arith
  chain_most at (o ∷ ops) (y ∷ (z ∷ zs)) d t =
      let size = length-append (first_code o (shape_of (g y) at) (shape_of (g z) at) d t) (more_code ops (pieces at zs) d t) in
      let one = first_most o (shape_of (g y) at) (shape_of (g z) at) (most_instructions (g y)) (most_instructions (g z)) (all y at) (all z at) d t in
      let rest = more_most at ops zs d t in
      omega (arith, size, one, rest)

  if_most : (at : Cells) (cs bs : List B) (other : B) (d t : ℕ) → length (if_code (pieces at cs) (pieces at bs) (shape_of (g other) at) d t) ≤ total (counts cs) + total (counts bs) + most_instructions (g other) + 2 * length (counts bs)
  if_most at [] bs other d t = let one = all other at d t in omega (arith, one)
  if_most at (c ∷ cs) [] other d t = let one = all other at d t in omega (arith, one)
  if_most at (c ∷ cs) (b ∷ bs) other d t =
      let rest = if_code (pieces at cs) (pieces at bs) (shape_of (g other) at) d t in
      let size = length-append (turn_code (shape_of (g c) at) (shape_of (g b) at) (length rest) d t) rest in
      let one = turn_most (shape_of (g c) at) (shape_of (g b) at) (most_instructions (g c)) (most_instructions (g b)) (all c at) (all b at) (length rest) d t in
      let more = if_most at cs bs other d t in
      omega (arith, size, one, more)

  call_most : (at : Cells) (h : Fun) (zs : List B) (d t : ℕ) → length (call_code h (pieces at zs) d t) ≤ total (counts zs) + 1
  call_most at h [] d t = omega arith
  call_most at h (y ∷ []) d t = let one = unary_most (op_of_fun h) (shape_of (g y) at) (most_instructions (g y)) (all y at) d t in omega (arith, one)
  call_most at h (y ∷ (z ∷ [])) d t = let one = binary_most (op_of_fun h) (shape_of (g y) at) (shape_of (g z) at) (most_instructions (g y)) (most_instructions (g z)) (all y at) (all z at) d t in omega (arith, one)
  call_most at h (x ∷ (y ∷ (z ∷ zs))) d t = omega arith

  level_most : (y : Expr-F A B) (at : Cells) → AtMost (shape_of_level (map-Expr ClockExpr Expr (Unit {0}) Shape (λ _. tt) shape_of (map-Expr A B ClockExpr Expr f g y)) at) (instructions_of_level (map-Expr ClockExpr Expr (Unit {0}) ℕ (λ _. tt) most_instructions (map-Expr A B ClockExpr Expr f g y)))
  level_most (Expr-F.Const v) at = cell_most ((at 0).const v) (value_truth v)
  level_most (Expr-F.Read x) at = cell_most ((at 0).now x) ((at 0).truth x)
  level_most (Expr-F.Chain ps ops) at = chain_most at ops ps
  level_most (Expr-F.Relation r p q) at = binary_most (op_of_rel r) (shape_of (g p) at) (shape_of (g q) at) (most_instructions (g p)) (most_instructions (g q)) (all p at) (all q at)
  level_most (Expr-F.Neg p) at = unary_most op.Negate (shape_of (g p) at) (most_instructions (g p)) (all p at)
  level_most (Expr-F.Not p) at = unary_most op.Invert (shape_of (g p) at) (most_instructions (g p)) (all p at)
  level_most (Expr-F.If cs bs other) at = if_most at cs bs other
  level_most (Expr-F.Apply h ps) at = call_most at h ps
  level_most (Expr-F.Previous x) at = cell_most ((at 0).previous x) ((at 0).truth x)
  level_most (Expr-F.FirstTick x) at = cell_most (at 0).first true
  level_most (Expr-F.IntervalTimes x k) at = guarded_most ((at 0).interval k) ((at 0).unfit k)
  level_most (Expr-F.Hold x) at = cell_most ((at 0).last x) ((at 0).truth x)
  level_most (Expr-F.«Expr::Convert» conversion x) at = cell_most ((at 0).last x) ((at 0).truth x)
  level_most (Expr-F.Sample p clock) at = all p (cells_before at)

most_roll : (y : Expr-F ClockExpr Expr) → most_instructions (roll-Expr y) ≡ instructions_of_level (map-Expr ClockExpr Expr (Unit {0}) ℕ (λ _. tt) most_instructions y)
unfolding most_instructions
most_roll y = fold-roll-Expr (Unit {0}) ℕ (λ _. tt) instructions_of_level y

rolled : {A B : Type 0} (f : A → ClockExpr) (g : B → Expr) (all : (b : B) → IsWithinMost (g b)) (y : Expr-F A B) → IsWithinMost (roll-Expr (map-Expr A B ClockExpr Expr f g y))
rolled f g all y at =
    let z = map-Expr _ _ ClockExpr Expr f g y in
    subst (λ shape. AtMost (shape at) (most_instructions (roll-Expr z))) (sym (shape_roll z)) (subst (AtMost (shape_of_level (map-Expr ClockExpr Expr (Unit {0}) Shape (λ _. tt) shape_of z) at)) (sym (most_roll z)) (level_most f g all y at))

-- the code of an expression is no longer than that, whatever the cells are
pub code_most : (e : Expr) → IsWithinMost e
code_most = ind-Expr (λ c. Unit {0}) IsWithinMost (λ x y is. tt) (λ x y is. subst (λ z. IsWithinMost (roll-Expr z)) is (rolled (λ c. c.0) (λ e. e.0) (λ e. e.1) y))
