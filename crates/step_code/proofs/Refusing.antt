-- Why no code is made: what one part is refused for stands for the whole.
use Rattle.std.proofs.Common.{◌≡◌, refl, ap, sym, ◌∙◌, ℕ, zero, suc, ◌+◌, ◌-◌, ◌^◌, ◌<◌, ◌≤◌, ◌==◌, Bool, true, false, ◌&&◌, ◌⊎◌, inl, inr, subst, List, [], ◌∷◌, ◌++◌, length, length-append, append_assoc, map, drop, get_or, Option, Result, Ok, Err, arith}
use Rattle.std.proofs.lemmas.Bool.{false≢true}
use Rattle.std.proofs.lemmas.Bool.Decides.{eqb_tells}
use Rattle.std.specs.Result.{IsErr, IsErrAnd}
use Rattle.sync_values.specs.declared.value.ChainOp.{ChainOp}
use Rattle.flat_model.specs.declared.expression.Expr.{Expr}
use Rattle.step_code.specs.declared.compile.NoCode.{NoCode}
use Rattle.step_code.specs.declared.compile.NoCode.TheVariants.{Memory, Unknown, Large}
use Rattle.step_code.specs.declared.machine.Instr.{Instr}
use Rattle.step_code.specs.declared.machine.Op.TheVariants as op
use Rattle.step_code.proofs.Emitting.{CodeLeft}
use Rattle.step_code.specs.Code.{instr, held_code, held_place, Cells, Piece, piece_of, cell_piece, is_chain, is_if, all_known, joined_code, more_code, first_code, chain_code, turn_code, if_code}
use Rattle.step_code.specs.Emits.{IsRefused, Emits}

both_true : (a b : Bool) → a && b ≡ true → (a ≡ true) × (b ≡ true)
both_true true b e = (refl, e)
both_true false b e = absurd (false≢true e)

-- a whole that is known has known parts, and is at least as large
pub refused_more : (part whole : Bool) (n m : ℕ) (kind : NoCode) → (whole ≡ true → part ≡ true) → n ≤ m → IsRefused part n kind → IsRefused whole m kind
refused_more part whole n m Memory known le is = tt
refused_more part true n m Unknown known le is = absurd (false≢true (sym is ∙ known refl))
refused_more part false n m Unknown known le is = refl
refused_more part whole n m Large known le is = omega (arith, is, le)

pub refused_memory : (known : Bool) (n : ℕ) (kind : NoCode) → kind ≡ Memory → IsRefused known n kind
refused_memory known n Memory is = tt
refused_memory known n Unknown is = absurd (bad is) where
  bad : Unknown ≡ Memory → ⊥
  bad e = cc
refused_memory known n Large is = absurd (bad is) where
  bad : Large ≡ Memory → ⊥
  bad e = cc

pub refused_large : (known : Bool) (n m : ℕ) (kind : NoCode) → (kind ≡ Large) × (2 ^ 32 ≤ n) → n ≤ m → IsRefused known m kind
refused_large known n m Memory is le = tt
refused_large known n m Unknown is le = absurd (bad is.0) where
  bad : Unknown ≡ Large → ⊥
  bad e = cc
refused_large known n m Large is le = let big = is.1 in omega (arith, big, le)

-- the code of a part goes before the rest of the whole
pub emits_on : {A : Type 0} (part whole : Bool) (code rest old mid new : List Instr) (t : ℕ) (r : Result A NoCode) → (whole ≡ true → part ≡ true) → mid ≡ rest ++ old → Emits code part t mid new r → Emits (code ++ rest) whole t old new r
emits_on part whole code rest old mid new t (Ok done) known is emits = emits ∙ ap (λ m. code ++ m) is ∙ sym (append_assoc code rest old)
emits_on part whole code rest old mid new t (Err kind) known is emits =
    let size = length-append code rest in
    refused_more part whole _ _ kind known (omega (arith, size)) emits

-- a part that stands behind another one
pub refused_behind : (part whole : Bool) (code rest : List Instr) (t : ℕ) (kind : NoCode) → (whole ≡ true → part ≡ true) → IsRefused part (t + length rest) kind → IsRefused whole (t + length (code ++ rest)) kind
refused_behind part whole code rest t kind known is =
    let size = length-append code rest in
    refused_more part whole _ _ kind known (omega (arith, size)) is

-- a right operand, which leaves one cell more
pub refused_right : (part whole : Bool) (first code : List Instr) (instr : Instr) (t : ℕ) (kind : NoCode) → (whole ≡ true → part ≡ true) → IsRefused part (t + 1 + length code) kind → IsRefused whole (t + length (first ++ (code ++ (instr ∷ [])))) kind
refused_right part whole first code instr t kind known is =
    let size = length-append first (code ++ (instr ∷ [])) in
    let more = length-append code (instr ∷ []) in
    refused_more part whole _ _ kind known (omega (arith, size, more)) is

and_both : (a b : Bool) → a ≡ true → b ≡ true → a && b ≡ true
and_both true b h k = k
and_both false b h k = h

pub left_known : (a b : Bool) → a && b ≡ true → a ≡ true
left_known a b e = (both_true a b e).0

pub right_known : (a b : Bool) → a && b ≡ true → b ≡ true
right_known a b e = (both_true a b e).1

-- an expression that is a cell already
pub cell_emits : {A : Type 0} (at : Cells) (e : Expr) (o leaf : Option ℕ) (truth : Bool) (d t : ℕ) (old new : List Instr) (r : Result A NoCode) → piece_of at e ≡ cell_piece o truth → (piece_of at e).leaf ≡ o → leaf ≡ (piece_of at e).leaf
    → ((free : ℕ) (truth : Bool) → Emits ((cell_piece leaf truth).code d free) (cell_piece leaf truth).known free old new r) → Emits ((piece_of at e).code d t) (piece_of at e).known t old new r
cell_emits at e o leaf truth d t old new r piece is same emits = rw piece (rw (same ∙ is) at (emits t truth))

-- what a `?` hands on
pub emits_err : {A : Type 0} (code : List Instr) (known : Bool) (t : ℕ) (old new : List Instr) (r : Result A NoCode) (kind : NoCode) → IsErr r → IsErrAnd r (λ k. k ≡ kind) → IsRefused known (t + length code) kind → Emits code known t old new r
emits_err code known t old new (Ok done) kind err same is = absurd same
emits_err code known t old new (Err k) kind err same is = subst (IsRefused known (t + length code)) (sym same) is

-- ---- the parts of a chain, of a choice and of a call

pub no_parts : (ops : List ChainOp) → is_chain ops [] ≡ false
no_parts [] = refl
no_parts (o ∷ ops) = refl

pub one_part : (ops : List ChainOp) (p : Piece) → is_chain ops (p ∷ []) ≡ false
one_part [] p = refl
one_part (o ∷ ops) p = refl

pub not_both : (a b : Bool) → a ≡ false → a && b ≡ false
not_both false b is = refl
not_both true b is = absurd (false≢true (sym is))

not_same : (m n : ℕ) → (m ≡ n → ⊥) → m == n ≡ false
not_same m n other = by_case (eqb_tells m n)
  where
    by_case : ((m == n ≡ true) × (m ≡ n)) ⊎ ((m == n ≡ false) × (m ≡ n → ⊥)) → m == n ≡ false
    by_case (inl (t, is)) = absurd (other is)
    by_case (inr (f, off)) = f

pub other_length : (o : ChainOp) (ops : List ChainOp) (p q : Piece) (ps : List Piece) → (length ops ≡ length ps → ⊥) → is_chain (o ∷ ops) (p ∷ q ∷ ps) ≡ false
other_length o ops p q ps other = not_both (length ops == length ps) _ (not_same (length ops) (length ps) other)

pub other_branches : (cs bs : List Piece) → (length cs ≡ length bs → ⊥) → is_if cs bs ≡ false
other_branches [] [] other = absurd (other refl)
other_branches [] (b ∷ bs) other = refl
other_branches (c ∷ cs) [] other = refl
other_branches (c ∷ cs) (b ∷ bs) other = other_branches cs bs (λ e. other (ap suc e))

-- one of known pieces is known
pub known_at : (at : Cells) (parts : List Expr) (k : ℕ) (part : Expr) → k < length parts → part ≡ get_or parts k part → all_known (map (piece_of at) parts) ≡ true → (piece_of at part).known ≡ true
known_at at [] k part within is known = absurd (omega (arith, within))
known_at at (e ∷ es) zero part within is known = ap (λ z. (piece_of at z).known) is ∙ (both_true (piece_of at e).known _ known).0
known_at at (e ∷ es) (suc k) part within is known = known_at at es k part (omega (arith, within)) is (both_true (piece_of at e).known _ known).1

le_by : (n a b : ℕ) → n ≡ a + b → a ≤ n
le_by n a b e = omega (arith, e)

le_more : (m n a b : ℕ) → m ≤ b → n ≡ a + b → m ≤ n
le_more m n a b le e = omega (arith, le, e)

pub length_map : {A B : Type 0} (f : A → B) (xs : List A) → length (map f xs) ≡ length xs
length_map f [] = refl
length_map f (x ∷ xs) = ap suc (length_map f xs)

module _ (at : Cells) where
  abbrev P : Expr → Piece
  P e = piece_of at e

  -- one more part is no longer than all of them
  pub joined_within : (ops : List ChainOp) (parts : List Expr) (k : ℕ) (o : ChainOp) (part : Expr) (d t : ℕ) → k < length ops → k < length parts → part ≡ get_or parts k part
      → length (joined_code (get_or ops k o) (piece_of at part) d t) ≤ length (more_code ops (map (piece_of at) parts) d t)
  joined_within [] parts k o part d t in_ops in_parts is = absurd (omega (arith, in_ops))
  joined_within (p ∷ ops) [] k o part d t in_ops in_parts is = absurd (omega (arith, in_parts))
  joined_within (p ∷ ops) (e ∷ es) zero o part d t in_ops in_parts is =
      let size = length-append (joined_code p (P e) d t) (more_code ops (map (piece_of at) es) d t) in
      subst (λ z. length (joined_code p (P z) d t) ≤ length (more_code (p ∷ ops) (map (piece_of at) (e ∷ es)) d t)) (sym is) (le_by _ _ _ size)
  joined_within (p ∷ ops) (e ∷ es) (suc k) o part d t in_ops in_parts is =
      let size = length-append (joined_code p (P e) d t) (more_code ops (map (piece_of at) es) d t) in
      let rest = joined_within ops es k o part d t (omega (arith, in_ops)) (omega (arith, in_parts)) is in
      le_more _ _ _ _ rest size

  -- the code from one branch on is no longer than all of it
  pub branches_within : (cs bs : List Expr) (other : Piece) (k : ℕ) (d t : ℕ) → length cs ≡ length bs → length (if_code (drop k (map (piece_of at) cs)) (drop k (map (piece_of at) bs)) other d t) ≤ length (if_code (map (piece_of at) cs) (map (piece_of at) bs) other d t)
  branches_within cs bs other zero d t same = omega arith
  branches_within [] [] other (suc k) d t same = omega arith
  branches_within [] (b ∷ bs) other (suc k) d t same = absurd (omega (arith, same))
  branches_within (c ∷ cs) [] other (suc k) d t same = absurd (omega (arith, same))
  branches_within (c ∷ cs) (b ∷ bs) other (suc k) d t same =
      let rest = branches_within cs bs other k d t (omega (arith, same)) in
      let whole = if_code (map (piece_of at) cs) (map (piece_of at) bs) other d t in
      let size = length-append (turn_code (P c) (P b) (length whole) d t) whole in
      le_more _ _ _ _ rest size

  -- the last branch is no longer than all of them
  pub other_within : (cs bs : List Piece) (other : Piece) (d t : ℕ) → length (other.code d t) ≤ length (if_code cs bs other d t)
  other_within [] [] other d t = omega arith
  other_within [] (b ∷ bs) other d t = omega arith
  other_within (c ∷ cs) [] other d t = omega arith
  other_within (c ∷ cs) (b ∷ bs) other d t =
      let rest = other_within cs bs other d t in
      let whole = if_code cs bs other d t in
      let size = length-append (turn_code c b (length whole) d t) whole in
      le_more _ _ _ _ rest size

  -- a chain is refused for one of its parts
  pub chain_part : (parts rest : List Expr) (ops others : List ChainOp) (first second : Expr) (op o : ChainOp) (k : ℕ) (part : Expr) (d t : ℕ) (kind : NoCode) → parts ≡ first ∷ (second ∷ rest) → ops ≡ op ∷ others
      → k < length others → k < length rest → part ≡ get_or rest k part
      → IsRefused (piece_of at part).known (t + length (joined_code (get_or others k o) (piece_of at part) d t)) kind
      → IsRefused (is_chain ops (map (piece_of at) parts) && all_known (map (piece_of at) parts)) (t + length (chain_code ops (map (piece_of at) parts) d t)) kind
  chain_part parts rest ops others first second op o k part d t kind parts_are ops_are in_ops in_rest is refused =
      rw (parts_are, ops_are)
      (let ps = map (piece_of at) rest in
      let size = length-append (first_code op (piece_of at first) (piece_of at second) d t) (more_code others ps d t) in
      let within = joined_within others rest k o part d t in_ops in_rest is in
      refused_more (piece_of at part).known _ _ _ kind
      (λ known. known_at at rest k part in_rest is (right_known (piece_of at second).known _ (right_known (piece_of at first).known _ (right_known _ _ known))))
      (omega (arith, size, within)) refused)

  -- a choice is refused for its last branch
  pub choice_other : (cs bs : List Expr) (other : Expr) (d t : ℕ) (kind : NoCode) → IsRefused (piece_of at other).known (t + length ((piece_of at other).code d t)) kind
      → IsRefused (is_if (map (piece_of at) cs) (map (piece_of at) bs) && (all_known (map (piece_of at) cs) && (all_known (map (piece_of at) bs) && (piece_of at other).known))) (t + length (if_code (map (piece_of at) cs) (map (piece_of at) bs) (piece_of at other) d t)) kind
  choice_other cs bs other d t kind refused =
      let within = other_within (map (piece_of at) cs) (map (piece_of at) bs) (piece_of at other) d t in
      refused_more (piece_of at other).known _ _ _ kind (λ known. right_known (all_known (map (piece_of at) bs)) _ (right_known (all_known (map (piece_of at) cs)) _ (right_known (is_if (map (piece_of at) cs) (map (piece_of at) bs)) _ known))) (omega (arith, within)) refused

  turn_size : (c b : Piece) (after others : ℕ) (d t : ℕ) → length (turn_code c b after d t) ≡ length (turn_code c b others d t)
  turn_size c b after others d t =
      let one = length-append (held_code c d t) (instr op.SkipIfFalse (length (b.code d t) + 1) (held_place c d) (held_place c d) ∷ (b.code d t ++ (instr op.Skip after d d ∷ []))) in
      let two = length-append (held_code c d t) (instr op.SkipIfFalse (length (b.code d t) + 1) (held_place c d) (held_place c d) ∷ (b.code d t ++ (instr op.Skip others d d ∷ []))) in
      let three = length-append (b.code d t) (instr op.Skip after d d ∷ []) in
      let four = length-append (b.code d t) (instr op.Skip others d d ∷ []) in
      same_size _ _ _ _ _ _ one two three four
    where
      same_size : (m n h a b e : ℕ) → m ≡ h + suc a → n ≡ h + suc b → a ≡ e + 1 → b ≡ e + 1 → m ≡ n
      same_size m n h a b e one two three four = omega (arith, one, two, three, four)

  turn_within : (cs bs : List Expr) (other : Piece) (k after : ℕ) (c b : Expr) (d t : ℕ) → k < length cs → k < length bs → c ≡ get_or cs k c → b ≡ get_or bs k b
      → length (turn_code (piece_of at c) (piece_of at b) after d t) ≤ length (if_code (map (piece_of at) cs) (map (piece_of at) bs) other d t)
  turn_within [] bs other k after c b d t in_cs in_bs c_is b_is = absurd (omega (arith, in_cs))
  turn_within (x ∷ cs) [] other k after c b d t in_cs in_bs c_is b_is = absurd (omega (arith, in_bs))
  turn_within (x ∷ cs) (y ∷ bs) other zero after c b d t in_cs in_bs c_is b_is =
      let whole = if_code (map (piece_of at) cs) (map (piece_of at) bs) other d t in
      let size = length-append (turn_code (P x) (P y) (length whole) d t) whole in
      subst (λ z. length (turn_code (piece_of at z) (piece_of at b) after d t) ≤ length (if_code (map (piece_of at) (x ∷ cs)) (map (piece_of at) (y ∷ bs)) other d t)) (sym c_is)
      (subst (λ z. length (turn_code (piece_of at x) (piece_of at z) after d t) ≤ length (if_code (map (piece_of at) (x ∷ cs)) (map (piece_of at) (y ∷ bs)) other d t)) (sym b_is)
      (le_by _ _ _ (size ∙ ap (λ n. n + length whole) (turn_size (P x) (P y) (length whole) after d t))))
  turn_within (x ∷ cs) (y ∷ bs) other (suc k) after c b d t in_cs in_bs c_is b_is =
      let rest = turn_within cs bs other k after c b d t (omega (arith, in_cs)) (omega (arith, in_bs)) c_is b_is in
      let whole = if_code (map (piece_of at) cs) (map (piece_of at) bs) other d t in
      let size = length-append (turn_code (P x) (P y) (length whole) d t) whole in
      le_more _ _ _ _ rest size

  -- a choice is refused for one of its conditions or branches
  pub choice_part : (cs bs : List Expr) (other : Expr) (k after : ℕ) (c b : Expr) (d t : ℕ) (kind : NoCode) → k < length cs → k < length bs → c ≡ get_or cs k c → b ≡ get_or bs k b
      → IsRefused ((piece_of at c).known && (piece_of at b).known) (t + length (turn_code (piece_of at c) (piece_of at b) after d t)) kind
      → IsRefused (is_if (map (piece_of at) cs) (map (piece_of at) bs) && (all_known (map (piece_of at) cs) && (all_known (map (piece_of at) bs) && (piece_of at other).known))) (t + length (if_code (map (piece_of at) cs) (map (piece_of at) bs) (piece_of at other) d t)) kind
  choice_part cs bs other k after c b d t kind in_cs in_bs c_is b_is refused =
      let within = turn_within cs bs (piece_of at other) k after c b d t in_cs in_bs c_is b_is in
      refused_more _ _ _ _ kind
      (λ known.
      let parts = right_known (is_if (map (piece_of at) cs) (map (piece_of at) bs)) _ known in
      let bodies = right_known (all_known (map (piece_of at) cs)) _ parts in
      and_both (piece_of at c).known _ (known_at at cs k c in_cs c_is (left_known _ _ parts)) (known_at at bs k b in_bs b_is (left_known _ _ bodies)))
      (omega (arith, within)) refused

  -- or since a jump over what is made has no number
  pub choice_long : (cs bs : List Expr) (other : Expr) (i : ℕ) (out old : List Instr) (d t : ℕ) (known : Bool) (kind : NoCode) → length cs ≡ length bs → CodeLeft out old (if_code (drop i (map (piece_of at) cs)) (drop i (map (piece_of at) bs)) (piece_of at other) d t) i (length cs)
      → (kind ≡ Large) × (2 ^ 32 ≤ length out - length old) → IsRefused known (t + length (if_code (map (piece_of at) cs) (map (piece_of at) bs) (piece_of at other) d t)) kind
  choice_long cs bs other i out old d t known kind same left large =
      let made = if_code (drop i (map (piece_of at) cs)) (drop i (map (piece_of at) bs)) (piece_of at other) d t in
      let within = branches_within cs bs (piece_of at other) i d t same in
      let size : length out ≡ length made + length old = ap length left.code ∙ length-append made old in
      refused_large known (length out - length old) _ kind large (omega (arith, within, size))
