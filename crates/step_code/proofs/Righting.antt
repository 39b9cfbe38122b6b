-- The code of an expression gives its value.
use Rattle.std.proofs.Common.{◌≡◌, refl, ap, ◌∙◌, sym, subst, ℕ, suc, ◌+◌, ◌==◌, ◌<◌, ℤ, pos, Bool, true, false, ◌&&◌, if◌then◌else◌, List, [], ◌∷◌, ◌++◌, length, length-append, append_assoc, Option, Some, None, Result, Ok, arith}
use Rattle.std.specs.List.{list_all}
use Rattle.sync_values.specs.Relation.{rank}
use Rattle.sync_values.specs.declared.value.Value.{Value}
use Rattle.sync_values.specs.declared.value.Value.TheVariants as value
use Rattle.sync_values.specs.declared.value.Fail.{Fail}
use Rattle.sync_values.specs.declared.value.Rel.{Rel}
use Rattle.sync_values.specs.declared.value.Rel.TheVariants as rel
use Rattle.sync_values.specs.declared.value.ChainOp.{ChainOp}
use Rattle.sync_values.specs.declared.value.ChainOp.TheVariants as chain
use Rattle.flat_model.specs.declared.expression.Fun.{Fun}
use Rattle.flat_model.specs.declared.expression.Fun.TheVariants as fun
use Rattle.flat_model.specs.Operators.{Answer, Is, Fails, Absent, applied, joined, chained, relation, compared, negated, inverted, chosen, read, settled}
use Rattle.flat_model.specs.Functions.{called}
use Rattle.flat_model.specs.Operators as Operators
use Rattle.flat_model.specs.Views.{Views}
use Rattle.step_code.specs.declared.machine.Op.{Op}
use Rattle.step_code.specs.declared.machine.Op.TheVariants as op
use Rattle.step_code.specs.declared.machine.Instr.{Instr}
use Rattle.step_code.specs.Machine.{word_at, result_of, is_value, Goes, act, act_by, resumed, ran, AreWithin}
use Rattle.step_code.specs.Code.{Cells, Piece, guarded, instr, held_code, held_place, unary_code, binary_code, op_of_chain, is_lazy, is_strict, op_of_rel, op_of_fun, strict_code, lazy_code, joined_code, more_code, first_code, chain_code, turn_code, if_code, call_code, all_truths, is_chain, chain_truth, is_call, is_if, made, cell_piece}
use Rattle.step_code.specs.Correct.{IsTruth, IsHeld, IsMeasured, Stands, IsKept, GivesWord, Gives}
use Rattle.step_code.proofs.Matching.{Matches, match_settled, match_applied, match_compared, match_negated, match_inverted, match_one, match_two}
use Rattle.step_code.proofs.Giving.{kept_self, kept_inner, stands_kept, stands_inner, within_front, within_back, within_kept, goes_on, fails_on, fails_inner, op_gives, skips_over}

pub and_left : (a b : Bool) → a && b ≡ true → a ≡ true
and_left true b h = refl
and_left false b h = h

pub and_right : (a b : Bool) → a && b ≡ true → b ≡ true
and_right true b h = h
and_right false b h = cc

-- an operator of two operands
abbrev pub Joins : Op → Answer → Answer → Answer → Type 0
Joins o (Is a) (Is b) answer = Matches (result_of o (rank a) (rank b)) answer
Joins o (Is a) (Fails kind) answer = answer ≡ Fails kind
Joins o (Is a) Absent answer = answer ≡ Absent
Joins o (Fails kind) r answer = answer ≡ Fails kind
Joins o Absent r answer = answer ≡ Absent

abbrev pub Turns : Op → Answer → Answer → Type 0
Turns o (Is a) answer = Matches (result_of o (rank a) (rank a)) answer
Turns o (Fails kind) answer = answer ≡ Fails kind
Turns o Absent answer = answer ≡ Absent

module _ (at : Cells) (views : Views) where
  -- a piece of code gives this answer, as code of its own and as an operand
  pub record Right (p : Piece) (answer : Answer) : Type 0 where
    pub code : (cells : List ℤ) (d t : ℕ) → d < t → Stands at cells d t views → AreWithin (length cells) (p.code d t) → Gives (p.code d t) cells d t d answer
    pub held : (cells : List ℤ) (d t : ℕ) → d < t → Stands at cells d t views → AreWithin (length cells) (held_code p d t) → Gives (held_code p d t) cells d t (held_place p d) answer
    pub truth : p.truth ≡ true → (v : Value) → answer ≡ Is v → IsTruth v

  abbrev pub AllRight : List Piece → List Answer → Type 0
  AllRight [] [] = Unit {0}
  AllRight [] (a ∷ as') = ⊥
  AllRight (p ∷ ps) [] = ⊥
  AllRight (p ∷ ps) (a ∷ as') = Right p a × AllRight ps as'

  pub made_right : (code : ℕ → ℕ → List Instr) (known truth : Bool) (answer : Answer)
      → ((cells : List ℤ) (d t : ℕ) → d < t → Stands at cells d t views → AreWithin (length cells) (code d t) → Gives (code d t) cells d t d answer)
      → (truth ≡ true → (v : Value) → answer ≡ Is v → IsTruth v)
      → Right (made code known truth) answer
  made_right code known truth answer gives truths = record { code = gives; held = gives; truth = truths }

  nothing : (cells : List ℤ) (d t c : ℕ) (v : Value) → c < t → word_at cells c ≡ rank v → GivesWord [] cells d t c v
  nothing cells d t c v below word = record { after = cells; runs = λ rest. refl; kept = kept_self d t cells; below = below; word = word }

  is_word : (v w : Value) → Is v ≡ Is w → v ≡ w
  is_word v w h = cc

  pub cell_right : (o : Option ℕ) (truth : Bool) (has : Option Value)
      → ((c : ℕ) (v : Value) → o ≡ Some c → has ≡ Some v → (cells : List ℤ) (d t : ℕ) → Stands at cells d t views → IsHeld cells d t c v)
      → (truth ≡ true → (v : Value) → has ≡ Some v → IsTruth v)
      → (cell_piece o truth).known ≡ true → Right (cell_piece o truth) (read has)
  cell_right None truth has holds truths known = absurd (false_true known) where
    false_true : false ≡ true → ⊥
    false_true e = cc
  cell_right (Some c) truth None holds truths known = record { code = λ cells d t below s within. tt; held = λ cells d t below s within. tt; truth = λ h v e. absurd (absent_is v e) } where
    absent_is : (v : Value) → Absent ≡ Is v → ⊥
    absent_is v e = cc
  cell_right (Some c) truth (Some v) holds truths known = record {
    code = λ cells d t below s within. op_gives op.Move cells d t c c (Is v) refl below within (ap Ok (holds c v refl refl cells d t s).word);
    held = λ cells d t below s within. let h = holds c v refl refl cells d t s in nothing cells d t c v h.below h.word;
    truth = λ h w e. subst IsTruth (is_word v w e) (truths h v refl);
  }

  pub guarded_right : (o : Option ℕ) (u : ℕ) (exact : Result ℤ Fail)
      → ((c : ℕ) → o ≡ Some c → (cells : List ℤ) (d t : ℕ) → Stands at cells d t views → IsMeasured cells d t c u exact)
      → (guarded o u).known ≡ true → Right (guarded o u) (settled exact)
  guarded_right None u exact holds known = absurd (false_true known) where
    false_true : false ≡ true → ⊥
    false_true e = cc
  guarded_right (Some c) u exact holds known =
      made_right (λ d t. instr op.Guard d u c ∷ []) true false (settled exact)
      (λ cells d t below s within. op_gives op.Guard cells d t u c (settled exact) refl below within (subst (λ r. Matches r (settled exact)) (sym (holds c refl cells d t s).word) (match_settled exact)))
      (λ h v e. absurd (false_true h)) where
        false_true : false ≡ true → ⊥
        false_true e = cc

  -- the second operand and the operator, where the first stands in a cell
  second : (o : Op) (l : ℕ) (a : Value) (q : Piece) (r answer : Answer) → is_value o ≡ true → Right q r → Joins o (Is a) r answer
      → (cells : List ℤ) (d t : ℕ) → d < t → Stands at cells d t views → l < t → word_at cells l ≡ rank a → AreWithin (length cells) (strict_code o l q d t) → Gives (strict_code o l q d t) cells d t d answer
  second o l a q (Is b) answer is right joins cells d t below s l_below word within =
      let g = right.held cells t (suc t) (omega arith) (stands_inner at cells d t views s) (within_front (length cells) (held_code q t (suc t)) (instr o d l (held_place q t) ∷ []) within) in
      let kept = kept_inner d t cells g.after g.kept in
      let first : word_at g.after l ≡ rank a = g.kept.same l (omega (arith, l_below)) (λ e. omega (arith, l_below, e)) ∙ word in
      let m : Matches (result_of o (word_at g.after l) (word_at g.after (held_place q t))) answer = subst (λ x. Matches (result_of o x (word_at g.after (held_place q t))) answer) (sym first) (subst (λ y. Matches (result_of o (rank a) y) answer) (sym g.word) joins) in
      goes_on (held_code q t (suc t)) (instr o d l (held_place q t) ∷ []) cells d t d answer g.after g.runs kept
      (op_gives o g.after d t l (held_place q t) answer is below (within_kept d t cells g.after (instr o d l (held_place q t) ∷ []) kept (within_back (length cells) (held_code q t (suc t)) (instr o d l (held_place q t) ∷ []) within)) m)
  second o l a q (Fails kind) answer is right joins cells d t below s l_below word within =
      let g = right.held cells t (suc t) (omega arith) (stands_inner at cells d t views s) (within_front (length cells) (held_code q t (suc t)) (instr o d l (held_place q t) ∷ []) within) in
      subst (Gives (strict_code o l q d t) cells d t d) (sym joins) (fails_on (held_code q t (suc t)) (instr o d l (held_place q t) ∷ []) cells d t kind (fails_inner (held_code q t (suc t)) cells d t kind g))
  second o l a q Absent answer is right joins cells d t below s l_below word within = subst (Gives (strict_code o l q d t) cells d t d) (sym joins) tt

  pub binary : (o : Op) (p q : Piece) (l r answer : Answer) → is_value o ≡ true → Right p l → Right q r → Joins o l r answer
      → (cells : List ℤ) (d t : ℕ) → d < t → Stands at cells d t views → AreWithin (length cells) (binary_code o p q d t) → Gives (binary_code o p q d t) cells d t d answer
  binary o p q (Is a) r answer is rp rq joins cells d t below s within =
      let rest = strict_code o (held_place p d) q d t in
      let g = rp.held cells d t below s (within_front (length cells) (held_code p d t) rest within) in
      goes_on (held_code p d t) rest cells d t d answer g.after g.runs g.kept
      (second o (held_place p d) a q r answer is rq joins g.after d t below (stands_kept at cells g.after d t views g.kept s) g.below g.word (within_kept d t cells g.after rest g.kept (within_back (length cells) (held_code p d t) rest within)))
  binary o p q (Fails kind) r answer is rp rq joins cells d t below s within =
      let rest = strict_code o (held_place p d) q d t in
      subst (Gives (binary_code o p q d t) cells d t d) (sym joins) (fails_on (held_code p d t) rest cells d t kind (rp.held cells d t below s (within_front (length cells) (held_code p d t) rest within)))
  binary o p q Absent r answer is rp rq joins cells d t below s within = subst (Gives (binary_code o p q d t) cells d t d) (sym joins) tt

  pub unary : (o : Op) (p : Piece) (l answer : Answer) → is_value o ≡ true → Right p l → Turns o l answer
      → (cells : List ℤ) (d t : ℕ) → d < t → Stands at cells d t views → AreWithin (length cells) (unary_code o p d t) → Gives (unary_code o p d t) cells d t d answer
  unary o p (Is a) answer is rp turns cells d t below s within =
      let rest = instr o d (held_place p d) (held_place p d) ∷ [] in
      let g = rp.held cells d t below s (within_front (length cells) (held_code p d t) rest within) in
      goes_on (held_code p d t) rest cells d t d answer g.after g.runs g.kept
      (op_gives o g.after d t (held_place p d) (held_place p d) answer is below (within_kept d t cells g.after rest g.kept (within_back (length cells) (held_code p d t) rest within)) (subst (λ x. Matches (result_of o x x) answer) (sym g.word) turns))
  unary o p (Fails kind) answer is rp turns cells d t below s within =
      let rest = instr o d (held_place p d) (held_place p d) ∷ [] in
      subst (Gives (unary_code o p d t) cells d t d) (sym turns) (fails_on (held_code p d t) rest cells d t kind (rp.held cells d t below s (within_front (length cells) (held_code p d t) rest within)))
  unary o p Absent answer is rp turns cells d t below s within = subst (Gives (unary_code o p d t) cells d t d) (sym turns) tt

  -- chains of numbers
  joins_strict : (o : ChainOp) (l r : Answer) → is_lazy o ≡ false → Joins (op_of_chain o) l r (joined o l r)
  joins_strict chain.Plus (Is a) (Is b) h = match_applied chain.Plus a b refl
  joins_strict chain.Plus (Is a) (Fails kind) h = refl
  joins_strict chain.Plus (Is a) Absent h = refl
  joins_strict chain.Plus (Fails kind) r h = refl
  joins_strict chain.Plus Absent r h = refl
  joins_strict chain.Minus (Is a) (Is b) h = match_applied chain.Minus a b refl
  joins_strict chain.Minus (Is a) (Fails kind) h = refl
  joins_strict chain.Minus (Is a) Absent h = refl
  joins_strict chain.Minus (Fails kind) r h = refl
  joins_strict chain.Minus Absent r h = refl
  joins_strict chain.Times (Is a) (Is b) h = match_applied chain.Times a b refl
  joins_strict chain.Times (Is a) (Fails kind) h = refl
  joins_strict chain.Times (Is a) Absent h = refl
  joins_strict chain.Times (Fails kind) r h = refl
  joins_strict chain.Times Absent r h = refl
  joins_strict chain.Over (Is a) (Is b) h = match_applied chain.Over a b refl
  joins_strict chain.Over (Is a) (Fails kind) h = refl
  joins_strict chain.Over (Is a) Absent h = refl
  joins_strict chain.Over (Fails kind) r h = refl
  joins_strict chain.Over Absent r h = refl
  joins_strict chain.And l r h = absurd (true_false h) where
    true_false : true ≡ false → ⊥
    true_false e = cc
  joins_strict chain.Or l r h = absurd (true_false h) where
    true_false : true ≡ false → ⊥
    true_false e = cc

  strict_is_value : (o : ChainOp) → is_lazy o ≡ false → is_value (op_of_chain o) ≡ true
  strict_is_value chain.Plus h = refl
  strict_is_value chain.Minus h = refl
  strict_is_value chain.Times h = refl
  strict_is_value chain.Over h = refl
  strict_is_value chain.And h = cc
  strict_is_value chain.Or h = cc

  strict_not_lazy : (o : ChainOp) → is_strict o ≡ true → is_lazy o ≡ false
  strict_not_lazy chain.Plus h = refl
  strict_not_lazy chain.Minus h = refl
  strict_not_lazy chain.Times h = refl
  strict_not_lazy chain.Over h = refl
  strict_not_lazy chain.And h = cc
  strict_not_lazy chain.Or h = cc

  joined_fails : (o : ChainOp) (kind : Fail) (r : Answer) → joined o (Fails kind) r ≡ Fails kind
  joined_fails chain.Plus kind r = refl
  joined_fails chain.Minus kind r = refl
  joined_fails chain.Times kind r = refl
  joined_fails chain.Over kind r = refl
  joined_fails chain.And kind r = refl
  joined_fails chain.Or kind r = refl

  joined_absent : (o : ChainOp) (r : Answer) → joined o Absent r ≡ Absent
  joined_absent chain.Plus r = refl
  joined_absent chain.Minus r = refl
  joined_absent chain.Times r = refl
  joined_absent chain.Over r = refl
  joined_absent chain.And r = refl
  joined_absent chain.Or r = refl

  chained_fails : (kind : Fail) (ops : List ChainOp) (rs : List Answer) → chained (Fails kind) ops rs ≡ Fails kind
  chained_fails kind [] rs = refl
  chained_fails kind (o ∷ ops) [] = refl
  chained_fails kind (o ∷ ops) (r ∷ rs) = ap (λ l. chained l ops rs) (joined_fails o kind r) ∙ chained_fails kind ops rs

  chained_absent : (ops : List ChainOp) (rs : List Answer) → chained Absent ops rs ≡ Absent
  chained_absent [] rs = refl
  chained_absent (o ∷ ops) [] = refl
  chained_absent (o ∷ ops) (r ∷ rs) = ap (λ l. chained l ops rs) (joined_absent o r) ∙ chained_absent ops rs

  -- the rest of a chain, after what came of its first parts
  chain_on : (first rest : List Instr) (cells : List ℤ) (d t : ℕ) (ops : List ChainOp) (rs : List Answer) (j : Answer) → Gives first cells d t d j
      → ((w : Value) (after : List ℤ) → j ≡ Is w → word_at after d ≡ rank w → IsKept d t cells after → Gives rest after d t d (chained (Is w) ops rs))
      → Gives (first ++ rest) cells d t d (chained j ops rs)
  chain_on first rest cells d t ops rs (Is w) g on = goes_on first rest cells d t d (chained (Is w) ops rs) g.after g.runs g.kept (on w g.after refl g.word g.kept)
  chain_on first rest cells d t ops rs (Fails kind) g on = subst (Gives (first ++ rest) cells d t d) (sym (chained_fails kind ops rs)) (fails_on first rest cells d t kind g)
  chain_on first rest cells d t ops rs Absent g on = subst (Gives (first ++ rest) cells d t d) (sym (chained_absent ops rs)) tt

  joined_is_strict : (o : ChainOp) (q : Piece) (d t : ℕ) → is_lazy o ≡ false → joined_code o q d t ≡ strict_code (op_of_chain o) d q d t
  joined_is_strict chain.Plus q d t h = refl
  joined_is_strict chain.Minus q d t h = refl
  joined_is_strict chain.Times q d t h = refl
  joined_is_strict chain.Over q d t h = refl
  joined_is_strict chain.And q d t h = cc
  joined_is_strict chain.Or q d t h = cc

  joined_is_lazy : (o : ChainOp) (q : Piece) (d t : ℕ) → is_lazy o ≡ true → joined_code o q d t ≡ lazy_code (op_of_chain o) q d t
  joined_is_lazy chain.Plus q d t h = cc
  joined_is_lazy chain.Minus q d t h = cc
  joined_is_lazy chain.Times q d t h = cc
  joined_is_lazy chain.Over q d t h = cc
  joined_is_lazy chain.And q d t h = refl
  joined_is_lazy chain.Or q d t h = refl

  -- the own cell may be an operand: it stands below the free ones
  more_strict : (ops : List ChainOp) (ps : List Piece) (rs : List Answer) (total : Value) (cells : List ℤ) (d t : ℕ) → list_all is_strict ops ≡ true → AllRight ps rs → d < t → Stands at cells d t views → word_at cells d ≡ rank total → AreWithin (length cells) (more_code ops ps d t) → Gives (more_code ops ps d t) cells d t d (chained (Is total) ops rs)
  more_strict [] ps rs total cells d t all right below s word within = nothing cells d t d total below word
  more_strict (o ∷ ops) [] [] total cells d t all right below s word within = nothing cells d t d total below word
  more_strict (o ∷ ops) [] (r ∷ rs) total cells d t all right below s word within = absurd right
  more_strict (o ∷ ops) (p ∷ ps) [] total cells d t all right below s word within = absurd right
  more_strict (o ∷ ops) (p ∷ ps) (r ∷ rs) total cells d t all right below s word within =
      let strict = strict_not_lazy o (and_left (is_strict o) (list_all is_strict ops) all) in
      let is = joined_is_strict o p d t strict in
      let g : Gives (strict_code (op_of_chain o) d p d t) cells d t d (joined o (Is total) r)
      = second (op_of_chain o) d total p r (joined o (Is total) r) (strict_is_value o strict) right.0 (joins_strict o (Is total) r strict) cells d t below s below word (subst (AreWithin (length cells)) is (within_front (length cells) (joined_code o p d t) (more_code ops ps d t) within)) in
      chain_on (joined_code o p d t) (more_code ops ps d t) cells d t ops rs (joined o (Is total) r) (subst (λ is. Gives is cells d t d (joined o (Is total) r)) (sym is) g)
      (λ w after is word kept. more_strict ops ps rs w after d t (and_right (is_strict o) (list_all is_strict ops) all) right.1 below (stands_kept at cells after d t views kept s) word (within_kept d t cells after (more_code ops ps d t) kept (within_back (length cells) (joined_code o p d t) (more_code ops ps d t) within)))

  -- chains of truth values
  and_true : (r : Answer) → ((v : Value) → r ≡ Is v → IsTruth v) → joined chain.And (Is (value.Bool true)) r ≡ r
  and_true (Is (value.Int z)) truth = absurd (truth (value.Int z) refl)
  and_true (Is (value.Bool b)) truth = refl
  and_true (Fails kind) truth = refl
  and_true Absent truth = refl

  or_false : (r : Answer) → ((v : Value) → r ≡ Is v → IsTruth v) → joined chain.Or (Is (value.Bool false)) r ≡ r
  or_false (Is (value.Int z)) truth = absurd (truth (value.Int z) refl)
  or_false (Is (value.Bool b)) truth = refl
  or_false (Fails kind) truth = refl
  or_false Absent truth = refl

  first_is : (i : Instr) (rest : List Instr) (cells : List ℤ) (skip : ℕ) → act i cells ≡ Goes skip cells → ran (i ∷ rest) 0 cells ≡ ran rest skip cells
  first_is i rest cells skip acts = ap (λ a. resumed a cells (length rest) (ran rest)) acts

  zero_skips : (cells : List ℤ) (d n : ℕ) → word_at cells d ≡ pos 0 → act (instr op.SkipIfFalse n d d) cells ≡ Goes n cells
  zero_skips cells d n word = ap (λ x. act_by op.SkipIfFalse n x (word_at cells d) cells) word

  one_stays : (cells : List ℤ) (d n : ℕ) → word_at cells d ≡ pos 1 → act (instr op.SkipIfFalse n d d) cells ≡ Goes 0 cells
  one_stays cells d n word = ap (λ x. act_by op.SkipIfFalse n x (word_at cells d) cells) word

  one_skips : (cells : List ℤ) (d n : ℕ) → word_at cells d ≡ pos 1 → act (instr op.SkipIfTrue n d d) cells ≡ Goes n cells
  one_skips cells d n word = ap (λ x. act_by op.SkipIfTrue n x (word_at cells d) cells) word

  zero_stays : (cells : List ℤ) (d n : ℕ) → word_at cells d ≡ pos 0 → act (instr op.SkipIfTrue n d d) cells ≡ Goes 0 cells
  zero_stays cells d n word = ap (λ x. act_by op.SkipIfTrue n x (word_at cells d) cells) word

  lazy : (o : ChainOp) (p : Piece) (r : Answer) (total : Value) (cells : List ℤ) (d t : ℕ) → is_lazy o ≡ true → Right p r → p.truth ≡ true → IsTruth total → d < t → Stands at cells d t views → word_at cells d ≡ rank total → AreWithin (length cells) (lazy_code (op_of_chain o) p d t) → Gives (lazy_code (op_of_chain o) p d t) cells d t d (joined o (Is total) r)
  lazy chain.And p r (value.Bool false) cells d t is right truth total below s word within = record {
    after = cells;
    runs = λ rest. first_is (instr op.SkipIfFalse (length (p.code d t)) d d) (p.code d t ++ rest) cells (length (p.code d t)) (zero_skips cells d (length (p.code d t)) word) ∙ skips_over (p.code d t) rest cells;
    kept = kept_self d t cells;
    below = below;
    word = word;
  }
  lazy chain.And p r (value.Bool true) cells d t is right truth total below s word within =
      subst (Gives (lazy_code op.SkipIfFalse p d t) cells d t d) (sym (and_true r (right.truth truth)))
      (goes_on (instr op.SkipIfFalse (length (p.code d t)) d d ∷ []) (p.code d t) cells d t d r cells (λ rest. first_is (instr op.SkipIfFalse (length (p.code d t)) d d) rest cells 0 (one_stays cells d (length (p.code d t)) word)) (kept_self d t cells) (right.code cells d t below s within.1))
  lazy chain.Or p r (value.Bool true) cells d t is right truth total below s word within = record {
    after = cells;
    runs = λ rest. first_is (instr op.SkipIfTrue (length (p.code d t)) d d) (p.code d t ++ rest) cells (length (p.code d t)) (one_skips cells d (length (p.code d t)) word) ∙ skips_over (p.code d t) rest cells;
    kept = kept_self d t cells;
    below = below;
    word = word;
  }
  lazy chain.Or p r (value.Bool false) cells d t is right truth total below s word within =
      subst (Gives (lazy_code op.SkipIfTrue p d t) cells d t d) (sym (or_false r (right.truth truth)))
      (goes_on (instr op.SkipIfTrue (length (p.code d t)) d d ∷ []) (p.code d t) cells d t d r cells (λ rest. first_is (instr op.SkipIfTrue (length (p.code d t)) d d) rest cells 0 (zero_stays cells d (length (p.code d t)) word)) (kept_self d t cells) (right.code cells d t below s within.1))
  lazy o p r (value.Int z) cells d t is right truth total below s word within = absurd total
  lazy chain.Plus p r total cells d t is right truth has below s word within = absurd (bad is) where
    bad : false ≡ true → ⊥
    bad e = cc
  lazy chain.Minus p r total cells d t is right truth has below s word within = absurd (bad is) where
    bad : false ≡ true → ⊥
    bad e = cc
  lazy chain.Times p r total cells d t is right truth has below s word within = absurd (bad is) where
    bad : false ≡ true → ⊥
    bad e = cc
  lazy chain.Over p r total cells d t is right truth has below s word within = absurd (bad is) where
    bad : false ≡ true → ⊥
    bad e = cc

  -- the value of a chain with one more part is a truth value
  lazy_truth : (o : ChainOp) (l r : Answer) (w : Value) → is_lazy o ≡ true → joined o l r ≡ Is w → ((v : Value) → l ≡ Is v → IsTruth v) → IsTruth w
  lazy_truth chain.And (Is (value.Int z)) r w is eq truth = absurd (truth (value.Int z) refl)
  lazy_truth chain.And (Is (value.Bool false)) r w is eq truth = subst IsTruth (is_word (value.Bool false) w eq) tt
  lazy_truth chain.And (Is (value.Bool true)) (Is (value.Bool b)) w is eq truth = subst IsTruth (is_word (value.Bool b) w eq) tt
  lazy_truth chain.And (Is (value.Bool true)) (Is (value.Int z)) w is eq truth = absurd (bad eq) where
    bad : Absent ≡ Is w → ⊥
    bad e = cc
  lazy_truth chain.And (Is (value.Bool true)) (Fails kind) w is eq truth = absurd (bad eq) where
    bad : Fails kind ≡ Is w → ⊥
    bad e = cc
  lazy_truth chain.And (Is (value.Bool true)) Absent w is eq truth = absurd (bad eq) where
    bad : Absent ≡ Is w → ⊥
    bad e = cc
  lazy_truth chain.And (Fails kind) r w is eq truth = absurd (bad eq) where
    bad : Fails kind ≡ Is w → ⊥
    bad e = cc
  lazy_truth chain.And Absent r w is eq truth = absurd (bad eq) where
    bad : Absent ≡ Is w → ⊥
    bad e = cc
  lazy_truth chain.Or (Is (value.Int z)) r w is eq truth = absurd (truth (value.Int z) refl)
  lazy_truth chain.Or (Is (value.Bool true)) r w is eq truth = subst IsTruth (is_word (value.Bool true) w eq) tt
  lazy_truth chain.Or (Is (value.Bool false)) (Is (value.Bool b)) w is eq truth = subst IsTruth (is_word (value.Bool b) w eq) tt
  lazy_truth chain.Or (Is (value.Bool false)) (Is (value.Int z)) w is eq truth = absurd (bad eq) where
    bad : Absent ≡ Is w → ⊥
    bad e = cc
  lazy_truth chain.Or (Is (value.Bool false)) (Fails kind) w is eq truth = absurd (bad eq) where
    bad : Fails kind ≡ Is w → ⊥
    bad e = cc
  lazy_truth chain.Or (Is (value.Bool false)) Absent w is eq truth = absurd (bad eq) where
    bad : Absent ≡ Is w → ⊥
    bad e = cc
  lazy_truth chain.Or (Fails kind) r w is eq truth = absurd (bad eq) where
    bad : Fails kind ≡ Is w → ⊥
    bad e = cc
  lazy_truth chain.Or Absent r w is eq truth = absurd (bad eq) where
    bad : Absent ≡ Is w → ⊥
    bad e = cc
  lazy_truth chain.Plus l r w is eq truth = absurd (bad is) where
    bad : false ≡ true → ⊥
    bad e = cc
  lazy_truth chain.Minus l r w is eq truth = absurd (bad is) where
    bad : false ≡ true → ⊥
    bad e = cc
  lazy_truth chain.Times l r w is eq truth = absurd (bad is) where
    bad : false ≡ true → ⊥
    bad e = cc
  lazy_truth chain.Over l r w is eq truth = absurd (bad is) where
    bad : false ≡ true → ⊥
    bad e = cc

  same_truth : (total v : Value) → IsTruth total → Is total ≡ Is v → IsTruth v
  same_truth total v truth eq = subst IsTruth (is_word total v eq) truth

  more_lazy : (ops : List ChainOp) (ps : List Piece) (rs : List Answer) (total : Value) (cells : List ℤ) (d t : ℕ) → list_all is_lazy ops ≡ true → all_truths ps ≡ true → AllRight ps rs → IsTruth total → d < t → Stands at cells d t views → word_at cells d ≡ rank total → AreWithin (length cells) (more_code ops ps d t) → Gives (more_code ops ps d t) cells d t d (chained (Is total) ops rs)
  more_lazy [] ps rs total cells d t all truths right truth below s word within = nothing cells d t d total below word
  more_lazy (o ∷ ops) [] [] total cells d t all truths right truth below s word within = nothing cells d t d total below word
  more_lazy (o ∷ ops) [] (r ∷ rs) total cells d t all truths right truth below s word within = absurd right
  more_lazy (o ∷ ops) (p ∷ ps) [] total cells d t all truths right truth below s word within = absurd right
  more_lazy (o ∷ ops) (p ∷ ps) (r ∷ rs) total cells d t all truths right truth below s word within =
      let short = and_left (is_lazy o) (list_all is_lazy ops) all in
      let is = joined_is_lazy o p d t short in
      let g : Gives (lazy_code (op_of_chain o) p d t) cells d t d (joined o (Is total) r)
      = lazy o p r total cells d t short right.0 (and_left p.truth (all_truths ps) truths) truth below s word (subst (AreWithin (length cells)) is (within_front (length cells) (joined_code o p d t) (more_code ops ps d t) within)) in
      chain_on (joined_code o p d t) (more_code ops ps d t) cells d t ops rs (joined o (Is total) r) (subst (λ is. Gives is cells d t d (joined o (Is total) r)) (sym is) g)
      (λ w after eq word kept. more_lazy ops ps rs w after d t (and_right (is_lazy o) (list_all is_lazy ops) all) (and_right p.truth (all_truths ps) truths) right.1 (lazy_truth o (Is total) r w short eq (λ v e. same_truth total v truth e)) below (stands_kept at cells after d t views kept s) word (within_kept d t cells after (more_code ops ps d t) kept (within_back (length cells) (joined_code o p d t) (more_code ops ps d t) within)))

  chained_truth : (ops : List ChainOp) (rs : List Answer) (l : Answer) (w : Value) → list_all is_lazy ops ≡ true → ((v : Value) → l ≡ Is v → IsTruth v) → chained l ops rs ≡ Is w → IsTruth w
  chained_truth [] rs l w all truth eq = truth w eq
  chained_truth (o ∷ ops) [] l w all truth eq = truth w eq
  chained_truth (o ∷ ops) (r ∷ rs) l w all truth eq =
      let short = and_left (is_lazy o) (list_all is_lazy ops) all in
      chained_truth ops rs (joined o l r) w (and_right (is_lazy o) (list_all is_lazy ops) all) (λ v e. lazy_truth o l r v short e truth) eq

  -- whole chains
  first_lazy : (o : ChainOp) (p q : Piece) (a b : Answer) (cells : List ℤ) (d t : ℕ) → is_lazy o ≡ true → Right p a → Right q b → p.truth ≡ true → q.truth ≡ true → d < t → Stands at cells d t views → AreWithin (length cells) (p.code d t ++ lazy_code (op_of_chain o) q d t) → Gives (p.code d t ++ lazy_code (op_of_chain o) q d t) cells d t d (joined o a b)
  first_lazy o p q (Is v) b cells d t short rp rq pt qt below s within =
      let g = rp.code cells d t below s (within_front (length cells) (p.code d t) (lazy_code (op_of_chain o) q d t) within) in
      goes_on (p.code d t) (lazy_code (op_of_chain o) q d t) cells d t d (joined o (Is v) b) g.after g.runs g.kept
      (lazy o q b v g.after d t short rq qt (rp.truth pt v refl) below (stands_kept at cells g.after d t views g.kept s) g.word (within_kept d t cells g.after (lazy_code (op_of_chain o) q d t) g.kept (within_back (length cells) (p.code d t) (lazy_code (op_of_chain o) q d t) within)))
  first_lazy o p q (Fails kind) b cells d t short rp rq pt qt below s within =
      subst (Gives (p.code d t ++ lazy_code (op_of_chain o) q d t) cells d t d) (sym (joined_fails o kind b))
      (fails_on (p.code d t) (lazy_code (op_of_chain o) q d t) cells d t kind (rp.code cells d t below s (within_front (length cells) (p.code d t) (lazy_code (op_of_chain o) q d t) within)))
  first_lazy o p q Absent b cells d t short rp rq pt qt below s within = subst (Gives (p.code d t ++ lazy_code (op_of_chain o) q d t) cells d t d) (sym (joined_absent o b)) tt

  abbrev is_chain_by : Bool → ChainOp → List ChainOp → Piece → Piece → List Piece → Bool
  is_chain_by z o ops p q ps = if z then list_all is_lazy ops && (p.truth && (q.truth && all_truths ps)) else list_all is_strict ops

  abbrev first_by : Bool → ChainOp → Piece → Piece → ℕ → ℕ → List Instr
  first_by true o p q d t = p.code d t ++ lazy_code (op_of_chain o) q d t
  first_by false o p q d t = binary_code (op_of_chain o) p q d t

  chain_by : (z : Bool) (o : ChainOp) (ops : List ChainOp) (p q : Piece) (ps : List Piece) (a b : Answer) (rs : List Answer) → is_lazy o ≡ z → is_chain_by z o ops p q ps ≡ true → Right p a → Right q b → AllRight ps rs
      → (cells : List ℤ) (d t : ℕ) → d < t → Stands at cells d t views → AreWithin (length cells) (first_by z o p q d t ++ more_code ops ps d t) → Gives (first_by z o p q d t ++ more_code ops ps d t) cells d t d (chained (joined o a b) ops rs)
  chain_by true o ops p q ps a b rs is known rp rq right cells d t below s within =
      let k1 = and_left (list_all is_lazy ops) (p.truth && (q.truth && all_truths ps)) known in
      let k2 = and_right (list_all is_lazy ops) (p.truth && (q.truth && all_truths ps)) known in
      let pt = and_left p.truth (q.truth && all_truths ps) k2 in
      let k3 = and_right p.truth (q.truth && all_truths ps) k2 in
      let first = first_by true o p q d t in
      chain_on first (more_code ops ps d t) cells d t ops rs (joined o a b)
      (first_lazy o p q a b cells d t is rp rq pt (and_left q.truth (all_truths ps) k3) below s (within_front (length cells) first (more_code ops ps d t) within))
      (λ w after eq word kept. more_lazy ops ps rs w after d t k1 (and_right q.truth (all_truths ps) k3) right (lazy_truth o a b w is eq (rp.truth pt)) below (stands_kept at cells after d t views kept s) word (within_kept d t cells after (more_code ops ps d t) kept (within_back (length cells) first (more_code ops ps d t) within)))
  chain_by false o ops p q ps a b rs is known rp rq right cells d t below s within =
      let first = first_by false o p q d t in
      chain_on first (more_code ops ps d t) cells d t ops rs (joined o a b)
      (binary (op_of_chain o) p q a b (joined o a b) (strict_is_value o is) rp rq (joins_strict o a b is) cells d t below s (within_front (length cells) first (more_code ops ps d t) within))
      (λ w after eq word kept. more_strict ops ps rs w after d t known right below (stands_kept at cells after d t views kept s) word (within_kept d t cells after (more_code ops ps d t) kept (within_back (length cells) first (more_code ops ps d t) within)))

  first_same : (z : Bool) (o : ChainOp) (p q : Piece) (d t : ℕ) → is_lazy o ≡ z → first_code o p q d t ≡ first_by z o p q d t
  first_same true o p q d t is = rw is refl
  first_same false o p q d t is = rw is refl

  pub chain_gives : (ops : List ChainOp) (ps : List Piece) (rs : List Answer) → is_chain ops ps ≡ true → AllRight ps rs → (cells : List ℤ) (d t : ℕ) → d < t → Stands at cells d t views → AreWithin (length cells) (chain_code ops ps d t) → Gives (chain_code ops ps d t) cells d t d (Operators.chain ops rs)
  chain_gives [] ps rs known right = absurd (bad known) where
    bad : false ≡ true → ⊥
    bad e = cc
  chain_gives (o ∷ ops) [] rs known right = absurd (bad known) where
    bad : false ≡ true → ⊥
    bad e = cc
  chain_gives (o ∷ ops) (p ∷ []) rs known right = absurd (bad known) where
    bad : false ≡ true → ⊥
    bad e = cc
  chain_gives (o ∷ ops) (p ∷ q ∷ ps) [] known right = absurd right
  chain_gives (o ∷ ops) (p ∷ q ∷ ps) (a ∷ []) known right = absurd right.1
  chain_gives (o ∷ ops) (p ∷ q ∷ ps) (a ∷ b ∷ rs) known right = λ cells d t below s within.
      let shape = and_right (length ops == length ps) (is_chain_by (is_lazy o) o ops p q ps) known in
      let same = first_same (is_lazy o) o p q d t refl in
      subst (λ is. Gives (is ++ more_code ops ps d t) cells d t d (chained (joined o a b) ops rs)) (sym same)
      (chain_by (is_lazy o) o ops p q ps a b rs refl shape right.0 right.1.0 right.1.1 cells d t below s (subst (λ is. AreWithin (length cells) (is ++ more_code ops ps d t)) same within))

  pub chain_truths : (ops : List ChainOp) (ps : List Piece) (rs : List Answer) → is_chain ops ps ≡ true → AllRight ps rs → chain_truth ops ≡ true → (w : Value) → Operators.chain ops rs ≡ Is w → IsTruth w
  chain_truths [] ps rs known right short w eq = absurd (bad known) where
    bad : false ≡ true → ⊥
    bad e = cc
  chain_truths (o ∷ ops) [] rs known right short w eq = absurd (bad known) where
    bad : false ≡ true → ⊥
    bad e = cc
  chain_truths (o ∷ ops) (p ∷ []) rs known right short w eq = absurd (bad known) where
    bad : false ≡ true → ⊥
    bad e = cc
  chain_truths (o ∷ ops) (p ∷ q ∷ ps) [] known right short w eq = absurd right
  chain_truths (o ∷ ops) (p ∷ q ∷ ps) (a ∷ []) known right short w eq = absurd right.1
  chain_truths (o ∷ ops) (p ∷ q ∷ ps) (a ∷ b ∷ rs) known right short w eq =
      let k : is_chain_by true o ops p q ps ≡ true = subst (λ z. is_chain_by z o ops p q ps ≡ true) short (and_right (length ops == length ps) (is_chain_by (is_lazy o) o ops p q ps) known) in
      let k1 = and_left (list_all is_lazy ops) (p.truth && (q.truth && all_truths ps)) k in
      let pt = and_left p.truth (q.truth && all_truths ps) (and_right (list_all is_lazy ops) (p.truth && (q.truth && all_truths ps)) k) in
      chained_truth ops rs (joined o a b) w k1 (λ v e. lazy_truth o a b v short e (right.0.truth pt)) eq

  -- a choice
  turn_flat : (h b rest : List Instr) (i j : Instr) → (h ++ (i ∷ (b ++ j ∷ []))) ++ rest ≡ h ++ (i ∷ (b ++ (j ∷ rest)))
  turn_flat h b rest i j = append_assoc h (i ∷ (b ++ j ∷ [])) rest ∙ ap (λ x. h ++ (i ∷ x)) (append_assoc b (j ∷ []) rest)

  -- the branch, and the jump past the rest
  branch_gives : (b rest : List Instr) (j : Instr) (cells : List ℤ) (d t : ℕ) (y : Answer) → ((cells : List ℤ) → act j cells ≡ Goes (length rest) cells) → Gives b cells d t d y → Gives (b ++ (j ∷ rest)) cells d t d y
  branch_gives b rest j cells d t (Is v) jumps g = record {
    after = g.after;
    runs = λ tail.
        ap (λ is. ran is 0 cells) (append_assoc b (j ∷ rest) tail) ∙ g.runs (j ∷ (rest ++ tail))
        ∙ first_is j (rest ++ tail) g.after (length rest) (jumps g.after) ∙ skips_over rest tail g.after;
    kept = g.kept;
    below = g.below;
    word = g.word;
  }
  branch_gives b rest j cells d t (Fails kind) jumps g = fails_on b (j ∷ rest) cells d t kind g
  branch_gives b rest j cells d t Absent jumps g = tt

  false_jumps : (cells : List ℤ) (c n : ℕ) → word_at cells c ≡ pos 0 → act (instr op.SkipIfFalse n c c) cells ≡ Goes n cells
  false_jumps cells c n word = ap (λ x. act_by op.SkipIfFalse n x (word_at cells c) cells) word

  true_stays : (cells : List ℤ) (c n : ℕ) → word_at cells c ≡ pos 1 → act (instr op.SkipIfFalse n c c) cells ≡ Goes 0 cells
  true_stays cells c n word = ap (λ x. act_by op.SkipIfFalse n x (word_at cells c) cells) word

  pub if_gives : (cs bs : List Piece) (other : Piece) (xs ys : List Answer) (z : Answer) → is_if cs bs ≡ true → AllRight cs xs → AllRight bs ys → Right other z → (cells : List ℤ) (d t : ℕ) → d < t → Stands at cells d t views → AreWithin (length cells) (if_code cs bs other d t) → Gives (if_code cs bs other d t) cells d t d (chosen xs ys z)
  if_gives [] bs other [] ys z known rc rb ro cells d t below s within = ro.code cells d t below s within
  if_gives [] bs other (x ∷ xs) ys z known rc rb ro cells d t below s within = absurd rc
  if_gives (c ∷ cs) [] other xs ys z known rc rb ro cells d t below s within = absurd (bad known) where
    bad : false ≡ true → ⊥
    bad e = cc
  if_gives (c ∷ cs) (b ∷ bs) other [] ys z known rc rb ro cells d t below s within = absurd rc
  if_gives (c ∷ cs) (b ∷ bs) other (x ∷ xs) [] z known rc rb ro cells d t below s within = absurd rb
  if_gives (c ∷ cs) (b ∷ bs) other (Is (value.Int n) ∷ xs) (y ∷ ys) z known rc rb ro cells d t below s within = tt
  if_gives (c ∷ cs) (b ∷ bs) other (Absent ∷ xs) (y ∷ ys) z known rc rb ro cells d t below s within = tt
  if_gives (c ∷ cs) (b ∷ bs) other (Fails kind ∷ xs) (y ∷ ys) z known rc rb ro cells d t below s within =
      let rest = if_code cs bs other d t in
      let tail = instr op.SkipIfFalse (length (b.code d t) + 1) (held_place c d) (held_place c d) ∷ (b.code d t ++ instr op.Skip (length rest) d d ∷ []) in
      fails_on (turn_code c b (length rest) d t) rest cells d t kind
      (fails_on (held_code c d t) tail cells d t kind (rc.0.held cells d t below s (within_front (length cells) (held_code c d t) tail (within_front (length cells) (turn_code c b (length rest) d t) rest within))))
  if_gives (c ∷ cs) (b ∷ bs) other (Is (value.Bool true) ∷ xs) (y ∷ ys) z known rc rb ro cells d t below s within =
      let rest = if_code cs bs other d t in
      let i = instr op.SkipIfFalse (length (b.code d t) + 1) (held_place c d) (held_place c d) in
      let j = instr op.Skip (length rest) d d in
      let flat = turn_flat (held_code c d t) (b.code d t) rest i j in
      let inside : AreWithin (length cells) (held_code c d t ++ (i ∷ (b.code d t ++ (j ∷ rest)))) = subst (AreWithin (length cells)) flat within in
      let g = rc.0.held cells d t below s (within_front (length cells) (held_code c d t) (i ∷ (b.code d t ++ (j ∷ rest))) inside) in
      let later = within_kept d t cells g.after (i ∷ (b.code d t ++ (j ∷ rest))) g.kept (within_back (length cells) (held_code c d t) (i ∷ (b.code d t ++ (j ∷ rest))) inside) in
      let gb = rb.0.code g.after d t below (stands_kept at cells g.after d t views g.kept s) (within_front (length g.after) (b.code d t) (j ∷ rest) later.1) in
      subst (λ is. Gives is cells d t d y) (sym flat)
      (goes_on (held_code c d t) (i ∷ (b.code d t ++ (j ∷ rest))) cells d t d y g.after g.runs g.kept
      (goes_on (i ∷ []) (b.code d t ++ (j ∷ rest)) g.after d t d y g.after (λ tail. first_is i tail g.after 0 (true_stays g.after (held_place c d) (length (b.code d t) + 1) g.word)) (kept_self d t g.after)
      (branch_gives (b.code d t) rest j g.after d t y (λ cells. refl) gb)))
  if_gives (c ∷ cs) (b ∷ bs) other (Is (value.Bool false) ∷ xs) (y ∷ ys) z known rc rb ro cells d t below s within =
      let rest = if_code cs bs other d t in
      let i = instr op.SkipIfFalse (length (b.code d t) + 1) (held_place c d) (held_place c d) in
      let j = instr op.Skip (length rest) d d in
      let tail = b.code d t ++ j ∷ [] in
      let size : length (b.code d t) + 1 ≡ length tail = omega (arith, length-append (b.code d t) (j ∷ [])) in
      let g = rc.0.held cells d t below s (within_front (length cells) (held_code c d t) (i ∷ tail) (within_front (length cells) (turn_code c b (length rest) d t) rest within)) in
      let runs : (more : List Instr) → ran (turn_code c b (length rest) d t ++ more) 0 cells ≡ ran more 0 g.after
      = λ more. ap (λ is. ran is 0 cells) (append_assoc (held_code c d t) (i ∷ tail) more) ∙ g.runs (i ∷ (tail ++ more)) ∙ first_is i (tail ++ more) g.after (length (b.code d t) + 1) (false_jumps g.after (held_place c d) (length (b.code d t) + 1) g.word) ∙ ap (λ n. ran (tail ++ more) n g.after) size ∙ skips_over tail more g.after in
      goes_on (turn_code c b (length rest) d t) rest cells d t d (chosen xs ys z) g.after runs g.kept
      (if_gives cs bs other xs ys z known rc.1 rb.1 ro g.after d t below (stands_kept at cells g.after d t views g.kept s) (within_kept d t cells g.after rest g.kept (within_back (length cells) (turn_code c b (length rest) d t) rest within)))

  pub if_truths : (bs : List Piece) (other : Piece) (xs ys : List Answer) (z : Answer) → AllRight bs ys → Right other z → all_truths bs ≡ true → other.truth ≡ true → (w : Value) → chosen xs ys z ≡ Is w → IsTruth w
  if_truths bs other [] ys z rb ro tb to w eq = ro.truth to w eq
  if_truths bs other (Fails kind ∷ xs) ys z rb ro tb to w eq = absurd (bad eq) where
    bad : Fails kind ≡ Is w → ⊥
    bad e = cc
  if_truths bs other (Absent ∷ xs) ys z rb ro tb to w eq = absurd (bad eq) where
    bad : Absent ≡ Is w → ⊥
    bad e = cc
  if_truths bs other (Is (value.Int n) ∷ xs) ys z rb ro tb to w eq = absurd (bad eq) where
    bad : Absent ≡ Is w → ⊥
    bad e = cc
  if_truths bs other (Is (value.Bool true) ∷ xs) [] z rb ro tb to w eq = absurd (bad eq) where
    bad : Absent ≡ Is w → ⊥
    bad e = cc
  if_truths bs other (Is (value.Bool false) ∷ xs) [] z rb ro tb to w eq = absurd (bad eq) where
    bad : Absent ≡ Is w → ⊥
    bad e = cc
  if_truths [] other (Is (value.Bool true) ∷ xs) (y ∷ ys) z rb ro tb to w eq = absurd rb
  if_truths [] other (Is (value.Bool false) ∷ xs) (y ∷ ys) z rb ro tb to w eq = absurd rb
  if_truths (p ∷ ps) other (Is (value.Bool true) ∷ xs) (y ∷ ys) z rb ro tb to w eq = rb.0.truth (and_left p.truth (all_truths ps) tb) w eq
  if_truths (p ∷ ps) other (Is (value.Bool false) ∷ xs) (y ∷ ys) z rb ro tb to w eq = if_truths ps other xs ys z rb.1 ro (and_right p.truth (all_truths ps) tb) to w eq

  -- calls, relations and the operators of one operand
  fun_is_value : (f : Fun) → is_value (op_of_fun f) ≡ true
  fun_is_value fun.Div = refl
  fun_is_value fun.Mod = refl
  fun_is_value fun.Rem = refl
  fun_is_value fun.Abs = refl
  fun_is_value fun.Min = refl
  fun_is_value fun.Max = refl

  pub rel_is_value : (r : Rel) → is_value (op_of_rel r) ≡ true
  rel_is_value rel.Less = refl
  rel_is_value rel.LessEq = refl
  rel_is_value rel.Greater = refl
  rel_is_value rel.GreaterEq = refl
  rel_is_value rel.Equal = refl
  rel_is_value rel.Unequal = refl

  turns_call : (f : Fun) (x : Answer) → Turns (op_of_fun f) x (called f (x ∷ []))
  turns_call f (Is v) = match_one f v (rank v)
  turns_call f (Fails kind) = refl
  turns_call f Absent = refl

  joins_call : (f : Fun) (x y : Answer) → Joins (op_of_fun f) x y (called f (x ∷ (y ∷ [])))
  joins_call f (Is v) (Is w) = match_two f v w
  joins_call f (Is (value.Int a)) (Fails kind) = refl
  joins_call f (Is (value.Bool a)) (Fails kind) = refl
  joins_call f (Is (value.Int a)) Absent = refl
  joins_call f (Is (value.Bool a)) Absent = refl
  joins_call f (Fails kind) y = refl
  joins_call f Absent y = refl

  pub call_gives : (f : Fun) (ps : List Piece) (rs : List Answer) → is_call ps ≡ true → AllRight ps rs → (cells : List ℤ) (d t : ℕ) → d < t → Stands at cells d t views → AreWithin (length cells) (call_code f ps d t) → Gives (call_code f ps d t) cells d t d (called f rs)
  call_gives f [] rs known right = absurd (bad known) where
    bad : false ≡ true → ⊥
    bad e = cc
  call_gives f (p ∷ []) [] known right = absurd right
  call_gives f (p ∷ []) (x ∷ []) known right = unary (op_of_fun f) p x (called f (x ∷ [])) (fun_is_value f) right.0 (turns_call f x)
  call_gives f (p ∷ []) (x ∷ y ∷ rs) known right = absurd right.1
  call_gives f (p ∷ q ∷ []) [] known right = absurd right
  call_gives f (p ∷ q ∷ []) (x ∷ []) known right = absurd right.1
  call_gives f (p ∷ q ∷ []) (x ∷ y ∷ []) known right = binary (op_of_fun f) p q x y (called f (x ∷ (y ∷ []))) (fun_is_value f) right.0 right.1.0 (joins_call f x y)
  call_gives f (p ∷ q ∷ []) (x ∷ y ∷ z ∷ rs) known right = absurd right.1.1
  call_gives f (p ∷ q ∷ r ∷ ps) rs known right = absurd (bad known) where
    bad : false ≡ true → ⊥
    bad e = cc

  pub joins_relation : (r : Rel) (x y : Answer) → Joins (op_of_rel r) x y (relation r x y)
  joins_relation r (Is v) (Is w) = match_compared r v w
  joins_relation r (Is v) (Fails kind) = refl
  joins_relation r (Is v) Absent = refl
  joins_relation r (Fails kind) y = refl
  joins_relation r Absent y = refl

  compared_truth : (r : Rel) (a b w : Value) → compared r a b ≡ Is w → IsTruth w
  compared_truth r (value.Int a) (value.Int b) w eq = subst IsTruth (is_word _ w eq) tt
  compared_truth r (value.Bool a) (value.Bool b) w eq = subst IsTruth (is_word _ w eq) tt
  compared_truth r (value.Int a) (value.Bool b) w eq = absurd (bad eq) where
    bad : Absent ≡ Is w → ⊥
    bad e = cc
  compared_truth r (value.Bool a) (value.Int b) w eq = absurd (bad eq) where
    bad : Absent ≡ Is w → ⊥
    bad e = cc

  pub relation_truth : (r : Rel) (x y : Answer) (w : Value) → relation r x y ≡ Is w → IsTruth w
  relation_truth r (Is v) (Is u) w eq = compared_truth r v u w eq
  relation_truth r (Is v) (Fails kind) w eq = absurd (bad eq) where
    bad : Fails kind ≡ Is w → ⊥
    bad e = cc
  relation_truth r (Is v) Absent w eq = absurd (bad eq) where
    bad : Absent ≡ Is w → ⊥
    bad e = cc
  relation_truth r (Fails kind) y w eq = absurd (bad eq) where
    bad : Fails kind ≡ Is w → ⊥
    bad e = cc
  relation_truth r Absent y w eq = absurd (bad eq) where
    bad : Absent ≡ Is w → ⊥
    bad e = cc

  pub turns_negated : (x : Answer) → Turns op.Negate x (negated x)
  turns_negated (Is v) = match_negated v (rank v)
  turns_negated (Fails kind) = refl
  turns_negated Absent = refl

  pub turns_inverted : (x : Answer) → Turns op.Invert x (inverted x)
  turns_inverted (Is v) = match_inverted v (rank v)
  turns_inverted (Fails kind) = refl
  turns_inverted Absent = refl

  pub inverted_truth : (x : Answer) (w : Value) → inverted x ≡ Is w → IsTruth w
  inverted_truth (Is (value.Bool b)) w eq = subst IsTruth (is_word _ w eq) tt
  inverted_truth (Is (value.Int a)) w eq = absurd (bad eq) where
    bad : Absent ≡ Is w → ⊥
    bad e = cc
  inverted_truth (Fails kind) w eq = absurd (bad eq) where
    bad : Fails kind ≡ Is w → ⊥
    bad e = cc
  inverted_truth Absent w eq = absurd (bad eq) where
    bad : Absent ≡ Is w → ⊥
    bad e = cc

  pub no_truth : (w : Value) → false ≡ true → IsTruth w
  no_truth w h = absurd (bad h) where
    bad : false ≡ true → ⊥
    bad e = cc
