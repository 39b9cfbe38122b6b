-- A chain undone down to the part in its middle.
use Rattle.std.proofs.Common.{◌≡◌, refl, ap, ◌∙◌, subst, ℕ, zero, suc, ◌-◌, ◌<◌, ◌≤◌, true, List, [], ◌∷◌, ◌++◌, length, get_or, take, drop, arith, Result, Ok, Err}
use Rattle.std.specs.Prelude.{All}
use Rattle.std.specs.List.{list_all}
use Rattle.std.proofs.lemmas.Bool.{and_parts}
use Rattle.std.proofs.lemmas.List.{take_all}
use Rattle.std.proofs.Common.{length-drop}
use Rattle.sync_values.specs.declared.value.Value.{Value}
use Rattle.sync_values.specs.declared.value.Fail.{Fail}
use Rattle.sync_values.specs.declared.value.ChainOp.{ChainOp}
use Rattle.sync_values.specs.declared.value.ChainOp.TheVariants.{Plus}
use Rattle.flat_model.specs.declared.expression.Expr.{Expr}
use Rattle.flat_model.specs.declared.evaluate.Vantage.TheVariants.{Now}
use Rattle.flat_model.specs.Occurrences.{is_sum}
use Rattle.flat_model.specs.Operators.{Answer, Is, chain, chained, joined}
use Rattle.flat_model.specs.Samples.{samples_are_plain, all_samples_are_plain}
use Rattle.flat_model.specs.Views.{Views}
use Rattle.flat_model.specs.Meaning.{answers}
use Rattle.flat_model.proofs.Evaluations.{standing_at}
use Rattle.eq_orient.specs.private.Undoing.{HasValue, UndoneBy, AreValues, front_of}
use Rattle.eq_orient.proofs.Undoing.{undone_both, undone_none, UndoneBy_same, joined_fits, any_default}
use Rattle.eq_orient.proofs.Descent.{chained_split}

pub sum_at : (ops : List ChainOp) (i : ℕ) (d : ChainOp) → list_all is_sum ops ≡ true → i < length ops → is_sum (get_or ops i d) ≡ true
sum_at [] i d sums within = absurd (omega (arith, within))
sum_at (op ∷ ops) zero d sums within = (and_parts (is_sum op) (list_all is_sum ops) sums).0
sum_at (op ∷ ops) (suc i) d sums within = sum_at ops i d (and_parts (is_sum op) (list_all is_sum ops) sums).1 (omega (arith, within))

pub sums_drop : (ops : List ChainOp) (i : ℕ) → list_all is_sum ops ≡ true → list_all is_sum (drop i ops) ≡ true
sums_drop ops zero sums = sums
sums_drop [] (suc i) sums = refl
sums_drop (op ∷ ops) (suc i) sums = sums_drop ops i (and_parts (is_sum op) (list_all is_sum ops) sums).1

values_at : (parts : List Expr) (views : Views) → AreValues (answers parts views) → (i : ℕ) (d : Expr) → i < length parts → HasValue views (get_or parts i d)
values_at [] views all i d within = absurd (omega (arith, within))
values_at (p ∷ parts) views all zero d within = all.0
values_at (p ∷ parts) views all (suc i) d within = values_at parts views all.1 i d (omega (arith, within))

pub values_all : (parts : List Expr) (views : Views) → AreValues (answers parts views) → All (HasValue views) parts
values_all parts views all = λ i d within. values_at parts views all i d within

pub plain_all : (parts : List Expr) → all_samples_are_plain parts ≡ true → All (λ part. samples_are_plain part ≡ true) parts
plain_all parts plain = λ i d within. standing_at Now parts i (get_or parts i d) plain within (any_default parts i d (get_or parts i d) within)

-- the operators behind a part
pub behind : (ops : List ChainOp) (k : ℕ) → take (length ops - k) (drop k ops) ≡ drop k ops
behind ops k = take_all (length ops - k) (drop k ops) (omega (arith, length-drop k ops))

module _ (ops : List ChainOp) (back : List Answer) (sums : list_all is_sum ops ≡ true) where
  abbrev outer : ℕ → Answer → Answer
  outer k a = chained a (drop k ops) back

  pub undone_first : (front : List Answer) (target : Value) (r : Result Value Fail) → length front ≡ 0 → UndoneBy (outer (length front)) target r
      → UndoneBy (λ a. chain ops (front ++ a ∷ back)) target r
  undone_first [] target r none undone = undone
  undone_first (f ∷ front) target r none undone = absurd (omega (arith, none))

  through : (f : Answer) (front : List Answer) (op : ChainOp) → length front < length ops → op ≡ get_or ops (length front) op → (a : Answer)
      → chain ops ((f ∷ front) ++ a ∷ back) ≡ outer (suc (length front)) (joined op (chain ops (f ∷ front)) a)
  through f front op within is a = chained_split ops front a back f op within is

  pub undone_stuck : (front : List Answer) (target : Value) (kind : Fail) → length front ≤ length ops → UndoneBy (outer (length front)) target (Err kind)
      → UndoneBy (λ a. chain ops (front ++ a ∷ back)) target (Err kind)
  undone_stuck [] target kind within undone = undone
  undone_stuck (f ∷ front) target kind within undone =
      let op = get_or ops (length front) Plus in
      let sum = sum_at ops (length front) Plus sums (omega (arith, within)) in
      UndoneBy_same (λ a. chain ops ((f ∷ front) ++ a ∷ back)) (λ a. outer (suc (length front)) (joined op (chain ops (f ∷ front)) a)) target (Err kind)
      (through f front op (omega (arith, within)) (any_default ops (length front) Plus op (omega (arith, within))))
      (undone_none (outer (suc (length front))) (joined op (chain ops (f ∷ front))) target kind (λ a fine. joined_fits op sum (chain ops (f ∷ front)) a) undone)

  pub undone_more : (front : List Answer) (j : ℕ) (op : ChainOp) (left target before : Value) (r : Result Value Fail) → length front ≡ suc j → length front ≤ length ops → op ≡ get_or ops j op
      → chain ops front ≡ Is left → UndoneBy (outer (length front)) target (Ok before) → UndoneBy (λ a. joined op (Is left) a) before r
      → UndoneBy (λ a. chain ops (front ++ a ∷ back)) target r
  undone_more [] j op left target before r some within is value first second = absurd (omega (arith, some))
  undone_more (f ∷ front) j op left target before r some within is value first second =
      let here : op ≡ get_or ops (length front) op = subst (λ k. op ≡ get_or ops k op) (let k : j ≡ length front = omega (arith, some) in k) is in
      let sum : is_sum op ≡ true = ap is_sum here ∙ sum_at ops (length front) op sums (omega (arith, within)) in
      UndoneBy_same (λ a. chain ops ((f ∷ front) ++ a ∷ back)) (λ a. outer (suc (length front)) (joined op (Is left) a)) target r
      (λ a. through f front op (omega (arith, within)) here a ∙ ap (λ l. outer (suc (length front)) (joined op l a)) value)
      (undone_both (outer (suc (length front))) (joined op (Is left)) target before r (λ a fine. joined_fits op sum (Is left) a) first second)

pub front_value : (ops : List ChainOp) (front : List Answer) → 0 < length front → AreValues (front_of ops front) → (v : Value) × (chain ops front ≡ Is v)
front_value ops [] some all = absurd (omega (arith, some))
front_value ops (f ∷ front) some all = all.0
