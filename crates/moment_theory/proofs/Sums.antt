-- A sum, a difference, a minus and a `not` have a value for one operand alone.
use Rattle.std.proofs.Common.{◌≡◌, refl, ap, ◌∙◌, sym, Bool, true, false, not, if◌then◌else◌, List, [], ◌∷◌, ℤ, pos, negsuc, ◌+ℤ◌, ◌-ℤ◌, neg_ℤ, nat_lt, ◌^◌, Ok, Err}
use Rattle.std.proofs.Math.IntN.{+ℤ-neg_ℤ_cancel, -ℤ-+ℤ_cancel, +ℤ_comm, neg_ℤ-neg_ℤ}
use Rattle.std.proofs.lemmas.Bool.{false≢true}
use Rattle.sync_values.specs.Arithmetic.{fitted}
use Rattle.sync_values.specs.declared.value.Value.{Value}
use Rattle.sync_values.specs.declared.value.Value.TheVariants as value
use Rattle.sync_values.specs.declared.value.Fail.{Fail}
use Rattle.sync_values.specs.declared.value.Fail.TheVariants.{TooLarge}
use Rattle.sync_values.specs.declared.value.ChainOp.{ChainOp}
use Rattle.sync_values.specs.declared.value.ChainOp.TheVariants.{Plus, Minus, Times, Over, And, Or}
use Rattle.flat_model.specs.Operators.{Answer, Is, Fails, Absent, settled, joined, chained, negated, inverted}
use Rattle.flat_model.specs.Occurrences.{is_sum}

fails_is : (k : Fail) (v : Value) → Fails k ≡ Is v → ⊥
fails_is k v e = cc

absent_is : (v : Value) → Absent ≡ Is v → ⊥
absent_is v e = cc

-- a number that fits is the exact one
fit_if : (b : Bool) (a : ℤ) (v : Value) → settled (if b then Ok a else Err TooLarge) ≡ Is v → v ≡ value.Int a
fit_if true a v e = cc
fit_if false a v e = absurd (fails_is TooLarge v e)

settled_is : (a : ℤ) (v : Value) → settled (fitted a) ≡ Is v → v ≡ value.Int a
settled_is (pos n) v e = fit_if (nat_lt n (2 ^ 63)) (pos n) v e
settled_is (negsuc n) v e = fit_if (nat_lt n (2 ^ 63)) (negsuc n) v e

number : (a b : ℤ) → value.Int a ≡ value.Int b → a ≡ b
number a b e = cc

abbrev step : ChainOp → ℤ → ℤ → ℤ
step Minus a b = a -ℤ b
step op a b = a +ℤ b

-- the operands of a sum or a difference that has a value are numbers
record AreNumbers (op : ChainOp) (l r : Answer) (v : Value) : Type 0 where
  a : ℤ
  b : ℤ
  left : l ≡ Is (value.Int a)
  right : r ≡ Is (value.Int b)
  result : v ≡ value.Int (step op a b)

numbers : (op : ChainOp) (l r : Answer) (v : Value) → is_sum op ≡ true → joined op l r ≡ Is v → AreNumbers op l r v
numbers Plus (Is (value.Int a)) (Is (value.Int b)) v sum e = record { a = a; b = b; left = refl; right = refl; result = settled_is (a +ℤ b) v e }
numbers Minus (Is (value.Int a)) (Is (value.Int b)) v sum e = record { a = a; b = b; left = refl; right = refl; result = settled_is (a -ℤ b) v e }
numbers Plus (Is (value.Int a)) (Is (value.Bool b)) v sum e = absurd (absent_is v e)
numbers Minus (Is (value.Int a)) (Is (value.Bool b)) v sum e = absurd (absent_is v e)
numbers Plus (Is (value.Bool a)) (Is b) v sum e = absurd (absent_is v e)
numbers Minus (Is (value.Bool a)) (Is b) v sum e = absurd (absent_is v e)
numbers Plus (Is a) (Fails k) v sum e = absurd (fails_is k v e)
numbers Minus (Is a) (Fails k) v sum e = absurd (fails_is k v e)
numbers Plus (Is a) Absent v sum e = absurd (absent_is v e)
numbers Minus (Is a) Absent v sum e = absurd (absent_is v e)
numbers Plus (Fails k) r v sum e = absurd (fails_is k v e)
numbers Minus (Fails k) r v sum e = absurd (fails_is k v e)
numbers Plus Absent r v sum e = absurd (absent_is v e)
numbers Minus Absent r v sum e = absurd (absent_is v e)
numbers Times l r v sum e = absurd (false≢true sum)
numbers Over l r v sum e = absurd (false≢true sum)
numbers And l r v sum e = absurd (false≢true sum)
numbers Or l r v sum e = absurd (false≢true sum)

same_left : (op : ChainOp) (a b p : ℤ) → is_sum op ≡ true → step op a p ≡ step op b p → a ≡ b
same_left Plus a b p sum e = sym (+ℤ-neg_ℤ_cancel a p) ∙ ap (λ z. z -ℤ p) e ∙ +ℤ-neg_ℤ_cancel b p
same_left Minus a b p sum e = sym (-ℤ-+ℤ_cancel a p) ∙ ap (λ z. z +ℤ p) e ∙ -ℤ-+ℤ_cancel b p
same_left Times a b p sum e = absurd (false≢true sum)
same_left Over a b p sum e = absurd (false≢true sum)
same_left And a b p sum e = absurd (false≢true sum)
same_left Or a b p sum e = absurd (false≢true sum)

-- what is taken away, from what is left
taken_away : (p a : ℤ) → p -ℤ (p -ℤ a) ≡ a
taken_away p a =
    let whole : p ≡ a +ℤ (p -ℤ a) = sym (-ℤ-+ℤ_cancel p a) ∙ +ℤ_comm (p -ℤ a) a in
    ap (λ z. z -ℤ (p -ℤ a)) whole ∙ +ℤ-neg_ℤ_cancel a (p -ℤ a)

same_right : (op : ChainOp) (p a b : ℤ) → is_sum op ≡ true → step op p a ≡ step op p b → a ≡ b
same_right Plus p a b sum e = same_left Plus a b p sum (+ℤ_comm a p ∙ e ∙ +ℤ_comm p b)
same_right Minus p a b sum e = sym (taken_away p a) ∙ ap (λ z. p -ℤ z) e ∙ taken_away p b
same_right Times p a b sum e = absurd (false≢true sum)
same_right Over p a b sum e = absurd (false≢true sum)
same_right And p a b sum e = absurd (false≢true sum)
same_right Or p a b sum e = absurd (false≢true sum)

is_number : (l : Answer) (a b : ℤ) → l ≡ Is (value.Int a) → l ≡ Is (value.Int b) → a ≡ b
is_number l a b e f = let h : Is (value.Int a) ≡ Is (value.Int b) = sym e ∙ f in cc

-- a sum or a difference has a value for one left operand alone, and for one right operand alone
pub one_left : (op : ChainOp) (l m r : Answer) (v : Value) → is_sum op ≡ true → joined op l r ≡ Is v → joined op m r ≡ Is v → l ≡ m
one_left op l m r v sum e f =
    let h = numbers op l r v sum e in
    let k = numbers op m r v sum f in
    let right = is_number r h.b k.b h.right k.right in
    let results : step op h.a h.b ≡ step op k.a h.b = number _ _ (sym h.result ∙ k.result) ∙ ap (step op k.a) (sym right) in
    h.left ∙ ap (λ z. Is (value.Int z)) (same_left op h.a k.a h.b sum results) ∙ sym k.left

pub one_right : (op : ChainOp) (l r q : Answer) (v : Value) → is_sum op ≡ true → joined op l r ≡ Is v → joined op l q ≡ Is v → r ≡ q
one_right op l r q v sum e f =
    let h = numbers op l r v sum e in
    let k = numbers op l q v sum f in
    let left = is_number l h.a k.a h.left k.left in
    let results : step op h.a h.b ≡ step op h.a k.b = number _ _ (sym h.result ∙ k.result) ∙ ap (λ z. step op z k.b) (sym left) in
    h.right ∙ ap (λ z. Is (value.Int z)) (same_right op h.a h.b k.b sum results) ∙ sym k.right

-- its right operand is a value
pub right_value : (op : ChainOp) (l r : Answer) (v : Value) → is_sum op ≡ true → joined op l r ≡ Is v → (w : Value) × (r ≡ Is w)
right_value op l r v sum e = let h = numbers op l r v sum e in (value.Int h.b, h.right)

-- all operators of a chain are sums and differences
abbrev pub AreSums : List ChainOp → Type 0
AreSums [] = Unit {0}
AreSums (op ∷ ops) = (is_sum op ≡ true) × AreSums ops

-- the first answer of a chain that has a value is a value
pub chain_start : (ops : List ChainOp) (parts : List Answer) (a : Answer) (v : Value) → AreSums ops → chained a ops parts ≡ Is v → (w : Value) × (a ≡ Is w)
chain_start [] parts a v sums e = (v, e)
chain_start (op ∷ ops) [] a v sums e = (v, e)
chain_start (op ∷ ops) (part ∷ parts) a v sums e =
    let next = chain_start ops parts (joined op a part) v sums.1 e in
    let h = numbers op a part next.0 sums.0 next.1 in (value.Int h.a, h.left)

-- a chain has a value for one first answer alone
pub one_start : (ops : List ChainOp) (parts : List Answer) (a b : Answer) (v : Value) → AreSums ops → chained a ops parts ≡ Is v → chained b ops parts ≡ Is v → a ≡ b
one_start [] parts a b v sums e f = e ∙ sym f
one_start (op ∷ ops) [] a b v sums e f = e ∙ sym f
one_start (op ∷ ops) (part ∷ parts) a b v sums e f =
    let same = one_start ops parts (joined op a part) (joined op b part) v sums.1 e f in
    let next = chain_start ops parts (joined op a part) v sums.1 e in
    one_left op a b part next.0 sums.0 next.1 (sym same ∙ next.1)

-- and so are a minus and a `not`
pub one_negated : (a b : Answer) (v : Value) → negated a ≡ Is v → negated b ≡ Is v → (w : Value) × (a ≡ Is w) × (b ≡ Is w)
one_negated a b v e f =
    let h = negated_number a v e in
    let k = negated_number b v f in
    let same : h.0 ≡ k.0 = sym (neg_ℤ-neg_ℤ h.0) ∙ ap neg_ℤ (number _ _ (sym h.2 ∙ k.2)) ∙ neg_ℤ-neg_ℤ k.0 in
    (value.Int h.0, h.1, k.1 ∙ ap (λ z. Is (value.Int z)) (sym same))
  where
    negated_number : (a : Answer) (v : Value) → negated a ≡ Is v → (z : ℤ) × (a ≡ Is (value.Int z)) × (v ≡ value.Int (neg_ℤ z))
    negated_number (Is (value.Int z)) v e = (z, refl, settled_is (neg_ℤ z) v e)
    negated_number (Is (value.Bool b)) v e = absurd (absent_is v e)
    negated_number (Fails k) v e = absurd (fails_is k v e)
    negated_number Absent v e = absurd (absent_is v e)

pub one_inverted : (a b : Answer) (v : Value) → inverted a ≡ Is v → inverted b ≡ Is v → (w : Value) × (a ≡ Is w) × (b ≡ Is w)
one_inverted a b v e f =
    let h = inverted_flag a v e in
    let k = inverted_flag b v f in
    let flags : not h.0 ≡ not k.0 = let g : value.Bool (not h.0) ≡ value.Bool (not k.0) = sym h.2 ∙ k.2 in cc in
    (value.Bool h.0, h.1, k.1 ∙ ap (λ z. Is (value.Bool z)) (sym (same_flag h.0 k.0 flags)))
  where
    inverted_flag : (a : Answer) (v : Value) → inverted a ≡ Is v → (b : Bool) × (a ≡ Is (value.Bool b)) × (v ≡ value.Bool (not b))
    inverted_flag (Is (value.Bool b)) v e = let h : v ≡ value.Bool (not b) = cc in (b, refl, h)
    inverted_flag (Is (value.Int z)) v e = absurd (absent_is v e)
    inverted_flag (Fails k) v e = absurd (fails_is k v e)
    inverted_flag Absent v e = absurd (absent_is v e)

    same_flag : (b c : Bool) → not b ≡ not c → b ≡ c
    same_flag true true e = refl
    same_flag false false e = refl
    same_flag true false e = absurd (false≢true e)
    same_flag false true e = absurd (false≢true (sym e))
