-- What undoes an operation.
use Rattle.std.proofs.Common.{◌≡◌, refl, sym, ap, subst, ◌∙◌, ℕ, zero, suc, ◌^◌, ◌<◌, nat_lt, Bool, true, false, not, List, ℤ, pos, negsuc, Result, Ok, Err, arith, inl, inr, [], ◌∷◌, length, get_or, take, ap₂}
use Rattle.std.proofs.lemmas.Bool.{cases_Bool, and_parts, and_from}
use Rattle.std.specs.Prelude.{neg_ℤ, ◌+ℤ◌, ◌-ℤ◌}
use Rattle.std.specs.List.{list_all}
use Rattle.std.proofs.Math.IntN.{+ℤ_comm, +ℤ-neg_ℤ_cancel, -ℤ-+ℤ_cancel}
use Rattle.sync_values.specs.Arithmetic.{fitted}
use Rattle.sync_values.specs.declared.value.Value.{Value}
use Rattle.sync_values.specs.declared.value.Value.TheVariants as value
use Rattle.sync_values.specs.declared.value.Fail.{Fail}
use Rattle.sync_values.specs.declared.value.Fail.TheVariants.{TooLarge}
use Rattle.sync_values.specs.declared.value.ChainOp.{ChainOp}
use Rattle.sync_values.specs.declared.value.ChainOp.TheVariants.{Plus, Minus, Times, Over, And, Or}
use Rattle.flat_model.specs.Occurrences.{is_sum}
use Rattle.flat_model.specs.Operators.{Answer, Is, Fails, Absent, negated, inverted, settled, joined, chained}
use Rattle.eq_orient.specs.Solving.{Fits}
use Rattle.eq_orient.specs.private.Undoing.{AnswerFits, UndoneBy, Undoes, whole_of}

-- a number that fits is the one that was asked for
pub fitted_is : (z t : ℤ) → fitted z ≡ Ok t → z ≡ t
fitted_is (pos n) t e = elim (cases_Bool (nat_lt n (2 ^ 63))) [
  | inl below ↦ cc (e, below)
  | inr past ↦ cc (e, past)
]
fitted_is (negsuc n) t e = elim (cases_Bool (nat_lt n (2 ^ 63))) [
  | inl below ↦ cc (e, below)
  | inr past ↦ cc (e, past)
]

pub fitted_fits : (z t : ℤ) → fitted z ≡ Ok t → fitted t ≡ Ok t
fitted_fits z t e = subst (λ y. fitted y ≡ Ok t) (fitted_is z t e) e

pub fitted_Err : (z : ℤ) (kind : Fail) → fitted z ≡ Err kind → kind ≡ TooLarge
fitted_Err (pos n) kind e = elim (cases_Bool (nat_lt n (2 ^ 63))) [
  | inl below ↦ cc (e, below)
  | inr past ↦ cc (e, past)
]
fitted_Err (negsuc n) kind e = elim (cases_Bool (nat_lt n (2 ^ 63))) [
  | inl below ↦ cc (e, below)
  | inr past ↦ cc (e, past)
]

number : (a b : ℤ) → value.Int a ≡ value.Int b → a ≡ b
number a b e = cc

pub settled_is : (z t : ℤ) → settled (fitted z) ≡ Is (value.Int t) → z ≡ t
settled_is z t e = go (fitted z) refl e
  where
    go : (r : Result ℤ Fail) → fitted z ≡ r → settled r ≡ Is (value.Int t) → z ≡ t
    go (Ok y) is e = let same = fitted_is z y is in cc (e, same)
    go (Err kind) is e = cc

-- an operation on numbers is undone by its inverse
module _ (operation : Answer → Answer) (forth back : ℤ → ℤ) (inverse : (z : ℤ) → back (forth z) ≡ z) (inverse' : (z : ℤ) → forth (back z) ≡ z)
    (on_number : (z : ℤ) → operation (Is (value.Int z)) ≡ settled (fitted (forth z)))
    (on_other : (a : Answer) (t : ℤ) → operation a ≡ Is (value.Int t) → (z : ℤ) × (a ≡ Is (value.Int z))) where
  pub undone_Ok : (target t : ℤ) → fitted target ≡ Ok target → fitted (back target) ≡ Ok t → UndoneBy operation (value.Int target) (Ok (value.Int t))
  undone_Ok target t fits is = (
    fitted_fits (back target) t is,
    on_number t ∙ ap (λ z. settled (fitted z)) (ap forth (sym (fitted_is (back target) t is)) ∙ inverse' target) ∙ ap settled fits,
    λ a fine e.
        let (z, a_is) = on_other a target e in
        let same : forth z ≡ target = settled_is (forth z) target (sym (on_number z) ∙ ap operation (sym a_is) ∙ e) in
        a_is ∙ ap (λ y. Is (value.Int y)) (sym (inverse z) ∙ ap back same ∙ fitted_is (back target) t is),
  )

  pub undone_Err : (target : ℤ) (kind : Fail) → fitted (back target) ≡ Err kind → UndoneBy operation (value.Int target) (Err kind)
  undone_Err target kind none = (
    fitted_Err (back target) kind none,
    λ a fine e.
        let (z, a_is) = on_other a target e in
        let same : forth z ≡ target = settled_is (forth z) target (sym (on_number z) ∙ ap operation (sym a_is) ∙ e) in
        let fits : fitted z ≡ Ok z = subst AnswerFits a_is fine in
        absurd (cc (none, ap fitted (sym (inverse z) ∙ ap back same), fits)),
  )

neg_neg : (z : ℤ) → neg_ℤ (neg_ℤ z) ≡ z
neg_neg (pos zero) = refl
neg_neg (pos (suc n)) = refl
neg_neg (negsuc n) = refl

negated_number : (a : Answer) (t : ℤ) → negated a ≡ Is (value.Int t) → (z : ℤ) × (a ≡ Is (value.Int z))
negated_number (Is (value.Int z)) t e = (z, refl)
negated_number (Is (value.Bool b)) t e = cc
negated_number (Fails kind) t e = cc
negated_number Absent t e = cc

pub neg_Ok : (target t : ℤ) → fitted target ≡ Ok target → fitted (neg_ℤ target) ≡ Ok t → UndoneBy negated (value.Int target) (Ok (value.Int t))
neg_Ok = undone_Ok negated neg_ℤ neg_ℤ neg_neg neg_neg (λ z. refl) negated_number

pub neg_Err : (target : ℤ) (kind : Fail) → fitted (neg_ℤ target) ≡ Err kind → UndoneBy negated (value.Int target) (Err kind)
neg_Err = undone_Err negated neg_ℤ neg_ℤ neg_neg neg_neg (λ z. refl) negated_number

pub neg_Bool : (b : Bool) → UndoneBy negated (value.Bool b) (Err TooLarge)
neg_Bool b = (refl, λ a fine e. never a e)
  where
    of_number : (r : Result ℤ Fail) → settled r ≡ Is (value.Bool b) → ⊥
    of_number (Ok z) e = cc
    of_number (Err kind) e = cc

    never : (a : Answer) → negated a ≡ Is (value.Bool b) → ⊥
    never (Is (value.Int z)) e = of_number (fitted (neg_ℤ z)) e
    never (Is (value.Bool c)) e = cc
    never (Fails kind) e = cc
    never Absent e = cc

not_not : (b : Bool) → not (not b) ≡ b
not_not true = refl
not_not false = refl

pub not_Ok : (b : Bool) → UndoneBy inverted (value.Bool b) (Ok (value.Bool (not b)))
not_Ok b = (tt, ap (λ y. Is (value.Bool y)) (not_not b), λ a fine e. only a e)
  where
    only : (a : Answer) → inverted a ≡ Is (value.Bool b) → a ≡ Is (value.Bool (not b))
    only (Is (value.Bool c)) e = ap (λ y. Is (value.Bool y)) (sym (not_not c) ∙ ap not (truth (not c) b e))
      where
        truth : (a b : Bool) → Is (value.Bool a) ≡ Is (value.Bool b) → a ≡ b
        truth a b e = cc
    only (Is (value.Int z)) e = cc
    only (Fails kind) e = cc
    only Absent e = cc

pub not_Int : (z : ℤ) → UndoneBy inverted (value.Int z) (Err TooLarge)
not_Int z = (refl, λ a fine e. never a e)
  where
    never : (a : Answer) → inverted a ≡ Is (value.Int z) → ⊥
    never (Is (value.Int y)) e = cc
    never (Is (value.Bool c)) e = cc
    never (Fails kind) e = cc
    never Absent e = cc

-- what is added on either side of a number, or taken from it
right_number : (op : ChainOp) → is_sum op ≡ true → (r : ℤ) (a : Answer) (t : ℤ) → joined op a (Is (value.Int r)) ≡ Is (value.Int t) → (z : ℤ) × (a ≡ Is (value.Int z))
right_number Plus sum r (Is (value.Int z)) t e = (z, refl)
right_number Minus sum r (Is (value.Int z)) t e = (z, refl)
right_number Plus sum r (Is (value.Bool b)) t e = cc
right_number Minus sum r (Is (value.Bool b)) t e = cc
right_number Plus sum r (Fails kind) t e = cc
right_number Minus sum r (Fails kind) t e = cc
right_number Plus sum r Absent t e = cc
right_number Minus sum r Absent t e = cc
right_number Times sum r a t e = cc
right_number Over sum r a t e = cc
right_number And sum r a t e = cc
right_number Or sum r a t e = cc

left_number : (op : ChainOp) → is_sum op ≡ true → (l : ℤ) (a : Answer) (t : ℤ) → joined op (Is (value.Int l)) a ≡ Is (value.Int t) → (z : ℤ) × (a ≡ Is (value.Int z))
left_number Plus sum l (Is (value.Int z)) t e = (z, refl)
left_number Minus sum l (Is (value.Int z)) t e = (z, refl)
left_number Plus sum l (Is (value.Bool b)) t e = cc
left_number Minus sum l (Is (value.Bool b)) t e = cc
left_number Plus sum l (Fails kind) t e = cc
left_number Minus sum l (Fails kind) t e = cc
left_number Plus sum l Absent t e = cc
left_number Minus sum l Absent t e = cc
left_number Times sum l a t e = cc
left_number Over sum l a t e = cc
left_number And sum l a t e = cc
left_number Or sum l a t e = cc

from_left : (l z : ℤ) → l +ℤ z -ℤ l ≡ z
from_left l z = ap (λ y. y -ℤ l) (+ℤ_comm l z) ∙ +ℤ-neg_ℤ_cancel z l

onto_left : (l t : ℤ) → l +ℤ (t -ℤ l) ≡ t
onto_left l t = +ℤ_comm l (t -ℤ l) ∙ -ℤ-+ℤ_cancel t l

twice : (l z : ℤ) → l -ℤ (l -ℤ z) ≡ z
twice l z = ap (λ y. y -ℤ (l -ℤ z)) (sym (-ℤ-+ℤ_cancel l z)) ∙ from_left (l -ℤ z) z

abbrev Undone : (Answer → Answer) → (ℤ → ℤ) → Type 0
Undone operation back = (target : ℤ) → fitted target ≡ Ok target
    → ((t : ℤ) → fitted (back target) ≡ Ok t → UndoneBy operation (value.Int target) (Ok (value.Int t)))
    × ((kind : Fail) → fitted (back target) ≡ Err kind → UndoneBy operation (value.Int target) (Err kind))

-- a number that has come out, as a value
pub by_whole : (operation : Answer → Answer) (back : ℤ → ℤ) (target : ℤ) (number : Result ℤ Fail) (result : Result Value Fail) → Undone operation back
    → fitted target ≡ Ok target → number ≡ fitted (back target) → whole_of number result → UndoneBy operation (value.Int target) result
by_whole operation back target (Ok t) result undone fits is whole =
    subst (UndoneBy operation (value.Int target)) (sym whole) ((undone target fits).0 t (sym is))
by_whole operation back target (Err kind) result undone fits is whole =
    subst (UndoneBy operation (value.Int target)) (sym whole) ((undone target fits).1 kind (sym is))

pub plus_right : (r : ℤ) → Undone (λ a. joined Plus a (Is (value.Int r))) (λ t. t -ℤ r)
plus_right r target fits = (
  λ t is. undone_Ok (λ a. joined Plus a (Is (value.Int r))) (λ z. z +ℤ r) (λ t. t -ℤ r) (λ z. +ℤ-neg_ℤ_cancel z r) (λ z. -ℤ-+ℤ_cancel z r) (λ z. refl) (right_number Plus refl r) target t fits is,
  λ kind is. undone_Err (λ a. joined Plus a (Is (value.Int r))) (λ z. z +ℤ r) (λ t. t -ℤ r) (λ z. +ℤ-neg_ℤ_cancel z r) (λ z. -ℤ-+ℤ_cancel z r) (λ z. refl) (right_number Plus refl r) target kind is,
)

pub minus_right : (r : ℤ) → Undone (λ a. joined Minus a (Is (value.Int r))) (λ t. t +ℤ r)
minus_right r target fits = (
  λ t is. undone_Ok (λ a. joined Minus a (Is (value.Int r))) (λ z. z -ℤ r) (λ t. t +ℤ r) (λ z. -ℤ-+ℤ_cancel z r) (λ z. +ℤ-neg_ℤ_cancel z r) (λ z. refl) (right_number Minus refl r) target t fits is,
  λ kind is. undone_Err (λ a. joined Minus a (Is (value.Int r))) (λ z. z -ℤ r) (λ t. t +ℤ r) (λ z. -ℤ-+ℤ_cancel z r) (λ z. +ℤ-neg_ℤ_cancel z r) (λ z. refl) (right_number Minus refl r) target kind is,
)

pub plus_left : (l : ℤ) → Undone (λ a. joined Plus (Is (value.Int l)) a) (λ t. t -ℤ l)
plus_left l target fits = (
  λ t is. undone_Ok (λ a. joined Plus (Is (value.Int l)) a) (λ z. l +ℤ z) (λ t. t -ℤ l) (from_left l) (onto_left l) (λ z. refl) (left_number Plus refl l) target t fits is,
  λ kind is. undone_Err (λ a. joined Plus (Is (value.Int l)) a) (λ z. l +ℤ z) (λ t. t -ℤ l) (from_left l) (onto_left l) (λ z. refl) (left_number Plus refl l) target kind is,
)

pub minus_left : (l : ℤ) → Undone (λ a. joined Minus (Is (value.Int l)) a) (λ t. l -ℤ t)
minus_left l target fits = (
  λ t is. undone_Ok (λ a. joined Minus (Is (value.Int l)) a) (λ z. l -ℤ z) (λ t. l -ℤ t) (twice l) (twice l) (λ z. refl) (left_number Minus refl l) target t fits is,
  λ kind is. undone_Err (λ a. joined Minus (Is (value.Int l)) a) (λ z. l -ℤ z) (λ t. l -ℤ t) (twice l) (twice l) (λ z. refl) (left_number Minus refl l) target kind is,
)

-- operations undone one after the other, the outer one first
pub undone_both : (outer inner : Answer → Answer) (target t : Value) (result : Result Value Fail) → ((a : Answer) → AnswerFits a → AnswerFits (inner a))
    → UndoneBy outer target (Ok t) → UndoneBy inner t result → UndoneBy (λ a. outer (inner a)) target result
undone_both outer inner target t (Ok v) fits first second = (
  second.0,
  ap outer second.1 ∙ first.1,
  λ a fine e. second.2 a fine (first.2 (inner a) (fits a fine) e),
)
undone_both outer inner target t (Err kind) fits first second = (
  second.0,
  λ a fine e. second.1 a fine (first.2 (inner a) (fits a fine) e),
)

pub undone_none : (outer inner : Answer → Answer) (target : Value) (kind : Fail) → ((a : Answer) → AnswerFits a → AnswerFits (inner a))
    → UndoneBy outer target (Err kind) → UndoneBy (λ a. outer (inner a)) target (Err kind)
undone_none outer inner target kind fits first = (first.0, λ a fine e. first.1 (inner a) (fits a fine) e)

-- the value on the way is the only one
pub undoes_by : (operation : Answer → Answer) (part : Value → Answer) (target t : Value) (result : Result Value Fail) → ((v : Value) → Fits v → AnswerFits (part v))
    → UndoneBy operation target (Ok t) → Undoes part t result → Undoes (λ v. operation (part v)) target result
undoes_by operation part target t (Ok v) fits first second = (
  second.0,
  ap operation second.1 ∙ first.1,
  λ w fine e. second.2 w fine (first.2 (part w) (fits w fine) e),
)
undoes_by operation part target t (Err kind) fits first second = (
  second.0,
  λ w fine e. second.1 w fine (first.2 (part w) (fits w fine) e),
)

pub undoes_none : (operation : Answer → Answer) (part : Value → Answer) (target : Value) (kind : Fail) → ((v : Value) → Fits v → AnswerFits (part v))
    → UndoneBy operation target (Err kind) → Undoes (λ v. operation (part v)) target (Err kind)
undoes_none operation part target kind fits first = (first.0, λ w fine e. first.1 (part w) (fits w fine) e)

pub settled_fits : (z : ℤ) → AnswerFits (settled (fitted z))
settled_fits z = go (fitted z) refl
  where
    go : (r : Result ℤ Fail) → fitted z ≡ r → AnswerFits (settled r)
    go (Ok t) is = fitted_fits z t is
    go (Err kind) is = tt

-- what a sum gives fits
pub joined_fits : (op : ChainOp) → is_sum op ≡ true → (a b : Answer) → AnswerFits (joined op a b)
joined_fits Plus sum (Is (value.Int x)) (Is (value.Int y)) = settled_fits (x +ℤ y)
joined_fits Minus sum (Is (value.Int x)) (Is (value.Int y)) = settled_fits (x -ℤ y)
joined_fits Plus sum (Is (value.Bool x)) (Is y) = tt
joined_fits Minus sum (Is (value.Bool x)) (Is y) = tt
joined_fits Plus sum (Is (value.Int x)) (Is (value.Bool y)) = tt
joined_fits Minus sum (Is (value.Int x)) (Is (value.Bool y)) = tt
joined_fits Plus sum (Is v) (Fails kind) = tt
joined_fits Minus sum (Is v) (Fails kind) = tt
joined_fits Plus sum (Is v) Absent = tt
joined_fits Minus sum (Is v) Absent = tt
joined_fits Plus sum (Fails kind) b = tt
joined_fits Minus sum (Fails kind) b = tt
joined_fits Plus sum Absent b = tt
joined_fits Minus sum Absent b = tt
joined_fits Times sum a b = cc
joined_fits Over sum a b = cc
joined_fits And sum a b = cc
joined_fits Or sum a b = cc

pub chained_fits : (ops : List ChainOp) (parts : List Answer) → list_all is_sum ops ≡ true → (a : Answer) → AnswerFits a → AnswerFits (chained a ops parts)
chained_fits [] parts sums a fits = fits
chained_fits (op ∷ ops) [] sums a fits = fits
chained_fits (op ∷ ops) (part ∷ parts) sums a fits =
    let both = and_parts (is_sum op) (list_all is_sum ops) sums in
    chained_fits ops parts both.1 (joined op a part) (joined_fits op both.0 a part)

-- one more part of a chain
pub chained_more : (ops : List ChainOp) (parts : List Answer) (j : ℕ) (op : ChainOp) (part : Answer) (a : Answer) → j < length ops → j < length parts
    → op ≡ get_or ops j op → part ≡ get_or parts j part → chained a (take (suc j) ops) (take (suc j) parts) ≡ joined op (chained a (take j ops) (take j parts)) part
chained_more [] parts j op part a inside within is same = absurd (omega (arith, inside))
chained_more (o ∷ ops) [] j op part a inside within is same = absurd (omega (arith, within))
chained_more (o ∷ ops) (p ∷ parts) zero op part a inside within is same = ap₂ (λ x y. joined x a y) (sym is) (sym same)
chained_more (o ∷ ops) (p ∷ parts) (suc j) op part a inside within is same =
    chained_more ops parts j op part (joined o a p) (omega (arith, inside)) (omega (arith, within)) is same

pub sums_take : (ops : List ChainOp) (j : ℕ) → list_all is_sum ops ≡ true → list_all is_sum (take j ops) ≡ true
sums_take ops zero sums = refl
sums_take [] (suc j) sums = refl
sums_take (op ∷ ops) (suc j) sums =
    let both = and_parts (is_sum op) (list_all is_sum ops) sums in
    and_from (is_sum op) (list_all is_sum (take j ops)) both.0 (sums_take ops j both.1)

pub UndoneBy_same : (f g : Answer → Answer) (target : Value) (result : Result Value Fail) → ((a : Answer) → f a ≡ g a) → UndoneBy g target result → UndoneBy f target result
UndoneBy_same f g target (Ok t) same undone = (undone.0, same (Is t) ∙ undone.1, λ a fine e. undone.2 a fine (sym (same a) ∙ e))
UndoneBy_same f g target (Err kind) same undone = (undone.0, λ a fine e. undone.1 a fine (sym (same a) ∙ e))

-- a chain with its first i operators
abbrev pub first_of : List ChainOp → List Answer → ℕ → Answer → Answer
first_of ops parts i a = chained a (take i ops) (take i parts)

pub nothing_undone : (ops : List ChainOp) (parts : List Answer) (i : ℕ) (total : Value) → i ≡ 0 → Fits total → UndoneBy (first_of ops parts i) total (Ok total)
nothing_undone ops parts i total none fits = subst (λ k. UndoneBy (first_of ops parts k) total (Ok total)) (sym none) (fits, refl, λ a fine e. e)

module _ (ops : List ChainOp) (parts : List Answer) (i j : ℕ) (is : i ≡ suc j) (sums : list_all is_sum ops ≡ true) (op : ChainOp) (right : Value) (part : Answer)
    (inside : j < length ops) (within : j < length parts) (op_is : op ≡ get_or ops j op) (part_is : part ≡ get_or parts j part) (value_is : part ≡ Is right) where
  same : (a : Answer) → first_of ops parts i a ≡ joined op (first_of ops parts j a) (Is right)
  same a = ap (λ k. first_of ops parts k a) is ∙ chained_more ops parts j op part a inside within op_is part_is ∙ ap (joined op (first_of ops parts j a)) value_is

  fits : (a : Answer) → AnswerFits a → AnswerFits (first_of ops parts j a)
  fits a fine = chained_fits (take j ops) (take j parts) (sums_take ops j sums) a fine

  pub step_back : (total before : Value) (result : Result Value Fail) → UndoneBy (λ a. joined op a (Is right)) total (Ok before)
      → UndoneBy (first_of ops parts j) before result → UndoneBy (first_of ops parts i) total result
  step_back total before result last rest =
      UndoneBy_same (first_of ops parts i) (λ a. joined op (first_of ops parts j a) (Is right)) total result same
      (undone_both (λ a. joined op a (Is right)) (first_of ops parts j) total before result fits last rest)

  pub step_none : (total : Value) (kind : Fail) → UndoneBy (λ a. joined op a (Is right)) total (Err kind) → UndoneBy (first_of ops parts i) total (Err kind)
  step_none total kind last =
      UndoneBy_same (first_of ops parts i) (λ a. joined op (first_of ops parts j a) (Is right)) total (Err kind) same
      (undone_none (λ a. joined op a (Is right)) (first_of ops parts j) total kind fits last)

pub any_default : {A : Type 0} (xs : List A) (i : ℕ) (d e : A) → i < length xs → get_or xs i d ≡ get_or xs i e
any_default [] i d e within = absurd (omega (arith, within))
any_default (x ∷ xs) zero d e within = refl
any_default (x ∷ xs) (suc i) d e within = any_default xs i d e (omega (arith, within))
