-- A cell is that of one key, and keys that are added have cells.
use Rattle.std.proofs.Common.{◌≡◌, refl, ap, sym, subst, ◌∙◌, ℕ, zero, suc, ◌+◌, ◌<◌, ◌≤◌, ◌==◌, ◌&&◌, Bool, true, false, not, cond, if◌then◌else◌, nat_lt, List, [], ◌∷◌, ◌++◌, length, get_or, slice_get, Option, Some, None, position, ◌⊎◌, inl, inr, arith, length-append, Result, Ok, Err, OnOk, IfErr}
use Rattle.std.specs.Prelude.{◌||◌}
use Rattle.std.specs.List.{list_any, position_or_len}
use Rattle.std.specs.Option.{is_some}
use Rattle.std.specs.Ordering.{int_eq}
use Rattle.std.proofs.lemmas.Bool.{false≢true, eqb-true, eq-eqb, lt-ltb, le-ltb, ltb-true, ltb-false}
use Rattle.std.proofs.lemmas.Bool.Decides.{Decides-int_eq}
use Rattle.std.proofs.lemmas.List.Quantifiers.{position-Some}
use Rattle.std.proofs.lemmas.List.Folds.{list_any-append}
use Rattle.cell_keys.specs.declared.key.CellKey.{CellKey}
use Rattle.cell_keys.specs.declared.key.CellKey.TheVariants.{Value, Previous, Left, LeftLast, Constant, First, Interval, Unfit}
use Rattle.cell_keys.specs.declared.keys.NoCell.{NoCell}
use Rattle.cell_keys.specs.declared.keys.NoCell.TheVariants.{Memory, Large}
use Rattle.cell_keys.specs.Cells.{same_key, cell_of, with_key, with_keys, Adds}

-- ---- the test of two keys

both : (a b : Bool) → a && b ≡ true → (a ≡ true) × (b ≡ true)
both true b h = (refl, h)
both false b h = absurd (false≢true h)

and_both : (a b : Bool) → a ≡ true → b ≡ true → a && b ≡ true
and_both true b h k = k
and_both false b h k = h

pub same_itself : (a : CellKey) → same_key a a ≡ true
same_itself (Value x) = eq-eqb x x refl
same_itself (Previous x) = eq-eqb x x refl
same_itself (Left x) = eq-eqb x x refl
same_itself (LeftLast x) = eq-eqb x x refl
same_itself (Constant z) = (Decides-int_eq z z).1 refl
same_itself (First c) = eq-eqb c c refl
same_itself (Interval c k) = and_both (c == c) (k == k) (eq-eqb c c refl) (eq-eqb k k refl)
same_itself (Unfit c k) = and_both (c == c) (k == k) (eq-eqb c c refl) (eq-eqb k k refl)

pub same_true : (a b : CellKey) → same_key a b ≡ true → a ≡ b
same_true (Value x) (Value y) e = ap Value (eqb-true x y e)
same_true (Previous x) (Previous y) e = ap Previous (eqb-true x y e)
same_true (Left x) (Left y) e = ap Left (eqb-true x y e)
same_true (LeftLast x) (LeftLast y) e = ap LeftLast (eqb-true x y e)
same_true (Constant x) (Constant y) e = ap Constant ((Decides-int_eq x y).0 e)
same_true (First c) (First d) e = ap First (eqb-true c d e)
same_true (Interval c k) (Interval d n) e =
    let two = both (c == d) (k == n) e in ap (λ z. Interval z k) (eqb-true c d two.0) ∙ ap (Interval d) (eqb-true k n two.1)
same_true (Unfit c k) (Unfit d n) e =
    let two = both (c == d) (k == n) e in ap (λ z. Unfit z k) (eqb-true c d two.0) ∙ ap (Unfit d) (eqb-true k n two.1)
same_true _ _ e = absurd (false≢true e)

-- ---- one key has a cell

some_test : (b : Bool) (n : ℕ) → is_some (cond b (Some n) None) ≡ b
some_test true n = refl
some_test false n = refl

one_first : (b : Bool) (n m : ℕ) (rest : Bool) → nat_lt n m ≡ rest → nat_lt (cond (not b) (1 + n) 0) (suc m) ≡ (b || rest)
one_first true n m rest same = lt-ltb 0 (suc m) (omega arith)
one_first false n m true same = lt-ltb (1 + n) (suc m) (let less = ltb-true n m same in omega (arith, less))
one_first false n m false same = le-ltb (1 + n) (suc m) (let more = ltb-false n m same in omega (arith, more))

found_any : (p : CellKey → Bool) (keys : List CellKey) → nat_lt (position_or_len p keys) (length keys) ≡ list_any p keys
found_any p [] = refl
found_any p (key ∷ keys) = one_first (p key) (position_or_len p keys) (length keys) (list_any p keys) (found_any p keys)

pub has_cell : (keys : List CellKey) (key : CellKey) → is_some (cell_of keys key) ≡ list_any (same_key key) keys
has_cell keys key = some_test (nat_lt (position_or_len (same_key key) keys) (length keys)) (position_or_len (same_key key) keys) ∙ found_any (same_key key) keys

-- a cell is that of one key
pub one_key : (keys : List CellKey) (a b : CellKey) (c : ℕ) → cell_of keys a ≡ Some c → cell_of keys b ≡ Some c → a ≡ b
one_key keys a b c of_a of_b =
    same_true a (get_or keys c a) (position-Some (same_key a) keys c a of_a).1 ∙ sym (same_true b (get_or keys c a) (position-Some (same_key b) keys c a of_b).1)

-- and is below their number
pub cell_below : (keys : List CellKey) (a : CellKey) (c : ℕ) → cell_of keys a ≡ Some c → c < length keys
cell_below keys a c of_a = (position-Some (same_key a) keys c a of_a).0

got : (keys : List CellKey) (c : ℕ) (d : CellKey) → c < length keys → slice_get keys c ≡ Some (get_or keys c d)
got [] c d within = absurd (omega (arith, within))
got (key ∷ keys) zero d within = refl
got (key ∷ keys) (suc c) d within = got keys c d (omega (arith, within))

-- the key stands at the place of its cell
pub found_key : (keys : List CellKey) (a : CellKey) (c : ℕ) → cell_of keys a ≡ Some c → slice_get keys c ≡ Some a
found_key keys a c of_a =
    let is = position-Some (same_key a) keys c a of_a in
    got keys c a is.0 ∙ ap Some (sym (same_true a (get_or keys c a) is.1))

-- a key that is added, by whether it is there
pub key_added : (keys : List CellKey) (key : CellKey) → with_key keys key ≡ (if list_any (same_key key) keys then keys else keys ++ key ∷ [])
key_added keys key = ap (λ b. if b then keys else keys ++ key ∷ []) (has_cell keys key)

-- ---- keys that are added

or_left : (a b : Bool) → a ≡ true → a || b ≡ true
or_left true b h = refl
or_left false b h = absurd (false≢true h)

or_right : (a b : Bool) → b ≡ true → a || b ≡ true
or_right true b h = refl
or_right false b h = h

pub any_kept : (keys : List CellKey) (key : CellKey) (p : CellKey → Bool) → list_any p keys ≡ true → list_any p (with_key keys key) ≡ true
any_kept keys key p any = by_cell (is_some (cell_of keys key)) refl
  where
    by_cell : (b : Bool) → is_some (cell_of keys key) ≡ b → list_any p (if b then keys else keys ++ key ∷ []) ≡ true
    by_cell true is = any
    by_cell false is = list_any-append p keys (key ∷ []) ∙ or_left (list_any p keys) _ any

pub any_new : (keys : List CellKey) (key : CellKey) → list_any (same_key key) (with_key keys key) ≡ true
any_new keys key = by_cell (is_some (cell_of keys key)) refl
  where
    by_cell : (b : Bool) → is_some (cell_of keys key) ≡ b → list_any (same_key key) (if b then keys else keys ++ key ∷ []) ≡ true
    by_cell true is = sym (has_cell keys key) ∙ is
    by_cell false is = list_any-append (same_key key) keys (key ∷ []) ∙ or_right (list_any (same_key key) keys) _ (or_left (same_key key key) _ (same_itself key))

pub all_kept : (keys more : List CellKey) (p : CellKey → Bool) → list_any p keys ≡ true → list_any p (with_keys keys more) ≡ true
all_kept keys [] p any = any
all_kept keys (key ∷ more) p any = all_kept (with_key keys key) more p (any_kept keys key p any)

-- each of several keys that were added has a cell
pub all_new : (keys more : List CellKey) (key : CellKey) → list_any (same_key key) more ≡ true → list_any (same_key key) (with_keys keys more) ≡ true
all_new keys [] key any = absurd (false≢true any)
all_new keys (first ∷ more) key any = by_first (same_key key first) refl any (all_new (with_key keys first) more key)
  where
    by_first : (b : Bool) → same_key key first ≡ b → b || list_any (same_key key) more ≡ true → (list_any (same_key key) more ≡ true → list_any (same_key key) (with_keys (with_key keys first) more) ≡ true)
        → list_any (same_key key) (with_keys (with_key keys first) more) ≡ true
    by_first true is any rest = all_kept (with_key keys first) more (same_key key) (subst (λ k. list_any (same_key k) (with_key keys first) ≡ true) (sym (same_true key first is)) (any_new keys first))
    by_first false is any rest = rest any

pub one_added : {A : Type 0} (keys new : List CellKey) (key : CellKey) (r : Result A NoCell) → OnOk r (new ≡ with_key keys key) → IfErr r (λ end. end ≡ Memory) → Adds keys (key ∷ []) new r
one_added keys new key (Ok done) added refused = added
one_added keys new key (Err Memory) added refused = tt
one_added keys new key (Err Large) added refused = absurd (no_memory refused)
  where
    no_memory : Large ≡ Memory → ⊥
    no_memory e = cc

pub with_both : (keys a b : List CellKey) → with_keys keys (a ++ b) ≡ with_keys (with_keys keys a) b
with_both keys [] b = refl
with_both keys (key ∷ a) b = with_both (with_key keys key) a b

longer_one : (keys : List CellKey) (key : CellKey) → length keys ≤ length (with_key keys key)
longer_one keys key = by_cell (is_some (cell_of keys key))
  where
    by_cell : (b : Bool) → length keys ≤ length (if b then keys else keys ++ key ∷ [])
    by_cell true = omega arith
    by_cell false = omega (arith, length-append keys (key ∷ []))

pub longer : (keys more : List CellKey) → length keys ≤ length (with_keys keys more)
longer keys [] = omega arith
longer keys (key ∷ more) = let a = longer_one keys key in let b = longer (with_key keys key) more in omega (arith, a, b)

-- what is among added keys was there or was added
either : (a b : Bool) → a || b ≡ true → (a ≡ true) ⊎ (b ≡ true)
either true b h = inl refl
either false b h = inr h

from_one : (keys : List CellKey) (key : CellKey) (p : CellKey → Bool) → list_any p (with_key keys key) ≡ true → (list_any p keys ≡ true) ⊎ (p key ≡ true)
from_one keys key p any = by_cell (is_some (cell_of keys key)) any
  where
    or_false : (b : Bool) → b || false ≡ true → b ≡ true
    or_false true h = refl
    or_false false h = h

    by_two : (list_any p keys ≡ true) ⊎ (list_any p (key ∷ []) ≡ true) → (list_any p keys ≡ true) ⊎ (p key ≡ true)
    by_two (inl h) = inl h
    by_two (inr h) = inr (or_false (p key) h)

    by_cell : (b : Bool) → list_any p (if b then keys else keys ++ key ∷ []) ≡ true → (list_any p keys ≡ true) ⊎ (p key ≡ true)
    by_cell true any = inl any
    by_cell false any = by_two (either (list_any p keys) (list_any p (key ∷ [])) (sym (list_any-append p keys (key ∷ [])) ∙ any))

pub from_either : (keys more : List CellKey) (p : CellKey → Bool) → list_any p (with_keys keys more) ≡ true → (list_any p keys ≡ true) ⊎ (list_any p more ≡ true)
from_either keys [] p any = inl any
from_either keys (key ∷ more) p any = by_rest (from_either (with_key keys key) more p any)
  where
    by_first : (list_any p keys ≡ true) ⊎ (p key ≡ true) → (list_any p keys ≡ true) ⊎ (list_any p (key ∷ more) ≡ true)
    by_first (inl h) = inl h
    by_first (inr h) = inr (or_left (p key) _ h)

    by_rest : (list_any p (with_key keys key) ≡ true) ⊎ (list_any p more ≡ true) → (list_any p keys ≡ true) ⊎ (list_any p (key ∷ more) ≡ true)
    by_rest (inl h) = by_first (from_one keys key p h)
    by_rest (inr h) = inr (or_right (p key) _ h)
