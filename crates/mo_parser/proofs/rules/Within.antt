-- Lists of tokens that are in others.
use Rattle.std.proofs.Common.{◌≡◌, ℕ, true, false, Bool, ◌&&◌, List, [], ◌∷◌, ◌++◌, refl}
use Rattle.std.proofs.lemmas.Bool.{eq-eqb}
use Rattle.mo_parser.proofs.rules.Kinds.{among, apart, in_left, in_right, within}

each_within : (xs ys : List ℕ) → ((n : ℕ) → among xs n ≡ true → among ys n ≡ true) → within xs ys ≡ true
each_within [] ys each = refl
each_within (x ∷ xs) ys each =
    let here : among ys x ≡ true = each x (rw (eq-eqb x x refl) refl) in
    rw here (each_within xs ys (λ n i. each n (in_right (x ∷ []) xs n i)))

pub within_self : (xs : List ℕ) → within xs xs ≡ true
within_self xs = each_within xs xs (λ n i. i)

pub within_left : (xs ys : List ℕ) → within xs (xs ++ ys) ≡ true
within_left xs ys = each_within xs (xs ++ ys) (λ n i. in_left xs ys n i)

pub within_right : (xs ys : List ℕ) → within ys (xs ++ ys) ≡ true
within_right xs ys = each_within ys (xs ++ ys) (λ n i. in_right xs ys n i)

pub within_both : (xs ys zs : List ℕ) → within xs zs ≡ true → within ys zs ≡ true → within (xs ++ ys) zs ≡ true
within_both [] ys zs one two = two
within_both (x ∷ xs) ys zs one two = by_first (among zs x) one (λ rest. within_both xs ys zs rest two)
  where
    by_first : (b : Bool) → (b && within xs zs) ≡ true → (within xs zs ≡ true → within (xs ++ ys) zs ≡ true) → (b && within (xs ++ ys) zs) ≡ true
    by_first true one more = more one
    by_first false one more = cc

pub apart_none : (xs : List ℕ) → apart xs [] ≡ true
apart_none [] = refl
apart_none (x ∷ xs) = apart_none xs
