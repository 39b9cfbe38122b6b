-- The least number so far, and one more.
use Rattle.std.proofs.Common.{◌≡◌, ◌∙◌, refl, sym, ap, subst, ℕ, ◌+◌, ◌<◌, ◌≤◌, ◌⊎◌, inl, inr, ⊎_elim, Bool, true, false, List, [], ◌∷◌, length, take, get_or, Option, Some, None, Contains, arith, min}
use Rattle.std.proofs.lemmas.List.{take_more}
use Rattle.std.proofs.lemmas.List.Elements.{Contains-push, Contains-push_cases, Contains-append_left}
use Rattle.clock_terms.specs.Least.{IsLeast}
use Rattle.clock_spread.specs.Least.{IsLeastOf, IsNumberIn, lesser_of}

pub least_same : (P Q : ℕ → Type 0) (o : Option ℕ) → ((n : ℕ) → P n → Q n) → ((n : ℕ) → Q n → P n) → IsLeastOf P o → IsLeastOf Q o
least_same P Q None to from h = λ n q. h n (from n q)
least_same P Q (Some n) to from h = (to n h.0, λ m lt q. h.1 m lt (from m q))

true_false : true ≡ false → ⊥
true_false e = absurd cc

pub lesser_least : (P Q : ℕ → Type 0) (o : Option ℕ) (n : ℕ) (b : Bool) → (b ≡ true → Q n) → (b ≡ false → Q n → ⊥) → ((m : ℕ) → Q m → m ≡ n) → IsLeastOf P o → IsLeastOf (λ m. P m ⊎ Q m) (lesser_of o n b)
lesser_least P Q None n false is isnt only h = λ m. ⊎_elim (h m) (λ q. isnt refl (subst Q (only m q) q))
lesser_least P Q (Some k) n false is isnt only h = (inl h.0, λ m lt. ⊎_elim (h.1 m lt) (λ q. isnt refl (subst Q (only m q) q)))
lesser_least P Q None n true is isnt only h = (inr (is refl), λ m lt. ⊎_elim (h m) (λ q. let e = only m q in absurd (omega (arith, e, lt))))
lesser_least P Q (Some k) n true is isnt only h = (
  by_order (le_or k n),
  λ m lt. ⊎_elim (λ p. h.1 m (below m lt).0 p) (λ q. let e = only m q in let f = (below m lt).1 in absurd (omega (arith, e, f))),
)
  where
    le_or : (k n : ℕ) → (k ≤ n) ⊎ (n ≤ k)
    le_or k n = grind arith

    below : (m : ℕ) → m < min k n → (m < k) × (m < n)
    below m lt = (omega (arith, lt), omega (arith, lt))

    by_order : (k ≤ n) ⊎ (n ≤ k) → P (min k n) ⊎ Q (min k n)
    by_order (inl le) = let e : min k n ≡ k = omega (arith, le) in inl (subst P (sym e) h.0)
    by_order (inr le) = let e : min k n ≡ n = omega (arith, le) in inr (subst Q (sym e) (is refl))

-- one element more
pub least_more : {X : Type 0} (number : X → ℕ) (P : X → Type 0) (xs : List X) (i : ℕ) (d : X) (o : Option ℕ) (n : ℕ) (b : Bool) → i < length xs → n ≡ number (get_or xs i d)
    → (b ≡ true → P (get_or xs i d)) → (P (get_or xs i d) → b ≡ true) → IsLeastOf (IsNumberIn number P (take i xs)) o → IsLeastOf (IsNumberIn number P (take (i + 1) xs)) (lesser_of o n b)
least_more {X} number P xs i d o n b within key to from h =
    least_same (λ m. IsNumberIn number P (take i xs) m ⊎ New m) (IsNumberIn number P (take (i + 1) xs)) (lesser_of o n b) joined split
    (lesser_least (IsNumberIn number P (take i xs)) New o n b (λ t. (sym key, to t)) (λ f new. true_false (sym (from new.1) ∙ f)) (λ m new. sym new.0 ∙ sym key) h)
  where
    New : ℕ → Type 0
    New m = (number (get_or xs i d) ≡ m) × P (get_or xs i d)

    joined : (m : ℕ) → IsNumberIn number P (take i xs) m ⊎ New m → IsNumberIn number P (take (i + 1) xs) m
    joined m (inl (x, in_list, is, p)) = (x, rw (take_more xs i d within) (Contains-append_left (take i xs) (get_or xs i d ∷ []) x in_list), is, p)
    joined m (inr (is, p)) = (get_or xs i d, rw (take_more xs i d within) (Contains-push (take i xs) (get_or xs i d)), is, p)

    split : (m : ℕ) → IsNumberIn number P (take (i + 1) xs) m → IsNumberIn number P (take i xs) m ⊎ New m
    split m (x, in_list, is, p) = ⊎_elim
        (λ old. inl (x, old, is, p))
        (λ new. inr (ap number new ∙ is, subst P (sym new) p))
        (Contains-push_cases (take i xs) (get_or xs i d) x (subst (λ l. Contains l x) (take_more xs i d within) in_list))

pub least_none : {X : Type 0} (number : X → ℕ) (P : X → Type 0) (xs : List X) → IsLeastOf (IsNumberIn number P (take 0 xs)) None
least_none number P xs = λ n. λ (x, (k, within, at), is, p). absurd (omega (arith, within))

-- the lesser of two least numbers
pub least_both : (P Q : ℕ → Type 0) (o : Option ℕ) (n : ℕ) → IsLeastOf P o → IsLeast Q n → IsLeastOf (λ m. P m ⊎ Q m) (lesser_of o n true)
least_both P Q None n h q = (inr q.0, λ m lt. ⊎_elim (h m) (q.1 m lt))
least_both P Q (Some k) n h q = (
  by_order (le_or k n),
  λ m lt. ⊎_elim (h.1 m (below m lt).0) (q.1 m (below m lt).1),
)
  where
    le_or : (k n : ℕ) → (k ≤ n) ⊎ (n ≤ k)
    le_or k n = grind arith

    below : (m : ℕ) → m < min k n → (m < k) × (m < n)
    below m lt = (omega (arith, lt), omega (arith, lt))

    by_order : (k ≤ n) ⊎ (n ≤ k) → P (min k n) ⊎ Q (min k n)
    by_order (inl le) = let e : min k n ≡ k = omega (arith, le) in inl (subst P (sym e) h.0)
    by_order (inr le) = let e : min k n ≡ n = omega (arith, le) in inr (subst Q (sym e) q.0)

pub least_left : (P Q : ℕ → Type 0) (o : Option ℕ) → IsLeastOf P o → ((n : ℕ) → Q n → ⊥) → IsLeastOf (λ m. P m ⊎ Q m) o
least_left P Q None h none = λ m. ⊎_elim (h m) (none m)
least_left P Q (Some k) h none = (inl h.0, λ m lt. ⊎_elim (h.1 m lt) (none m))
