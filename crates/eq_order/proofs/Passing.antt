-- The numbers below a bound that pass a test, as a list and as a count.
use Rattle.std.proofs.Common.{◌≡◌, refl, ap, sym, subst, ◌∙◌, inl, inr, ℕ, zero, suc, ◌+◌, ◌<◌, Bool, true, false, cond, List, [], ◌∷◌, ◌++◌, length, get_or, length-append, arith, add-one}
use Rattle.std.specs.List.{Contains}
use Rattle.std.specs.List.Sorted.{IsStrictlyIncreasing}
use Rattle.std.proofs.lemmas.Bool.{cases_eq, cases_lt}
use Rattle.std.proofs.lemmas.List.{get_or_append_left}
use Rattle.std.proofs.Math.Seq.{get_or-append_seam}
use Rattle.std.proofs.lemmas.List.Elements.{Contains-push, Contains-push_cases, Contains-append_left}
use Rattle.eq_order.specs.Order.{AreAll}
use Rattle.eq_order.specs.private.Tables.{count_below}

pub count_next : (p : ℕ → Bool) (i : ℕ) → count_below p (i + 1) ≡ count_below p i + cond (p i) 1 0
count_next p i = subst (λ n. count_below p n ≡ count_below p i + cond (p i) 1 0) (sym (add-one i)) refl

pub next_yes : (p : ℕ → Bool) (i count : ℕ) → p i ≡ true → count ≡ count_below p i → count + 1 ≡ count_below p (i + 1)
next_yes p i count passes is =
    let c : cond (p i) 1 0 ≡ 1 = ap {B = ℕ} (λ b. cond b 1 0) passes in omega (arith, count_next p i, c, is)

pub next_no : (p : ℕ → Bool) (i count : ℕ) → p i ≡ false → count ≡ count_below p i → count ≡ count_below p (i + 1)
next_no p i count fails is =
    let c : cond (p i) 1 0 ≡ 0 = ap {B = ℕ} (λ b. cond b 1 0) fails in omega (arith, count_next p i, c, is)

pub none_below : (p : ℕ → Bool) (n : ℕ) → ((i : ℕ) → p i ≡ false) → count_below p n ≡ 0
none_below p zero none = refl
none_below p (suc n) none =
    let c : cond (p n) 1 0 ≡ 0 = ap {B = ℕ} (λ b. cond b 1 0) (none n) in omega (arith, c, none_below p n none)

pub some_below : (p : ℕ → Bool) (n i : ℕ) → i < n → p i ≡ true → 0 < count_below p n
some_below p zero i below passes = absurd (omega (arith, below))
some_below p (suc n) i below passes = elim (cases_eq i n) [
  | inl same ↦ let c : cond (p n) 1 0 ≡ 1 = ap {B = ℕ} (λ b. cond b 1 0) (ap p (sym same) ∙ passes) in omega (arith, c)
  | inr other ↦ let some = some_below p n i (omega (arith, below, other)) passes in omega (arith, some)
]

abbrev pub passing : (ℕ → Bool) → ℕ → List ℕ
passing p zero = []
passing p (suc n) = cond (p n) (passing p n ++ n ∷ []) (passing p n)

pub passing_length : (p : ℕ → Bool) (n : ℕ) → length (passing p n) ≡ count_below p n
passing_length p zero = refl
passing_length p (suc n) = go (p n) (passing_length p n)
  where
    go : (b : Bool) → length (passing p n) ≡ count_below p n → length (cond b (passing p n ++ n ∷ []) (passing p n)) ≡ count_below p n + cond b 1 0
    go true e = omega (arith, e, length-append (passing p n) (n ∷ []))
    go false e = omega (arith, e)

pub passing_just : (p : ℕ → Bool) (n x : ℕ) → Contains (passing p n) x → (x < n) × (p x ≡ true)
passing_just p zero x (k, within, is) = absurd (omega (arith, within))
passing_just p (suc n) x found = go (p n) refl found (passing_just p n x)
  where
    go : (b : Bool) → p n ≡ b → Contains (cond b (passing p n ++ n ∷ []) (passing p n)) x → (Contains (passing p n) x → (x < n) × (p x ≡ true)) → (x < suc n) × (p x ≡ true)
    go true e found before = elim (Contains-push_cases (passing p n) n x found) [
      | inl there ↦ let (below, passes) = before there in (omega (arith, below), passes)
      | inr same ↦ (omega (arith, same), ap p (sym same) ∙ e)
    ]
    go false e found before = let (below, passes) = before found in (omega (arith, below), passes)

pub passing_whole : (p : ℕ → Bool) (n x : ℕ) → x < n → p x ≡ true → Contains (passing p n) x
passing_whole p zero x below passes = absurd (omega (arith, below))
passing_whole p (suc n) x below passes = go (p n) refl (λ less. passing_whole p n x less passes)
  where
    go : (b : Bool) → p n ≡ b → (x < n → Contains (passing p n) x) → Contains (cond b (passing p n ++ n ∷ []) (passing p n)) x
    go true e before = elim (cases_eq x n) [
      | inl same ↦ subst (Contains (passing p n ++ n ∷ [])) (sym same) (Contains-push (passing p n) n)
      | inr other ↦ Contains-append_left (passing p n) (n ∷ []) x (before (omega (arith, below, other)))
    ]
    go false e before = before (elim (cases_eq x n) [
      | inl same ↦ cc (e, passes, ap p same)
      | inr other ↦ omega (arith, below, other)
    ])

rising_push : (xs : List ℕ) (n : ℕ) → IsStrictlyIncreasing xs → ((x : ℕ) → Contains xs x → x < n) → IsStrictlyIncreasing (xs ++ n ∷ [])
rising_push xs n up below k within =
    let size = length-append xs (n ∷ []) in
    let here : k < length xs = omega (arith, within, size) in
    let at : get_or (xs ++ n ∷ []) k 0 ≡ get_or xs k 0 = get_or_append_left xs (n ∷ []) 0 k here in
    elim (cases_lt (k + 1) (length xs)) [
      | inl inside ↦ let next : get_or (xs ++ n ∷ []) (k + 1) 0 ≡ get_or xs (k + 1) 0 = get_or_append_left xs (n ∷ []) 0 (k + 1) inside in omega (arith, at, next, up k inside)
      | inr past ↦
          let last : k + 1 ≡ length xs = omega (arith, past, here) in
          let next : get_or (xs ++ n ∷ []) (k + 1) 0 ≡ n = ap (λ j. get_or (xs ++ n ∷ []) j 0) last ∙ get_or-append_seam xs n [] 0 in
          let less = below (get_or xs k 0) (k, here, at_same xs k here) in
          omega (arith, at, next, less)
    ]
  where
    at_same : (xs : List ℕ) (k : ℕ) → k < length xs → get_or xs k (get_or xs k 0) ≡ get_or xs k 0
    at_same [] k within = absurd (omega (arith, within))
    at_same (x ∷ xs) zero within = refl
    at_same (x ∷ xs) (suc k) within = at_same xs k (omega (arith, within))

passing_rising : (p : ℕ → Bool) (n : ℕ) → IsStrictlyIncreasing (passing p n)
passing_rising p zero = λ k within. absurd (omega (arith, within))
passing_rising p (suc n) = go (p n) (passing_rising p n)
  where
    go : (b : Bool) → IsStrictlyIncreasing (passing p n) → IsStrictlyIncreasing (cond b (passing p n ++ n ∷ []) (passing p n))
    go true up = rising_push (passing p n) n up (λ x found. (passing_just p n x found).0)
    go false up = up

-- the numbers that pass are all of which something holds, where the test tells that
pub all_passing : (P : ℕ → Type 0) (p : ℕ → Bool) (n : ℕ) → ((x : ℕ) → P x → (x < n) × (p x ≡ true)) → ((x : ℕ) → p x ≡ true → P x) → AreAll P (passing p n)
all_passing P p n onto back = record {
  rising = passing_rising p n;
  just = λ x found. back x (passing_just p n x found).1;
  whole = λ x holds. let (below, passes) = onto x holds in passing_whole p n x below passes;
}
