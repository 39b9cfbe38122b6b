-- What an equation waits for, and what changes when one name is reached.
use Rattle.std.proofs.Common.{◌≡◌, refl, sym, ap, ◌∙◌, ℕ, ◌+◌, ◌<◌, ◌≤◌, ◌==◌, Bool, true, false, not, cond, List, [], ◌∷◌, inl, inr, length, get_or, set, arith, count_by, Some, slice_get}
use Rattle.std.proofs.lemmas.Bool.{cases_eq, cases_lt, eq-eqb, ne_eqb}
use Rattle.std.proofs.lemmas.List.{get_or-set_same, get_or-set_other, get_or_past}
use Rattle.std.proofs.lemmas.List.Sums.{sum_by-cons, length-filter}
use Rattle.std.proofs.lemmas.List.Elements.{filter_passes}
use Rattle.eq_orient.specs.Gathered.{count_of}
use Rattle.eq_order.specs.private.Reaching.{is_waiting, waiting}

pub count_cons : (p : ℕ → Bool) (y : ℕ) (ys : List ℕ) → count_by p (y ∷ ys) ≡ cond (p y) 1 0 + count_by p ys
count_cons p y ys = sum_by-cons (λ x. cond (p x) 1 0) y ys

alone : (ys : List ℕ) (x : ℕ) → length ys ≡ 1 → slice_get ys 0 ≡ Some x → ys ≡ x ∷ []
alone [] x size at = absurd (omega (arith, size))
alone (y ∷ []) x size at = cc
alone (y ∷ (z ∷ zs)) x size at = absurd (omega (arith, size))

-- a name that one equation waits for alone
pub waits_alone : (reached : List Bool) (names : List ℕ) (x : ℕ) → count_by (is_waiting reached) names ≡ 1
    → slice_get (waiting reached names) 0 ≡ Some x → waiting reached names ≡ x ∷ []
waits_alone reached names x one first = alone (waiting reached names) x (length-filter (is_waiting reached) names ∙ one) first

pub counts_one : (reached : List Bool) (names : List ℕ) (x : ℕ) → waiting reached names ≡ x ∷ [] → count_by (is_waiting reached) names ≡ 1
counts_one reached names x is = sym (length-filter (is_waiting reached) names) ∙ ap length is

pub waits : (reached : List Bool) (names : List ℕ) (x : ℕ) → waiting reached names ≡ x ∷ [] → is_waiting reached x ≡ true
waits reached names x is =
    let passes = filter_passes (is_waiting reached) names 0 0 (rw is (omega arith)) in
    ap (λ ys. is_waiting reached (get_or ys 0 0)) (sym is) ∙ passes

-- a name that is waited for has a flag
pub has_flag : (reached : List Bool) (x : ℕ) → is_waiting reached x ≡ true → x < length reached
has_flag reached x is = elim (cases_lt x (length reached)) [
  | inl inside ↦ inside
  | inr past ↦ absurd (cc (is, ap not (get_or_past reached x true past)))
]

pub reached_now : (reached : List Bool) (x : ℕ) → x < length reached → is_waiting (set reached x true) x ≡ false
reached_now reached x within = ap not (get_or-set_same reached x true true within)

pub others_stay : (reached : List Bool) (x y : ℕ) → (y ≡ x → ⊥) → is_waiting (set reached x true) y ≡ is_waiting reached y
others_stay reached x y other = ap not (get_or-set_other reached x y true true other)

-- the counts once x is reached
pub counts_after : (reached : List Bool) (x : ℕ) → is_waiting reached x ≡ true → (names : List ℕ)
    → count_by (is_waiting (set reached x true)) names + count_of x names ≡ count_by (is_waiting reached) names
counts_after reached x is [] = refl
counts_after reached x is (y ∷ ys) =
    let rest = counts_after reached x is ys in
    let new = count_cons (is_waiting (set reached x true)) y ys in
    let old = count_cons (is_waiting reached) y ys in
    let one = count_cons (λ z. z == x) y ys in
    elim (cases_eq y x) [
      | inl same ↦
          let now : is_waiting (set reached x true) y ≡ false = ap (is_waiting (set reached x true)) same ∙ reached_now reached x (has_flag reached x is) in
          let was : is_waiting reached y ≡ true = ap (is_waiting reached) same ∙ is in
          let a : cond (is_waiting (set reached x true) y) 1 0 ≡ 0 = ap {B = ℕ} (λ b. cond b 1 0) now in
          let b : cond (is_waiting reached y) 1 0 ≡ 1 = ap {B = ℕ} (λ b. cond b 1 0) was in
          let c : cond (y == x) 1 0 ≡ 1 = ap {B = ℕ} (λ b. cond b 1 0) (eq-eqb y x same) in
          omega (arith, rest, new, old, one, a, b, c)
      | inr other ↦
          let a : cond (is_waiting (set reached x true) y) 1 0 ≡ cond (is_waiting reached y) 1 0 = ap {B = ℕ} (λ b. cond b 1 0) (others_stay reached x y other) in
          let c : cond (y == x) 1 0 ≡ 0 = ap {B = ℕ} (λ b. cond b 1 0) (ne_eqb y x other) in
          omega (arith, rest, new, old, one, a, c)
    ]

-- an equation that does not read x waits for the same names
pub waits_same : (reached : List Bool) (x : ℕ) (names : List ℕ) → count_of x names ≡ 0 → waiting (set reached x true) names ≡ waiting reached names
waits_same reached x [] none = refl
waits_same reached x (y ∷ ys) none =
    let one = count_cons (λ z. z == x) y ys in
    elim (cases_eq y x) [
      | inl same ↦
          let c : cond (y == x) 1 0 ≡ 1 = ap {B = ℕ} (λ b. cond b 1 0) (eq-eqb y x same) in
          absurd (omega (arith, none, one, c))
      | inr other ↦
          let rest = waits_same reached x ys (omega (arith, none, one)) in
          rw (others_stay reached x y other, rest) refl
    ]

-- an equation that waits for x alone reads it
pub reads_it : (reached : List Bool) (x : ℕ) (names : List ℕ) → waiting reached names ≡ x ∷ [] → 1 ≤ count_of x names
reads_it reached x names is = elim (cases_eq (count_of x names) 0) [
  | inl none ↦
      let after = waits (set reached x true) names x (waits_same reached x names none ∙ is) in
      absurd (cc (after, reached_now reached x (has_flag reached x (waits reached names x is))))
  | inr some ↦ omega (arith, some)
]
