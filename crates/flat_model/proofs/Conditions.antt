-- A condition rests on the values of its names at the moment itself.
use Rattle.std.proofs.Common.{◌≡◌, refl, ap, ◌∙◌, sym, subst, ℕ, zero, suc, ◌+◌, ◌-◌, ◌<◌, Bool, true, List, [], ◌∷◌, map, Option, Some, slice_get, arith, inl, inr}
use Rattle.std.specs.List.{list_all}
use Rattle.std.proofs.lemmas.Bool.{false≢true, and_parts}
use Rattle.sync_values.specs.declared.value.Value.{Value}
use Rattle.flat_model.specs.declared.expression.Expr.{Expr}
use Rattle.flat_model.specs.declared.clock.ClockExpr.{ClockExpr}
use Rattle.flat_model.specs.declared.clock.ClockExpr.TheOpen.{Expr-F}
use Rattle.flat_model.specs.declared.clock.ClockExpr.TheViews.{roll-Expr}
use Rattle.flat_model.specs.declared.clock.ClockExpr.TheFolds.{ind-Expr, fold-roll-Expr, map-Expr}
use Rattle.flat_model.specs.Values.{value_in, views_of}
use Rattle.flat_model.specs.Asks.{Asking, OfNow, OfLast, OfPrevious, OfFirst, OfInterval, Asked, asked, asked_in_level, all_asked}
use Rattle.flat_model.specs.Assignment.{Assignment}
use Rattle.flat_model.specs.Meaning.{value_of}
use Rattle.flat_model.specs.Occurrences.{direct_level, is_direct, bare_count}
use Rattle.flat_model.specs.Setting.{Setting, unclocked_views, answer_in, site_answer}
use Rattle.flat_model.proofs.Asks.{SameAt, asked_roll, value_rests_on_asked}
use Rattle.flat_model.proofs.Links.{asked_bare, either_some}

-- a name's value is asked for
abbrev IsNow : Asking → Type 0
IsNow (OfNow x) = Unit {0}
IsNow _ = ⊥

-- an expression of constants, names, operators and functions asks for values of the moment itself alone
abbrev AsksNow : Expr → Type 0
AsksNow e = is_direct e ≡ true → (d : ℕ) (q : Asking) → 0 < asked e d q → (d ≡ 0) × IsNow q

nothing : {A : Type 0} → 0 < 0 → A
nothing h = absurd (omega (arith, h))

direct_roll : (y : Expr-F ClockExpr Expr) → is_direct (roll-Expr y) ≡ direct_level (map-Expr ClockExpr Expr (Unit {0}) Bool (λ _. tt) is_direct y)
unfolding is_direct
direct_roll y = fold-roll-Expr (Unit {0}) Bool (λ _. tt) direct_level y

module _ {A B : Type 0} (f : A → ClockExpr) (g : B → Expr) (all : (b : B) → AsksNow (g b)) where
  parts_now : (ps : List B) → list_all (λ part. part) (map is_direct (map g ps)) ≡ true → (d : ℕ) (q : Asking) → 0 < all_asked (map asked (map g ps)) d q → (d ≡ 0) × IsNow q
  parts_now [] direct d q some = nothing some
  parts_now (p ∷ ps) direct d q some = elim (either_some (asked (g p) d q) (all_asked (map asked (map g ps)) d q) some) [
    | inl here ↦ all p (and_parts _ _ direct).0 d q here
    | inr rest ↦ parts_now ps (and_parts _ _ direct).1 d q rest
  ]

  name_now : (d n : ℕ) (q : Asking) → 0 < asked_in_level (Expr-F.Read n) d q → (d ≡ 0) × IsNow q
  name_now zero n (OfNow x) some = (refl, tt)
  name_now zero n (OfLast x) some = nothing some
  name_now zero n (OfPrevious x) some = nothing some
  name_now zero n OfFirst some = nothing some
  name_now zero n OfInterval some = nothing some
  name_now (suc d) n q some = nothing some

  abbrev direct_at : Expr-F A B → Bool
  direct_at y = direct_level (map-Expr ClockExpr Expr (Unit {0}) Bool (λ _. tt) is_direct (map-Expr A B ClockExpr Expr f g y))

  abbrev asked_at : Expr-F A B → Asked
  asked_at y = asked_in_level (map-Expr ClockExpr Expr (Unit {0}) Asked (λ _. tt) asked (map-Expr A B ClockExpr Expr f g y))

  level_now : (y : Expr-F A B) → direct_at y ≡ true → (d : ℕ) (q : Asking) → 0 < asked_at y d q → (d ≡ 0) × IsNow q
  level_now (Expr-F.Const v) direct d q some = nothing some
  level_now (Expr-F.Read n) direct d q some = name_now d n q some
  level_now (Expr-F.Chain ps ops) direct d q some = parts_now ps direct d q some
  level_now (Expr-F.Relation rel a b) direct d q some = elim (either_some (asked (g a) d q) (asked (g b) d q) some) [
    | inl here ↦ all a (and_parts _ _ direct).0 d q here
    | inr rest ↦ all b (and_parts _ _ direct).1 d q rest
  ]
  level_now (Expr-F.Neg a) direct d q some = all a direct d q some
  level_now (Expr-F.Not a) direct d q some = all a direct d q some
  level_now (Expr-F.If cs bs other) direct d q some =
      let two = and_parts _ _ direct in
      let one = and_parts _ _ two.0 in elim (either_some (all_asked (map asked (map g cs)) d q + all_asked (map asked (map g bs)) d q) (asked (g other) d q) some) [
        | inl front ↦ elim (either_some (all_asked (map asked (map g cs)) d q) (all_asked (map asked (map g bs)) d q) front) [
          | inl here ↦ parts_now cs one.0 d q here
          | inr there ↦ parts_now bs one.1 d q there
        ]
        | inr rest ↦ all other two.1 d q rest
      ]
  level_now (Expr-F.Apply function ps) direct d q some = parts_now ps direct d q some
  level_now (Expr-F.Previous n) direct d q some = absurd (false≢true direct)
  level_now (Expr-F.FirstTick n) direct d q some = absurd (false≢true direct)
  level_now (Expr-F.IntervalTimes n k) direct d q some = absurd (false≢true direct)
  level_now (Expr-F.Hold n) direct d q some = absurd (false≢true direct)
  level_now (Expr-F.«Expr::Convert» conversion n) direct d q some = absurd (false≢true direct)
  level_now (Expr-F.Sample a clock) direct d q some = absurd (false≢true direct)

  rolled : (y : Expr-F A B) → AsksNow (roll-Expr (map-Expr A B ClockExpr Expr f g y))
  rolled y direct d q some = let z = map-Expr A B ClockExpr Expr f g y in
      level_now y (sym (direct_roll z) ∙ direct) d q (subst (λ n. 0 < n) (asked_roll z d q) some)

asks_now : (e : Expr) → AsksNow e
asks_now = ind-Expr (λ c. Unit {0}) AsksNow (λ a b is. tt) (λ a y is. subst (λ z. AsksNow (roll-Expr z)) is (rolled (λ c. c.0) (λ e. e.0) (λ e. e.1) y))

-- its answer over the values of a moment is that of the assignment, where the names that it reads have the same values in both
pub condition_same : (e : Expr) → is_direct e ≡ true → (now : List (Option Value)) (S : Assignment) (m : ℕ) → ((y : ℕ) → 0 < bare_count y e → value_in now y ≡ S y m)
    → value_of e (views_of now) ≡ value_of e (unclocked_views S m)
condition_same e direct now S m same = value_rests_on_asked e (views_of now) (unclocked_views S m) (λ d q some. at d q (asks_now e direct d q some) some)
  where
    at : (d : ℕ) (q : Asking) → (d ≡ 0) × IsNow q → 0 < asked e d q → SameAt (views_of now) (unclocked_views S m) d q
    at zero (OfNow x) is some = subst (λ k. value_in now x ≡ S x k) (let h : m ≡ m - 0 = omega arith in h) (same x (subst (λ n. 0 < n) (asked_bare x e) some))
    at zero (OfLast x) is some = absurd is.1
    at zero (OfPrevious x) is some = absurd is.1
    at zero OfFirst is some = absurd is.1
    at zero OfInterval is some = absurd is.1
    at (suc d) q is some = absurd (omega (arith, is.0))

pub site_same_over : (s : Setting) (S : Assignment) (site m : ℕ) (now : List (Option Value)) (e : Expr) → slice_get s.clocking.sites site ≡ Some e → is_direct e ≡ true
    → ((y : ℕ) → 0 < bare_count y e → value_in now y ≡ S y m) → value_of e (views_of now) ≡ site_answer s S site m
site_same_over s S site m now e found direct same = condition_same e direct now S m same ∙ sym (ap (answer_in (unclocked_views S m)) found)
