-- An expression of constants, names, operators and functions asks for values of the moment itself alone.
use Rattle.std.proofs.Common.{◌≡◌, refl, ap, ◌∙◌, sym, subst, ℕ, zero, suc, ◌+◌, ◌-◌, ◌<◌, Bool, true, List, [], ◌∷◌, map, Option, Some, slice_get, arith, inl, inr}
use Rattle.std.specs.List.{list_all}
use Rattle.std.proofs.lemmas.Bool.{false≢true, and_parts}
use Rattle.flat_model.specs.declared.expression.Expr.{Expr}
use Rattle.flat_model.specs.declared.clock.ClockExpr.{ClockExpr}
use Rattle.flat_model.specs.declared.clock.ClockExpr.TheOpen.{Expr-F}
use Rattle.flat_model.specs.declared.clock.ClockExpr.TheViews.{roll-Expr}
use Rattle.flat_model.specs.declared.clock.ClockExpr.TheFolds.{ind-Expr, fold-roll-Expr, map-Expr}
use Rattle.flat_model.specs.Asks.{Asking, OfNow, OfLast, OfPrevious, OfFirst, OfInterval, Asked, asked, asked_in_level, all_asked}
use Rattle.flat_model.specs.Occurrences.{direct_level, is_direct}
use Rattle.flat_model.proofs.Asks.{asked_roll}
use Rattle.flat_model.proofs.Links.{either_some}

-- a name's value is asked for
abbrev pub IsNow : Asking → Type 0
IsNow (OfNow x) = Unit {0}
IsNow _ = ⊥

-- an expression of constants, names, operators and functions asks for values of the moment itself alone
abbrev pub AsksNow : Expr → Type 0
AsksNow e = is_direct e ≡ true → (d : ℕ) (q : Asking) → 0 < asked e d q → (d ≡ 0) × IsNow q

nothing : {A : Type 0} → 0 < 0 → A
nothing h = absurd (omega (arith, h))

direct_roll : (y : Expr-F ClockExpr Expr) → is_direct (roll-Expr y) ≡ direct_level (map-Expr ClockExpr Expr (Unit {0}) Bool (λ _. tt) is_direct y)
unfolding is_direct
direct_roll y = fold-roll-Expr (Unit {0}) Bool (λ _. tt) direct_level y

module _ {A B : Type 0} (f : A → ClockExpr) (g : B → Expr) (all : (b : B) → AsksNow (g b)) where
  parts_now : (ps : List B) → list_all (λ part. part) (map is_direct (map g ps)) ≡ true → (d : ℕ) (q : Asking) → 0 < all_asked (map asked (map g ps)) d q → (d ≡ 0) × IsNow q
  parts_now [] direct d q some = nothing some
  parts_now (p ∷ ps) direct d q some = elim (either_some (asked (g p) d q) (all_asked (map asked (map g ps)) d q) some) [
    | inl here ↦ all p (and_parts _ _ direct).0 d q here
    | inr rest ↦ parts_now ps (and_parts _ _ direct).1 d q rest
  ]

  name_now : (d n : ℕ) (q : Asking) → 0 < asked_in_level (Expr-F.Read n) d q → (d ≡ 0) × IsNow q
  name_now zero n (OfNow x) some = (refl, tt)
  name_now zero n (OfLast x) some = nothing some
  name_now zero n (OfPrevious x) some = nothing some
  name_now zero n OfFirst some = nothing some
  name_now zero n OfInterval some = nothing some
  name_now (suc d) n q some = nothing some

  abbrev direct_at : Expr-F A B → Bool
  direct_at y = direct_level (map-Expr ClockExpr Expr (Unit {0}) Bool (λ _. tt) is_direct (map-Expr A B ClockExpr Expr f g y))

  abbrev asked_at : Expr-F A B → Asked
  asked_at y = asked_in_level (map-Expr ClockExpr Expr (Unit {0}) Asked (λ _. tt) asked (map-Expr A B ClockExpr Expr f g y))

  level_now : (y : Expr-F A B) → direct_at y ≡ true → (d : ℕ) (q : Asking) → 0 < asked_at y d q → (d ≡ 0) × IsNow q
  level_now (Expr-F.Const v) direct d q some = nothing some
  level_now (Expr-F.Read n) direct d q some = name_now d n q some
  level_now (Expr-F.Chain ps ops) direct d q some = parts_now ps direct d q some
  level_now (Expr-F.Relation rel a b) direct d q some = elim (either_some (asked (g a) d q) (asked (g b) d q) some) [
    | inl here ↦ all a (and_parts _ _ direct).0 d q here
    | inr rest ↦ all b (and_parts _ _ direct).1 d q rest
  ]
  level_now (Expr-F.Neg a) direct d q some = all a direct d q some
  level_now (Expr-F.Not a) direct d q some = all a direct d q some
  level_now (Expr-F.If cs bs other) direct d q some =
      let two = and_parts _ _ direct in
      let one = and_parts _ _ two.0 in elim (either_some (all_asked (map asked (map g cs)) d q + all_asked (map asked (map g bs)) d q) (asked (g other) d q) some) [
        | inl front ↦ elim (either_some (all_asked (map asked (map g cs)) d q) (all_asked (map asked (map g bs)) d q) front) [
          | inl here ↦ parts_now cs one.0 d q here
          | inr there ↦ parts_now bs one.1 d q there
        ]
        | inr rest ↦ all other two.1 d q rest
      ]
  level_now (Expr-F.Apply function ps) direct d q some = parts_now ps direct d q some
  level_now (Expr-F.Previous n) direct d q some = absurd (false≢true direct)
  level_now (Expr-F.FirstTick n) direct d q some = absurd (false≢true direct)
  level_now (Expr-F.IntervalTimes n k) direct d q some = absurd (false≢true direct)
  level_now (Expr-F.Hold n) direct d q some = absurd (false≢true direct)
  level_now (Expr-F.«Expr::Convert» conversion n) direct d q some = absurd (false≢true direct)
  level_now (Expr-F.Sample a clock) direct d q some = absurd (false≢true direct)

  rolled : (y : Expr-F A B) → AsksNow (roll-Expr (map-Expr A B ClockExpr Expr f g y))
  rolled y direct d q some = let z = map-Expr A B ClockExpr Expr f g y in
      level_now y (sym (direct_roll z) ∙ direct) d q (subst (λ n. 0 < n) (asked_roll z d q) some)

pub asks_now : (e : Expr) → AsksNow e
asks_now = ind-Expr (λ c. Unit {0}) AsksNow (λ a b is. tt) (λ a y is. subst (λ z. AsksNow (roll-Expr z)) is (rolled (λ c. c.0) (λ e. e.0) (λ e. e.1) y))
