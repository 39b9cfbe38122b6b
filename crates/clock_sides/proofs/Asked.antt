-- What an expression asks for is mentioned in it, and what it asks for a moment earlier in a part that is cut from it.
use Rattle.std.proofs.Common.{◌≡◌, sym, subst, ℕ, ◌+◌, ◌<◌, ⊎_elim, List, [], ◌∷◌, ◌++◌, map, Some, None}
use Rattle.flat_model.specs.declared.expression.Expr.{Expr}
use Rattle.flat_model.specs.declared.clock.Conversion.{Conversion}
use Rattle.flat_model.specs.declared.clock.ClockExpr.{ClockExpr}
use Rattle.flat_model.specs.declared.clock.ClockExpr.TheOpen.{Expr-F}
use Rattle.flat_model.specs.declared.clock.ClockExpr.TheViews.{roll-Expr}
use Rattle.flat_model.specs.declared.clock.ClockExpr.TheFolds.{ind-Expr, fold-roll-Expr, map-Expr}
use Rattle.flat_model.specs.Asks.{Asking, OfNow, OfLast, Asked, asked, asked_in_level, all_asked, is_now, is_last, is_previous, is_first, is_interval}
use Rattle.clock_terms.specs.declared.data.Cause.TheVariants.{Sampled}
use Rattle.clock_terms.specs.Mentions.{Mention, Stands, Holds, Converts, Cut, SeenExpr, SeenClock, mentions_of, cuts_of, mentions_of_level, cuts_of_level, seen, seen_clock}
use Rattle.clock_terms.specs.Said.{TakesLast}
use Rattle.clock_terms.proofs.Joining.{here}
use Rattle.clock_ready.proofs.Shown.{nothing, either, is_asked, seen_roll}
use Rattle.clock_sides.proofs.Lists.{Found, found_here, found_left, found_right, FoundCut, cut_left, cut_right}
use Rattle.clock_sides.proofs.Counted.{IsStanding}

asked_roll : (y : Expr-F ClockExpr Expr) → asked (roll-Expr y) ≡ asked_in_level (map-Expr ClockExpr Expr (Unit {0}) Asked (λ _. tt) asked y)
unfolding asked
asked_roll y = fold-roll-Expr (Unit {0}) Asked (λ _. tt) asked_in_level y

-- what may be asked for, with the mentions that it comes from
pub record Comes (q : Asking) (P : Mention → Type 0) : Type 0 where
  pub now : (x : ℕ) → 0 < is_now x q → P (Stands x)
  pub hold : (x : ℕ) → 0 < is_last x q → P (Holds x)
  pub convert : (by : Conversion) (x : ℕ) → 0 < is_last x q → P (Converts by x)
  pub previous : (x : ℕ) → 0 < is_previous x q → ⊥
  pub first : 0 < is_first q → ⊥
  pub interval : 0 < is_interval q → ⊥

module _ (q : Asking) (P : Mention → Type 0) (comes : Comes q P) where
  abbrev Shows : Expr → Type 0
  Shows e = (0 < asked e 0 q → Found P (seen e).mentions) × (0 < asked e 1 q → FoundCut P (seen e).cuts)

  module _ {A B : Type 0} (f : A → ClockExpr) (g : B → Expr) (all : (b : B) → Shows (g b)) where
    abbrev raised : Expr-F A B → Expr-F ClockExpr Expr
    raised z = map-Expr A B ClockExpr Expr f g z

    parts_now : (ps : List B) → 0 < all_asked (map asked (map g ps)) 0 q → Found P (mentions_of (map seen (map g ps)))
    parts_now [] some = nothing some
    parts_now (p ∷ ps) some = ⊎_elim
        (λ h. found_left P (seen (g p)).mentions (mentions_of (map seen (map g ps))) ((all p).0 h))
        (λ h. found_right P (seen (g p)).mentions (mentions_of (map seen (map g ps))) (parts_now ps h))
        (either (asked (g p) 0 q) (all_asked (map asked (map g ps)) 0 q) some)

    parts_back : (ps : List B) → 0 < all_asked (map asked (map g ps)) 1 q → FoundCut P (cuts_of (map seen (map g ps)))
    parts_back [] some = nothing some
    parts_back (p ∷ ps) some = ⊎_elim
        (λ h. cut_left P (seen (g p)).cuts (cuts_of (map seen (map g ps))) ((all p).1 h))
        (λ h. cut_right P (seen (g p)).cuts (cuts_of (map seen (map g ps))) (parts_back ps h))
        (either (asked (g p) 1 q) (all_asked (map asked (map g ps)) 1 q) some)

    abbrev level : Expr-F A B → Asked
    level z = asked_in_level (map-Expr ClockExpr Expr (Unit {0}) Asked (λ _. tt) asked (raised z))

    level_now : (z : Expr-F A B) → 0 < level z 0 q → Found P (mentions_of_level (map-Expr ClockExpr Expr SeenClock SeenExpr seen_clock seen (raised z)))
    level_now (Expr-F.Const v) some = nothing some
    level_now (Expr-F.Read n) some = found_here P (Stands n) [] (comes.now n some)
    level_now (Expr-F.Chain ps ops) some = parts_now ps some
    level_now (Expr-F.Relation rel a b) some = ⊎_elim
        (λ h. found_left P (seen (g a)).mentions (seen (g b)).mentions ((all a).0 h))
        (λ h. found_right P (seen (g a)).mentions (seen (g b)).mentions ((all b).0 h))
        (either (asked (g a) 0 q) (asked (g b) 0 q) some)
    level_now (Expr-F.Neg a) some = (all a).0 some
    level_now (Expr-F.Not a) some = (all a).0 some
    level_now (Expr-F.If cs bs other) some =
        let first = mentions_of (map seen (map g cs)) in
        let second = mentions_of (map seen (map g bs)) in
        let third = (seen (g other)).mentions in
        let m = all_asked (map asked (map g cs)) 0 q in
        let n = all_asked (map asked (map g bs)) 0 q in
        ⊎_elim
        (λ front. found_left P (first ++ second) third (⊎_elim
        (λ h. found_left P first second (parts_now cs h))
        (λ h. found_right P first second (parts_now bs h))
        (either m n front)))
        (λ h. found_right P (first ++ second) third ((all other).0 h))
        (either (m + n) (asked (g other) 0 q) some)
    level_now (Expr-F.Apply function ps) some = parts_now ps some
    level_now (Expr-F.Previous n) some = absurd (comes.previous n some)
    level_now (Expr-F.FirstTick o) some = absurd (comes.first some)
    level_now (Expr-F.IntervalTimes o k) some = absurd (comes.interval some)
    level_now (Expr-F.Hold n) some = found_here P (Holds n) [] (comes.hold n some)
    level_now (Expr-F.«Expr::Convert» by n) some = found_here P (Converts by n) [] (comes.convert by n some)
    level_now (Expr-F.Sample a clock) some = nothing some

    abbrev cuts : Expr-F A B → List Cut
    cuts z = cuts_of_level (map-Expr ClockExpr Expr SeenClock SeenExpr seen_clock seen (raised z))

    level_back : (z : Expr-F A B) → 0 < level z 1 q → FoundCut P (cuts z)
    level_back (Expr-F.Const v) some = nothing some
    level_back (Expr-F.Read n) some = nothing some
    level_back (Expr-F.Chain ps ops) some = parts_back ps some
    level_back (Expr-F.Relation rel a b) some = ⊎_elim
        (λ h. cut_left P (seen (g a)).cuts (seen (g b)).cuts ((all a).1 h))
        (λ h. cut_right P (seen (g a)).cuts (seen (g b)).cuts ((all b).1 h))
        (either (asked (g a) 1 q) (asked (g b) 1 q) some)
    level_back (Expr-F.Neg a) some = (all a).1 some
    level_back (Expr-F.Not a) some = (all a).1 some
    level_back (Expr-F.If cs bs other) some =
        let first = cuts_of (map seen (map g cs)) in
        let second = cuts_of (map seen (map g bs)) in
        let third = (seen (g other)).cuts in
        let m = all_asked (map asked (map g cs)) 1 q in
        let n = all_asked (map asked (map g bs)) 1 q in
        ⊎_elim
        (λ front. cut_left P (first ++ second) third (⊎_elim
        (λ h. cut_left P first second (parts_back cs h))
        (λ h. cut_right P first second (parts_back bs h))
        (either m n front)))
        (λ h. cut_right P (first ++ second) third ((all other).1 h))
        (either (m + n) (asked (g other) 1 q) some)
    level_back (Expr-F.Apply function ps) some = parts_back ps some
    level_back (Expr-F.Previous n) some = nothing some
    level_back (Expr-F.FirstTick o) some = nothing some
    level_back (Expr-F.IntervalTimes o k) some = nothing some
    level_back (Expr-F.Hold n) some = nothing some
    level_back (Expr-F.«Expr::Convert» by n) some = nothing some
    level_back (Expr-F.Sample a None) some =
        let own : Cut = record { cause = Sampled; mentions = (seen (g a)).mentions } in
        (own, here own ((seen (g a)).cuts ++ []), (all a).0 some)
    level_back (Expr-F.Sample a (Some k)) some =
        let own : Cut = record { cause = Sampled; mentions = (seen (g a)).mentions } in
        (own, here own ((seen (g a)).cuts ++ (seen_clock (f k)).cuts), (all a).0 some)

  rolled : {A B : Type 0} (f : A → ClockExpr) (g : B → Expr) → ((b : B) → Shows (g b)) → (z : Expr-F A B) → Shows (roll-Expr (map-Expr A B ClockExpr Expr f g z))
  rolled {A = A} {B = B} f g all z =
      let y = map-Expr A B ClockExpr Expr f g z in (
        λ some. subst (λ s. Found P s.mentions) (sym (seen_roll y)) (level_now f g all z (subst (λ a. 0 < a 0 q) (asked_roll y) some)),
        λ some. subst (λ s. FoundCut P s.cuts) (sym (seen_roll y)) (level_back f g all z (subst (λ a. 0 < a 1 q) (asked_roll y) some)),
      )

  shows : (e : Expr) → Shows e
  shows = ind-Expr (λ c. Unit {0}) Shows (λ a b is. tt) (λ a z is. subst (λ w. Shows (roll-Expr w)) is (rolled (λ c. c.0) (λ e. e.0) (λ e. e.1) z))

now_comes : (y : ℕ) → Comes (OfNow y) (IsStanding y)
now_comes y = record {
  now = λ x some. sym (is_asked x y some);
  hold = λ x some. nothing some;
  convert = λ by x some. nothing some;
  previous = λ x some. nothing some;
  first = λ some. nothing some;
  interval = λ some. nothing some;
}

last_comes : (z : ℕ) → Comes (OfLast z) (TakesLast z)
last_comes z = record {
  now = λ x some. nothing some;
  hold = λ x some. sym (is_asked x z some);
  convert = λ by x some. sym (is_asked x z some);
  previous = λ x some. nothing some;
  first = λ some. nothing some;
  interval = λ some. nothing some;
}

pub sampled_shown : (y : ℕ) (e : Expr) → 0 < asked e 1 (OfNow y) → FoundCut (IsStanding y) (seen e).cuts
sampled_shown y e = (shows (OfNow y) (IsStanding y) (now_comes y) e).1

pub sampled_last_shown : (z : ℕ) (e : Expr) → 0 < asked e 1 (OfLast z) → FoundCut (TakesLast z) (seen e).cuts
sampled_last_shown z e = (shows (OfLast z) (TakesLast z) (last_comes z) e).1
