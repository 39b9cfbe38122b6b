-- Where nothing that wants a clock is mentioned, an expression may stand in the argument of `sample` and in an unclocked equation.
use Rattle.std.proofs.Common.{◌≡◌, ◌∙◌, refl, ap, subst, true, ◌&&◌, List, [], ◌∷◌, ◌++◌, map, Some, None}
use Rattle.flat_model.specs.declared.expression.Expr.{Expr}
use Rattle.flat_model.specs.declared.clock.ClockExpr.{ClockExpr}
use Rattle.flat_model.specs.declared.clock.ClockExpr.TheOpen.{Expr-F}
use Rattle.flat_model.specs.declared.clock.ClockExpr.TheViews.{roll-Expr}
use Rattle.flat_model.specs.declared.clock.ClockExpr.TheFolds.{ind-Expr, fold-roll-Expr, map-Expr}
use Rattle.flat_model.specs.declared.evaluate.Vantage.TheVariants.{Now, Left}
use Rattle.flat_model.specs.Samples.{Standing, standing_of_level, all_stand, may_stand}
use Rattle.clock_terms.specs.Mentions.{Mention, Cut, SeenExpr, SeenClock, mentions_of, cuts_of, mentions_of_level, cuts_of_level, seen, seen_clock}
use Rattle.clock_terms.specs.Said.{NeedsClock}
use Rattle.clock_ready.proofs.Good.{Each}
use Rattle.clock_ready.proofs.Shown.{seen_roll}
use Rattle.clock_sides.proofs.Lists.{each_left, each_right, both_true}

abbrev pub IsStill : Mention → Type 0
IsStill m = NeedsClock m → ⊥

abbrev pub AreStill : List Mention → Type 0
AreStill ms = Each IsStill ms

abbrev pub IsStillCut : Cut → Type 0
IsStillCut cut = AreStill cut.mentions

standing_roll : (y : Expr-F ClockExpr Expr) → may_stand (roll-Expr y) ≡ standing_of_level (map-Expr ClockExpr Expr (Unit {0}) Standing (λ _. tt) may_stand y)
unfolding may_stand
standing_roll y = fold-roll-Expr (Unit {0}) Standing (λ _. tt) standing_of_level y

abbrev Fits : Expr → Type 0
Fits e = (AreStill (seen e).mentions → may_stand e Left ≡ true) × (Each IsStillCut (seen e).cuts → may_stand e Now ≡ true)

module _ {A B : Type 0} (f : A → ClockExpr) (g : B → Expr) (all : (b : B) → Fits (g b)) where
  abbrev raised : Expr-F A B → Expr-F ClockExpr Expr
  raised z = map-Expr A B ClockExpr Expr f g z

  abbrev level : Expr-F A B → Standing
  level z = standing_of_level (map-Expr ClockExpr Expr (Unit {0}) Standing (λ _. tt) may_stand (raised z))

  parts_left : (ps : List B) → AreStill (mentions_of (map seen (map g ps))) → all_stand Left (map may_stand (map g ps)) ≡ true
  parts_left [] h = refl
  parts_left (p ∷ ps) h =
      let first = (seen (g p)).mentions in
      let rest = mentions_of (map seen (map g ps)) in
      both_true (may_stand (g p) Left) (all_stand Left (map may_stand (map g ps))) ((all p).0 (each_left IsStill first rest h)) (parts_left ps (each_right IsStill first rest h))

  parts_now : (ps : List B) → Each IsStillCut (cuts_of (map seen (map g ps))) → all_stand Now (map may_stand (map g ps)) ≡ true
  parts_now [] h = refl
  parts_now (p ∷ ps) h =
      let first = (seen (g p)).cuts in
      let rest = cuts_of (map seen (map g ps)) in
      both_true (may_stand (g p) Now) (all_stand Now (map may_stand (map g ps))) ((all p).1 (each_left IsStillCut first rest h)) (parts_now ps (each_right IsStillCut first rest h))

  level_left : (z : Expr-F A B) → AreStill (mentions_of_level (map-Expr ClockExpr Expr SeenClock SeenExpr seen_clock seen (raised z))) → level z Left ≡ true
  level_left (Expr-F.Const v) h = refl
  level_left (Expr-F.Read n) h = refl
  level_left (Expr-F.Chain ps ops) h = parts_left ps h
  level_left (Expr-F.Relation rel a b) h =
      let m = (seen (g a)).mentions in
      let n = (seen (g b)).mentions in
      both_true (may_stand (g a) Left) (may_stand (g b) Left) ((all a).0 (each_left IsStill m n h)) ((all b).0 (each_right IsStill m n h))
  level_left (Expr-F.Neg a) h = (all a).0 h
  level_left (Expr-F.Not a) h = (all a).0 h
  level_left (Expr-F.If cs bs other) h =
      let first = mentions_of (map seen (map g cs)) in
      let second = mentions_of (map seen (map g bs)) in
      let third = (seen (g other)).mentions in
      let front = each_left IsStill (first ++ second) third h in
      let one = all_stand Left (map may_stand (map g cs)) in
      let two = all_stand Left (map may_stand (map g bs)) in
      both_true (one && two) (may_stand (g other) Left)
      (both_true one two (parts_left cs (each_left IsStill first second front)) (parts_left bs (each_right IsStill first second front)))
      ((all other).0 (each_right IsStill (first ++ second) third h))
  level_left (Expr-F.Apply function ps) h = parts_left ps h
  level_left (Expr-F.Previous n) h = absurd (h.0 tt)
  level_left (Expr-F.FirstTick o) h = absurd (h.0 tt)
  level_left (Expr-F.IntervalTimes o k) h = absurd (h.0 tt)
  level_left (Expr-F.Hold n) h = refl
  level_left (Expr-F.«Expr::Convert» by n) h = absurd (h.0 tt)
  level_left (Expr-F.Sample a clock) h = absurd (h.0 tt)

  level_now : (z : Expr-F A B) → Each IsStillCut (cuts_of_level (map-Expr ClockExpr Expr SeenClock SeenExpr seen_clock seen (raised z))) → level z Now ≡ true
  level_now (Expr-F.Const v) h = refl
  level_now (Expr-F.Read n) h = refl
  level_now (Expr-F.Chain ps ops) h = parts_now ps h
  level_now (Expr-F.Relation rel a b) h =
      let m = (seen (g a)).cuts in
      let n = (seen (g b)).cuts in
      both_true (may_stand (g a) Now) (may_stand (g b) Now) ((all a).1 (each_left IsStillCut m n h)) ((all b).1 (each_right IsStillCut m n h))
  level_now (Expr-F.Neg a) h = (all a).1 h
  level_now (Expr-F.Not a) h = (all a).1 h
  level_now (Expr-F.If cs bs other) h =
      let first = cuts_of (map seen (map g cs)) in
      let second = cuts_of (map seen (map g bs)) in
      let third = (seen (g other)).cuts in
      let front = each_left IsStillCut (first ++ second) third h in
      let one = all_stand Now (map may_stand (map g cs)) in
      let two = all_stand Now (map may_stand (map g bs)) in
      both_true (one && two) (may_stand (g other) Now)
      (both_true one two (parts_now cs (each_left IsStillCut first second front)) (parts_now bs (each_right IsStillCut first second front)))
      ((all other).1 (each_right IsStillCut (first ++ second) third h))
  level_now (Expr-F.Apply function ps) h = parts_now ps h
  level_now (Expr-F.Previous n) h = refl
  level_now (Expr-F.FirstTick o) h = refl
  level_now (Expr-F.IntervalTimes o k) h = refl
  level_now (Expr-F.Hold n) h = refl
  level_now (Expr-F.«Expr::Convert» by n) h = refl
  level_now (Expr-F.Sample a None) h = (all a).0 h.0
  level_now (Expr-F.Sample a (Some k)) h = (all a).0 h.0

rolled : {A B : Type 0} (f : A → ClockExpr) (g : B → Expr) → ((b : B) → Fits (g b)) → (z : Expr-F A B) → Fits (roll-Expr (map-Expr A B ClockExpr Expr f g z))
rolled {A = A} {B = B} f g all z =
    let y = map-Expr A B ClockExpr Expr f g z in (
      λ still. ap (λ s. s Left) (standing_roll y) ∙ level_left f g all z (subst (λ s. AreStill s.mentions) (seen_roll y) still),
      λ still. ap (λ s. s Now) (standing_roll y) ∙ level_now f g all z (subst (λ s. Each IsStillCut s.cuts) (seen_roll y) still),
    )

pub still : (e : Expr) → Fits e
still = ind-Expr (λ c. Unit {0}) Fits (λ a b is. tt) (λ a z is. subst (λ w. Fits (roll-Expr w)) is (rolled (λ c. c.0) (λ e. e.0) (λ e. e.1) z))
