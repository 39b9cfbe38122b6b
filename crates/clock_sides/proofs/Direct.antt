-- An expression in which names alone are mentioned is made of constants, names, operators and functions.
use Rattle.std.proofs.Common.{◌≡◌, ◌∙◌, refl, subst, Bool, true, ◌&&◌, List, [], ◌∷◌, ◌++◌, map}
use Rattle.std.specs.List.{list_all}
use Rattle.flat_model.specs.declared.expression.Expr.{Expr}
use Rattle.flat_model.specs.declared.clock.ClockExpr.{ClockExpr}
use Rattle.flat_model.specs.declared.clock.ClockExpr.TheOpen.{Expr-F}
use Rattle.flat_model.specs.declared.clock.ClockExpr.TheViews.{roll-Expr}
use Rattle.flat_model.specs.declared.clock.ClockExpr.TheFolds.{ind-Expr, fold-roll-Expr, map-Expr}
use Rattle.flat_model.specs.Occurrences.{direct_level, is_direct}
use Rattle.clock_terms.specs.Mentions.{Mention, Stands, Gives, SeenExpr, SeenClock, mentions_of, mentions_of_level, seen, seen_clock}
use Rattle.clock_ready.proofs.Good.{Each}
use Rattle.clock_ready.proofs.Shown.{seen_roll}
use Rattle.clock_sides.proofs.Lists.{each_left, each_right, both_true}

abbrev pub IsDirect : Mention → Type 0
IsDirect (Stands x) = Unit {0}
IsDirect (Gives clock) = Unit {0}
IsDirect _ = ⊥

direct_roll : (y : Expr-F ClockExpr Expr) → is_direct (roll-Expr y) ≡ direct_level (map-Expr ClockExpr Expr (Unit {0}) Bool (λ _. tt) is_direct y)
unfolding is_direct
direct_roll y = fold-roll-Expr (Unit {0}) Bool (λ _. tt) direct_level y

abbrev Fits : Expr → Type 0
Fits e = Each IsDirect (seen e).mentions → is_direct e ≡ true

module _ {A B : Type 0} (f : A → ClockExpr) (g : B → Expr) (all : (b : B) → Fits (g b)) where
  abbrev raised : Expr-F A B → Expr-F ClockExpr Expr
  raised z = map-Expr A B ClockExpr Expr f g z

  abbrev are : List B → Bool
  are ps = list_all (λ part. part) (map is_direct (map g ps))

  parts_direct : (ps : List B) → Each IsDirect (mentions_of (map seen (map g ps))) → are ps ≡ true
  parts_direct [] h = refl
  parts_direct (p ∷ ps) h =
      let first = (seen (g p)).mentions in
      let rest = mentions_of (map seen (map g ps)) in
      both_true (is_direct (g p)) (are ps) (all p (each_left IsDirect first rest h)) (parts_direct ps (each_right IsDirect first rest h))

  level_direct : (z : Expr-F A B) → Each IsDirect (mentions_of_level (map-Expr ClockExpr Expr SeenClock SeenExpr seen_clock seen (raised z)))
      → direct_level (map-Expr ClockExpr Expr (Unit {0}) Bool (λ _. tt) is_direct (raised z)) ≡ true
  level_direct (Expr-F.Const v) h = refl
  level_direct (Expr-F.Read n) h = refl
  level_direct (Expr-F.Chain ps ops) h = parts_direct ps h
  level_direct (Expr-F.Relation rel a b) h =
      let m = (seen (g a)).mentions in
      let n = (seen (g b)).mentions in
      both_true (is_direct (g a)) (is_direct (g b)) (all a (each_left IsDirect m n h)) (all b (each_right IsDirect m n h))
  level_direct (Expr-F.Neg a) h = all a h
  level_direct (Expr-F.Not a) h = all a h
  level_direct (Expr-F.If cs bs other) h =
      let first = mentions_of (map seen (map g cs)) in
      let second = mentions_of (map seen (map g bs)) in
      let third = (seen (g other)).mentions in
      let front = each_left IsDirect (first ++ second) third h in
      both_true (are cs && are bs) (is_direct (g other))
      (both_true (are cs) (are bs) (parts_direct cs (each_left IsDirect first second front)) (parts_direct bs (each_right IsDirect first second front)))
      (all other (each_right IsDirect (first ++ second) third h))
  level_direct (Expr-F.Apply function ps) h = parts_direct ps h
  level_direct (Expr-F.Previous n) h = absurd h.0
  level_direct (Expr-F.FirstTick o) h = absurd h.0
  level_direct (Expr-F.IntervalTimes o k) h = absurd h.0
  level_direct (Expr-F.Hold n) h = absurd h.0
  level_direct (Expr-F.«Expr::Convert» by n) h = absurd h.0
  level_direct (Expr-F.Sample a clock) h = absurd h.0

rolled : {A B : Type 0} (f : A → ClockExpr) (g : B → Expr) → ((b : B) → Fits (g b)) → (z : Expr-F A B) → Fits (roll-Expr (map-Expr A B ClockExpr Expr f g z))
rolled {A = A} {B = B} f g all z h =
    let y = map-Expr A B ClockExpr Expr f g z in
    direct_roll y ∙ level_direct f g all z (subst (λ s. Each IsDirect s.mentions) (seen_roll y) h)

pub direct : (e : Expr) → Fits e
direct = ind-Expr (λ c. Unit {0}) Fits (λ a b is. tt) (λ a z is. subst (λ w. Fits (roll-Expr w)) is (rolled (λ c. c.0) (λ e. e.0) (λ e. e.1) z))
