-- What is held or converted in an expression is no input, and what is cut from each clock in it is cut from the expression.
use Rattle.std.proofs.Common.{◌≡◌, ◌∙◌, sym, subst, Bool, true, false, List, [], ◌∷◌, ◌++◌, map, Some, None}
use Rattle.std.proofs.lemmas.Bool.{and_parts}
use Rattle.flat_model.specs.declared.expression.Expr.{Expr}
use Rattle.flat_model.specs.declared.clock.ClockExpr.{ClockExpr}
use Rattle.flat_model.specs.declared.clock.ClockExpr.TheVariants as clock
use Rattle.flat_model.specs.declared.clock.ClockExpr.TheOpen.{ClockExpr-F, Expr-F}
use Rattle.flat_model.specs.declared.clock.ClockExpr.TheViews.{roll-Expr, roll-ClockExpr}
use Rattle.flat_model.specs.declared.clock.ClockExpr.TheFolds.{ind-Expr, ind-ClockExpr, fold-roll-Expr, fold-roll-ClockExpr, map-Expr, map-ClockExpr}
use Rattle.flat_model.specs.declared.model.FlatName.{FlatName}
use Rattle.flat_model.specs.Arguments.{is_input, arguments_in_clock_level, arguments_in_level, holds_no_input, clock_holds_no_input}
use Rattle.flat_model.specs.Counters.{all_fit}
use Rattle.clock_terms.specs.declared.data.Cause.TheVariants.{Condition}
use Rattle.clock_terms.specs.Mentions.{Mention, Stands, Holds, Converts, Gives, Cut, SeenExpr, SeenClock, mentions_of, cuts_of, mentions_of_level, cuts_of_level, seen, seen_clock}
use Rattle.clock_terms.proofs.Cutting.{cuts-Name, cuts-ClockConvert, cuts-Inferred, cuts-Rational, cuts-Event}
use Rattle.clock_terms.proofs.Mentioned.{mentions-Name, mentions-ClockConvert, mentions-Inferred, mentions-Rational, mentions-Event}
use Rattle.sub_clock_solve.proofs.Clashing.{not_from}
use Rattle.clock_ready.proofs.Good.{Each, each_append}
use Rattle.clock_ready.proofs.Shown.{seen_roll}
use Rattle.clock_sides.proofs.Lists.{each_left, each_right}

arguments_roll : (names : List FlatName) (y : Expr-F ClockExpr Expr)
    → holds_no_input names (roll-Expr y) ≡ arguments_in_level names (map-Expr ClockExpr Expr Bool Bool (clock_holds_no_input names) (holds_no_input names) y)
unfolding holds_no_input clock_holds_no_input
arguments_roll names y = fold-roll-Expr Bool Bool (arguments_in_clock_level names) (arguments_in_level names) y

clock_arguments_roll : (names : List FlatName) (y : ClockExpr-F ClockExpr Expr)
    → clock_holds_no_input names (roll-ClockExpr y) ≡ arguments_in_clock_level names (map-ClockExpr ClockExpr Expr Bool Bool (clock_holds_no_input names) (holds_no_input names) y)
unfolding holds_no_input clock_holds_no_input
clock_arguments_roll names y = fold-roll-ClockExpr Bool Bool (arguments_in_clock_level names) (arguments_in_level names) y

module _ (names : List FlatName) (Has : Cut → Type 0) where
  -- an argument is no input, and what is cut from a clock is there
  abbrev pub IsOwn : Mention → Type 0
  IsOwn (Holds x) = is_input names x ≡ false
  IsOwn (Converts by x) = is_input names x ≡ false
  IsOwn (Gives given) = Each Has (seen_clock given).cuts
  IsOwn _ = Unit {0}

  abbrev pub AreOwn : List Mention → List Cut → Type 0
  AreOwn mentions cuts = Each IsOwn mentions × Each (λ cut. Each IsOwn cut.mentions) cuts

  abbrev IsOwnCut : Cut → Type 0
  IsOwnCut cut = Each IsOwn cut.mentions

  abbrev IsOwnExpr : Expr → Type 0
  IsOwnExpr e = holds_no_input names e ≡ true → Each Has (seen e).cuts → AreOwn (seen e).mentions (seen e).cuts

  abbrev IsOwnClock : ClockExpr → Type 0
  IsOwnClock c = clock_holds_no_input names c ≡ true → Each Has (seen_clock c).cuts → AreOwn (seen_clock c).mentions (seen_clock c).cuts

  module _ {A B : Type 0} (f : A → ClockExpr) (g : B → Expr) (clocks : (a : A) → IsOwnClock (f a)) (all : (b : B) → IsOwnExpr (g b)) where
    abbrev raised : Expr-F A B → Expr-F ClockExpr Expr
    raised y = map-Expr A B ClockExpr Expr f g y

    abbrev raised_clock : ClockExpr-F A B → ClockExpr-F ClockExpr Expr
    raised_clock y = map-ClockExpr A B ClockExpr Expr f g y

    two_own : (m n : List Mention) (c d : List Cut) → AreOwn m c → AreOwn n d → AreOwn (m ++ n) (c ++ d)
    two_own m n c d h k = (each_append IsOwn m n h.0 k.0, each_append IsOwnCut c d h.1 k.1)

    parts_own : (ps : List B) → all_fit (map (holds_no_input names) (map g ps)) ≡ true → Each Has (cuts_of (map seen (map g ps)))
        → AreOwn (mentions_of (map seen (map g ps))) (cuts_of (map seen (map g ps)))
    parts_own [] h has = (tt, tt)
    parts_own (p ∷ ps) h has =
        let both = and_parts _ _ h in
        let first = (seen (g p)).cuts in
        let rest = cuts_of (map seen (map g ps)) in
        two_own (seen (g p)).mentions (mentions_of (map seen (map g ps))) first rest
        (all p both.0 (each_left Has first rest has)) (parts_own ps both.1 (each_right Has first rest has))

    abbrev LevelOwn : Expr-F A B → Type 0
    LevelOwn y = arguments_in_level names (map-Expr ClockExpr Expr Bool Bool (clock_holds_no_input names) (holds_no_input names) (raised y)) ≡ true
        → Each Has (cuts_of_level (map-Expr ClockExpr Expr SeenClock SeenExpr seen_clock seen (raised y)))
        → AreOwn (mentions_of_level (map-Expr ClockExpr Expr SeenClock SeenExpr seen_clock seen (raised y))) (cuts_of_level (map-Expr ClockExpr Expr SeenClock SeenExpr seen_clock seen (raised y)))

    level_own : (y : Expr-F A B) → LevelOwn y
    level_own (Expr-F.Const v) h has = (tt, tt)
    level_own (Expr-F.Read x) h has = ((tt, tt), tt)
    level_own (Expr-F.Chain ps ops) h has = parts_own ps h has
    level_own (Expr-F.Relation rel a b) h has =
        let k = and_parts _ _ h in
        let c = (seen (g a)).cuts in
        let d = (seen (g b)).cuts in
        two_own (seen (g a)).mentions (seen (g b)).mentions c d (all a k.0 (each_left Has c d has)) (all b k.1 (each_right Has c d has))
    level_own (Expr-F.Neg a) h has = all a h has
    level_own (Expr-F.Not a) h has = all a h has
    level_own (Expr-F.If cs bs other) h has =
        let k = and_parts _ _ h in
        let l = and_parts _ _ k.0 in
        let first = mentions_of (map seen (map g cs)) in
        let second = mentions_of (map seen (map g bs)) in
        let before = cuts_of (map seen (map g cs)) in
        let after = cuts_of (map seen (map g bs)) in
        let last = (seen (g other)).cuts in
        let front = each_left Has (before ++ after) last has in
        two_own (first ++ second) (seen (g other)).mentions (before ++ after) last
        (two_own first second before after (parts_own cs l.0 (each_left Has before after front)) (parts_own bs l.1 (each_right Has before after front)))
        (all other k.1 (each_right Has (before ++ after) last has))
    level_own (Expr-F.Apply function ps) h has = parts_own ps h has
    level_own (Expr-F.Previous x) h has = ((tt, (tt, tt)), tt)
    level_own (Expr-F.FirstTick None) h has = ((tt, tt), tt)
    level_own (Expr-F.FirstTick (Some x)) h has = ((tt, (tt, tt)), tt)
    level_own (Expr-F.IntervalTimes None k) h has = ((tt, tt), tt)
    level_own (Expr-F.IntervalTimes (Some x) k) h has = ((tt, (tt, tt)), tt)
    level_own (Expr-F.Hold x) h has = ((not_from (is_input names x) h, tt), tt)
    level_own (Expr-F.«Expr::Convert» by x) h has = ((not_from (is_input names x) h, tt), tt)
    level_own (Expr-F.Sample a None) h has =
        let c = (seen (g a)).cuts in
        let k = all a (and_parts _ _ h).0 (each_left Has c [] has.1) in
        ((tt, tt), (k.0, each_append IsOwnCut c [] k.1 tt))
    level_own (Expr-F.Sample a (Some d)) h has =
        let both = and_parts _ _ h in
        let c = (seen (g a)).cuts in
        let e = (seen_clock (f d)).cuts in
        let k = all a both.0 (each_left Has c e has.1) in
        let l = clocks d both.1 (each_right Has c e has.1) in
        ((tt, l.0), (k.0, each_append IsOwnCut c e k.1 l.1))

    rolled : (y : Expr-F A B) → IsOwnExpr (roll-Expr (raised y))
    rolled y h has =
        subst (λ s. AreOwn s.mentions s.cuts) (sym (seen_roll (raised y)))
        (level_own y (sym (arguments_roll names (raised y)) ∙ h) (subst (λ s. Each Has s.cuts) (seen_roll (raised y)) has))

    -- a clock with these mentions and cuts
    is_clock_with : (k : ClockExpr) (m : List Mention) (c : List Cut) → (seen_clock k).mentions ≡ m → (seen_clock k).cuts ≡ c → AreOwn m c → AreOwn (seen_clock k).mentions (seen_clock k).cuts
    is_clock_with k m c em ec h = (subst (λ l. Each IsOwn l) (sym em) h.0, subst (λ l. Each IsOwnCut l) (sym ec) h.1)

    clock_rolled : (y : ClockExpr-F A B) → IsOwnClock (roll-ClockExpr (raised_clock y))
    clock_rolled (ClockExpr-F.Name x) h has =
        subst (λ k. AreOwn (seen_clock k).mentions (seen_clock k).cuts) (sym (clock.rolls-Name x))
        (is_clock_with (clock.Name x) (Stands x ∷ []) [] (mentions-Name x) (cuts-Name x) ((tt, tt), tt))
    clock_rolled ClockExpr-F.Inferred h has =
        subst (λ k. Each Has (seen_clock k).cuts → AreOwn (seen_clock k).mentions (seen_clock k).cuts) (sym clock.rolls-Inferred)
        (λ there. is_clock_with clock.Inferred (Gives clock.Inferred ∷ []) [] mentions-Inferred cuts-Inferred ((there, tt), tt)) has
    clock_rolled (ClockExpr-F.Rational n r) h has =
        subst (λ k. Each Has (seen_clock k).cuts → AreOwn (seen_clock k).mentions (seen_clock k).cuts) (sym (clock.rolls-Rational n r))
        (λ there. is_clock_with (clock.Rational n r) (Gives (clock.Rational n r) ∷ []) [] (mentions-Rational n r) (cuts-Rational n r) ((there, tt), tt)) has
    clock_rolled (ClockExpr-F.Event b) h has =
        let own : Cut = record { cause = Condition; mentions = (seen (g b)).mentions } in
        subst (λ k. Each Has (seen_clock k).cuts → AreOwn (seen_clock k).mentions (seen_clock k).cuts) (sym (clock.rolls-Event (g b)))
        (λ there.
        let k = all b (sym (clock_arguments_roll names (ClockExpr-F.Event (g b))) ∙ h) (subst (λ l. Each Has l) (cuts-Event (g b)) there).1 in
        is_clock_with (clock.Event (g b)) (Gives (clock.Event (g b)) ∷ []) (own ∷ (seen (g b)).cuts) (mentions-Event (g b)) (cuts-Event (g b)) ((there, tt), k)) has
    clock_rolled (ClockExpr-F.«ClockExpr::Convert» by x) h has =
        subst (λ k. AreOwn (seen_clock k).mentions (seen_clock k).cuts) (sym (clock.rolls-Convert by x))
        (is_clock_with (clock.Convert by x) (Converts by x ∷ []) [] (mentions-ClockConvert by x) (cuts-ClockConvert by x)
        ((not_from (is_input names x) (sym (clock_arguments_roll names (ClockExpr-F.«ClockExpr::Convert» by x)) ∙ h), tt), tt))

  pub own_expr : (e : Expr) → IsOwnExpr e
  own_expr = ind-Expr IsOwnClock IsOwnExpr
      (λ x y is. subst (λ z. IsOwnClock (roll-ClockExpr z)) is (clock_rolled (λ c. c.0) (λ e. e.0) (λ c. c.1) (λ e. e.1) y))
      (λ x y is. subst (λ z. IsOwnExpr (roll-Expr z)) is (rolled (λ c. c.0) (λ e. e.0) (λ c. c.1) (λ e. e.1) y))

  pub own_clock : (c : ClockExpr) → IsOwnClock c
  own_clock = ind-ClockExpr IsOwnClock IsOwnExpr
      (λ x y is. subst (λ z. IsOwnClock (roll-ClockExpr z)) is (clock_rolled (λ c. c.0) (λ e. e.0) (λ c. c.1) (λ e. e.1) y))
      (λ x y is. subst (λ z. IsOwnExpr (roll-Expr z)) is (rolled (λ c. c.0) (λ e. e.0) (λ c. c.1) (λ e. e.1) y))
