-- The parts of a typed equation beside the way to a name are there, where all else that is asked for has values of its types.
use Rattle.std.proofs.Common.{◌≡◌, refl, ap, sym, subst, ◌∙◌, ℕ, ◌<◌, ◌≤◌, ◌||◌, Bool, true, false, List, [], ◌∷◌, ◌++◌, map, flat_map, Option, Some, arith}
use Rattle.std.specs.List.{list_any, list_all}
use Rattle.std.proofs.lemmas.Bool.{false≢true}
use Rattle.std.proofs.lemmas.Option.{none-some}
use Rattle.sync_values.specs.declared.value.ChainOp.{ChainOp}
use Rattle.flat_model.specs.declared.model.NameKind.{NameKind}
use Rattle.flat_model.specs.declared.model.NameKind.TheVariants as kind
use Rattle.flat_model.specs.declared.expression.Expr.{Expr}
use Rattle.flat_model.specs.declared.clock.ClockExpr.{ClockExpr}
use Rattle.flat_model.specs.declared.clock.ClockExpr.TheOpen.{Expr-F}
use Rattle.flat_model.specs.declared.clock.ClockExpr.TheViews.{roll-Expr}
use Rattle.flat_model.specs.declared.clock.ClockExpr.TheFolds.{ind-Expr, fold-roll-Expr, map-Expr}
use Rattle.flat_model.specs.Asks.{Asking, OfNow, Asked, asked, asked_in_level, all_asked}
use Rattle.flat_model.specs.Operators.{Answer, chain}
use Rattle.flat_model.specs.Views.{Views}
use Rattle.flat_model.specs.Meaning.{Meaning, seen_by, value_of}
use Rattle.flat_model.specs.Ways.{Way, beside_of, prefix_of, beside_in_chain, reaches_through, beside_through, way_through, way_to}
use Rattle.flat_model.specs.Typing.{Types, is_type, chain_type, type_of, type_of_level}
use Rattle.flat_model.proofs.Asks.{asked_roll}
use Rattle.flat_model.proofs.Typed.{IsAnswerOf, IsTypedAt, typed_value, both, typed_some, is_type_some}
use Rattle.eq_orient.specs.Solving.{ArePresent}
use Rattle.moment_theory.proofs.PartsRest.{is_way, seen_append}
use Rattle.solved_use.proofs.Shapes.{HasShape, answer_shape, present_shape, AllOf, OperateOn, chained_of, typed_chain}

way_to_roll : (x : ℕ) (y : Expr-F ClockExpr Expr) → way_to x (roll-Expr y) ≡ way_through x (map-Expr ClockExpr Expr (Unit {0}) Way (λ _. tt) (way_to x) y)
unfolding way_to
way_to_roll x y = fold-roll-Expr (Unit {0}) Way (λ _. tt) (way_through x) y

pub type_roll : (types : Types) (y : Expr-F ClockExpr Expr) → type_of types (roll-Expr y) ≡ type_of_level types (map-Expr ClockExpr Expr (Unit {0}) (Option NameKind) (λ _. tt) (type_of types) y)
unfolding type_of
type_roll types y = fold-roll-Expr (Unit {0}) (Option NameKind) (λ _. tt) (type_of_level types) y

pub present_append : (xs ys : List Answer) → ArePresent xs → ArePresent ys → ArePresent (xs ++ ys)
present_append [] ys one two = two
present_append (x ∷ xs) ys one two = (one.0, present_append xs ys one.1 two)

pub present_seen : (v : Views) (xs ys : List Meaning) → ArePresent (seen_by v xs) → ArePresent (seen_by v ys) → ArePresent (seen_by v (xs ++ ys))
present_seen v xs ys one two = subst ArePresent (sym (seen_append v xs ys)) (present_append (seen_by v xs) (seen_by v ys) one two)

all_append : (type : NameKind) (v : Views) (xs : List Meaning) (a : Meaning) → AllOf type (seen_by v xs) → HasShape type (a v) → AllOf type (seen_by v (xs ++ a ∷ []))
all_append type v [] a all h = (h, tt)
all_append type v (x ∷ xs) a all h = (all.0, all_append type v xs a all.1 h)

prefix_present : (type : NameKind) (ops : List ChainOp) (v : Views) (first : List Meaning) → OperateOn type ops → AllOf type (seen_by v first) → ArePresent (seen_by v (prefix_of ops first))
prefix_present type ops v [] operate all = tt
prefix_present type ops v (a ∷ first) operate all = (present_shape type (chain ops (seen_by v (a ∷ first))) (chained_of type (a v) ops (seen_by v first) all.0 operate all.1), tt)

module _ (types : Types) (x : ℕ) where
  -- all that is asked for has values of its types, but the value of x now
  abbrev pub TypedBut : Asked → Views → Type 0
  TypedBut asks views = (d : ℕ) (q : Asking) → 0 < asks d q → ((d ≡ 0) × (q ≡ OfNow x) → ⊥) → IsTypedAt types views d q

  abbrev count : Expr → ℕ
  count e = asked e 0 (OfNow x)

  clash : (e : Expr) (d : ℕ) (q : Asking) → asked e 0 (OfNow x) ≡ 0 → d ≡ 0 → q ≡ OfNow x → 0 < asked e d q → ⊥
  clash e d q none at is some = let h : 0 < asked e 0 (OfNow x) = subst (λ k. 0 < asked e k (OfNow x)) at (subst (λ r. 0 < asked e d r) is some) in omega (arith, h, none)

  -- an expression without x
  pub value_without : (e : Expr) (type : NameKind) (views : Views) → asked e 0 (OfNow x) ≡ 0 → TypedBut (asked e) views → type_of types e ≡ Some type → IsAnswerOf type (value_of e views)
  value_without e type views none typed is = typed_value types e type views (λ d q some. typed d q some (λ here. clash e d q none here.0 here.1 some)) is

  meaning_without : (e : Expr) (type : NameKind) (views : Views) → asked e 0 (OfNow x) ≡ 0 → TypedBut (asked e) views → type_of types e ≡ Some type → HasShape type ((way_to x e).meaning views)
  meaning_without e type views none typed is = subst (HasShape type) (sym ((is_way x e).means views)) (answer_shape type (value_of e views) (value_without e type views none typed is))

  pub record PresentWay (e : Expr) : Type 0 where
    pub beside : (type : NameKind) (views : Views) → TypedBut (asked e) views → asked e 0 (OfNow x) ≤ 1 → type_of types e ≡ Some type → (way_to x e).reaches ≡ true → ArePresent (seen_by views (way_to x e).beside)

  -- where x is not reached, all of the expression stands beside the way
  none_present : (e : Expr) (type : NameKind) (views : Views) → asked e 0 (OfNow x) ≡ 0 → TypedBut (asked e) views → type_of types e ≡ Some type → ArePresent (seen_by views (beside_of (way_to x e)))
  none_present e type views none typed is = by_reach (way_to x e).reaches refl
    where
      by_reach : (b : Bool) → (way_to x e).reaches ≡ b → ArePresent (seen_by views (beside_of (way_to x e)))
      by_reach true r = absurd (let some = (is_way x e).some r in omega (arith, some, none))
      by_reach false r = rw r (present_shape type ((way_to x e).meaning views) (meaning_without e type views none typed is), tt)

  abbrev level_way : Expr-F ClockExpr Expr → Expr-F (Unit {0}) Way
  level_way y = map-Expr ClockExpr Expr (Unit {0}) Way (λ _. tt) (way_to x) y

  abbrev level_asked : Expr-F ClockExpr Expr → Asked
  level_asked y = asked_in_level (map-Expr ClockExpr Expr (Unit {0}) Asked (λ _. tt) asked y)

  module _ {A B : Type 0} (f : A → ClockExpr) (g : B → Expr) (all : (b : B) → PresentWay (g b)) where
    parts_some : (ps : List B) → list_any (λ way. way.reaches) (map (way_to x) (map g ps)) ≡ true → 0 < all_asked (map asked (map g ps)) 0 (OfNow x)
    parts_some [] any = absurd (false≢true any)
    parts_some (p ∷ ps) any = by_reach (way_to x (g p)).reaches refl any (λ h. parts_some ps h)
      where
        by_reach : (b : Bool) → (way_to x (g p)).reaches ≡ b → b || list_any (λ way. way.reaches) (map (way_to x) (map g ps)) ≡ true
            → (list_any (λ way. way.reaches) (map (way_to x) (map g ps)) ≡ true → 0 < all_asked (map asked (map g ps)) 0 (OfNow x)) → 0 < all_asked (map asked (map g (p ∷ ps))) 0 (OfNow x)
        by_reach true r h rest = let some = (is_way x (g p)).some r in omega (arith, some)
        by_reach false r h rest = let some = rest h in omega (arith, some)

    rest_present : (type : NameKind) (views : Views) (ps : List B) → all_asked (map asked (map g ps)) 0 (OfNow x) ≡ 0 → TypedBut (all_asked (map asked (map g ps))) views
        → list_all (is_type type) (map (type_of types) (map g ps)) ≡ true → ArePresent (seen_by views (flat_map beside_of (map (way_to x) (map g ps))))
    rest_present type views [] none typed are = tt
    rest_present type views (p ∷ ps) none typed are =
        let of = both (is_type type (type_of types (g p))) (list_all (is_type type) (map (type_of types) (map g ps))) are in
        present_seen views (beside_of (way_to x (g p))) (flat_map beside_of (map (way_to x) (map g ps)))
        (none_present (g p) type views (omega (arith, none)) (λ d q some other. typed d q (omega (arith, some)) other) (is_type_some type _ of.0))
        (rest_present type views ps (omega (arith, none)) (λ d q some other. typed d q (omega (arith, some)) other) of.1)

    chain_present : (type : NameKind) (views : Views) (ops : List ChainOp) → OperateOn type ops → (first : List Meaning) → AllOf type (seen_by views first) → (ps : List B)
        → all_asked (map asked (map g ps)) 0 (OfNow x) ≤ 1 → TypedBut (all_asked (map asked (map g ps))) views → list_all (is_type type) (map (type_of types) (map g ps)) ≡ true
        → list_any (λ way. way.reaches) (map (way_to x) (map g ps)) ≡ true → ArePresent (seen_by views (beside_in_chain ops first (map (way_to x) (map g ps))))
    chain_present type views ops operate first earlier [] few typed are any = absurd (false≢true any)
    chain_present type views ops operate first earlier (p ∷ ps) few typed are any =
        by_reach (way_to x (g p)).reaches refl any (λ more rest. chain_present type views ops operate (first ++ (way_to x (g p)).meaning ∷ []) more ps (omega (arith, few)) (λ d q some other. typed d q (omega (arith, some)) other) of.1 rest)
      where
        of : (is_type type (type_of types (g p)) ≡ true) × (list_all (is_type type) (map (type_of types) (map g ps)) ≡ true)
        of = both (is_type type (type_of types (g p))) (list_all (is_type type) (map (type_of types) (map g ps))) are

        by_reach : (b : Bool) → (way_to x (g p)).reaches ≡ b → b || list_any (λ way. way.reaches) (map (way_to x) (map g ps)) ≡ true
            → (AllOf type (seen_by views (first ++ (way_to x (g p)).meaning ∷ [])) → list_any (λ way. way.reaches) (map (way_to x) (map g ps)) ≡ true
            → ArePresent (seen_by views (beside_in_chain ops (first ++ (way_to x (g p)).meaning ∷ []) (map (way_to x) (map g ps)))))
            → ArePresent (seen_by views (beside_in_chain ops first (map (way_to x) (map g (p ∷ ps)))))
        by_reach true r h later =
            let own = (is_way x (g p)).some r in
            rw r (present_seen views (prefix_of ops first ++ (way_to x (g p)).beside) (flat_map beside_of (map (way_to x) (map g ps)))
            (present_seen views (prefix_of ops first) (way_to x (g p)).beside (prefix_present type ops views first operate earlier)
            ((all p).beside type views (λ d q some other. typed d q (omega (arith, some)) other) (omega (arith, few)) (is_type_some type _ of.0) r))
            (rest_present type views ps (omega (arith, few, own)) (λ d q some other. typed d q (omega (arith, some)) other) of.1))
        by_reach false r h later =
            let there = parts_some ps h in
            rw r (later (all_append type views first (way_to x (g p)).meaning earlier
            (meaning_without (g p) type views (omega (arith, few, there)) (λ d q some other. typed d q (omega (arith, some)) other) (is_type_some type _ of.0))) h)

    in_chain : (type : NameKind) (views : Views) (ops : List ChainOp) (ps : List B) → chain_type (map (type_of types) (map g ps)) ops ≡ Some type
        → all_asked (map asked (map g ps)) 0 (OfNow x) ≤ 1 → TypedBut (all_asked (map asked (map g ps))) views
        → list_any (λ way. way.reaches) (map (way_to x) (map g ps)) ≡ true → ArePresent (seen_by views (beside_in_chain ops [] (map (way_to x) (map g ps))))
    in_chain type views [] ps is few typed any = absurd (none-some type is)
    in_chain type views (op ∷ ops) ps is few typed any =
        let chained = typed_chain (map (type_of types) (map g ps)) op ops type is in
        chain_present type views (op ∷ ops) (chained.operator, chained.operators) [] tt ps few typed chained.parts_are any

    level_present : (y : Expr-F A B) (type : NameKind) (views : Views) → TypedBut (level_asked (map-Expr A B ClockExpr Expr f g y)) views → level_asked (map-Expr A B ClockExpr Expr f g y) 0 (OfNow x) ≤ 1
        → type_of_level types (map-Expr ClockExpr Expr (Unit {0}) (Option NameKind) (λ _. tt) (type_of types) (map-Expr A B ClockExpr Expr f g y)) ≡ Some type
        → reaches_through x (level_way (map-Expr A B ClockExpr Expr f g y)) ≡ true → ArePresent (seen_by views (beside_through (level_way (map-Expr A B ClockExpr Expr f g y))))
    level_present (Expr-F.Const c) type views typed few is r = tt
    level_present (Expr-F.Read n) type views typed few is r = tt
    level_present (Expr-F.Chain ps ops) type views typed few is r = in_chain type views ops ps is few typed r
    level_present (Expr-F.Relation rel a b) type views typed few is r = tt
    level_present (Expr-F.Neg a) type views typed few is r =
        let of = typed_some (is_type kind.Integer (type_of types (g a))) kind.Integer type is in (all a).beside kind.Integer views typed few (is_type_some kind.Integer _ of.0) r
    level_present (Expr-F.Not a) type views typed few is r =
        let of = typed_some (is_type kind.Boolean (type_of types (g a))) kind.Boolean type is in (all a).beside kind.Boolean views typed few (is_type_some kind.Boolean _ of.0) r
    level_present (Expr-F.If cs bs other) type views typed few is r = tt
    level_present (Expr-F.Apply function ps) type views typed few is r = tt
    level_present (Expr-F.Previous n) type views typed few is r = tt
    level_present (Expr-F.FirstTick n) type views typed few is r = tt
    level_present (Expr-F.IntervalTimes n k) type views typed few is r = tt
    level_present (Expr-F.Hold n) type views typed few is r = tt
    level_present (Expr-F.«Expr::Convert» conversion n) type views typed few is r = tt
    level_present (Expr-F.Sample a clock) type views typed few is r = tt

    rolled : (y : Expr-F A B) → PresentWay (roll-Expr (map-Expr A B ClockExpr Expr f g y))
    rolled y = let z = map-Expr A B ClockExpr Expr f g y in record {
      beside = λ type views typed few is r. subst (λ way. ArePresent (seen_by views way.beside)) (sym (way_to_roll x z))
          (level_present y type views (λ d q some other. typed d q (subst (λ n. 0 < n) (sym (asked_roll z d q)) some) other)
          (subst (λ n. n ≤ 1) (asked_roll z 0 (OfNow x)) few) (sym (type_roll types z) ∙ is) (sym (ap (λ way. way.reaches) (way_to_roll x z)) ∙ r));
    }

  present_way : (e : Expr) → PresentWay e
  present_way = ind-Expr (λ c. Unit {0}) PresentWay (λ a b is. tt) (λ a y is. subst (λ z. PresentWay (roll-Expr z)) is (rolled (λ c. c.0) (λ e. e.0) (λ e. e.1) y))

  -- a side of an equation in which x stands once and is reached, or does not stand
  pub side_present : (e : Expr) (type : NameKind) (views : Views) → TypedBut (asked e) views → asked e 0 (OfNow x) ≤ 1 → ((way_to x e).reaches ≡ false → asked e 0 (OfNow x) ≡ 0) → type_of types e ≡ Some type
      → ArePresent (seen_by views (beside_of (way_to x e)))
  side_present e type views typed few missed is = by_reach (way_to x e).reaches refl
    where
      by_reach : (b : Bool) → (way_to x e).reaches ≡ b → ArePresent (seen_by views (beside_of (way_to x e)))
      by_reach true r = rw r ((present_way e).beside type views typed few is r)
      by_reach false r = none_present e type views (missed r) typed is
