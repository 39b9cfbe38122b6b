-- A name that stands bare in a typed expression has values.
use Rattle.std.proofs.Common.{◌≡◌, ◌≢◌, ◌∙◌, refl, sym, subst, ℕ, ◌+◌, ◌<◌, ◌==◌, nat_le, ◌&&◌, Bool, true, false, if◌then◌else◌, ⊎_elim, List, [], ◌∷◌, map, length, Option, Some, None, sum, arith}
use Rattle.std.specs.List.{list_all}
use Rattle.std.proofs.lemmas.Bool.{false≢true, and_parts}
use Rattle.std.proofs.lemmas.Option.{none-some}
use Rattle.std.proofs.lemmas.List.Sums.{sum_by-cons}
use Rattle.sync_values.specs.declared.value.ChainOp.{ChainOp}
use Rattle.flat_model.specs.declared.model.NameKind.{NameKind}
use Rattle.flat_model.specs.declared.model.NameKind.TheVariants as kind
use Rattle.flat_model.specs.declared.expression.Expr.{Expr}
use Rattle.flat_model.specs.declared.expression.Fun.{Fun}
use Rattle.flat_model.specs.declared.clock.ClockExpr.{ClockExpr}
use Rattle.flat_model.specs.declared.clock.ClockExpr.TheOpen.{Expr-F}
use Rattle.flat_model.specs.declared.clock.ClockExpr.TheViews.{roll-Expr}
use Rattle.flat_model.specs.declared.clock.ClockExpr.TheFolds.{ind-Expr, fold-roll-Expr, map-Expr}
use Rattle.flat_model.specs.Occurrences.{bare_in_level, bare_count}
use Rattle.flat_model.specs.Typing.{Types, valued_type, is_type, typed_if, goes_with, type_of_operator, type_if_all, chain_type, relation_type, if_type, call_type, arity, type_of_level, type_of}
use Rattle.flat_model.proofs.Typed.{if_some, typed_some, is_type_some}
use Rattle.clock_ready.proofs.Shown.{nothing, either, is_asked}

-- a type that has values
abbrev pub HasValues : Option NameKind → Type 0
HasValues o = (k : NameKind) × (o ≡ Some k) × (k ≢ kind.Clock)

valued_has : (o : Option NameKind) (u : NameKind) → valued_type o ≡ Some u → HasValues o
valued_has None u e = absurd (none-some u e)
valued_has (Some kind.Integer) u e = (kind.Integer, refl, λ c. absurd cc)
valued_has (Some kind.Boolean) u e = (kind.Boolean, refl, λ c. absurd cc)
valued_has (Some kind.Clock) u e = absurd (none-some u e)

abbrev HasType : Option NameKind → Type 0
HasType o = (t : NameKind) × (o ≡ Some t)

abbrev AllHaveTypes : List (Option NameKind) → Type 0
AllHaveTypes [] = Unit {0}
AllHaveTypes (o ∷ os) = HasType o × AllHaveTypes os

all_typed : (k : NameKind) (os : List (Option NameKind)) → list_all (is_type k) os ≡ true → AllHaveTypes os
all_typed k [] e = tt
all_typed k (o ∷ os) e = let h = and_parts (is_type k o) (list_all (is_type k) os) e in ((k, is_type_some k o h.0), all_typed k os h.1)

chain_typed : (os : List (Option NameKind)) (ops : List ChainOp) (u : NameKind) → chain_type os ops ≡ Some u → AllHaveTypes os
chain_typed os [] u e = absurd (none-some u e)
chain_typed os (op ∷ ops) u e = by (type_of_operator op) (if_some (length os == length ops + 2 && list_all (goes_with op) ops) (type_if_all (type_of_operator op) os) u e).1
  where
    by : (o : Option NameKind) → type_if_all o os ≡ Some u → AllHaveTypes os
    by None e = absurd (none-some u e)
    by (Some k) e = all_typed k os (typed_some (list_all (is_type k) os) k u e).0

relation_typed : (a b : Option NameKind) (u : NameKind) → relation_type a b ≡ Some u → HasType a × HasType b
relation_typed None b u e = absurd (none-some u e)
relation_typed (Some t) b u e = ((t, refl), (t, is_type_some t b (typed_some (is_type t b) kind.Boolean u e).0))

if_typed : (cs bs : List (Option NameKind)) (o : Option NameKind) (u : NameKind) → if_type cs bs o ≡ Some u → AllHaveTypes cs × AllHaveTypes bs × HasType o
if_typed cs bs None u e = absurd (none-some u e)
if_typed cs bs (Some t) u e =
    let all = (typed_some (nat_le 1 (length cs) && length bs == length cs && list_all (is_type kind.Boolean) cs && list_all (is_type t) bs) t u e).0 in
    let three = and_parts _ _ all in
    let two = and_parts _ _ three.0 in
    (all_typed kind.Boolean cs two.1, all_typed t bs three.1, (t, refl))

call_typed : (function : Fun) (os : List (Option NameKind)) (u : NameKind) → call_type function os ≡ Some u → AllHaveTypes os
call_typed function os u e = all_typed kind.Integer os (and_parts _ _ (typed_some (length os == arity function && list_all (is_type kind.Integer) os) kind.Integer u e).0).1

module _ (types : Types) (x : ℕ) where
  bare_roll : (y : Expr-F ClockExpr Expr) → bare_count x (roll-Expr y) ≡ bare_in_level x (map-Expr ClockExpr Expr (Unit {0}) ℕ (λ _. tt) (bare_count x) y)
  unfolding bare_count
  bare_roll y = fold-roll-Expr (Unit {0}) ℕ (λ _. tt) (bare_in_level x) y

  type_roll : (y : Expr-F ClockExpr Expr) → type_of types (roll-Expr y) ≡ type_of_level types (map-Expr ClockExpr Expr (Unit {0}) (Option NameKind) (λ _. tt) (type_of types) y)
  unfolding type_of
  type_roll y = fold-roll-Expr (Unit {0}) (Option NameKind) (λ _. tt) (type_of_level types) y

  abbrev Gives : Expr → Type 0
  Gives e = (u : NameKind) → type_of types e ≡ Some u → 0 < bare_count x e → HasValues (types x)

  module _ {A B : Type 0} (f : A → ClockExpr) (g : B → Expr) (all : (b : B) → Gives (g b)) where
    part_gives : (b : B) → HasType (type_of types (g b)) → 0 < bare_count x (g b) → HasValues (types x)
    part_gives b typed some = all b typed.0 typed.1 some

    parts_give : (ps : List B) → AllHaveTypes (map (type_of types) (map g ps)) → 0 < sum (map (bare_count x) (map g ps)) → HasValues (types x)
    parts_give [] typed some = nothing some
    parts_give (p ∷ ps) typed some =
        let split = sum_by-cons (λ m. m) (bare_count x (g p)) (map (bare_count x) (map g ps)) in
        ⊎_elim (λ h. part_gives p typed.0 h) (λ h. parts_give ps typed.1 h)
        (either (bare_count x (g p)) (sum (map (bare_count x) (map g ps))) (omega (arith, some, split)))

    level_gives : (z : Expr-F A B) (u : NameKind)
        → type_of_level types (map-Expr ClockExpr Expr (Unit {0}) (Option NameKind) (λ _. tt) (type_of types) (map-Expr A B ClockExpr Expr f g z)) ≡ Some u
        → 0 < bare_in_level x (map-Expr ClockExpr Expr (Unit {0}) ℕ (λ _. tt) (bare_count x) (map-Expr A B ClockExpr Expr f g z)) → HasValues (types x)
    level_gives (Expr-F.Const v) u e some = nothing some
    level_gives (Expr-F.Read n) u e some = subst (λ y. HasValues (types y)) (is_asked n x some) (valued_has (types n) u e)
    level_gives (Expr-F.Chain ps ops) u e some = parts_give ps (chain_typed (map (type_of types) (map g ps)) ops u e) some
    level_gives (Expr-F.Relation rel a b) u e some =
        let typed = relation_typed (type_of types (g a)) (type_of types (g b)) u e in
        ⊎_elim (λ h. part_gives a typed.0 h) (λ h. part_gives b typed.1 h) (either (bare_count x (g a)) (bare_count x (g b)) some)
    level_gives (Expr-F.Neg a) u e some = part_gives a (kind.Integer, is_type_some kind.Integer (type_of types (g a)) (typed_some _ kind.Integer u e).0) some
    level_gives (Expr-F.Not a) u e some = part_gives a (kind.Boolean, is_type_some kind.Boolean (type_of types (g a)) (typed_some _ kind.Boolean u e).0) some
    level_gives (Expr-F.If cs bs other) u e some =
        let typed = if_typed (map (type_of types) (map g cs)) (map (type_of types) (map g bs)) (type_of types (g other)) u e in
        let m = sum (map (bare_count x) (map g cs)) in
        let n = sum (map (bare_count x) (map g bs)) in
        ⊎_elim
        (λ front. ⊎_elim (λ h. parts_give cs typed.0 h) (λ h. parts_give bs typed.1 h) (either m n front))
        (λ h. part_gives other typed.2 h)
        (either (m + n) (bare_count x (g other)) some)
    level_gives (Expr-F.Apply function ps) u e some = parts_give ps (call_typed function (map (type_of types) (map g ps)) u e) some
    level_gives (Expr-F.Previous n) u e some = nothing some
    level_gives (Expr-F.FirstTick o) u e some = nothing some
    level_gives (Expr-F.IntervalTimes o k) u e some = nothing some
    level_gives (Expr-F.Hold n) u e some = nothing some
    level_gives (Expr-F.«Expr::Convert» by n) u e some = nothing some
    level_gives (Expr-F.Sample a clock) u e some = nothing some

    rolled : (z : Expr-F A B) → Gives (roll-Expr (map-Expr A B ClockExpr Expr f g z))
    rolled z u e some =
        let y = map-Expr A B ClockExpr Expr f g z in
        level_gives z u (sym (type_roll y) ∙ e) (subst (λ n. 0 < n) (bare_roll y) some)

  pub bare_valued : (e : Expr) → Gives e
  bare_valued = ind-Expr (λ c. Unit {0}) Gives (λ a b is. tt) (λ a z is. subst (λ w. Gives (roll-Expr w)) is (rolled (λ c. c.0) (λ e. e.0) (λ e. e.1) z))
