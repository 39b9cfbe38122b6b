-- What stands in the equations of a model: names of the model, and numbers within their limits.
use Rattle.std.proofs.Common.{◌≡◌, refl, ◌∙◌, sym, subst, ℕ, zero, suc, ◌+◌, ◌≤◌, ⊎_elim, ◌==◌, ◌&&◌, nat_le, nat_lt, ◌^◌, Bool, true, false, if◌then◌else◌, List, [], ◌∷◌, ◌++◌, map, length, slice_get, Option, Some, None, is_some, All, arith}
use Rattle.std.specs.List.{list_all, list_any}
use Rattle.std.proofs.lemmas.Bool.{false≢true, and_parts, ltb-true}
use Rattle.std.proofs.lemmas.Bool.Decides.{leb_tells}
use Rattle.std.proofs.lemmas.Option.{none-some}
use Rattle.std.proofs.lemmas.List.Elements.{All-head, All-tail}
use Rattle.sync_values.specs.declared.value.ChainOp.{ChainOp}
use Rattle.flat_model.specs.declared.model.NameKind.{NameKind}
use Rattle.flat_model.specs.declared.model.NameKind.TheVariants as kind
use Rattle.flat_model.specs.declared.model.FlatModel.{FlatModel}
use Rattle.flat_model.specs.declared.expression.Expr.{Expr}
use Rattle.flat_model.specs.declared.expression.Fun.{Fun}
use Rattle.flat_model.specs.declared.clock.ClockExpr.{ClockExpr}
use Rattle.flat_model.specs.declared.clock.ClockExpr.TheVariants as clock
use Rattle.flat_model.specs.declared.clock.ClockExpr.TheOpen.{ClockExpr-F, Expr-F}
use Rattle.flat_model.specs.declared.clock.ClockExpr.TheViews.{roll-Expr, roll-ClockExpr}
use Rattle.flat_model.specs.declared.clock.ClockExpr.TheFolds.{fold-roll-Expr, fold-roll-ClockExpr, map-Expr, map-ClockExpr, ind-Expr, ind-ClockExpr}
use Rattle.flat_model.specs.declared.equation.Equation.{Equation}
use Rattle.flat_model.specs.declared.equation.Equation.TheVariants.{Valued, Clocks}
use Rattle.flat_model.specs.Typing.{Types, types_in, valued_type, is_type, typed_if, goes_with, type_of_operator, type_if_all, chain_type, relation_type, if_type, arity, call_type}
use Rattle.flat_model.specs.WholeTyping.{is_clock, clock_level, sampled_type, whole_level, whole_type_of, is_typed_clock, IsTyped}
use Rattle.flat_model.specs.Counters.{is_counter, has_counters, all_fit, counters_in_clock_level, counters_in_level, counters_fit, clock_counters_fit, HasCounters}
use Rattle.flat_model.specs.Models.{clause_of, IsModel}
use Rattle.clock_terms.specs.declared.data.Cause.TheVariants.{Condition}
use Rattle.clock_terms.specs.Mentions.{Mention, Stands, Ticks, Samples, Holds, Converts, Gives, Cut, SeenExpr, SeenClock, mentions_of, cuts_of, mentions_of_level, cuts_of_level, seen_level, seen_clock_level, seen, seen_clock, clock_mentions, clock_cuts}
use Rattle.clock_terms.specs.Nodes.{Node, is_of_clause, leading_clock, side_mentions, side_cuts, cut_nodes, own_node, nodes_from, nodes_of}
use Rattle.clock_terms.specs.Source.{Every}
use Rattle.clock_terms.proofs.ClockKinds.{kind_of-Rational, kind_of-Inferred, kind_of-Event}
use Rattle.clock_terms.proofs.Cutting.{cuts-Name, cuts-ClockConvert, cuts-Inferred, cuts-Rational, cuts-Event}
use Rattle.clock_terms.proofs.Mentioned.{mentions-Name, mentions-ClockConvert, mentions-Inferred, mentions-Rational, mentions-Event}
use Rattle.sub_clock_solve.specs.Standing.{IsGivenKind, IsGivenClock}

-- ---- lists

abbrev pub Each : {X : Type 0} → (X → Type 0) → List X → Type 0
Each P [] = Unit {0}
Each P (x ∷ xs) = P x × Each P xs

pub each_append : {X : Type 0} (P : X → Type 0) (xs ys : List X) → Each P xs → Each P ys → Each P (xs ++ ys)
each_append P [] ys h k = k
each_append P (x ∷ xs) ys h k = (h.0, each_append P xs ys h.1 k)

pub each_of_all : {X : Type 0} (P : X → Type 0) (xs : List X) → All P xs → Each P xs
each_of_all P [] h = tt
each_of_all P (x ∷ xs) h = (All-head P x xs h, each_of_all P xs (All-tail P x xs h))

pub all_of_each : {X : Type 0} (P : X → Type 0) (xs : List X) → Each P xs → All P xs
all_of_each P [] h k d lt = absurd (omega (arith, lt))
all_of_each P (x ∷ xs) h zero d lt = h.0
all_of_each P (x ∷ xs) h (suc k) d lt = all_of_each P xs h.1 k d (omega (arith, lt))

pub each_at : {X : Type 0} (P : X → Type 0) (xs : List X) (k : ℕ) (x : X) → Each P xs → slice_get xs k ≡ Some x → P x
each_at P [] k x h e = absurd cc
each_at P (y ∷ ys) zero x h e = let same : y ≡ x = cc in subst P same h.0
each_at P (y ∷ ys) (suc k) x h e = each_at P ys k x h.1 e

pub at_least : (a b : ℕ) → nat_le a b ≡ true → a ≤ b
at_least a b e = ⊎_elim (λ h. h.1) (λ h. absurd (false≢true (sym h.0 ∙ e))) (leb_tells a b)

-- ---- types of parts

abbrev HasType : Option NameKind → Type 0
HasType o = (t : NameKind) × (o ≡ Some t)

pub type_taken : (k : NameKind) (o : Option NameKind) → is_type k o ≡ true → HasType o
type_taken kind.Integer (Some k) e = (k, refl)
type_taken kind.Boolean (Some k) e = (k, refl)
type_taken kind.Clock (Some k) e = (k, refl)
type_taken kind.Integer None e = absurd (false≢true e)
type_taken kind.Boolean None e = absurd (false≢true e)
type_taken kind.Clock None e = absurd (false≢true e)

all_typed : (k : NameKind) (os : List (Option NameKind)) → list_all (is_type k) os ≡ true → Each HasType os
all_typed k [] e = tt
all_typed k (o ∷ os) e = let h = and_parts _ _ e in (type_taken k o h.0, all_typed k os h.1)

typed_true : (b : Bool) (t u : NameKind) → typed_if b t ≡ Some u → b ≡ true
typed_true true t u e = refl
typed_true false t u e = absurd (none-some u e)

taken_some : (b : Bool) (o : Option NameKind) (u : NameKind) → (if b then o else None) ≡ Some u → o ≡ Some u
taken_some true o u e = e
taken_some false o u e = absurd (none-some u e)

one_type : (o : Option NameKind) (os : List (Option NameKind)) (u : NameKind) → type_if_all o os ≡ Some u → Each HasType os
one_type None os u e = absurd (none-some u e)
one_type (Some k) os u e = all_typed k os (typed_true (list_all (is_type k) os) k u e)

chain_typed : (os : List (Option NameKind)) (ops : List ChainOp) (u : NameKind) → chain_type os ops ≡ Some u → Each HasType os
chain_typed os [] u e = absurd (none-some u e)
chain_typed os (op ∷ ops) u e = one_type (type_of_operator op) os u (taken_some (length os == length ops + 2 && list_all (goes_with op) ops) (type_if_all (type_of_operator op) os) u e)

relation_typed : (a b : Option NameKind) (u : NameKind) → relation_type a b ≡ Some u → HasType a × HasType b
relation_typed None b u e = absurd (none-some u e)
relation_typed (Some t) b u e = ((t, refl), type_taken t b (typed_true (is_type t b) kind.Boolean u e))

if_typed : (cs bs : List (Option NameKind)) (o : Option NameKind) (u : NameKind) → if_type cs bs o ≡ Some u → Each HasType cs × Each HasType bs × HasType o
if_typed cs bs None u e = absurd (none-some u e)
if_typed cs bs (Some t) u e =
    let all = typed_true (nat_le 1 (length cs) && length bs == length cs && list_all (is_type kind.Boolean) cs && list_all (is_type t) bs) t u e in
    let three = and_parts _ _ all in
    let two = and_parts _ _ three.0 in
    (all_typed kind.Boolean cs two.1, all_typed t bs three.1, (t, refl))

call_typed : (function : Fun) (os : List (Option NameKind)) (u : NameKind) → call_type function os ≡ Some u → Each HasType os
call_typed function os u e = all_typed kind.Integer os (and_parts _ _ (typed_true (length os == arity function && list_all (is_type kind.Integer) os) kind.Integer u e)).1

module _ (types : Types) where
  abbrev pub IsBelow : ℕ → Type 0
  IsBelow x = (k : NameKind) × (types x ≡ Some k)

  -- a name is one of the model, the numbers of a conversion and of a constructor are within their limits, and a constructor is typed
  abbrev pub IsGood : Mention → Type 0
  IsGood (Stands x) = IsBelow x
  IsGood Ticks = Unit {0}
  IsGood Samples = Unit {0}
  IsGood (Holds x) = IsBelow x
  IsGood (Converts by x) = IsBelow x × (has_counters by ≡ true)
  IsGood (Gives given) = IsGivenClock given × (is_typed_clock types given ≡ true)

  abbrev pub IsGoodCut : Cut → Type 0
  IsGoodCut cut = Each IsGood cut.mentions

  abbrev AreGood : List Mention → List Cut → Type 0
  AreGood mentions cuts = Each IsGood mentions × Each IsGoodCut cuts

  abbrev IsGoodExpr : Expr → Type 0
  IsGoodExpr e = (u : NameKind) → whole_type_of types e ≡ Some u → counters_fit e ≡ true → AreGood (seen e).mentions (seen e).cuts

  abbrev IsGoodClock : ClockExpr → Type 0
  IsGoodClock c = is_typed_clock types c ≡ true → clock_counters_fit c ≡ true → AreGood (seen_clock c).mentions (seen_clock c).cuts

  whole_roll : (y : Expr-F ClockExpr Expr) → whole_type_of types (roll-Expr y) ≡ whole_level types (map-Expr ClockExpr Expr Bool (Option NameKind) (is_typed_clock types) (whole_type_of types) y)
  unfolding whole_type_of is_typed_clock
  whole_roll y = fold-roll-Expr Bool (Option NameKind) (clock_level types) (whole_level types) y

  pub clock_typed_roll : (y : ClockExpr-F ClockExpr Expr) → is_typed_clock types (roll-ClockExpr y) ≡ clock_level types (map-ClockExpr ClockExpr Expr Bool (Option NameKind) (is_typed_clock types) (whole_type_of types) y)
  unfolding whole_type_of is_typed_clock
  clock_typed_roll y = fold-roll-ClockExpr Bool (Option NameKind) (clock_level types) (whole_level types) y

  counters_roll : (y : Expr-F ClockExpr Expr) → counters_fit (roll-Expr y) ≡ counters_in_level (map-Expr ClockExpr Expr Bool Bool clock_counters_fit counters_fit y)
  unfolding counters_fit clock_counters_fit
  counters_roll y = fold-roll-Expr Bool Bool counters_in_clock_level counters_in_level y

  clock_counters_roll : (y : ClockExpr-F ClockExpr Expr) → clock_counters_fit (roll-ClockExpr y) ≡ counters_in_clock_level (map-ClockExpr ClockExpr Expr Bool Bool clock_counters_fit counters_fit y)
  unfolding counters_fit clock_counters_fit
  clock_counters_roll y = fold-roll-ClockExpr Bool Bool counters_in_clock_level counters_in_level y

  seen_roll : (y : Expr-F ClockExpr Expr) → seen (roll-Expr y) ≡ seen_level (map-Expr ClockExpr Expr SeenClock SeenExpr seen_clock seen y)
  unfolding seen seen_clock
  seen_roll y = fold-roll-Expr SeenClock SeenExpr seen_clock_level seen_level y

  valued_below : (x : ℕ) (o : Option NameKind) → types x ≡ o → (u : NameKind) → valued_type o ≡ Some u → IsBelow x
  valued_below x None e u v = absurd (none-some u v)
  valued_below x (Some k) e u v = (k, e)

  variable_below : (x : ℕ) (o : Option NameKind) → types x ≡ o → is_some (valued_type o) ≡ true → IsBelow x
  variable_below x None e v = absurd (false≢true v)
  variable_below x (Some k) e v = (k, e)

  clock_below : (x : ℕ) (o : Option NameKind) → types x ≡ o → is_clock o ≡ true → IsBelow x
  clock_below x None e v = absurd (false≢true v)
  clock_below x (Some k) e v = (k, e)

  module _ {A B : Type 0} (f : A → ClockExpr) (g : B → Expr) (clocks : (a : A) → IsGoodClock (f a)) (all : (b : B) → IsGoodExpr (g b)) where
    abbrev raised : Expr-F A B → Expr-F ClockExpr Expr
    raised y = map-Expr A B ClockExpr Expr f g y

    abbrev raised_clock : ClockExpr-F A B → ClockExpr-F ClockExpr Expr
    raised_clock y = map-ClockExpr A B ClockExpr Expr f g y

    parts_good : (ps : List B) → Each HasType (map (whole_type_of types) (map g ps)) → all_fit (map counters_fit (map g ps)) ≡ true
        → AreGood (mentions_of (map seen (map g ps))) (cuts_of (map seen (map g ps)))
    parts_good [] h c = (tt, tt)
    parts_good (p ∷ ps) h c =
        let both = and_parts _ _ c in
        let first = all p h.0.0 h.0.1 both.0 in
        let rest = parts_good ps h.1 both.1 in
        (each_append IsGood (seen (g p)).mentions (mentions_of (map seen (map g ps))) first.0 rest.0, each_append IsGoodCut (seen (g p)).cuts (cuts_of (map seen (map g ps))) first.1 rest.1)

    two_good : (m n : List Mention) (c d : List Cut) → AreGood m c → AreGood n d → AreGood (m ++ n) (c ++ d)
    two_good m n c d h k = (each_append IsGood m n h.0 k.0, each_append IsGoodCut c d h.1 k.1)

    part_good : (p : B) → HasType (whole_type_of types (g p)) → counters_fit (g p) ≡ true → AreGood (seen (g p)).mentions (seen (g p)).cuts
    part_good p h c = all p h.0 h.1 c

    abbrev LevelGood : Expr-F A B → Type 0
    LevelGood y = (u : NameKind) → whole_level types (map-Expr ClockExpr Expr Bool (Option NameKind) (is_typed_clock types) (whole_type_of types) (raised y)) ≡ Some u
        → counters_in_level (map-Expr ClockExpr Expr Bool Bool clock_counters_fit counters_fit (raised y)) ≡ true
        → AreGood (mentions_of_level (map-Expr ClockExpr Expr SeenClock SeenExpr seen_clock seen (raised y))) (cuts_of_level (map-Expr ClockExpr Expr SeenClock SeenExpr seen_clock seen (raised y)))

    sampled_some : (o : Option NameKind) (b : Bool) (u : NameKind) → sampled_type o (Some b) ≡ Some u → (o ≡ Some u) × (b ≡ true)
    sampled_some o true u e = (e, refl)
    sampled_some o false u e = absurd (none-some u e)

    level_good : (y : Expr-F A B) → LevelGood y
    level_good (Expr-F.Const v) u e c = (tt, tt)
    level_good (Expr-F.Read x) u e c = ((valued_below x (types x) refl u e, tt), tt)
    level_good (Expr-F.Chain ps ops) u e c = parts_good ps (chain_typed (map (whole_type_of types) (map g ps)) ops u e) c
    level_good (Expr-F.Relation rel a b) u e c =
        let h = relation_typed (whole_type_of types (g a)) (whole_type_of types (g b)) u e in
        let k = and_parts _ _ c in
        two_good (seen (g a)).mentions (seen (g b)).mentions (seen (g a)).cuts (seen (g b)).cuts (part_good a h.0 k.0) (part_good b h.1 k.1)
    level_good (Expr-F.Neg a) u e c = part_good a (type_taken kind.Integer (whole_type_of types (g a)) (typed_true (is_type kind.Integer (whole_type_of types (g a))) kind.Integer u e)) c
    level_good (Expr-F.Not a) u e c = part_good a (type_taken kind.Boolean (whole_type_of types (g a)) (typed_true (is_type kind.Boolean (whole_type_of types (g a))) kind.Boolean u e)) c
    level_good (Expr-F.If cs bs other) u e c =
        let h = if_typed (map (whole_type_of types) (map g cs)) (map (whole_type_of types) (map g bs)) (whole_type_of types (g other)) u e in
        let k = and_parts _ _ c in
        let l = and_parts _ _ k.0 in
        let first = mentions_of (map seen (map g cs)) in
        let second = mentions_of (map seen (map g bs)) in
        let before = cuts_of (map seen (map g cs)) in
        let after = cuts_of (map seen (map g bs)) in
        two_good (first ++ second) (seen (g other)).mentions (before ++ after) (seen (g other)).cuts
        (two_good first second before after (parts_good cs h.0 l.0) (parts_good bs h.1 l.1)) (part_good other h.2 k.1)
    level_good (Expr-F.Apply function ps) u e c = parts_good ps (call_typed function (map (whole_type_of types) (map g ps)) u e) c
    level_good (Expr-F.Previous x) u e c = ((tt, (valued_below x (types x) refl u e, tt)), tt)
    level_good (Expr-F.FirstTick None) u e c = ((tt, tt), tt)
    level_good (Expr-F.FirstTick (Some x)) u e c = ((tt, (variable_below x (types x) refl (typed_true (is_some (valued_type (types x))) kind.Boolean u e), tt)), tt)
    level_good (Expr-F.IntervalTimes None k) u e c = ((tt, tt), tt)
    level_good (Expr-F.IntervalTimes (Some x) k) u e c = ((tt, (variable_below x (types x) refl (typed_true (is_some (valued_type (types x))) kind.Integer u e), tt)), tt)
    level_good (Expr-F.Hold x) u e c = ((valued_below x (types x) refl u e, tt), tt)
    level_good (Expr-F.«Expr::Convert» by x) u e c = (((valued_below x (types x) refl u e, c), tt), tt)
    level_good (Expr-F.Sample a None) u e c =
        let h = all a u e (and_parts _ _ c).0 in
        ((tt, tt), (h.0, each_append IsGoodCut (seen (g a)).cuts [] h.1 tt))
    level_good (Expr-F.Sample a (Some k)) u e c =
        let both = sampled_some (whole_type_of types (g a)) (is_typed_clock types (f k)) u e in
        let h = all a u both.0 (and_parts _ _ c).0 in
        let l = clocks k both.1 (and_parts _ _ c).1 in
        ((tt, l.0), (h.0, each_append IsGoodCut (seen (g a)).cuts (seen_clock (f k)).cuts h.1 l.1))

    rolled : (y : Expr-F A B) → IsGoodExpr (roll-Expr (raised y))
    rolled y u e c =
        subst (λ s. AreGood s.mentions s.cuts) (sym (seen_roll (raised y)))
        (level_good y u (sym (whole_roll (raised y)) ∙ e) (sym (counters_roll (raised y)) ∙ c))

    counter_within : (n r : ℕ) → (is_counter 1 n && is_counter 1 r) ≡ true → IsGivenKind (Every n r)
    counter_within n r c =
        let both = and_parts _ _ c in
        let num = and_parts (nat_le 1 n) (nat_lt n (2 ^ 31)) both.0 in
        let res = and_parts (nat_le 1 r) (nat_lt r (2 ^ 31)) both.1 in
        (at_least 1 n num.0, ltb-true n (2 ^ 31) num.1, at_least 1 r res.0, ltb-true r (2 ^ 31) res.1)

    -- a clock with these mentions and cuts
    is_clock_with : (k : ClockExpr) (m : List Mention) (c : List Cut) → (seen_clock k).mentions ≡ m → (seen_clock k).cuts ≡ c → AreGood m c → AreGood (seen_clock k).mentions (seen_clock k).cuts
    is_clock_with k m c em ec h = (subst (λ l. Each IsGood l) (sym em) h.0, subst (λ l. Each IsGoodCut l) (sym ec) h.1)

    typed_as : {a b : ClockExpr} → a ≡ b → is_typed_clock types a ≡ true → is_typed_clock types b ≡ true
    typed_as same e = subst (λ k. is_typed_clock types k ≡ true) same e

    clock_rolled : (y : ClockExpr-F A B) → IsGoodClock (roll-ClockExpr (raised_clock y))
    clock_rolled (ClockExpr-F.Name x) e c =
        subst (λ k. AreGood (seen_clock k).mentions (seen_clock k).cuts) (sym (clock.rolls-Name x))
        (is_clock_with (clock.Name x) (Stands x ∷ []) [] (mentions-Name x) (cuts-Name x)
        ((clock_below x (types x) refl (sym (clock_typed_roll (ClockExpr-F.Name x)) ∙ e), tt), tt))
    clock_rolled ClockExpr-F.Inferred e c =
        subst (λ k. AreGood (seen_clock k).mentions (seen_clock k).cuts) (sym clock.rolls-Inferred)
        (is_clock_with clock.Inferred (Gives clock.Inferred ∷ []) [] mentions-Inferred cuts-Inferred (((subst IsGivenKind (sym kind_of-Inferred) tt, typed_as (clock.rolls-Inferred) e), tt), tt))
    clock_rolled (ClockExpr-F.Rational n r) e c =
        subst (λ k. AreGood (seen_clock k).mentions (seen_clock k).cuts) (sym (clock.rolls-Rational n r))
        (is_clock_with (clock.Rational n r) (Gives (clock.Rational n r) ∷ []) [] (mentions-Rational n r) (cuts-Rational n r)
        (((subst IsGivenKind (sym (kind_of-Rational n r)) (counter_within n r (sym (clock_counters_roll (ClockExpr-F.Rational n r)) ∙ c)), typed_as (clock.rolls-Rational n r) e), tt), tt))
    clock_rolled (ClockExpr-F.Event b) e c =
        let own = type_taken kind.Boolean (whole_type_of types (g b)) (sym (clock_typed_roll (ClockExpr-F.Event (g b))) ∙ e) in
        let h = all b own.0 own.1 (sym (clock_counters_roll (ClockExpr-F.Event (g b))) ∙ c) in
        subst (λ k. AreGood (seen_clock k).mentions (seen_clock k).cuts) (sym (clock.rolls-Event (g b)))
        (is_clock_with (clock.Event (g b)) (Gives (clock.Event (g b)) ∷ []) (record { cause = Condition; mentions = (seen (g b)).mentions } ∷ (seen (g b)).cuts) (mentions-Event (g b)) (cuts-Event (g b))
        (((subst IsGivenKind (sym (kind_of-Event (g b))) tt, typed_as (clock.rolls-Event (g b)) e), tt), h))
    clock_rolled (ClockExpr-F.«ClockExpr::Convert» by x) e c =
        subst (λ k. AreGood (seen_clock k).mentions (seen_clock k).cuts) (sym (clock.rolls-Convert by x))
        (is_clock_with (clock.Convert by x) (Converts by x ∷ []) [] (mentions-ClockConvert by x) (cuts-ClockConvert by x)
        (((clock_below x (types x) refl (sym (clock_typed_roll (ClockExpr-F.«ClockExpr::Convert» by x)) ∙ e), sym (clock_counters_roll (ClockExpr-F.«ClockExpr::Convert» by x)) ∙ c), tt), tt))

  pub good_expr : (e : Expr) → IsGoodExpr e
  good_expr = ind-Expr IsGoodClock IsGoodExpr
      (λ x y is. subst (λ z. IsGoodClock (roll-ClockExpr z)) is (clock_rolled (λ c. c.0) (λ e. e.0) (λ c. c.1) (λ e. e.1) y))
      (λ x y is. subst (λ z. IsGoodExpr (roll-Expr z)) is (rolled (λ c. c.0) (λ e. e.0) (λ c. c.1) (λ e. e.1) y))

  pub good_clock : (c : ClockExpr) → IsGoodClock c
  good_clock = ind-ClockExpr IsGoodClock IsGoodExpr
      (λ x y is. subst (λ z. IsGoodClock (roll-ClockExpr z)) is (clock_rolled (λ c. c.0) (λ e. e.0) (λ c. c.1) (λ e. e.1) y))
      (λ x y is. subst (λ z. IsGoodExpr (roll-Expr z)) is (rolled (λ c. c.0) (λ e. e.0) (λ c. c.1) (λ e. e.1) y))

  -- ---- nodes

  abbrev pub IsGoodNode : Node → Type 0
  IsGoodNode node = Each IsGood node.mentions

  sides_good : (equation : Equation) → IsTyped types equation → HasCounters equation → AreGood (side_mentions equation) (side_cuts equation)
  sides_good (Valued left right clause) t c =
      let h = good_expr left t.0 t.1 c.0 in
      let k = good_expr right t.0 t.2 c.1 in
      (each_append IsGood (seen left).mentions (seen right).mentions h.0 k.0, each_append IsGoodCut (seen left).cuts (seen right).cuts h.1 k.1)
  sides_good (Clocks left right clause) t c =
      let h = good_clock left t.0 c.0 in
      let k = good_clock right t.1 c.1 in
      (each_append IsGood (seen_clock left).mentions (seen_clock right).mentions h.0 k.0, each_append IsGoodCut (seen_clock left).cuts (seen_clock right).cuts h.1 k.1)

  cut_good : (i : ℕ) (cuts : List Cut) → Each IsGoodCut cuts → Each IsGoodNode (cut_nodes i cuts)
  cut_good i [] h = tt
  cut_good i (cut ∷ cuts) h = (h.0, cut_good i cuts h.1)

  module _ (clauses : List ClockExpr) (typed : Each (λ k. is_typed_clock types k ≡ true) clauses) (fit : Each (λ k. clock_counters_fit k ≡ true) clauses) where
    given_good : (o : Option ClockExpr) → ((k : ClockExpr) → o ≡ Some k → AreGood (seen_clock k).mentions (seen_clock k).cuts) → AreGood (clock_mentions o) (clock_cuts o)
    given_good None h = (tt, tt)
    given_good (Some k) h = h k refl

    lead_good : (before : List Equation) (o : Option ℕ) → AreGood (clock_mentions (leading_clock clauses before o)) (clock_cuts (leading_clock clauses before o))
    lead_good before None = (tt, tt)
    lead_good before (Some c) = given_good (leading_clock clauses before (Some c)) (λ k e.
        let at = taken (list_any (is_of_clause c) before) (slice_get clauses c) k e in
        good_clock k (each_at (λ k. is_typed_clock types k ≡ true) clauses c k typed at) (each_at (λ k. clock_counters_fit k ≡ true) clauses c k fit at))
      where
        taken : (b : Bool) (o : Option ClockExpr) (k : ClockExpr) → (if b then None else o) ≡ Some k → o ≡ Some k
        taken true o k e = absurd (none-some k e)
        taken false o k e = e

    nodes_good : (before equations : List Equation) → Each (IsTyped types) equations → Each HasCounters equations → Each IsGoodNode (nodes_from clauses before equations)
    nodes_good before [] t c = tt
    nodes_good before (equation ∷ rest) t c =
        let clock = leading_clock clauses before (clause_of equation) in
        let lead = lead_good before (clause_of equation) in
        let sides = sides_good equation t.0 c.0 in
        let cuts = cut_nodes (length before) (clock_cuts clock) in
        let own = own_node clock (length before) equation in
        let after = cut_nodes (length before) (side_cuts equation) in
        each_append IsGoodNode (cuts ++ own ∷ after) (nodes_from clauses (before ++ equation ∷ []) rest)
        (each_append IsGoodNode cuts (own ∷ after) (cut_good (length before) (clock_cuts clock) lead.1)
        (each_append IsGood (clock_mentions clock) (side_mentions equation) lead.0 sides.0, cut_good (length before) (side_cuts equation) sides.1))
        (nodes_good (before ++ equation ∷ []) rest t.1 c.1)

pub model_good : (model : FlatModel) → IsModel model → Each (IsGoodNode (types_in model.names)) (nodes_of model)
model_good model is =
    let types = types_in model.names in
    nodes_good types model.clauses
    (each_of_all (λ k. is_typed_clock types k ≡ true) model.clauses is.typed.clauses)
    (each_of_all (λ k. clock_counters_fit k ≡ true) model.clauses is.counters.clauses)
    [] model.equations
    (each_of_all (IsTyped types) model.equations is.typed.equations)
    (each_of_all HasCounters model.equations is.counters.equations)
