-- What is typed with its clocks is typed.
use Rattle.std.proofs.Common.{◌≡◌, refl, ap, ap₂, ◌∙◌, sym, subst, ℕ, suc, ◌+◌, ◌==◌, nat_le, ◌&&◌, Bool, true, false, if◌then◌else◌, List, [], ◌∷◌, map, length, Option, Some, None}
use Rattle.std.specs.List.{list_all}
use Rattle.std.proofs.lemmas.Bool.{false≢true}
use Rattle.std.proofs.lemmas.Option.{none-some}
use Rattle.sync_values.specs.declared.value.ChainOp.{ChainOp}
use Rattle.flat_model.specs.declared.model.NameKind.{NameKind}
use Rattle.flat_model.specs.declared.model.NameKind.TheVariants as kind
use Rattle.flat_model.specs.declared.expression.Expr.{Expr}
use Rattle.flat_model.specs.declared.expression.Fun.{Fun}
use Rattle.flat_model.specs.declared.clock.ClockExpr.{ClockExpr}
use Rattle.flat_model.specs.declared.clock.ClockExpr.TheOpen.{Expr-F}
use Rattle.flat_model.specs.declared.clock.ClockExpr.TheViews.{roll-Expr}
use Rattle.flat_model.specs.declared.clock.ClockExpr.TheFolds.{ind-Expr, fold-roll-Expr, map-Expr}
use Rattle.flat_model.specs.Typing.{Types, is_type, typed_if, goes_with, type_of_operator, type_if_all, chain_type, relation_type, if_type, call_type, arity, type_of_level, type_of}
use Rattle.flat_model.specs.WholeTyping.{is_variable_if, sampled_type, whole_level, whole_type_of, is_typed_clock, clock_level}
use Rattle.flat_model.proofs.Typed.{both}

-- where the first has a type, the second has it
abbrev Gives : Option NameKind → Option NameKind → Type 0
Gives o p = (type : NameKind) → o ≡ Some type → p ≡ Some type

abbrev AllGive : List (Option NameKind) → List (Option NameKind) → Type 0
AllGive [] ps = ps ≡ []
AllGive (o ∷ os) [] = ⊥
AllGive (o ∷ os) (p ∷ ps) = Gives o p × AllGive os ps

if_some : {A : Type 0} (b : Bool) (o : Option A) (a : A) → (if b then o else None) ≡ Some a → (b ≡ true) × (o ≡ Some a)
if_some true o a e = (refl, e)
if_some false o a e = absurd (none-some a e)

is_given : (type : NameKind) (o p : Option NameKind) → Gives o p → is_type type o ≡ true → is_type type p ≡ true
is_given type None p gives e = absurd (none type e)
  where
    none : (type : NameKind) → is_type type None ≡ true → ⊥
    none kind.Integer e = false≢true e
    none kind.Boolean e = false≢true e
    none kind.Clock e = false≢true e
is_given type (Some t) p gives e = subst (λ q. is_type type q ≡ true) (sym (gives t refl)) e

all_given : (type : NameKind) (os ps : List (Option NameKind)) → AllGive os ps → list_all (is_type type) os ≡ true → list_all (is_type type) ps ≡ true
all_given type [] ps give e = subst (λ qs. list_all (is_type type) qs ≡ true) (sym give) refl
all_given type (o ∷ os) [] give e = absurd give
all_given type (o ∷ os) (p ∷ ps) give e =
    let two = both (is_type type o) (list_all (is_type type) os) e in
    let one = is_given type o p give.0 two.0 in
    let rest = all_given type os ps give.1 two.1 in
    ap₂ (λ a b. a && b) one rest

long_given : (os ps : List (Option NameKind)) → AllGive os ps → length ps ≡ length os
long_given [] ps give = ap length give
long_given (o ∷ os) [] give = absurd give
long_given (o ∷ os) (p ∷ ps) give = ap suc (long_given os ps give.1)

if_same : (b c : Bool) (type t : NameKind) → (b ≡ true → c ≡ true) → typed_if b type ≡ Some t → typed_if c type ≡ Some t
if_same b c type t up e = let of = if_some b (Some type) t e in subst (λ d. typed_if d type ≡ Some t) (sym (up of.0)) of.1

all_type : (o : Option NameKind) (os ps : List (Option NameKind)) → AllGive os ps → Gives (type_if_all o os) (type_if_all o ps)
all_type None os ps give type e = absurd (none-some type e)
all_type (Some t) os ps give type e = if_same (list_all (is_type t) os) (list_all (is_type t) ps) t type (all_given t os ps give) e

chain_gives : (os ps : List (Option NameKind)) (ops : List ChainOp) → AllGive os ps → Gives (chain_type os ops) (chain_type ps ops)
chain_gives os ps [] give type e = absurd (none-some type e)
chain_gives os ps (op ∷ ops) give type e =
    let of = if_some (length os == length ops + 2 && list_all (goes_with op) ops) (type_if_all (type_of_operator op) os) type e in
    let long : (length ps == length ops + 2 && list_all (goes_with op) ops) ≡ true = ap (λ n. n == length ops + 2 && list_all (goes_with op) ops) (long_given os ps give) ∙ of.0 in
    ap (λ b. if b then type_if_all (type_of_operator op) ps else None) long ∙ all_type (type_of_operator op) os ps give type of.1

relation_gives : (a b c d : Option NameKind) → Gives a c → Gives b d → Gives (relation_type a b) (relation_type c d)
relation_gives None b c d one two type e = absurd (none-some type e)
relation_gives (Some t) b c d one two type e =
    subst (λ o. relation_type o d ≡ Some type) (sym (one t refl)) (if_same (is_type t b) (is_type t d) kind.Boolean type (is_given t b d two) e)

if_gives : (cs ds bs es : List (Option NameKind)) (o p : Option NameKind) → AllGive cs ds → AllGive bs es → Gives o p → Gives (if_type cs bs o) (if_type ds es p)
if_gives cs ds bs es None p one two three type e = absurd (none-some type e)
if_gives cs ds bs es (Some t) p one two three type e =
    subst (λ q. if_type ds es q ≡ Some type) (sym (three t refl))
    (if_same (nat_le 1 (length cs) && length bs == length cs && list_all (is_type kind.Boolean) cs && list_all (is_type t) bs)
    (nat_le 1 (length ds) && length es == length ds && list_all (is_type kind.Boolean) ds && list_all (is_type t) es) t type up e)
  where
    up : (nat_le 1 (length cs) && length bs == length cs && list_all (is_type kind.Boolean) cs && list_all (is_type t) bs) ≡ true
        → (nat_le 1 (length ds) && length es == length ds && list_all (is_type kind.Boolean) ds && list_all (is_type t) es) ≡ true
    up h =
        let last = both (nat_le 1 (length cs) && length bs == length cs && list_all (is_type kind.Boolean) cs) (list_all (is_type t) bs) h in
        let front = both (nat_le 1 (length cs) && length bs == length cs) (list_all (is_type kind.Boolean) cs) last.0 in
        let size : (nat_le 1 (length ds) && length es == length ds) ≡ true = ap₂ (λ m n. nat_le 1 m && n == m) (long_given cs ds one) (long_given bs es two) ∙ front.0 in
        ap₂ (λ a b. a && b) (ap₂ (λ a b. a && b) size (all_given kind.Boolean cs ds one front.1)) (all_given t bs es two last.1)

call_gives : (function : Fun) (os ps : List (Option NameKind)) → AllGive os ps → Gives (call_type function os) (call_type function ps)
call_gives function os ps give type e =
    if_same (length os == arity function && list_all (is_type kind.Integer) os) (length ps == arity function && list_all (is_type kind.Integer) ps) kind.Integer type
    (λ h. let two = both (length os == arity function) (list_all (is_type kind.Integer) os) h in
    ap₂ (λ a b. a && b) (ap (λ n. n == arity function) (long_given os ps give) ∙ two.0) (all_given kind.Integer os ps give two.1)) e

module _ (types : Types) where
  abbrev Fits : Expr → Type 0
  Fits e = Gives (whole_type_of types e) (type_of types e)

  module _ {A B : Type 0} (f : A → ClockExpr) (g : B → Expr) (all : (b : B) → Fits (g b)) where
    parts_give : (ps : List B) → AllGive (map (whole_type_of types) (map g ps)) (map (type_of types) (map g ps))
    parts_give [] = refl
    parts_give (p ∷ ps) = (all p, parts_give ps)

    level_gives : (y : Expr-F A B) → Gives (whole_level types (map-Expr ClockExpr Expr Bool (Option NameKind) (is_typed_clock types) (whole_type_of types) (map-Expr A B ClockExpr Expr f g y)))
        (type_of_level types (map-Expr ClockExpr Expr (Unit {0}) (Option NameKind) (λ _. tt) (type_of types) (map-Expr A B ClockExpr Expr f g y)))
    level_gives (Expr-F.Const v) type e = e
    level_gives (Expr-F.Read x) type e = e
    level_gives (Expr-F.Chain ps ops) type e = chain_gives _ _ ops (parts_give ps) type e
    level_gives (Expr-F.Relation rel a b) type e = relation_gives _ _ _ _ (all a) (all b) type e
    level_gives (Expr-F.Neg a) type e = if_same _ _ kind.Integer type (is_given kind.Integer _ _ (all a)) e
    level_gives (Expr-F.Not a) type e = if_same _ _ kind.Boolean type (is_given kind.Boolean _ _ (all a)) e
    level_gives (Expr-F.If cs bs other) type e = if_gives _ _ _ _ _ _ (parts_give cs) (parts_give bs) (all other) type e
    level_gives (Expr-F.Apply function ps) type e = call_gives function _ _ (parts_give ps) type e
    level_gives (Expr-F.Previous x) type e = e
    level_gives (Expr-F.FirstTick x) type e = (if_some (is_variable_if types x) (Some kind.Boolean) type e).1
    level_gives (Expr-F.IntervalTimes x k) type e = (if_some (is_variable_if types x) (Some kind.Integer) type e).1
    level_gives (Expr-F.Hold x) type e = e
    level_gives (Expr-F.«Expr::Convert» conversion x) type e = e
    level_gives (Expr-F.Sample a None) type e = all a type e
    level_gives (Expr-F.Sample a (Some c)) type e = all a type (sampled (whole_type_of types (g a)) (is_typed_clock types (f c)) e)
      where
        sampled : (o : Option NameKind) (b : Bool) → sampled_type o (Some b) ≡ Some type → o ≡ Some type
        sampled o true h = h
        sampled o false h = absurd (none-some type h)

  whole_roll : (y : Expr-F ClockExpr Expr) → whole_type_of types (roll-Expr y) ≡ whole_level types (map-Expr ClockExpr Expr Bool (Option NameKind) (is_typed_clock types) (whole_type_of types) y)
  unfolding whole_type_of is_typed_clock
  whole_roll y = fold-roll-Expr Bool (Option NameKind) (clock_level types) (whole_level types) y

  type_roll : (y : Expr-F ClockExpr Expr) → type_of types (roll-Expr y) ≡ type_of_level types (map-Expr ClockExpr Expr (Unit {0}) (Option NameKind) (λ _. tt) (type_of types) y)
  unfolding type_of
  type_roll y = fold-roll-Expr (Unit {0}) (Option NameKind) (λ _. tt) (type_of_level types) y

  rolled : {A B : Type 0} (f : A → ClockExpr) (g : B → Expr) → ((b : B) → Fits (g b)) → (y : Expr-F A B) → Fits (roll-Expr (map-Expr A B ClockExpr Expr f g y))
  rolled {A = A} {B = B} f g all y type e =
      let z = map-Expr A B ClockExpr Expr f g y in
      type_roll z ∙ level_gives f g all y type (sym (whole_roll z) ∙ e)

  -- an expression that is typed with its clocks has that type
  pub whole_typed : (e : Expr) (type : NameKind) → whole_type_of types e ≡ Some type → type_of types e ≡ Some type
  whole_typed = ind-Expr (λ c. Unit {0}) Fits (λ a y is. tt) (λ a y is. subst (λ z. Fits (roll-Expr z)) is (rolled (λ c. c.0) (λ e. e.0) (λ e. e.1) y))
