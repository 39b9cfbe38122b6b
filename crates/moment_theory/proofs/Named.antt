-- In a typed expression each name that is asked for has values, and each chain has an operator between each part and the next.
use Rattle.std.proofs.Common.{◌≡◌, refl, ◌∙◌, sym, subst, ℕ, zero, suc, ◌+◌, ◌<◌, ◌==◌, ◌&&◌, nat_le, Bool, true, false, if◌then◌else◌, List, [], ◌∷◌, map, length, Option, Some, None, arith, ◌⊎◌, inl, inr}
use Rattle.std.specs.List.{list_all}
use Rattle.std.proofs.lemmas.List.{length-map}
use Rattle.std.proofs.lemmas.Bool.{false≢true, and_parts, and_from, eqb-true, eq-eqb}
use Rattle.std.proofs.lemmas.Option.{none-some}
use Rattle.sync_values.specs.declared.value.ChainOp.{ChainOp}
use Rattle.flat_model.specs.declared.model.NameKind.{NameKind}
use Rattle.flat_model.specs.declared.model.NameKind.TheVariants as kind
use Rattle.flat_model.specs.declared.expression.Expr.{Expr}
use Rattle.flat_model.specs.declared.clock.ClockExpr.{ClockExpr}
use Rattle.flat_model.specs.declared.clock.ClockExpr.TheOpen.{Expr-F}
use Rattle.flat_model.specs.declared.clock.ClockExpr.TheViews.{roll-Expr}
use Rattle.flat_model.specs.declared.clock.ClockExpr.TheFolds.{ind-Expr, fold-roll-Expr, map-Expr}
use Rattle.flat_model.specs.Asks.{Asking, OfNow, OfLast, OfPrevious, OfFirst, OfInterval, Asked, asked, asked_in_level, all_asked, here, is_now, is_last, is_previous, is_first, is_interval}
use Rattle.flat_model.specs.Occurrences.{one_if}
use Rattle.flat_model.specs.Typing.{Types, valued_type, is_type, goes_with, type_of_operator, type_if_all, chain_type, relation_type, if_type, arity}
use Rattle.flat_model.specs.WholeTyping.{clock_level, whole_level, sampled_type, whole_type_of, is_typed_clock}
use Rattle.flat_model.proofs.Asks.{asked_roll}
use Rattle.moment_theory.proofs.Alone.{is_formed, formed_level, formed_roll}

-- a name that is asked for is one with values
abbrev pub IsOfValues : Types → Asking → Type 0
IsOfValues types (OfNow x) = (type : NameKind) × (valued_type (types x) ≡ Some type)
IsOfValues types (OfLast x) = (type : NameKind) × (valued_type (types x) ≡ Some type)
IsOfValues types (OfPrevious x) = (type : NameKind) × (valued_type (types x) ≡ Some type)
IsOfValues types _ = Unit {0}

whole_roll : (types : Types) (y : Expr-F ClockExpr Expr) → whole_type_of types (roll-Expr y) ≡ whole_level types (map-Expr ClockExpr Expr Bool (Option NameKind) (is_typed_clock types) (whole_type_of types) y)
unfolding whole_type_of is_typed_clock
whole_roll types y = fold-roll-Expr Bool (Option NameKind) (clock_level types) (whole_level types) y

-- ---- what tests tell

if_some : {A : Type 0} (b : Bool) (o : Option A) (a : A) → (if b then o else None) ≡ Some a → (b ≡ true) × (o ≡ Some a)
if_some true o a e = (refl, e)
if_some false o a e = absurd (none-some a e)

some_type : (k : NameKind) (o : Option NameKind) → is_type k o ≡ true → (type : NameKind) × (o ≡ Some type)
some_type k (Some type) e = (type, refl)
some_type kind.Integer None e = absurd (false≢true e)
some_type kind.Boolean None e = absurd (false≢true e)
some_type kind.Clock None e = absurd (false≢true e)

all_from : (o : Option NameKind) (parts : List (Option NameKind)) (type : NameKind) → type_if_all o parts ≡ Some type → (k : NameKind) × (list_all (is_type k) parts ≡ true)
all_from None parts type e = absurd (none-some type e)
all_from (Some k) parts type e = (k, (if_some (list_all (is_type k) parts) (Some k) type e).0)

chain_long : (parts : List (Option NameKind)) (ops : List ChainOp) (type : NameKind) → chain_type parts ops ≡ Some type → (k : NameKind) × (list_all (is_type k) parts ≡ true) × (length parts ≡ suc (length ops))
chain_long parts [] type e = absurd (none-some type e)
chain_long parts (op ∷ ops) type e =
    let h = if_some (length parts == length ops + 2 && list_all (goes_with op) ops) (type_if_all (type_of_operator op) parts) type e in
    let (k, all) = all_from (type_of_operator op) parts type h.1 in
    (k, all, (let same = eqb-true (length parts) (length ops + 2) (and_parts _ _ h.0).0 in omega (arith, same)))

relation_parts : (a b : Option NameKind) (type : NameKind) → relation_type a b ≡ Some type → (k : NameKind) × (j : NameKind) × (a ≡ Some k) × (b ≡ Some j)
relation_parts None b type e = absurd (none-some type e)
relation_parts (Some k) b type e = let (j, is) = some_type k b (if_some (is_type k b) (Some kind.Boolean) type e).0 in (k, j, refl, is)

if_parts : (conditions branches : List (Option NameKind)) (other : Option NameKind) (type : NameKind) → if_type conditions branches other ≡ Some type
    → (k : NameKind) × (list_all (is_type kind.Boolean) conditions ≡ true) × (list_all (is_type k) branches ≡ true) × (other ≡ Some k)
if_parts conditions branches None type e = absurd (none-some type e)
if_parts conditions branches (Some k) type e =
    let h = (if_some (nat_le 1 (length conditions) && length branches == length conditions && list_all (is_type kind.Boolean) conditions && list_all (is_type k) branches) (Some k) type e).0 in
    let one = and_parts _ _ h in let two = and_parts _ _ one.0 in (k, two.1, one.1, refl)

sampled_is : (part : Option NameKind) (clock : Option Bool) (type : NameKind) → sampled_type part clock ≡ Some type → part ≡ Some type
sampled_is part None type e = e
sampled_is part (Some true) type e = e
sampled_is part (Some false) type e = absurd (none-some type e)

-- ---- over expressions

module _ (types : Types) where
  record IsNamed (e : Expr) : Type 0 where
    names : (type : NameKind) → whole_type_of types e ≡ Some type → (d : ℕ) (q : Asking) → 0 < asked e d q → IsOfValues types q
    formed : (type : NameKind) → whole_type_of types e ≡ Some type → is_formed e ≡ true

  nothing : {A : Type 0} → 0 < 0 → A
  nothing h = absurd (omega (arith, h))

  either_some : (m n : ℕ) → 0 < m + n → (0 < m) ⊎ (0 < n)
  either_some zero n h = inr (omega (arith, h))
  either_some (suc m) n h = inl (omega arith)

  abbrev level_asked : Expr-F ClockExpr Expr → Asked
  level_asked y = asked_in_level (map-Expr ClockExpr Expr (Unit {0}) Asked (λ _. tt) asked y)

  abbrev level_type : Expr-F ClockExpr Expr → Option NameKind
  level_type y = whole_level types (map-Expr ClockExpr Expr Bool (Option NameKind) (is_typed_clock types) (whole_type_of types) y)

  one_name : (n x : ℕ) → 0 < one_if (n == x) → n ≡ x
  one_name n x some = by_test (n == x) refl some
    where
      by_test : (b : Bool) → n == x ≡ b → 0 < one_if b → n ≡ x
      by_test true e h = eqb-true n x e
      by_test false e h = nothing h

  has_type : (n x : ℕ) → 0 < one_if (n == x) → (type : NameKind) → valued_type (types n) ≡ Some type → (k : NameKind) × (valued_type (types x) ≡ Some k)
  has_type n x some type e = (type, subst (λ z. valued_type (types z) ≡ Some type) (one_name n x some) e)

  now_named : (n : ℕ) (type : NameKind) → valued_type (types n) ≡ Some type → (d : ℕ) (q : Asking) → 0 < here (is_now n) d q → IsOfValues types q
  now_named n type e zero (OfNow x) some = has_type n x some type e
  now_named n type e zero (OfLast x) some = nothing some
  now_named n type e zero (OfPrevious x) some = nothing some
  now_named n type e zero OfFirst some = tt
  now_named n type e zero OfInterval some = tt
  now_named n type e (suc d) q some = nothing some

  last_named : (n : ℕ) (type : NameKind) → valued_type (types n) ≡ Some type → (d : ℕ) (q : Asking) → 0 < here (is_last n) d q → IsOfValues types q
  last_named n type e zero (OfNow x) some = nothing some
  last_named n type e zero (OfLast x) some = has_type n x some type e
  last_named n type e zero (OfPrevious x) some = nothing some
  last_named n type e zero OfFirst some = tt
  last_named n type e zero OfInterval some = tt
  last_named n type e (suc d) q some = nothing some

  previous_named : (n : ℕ) (type : NameKind) → valued_type (types n) ≡ Some type → (d : ℕ) (q : Asking) → 0 < here (is_previous n) d q → IsOfValues types q
  previous_named n type e zero (OfNow x) some = nothing some
  previous_named n type e zero (OfLast x) some = nothing some
  previous_named n type e zero (OfPrevious x) some = has_type n x some type e
  previous_named n type e zero OfFirst some = tt
  previous_named n type e zero OfInterval some = tt
  previous_named n type e (suc d) q some = nothing some

  first_named : (d : ℕ) (q : Asking) → 0 < here is_first d q → IsOfValues types q
  first_named zero (OfNow x) some = nothing some
  first_named zero (OfLast x) some = nothing some
  first_named zero (OfPrevious x) some = nothing some
  first_named zero OfFirst some = tt
  first_named zero OfInterval some = tt
  first_named (suc d) q some = nothing some

  interval_named : (d : ℕ) (q : Asking) → 0 < here is_interval d q → IsOfValues types q
  interval_named zero (OfNow x) some = nothing some
  interval_named zero (OfLast x) some = nothing some
  interval_named zero (OfPrevious x) some = nothing some
  interval_named zero OfFirst some = tt
  interval_named zero OfInterval some = tt
  interval_named (suc d) q some = nothing some

  module _ {A B : Type 0} (f : A → ClockExpr) (g : B → Expr) (all : (b : B) → IsNamed (g b)) where
    abbrev types_of : List B → List (Option NameKind)
    types_of ps = map (whole_type_of types) (map g ps)

    parts_named : (k : NameKind) (ps : List B) → list_all (is_type k) (types_of ps) ≡ true → (d : ℕ) (q : Asking) → 0 < all_asked (map asked (map g ps)) d q → IsOfValues types q
    parts_named k [] typed d q some = nothing some
    parts_named k (p ∷ ps) typed d q some =
        let h = and_parts (is_type k (whole_type_of types (g p))) (list_all (is_type k) (types_of ps)) typed in elim (either_some (asked (g p) d q) (all_asked (map asked (map g ps)) d q) some) [
          | inl own ↦ let (type, is) = some_type k (whole_type_of types (g p)) h.0 in (all p).names type is d q own
          | inr rest ↦ parts_named k ps h.1 d q rest
        ]

    parts_formed : (k : NameKind) (ps : List B) → list_all (is_type k) (types_of ps) ≡ true → list_all (λ part. part) (map is_formed (map g ps)) ≡ true
    parts_formed k [] typed = refl
    parts_formed k (p ∷ ps) typed =
        let h = and_parts (is_type k (whole_type_of types (g p))) (list_all (is_type k) (types_of ps)) typed in
        let (type, is) = some_type k (whole_type_of types (g p)) h.0 in
        and_from (is_formed (g p)) (list_all (λ part. part) (map is_formed (map g ps))) ((all p).formed type is) (parts_formed k ps h.1)

    level_named : (y : Expr-F A B) (type : NameKind) → level_type (map-Expr A B ClockExpr Expr f g y) ≡ Some type → (d : ℕ) (q : Asking) → 0 < level_asked (map-Expr A B ClockExpr Expr f g y) d q → IsOfValues types q
    level_named (Expr-F.Const v) type e d q some = nothing some
    level_named (Expr-F.Read n) type e d q some = now_named n type e d q some
    level_named (Expr-F.Chain ps ops) type e d q some = let (k, typed, long) = chain_long (types_of ps) ops type e in parts_named k ps typed d q some
    level_named (Expr-F.Relation rel a b) type e d q some =
        let (k, j, one, two) = relation_parts (whole_type_of types (g a)) (whole_type_of types (g b)) type e in elim (either_some (asked (g a) d q) (asked (g b) d q) some) [
          | inl own ↦ (all a).names k one d q own
          | inr own ↦ (all b).names j two d q own
        ]
    level_named (Expr-F.Neg a) type e d q some =
        let (k, is) = some_type kind.Integer (whole_type_of types (g a)) (if_some (is_type kind.Integer (whole_type_of types (g a))) (Some kind.Integer) type e).0 in (all a).names k is d q some
    level_named (Expr-F.Not a) type e d q some =
        let (k, is) = some_type kind.Boolean (whole_type_of types (g a)) (if_some (is_type kind.Boolean (whole_type_of types (g a))) (Some kind.Boolean) type e).0 in (all a).names k is d q some
    level_named (Expr-F.If cs bs other) type e d q some =
        let (k, conditions, branches, last) = if_parts (types_of cs) (types_of bs) (whole_type_of types (g other)) type e in
        elim (either_some (all_asked (map asked (map g cs)) d q + all_asked (map asked (map g bs)) d q) (asked (g other) d q) some) [
          | inl front ↦ elim (either_some (all_asked (map asked (map g cs)) d q) (all_asked (map asked (map g bs)) d q) front) [
            | inl own ↦ parts_named kind.Boolean cs conditions d q own
            | inr own ↦ parts_named k bs branches d q own
          ]
          | inr own ↦ (all other).names k last d q own
        ]
    level_named (Expr-F.Apply function ps) type e d q some =
        let h = if_some (length (types_of ps) == arity function && list_all (is_type kind.Integer) (types_of ps)) (Some kind.Integer) type e in
        parts_named kind.Integer ps (and_parts _ _ h.0).1 d q some
    level_named (Expr-F.Previous n) type e d q some = previous_named n type e d q some
    level_named (Expr-F.FirstTick n) type e d q some = first_named d q some
    level_named (Expr-F.IntervalTimes n k) type e d q some = interval_named d q some
    level_named (Expr-F.Hold n) type e d q some = last_named n type e d q some
    level_named (Expr-F.«Expr::Convert» conversion n) type e d q some = last_named n type e d q some
    level_named (Expr-F.Sample a clock) type e zero q some = nothing some
    level_named (Expr-F.Sample a clock) type e (suc d) q some = (all a).names type (sampled_is (whole_type_of types (g a)) _ type e) d q some

    level_formed : (y : Expr-F A B) (type : NameKind) → level_type (map-Expr A B ClockExpr Expr f g y) ≡ Some type
        → formed_level (map-Expr ClockExpr Expr (Unit {0}) Bool (λ _. tt) is_formed (map-Expr A B ClockExpr Expr f g y)) ≡ true
    level_formed (Expr-F.Const v) type e = refl
    level_formed (Expr-F.Read n) type e = refl
    level_formed (Expr-F.Chain ps ops) type e =
        let (k, typed, long) = chain_long (types_of ps) ops type e in
        let one = length-map (map g ps) is_formed in
        let two = length-map (map g ps) (whole_type_of types) in
        and_from (length (map is_formed (map g ps)) == suc (length ops)) (list_all (λ part. part) (map is_formed (map g ps)))
        (eq-eqb (length (map is_formed (map g ps))) (suc (length ops)) (omega (arith, one, two, long))) (parts_formed k ps typed)
    level_formed (Expr-F.Relation rel a b) type e = refl
    level_formed (Expr-F.Neg a) type e =
        let (k, is) = some_type kind.Integer (whole_type_of types (g a)) (if_some (is_type kind.Integer (whole_type_of types (g a))) (Some kind.Integer) type e).0 in (all a).formed k is
    level_formed (Expr-F.Not a) type e =
        let (k, is) = some_type kind.Boolean (whole_type_of types (g a)) (if_some (is_type kind.Boolean (whole_type_of types (g a))) (Some kind.Boolean) type e).0 in (all a).formed k is
    level_formed (Expr-F.If cs bs other) type e = refl
    level_formed (Expr-F.Apply function ps) type e = refl
    level_formed (Expr-F.Previous n) type e = refl
    level_formed (Expr-F.FirstTick n) type e = refl
    level_formed (Expr-F.IntervalTimes n k) type e = refl
    level_formed (Expr-F.Hold n) type e = refl
    level_formed (Expr-F.«Expr::Convert» conversion n) type e = refl
    level_formed (Expr-F.Sample a clock) type e = refl

    rolled : (y : Expr-F A B) → IsNamed (roll-Expr (map-Expr A B ClockExpr Expr f g y))
    rolled y = let z = map-Expr A B ClockExpr Expr f g y in record {
      names = λ type e d q some. level_named y type (sym (whole_roll types z) ∙ e) d q (subst (λ n. 0 < n) (asked_roll z d q) some);
      formed = λ type e. formed_roll z ∙ level_formed y type (sym (whole_roll types z) ∙ e);
    }

  named : (e : Expr) → IsNamed e
  named = ind-Expr (λ c. Unit {0}) IsNamed (λ a b is. tt) (λ a y is. subst (λ z. IsNamed (roll-Expr z)) is (rolled (λ c. c.0) (λ e. e.0) (λ e. e.1) y))

  pub typed_names : (e : Expr) (type : NameKind) → whole_type_of types e ≡ Some type → (d : ℕ) (q : Asking) → 0 < asked e d q → IsOfValues types q
  typed_names e = (named e).names

  pub typed_formed : (e : Expr) (type : NameKind) → whole_type_of types e ≡ Some type → is_formed e ≡ true
  typed_formed e = (named e).formed
