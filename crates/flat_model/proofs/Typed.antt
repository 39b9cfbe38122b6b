-- A typed expression has a value of its type, or fails, where what it asks for has values of their types.
use Rattle.std.proofs.Common.{◌≡◌, refl, ap, sym, subst, ◌∙◌, ℕ, zero, suc, ◌+◌, ◌<◌, ◌==◌, ◌&&◌, ◌⊎◌, inl, inr, Bool, true, false, if◌then◌else◌, List, [], ◌∷◌, map, length, Option, Some, None, ℤ, pos, negsuc, int_le, neg_ℤ, ◌+ℤ◌, ◌-ℤ◌, ◌*ℤ◌, nat_lt, ◌^◌, is_ok, Result, Ok, Err, arith}
use Rattle.std.specs.List.{list_all}
use Rattle.std.proofs.lemmas.Bool.{false≢true}
use Rattle.std.proofs.lemmas.Option.{same_Some, none-some}
use Rattle.std.proofs.lemmas.Bool.Decides.{eqb_tells}
use Rattle.sync_values.specs.declared.value.Value.{Value}
use Rattle.sync_values.specs.declared.value.Value.TheVariants as value
use Rattle.sync_values.specs.declared.value.Fail.{Fail}
use Rattle.sync_values.specs.declared.value.Rel.{Rel}
use Rattle.sync_values.specs.declared.value.ChainOp.{ChainOp}
use Rattle.sync_values.specs.declared.value.ChainOp.TheVariants.{Plus, Minus, Times, Over, And, Or}
use Rattle.flat_model.specs.declared.model.NameKind.{NameKind}
use Rattle.flat_model.specs.declared.model.NameKind.TheVariants as kind
use Rattle.flat_model.specs.declared.expression.Expr.{Expr}
use Rattle.flat_model.specs.declared.expression.Fun.{Fun}
use Rattle.flat_model.specs.declared.expression.Fun.TheVariants.{Div, Mod, Rem, Abs, Min, Max}
use Rattle.flat_model.specs.declared.clock.ClockExpr.{ClockExpr}
use Rattle.flat_model.specs.declared.clock.ClockExpr.TheOpen.{Expr-F}
use Rattle.flat_model.specs.declared.clock.ClockExpr.TheViews.{roll-Expr}
use Rattle.flat_model.specs.declared.clock.ClockExpr.TheFolds.{ind-Expr, fold-roll-Expr, map-Expr}
use Rattle.flat_model.specs.Assignment.{IsOfKind}
use Rattle.flat_model.specs.Operators.{Answer, Is, Fails, Absent, settled, read, applied, joined, chained, chain, negated, inverted, compared, relation, chosen}
use Rattle.flat_model.specs.Functions.{called_with_one, called_with_two, called}
use Rattle.flat_model.specs.Views.{Views, before}
use Rattle.sync_values.specs.Arithmetic.{fitted, over, magnitude}
use Rattle.sync_values.specs.declared.value.Fail.TheVariants.{Divide, TooLarge}
use Rattle.flat_model.proofs.Above.{value_of_roll}
use Rattle.flat_model.specs.Asks.{Asking, OfNow, OfLast, OfPrevious, OfFirst, OfInterval, Asked, asked, asked_in_level, all_asked}
use Rattle.flat_model.proofs.Asks.{asked_roll, one_itself}
use Rattle.flat_model.specs.Meaning.{Meaning, meaning_of_level, seen_by, value_of, whole_of}
use Rattle.flat_model.specs.Typing.{Types, valued_type, type_of_value, is_value, is_type, typed_if, goes_with, type_of_operator, type_if_all, chain_type, relation_type, if_type, arity, call_type, type_of_level, type_of}

-- a value of the type, or a failure
abbrev pub IsAnswerOf : NameKind → Answer → Type 0
IsAnswerOf type (Is v) = IsOfKind type v
IsAnswerOf type (Fails kind) = Unit {0}
IsAnswerOf type Absent = ⊥

-- what is asked for has a value of the type of its name
abbrev pub IsTypedAt : Types → Views → ℕ → Asking → Type 0
IsTypedAt types views d (OfNow x) = (type : NameKind) → valued_type (types x) ≡ Some type → IsAnswerOf type (read ((views d).now x))
IsTypedAt types views d (OfLast x) = (type : NameKind) → valued_type (types x) ≡ Some type → IsAnswerOf type (read ((views d).last x))
IsTypedAt types views d (OfPrevious x) = (type : NameKind) → valued_type (types x) ≡ Some type → IsAnswerOf type (read ((views d).previous x))
IsTypedAt types views d _ = Unit {0}

abbrev pub AreTypedAt : Types → Asked → Views → Type 0
AreTypedAt types asks views = (d : ℕ) (q : Asking) → 0 < asks d q → IsTypedAt types views d q

-- ---- what tests tell

pub both : (a b : Bool) → (a && b) ≡ true → (a ≡ true) × (b ≡ true)
both true true e = (refl, refl)
both true false e = absurd (false≢true e)
both false b e = absurd (false≢true e)

pub if_some : {A : Type 0} (b : Bool) (o : Option A) (a : A) → (if b then o else None) ≡ Some a → (b ≡ true) × (o ≡ Some a)
if_some true o a e = (refl, e)
if_some false o a e = absurd (none-some a e)

pub typed_some : (b : Bool) (t u : NameKind) → typed_if b t ≡ Some u → (b ≡ true) × (t ≡ u)
typed_some true t u e = (refl, same_Some t u e)
typed_some false t u e = absurd (none-some u e)

pub is_type_some : (type : NameKind) (o : Option NameKind) → is_type type o ≡ true → o ≡ Some type
is_type_some kind.Integer (Some kind.Integer) e = refl
is_type_some kind.Boolean (Some kind.Boolean) e = refl
is_type_some kind.Integer None e = absurd (false≢true e)
is_type_some kind.Integer (Some kind.Boolean) e = absurd (false≢true e)
is_type_some kind.Integer (Some kind.Clock) e = absurd (false≢true e)
is_type_some kind.Boolean None e = absurd (false≢true e)
is_type_some kind.Boolean (Some kind.Integer) e = absurd (false≢true e)
is_type_some kind.Boolean (Some kind.Clock) e = absurd (false≢true e)
is_type_some kind.Clock None e = absurd (false≢true e)
is_type_some kind.Clock (Some kind.Integer) e = absurd (false≢true e)
is_type_some kind.Clock (Some kind.Boolean) e = absurd (false≢true e)
is_type_some kind.Clock (Some kind.Clock) e = absurd (false≢true e)

pub same_number : (m n : ℕ) → m == n ≡ true → m ≡ n
same_number m n e = by_case (eqb_tells m n)
  where
    by_case : ((m == n ≡ true) × (m ≡ n)) ⊎ ((m == n ≡ false) × (m ≡ n → ⊥)) → m ≡ n
    by_case (inl (t, is)) = is
    by_case (inr (f, other)) = absurd (false≢true (sym f ∙ e))

-- ---- operators

-- what fits is itself
exact_if : (b : Bool) (a w : ℤ) → (if b then Ok a else Err TooLarge) ≡ Ok w → (if b then Ok a else Err TooLarge) ≡ Ok a
exact_if true a w e = refl
exact_if false a w e = absurd (clash TooLarge w e)
  where
    clash : (k : Fail) (z : ℤ) → ◌≡◌ {A = Result ℤ Fail} (Err k) (Ok z) → ⊥
    clash k z e = cc

exact : (a w : ℤ) → fitted a ≡ Ok w → fitted a ≡ Ok a
exact (pos n) w e = exact_if (nat_lt n (2 ^ 63)) (pos n) w e
exact (negsuc n) w e = exact_if (nat_lt n (2 ^ 63)) (negsuc n) w e

-- what fits keeps fitting
fits_if : (b : Bool) (a z : ℤ) → fitted a ≡ (if b then Ok a else Err TooLarge) → (if b then Ok a else Err TooLarge) ≡ Ok z → fitted z ≡ Ok z
fits_if true a z is e = subst (λ w. fitted w ≡ Ok w) (same_Ok a z e) is
  where
    same_Ok : (a z : ℤ) → ◌≡◌ {A = Result ℤ Fail} (Ok a) (Ok z) → a ≡ z
    same_Ok a z e = cc
fits_if false a z is e = absurd (clash TooLarge z e)
  where
    clash : (k : Fail) (z : ℤ) → ◌≡◌ {A = Result ℤ Fail} (Err k) (Ok z) → ⊥
    clash k z e = cc

pub fitted_keeps : (a z : ℤ) → fitted a ≡ Ok z → fitted z ≡ Ok z
fitted_keeps (pos n) z e = fits_if (nat_lt n (2 ^ 63)) (pos n) z refl e
fitted_keeps (negsuc n) z e = fits_if (nat_lt n (2 ^ 63)) (negsuc n) z refl e

over_keeps : (b exact z : ℤ) → over b exact ≡ Ok z → fitted z ≡ Ok z
over_keeps (pos zero) exact z e = absurd (clash Divide z e)
  where
    clash : (k : Fail) (z : ℤ) → ◌≡◌ {A = Result ℤ Fail} (Err k) (Ok z) → ⊥
    clash k z e = cc
over_keeps (pos (suc n)) exact z e = fitted_keeps exact z e
over_keeps (negsuc n) exact z e = fitted_keeps exact z e

settled_if : (r : Result ℤ Fail) → ((z : ℤ) → r ≡ Ok z → fitted z ≡ Ok z) → IsAnswerOf kind.Integer (settled r)
settled_if (Ok z) keeps = keeps z refl
settled_if (Err kind) keeps = tt

settled_of : (a : ℤ) → IsAnswerOf kind.Integer (settled (fitted a))
settled_of a = settled_if (fitted a) (fitted_keeps a)

settled_over : (b exact : ℤ) → IsAnswerOf kind.Integer (settled (over b exact))
settled_over b exact = settled_if (over b exact) (over_keeps b exact)

on_integers : (op : ChainOp) (a b : ℤ) → type_of_operator op ≡ Some kind.Integer → IsAnswerOf kind.Integer (applied op (value.Int a) (value.Int b))
on_integers Plus a b e = settled_of (a +ℤ b)
on_integers Minus a b e = settled_of (a -ℤ b)
on_integers Times a b e = settled_of (a *ℤ b)
on_integers Over a b e = absurd (none-some kind.Integer e)
on_integers And a b e = absurd cc
on_integers Or a b e = absurd cc

on_booleans : (op : ChainOp) (a b : Bool) → type_of_operator op ≡ Some kind.Boolean → IsAnswerOf kind.Boolean (applied op (value.Bool a) (value.Bool b))
on_booleans Plus a b e = absurd cc
on_booleans Minus a b e = absurd cc
on_booleans Times a b e = absurd cc
on_booleans Over a b e = absurd (none-some kind.Boolean e)
on_booleans And a b e = tt
on_booleans Or a b e = tt

applied_of : (type : NameKind) (op : ChainOp) (a b : Value) → type_of_operator op ≡ Some type → IsOfKind type a → IsOfKind type b → IsAnswerOf type (applied op a b)
applied_of kind.Integer op (value.Int a) (value.Int b) e h k = on_integers op a b e
applied_of kind.Integer op (value.Int a) (value.Bool b) e h k = absurd k
applied_of kind.Integer op (value.Bool a) b e h k = absurd h
applied_of kind.Boolean op (value.Bool a) (value.Bool b) e h k = on_booleans op a b e
applied_of kind.Boolean op (value.Bool a) (value.Int b) e h k = absurd k
applied_of kind.Boolean op (value.Int a) b e h k = absurd h
applied_of kind.Clock op (value.Int a) b e h k = absurd h
applied_of kind.Clock op (value.Bool a) b e h k = absurd h

-- with a part that is evaluated
evaluated_of : (type : NameKind) (op : ChainOp) (a : Value) (b : Answer) → type_of_operator op ≡ Some type → IsOfKind type a → IsAnswerOf type b
    → ((w : Value) → joined op (Is a) (Is w) ≡ applied op a w) → ((kind : Fail) → joined op (Is a) (Fails kind) ≡ Fails kind) → IsAnswerOf type (joined op (Is a) b)
evaluated_of type op a (Is w) e h k values fails = subst (IsAnswerOf type) (sym (values w)) (applied_of type op a w e h k)
evaluated_of type op a (Fails kind) e h k values fails = subst (IsAnswerOf type) (sym (fails kind)) tt
evaluated_of type op a Absent e h k values fails = absurd k

joined_value : (type : NameKind) (op : ChainOp) (a : Value) (b : Answer) → type_of_operator op ≡ Some type → IsOfKind type a → IsAnswerOf type b → IsAnswerOf type (joined op (Is a) b)
joined_value type Plus a b e h k = evaluated_of type Plus a b e h k (λ w. refl) (λ q. refl)
joined_value type Minus a b e h k = evaluated_of type Minus a b e h k (λ w. refl) (λ q. refl)
joined_value type Times a b e h k = evaluated_of type Times a b e h k (λ w. refl) (λ q. refl)
joined_value type Over a b e h k = evaluated_of type Over a b e h k (λ w. refl) (λ q. refl)
joined_value type And (value.Bool false) b e h k = h
joined_value type And (value.Bool true) b e h k = evaluated_of type And (value.Bool true) b e h k (λ w. refl) (λ q. refl)
joined_value type And (value.Int z) b e h k = evaluated_of type And (value.Int z) b e h k (λ w. refl) (λ q. refl)
joined_value type Or (value.Bool true) b e h k = h
joined_value type Or (value.Bool false) b e h k = evaluated_of type Or (value.Bool false) b e h k (λ w. refl) (λ q. refl)
joined_value type Or (value.Int z) b e h k = evaluated_of type Or (value.Int z) b e h k (λ w. refl) (λ q. refl)

joined_fails : (type : NameKind) (op : ChainOp) (q : Fail) (b : Answer) → IsAnswerOf type (joined op (Fails q) b)
joined_fails type Plus q b = tt
joined_fails type Minus q b = tt
joined_fails type Times q b = tt
joined_fails type Over q b = tt
joined_fails type And q b = tt
joined_fails type Or q b = tt

joined_of : (type : NameKind) (op : ChainOp) (a b : Answer) → type_of_operator op ≡ Some type → IsAnswerOf type a → IsAnswerOf type b → IsAnswerOf type (joined op a b)
joined_of type op (Is v) b e h k = joined_value type op v b e h k
joined_of type op (Fails q) b e h k = joined_fails type op q b
joined_of type op Absent b e h k = absurd h

abbrev AllOf : NameKind → List Answer → Type 0
AllOf type [] = Unit {0}
AllOf type (a ∷ rest) = IsAnswerOf type a × AllOf type rest

abbrev OperateOn : NameKind → List ChainOp → Type 0
OperateOn type [] = Unit {0}
OperateOn type (op ∷ ops) = (type_of_operator op ≡ Some type) × OperateOn type ops

chained_of : (type : NameKind) (a : Answer) (ops : List ChainOp) (parts : List Answer) → IsAnswerOf type a → OperateOn type ops → AllOf type parts → IsAnswerOf type (chained a ops parts)
chained_of type a [] parts h k l = h
chained_of type a (op ∷ ops) [] h k l = h
chained_of type a (op ∷ ops) (part ∷ parts) h k l = chained_of type (joined op a part) ops parts (joined_of type op a part k.0 h l.0) k.1 l.1

same_operator : (op q : ChainOp) → goes_with op q ≡ true → type_of_operator q ≡ type_of_operator op
same_operator Plus Plus e = refl
same_operator Plus Minus e = refl
same_operator Minus Plus e = refl
same_operator Minus Minus e = refl
same_operator Times Times e = refl
same_operator And And e = refl
same_operator Or Or e = refl
same_operator op q e = absurd (false≢true e)

same_operators : (op : ChainOp) (type : NameKind) (ops : List ChainOp) → type_of_operator op ≡ Some type → list_all (goes_with op) ops ≡ true → OperateOn type ops
same_operators op type [] is all = tt
same_operators op type (q ∷ ops) is all = let two = both (goes_with op q) _ all in (same_operator op q two.0 ∙ is, same_operators op type ops is two.1)

-- a chain with parts of one type, and the type itself
pub record IsTypedChain (parts : List (Option NameKind)) (op : ChainOp) (ops : List ChainOp) (type : NameKind) : Type 0 where
  pub operator : type_of_operator op ≡ Some type
  pub operators : OperateOn type ops
  pub parts_are : list_all (is_type type) parts ≡ true
  pub long : length parts ≡ length ops + 2

typed_chain : (parts : List (Option NameKind)) (op : ChainOp) (ops : List ChainOp) (type : NameKind) → chain_type parts (op ∷ ops) ≡ Some type → IsTypedChain parts op ops type
typed_chain parts op ops type e =
    let two = if_some (length parts == length ops + 2 && list_all (goes_with op) ops) (type_if_all (type_of_operator op) parts) type e in
    let tests = both (length parts == length ops + 2) (list_all (goes_with op) ops) two.0 in
    next (type_of_operator op) refl two.1 (same_number _ _ tests.0) tests.1
  where
    next : (o : Option NameKind) → type_of_operator op ≡ o → type_if_all o parts ≡ Some type → length parts ≡ length ops + 2 → list_all (goes_with op) ops ≡ true → IsTypedChain parts op ops type
    next None is e long all = absurd (none-some type e)
    next (Some t) is e long all =
        let of = typed_some (list_all (is_type t) parts) t type e in record {
          operator = is ∙ ap Some of.1;
          operators = same_operators op type ops (is ∙ ap Some of.1) all;
          parts_are = subst (λ u. list_all (is_type u) parts ≡ true) of.1 of.0;
          long = long;
        }

chain_of : (type : NameKind) (op : ChainOp) (ops : List ChainOp) (parts : List Answer) → type_of_operator op ≡ Some type → OperateOn type ops → length parts ≡ length ops + 2 → AllOf type parts
    → IsAnswerOf type (chain (op ∷ ops) parts)
chain_of type op ops [] is all long h = absurd (omega (arith, long))
chain_of type op ops (part ∷ parts) is all long h = chained_of type part (op ∷ ops) parts h.0 (is, all) h.1

negated_of : (a : Answer) → IsAnswerOf kind.Integer a → IsAnswerOf kind.Integer (negated a)
negated_of (Is (value.Int z)) h = settled_of (neg_ℤ z)
negated_of (Is (value.Bool b)) h = absurd h
negated_of (Fails kind) h = tt
negated_of Absent h = absurd h

inverted_of : (a : Answer) → IsAnswerOf kind.Boolean a → IsAnswerOf kind.Boolean (inverted a)
inverted_of (Is (value.Bool b)) h = tt
inverted_of (Is (value.Int z)) h = absurd h
inverted_of (Fails kind) h = tt
inverted_of Absent h = absurd h

compared_of : (rel : Rel) (type : NameKind) (a b : Value) → IsOfKind type a → IsOfKind type b → IsAnswerOf kind.Boolean (compared rel a b)
compared_of rel kind.Integer (value.Int a) (value.Int b) h k = tt
compared_of rel kind.Integer (value.Int a) (value.Bool b) h k = absurd k
compared_of rel kind.Integer (value.Bool a) b h k = absurd h
compared_of rel kind.Boolean (value.Bool a) (value.Bool b) h k = tt
compared_of rel kind.Boolean (value.Bool a) (value.Int b) h k = absurd k
compared_of rel kind.Boolean (value.Int a) b h k = absurd h
compared_of rel kind.Clock (value.Int a) b h k = absurd h
compared_of rel kind.Clock (value.Bool a) b h k = absurd h

relation_of : (rel : Rel) (type : NameKind) (a b : Answer) → IsAnswerOf type a → IsAnswerOf type b → IsAnswerOf kind.Boolean (relation rel a b)
relation_of rel type (Is a) (Is b) h k = compared_of rel type a b h k
relation_of rel type (Is a) (Fails q) h k = tt
relation_of rel type (Is a) Absent h k = absurd k
relation_of rel type (Fails q) b h k = tt
relation_of rel type Absent b h k = absurd h

chosen_of : (type : NameKind) (conditions branches : List Answer) (other : Answer) → length branches ≡ length conditions → AllOf kind.Boolean conditions → AllOf type branches → IsAnswerOf type other
    → IsAnswerOf type (chosen conditions branches other)
chosen_of type [] branches other long h k l = l
chosen_of type (Is (value.Bool true) ∷ cs) [] other long h k l = absurd (omega (arith, long))
chosen_of type (Is (value.Bool true) ∷ cs) (b ∷ bs) other long h k l = k.0
chosen_of type (Is (value.Bool false) ∷ cs) [] other long h k l = absurd (omega (arith, long))
chosen_of type (Is (value.Bool false) ∷ cs) (b ∷ bs) other long h k l = chosen_of type cs bs other (omega (arith, long)) h.1 k.1 l
chosen_of type (Is (value.Int z) ∷ cs) bs other long h k l = absurd h.0
chosen_of type (Fails q ∷ cs) bs other long h k l = tt
chosen_of type (Absent ∷ cs) bs other long h k l = absurd h.0

with_one : (function : Fun) (a : ℤ) → 1 ≡ arity function → IsAnswerOf kind.Integer (called_with_one function a)
with_one Abs a e = settled_of (magnitude a)
with_one Div a e = absurd (omega (arith, e))
with_one Mod a e = absurd (omega (arith, e))
with_one Rem a e = absurd (omega (arith, e))
with_one Min a e = absurd (omega (arith, e))
with_one Max a e = absurd (omega (arith, e))

with_two : (function : Fun) (a b : ℤ) → 2 ≡ arity function → fitted a ≡ Ok a → fitted b ≡ Ok b → IsAnswerOf kind.Integer (called_with_two function a b)
with_two Abs a b e h k = absurd (omega (arith, e))
with_two Div a b e h k = settled_over b _
with_two Mod a b e h k = settled_over b _
with_two Rem a b e h k = settled_over b _
with_two Min a b e h k = either (int_le a b)
  where
    either : (c : Bool) → fitted (if c then a else b) ≡ Ok (if c then a else b)
    either true = h
    either false = k
with_two Max a b e h k = either (int_le a b)
  where
    either : (c : Bool) → fitted (if c then b else a) ≡ Ok (if c then b else a)
    either true = k
    either false = h

arity_within : (function : Fun) (n : ℕ) → n ≡ arity function → ((n ≡ 1) ⊎ (n ≡ 2))
arity_within Abs n e = inl e
arity_within Div n e = inr e
arity_within Mod n e = inr e
arity_within Rem n e = inr e
arity_within Min n e = inr e
arity_within Max n e = inr e

called_of : (function : Fun) (parts : List Answer) → length parts ≡ arity function → AllOf kind.Integer parts → IsAnswerOf kind.Integer (called function parts)
called_of function [] long h = elim (arity_within function 0 long) [ inl e ↦ absurd (omega (arith, e)) | inr e ↦ absurd (omega (arith, e)) ]
called_of function (Is (value.Int a) ∷ []) long h = with_one function a (let one : 1 ≡ suc 0 = omega arith in one ∙ long)
called_of function (Is (value.Int a) ∷ (Is (value.Int b) ∷ [])) long h = with_two function a b (let two : 2 ≡ suc (suc 0) = omega arith in two ∙ long) h.0 h.1.0
called_of function (Is (value.Int a) ∷ (Is (value.Int b) ∷ (c ∷ rest))) long h = elim (arity_within function _ long) [ inl e ↦ absurd (omega (arith, e)) | inr e ↦ absurd (omega (arith, e)) ]
called_of function (Is (value.Int a) ∷ (Is (value.Bool b) ∷ rest)) long h = absurd h.1.0
called_of function (Is (value.Int a) ∷ (Fails q ∷ rest)) long h = tt
called_of function (Is (value.Int a) ∷ (Absent ∷ rest)) long h = absurd h.1.0
called_of function (Is (value.Bool a) ∷ rest) long h = absurd h.0
called_of function (Fails q ∷ rest) long h = tt
called_of function (Absent ∷ rest) long h = absurd h.0

-- ---- one level

module _ (types : Types) where
  abbrev Sound : Expr → Type 0
  Sound e = (type : NameKind) (views : Views) → AreTypedAt types (asked e) views → type_of types e ≡ Some type → IsAnswerOf type (value_of e views)

  abbrev AllSound : List Expr → Type 0
  AllSound [] = Unit {0}
  AllSound (e ∷ es) = Sound e × AllSound es

  all_of : (type : NameKind) (views : Views) (es : List Expr) → AllSound es → AreTypedAt types (all_asked (map asked es)) views → list_all (is_type type) (map (type_of types) es) ≡ true → AllOf type (seen_by views (map value_of es))
  all_of type views [] sound seen typed = tt
  all_of type views (e ∷ es) sound seen typed =
      let t = both (is_type type (type_of types e)) _ typed in
      (sound.0 type views (λ d q some. seen d q (omega (arith, some))) (is_type_some type _ t.0), all_of type views es sound.1 (λ d q some. seen d q (omega (arith, some))) t.1)

  length_seen : (views : Views) (es : List Expr) → length (seen_by views (map value_of es)) ≡ length (map (type_of types) es)
  length_seen views [] = refl
  length_seen views (e ∷ es) = ap suc (length_seen views es)

  chain_sound : (type : NameKind) (views : Views) (es : List Expr) (ops : List ChainOp) → AllSound es → AreTypedAt types (all_asked (map asked es)) views → chain_type (map (type_of types) es) ops ≡ Some type
      → IsAnswerOf type (chain ops (seen_by views (map value_of es)))
  chain_sound type views es [] sound seen typed = absurd (none-some type typed)
  chain_sound type views es (op ∷ ops) sound seen typed =
      let is = typed_chain (map (type_of types) es) op ops type typed in
      chain_of type op ops (seen_by views (map value_of es)) is.operator is.operators (length_seen views es ∙ is.long) (all_of type views es sound seen is.parts_are)

  relation_sound : (rel : Rel) (type : NameKind) (views : Views) (left right : Expr) (o : Option NameKind) → Sound left → Sound right → type_of types left ≡ o → AreTypedAt types (asked left) views → AreTypedAt types (asked right) views
      → relation_type o (type_of types right) ≡ Some type → IsAnswerOf type (relation rel (value_of left views) (value_of right views))
  relation_sound rel type views left right None a b is p q typed = absurd (none-some type typed)
  relation_sound rel type views left right (Some t) a b is p q typed =
      let of = typed_some (is_type t (type_of types right)) kind.Boolean type typed in
      subst (λ u. IsAnswerOf u (relation rel (value_of left views) (value_of right views))) of.1 (relation_of rel t _ _ (a t views p is) (b t views q (is_type_some t _ of.0)))

  if_sound : (type : NameKind) (views : Views) (cs bs : List Expr) (other : Expr) (o : Option NameKind) → AllSound cs → AllSound bs → Sound other → type_of types other ≡ o
      → AreTypedAt types (all_asked (map asked cs)) views → AreTypedAt types (all_asked (map asked bs)) views → AreTypedAt types (asked other) views
      → if_type (map (type_of types) cs) (map (type_of types) bs) o ≡ Some type
      → IsAnswerOf type (chosen (seen_by views (map value_of cs)) (seen_by views (map value_of bs)) (value_of other views))
  if_sound type views cs bs other None a b c is p q r typed = absurd (none-some type typed)
  if_sound type views cs bs other (Some t) a b c is p q r typed =
      let of = typed_some _ t type typed in
      let one = both _ (list_all (is_type t) (map (type_of types) bs)) of.0 in
      let two = both _ (list_all (is_type kind.Boolean) (map (type_of types) cs)) one.0 in
      let three = both _ (length (map (type_of types) bs) == length (map (type_of types) cs)) two.0 in
      subst (λ u. IsAnswerOf u (chosen (seen_by views (map value_of cs)) (seen_by views (map value_of bs)) (value_of other views))) of.1
      (chosen_of t _ _ _ (length_seen views bs ∙ same_number _ _ three.1 ∙ sym (length_seen views cs)) (all_of kind.Boolean views cs a p two.1) (all_of t views bs b q one.1) (c t views r is))

  call_sound : (function : Fun) (type : NameKind) (views : Views) (es : List Expr) → AllSound es → AreTypedAt types (all_asked (map asked es)) views → call_type function (map (type_of types) es) ≡ Some type
      → IsAnswerOf type (called function (seen_by views (map value_of es)))
  call_sound function type views es sound seen typed =
      let of = typed_some _ kind.Integer type typed in
      let two = both (length (map (type_of types) es) == arity function) _ of.0 in
      subst (λ u. IsAnswerOf u (called function (seen_by views (map value_of es)))) of.1
      (called_of function _ (length_seen views es ∙ same_number _ _ two.0) (all_of kind.Integer views es sound seen two.1))

  own_type : (v : Value) → is_value v ≡ true → IsOfKind (type_of_value v) v
  own_type (value.Int z) is = by_result (fitted z) refl is
    where
      by_result : (r : Result ℤ Fail) → fitted z ≡ r → is_ok r ≡ true → fitted z ≡ Ok z
      by_result (Ok w) e t = exact z w e
      by_result (Err k) e t = absurd (false≢true t)
  own_type (value.Bool b) is = tt

  back_typed : (views : Views) (d : ℕ) (q : Asking) → IsTypedAt types views (suc d) q → IsTypedAt types (before views) d q
  back_typed views d q h = moved q (subst (λ k. IsTypedAt types views k q) (let e : suc d ≡ d + 1 = omega arith in e) h)
    where
      moved : (q : Asking) → IsTypedAt types views (d + 1) q → IsTypedAt types (before views) d q
      moved (OfNow x) h = h
      moved (OfLast x) h = h
      moved (OfPrevious x) h = h
      moved OfFirst h = h
      moved OfInterval h = h

  module _ {A B : Type 0} (f : A → ClockExpr) (g : B → Expr) (all : (b : B) → Sound (g b)) where
    parts_sound : (ps : List B) → AllSound (map g ps)
    parts_sound [] = tt
    parts_sound (p ∷ ps) = (all p, parts_sound ps)

    level_sound : (y : Expr-F A B) (type : NameKind) (views : Views)
        → AreTypedAt types (asked_in_level (map-Expr ClockExpr Expr (Unit {0}) Asked (λ _. tt) asked (map-Expr A B ClockExpr Expr f g y))) views
        → type_of_level types (map-Expr ClockExpr Expr (Unit {0}) (Option NameKind) (λ _. tt) (type_of types) (map-Expr A B ClockExpr Expr f g y)) ≡ Some type
        → IsAnswerOf type (meaning_of_level (map-Expr ClockExpr Expr (Unit {0}) Meaning (λ _. tt) value_of (map-Expr A B ClockExpr Expr f g y)) views)
    level_sound (Expr-F.Const v) type views seen typed = let of = typed_some (is_value v) (type_of_value v) type typed in subst (λ t. IsOfKind t v) of.1 (own_type v of.0)
    level_sound (Expr-F.Read x) type views seen typed = seen 0 (OfNow x) (one_itself x) type typed
    level_sound (Expr-F.Chain ps ops) type views seen typed = chain_sound type views (map g ps) ops (parts_sound ps) seen typed
    level_sound (Expr-F.Relation rel a b) type views seen typed =
        relation_sound rel type views (g a) (g b) (type_of types (g a)) (all a) (all b) refl (λ d q some. seen d q (omega (arith, some))) (λ d q some. seen d q (omega (arith, some))) typed
    level_sound (Expr-F.Neg a) type views seen typed =
        let of = typed_some (is_type kind.Integer (type_of types (g a))) kind.Integer type typed in
        subst (λ t. IsAnswerOf t (negated (value_of (g a) views))) of.1 (negated_of _ (all a kind.Integer views seen (is_type_some kind.Integer _ of.0)))
    level_sound (Expr-F.Not a) type views seen typed =
        let of = typed_some (is_type kind.Boolean (type_of types (g a))) kind.Boolean type typed in
        subst (λ t. IsAnswerOf t (inverted (value_of (g a) views))) of.1 (inverted_of _ (all a kind.Boolean views seen (is_type_some kind.Boolean _ of.0)))
    level_sound (Expr-F.If cs bs other) type views seen typed =
        if_sound type views (map g cs) (map g bs) (g other) (type_of types (g other)) (parts_sound cs) (parts_sound bs) (all other) refl
        (λ d q some. seen d q (omega (arith, some))) (λ d q some. seen d q (omega (arith, some))) (λ d q some. seen d q (omega (arith, some))) typed
    level_sound (Expr-F.Apply function ps) type views seen typed = call_sound function type views (map g ps) (parts_sound ps) seen typed
    level_sound (Expr-F.Previous x) type views seen typed = seen 0 (OfPrevious x) (one_itself x) type typed
    level_sound (Expr-F.FirstTick x) type views seen typed = subst (λ t. IsOfKind t (value.Bool (views 0).first)) (same_Some kind.Boolean type typed) tt
    level_sound (Expr-F.IntervalTimes x k) type views seen typed = subst (λ t. IsAnswerOf t (settled (fitted (whole_of (views 0).interval k)))) (same_Some kind.Integer type typed) (settled_of (whole_of (views 0).interval k))
    level_sound (Expr-F.Hold x) type views seen typed = seen 0 (OfLast x) (one_itself x) type typed
    level_sound (Expr-F.«Expr::Convert» conversion x) type views seen typed = seen 0 (OfLast x) (one_itself x) type typed
    level_sound (Expr-F.Sample a clock) type views seen typed = all a type (before views) (λ d q some. back_typed views d q (seen (suc d) q some)) typed

  type_of_roll : (y : Expr-F ClockExpr Expr) → type_of types (roll-Expr y) ≡ type_of_level types (map-Expr ClockExpr Expr (Unit {0}) (Option NameKind) (λ _. tt) (type_of types) y)
  unfolding type_of
  type_of_roll y = fold-roll-Expr (Unit {0}) (Option NameKind) (λ _. tt) (type_of_level types) y

  rolled : {A B : Type 0} (f : A → ClockExpr) (g : B → Expr) → ((b : B) → Sound (g b)) → (y : Expr-F A B) → Sound (roll-Expr (map-Expr A B ClockExpr Expr f g y))
  rolled {A = A} {B = B} f g all y type views seen typed =
      let z = map-Expr A B ClockExpr Expr f g y in
      subst (IsAnswerOf type) (sym (value_of_roll z views)) (level_sound f g all y type views (λ d q some. seen d q (subst (λ n. 0 < n) (sym (asked_roll z d q)) some)) (sym (type_of_roll z) ∙ typed))

  -- a typed expression has a value of its type or fails, where what it asks for has values of their types
  pub typed_value : (e : Expr) (type : NameKind) (views : Views) → AreTypedAt types (asked e) views → type_of types e ≡ Some type → IsAnswerOf type (value_of e views)
  typed_value = ind-Expr (λ c. Unit {0}) Sound (λ x y is. tt) (λ x y is. subst (λ z. Sound (roll-Expr z)) is (rolled (λ c. c.0) (λ e. e.0) (λ e. e.1) y))
