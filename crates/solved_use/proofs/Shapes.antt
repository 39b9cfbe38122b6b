-- Answers of a shape, Integer or Boolean, whatever their size; and chains of them.
use Rattle.std.proofs.Common.{◌≡◌, refl, ap, sym, subst, ◌∙◌, ◌+◌, ◌==◌, ◌&&◌, Bool, true, false, List, [], ◌∷◌, length, Option, Some, None, ℤ, ◌+ℤ◌, ◌-ℤ◌, ◌*ℤ◌, Result, Ok, Err}
use Rattle.std.specs.List.{list_all}
use Rattle.std.proofs.lemmas.Bool.{false≢true}
use Rattle.std.proofs.lemmas.Option.{none-some}
use Rattle.sync_values.specs.Arithmetic.{fitted}
use Rattle.sync_values.specs.declared.value.Value.{Value}
use Rattle.sync_values.specs.declared.value.Value.TheVariants as value
use Rattle.sync_values.specs.declared.value.Fail.{Fail}
use Rattle.sync_values.specs.declared.value.ChainOp.{ChainOp}
use Rattle.sync_values.specs.declared.value.ChainOp.TheVariants.{Plus, Minus, Times, Over, And, Or}
use Rattle.flat_model.specs.declared.model.NameKind.{NameKind}
use Rattle.flat_model.specs.declared.model.NameKind.TheVariants as kind
use Rattle.flat_model.specs.Assignment.{IsOfKind}
use Rattle.flat_model.specs.Operators.{Answer, Is, Fails, Absent, settled, applied, joined, chained}
use Rattle.flat_model.specs.Typing.{is_type, goes_with, type_of_operator, type_if_all, chain_type}
use Rattle.flat_model.proofs.Typed.{IsAnswerOf, both, if_some, typed_some, same_number}

-- a number or a truth value
abbrev pub Shape : NameKind → Value → Type 0
Shape kind.Integer (value.Int z) = Unit {0}
Shape kind.Boolean (value.Bool b) = Unit {0}
Shape _ _ = ⊥

abbrev pub HasShape : NameKind → Answer → Type 0
HasShape type (Is v) = Shape type v
HasShape type (Fails kind) = Unit {0}
HasShape type Absent = ⊥

pub value_shape : (type : NameKind) (v : Value) → IsOfKind type v → Shape type v
value_shape kind.Integer (value.Int z) h = tt
value_shape kind.Integer (value.Bool b) h = absurd h
value_shape kind.Boolean (value.Bool b) h = tt
value_shape kind.Boolean (value.Int z) h = absurd h
value_shape kind.Clock (value.Int z) h = absurd h
value_shape kind.Clock (value.Bool b) h = absurd h

pub answer_shape : (type : NameKind) (a : Answer) → IsAnswerOf type a → HasShape type a
answer_shape type (Is v) h = value_shape type v h
answer_shape type (Fails kind) h = tt
answer_shape type Absent h = absurd h

is_absent : (v : Value) → Is v ≡ Absent → ⊥
is_absent v e = cc

fails_absent : (kind : Fail) → Fails kind ≡ Absent → ⊥
fails_absent kind e = cc

-- an answer of a shape is there
pub present_shape : (type : NameKind) (a : Answer) → HasShape type a → a ≡ Absent → ⊥
present_shape type (Is v) h e = is_absent v e
present_shape type (Fails kind) h e = fails_absent kind e
present_shape type Absent h e = absurd h

settled_shape : (r : Result ℤ Fail) → HasShape kind.Integer (settled r)
settled_shape (Ok z) = tt
settled_shape (Err kind) = tt

on_integers : (op : ChainOp) (a b : ℤ) → type_of_operator op ≡ Some kind.Integer → HasShape kind.Integer (applied op (value.Int a) (value.Int b))
on_integers Plus a b e = settled_shape (fitted (a +ℤ b))
on_integers Minus a b e = settled_shape (fitted (a -ℤ b))
on_integers Times a b e = settled_shape (fitted (a *ℤ b))
on_integers Over a b e = absurd (none-some kind.Integer e)
on_integers And a b e = absurd cc
on_integers Or a b e = absurd cc

on_booleans : (op : ChainOp) (a b : Bool) → type_of_operator op ≡ Some kind.Boolean → HasShape kind.Boolean (applied op (value.Bool a) (value.Bool b))
on_booleans Plus a b e = absurd cc
on_booleans Minus a b e = absurd cc
on_booleans Times a b e = absurd cc
on_booleans Over a b e = absurd (none-some kind.Boolean e)
on_booleans And a b e = tt
on_booleans Or a b e = tt

applied_of : (type : NameKind) (op : ChainOp) (a b : Value) → type_of_operator op ≡ Some type → Shape type a → Shape type b → HasShape type (applied op a b)
applied_of kind.Integer op (value.Int a) (value.Int b) e h k = on_integers op a b e
applied_of kind.Integer op (value.Int a) (value.Bool b) e h k = absurd k
applied_of kind.Integer op (value.Bool a) b e h k = absurd h
applied_of kind.Boolean op (value.Bool a) (value.Bool b) e h k = on_booleans op a b e
applied_of kind.Boolean op (value.Bool a) (value.Int b) e h k = absurd k
applied_of kind.Boolean op (value.Int a) b e h k = absurd h
applied_of kind.Clock op (value.Int a) b e h k = absurd h
applied_of kind.Clock op (value.Bool a) b e h k = absurd h

-- with a part that is evaluated
evaluated_of : (type : NameKind) (op : ChainOp) (a : Value) (b : Answer) → type_of_operator op ≡ Some type → Shape type a → HasShape type b
    → ((w : Value) → joined op (Is a) (Is w) ≡ applied op a w) → ((kind : Fail) → joined op (Is a) (Fails kind) ≡ Fails kind) → HasShape type (joined op (Is a) b)
evaluated_of type op a (Is w) e h k values fails = subst (HasShape type) (sym (values w)) (applied_of type op a w e h k)
evaluated_of type op a (Fails kind) e h k values fails = subst (HasShape type) (sym (fails kind)) tt
evaluated_of type op a Absent e h k values fails = absurd k

joined_value : (type : NameKind) (op : ChainOp) (a : Value) (b : Answer) → type_of_operator op ≡ Some type → Shape type a → HasShape type b → HasShape type (joined op (Is a) b)
joined_value type Plus a b e h k = evaluated_of type Plus a b e h k (λ w. refl) (λ q. refl)
joined_value type Minus a b e h k = evaluated_of type Minus a b e h k (λ w. refl) (λ q. refl)
joined_value type Times a b e h k = evaluated_of type Times a b e h k (λ w. refl) (λ q. refl)
joined_value type Over a b e h k = evaluated_of type Over a b e h k (λ w. refl) (λ q. refl)
joined_value type And (value.Bool false) b e h k = h
joined_value type And (value.Bool true) b e h k = evaluated_of type And (value.Bool true) b e h k (λ w. refl) (λ q. refl)
joined_value type And (value.Int z) b e h k = evaluated_of type And (value.Int z) b e h k (λ w. refl) (λ q. refl)
joined_value type Or (value.Bool true) b e h k = h
joined_value type Or (value.Bool false) b e h k = evaluated_of type Or (value.Bool false) b e h k (λ w. refl) (λ q. refl)
joined_value type Or (value.Int z) b e h k = evaluated_of type Or (value.Int z) b e h k (λ w. refl) (λ q. refl)

joined_fails : (type : NameKind) (op : ChainOp) (q : Fail) (b : Answer) → HasShape type (joined op (Fails q) b)
joined_fails type Plus q b = tt
joined_fails type Minus q b = tt
joined_fails type Times q b = tt
joined_fails type Over q b = tt
joined_fails type And q b = tt
joined_fails type Or q b = tt

joined_of : (type : NameKind) (op : ChainOp) (a b : Answer) → type_of_operator op ≡ Some type → HasShape type a → HasShape type b → HasShape type (joined op a b)
joined_of type op (Is v) b e h k = joined_value type op v b e h k
joined_of type op (Fails q) b e h k = joined_fails type op q b
joined_of type op Absent b e h k = absurd h

abbrev pub AllOf : NameKind → List Answer → Type 0
AllOf type [] = Unit {0}
AllOf type (a ∷ rest) = HasShape type a × AllOf type rest

abbrev pub OperateOn : NameKind → List ChainOp → Type 0
OperateOn type [] = Unit {0}
OperateOn type (op ∷ ops) = (type_of_operator op ≡ Some type) × OperateOn type ops

pub chained_of : (type : NameKind) (a : Answer) (ops : List ChainOp) (parts : List Answer) → HasShape type a → OperateOn type ops → AllOf type parts → HasShape type (chained a ops parts)
chained_of type a [] parts h k l = h
chained_of type a (op ∷ ops) [] h k l = h
chained_of type a (op ∷ ops) (part ∷ parts) h k l = chained_of type (joined op a part) ops parts (joined_of type op a part k.0 h l.0) k.1 l.1

same_operator : (op q : ChainOp) → goes_with op q ≡ true → type_of_operator q ≡ type_of_operator op
same_operator Plus Plus e = refl
same_operator Plus Minus e = refl
same_operator Minus Plus e = refl
same_operator Minus Minus e = refl
same_operator Times Times e = refl
same_operator And And e = refl
same_operator Or Or e = refl
same_operator op q e = absurd (false≢true e)

same_operators : (op : ChainOp) (type : NameKind) (ops : List ChainOp) → type_of_operator op ≡ Some type → list_all (goes_with op) ops ≡ true → OperateOn type ops
same_operators op type [] is all = tt
same_operators op type (q ∷ ops) is all = let two = both (goes_with op q) _ all in (same_operator op q two.0 ∙ is, same_operators op type ops is two.1)

-- a chain with parts of one type, and the type itself
pub record IsTypedChain (parts : List (Option NameKind)) (op : ChainOp) (ops : List ChainOp) (type : NameKind) : Type 0 where
  pub operator : type_of_operator op ≡ Some type
  pub operators : OperateOn type ops
  pub parts_are : list_all (is_type type) parts ≡ true
  pub long : length parts ≡ length ops + 2

pub typed_chain : (parts : List (Option NameKind)) (op : ChainOp) (ops : List ChainOp) (type : NameKind) → chain_type parts (op ∷ ops) ≡ Some type → IsTypedChain parts op ops type
typed_chain parts op ops type e =
    let two = if_some (length parts == length ops + 2 && list_all (goes_with op) ops) (type_if_all (type_of_operator op) parts) type e in
    let tests = both (length parts == length ops + 2) (list_all (goes_with op) ops) two.0 in
    next (type_of_operator op) refl two.1 (same_number _ _ tests.0) tests.1
  where
    next : (o : Option NameKind) → type_of_operator op ≡ o → type_if_all o parts ≡ Some type → length parts ≡ length ops + 2 → list_all (goes_with op) ops ≡ true → IsTypedChain parts op ops type
    next None is e long all = absurd (none-some type e)
    next (Some t) is e long all =
        let of = typed_some (list_all (is_type t) parts) t type e in record {
          operator = is ∙ ap Some of.1;
          operators = same_operators op type ops (is ∙ ap Some of.1) all;
          parts_are = subst (λ u. list_all (is_type u) parts ≡ true) of.1 of.0;
          long = long;
        }
