-- Operators and functions give values where their parts are values.
use Rattle.std.proofs.Common.{◌≡◌, refl, subst, sym, ap, ◌∙◌, ℕ, zero, suc, ℤ, pos, negsuc, ◌+ℤ◌, ◌-ℤ◌, ◌*ℤ◌, neg_ℤ, ◌^◌, nat_lt, int_le, Bool, true, false, List, [], ◌∷◌, Option, Some, None, Result, Ok, Err, is_ok, if◌then◌else◌}
use Rattle.sync_values.specs.Arithmetic.{fitted, over, lesser, greater, magnitude}
use Rattle.sync_values.specs.declared.value.Value.{Value}
use Rattle.sync_values.specs.declared.value.Value.TheVariants as value
use Rattle.sync_values.specs.declared.value.ChainOp.{ChainOp}
use Rattle.sync_values.specs.declared.value.ChainOp.TheVariants.{Plus, Minus, Times, Over, And, Or}
use Rattle.sync_values.specs.declared.value.Fail.TheVariants.{TooLarge}
use Rattle.sync_values.specs.declared.value.Rel.{Rel}
use Rattle.flat_model.specs.declared.expression.Fun.{Fun}
use Rattle.flat_model.specs.declared.expression.Fun.TheVariants.{Div, Mod, Rem, Abs, Min, Max}
use Rattle.flat_model.specs.Functions.{called_with_one, called_with_two, called}
use Rattle.flat_model.specs.Operators.{Answer, Is, Fails, Absent, settled, read, applied, joined, chained, chain, negated, inverted, compared, relation, chosen}
use Rattle.flat_model.specs.Typing.{is_value}
use Rattle.parameter_values.specs.Values.{called_by}
use Rattle.parameter_values.proofs.Larger.{joined_absent, joined_fails}
use Rattle.flat_limits.proofs.Spelled.{Every, Maybe}
use Rattle.flat_limits.proofs.Tokens.{IsValue}

-- what is given is a value
abbrev pub Fits : Answer → Type 0
Fits (Is v) = IsValue v
Fits (Fails kind) = Unit {0}
Fits Absent = Unit {0}

positive : (n : ℕ) (b : Bool) → nat_lt n (2 ^ 63) ≡ b → Fits (settled (if b then Ok (pos n) else Err TooLarge))
positive n true less = ap (λ b. is_ok (if b then Ok (pos n) else Err TooLarge)) less
positive n false less = tt

negative : (n : ℕ) (b : Bool) → nat_lt n (2 ^ 63) ≡ b → Fits (settled (if b then Ok (negsuc n) else Err TooLarge))
negative n true less = ap (λ b. is_ok (if b then Ok (negsuc n) else Err TooLarge)) less
negative n false less = tt

settled_fits : (z : ℤ) → Fits (settled (fitted z))
settled_fits (pos n) = positive n (nat_lt n (2 ^ 63)) refl
settled_fits (negsuc n) = negative n (nat_lt n (2 ^ 63)) refl

over_fits : (b exact : ℤ) → Fits (settled (over b exact))
over_fits (pos zero) exact = tt
over_fits (pos (suc n)) exact = settled_fits exact
over_fits (negsuc n) exact = settled_fits exact

pub read_fits : (o : Option Value) → Maybe IsValue o → Fits (read o)
read_fits (Some v) is = is
read_fits None is = tt

applied_fits : (op : ChainOp) (a b : Value) → Fits (applied op a b)
applied_fits Plus (value.Int a) (value.Int b) = settled_fits (a +ℤ b)
applied_fits Minus (value.Int a) (value.Int b) = settled_fits (a -ℤ b)
applied_fits Times (value.Int a) (value.Int b) = settled_fits (a *ℤ b)
applied_fits And (value.Bool a) (value.Bool b) = refl
applied_fits Or (value.Bool a) (value.Bool b) = refl
applied_fits _ _ _ = tt

value_joined : (op : ChainOp) (a : Value) (r : Answer) → Fits r → Fits (joined op (Is a) r)
value_joined Plus a (Is b) is = applied_fits Plus a b
value_joined Plus a (Fails kind) is = tt
value_joined Plus a Absent is = tt
value_joined Minus a (Is b) is = applied_fits Minus a b
value_joined Minus a (Fails kind) is = tt
value_joined Minus a Absent is = tt
value_joined Times a (Is b) is = applied_fits Times a b
value_joined Times a (Fails kind) is = tt
value_joined Times a Absent is = tt
value_joined Over a (Is b) is = applied_fits Over a b
value_joined Over a (Fails kind) is = tt
value_joined Over a Absent is = tt
value_joined And (value.Bool false) r is = refl
value_joined And (value.Bool true) (Is b) is = applied_fits And (value.Bool true) b
value_joined And (value.Bool true) (Fails kind) is = tt
value_joined And (value.Bool true) Absent is = tt
value_joined And (value.Int z) (Is b) is = applied_fits And (value.Int z) b
value_joined And (value.Int z) (Fails kind) is = tt
value_joined And (value.Int z) Absent is = tt
value_joined Or (value.Bool true) r is = refl
value_joined Or (value.Bool false) (Is b) is = applied_fits Or (value.Bool false) b
value_joined Or (value.Bool false) (Fails kind) is = tt
value_joined Or (value.Bool false) Absent is = tt
value_joined Or (value.Int z) (Is b) is = applied_fits Or (value.Int z) b
value_joined Or (value.Int z) (Fails kind) is = tt
value_joined Or (value.Int z) Absent is = tt

joined_fits : (op : ChainOp) (l r : Answer) → Fits l → Fits r → Fits (joined op l r)
joined_fits op (Is a) r is also = value_joined op a r also
joined_fits op (Fails kind) r is also = subst Fits (sym (joined_fails op kind r)) tt
joined_fits op Absent r is also = subst Fits (sym (joined_absent op r)) tt

chained_fits : (first : Answer) (ops : List ChainOp) (parts : List Answer) → Fits first → Every Fits parts → Fits (chained first ops parts)
chained_fits first [] parts is all = is
chained_fits first (op ∷ ops) [] is all = is
chained_fits first (op ∷ ops) (part ∷ parts) is all = chained_fits (joined op first part) ops parts (joined_fits op first part is all.0) all.1

pub chain_fits : (ops : List ChainOp) (parts : List Answer) → Every Fits parts → Fits (chain ops parts)
chain_fits ops [] all = tt
chain_fits ops (first ∷ parts) all = chained_fits first ops parts all.0 all.1

pub negated_fits : (a : Answer) → Fits (negated a)
negated_fits (Is (value.Int a)) = settled_fits (neg_ℤ a)
negated_fits (Is (value.Bool b)) = tt
negated_fits (Fails kind) = tt
negated_fits Absent = tt

pub inverted_fits : (a : Answer) → Fits (inverted a)
inverted_fits (Is (value.Int a)) = tt
inverted_fits (Is (value.Bool b)) = refl
inverted_fits (Fails kind) = tt
inverted_fits Absent = tt

compared_fits : (rel : Rel) (a b : Value) → Fits (compared rel a b)
compared_fits rel (value.Int a) (value.Int b) = refl
compared_fits rel (value.Bool a) (value.Bool b) = refl
compared_fits rel (value.Int a) (value.Bool b) = tt
compared_fits rel (value.Bool a) (value.Int b) = tt

pub relation_fits : (rel : Rel) (l r : Answer) → Fits (relation rel l r)
relation_fits rel (Is a) (Is b) = compared_fits rel a b
relation_fits rel (Is a) (Fails kind) = tt
relation_fits rel (Is a) Absent = tt
relation_fits rel (Fails kind) r = tt
relation_fits rel Absent r = tt

pub chosen_fits : (conditions branches : List Answer) (other : Answer) → Every Fits branches → Fits other → Fits (chosen conditions branches other)
chosen_fits [] branches other all is = is
chosen_fits (Is (value.Bool true) ∷ conditions) (branch ∷ branches) other all is = all.0
chosen_fits (Is (value.Bool false) ∷ conditions) (branch ∷ branches) other all is = chosen_fits conditions branches other all.1 is
chosen_fits (Is (value.Bool true) ∷ conditions) [] other all is = tt
chosen_fits (Is (value.Bool false) ∷ conditions) [] other all is = tt
chosen_fits (Is (value.Int z) ∷ conditions) branches other all is = tt
chosen_fits (Fails kind ∷ conditions) branches other all is = tt
chosen_fits (Absent ∷ conditions) branches other all is = tt

one_of_fits : (a b : ℤ) (c : Bool) → IsValue (value.Int a) → IsValue (value.Int b) → IsValue (value.Int (if c then a else b))
one_of_fits a b true is also = is
one_of_fits a b false is also = also

with_one_fits : (function : Fun) (a : ℤ) → Fits (called_with_one function a)
with_one_fits Abs a = settled_fits (magnitude a)
with_one_fits _ a = tt

with_two_fits : (function : Fun) (a b : ℤ) → IsValue (value.Int a) → IsValue (value.Int b) → Fits (called_with_two function a b)
with_two_fits Div a b is also = over_fits b _
with_two_fits Mod a b is also = over_fits b _
with_two_fits Rem a b is also = over_fits b _
with_two_fits Min a b is also = one_of_fits a b (int_le a b) is also
with_two_fits Max a b is also = one_of_fits b a (int_le a b) also is
with_two_fits Abs a b is also = tt

called_fits : (function : Fun) (parts : List Answer) → Every Fits parts → Fits (called function parts)
called_fits function [] all = tt
called_fits function (Is (value.Int a) ∷ []) all = with_one_fits function a
called_fits function (Is (value.Bool a) ∷ []) all = tt
called_fits function (Is (value.Int a) ∷ (Is (value.Int b) ∷ [])) all = with_two_fits function a b all.0 all.1.0
called_fits function (Is (value.Int a) ∷ (Is (value.Bool b) ∷ [])) all = tt
called_fits function (Is (value.Bool a) ∷ (Is b ∷ [])) all = tt
called_fits function (Is (value.Int a) ∷ (Is (value.Int b) ∷ (c ∷ rest))) all = tt
called_fits function (Is (value.Int a) ∷ (Is (value.Bool b) ∷ (c ∷ rest))) all = tt
called_fits function (Is (value.Bool a) ∷ (Is b ∷ (c ∷ rest))) all = tt
called_fits function (Is (value.Int a) ∷ (Fails kind ∷ rest)) all = tt
called_fits function (Is (value.Bool a) ∷ (Fails kind ∷ rest)) all = tt
called_fits function (Is (value.Int a) ∷ (Absent ∷ rest)) all = tt
called_fits function (Is (value.Bool a) ∷ (Absent ∷ rest)) all = tt
called_fits function (Fails kind ∷ rest) all = tt
called_fits function (Absent ∷ rest) all = tt

pub call_fits : (function : Option Fun) (parts : List Answer) → Every Fits parts → Fits (called_by function parts)
call_fits (Some function) parts all = called_fits function parts all
call_fits None parts all = tt
