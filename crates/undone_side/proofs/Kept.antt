-- What the side that is solved for a name has of the equation: its types, what it asks for, and what stands in its samples.
use Rattle.std.proofs.Common.{◌≡◌, refl, ap, ap₂, sym, subst, ◌∙◌, ℕ, zero, suc, ◌+◌, ◌==◌, ◌&&◌, Bool, true, List, [], ◌∷◌, ◌++◌, map, reverse, length, Option, Some, None, arith, eq-eqb, if◌then◌else◌, ◌⊎◌, inl, inr}
use Rattle.std.specs.List.{list_all}
use Rattle.std.proofs.lemmas.Bool.{and_parts}
use Rattle.std.proofs.lemmas.Option.{none-some}
use Rattle.std.proofs.lemmas.List.{length-reverse, length-map}
use Rattle.std.proofs.lemmas.List.Folds.{list_all-append}
use Rattle.sync_values.specs.declared.value.ChainOp.{ChainOp}
use Rattle.sync_values.specs.declared.value.ChainOp.TheVariants.{Plus, Minus, Times, Over, And, Or}
use Rattle.flat_model.specs.declared.clock.ClockExpr.TheOpen.{Expr-F}
use Rattle.flat_model.specs.declared.clock.ClockExpr.TheFolds.{fold-roll-Expr}
use Rattle.flat_model.specs.declared.evaluate.Vantage.TheVariants.{Now}
use Rattle.flat_model.specs.declared.expression.Expr.{Expr}
use Rattle.flat_model.specs.declared.expression.Expr.TheVariants.{Read, Chain, Neg, Not, rolls-Read, rolls-Chain, rolls-Neg, rolls-Not}
use Rattle.flat_model.specs.declared.model.NameKind.{NameKind}
use Rattle.flat_model.specs.declared.model.NameKind.TheVariants as kind
use Rattle.flat_model.specs.declared.equation.Equation.TheVariants.{Valued}
use Rattle.flat_model.specs.Asks.{Asking, OfNow, AsksFor, Asked, is_now, here, all_asked, asked_in_level, asked}
use Rattle.flat_model.specs.Occurrences.{one_if, is_sum}
use Rattle.flat_model.specs.Samples.{samples_are_plain, all_samples_are_plain}
use Rattle.flat_model.specs.Typing.{Types, valued_type, is_type, typed_if, goes_with, type_of_operator, type_if_all, chain_type, type_of_level, type_of}
use Rattle.flat_model.proofs.Links.{asked_bare}
use Rattle.flat_model.proofs.Standings.{may_stand-Chain, may_stand-Neg, may_stand-Not}
use Rattle.flat_model.proofs.Typed.{if_some, typed_some, is_type_some}
use Rattle.eq_orient.specs.private.Undoing.{IsOnWay}
use Rattle.eq_orient.proofs.Descent.{on_Neg, on_Not, split_way}
use Rattle.eq_orient.specs.Solving.{AreWellMade}
use Rattle.eq_orient.proofs.Sides.{IsSided, left_sided, right_sided}
use Rattle.undone_side.specs.Undone.{inverse, without_back, front_part, without_front, UndoesTo, own, negation, inversion, first, later, IsSolvedSide, IsSideKnown}
use Rattle.undone_side.proofs.Values.{reverse_cons}

-- ---- what is asked for

asked-Read : (x d : ℕ) (q : Asking) → asked (Read x) d q ≡ here (is_now x) d q
unfolding asked
asked-Read x d q = ap (λ e. asked e d q) (sym (rolls-Read x)) ∙ ap (λ f. f d q) (fold-roll-Expr (Unit {0}) Asked (λ _. tt) asked_in_level (Expr-F.Read x))

asked-Chain : (parts : List Expr) (ops : List ChainOp) (d : ℕ) (q : Asking) → asked (Chain parts ops) d q ≡ all_asked (map asked parts) d q
unfolding asked
asked-Chain parts ops d q = ap (λ e. asked e d q) (sym (rolls-Chain parts ops)) ∙ ap (λ f. f d q) (fold-roll-Expr (Unit {0}) Asked (λ _. tt) asked_in_level (Expr-F.Chain parts ops))

asked-Neg : (part : Expr) (d : ℕ) (q : Asking) → asked (Neg part) d q ≡ asked part d q
unfolding asked
asked-Neg part d q = ap (λ e. asked e d q) (sym (rolls-Neg part)) ∙ ap (λ f. f d q) (fold-roll-Expr (Unit {0}) Asked (λ _. tt) asked_in_level (Expr-F.Neg part))

asked-Not : (part : Expr) (d : ℕ) (q : Asking) → asked (Not part) d q ≡ asked part d q
unfolding asked
asked-Not part d q = ap (λ e. asked e d q) (sym (rolls-Not part)) ∙ ap (λ f. f d q) (fold-roll-Expr (Unit {0}) Asked (λ _. tt) asked_in_level (Expr-F.Not part))

module _ (d : ℕ) (q : Asking) where
  abbrev total : List Expr → ℕ
  total parts = all_asked (map asked parts) d q

  total_append : (xs ys : List Expr) → total (xs ++ ys) ≡ total xs + total ys
  total_append [] ys = omega arith
  total_append (x ∷ xs) ys = let rest = total_append xs ys in omega (arith, rest)

  total_reverse : (xs : List Expr) → total (reverse xs) ≡ total xs
  total_reverse [] = refl
  total_reverse (x ∷ xs) =
      let cut : total (reverse (x ∷ xs)) ≡ total (reverse xs ++ x ∷ []) = ap total (reverse_cons x xs) in
      let parts = total_append (reverse xs) (x ∷ []) in
      let rest = total_reverse xs in
      omega (arith, cut, parts, rest)

  asked_back : (whole : Expr) (ops : List ChainOp) (back : List Expr) → asked (without_back whole ops back) d q ≡ asked whole d q + total back
  asked_back whole ops [] = omega arith
  asked_back whole ops (b ∷ back) =
      let all = asked-Chain (whole ∷ reverse (b ∷ back)) (reverse (map inverse ops)) d q in
      let turned = total_reverse (b ∷ back) in
      omega (arith, all, turned)

  asked_front : (front : List Expr) (ahead : List ChainOp) → asked (front_part front ahead) d q ≡ total front
  asked_front [] ahead = asked-Chain [] ahead d q
  asked_front (f ∷ []) ahead = omega arith
  asked_front (f ∷ (g ∷ front)) ahead = asked-Chain (f ∷ (g ∷ front)) ahead d q

  asked_joined : (op : ChainOp) (front whole : Expr) → asked (without_front op front whole) d q ≡ asked front d q + asked whole d q
  asked_joined Plus front whole = let all = asked-Chain (whole ∷ (front ∷ [])) (Minus ∷ []) d q in omega (arith, all)
  asked_joined Minus front whole = let all = asked-Chain (front ∷ (whole ∷ [])) (Minus ∷ []) d q in omega (arith, all)
  asked_joined Times front whole = let all = asked-Chain (whole ∷ (front ∷ [])) (Minus ∷ []) d q in omega (arith, all)
  asked_joined Over front whole = let all = asked-Chain (whole ∷ (front ∷ [])) (Minus ∷ []) d q in omega (arith, all)
  asked_joined And front whole = let all = asked-Chain (whole ∷ (front ∷ [])) (Minus ∷ []) d q in omega (arith, all)
  asked_joined Or front whole = let all = asked-Chain (whole ∷ (front ∷ [])) (Minus ∷ []) d q in omega (arith, all)

  -- the side asks for what both sides of the equation do, but once less for the name itself
  pub side_asks : (x : ℕ) (e whole side : Expr) → UndoesTo x e whole side → asked side d q + here (is_now x) d q ≡ asked e d q + asked whole d q
  side_asks x _ _ _ (own e side e_is) = let at : asked e d q ≡ here (is_now x) d q = ap (λ z. asked z d q) e_is ∙ asked-Read x d q in omega (arith, at)
  side_asks x _ _ _ (negation e part whole side e_is rest) =
      let at : asked e d q ≡ asked part d q = ap (λ z. asked z d q) e_is ∙ asked-Neg part d q in
      let more = asked-Neg whole d q in
      let next = side_asks x part (Neg whole) side rest in
      omega (arith, at, more, next)
  side_asks x _ _ _ (inversion e part whole side e_is rest) =
      let at : asked e d q ≡ asked part d q = ap (λ z. asked z d q) e_is ∙ asked-Not part d q in
      let more = asked-Not whole d q in
      let next = side_asks x part (Not whole) side rest in
      omega (arith, at, more, next)
  side_asks x _ _ _ (first e part back ops whole side e_is reached long rest) =
      let at : asked e d q ≡ total (part ∷ back) = ap (λ z. asked z d q) e_is ∙ asked-Chain (part ∷ back) ops d q in
      let more = asked_back whole ops back in
      let next = side_asks x part (without_back whole ops back) side rest in
      omega (arith, at, more, next)
  side_asks x _ _ _ (later e front part back ahead op behind whole side e_is reached long as_long rest) =
      let at : asked e d q ≡ total (front ++ part ∷ back) = ap (λ z. asked z d q) e_is ∙ asked-Chain (front ++ part ∷ back) (ahead ++ op ∷ behind) d q in
      let cut = total_append front (part ∷ back) in
      let ends = asked_back whole behind back in
      let begins = asked_front front ahead in
      let more = asked_joined op (front_part front ahead) (without_back whole behind back) in
      let next = side_asks x part (without_front op (front_part front ahead) (without_back whole behind back)) side rest in
      omega (arith, at, cut, ends, begins, more, next)

-- ---- what stands in samples

and_true : (a b : Bool) → a ≡ true → b ≡ true → (a && b) ≡ true
and_true a b one two = ap₂ (λ p q. p && q) one two

all_reverse : {A : Type 0} (p : A → Bool) (xs : List A) → list_all p xs ≡ true → list_all p (reverse xs) ≡ true
all_reverse p [] all = refl
all_reverse p (x ∷ xs) all =
    let parts = and_parts (p x) (list_all p xs) all in
    ap (list_all p) (reverse_cons x xs) ∙ list_all-append p (reverse xs) (x ∷ []) ∙ and_true (list_all p (reverse xs)) (list_all p (x ∷ [])) (all_reverse p xs parts.1) (and_true (p x) true parts.0 refl)

plain_back : (whole : Expr) (ops : List ChainOp) (back : List Expr) → samples_are_plain whole ≡ true → all_samples_are_plain back ≡ true → samples_are_plain (without_back whole ops back) ≡ true
plain_back whole ops [] one all = one
plain_back whole ops (b ∷ back) one all =
    may_stand-Chain (whole ∷ reverse (b ∷ back)) (reverse (map inverse ops)) Now ∙ and_true (samples_are_plain whole) (all_samples_are_plain (reverse (b ∷ back))) one (all_reverse samples_are_plain (b ∷ back) all)

plain_front : (front : List Expr) (ahead : List ChainOp) → all_samples_are_plain front ≡ true → samples_are_plain (front_part front ahead) ≡ true
plain_front [] ahead all = may_stand-Chain [] ahead Now ∙ all
plain_front (f ∷ []) ahead all = (and_parts (samples_are_plain f) true all).0
plain_front (f ∷ (g ∷ front)) ahead all = may_stand-Chain (f ∷ (g ∷ front)) ahead Now ∙ all

plain_two : (a b : Expr) → samples_are_plain a ≡ true → samples_are_plain b ≡ true → samples_are_plain (Chain (a ∷ (b ∷ [])) (Minus ∷ [])) ≡ true
plain_two a b one two = may_stand-Chain (a ∷ (b ∷ [])) (Minus ∷ []) Now ∙ and_true (samples_are_plain a) (all_samples_are_plain (b ∷ [])) one (and_true (samples_are_plain b) true two refl)

plain_joined : (op : ChainOp) (front whole : Expr) → samples_are_plain front ≡ true → samples_are_plain whole ≡ true → samples_are_plain (without_front op front whole) ≡ true
plain_joined Plus front whole one two = plain_two whole front two one
plain_joined Minus front whole one two = plain_two front whole one two
plain_joined Times front whole one two = plain_two whole front two one
plain_joined Over front whole one two = plain_two whole front two one
plain_joined And front whole one two = plain_two whole front two one
plain_joined Or front whole one two = plain_two whole front two one

pub side_plain : (x : ℕ) (e whole side : Expr) → UndoesTo x e whole side → IsOnWay x e → samples_are_plain whole ≡ true → samples_are_plain side ≡ true
side_plain x _ _ _ (own e side e_is) way plain = plain
side_plain x _ _ _ (negation e part whole side e_is rest) way plain = side_plain x part (Neg whole) side rest (on_Neg x part (subst (IsOnWay x) e_is way)) (may_stand-Neg whole Now ∙ plain)
side_plain x _ _ _ (inversion e part whole side e_is rest) way plain = side_plain x part (Not whole) side rest (on_Not x part (subst (IsOnWay x) e_is way)) (may_stand-Not whole Now ∙ plain)
side_plain x _ _ _ (first e part back ops whole side e_is reached long rest) way plain =
    let split = split_way x [] part back ops (subst (IsOnWay x) e_is way) reached in
    side_plain x part (without_back whole ops back) side rest split.way (plain_back whole ops back plain split.plain_back)
side_plain x _ _ _ (later e front part back ahead op behind whole side e_is reached long as_long rest) way plain =
    let split = split_way x front part back (ahead ++ op ∷ behind) (subst (IsOnWay x) e_is way) reached in
    side_plain x part (without_front op (front_part front ahead) (without_back whole behind back)) side rest split.way
    (plain_joined op (front_part front ahead) (without_back whole behind back) (plain_front front ahead split.plain_front) (plain_back whole behind back plain split.plain_back))

-- ---- types

module _ (types : Types) where
  type_of-Read : (x : ℕ) → type_of types (Read x) ≡ valued_type (types x)
  unfolding type_of
  type_of-Read x = ap (type_of types) (sym (rolls-Read x)) ∙ fold-roll-Expr (Unit {0}) (Option NameKind) (λ _. tt) (type_of_level types) (Expr-F.Read x)

  type_of-Chain : (parts : List Expr) (ops : List ChainOp) → type_of types (Chain parts ops) ≡ chain_type (map (type_of types) parts) ops
  unfolding type_of
  type_of-Chain parts ops = ap (type_of types) (sym (rolls-Chain parts ops)) ∙ fold-roll-Expr (Unit {0}) (Option NameKind) (λ _. tt) (type_of_level types) (Expr-F.Chain parts ops)

  type_of-Neg : (part : Expr) → type_of types (Neg part) ≡ typed_if (is_type kind.Integer (type_of types part)) kind.Integer
  unfolding type_of
  type_of-Neg part = ap (type_of types) (sym (rolls-Neg part)) ∙ fold-roll-Expr (Unit {0}) (Option NameKind) (λ _. tt) (type_of_level types) (Expr-F.Neg part)

  type_of-Not : (part : Expr) → type_of types (Not part) ≡ typed_if (is_type kind.Boolean (type_of types part)) kind.Boolean
  unfolding type_of
  type_of-Not part = ap (type_of types) (sym (rolls-Not part)) ∙ fold-roll-Expr (Unit {0}) (Option NameKind) (λ _. tt) (type_of_level types) (Expr-F.Not part)

  abbrev is_number : Expr → Bool
  is_number e = is_type kind.Integer (type_of types e)

  number : (e : Expr) → type_of types e ≡ Some kind.Integer → is_number e ≡ true
  number e is = ap (is_type kind.Integer) is

  all_mapped : (parts : List Expr) → list_all (is_type kind.Integer) (map (type_of types) parts) ≡ list_all is_number parts
  all_mapped [] = refl
  all_mapped (p ∷ parts) = ap (λ b. is_number p && b) (all_mapped parts)

  -- the parts of a sum are Integers
  record IsNumeric (parts : List Expr) (type : NameKind) : Type 0 where
    numbers : list_all is_number parts ≡ true
    type_is : kind.Integer ≡ type

  sum_operator : (op : ChainOp) (parts : List (Option NameKind)) (type : NameKind) → is_sum op ≡ true → type_if_all (type_of_operator op) parts ≡ Some type → (list_all (is_type kind.Integer) parts ≡ true) × (kind.Integer ≡ type)
  sum_operator Plus parts type sum is = typed_some (list_all (is_type kind.Integer) parts) kind.Integer type is
  sum_operator Minus parts type sum is = typed_some (list_all (is_type kind.Integer) parts) kind.Integer type is
  sum_operator Times parts type sum is = absurd cc
  sum_operator Over parts type sum is = absurd cc
  sum_operator And parts type sum is = absurd cc
  sum_operator Or parts type sum is = absurd cc

  numeric : (parts : List Expr) (ops : List ChainOp) (type : NameKind) → list_all is_sum ops ≡ true → type_of types (Chain parts ops) ≡ Some type → IsNumeric parts type
  numeric parts [] type sums is = absurd (none-some type (sym (type_of-Chain parts []) ∙ is))
  numeric parts (op ∷ ops) type sums is =
      let two = if_some (length (map (type_of types) parts) == length ops + 2 && list_all (goes_with op) ops) (type_if_all (type_of_operator op) (map (type_of types) parts)) type (sym (type_of-Chain parts (op ∷ ops)) ∙ is) in
      let of = sum_operator op (map (type_of types) parts) type (and_parts (is_sum op) (list_all is_sum ops) sums).0 two.1 in
      record { numbers = sym (all_mapped parts) ∙ of.0; type_is = of.1 }

  sum_goes : (op : ChainOp) (ops : List ChainOp) → is_sum op ≡ true → list_all is_sum ops ≡ true → list_all (goes_with op) ops ≡ true
  sum_goes Plus ops sum sums = sums
  sum_goes Minus ops sum sums = sums
  sum_goes Times ops sum sums = absurd cc
  sum_goes Over ops sum sums = absurd cc
  sum_goes And ops sum sums = absurd cc
  sum_goes Or ops sum sums = absurd cc

  sum_all : (op : ChainOp) (parts : List (Option NameKind)) → is_sum op ≡ true → list_all (is_type kind.Integer) parts ≡ true → type_if_all (type_of_operator op) parts ≡ Some kind.Integer
  sum_all Plus parts sum all = ap (λ b. typed_if b kind.Integer) all
  sum_all Minus parts sum all = ap (λ b. typed_if b kind.Integer) all
  sum_all Times parts sum all = absurd cc
  sum_all Over parts sum all = absurd cc
  sum_all And parts sum all = absurd cc
  sum_all Or parts sum all = absurd cc

  -- a sum of Integers is one
  sum_typed : (parts : List Expr) (op : ChainOp) (ops : List ChainOp) → length parts ≡ length ops + 2 → list_all is_sum (op ∷ ops) ≡ true → list_all is_number parts ≡ true → type_of types (Chain parts (op ∷ ops)) ≡ Some kind.Integer
  sum_typed parts op ops long sums all =
      let both_sums = and_parts (is_sum op) (list_all is_sum ops) sums in
      let test : (length (map (type_of types) parts) == length ops + 2 && list_all (goes_with op) ops) ≡ true =
      and_true (length (map (type_of types) parts) == length ops + 2) (list_all (goes_with op) ops) (eq-eqb (length (map (type_of types) parts)) (length ops + 2) (length-map parts (type_of types) ∙ long)) (sum_goes op ops both_sums.0 both_sums.1) in
      type_of-Chain parts (op ∷ ops) ∙ ap (λ b. if b then type_if_all (type_of_operator op) (map (type_of types) parts) else None) test ∙ sum_all op (map (type_of types) parts) both_sums.0 (all_mapped parts ∙ all)

  many_typed : (parts : List Expr) (ops : List ChainOp) → length parts ≡ length ops + 1 → list_all is_sum ops ≡ true → list_all is_number parts ≡ true → (n : ℕ) → length ops ≡ suc n → type_of types (Chain parts ops) ≡ Some kind.Integer
  many_typed parts [] long sums all n some = absurd (omega (arith, some))
  many_typed parts (op ∷ ops) long sums all n some = sum_typed parts op ops (omega (arith, long)) sums all

  inverse_sum : (op : ChainOp) → is_sum op ≡ true → is_sum (inverse op) ≡ true
  inverse_sum Plus sum = refl
  inverse_sum Minus sum = refl
  inverse_sum Times sum = sum
  inverse_sum Over sum = sum
  inverse_sum And sum = sum
  inverse_sum Or sum = sum

  inverse_sums : (ops : List ChainOp) → list_all is_sum ops ≡ true → list_all is_sum (map inverse ops) ≡ true
  inverse_sums [] sums = refl
  inverse_sums (op ∷ ops) sums = let parts = and_parts (is_sum op) (list_all is_sum ops) sums in and_true (is_sum (inverse op)) (list_all is_sum (map inverse ops)) (inverse_sum op parts.0) (inverse_sums ops parts.1)

  type_back : (whole : Expr) (ops : List ChainOp) (back : List Expr) → list_all is_sum ops ≡ true → length ops ≡ length back → type_of types whole ≡ Some kind.Integer → list_all is_number back ≡ true
      → type_of types (without_back whole ops back) ≡ Some kind.Integer
  type_back whole ops [] sums long is all = is
  type_back whole ops (b ∷ back) sums long is all =
      let turned = length-reverse (map inverse ops) in
      let mapped = length-map ops inverse in
      let parts = length-reverse (b ∷ back) in
      many_typed (whole ∷ reverse (b ∷ back)) (reverse (map inverse ops)) (omega (arith, turned, mapped, parts, long)) (all_reverse is_sum (map inverse ops) (inverse_sums ops sums))
      (and_true (is_number whole) (list_all is_number (reverse (b ∷ back))) (number whole is) (all_reverse is_number (b ∷ back) all)) (length back) (omega (arith, turned, mapped, long))

  type_front : (front : List Expr) (ahead : List ChainOp) → list_all is_sum ahead ≡ true → length front ≡ length ahead + 1 → list_all is_number front ≡ true → type_of types (front_part front ahead) ≡ Some kind.Integer
  type_front [] ahead sums long all = absurd (omega (arith, long))
  type_front (f ∷ []) ahead sums long all = is_type_some kind.Integer (type_of types f) (and_parts (is_number f) true all).0
  type_front (f ∷ (g ∷ front)) ahead sums long all = many_typed (f ∷ (g ∷ front)) ahead long sums all (length front) (omega (arith, long))

  type_two : (a b : Expr) → type_of types a ≡ Some kind.Integer → type_of types b ≡ Some kind.Integer → type_of types (Chain (a ∷ (b ∷ [])) (Minus ∷ [])) ≡ Some kind.Integer
  type_two a b one two = sum_typed (a ∷ (b ∷ [])) Minus [] refl refl (and_true (is_number a) (list_all is_number (b ∷ [])) (number a one) (and_true (is_number b) true (number b two) refl))

  type_joined : (op : ChainOp) (front whole : Expr) → type_of types front ≡ Some kind.Integer → type_of types whole ≡ Some kind.Integer → type_of types (without_front op front whole) ≡ Some kind.Integer
  type_joined Plus front whole one two = type_two whole front two one
  type_joined Minus front whole one two = type_two front whole one two
  type_joined Times front whole one two = type_two whole front two one
  type_joined Over front whole one two = type_two whole front two one
  type_joined And front whole one two = type_two whole front two one
  type_joined Or front whole one two = type_two whole front two one

  -- the side is of the name's type
  pub side_type : (x : ℕ) (e whole side : Expr) → UndoesTo x e whole side → IsOnWay x e → (type : NameKind) → type_of types e ≡ Some type → type_of types whole ≡ Some type
      → (own : NameKind) × (type_of types side ≡ Some own) × (valued_type (types x) ≡ Some own)
  side_type x _ _ _ (own e side e_is) way type left right = (type, right, sym (ap (type_of types) e_is ∙ type_of-Read x) ∙ left)
  side_type x _ _ _ (negation e part whole side e_is rest) way type left right =
      let of = typed_some (is_number part) kind.Integer type (sym (ap (type_of types) e_is ∙ type_of-Neg part) ∙ left) in
      side_type x part (Neg whole) side rest (on_Neg x part (subst (IsOnWay x) e_is way)) kind.Integer (is_type_some kind.Integer (type_of types part) of.0)
      (type_of-Neg whole ∙ ap (λ b. typed_if b kind.Integer) (number whole (right ∙ ap Some (sym of.1))))
  side_type x _ _ _ (inversion e part whole side e_is rest) way type left right =
      let of = typed_some (is_type kind.Boolean (type_of types part)) kind.Boolean type (sym (ap (type_of types) e_is ∙ type_of-Not part) ∙ left) in
      side_type x part (Not whole) side rest (on_Not x part (subst (IsOnWay x) e_is way)) kind.Boolean (is_type_some kind.Boolean (type_of types part) of.0)
      (type_of-Not whole ∙ ap (λ b. typed_if b kind.Boolean) (ap (is_type kind.Boolean) (right ∙ ap Some (sym of.1))))
  side_type x _ _ _ (first e part back ops whole side e_is reached long rest) way type left right =
      let split = split_way x [] part back ops (subst (IsOnWay x) e_is way) reached in
      let of = numeric (part ∷ back) ops type split.sums (sym (ap (type_of types) e_is) ∙ left) in
      let parts = and_parts (is_number part) (list_all is_number back) of.numbers in
      side_type x part (without_back whole ops back) side rest split.way kind.Integer (is_type_some kind.Integer (type_of types part) parts.0) (type_back whole ops back split.sums long (right ∙ ap Some (sym of.type_is)) parts.1)
  side_type x _ _ _ (later e front part back ahead op behind whole side e_is reached long as_long rest) way type left right =
      let split = split_way x front part back (ahead ++ op ∷ behind) (subst (IsOnWay x) e_is way) reached in
      let of = numeric (front ++ part ∷ back) (ahead ++ op ∷ behind) type split.sums (sym (ap (type_of types) e_is) ∙ left) in
      let pieces = and_parts (list_all is_number front) (list_all is_number (part ∷ back)) (sym (list_all-append is_number front (part ∷ back)) ∙ of.numbers) in
      let parts = and_parts (is_number part) (list_all is_number back) pieces.1 in
      let sums = and_parts (list_all is_sum ahead) (list_all is_sum (op ∷ behind)) (sym (list_all-append is_sum ahead (op ∷ behind)) ∙ split.sums) in
      let last = and_parts (is_sum op) (list_all is_sum behind) sums.1 in
      side_type x part (without_front op (front_part front ahead) (without_back whole behind back)) side rest split.way kind.Integer (is_type_some kind.Integer (type_of types part) parts.0)
      (type_joined op (front_part front ahead) (without_back whole behind back) (type_front front ahead sums.0 long pieces.0) (type_back whole behind back last.1 as_long (right ∙ ap Some (sym of.type_is)) parts.1))

-- ---- both sides of an equation

one_here : (x : ℕ) → here (is_now x) 0 (OfNow x) ≡ 1
one_here x = ap one_if (eq-eqb x x refl)

-- the side asks for what one side of the equation does
asks_either : (x : ℕ) (mine rest side : Expr) → UndoesTo x mine rest side → (d : ℕ) (q : Asking) → AsksFor side d q → AsksFor mine d q ⊎ AsksFor rest d q
asks_either x mine rest side undoes d q some = by_count (asked mine d q) refl
  where
    by_count : (n : ℕ) → asked mine d q ≡ n → AsksFor mine d q ⊎ AsksFor rest d q
    by_count zero is = let total = side_asks d q x mine rest side undoes in inr (omega (arith, some, is, total))
    by_count (suc n) is = inl (omega (arith, is))

known_side : (types : Types) (x : ℕ) (mine rest side : Expr) → UndoesTo x mine rest side → IsSided x mine rest → (type : NameKind) → type_of types mine ≡ Some type → type_of types rest ≡ Some type → IsSideKnown types x mine rest side
known_side types x mine rest side undoes sided type one two =
    let typed = side_type types x mine rest side undoes sided.way type one two in
    record {
      type = typed.0;
      side_type = typed.1;
      name_type = typed.2;
      plain = side_plain x mine rest side undoes sided.way sided.plain;
      asks = asks_either x mine rest side undoes;
      other =
          let total = side_asks 0 (OfNow x) x mine rest side undoes in
          let bare = asked_bare x mine in
          let bare_rest = asked_bare x rest in
          let once = sided.way.once in
          let none = sided.none in
          let own_one = one_here x in
          omega (arith, total, bare, bare_rest, once, none, own_one);
    }

swap : {P Q : Type 0} → P ⊎ Q → Q ⊎ P
swap (inl p) = inr p
swap (inr q) = inl q

pub side_known : (types : Types) (x : ℕ) (left right : Expr) (clause : Option ℕ) (side : Expr) → IsSolvedSide x (Valued left right clause) side → AreWellMade (Valued left right clause)
    → (type : NameKind) → type_of types left ≡ Some type → type_of types right ≡ Some type → IsSideKnown types x left right side
side_known types x left right clause side (inl (spine, undoes)) made type one two = known_side types x left right side undoes (left_sided x left right clause spine made) type one two
side_known types x left right clause side (inr (spine, undoes)) made type one two =
    let known = known_side types x right left side undoes (right_sided x left right clause spine made) type two one in
    record { type = known.type; side_type = known.side_type; name_type = known.name_type; plain = known.plain; asks = λ d q some. swap (known.asks d q some); other = known.other }

pub solved_asks : (x : ℕ) (left right : Expr) (clause : Option ℕ) (side : Expr) → IsSolvedSide x (Valued left right clause) side → (d : ℕ) (q : Asking) → AsksFor side d q → AsksFor left d q ⊎ AsksFor right d q
solved_asks x left right clause side (inl (spine, undoes)) d q some = asks_either x left right side undoes d q some
solved_asks x left right clause side (inr (spine, undoes)) d q some = swap (asks_either x right left side undoes d q some)
