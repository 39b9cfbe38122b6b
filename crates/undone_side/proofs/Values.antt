-- The value of a side that is solved for a name is the solution.
use Rattle.std.proofs.Common.{◌≡◌, refl, ap, ap₂, sym, subst, ◌∙◌, ℕ, ◌+◌, true, not, List, [], ◌∷◌, ◌++◌, map, reverse, length, Option, ℤ, Result, Ok, Err, arith, inl, inr}
use Rattle.std.specs.Prelude.{neg_ℤ, ◌+ℤ◌, ◌-ℤ◌}
use Rattle.std.specs.List.{list_all}
use Rattle.std.proofs.lemmas.Bool.{and_parts}
use Rattle.std.proofs.lemmas.List.{reverse-append, length-reverse, length-map}
use Rattle.std.proofs.lemmas.List.Folds.{list_all-append}
use Rattle.sync_values.specs.Arithmetic.{fitted}
use Rattle.sync_values.specs.declared.value.Value.{Value}
use Rattle.sync_values.specs.declared.value.Value.TheVariants as value
use Rattle.sync_values.specs.declared.value.Fail.{Fail}
use Rattle.sync_values.specs.declared.value.ChainOp.{ChainOp}
use Rattle.sync_values.specs.declared.value.ChainOp.TheVariants.{Plus, Minus, Times, Over, And, Or}
use Rattle.flat_model.specs.declared.expression.Expr.{Expr}
use Rattle.flat_model.specs.declared.expression.Expr.TheVariants.{Neg, Not}
use Rattle.flat_model.specs.declared.equation.Equation.TheVariants.{Valued}
use Rattle.flat_model.specs.Meaning.{value_of, answers}
use Rattle.flat_model.specs.Occurrences.{bare_count, is_sum}
use Rattle.flat_model.specs.Operators.{Answer, Is, Fails, Absent, settled, negated, inverted, joined, chained, chain}
use Rattle.flat_model.specs.Views.{Views}
use Rattle.flat_model.proofs.Values.{value_of-Chain, value_of-Neg, value_of-Not}
use Rattle.eq_orient.specs.Solving.{Fits, with_now, AreWellMade, Solves}
use Rattle.eq_orient.specs.private.Undoing.{UndoneBy, Undoes, answers_by, IsOnWay}
use Rattle.eq_orient.proofs.Descent.{on_Neg, on_Not, split_way}
use Rattle.eq_orient.proofs.Down.{at_name, down, is_Neg, is_Not}
use Rattle.eq_orient.proofs.Sides.{left_sided, right_sided}
use Rattle.eq_orient.proofs.Undoing.{neg_Ok, not_Ok, plus_right, minus_right, plus_left, minus_left, undone_both, joined_fits}
use Rattle.eq_orient.proofs.Unread.{unread}
use Rattle.undone_side.specs.Undone.{inverse, without_back, front_part, without_front, UndoesTo, own, negation, inversion, first, later, IsSolvedSide, IsFitting}

-- ---- one operator

number_of : (r : Result ℤ Fail) (v : Value) → settled r ≡ Is v → (z : ℤ) × (v ≡ value.Int z) × (r ≡ Ok z)
number_of (Ok z) v e = (z, cc, refl)
number_of (Err kind) v e = absurd cc

-- an operator that undoes another is strict in numbers
data Numbers (a b : Answer) : Type 0 where
  are : (y z : ℤ) → a ≡ Is (value.Int y) → b ≡ Is (value.Int z) → Numbers a b

numbers : (op : ChainOp) (l r : Answer) (v : Value) → is_sum op ≡ true → joined op l r ≡ Is v → Numbers l r
numbers Plus (Is (value.Int a)) (Is (value.Int b)) v sum e = are a b refl refl
numbers Minus (Is (value.Int a)) (Is (value.Int b)) v sum e = are a b refl refl
numbers Plus (Is (value.Int a)) (Is (value.Bool b)) v sum e = absurd cc
numbers Minus (Is (value.Int a)) (Is (value.Bool b)) v sum e = absurd cc
numbers Plus (Is (value.Bool a)) (Is b) v sum e = absurd cc
numbers Minus (Is (value.Bool a)) (Is b) v sum e = absurd cc
numbers Plus (Is a) (Fails k) v sum e = absurd cc
numbers Minus (Is a) (Fails k) v sum e = absurd cc
numbers Plus (Is a) Absent v sum e = absurd cc
numbers Minus (Is a) Absent v sum e = absurd cc
numbers Plus (Fails k) r v sum e = absurd cc
numbers Minus (Fails k) r v sum e = absurd cc
numbers Plus Absent r v sum e = absurd cc
numbers Minus Absent r v sum e = absurd cc
numbers Times l r v sum e = absurd cc
numbers Over l r v sum e = absurd cc
numbers And l r v sum e = absurd cc
numbers Or l r v sum e = absurd cc

inverse_sum : (op : ChainOp) → is_sum op ≡ true → is_sum (inverse op) ≡ true
inverse_sum Plus sum = refl
inverse_sum Minus sum = refl
inverse_sum Times sum = sum
inverse_sum Over sum = sum
inverse_sum And sum = sum
inverse_sum Or sum = sum

-- a part behind, undone
back_one : (op : ChainOp) → is_sum op ≡ true → (y z : ℤ) (u : Value) → joined (inverse op) (Is (value.Int y)) (Is (value.Int z)) ≡ Is u → Fits (value.Int y)
    → UndoneBy (λ a. joined op a (Is (value.Int z))) (value.Int y) (Ok u)
back_one Plus sum y z u e fits = let (n, is, out) = number_of (fitted (y -ℤ z)) u e in subst (λ w. UndoneBy (λ a. joined Plus a (Is (value.Int z))) (value.Int y) (Ok w)) (sym is) ((plus_right z y fits).0 n out)
back_one Minus sum y z u e fits = let (n, is, out) = number_of (fitted (y +ℤ z)) u e in subst (λ w. UndoneBy (λ a. joined Minus a (Is (value.Int z))) (value.Int y) (Ok w)) (sym is) ((minus_right z y fits).0 n out)
back_one Times sum y z u e fits = absurd cc
back_one Over sum y z u e fits = absurd cc
back_one And sum y z u e fits = absurd cc
back_one Or sum y z u e fits = absurd cc

-- what an operation is undone by has a value, so the whole has one; where this fits, the value is the only one
abbrev pub IsUndone : (Answer → Answer) → Answer → Value → Type 0
IsUndone operation whole u = (t : Value) × (whole ≡ Is t) × (Fits t → UndoneBy operation t (Ok u))

back_step : (op : ChainOp) → is_sum op ≡ true → (whole b : Answer) (u : Value) → joined (inverse op) whole b ≡ Is u → IsUndone (λ a. joined op a b) whole u
back_step op sum whole b u e = by_numbers (numbers (inverse op) whole b u (inverse_sum op sum) e)
  where
    by_numbers : Numbers whole b → IsUndone (λ a. joined op a b) whole u
    by_numbers (are y z whole_is b_is) = (
      value.Int y,
      whole_is,
      λ fits. subst (λ c. UndoneBy (λ a. joined op a c) (value.Int y) (Ok u)) (sym b_is) (back_one op sum y z u (sym (ap₂ (joined (inverse op)) whole_is b_is) ∙ e) fits),
    )

-- the parts in front, undone
abbrev front_joined : ChainOp → Answer → Answer → Answer
front_joined Minus front whole = joined Minus front whole
front_joined op front whole = joined Minus whole front

front_numbers : (op : ChainOp) → is_sum op ≡ true → (front whole : Answer) (u : Value) → front_joined op front whole ≡ Is u → Numbers front whole
front_numbers Plus sum front whole u e = by_numbers (numbers Minus whole front u refl e)
  where
    by_numbers : Numbers whole front → Numbers front whole
    by_numbers (are y z a b) = are z y b a
front_numbers Minus sum front whole u e = numbers Minus front whole u refl e
front_numbers Times sum front whole u e = absurd cc
front_numbers Over sum front whole u e = absurd cc
front_numbers And sum front whole u e = absurd cc
front_numbers Or sum front whole u e = absurd cc

front_one : (op : ChainOp) → is_sum op ≡ true → (y z : ℤ) (u : Value) → front_joined op (Is (value.Int y)) (Is (value.Int z)) ≡ Is u → Fits (value.Int z)
    → UndoneBy (λ a. joined op (Is (value.Int y)) a) (value.Int z) (Ok u)
front_one Plus sum y z u e fits = let (n, is, out) = number_of (fitted (z -ℤ y)) u e in subst (λ w. UndoneBy (λ a. joined Plus (Is (value.Int y)) a) (value.Int z) (Ok w)) (sym is) ((plus_left y z fits).0 n out)
front_one Minus sum y z u e fits = let (n, is, out) = number_of (fitted (y -ℤ z)) u e in subst (λ w. UndoneBy (λ a. joined Minus (Is (value.Int y)) a) (value.Int z) (Ok w)) (sym is) ((minus_left y z fits).0 n out)
front_one Times sum y z u e fits = absurd cc
front_one Over sum y z u e fits = absurd cc
front_one And sum y z u e fits = absurd cc
front_one Or sum y z u e fits = absurd cc

front_step : (op : ChainOp) → is_sum op ≡ true → (front whole : Answer) (u : Value) → front_joined op front whole ≡ Is u → IsUndone (λ a. joined op front a) whole u
front_step op sum front whole u e = by_numbers (front_numbers op sum front whole u e)
  where
    by_numbers : Numbers front whole → IsUndone (λ a. joined op front a) whole u
    by_numbers (are y z front_is whole_is) = (
      value.Int z,
      whole_is,
      λ fits. subst (λ c. UndoneBy (λ a. joined op c a) (value.Int z) (Ok u)) (sym front_is) (front_one op sum y z u (sym (ap₂ (front_joined op) front_is whole_is) ∙ e) fits),
    )

-- ---- chains

pub reverse_cons : {A : Type 0} (x : A) (xs : List A) → reverse (x ∷ xs) ≡ reverse xs ++ x ∷ []
reverse_cons x xs = reverse-append (x ∷ []) xs

map_append : {A B : Type 0} (f : A → B) (xs : List A) (y : A) → map f (xs ++ y ∷ []) ≡ map f xs ++ f y ∷ []
map_append f [] y = refl
map_append f (x ∷ xs) y = ap (λ ys. f x ∷ ys) (map_append f xs y)

map_reverse : {A B : Type 0} (f : A → B) (xs : List A) → map f (reverse xs) ≡ reverse (map f xs)
map_reverse f [] = refl
map_reverse f (x ∷ xs) = ap (map f) (reverse_cons x xs) ∙ map_append f (reverse xs) x ∙ ap (λ ys. ys ++ f x ∷ []) (map_reverse f xs) ∙ sym (reverse_cons (f x) (map f xs))

chained_last : (a : Answer) (ops : List ChainOp) (parts : List Answer) (op : ChainOp) (part : Answer) → length ops ≡ length parts → chained a (ops ++ op ∷ []) (parts ++ part ∷ []) ≡ joined op (chained a ops parts) part
chained_last a [] [] op part long = refl
chained_last a [] (p ∷ parts) op part long = absurd (omega (arith, long))
chained_last a (o ∷ ops) [] op part long = absurd (omega (arith, long))
chained_last a (o ∷ ops) (p ∷ parts) op part long = chained_last (joined o a p) ops parts op part (omega (arith, long))

chained_at : (a : Answer) (ahead : List ChainOp) (front : List Answer) (op : ChainOp) (part : Answer) (behind : List ChainOp) (back : List Answer) → length ahead ≡ length front
    → chained a (ahead ++ op ∷ behind) (front ++ part ∷ back) ≡ chained (joined op (chained a ahead front) part) behind back
chained_at a [] [] op part behind back long = refl
chained_at a [] (p ∷ front) op part behind back long = absurd (omega (arith, long))
chained_at a (o ∷ ahead) [] op part behind back long = absurd (omega (arith, long))
chained_at a (o ∷ ahead) (p ∷ front) op part behind back long = chained_at (joined o a p) ahead front op part behind back (omega (arith, long))

chain_at : (ahead : List ChainOp) (front : List Answer) (op : ChainOp) (part : Answer) (behind : List ChainOp) (back : List Answer) → length front ≡ length ahead + 1
    → chain (ahead ++ op ∷ behind) (front ++ part ∷ back) ≡ chained (joined op (chain ahead front) part) behind back
chain_at ahead [] op part behind back long = absurd (omega (arith, long))
chain_at ahead (f ∷ front) op part behind back long = chained_at f ahead front op part behind back (omega (arith, long))

-- the parts behind, undone one after the other
back_undone : (ops : List ChainOp) (back : List Answer) → list_all is_sum ops ≡ true → length ops ≡ length back → (whole : Answer) (u : Value) → chained whole (reverse (map inverse ops)) (reverse back) ≡ Is u
    → IsUndone (λ a. chained a ops back) whole u
back_undone [] [] sums long whole u e = (u, e, λ fits. (fits, refl, λ a fine same. same))
back_undone [] (b ∷ back) sums long whole u e = absurd (omega (arith, long))
back_undone (op ∷ ops) [] sums long whole u e = absurd (omega (arith, long))
back_undone (op ∷ ops) (b ∷ back) sums long whole u e = by_last (back_step op both.0 inner b u outer) (λ m m_is. back_undone ops back both.1 (omega (arith, long)) whole m m_is)
  where
    both : (is_sum op ≡ true) × (list_all is_sum ops ≡ true)
    both = and_parts (is_sum op) (list_all is_sum ops) sums

    inner : Answer
    inner = chained whole (reverse (map inverse ops)) (reverse back)

    as_long : length (reverse (map inverse ops)) ≡ length (reverse back)
    as_long = length-reverse (map inverse ops) ∙ length-map ops inverse ∙ (let h : length ops ≡ length back = omega (arith, long) in h) ∙ sym (length-reverse back)

    outer : joined (inverse op) inner b ≡ Is u
    outer = sym (chained_last whole (reverse (map inverse ops)) (reverse back) (inverse op) b as_long) ∙ sym (ap₂ (chained whole) (reverse_cons (inverse op) (map inverse ops)) (reverse_cons b back)) ∙ e

    by_last : IsUndone (λ a. joined op a b) inner u → ((m : Value) → inner ≡ Is m → IsUndone (λ a. chained a ops back) whole m) → IsUndone (λ a. chained a (op ∷ ops) (b ∷ back)) whole u
    by_last (m, m_is, last) more = by_rest (more m m_is)
      where
        by_rest : IsUndone (λ a. chained a ops back) whole m → IsUndone (λ a. chained a (op ∷ ops) (b ∷ back)) whole u
        by_rest (t, t_is, rest) = (t, t_is, λ fits. undone_both (λ a. chained a ops back) (λ a. joined op a b) t m (Ok u) (λ a fine. joined_fits op both.0 a b) (rest fits) (last (rest fits).0))

-- ---- expressions

module _ (views : Views) where
  value_back : (whole : Expr) (ops : List ChainOp) (back : List Expr) → length ops ≡ length back
      → value_of (without_back whole ops back) views ≡ chained (value_of whole views) (reverse (map inverse ops)) (reverse (answers back views))
  value_back whole [] [] long = refl
  value_back whole (op ∷ ops) [] long = absurd (omega (arith, long))
  value_back whole ops (b ∷ back) long =
      value_of-Chain (whole ∷ reverse (b ∷ back)) (reverse (map inverse ops)) views
      ∙ ap (chained (value_of whole views) (reverse (map inverse ops))) (map_reverse (λ e. value_of e views) (b ∷ back))

  value_front : (front : List Expr) (ahead : List ChainOp) → length front ≡ length ahead + 1 → value_of (front_part front ahead) views ≡ chain ahead (answers front views)
  value_front [] ahead long = absurd (omega (arith, long))
  value_front (f ∷ []) [] long = refl
  value_front (f ∷ []) (op ∷ ahead) long = absurd (omega (arith, long))
  value_front (f ∷ (g ∷ front)) ahead long = value_of-Chain (f ∷ (g ∷ front)) ahead views

  value_joined : (op : ChainOp) (front whole : Expr) → value_of (without_front op front whole) views ≡ front_joined op (value_of front views) (value_of whole views)
  value_joined Plus front whole = value_of-Chain (whole ∷ (front ∷ [])) (Minus ∷ []) views
  value_joined Minus front whole = value_of-Chain (front ∷ (whole ∷ [])) (Minus ∷ []) views
  value_joined Times front whole = value_of-Chain (whole ∷ (front ∷ [])) (Minus ∷ []) views
  value_joined Over front whole = value_of-Chain (whole ∷ (front ∷ [])) (Minus ∷ []) views
  value_joined And front whole = value_of-Chain (whole ∷ (front ∷ [])) (Minus ∷ []) views
  value_joined Or front whole = value_of-Chain (whole ∷ (front ∷ [])) (Minus ∷ []) views

  first_undone : (whole : Expr) (ops : List ChainOp) (back : List Expr) → list_all is_sum ops ≡ true → length ops ≡ length back → (u : Value) → value_of (without_back whole ops back) views ≡ Is u
      → IsUndone (λ a. chain ops (a ∷ answers back views)) (value_of whole views) u
  first_undone whole ops back sums long u e =
      back_undone ops (answers back views) sums (long ∙ sym (length-map back (λ e. value_of e views))) (value_of whole views) u (sym (value_back whole ops back long) ∙ e)

  later_undone : (front back : List Expr) (ahead : List ChainOp) (op : ChainOp) (behind : List ChainOp) (whole : Expr) → list_all is_sum (ahead ++ op ∷ behind) ≡ true → length front ≡ length ahead + 1 → length behind ≡ length back
      → (u : Value) → value_of (without_front op (front_part front ahead) (without_back whole behind back)) views ≡ Is u
      → IsUndone (λ a. chain (ahead ++ op ∷ behind) (answers front views ++ a ∷ answers back views)) (value_of whole views) u
  later_undone front back ahead op behind whole sums long as_long u e =
      by_front (front_step op both.0 (chain ahead (answers front views)) (value_of (without_back whole behind back) views) u
      (sym (value_joined op (front_part front ahead) (without_back whole behind back) ∙ ap (λ a. front_joined op a (value_of (without_back whole behind back) views)) (value_front front ahead long)) ∙ e))
    where
      parts : (list_all is_sum ahead ≡ true) × (list_all is_sum (op ∷ behind) ≡ true)
      parts = and_parts (list_all is_sum ahead) (list_all is_sum (op ∷ behind)) (sym (list_all-append is_sum ahead (op ∷ behind)) ∙ sums)

      both : (is_sum op ≡ true) × (list_all is_sum behind ≡ true)
      both = and_parts (is_sum op) (list_all is_sum behind) parts.1

      operation : Answer → Answer
      operation a = chain (ahead ++ op ∷ behind) (answers front views ++ a ∷ answers back views)

      is : (a : Answer) → chained (joined op (chain ahead (answers front views)) a) behind (answers back views) ≡ operation a
      is a = sym (chain_at ahead (answers front views) op a behind (answers back views) (length-map front (λ e. value_of e views) ∙ long))

      by_front : IsUndone (λ a. joined op (chain ahead (answers front views)) a) (value_of (without_back whole behind back) views) u → IsUndone operation (value_of whole views) u
      by_front (m, m_is, inner) = by_back (first_undone whole behind back both.1 as_long m m_is)
        where
          by_back : IsUndone (λ a. chain behind (a ∷ answers back views)) (value_of whole views) m → IsUndone operation (value_of whole views) u
          by_back (t, t_is, outer) = (
            t,
            t_is,
            λ fits. same t (undone_both (λ a. chained a behind (answers back views)) (λ a. joined op (chain ahead (answers front views)) a) t m (Ok u) (λ a fine. joined_fits op both.0 (chain ahead (answers front views)) a) (outer fits) (inner (outer fits).0)),
          )
            where
              same : (t : Value) → UndoneBy (λ a. chained (joined op (chain ahead (answers front views)) a) behind (answers back views)) t (Ok u) → UndoneBy operation t (Ok u)
              same t (fine, one, only) = (fine, sym (is (Is u)) ∙ one, λ a fits e. only a fits (is a ∙ e))

  neg_step : (whole : Answer) (u : Value) → negated whole ≡ Is u → IsUndone negated whole u
  neg_step (Is (value.Int z)) u e = (value.Int z, refl, λ fits. (let (n, is, out) = number_of (fitted (neg_ℤ z)) u e in subst (λ w. UndoneBy negated (value.Int z) (Ok w)) (sym is) (neg_Ok z n fits out)))
  neg_step (Is (value.Bool b)) u e = absurd cc
  neg_step (Fails kind) u e = absurd cc
  neg_step Absent u e = absurd cc

  not_step : (whole : Answer) (u : Value) → inverted whole ≡ Is u → IsUndone inverted whole u
  not_step (Is (value.Bool b)) u e = (value.Bool b, refl, λ fits. subst (λ w. UndoneBy inverted (value.Bool b) (Ok w)) (same (value.Bool (not b)) u e) (not_Ok b))
    where
      same : (v w : Value) → Is v ≡ Is w → v ≡ w
      same v w e = cc
  not_step (Is (value.Int z)) u e = absurd cc
  not_step (Fails kind) u e = absurd cc
  not_step Absent u e = absurd cc

  -- the value of the side is the only one of the name with which the expression is the whole
  abbrev Found : ℕ → Expr → Expr → Value → Type 0
  Found x e whole v = (t : Value) × (value_of whole views ≡ Is t) × (Fits t → Undoes (answers_by x e views) t (Ok v))

  stepped : (x : ℕ) (e part whole next : Expr) (operation : Answer → Answer) (v : Value) → ((w : Value) → value_of e (with_now x w views) ≡ operation (value_of part (with_now x w views))) → IsOnWay x part
      → ((u : Value) → value_of next views ≡ Is u → IsUndone operation (value_of whole views) u) → Found x part next v → Found x e whole v
  stepped x e part whole next operation v is way undone (u, u_is, found) = by_step (undone u u_is)
    where
      by_step : IsUndone operation (value_of whole views) u → Found x e whole v
      by_step (t, t_is, one) = (t, t_is, λ fits. down x views e part operation is way t u (Ok v) (one fits) (found (one fits).0))

  pub found : (x : ℕ) (e whole side : Expr) → UndoesTo x e whole side → IsOnWay x e → (v : Value) → value_of side views ≡ Is v → Found x e whole v
  found x _ _ _ (own e side e_is) way v v_is = (v, v_is, λ fits. subst (λ d. Undoes (answers_by x d views) v (Ok v)) (sym e_is) (at_name x views x v (subst (IsOnWay x) e_is way) fits))
  found x _ _ _ (negation e part whole side e_is rest) way v v_is =
      let under = on_Neg x part (subst (IsOnWay x) e_is way) in
      stepped x e part whole (Neg whole) negated v (λ w. ap (λ d. value_of d (with_now x w views)) e_is ∙ is_Neg x views part w) under (λ u u_is. neg_step (value_of whole views) u (sym (value_of-Neg whole views) ∙ u_is))
      (found x part (Neg whole) side rest under v v_is)
  found x _ _ _ (inversion e part whole side e_is rest) way v v_is =
      let under = on_Not x part (subst (IsOnWay x) e_is way) in
      stepped x e part whole (Not whole) inverted v (λ w. ap (λ d. value_of d (with_now x w views)) e_is ∙ is_Not x views part w) under (λ u u_is. not_step (value_of whole views) u (sym (value_of-Not whole views) ∙ u_is))
      (found x part (Not whole) side rest under v v_is)
  found x _ _ _ (first e part back ops whole side e_is reached long rest) way v v_is =
      let split = split_way x [] part back ops (subst (IsOnWay x) e_is way) reached in
      stepped x e part whole (without_back whole ops back) (λ a. chain ops (a ∷ answers back views)) v (λ w. ap (λ d. value_of d (with_now x w views)) e_is ∙ split.value_is views w) split.way (first_undone whole ops back split.sums long)
      (found x part (without_back whole ops back) side rest split.way v v_is)
  found x _ _ _ (later e front part back ahead op behind whole side e_is reached long as_long rest) way v v_is =
      let split = split_way x front part back (ahead ++ op ∷ behind) (subst (IsOnWay x) e_is way) reached in
      stepped x e part whole (without_front op (front_part front ahead) (without_back whole behind back)) (λ a. chain (ahead ++ op ∷ behind) (answers front views ++ a ∷ answers back views)) v
      (λ w. ap (λ d. value_of d (with_now x w views)) e_is ∙ split.value_is views w) split.way (later_undone front back ahead op behind whole split.sums long as_long)
      (found x part (without_front op (front_part front ahead) (without_back whole behind back)) side rest split.way v v_is)

same_value : (t v : Value) → Is t ≡ Is v → v ≡ t
same_value t v e = cc

pub solved : (x : ℕ) (left right : Expr) (clause : Option ℕ) (side : Expr) → IsSolvedSide x (Valued left right clause) side → AreWellMade (Valued left right clause)
    → (views : Views) → (bare_count x left ≡ 0 → IsFitting views left) → (bare_count x right ≡ 0 → IsFitting views right) → (v : Value) → value_of side views ≡ Is v → Solves x (Valued left right clause) views (Ok v)
solved x left right clause side (inl (spine, undoes)) made views fits_left fits_right v v_is =
    let sided = left_sided x left right clause spine made in
    let (t, t_is, undone) = found views x left right side undoes sided.way v v_is in
    let only = undone (fits_right sided.none t t_is) in
    (only.0, (t, only.1, unread x v views right sided.none ∙ t_is), λ w fine one. only.2 w fine (one.1 ∙ ap Is (same_value t one.0 (sym t_is ∙ sym (unread x w views right sided.none) ∙ one.2))))
solved x left right clause side (inr (spine, undoes)) made views fits_left fits_right v v_is =
    let sided = right_sided x left right clause spine made in
    let (t, t_is, undone) = found views x right left side undoes sided.way v v_is in
    let only = undone (fits_left sided.none t t_is) in
    (only.0, (t, unread x v views left sided.none ∙ t_is, only.1), λ w fine one. only.2 w fine (one.2 ∙ ap Is (same_value t one.0 (sym t_is ∙ sym (unread x w views left sided.none) ∙ one.1))))
