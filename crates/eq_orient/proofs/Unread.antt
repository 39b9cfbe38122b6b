-- An expression in which a name does not stand bare has the same value whatever the name's value is now.
use Rattle.std.proofs.Common.{◌≡◌, refl, ap, ap₂, sym, subst, ℕ, cond, List, [], ◌∷◌, ◌++◌, Some, map, sum, length, arith}
use Rattle.std.proofs.Math.Path.{fun_ext}
use Rattle.std.proofs.Common.{add-one}
use Rattle.std.proofs.lemmas.Bool.{ne_eqb}
use Rattle.std.proofs.lemmas.List.Sums.{sum_by-cons}
use Rattle.sync_values.specs.declared.value.Value.{Value}
use Rattle.sync_values.specs.declared.value.ChainOp.{ChainOp}
use Rattle.flat_model.specs.declared.expression.Expr.{Expr}
use Rattle.flat_model.specs.Occurrences.{bare_count}
use Rattle.flat_model.specs.Operators.{Answer, chain, chained, joined}
use Rattle.flat_model.specs.Views.{Views, before}
use Rattle.flat_model.specs.Meaning.{value_of, answers}
use Rattle.flat_model.proofs.Dependence.{AgreeOn, counted_agree, value_rests}
use Rattle.eq_orient.specs.Solving.{with_now}

others_now : (x : ℕ) (w : Value) (views : Views) (y : ℕ) → (y ≡ x → ⊥) → (with_now x w views 0).now y ≡ (views 0).now y
others_now x w views y other = ap (λ b. cond b (Some w) ((views 0).now y)) (ne_eqb y x other)

agree : (x : ℕ) (w : Value) (views : Views) (e : Expr) → bare_count x e ≡ 0 → AgreeOn e (with_now x w views) views
agree x w views e none = counted_agree e (with_now x w views) views (record {
  now = λ y some. others_now x w views y (λ same. let moved : bare_count y e ≡ bare_count x e = ap (λ z. bare_count z e) same in omega (arith, some, moved, none));
  held = λ y some. refl;
  converted = λ y some. refl;
  sampled = λ some. fun_ext (λ back. subst (λ k. with_now x w views k ≡ views k) (sym (add-one back)) refl);
  previous = λ y. refl;
  first = refl;
  interval = refl;
})

pub unread : (x : ℕ) (w : Value) (views : Views) (e : Expr) → bare_count x e ≡ 0 → value_of e (with_now x w views) ≡ value_of e views
unread x w views e none = value_rests e (with_now x w views) views (agree x w views e none)

pub unread_all : (x : ℕ) (w : Value) (views : Views) (es : List Expr) → sum (map (bare_count x) es) ≡ 0 → answers es (with_now x w views) ≡ answers es views
unread_all x w views [] none = refl
unread_all x w views (e ∷ es) none =
    let total = sum_by-cons (λ (n : ℕ). n) (bare_count x e) (map (bare_count x) es) in
    ap₂ (λ a rest. a ∷ rest) (unread x w views e (omega (arith, none, total))) (unread_all x w views es (omega (arith, none, total)))

-- a chain by the part in its middle: what stands before it is one part, and what stands behind it follows
pub chained_middle : (front : List ChainOp) (op : ChainOp) (rest : List ChainOp) (before : List Answer) (part : Answer) (after : List Answer) (a : Answer)
    → length before ≡ length front → chained a (front ++ op ∷ rest) (before ++ part ∷ after) ≡ chained (joined op (chained a front before) part) rest after
chained_middle [] op rest [] part after a same = refl
chained_middle [] op rest (b ∷ before) part after a same = absurd (omega (arith, same))
chained_middle (o ∷ front) op rest [] part after a same = absurd (omega (arith, same))
chained_middle (o ∷ front) op rest (b ∷ before) part after a same = chained_middle front op rest before part after (joined o a b) (omega (arith, same))

pub chain_middle : (front : List ChainOp) (op : ChainOp) (rest : List ChainOp) (first : Answer) (before : List Answer) (part : Answer) (after : List Answer)
    → length before ≡ length front → chain (front ++ op ∷ rest) (first ∷ before ++ part ∷ after) ≡ chained (joined op (chain front (first ∷ before)) part) rest after
chain_middle front op rest first before part after same = chained_middle front op rest before part after first same
