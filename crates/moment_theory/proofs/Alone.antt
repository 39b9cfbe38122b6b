-- A name that is reached through sums, differences, minus and `not` has one value alone with which an expression has a result.
use Rattle.std.proofs.Common.{◌≡◌, refl, ap, ap₂, ◌∙◌, sym, subst, ℕ, suc, ◌<◌, ◌≤◌, ◌==◌, ◌&&◌, ◌||◌, Bool, true, false, List, [], ◌∷◌, map, length, Option, Some, None, arith}
use Rattle.std.proofs.lemmas.List.{length-map}
use Rattle.std.specs.List.{list_any, list_all}
use Rattle.std.proofs.lemmas.Bool.{false≢true, and_parts, eqb-true}
use Rattle.sync_values.specs.declared.value.Value.{Value}
use Rattle.sync_values.specs.declared.value.ChainOp.{ChainOp}
use Rattle.flat_model.specs.declared.expression.Expr.{Expr}
use Rattle.flat_model.specs.declared.clock.ClockExpr.{ClockExpr}
use Rattle.flat_model.specs.declared.clock.ClockExpr.TheOpen.{Expr-F}
use Rattle.flat_model.specs.declared.clock.ClockExpr.TheViews.{roll-Expr}
use Rattle.flat_model.specs.declared.clock.ClockExpr.TheFolds.{fold-Expr, ind-Expr, fold-roll-Expr, map-Expr}
use Rattle.flat_model.specs.Occurrences.{is_sum, reached_in_level, is_reached}
use Rattle.flat_model.specs.Operators.{Answer, Is, read, joined, chained, chain}
use Rattle.flat_model.specs.Views.{Views}
use Rattle.flat_model.specs.Meaning.{Meaning, meaning_of_level, seen_by, value_of}
use Rattle.flat_model.proofs.Above.{value_of_roll}
use Rattle.flat_model.specs.Asks.{OfNow, Asked, asked, asked_in_level, all_asked}
use Rattle.flat_model.proofs.Asks.{asked_roll}
use Rattle.flat_model.proofs.Links.{asked_bare}
use Rattle.moment_theory.proofs.PartsRest.{SameBut, same_without}
use Rattle.moment_theory.proofs.Stands.{stands_bare}
use Rattle.moment_theory.proofs.Sums.{AreSums, chain_start, one_start, one_right, one_negated, one_inverted, right_value}

-- whether each chain on the way has an operator between each part and the next
abbrev pub formed_level : Expr-F (Unit {0}) Bool → Bool
formed_level (Expr-F.Chain parts ops) = length parts == suc (length ops) && list_all (λ part. part) parts
formed_level (Expr-F.Neg part) = part
formed_level (Expr-F.Not part) = part
formed_level _ = true

unfoldable pub is_formed : Expr → Bool
is_formed = fold-Expr (Unit {0}) Bool (λ _. tt) formed_level

pub formed_roll : (y : Expr-F ClockExpr Expr) → is_formed (roll-Expr y) ≡ formed_level (map-Expr ClockExpr Expr (Unit {0}) Bool (λ _. tt) is_formed y)
unfolding is_formed
formed_roll y = fold-roll-Expr (Unit {0}) Bool (λ _. tt) formed_level y

reached_roll : (x : ℕ) (y : Expr-F ClockExpr Expr) → is_reached x (roll-Expr y) ≡ reached_in_level x (map-Expr ClockExpr Expr (Unit {0}) Bool (λ _. tt) (is_reached x) y)
unfolding is_reached
reached_roll x y = fold-roll-Expr (Unit {0}) Bool (λ _. tt) (reached_in_level x) y

sums_of : (ops : List ChainOp) → list_all is_sum ops ≡ true → AreSums ops
sums_of [] e = tt
sums_of (op ∷ ops) e = let h = and_parts (is_sum op) (list_all is_sum ops) e in (h.0, sums_of ops h.1)

module _ (x : ℕ) where
  abbrev count : Expr → ℕ
  count e = asked e 0 (OfNow x)

  -- two views that are the same but for the name now, and give one result, have the name alike
  abbrev Alone : Expr → Type 0
  Alone e = is_reached x e ≡ true → count e ≤ 1 → is_formed e ≡ true → (v w : Views) → SameBut x (asked e) v w → (c : Value) → value_of e v ≡ Is c → value_of e w ≡ Is c → (v 0).now x ≡ (w 0).now x

  some_count : (e : Expr) → is_reached x e ≡ true → 0 < count e
  some_count e reached = let bare = stands_bare x e reached in let same = asked_bare x e in omega (arith, bare, same)

  is_Some : (o p : Option Value) (c : Value) → read o ≡ Is c → read p ≡ Is c → o ≡ p
  is_Some (Some a) (Some b) c e f = let h : Is a ≡ Is b = e ∙ sym f in cc
  is_Some None p c e f = absurd cc
  is_Some (Some a) None c e f = absurd cc

  abbrev level_asked : Expr-F ClockExpr Expr → Asked
  level_asked y = asked_in_level (map-Expr ClockExpr Expr (Unit {0}) Asked (λ _. tt) asked y)

  module _ {A B : Type 0} (f : A → ClockExpr) (g : B → Expr) (all : (b : B) → Alone (g b)) where
    abbrev answers : List B → Views → List Answer
    answers ps v = seen_by v (map value_of (map g ps))

    abbrev asks_of : List B → Asked
    asks_of ps = all_asked (map asked (map g ps))

    abbrev any_reached : List B → Bool
    any_reached ps = list_any (λ b. b) (map (is_reached x) (map g ps))

    abbrev all_formed : List B → Bool
    all_formed ps = list_all (λ b. b) (map is_formed (map g ps))

    any_count : (ps : List B) → any_reached ps ≡ true → 0 < asks_of ps 0 (OfNow x)
    any_count [] any = absurd (false≢true any)
    any_count (p ∷ ps) any = by_reach (is_reached x (g p)) refl any (λ h. any_count ps h)
      where
        by_reach : (b : Bool) → is_reached x (g p) ≡ b → b || any_reached ps ≡ true → (any_reached ps ≡ true → 0 < asks_of ps 0 (OfNow x)) → 0 < asks_of (p ∷ ps) 0 (OfNow x)
        by_reach true r h rest = let some = some_count (g p) r in omega (arith, some)
        by_reach false r h rest = let some = rest h in omega (arith, some)

    rest_same : (ps : List B) (v w : Views) → asks_of ps 0 (OfNow x) ≡ 0 → SameBut x (asks_of ps) v w → answers ps v ≡ answers ps w
    rest_same [] v w none same = refl
    rest_same (p ∷ ps) v w none same =
        ap₂ (λ a rest. a ∷ rest) (same_without x (g p) v w (omega (arith, none)) (λ d q some other. same d q (omega (arith, some)) other))
        (rest_same ps v w (omega (arith, none)) (λ d q some other. same d q (omega (arith, some)) other))

    -- along a chain whose first parts are the same
    along : (ps : List B) (ops : List ChainOp) (first : Answer) → AreSums ops → length ps ≡ length ops → any_reached ps ≡ true → asks_of ps 0 (OfNow x) ≤ 1 → all_formed ps ≡ true
        → (v w : Views) → SameBut x (asks_of ps) v w → (c : Value) → chained first ops (answers ps v) ≡ Is c → chained first ops (answers ps w) ≡ Is c → (v 0).now x ≡ (w 0).now x
    along [] ops first sums long any few formed v w same c e k = absurd (false≢true any)
    along (p ∷ ps) [] first sums long any few formed v w same c e k = absurd (omega (arith, long))
    along (p ∷ ps) (op ∷ ops) first sums long any few formed v w same c e k =
        by_reach (is_reached x (g p)) refl any
        (λ h changed. along ps ops (joined op first (value_of (g p) w)) sums.1 (omega (arith, long)) h (omega (arith, few)) (and_parts (is_formed (g p)) (all_formed ps) formed).1 v w
        (λ d q some other. same d q (omega (arith, some)) other) c changed k)
      where
        by_reach : (b : Bool) → is_reached x (g p) ≡ b → b || any_reached ps ≡ true
            → (any_reached ps ≡ true → chained (joined op first (value_of (g p) w)) ops (answers ps v) ≡ Is c → (v 0).now x ≡ (w 0).now x) → (v 0).now x ≡ (w 0).now x
        by_reach true r h rest =
            let some = some_count (g p) r in
            let others = rest_same ps v w (omega (arith, few, some)) (λ d q more other. same d q (omega (arith, more)) other) in
            let e' : chained (joined op first (value_of (g p) v)) ops (answers ps w) ≡ Is c = ap (chained (joined op first (value_of (g p) v)) ops) (sym others) ∙ e in
            let joins = one_start ops (answers ps w) (joined op first (value_of (g p) v)) (joined op first (value_of (g p) w)) c sums.1 e' k in
            let (u, is) = chain_start ops (answers ps w) (joined op first (value_of (g p) w)) c sums.1 k in
            let parts = one_right op first (value_of (g p) v) (value_of (g p) w) u sums.0 (joins ∙ is) is in
            let (d, d_is) = right_value op first (value_of (g p) w) u sums.0 is in
            all p r (omega (arith, few)) (and_parts (is_formed (g p)) (all_formed ps) formed).0 v w (λ n q more other. same n q (omega (arith, more)) other) d (parts ∙ d_is) d_is
        by_reach false r h rest =
            let there = any_count ps h in
            let own = same_without x (g p) v w (omega (arith, few, there)) (λ d q some other. same d q (omega (arith, some)) other) in
            rest h (ap (λ a. chained (joined op first a) ops (answers ps v)) (sym own) ∙ e)

    chain_alone : (ps : List B) (ops : List ChainOp) → length ps ≡ suc (length ops) → AreSums ops → any_reached ps ≡ true → asks_of ps 0 (OfNow x) ≤ 1 → all_formed ps ≡ true
        → (v w : Views) → SameBut x (asks_of ps) v w → (c : Value) → chain ops (answers ps v) ≡ Is c → chain ops (answers ps w) ≡ Is c → (v 0).now x ≡ (w 0).now x
    chain_alone [] ops long sums any few formed v w same c e k = absurd (false≢true any)
    chain_alone (p ∷ ps) ops long sums any few formed v w same c e k = by_reach (is_reached x (g p)) refl any
      where
        by_reach : (b : Bool) → is_reached x (g p) ≡ b → b || any_reached ps ≡ true → (v 0).now x ≡ (w 0).now x
        by_reach true r h =
            let some = some_count (g p) r in
            let others = rest_same ps v w (omega (arith, few, some)) (λ d q more other. same d q (omega (arith, more)) other) in
            let e' : chained (value_of (g p) v) ops (answers ps w) ≡ Is c = ap (chained (value_of (g p) v) ops) (sym others) ∙ e in
            let parts = one_start ops (answers ps w) (value_of (g p) v) (value_of (g p) w) c sums e' k in
            let (d, is) = chain_start ops (answers ps w) (value_of (g p) w) c sums k in
            all p r (omega (arith, few)) (and_parts (is_formed (g p)) (all_formed ps) formed).0 v w (λ n q more other. same n q (omega (arith, more)) other) d (parts ∙ is) is
        by_reach false r h =
            let there = any_count ps h in
            let own = same_without x (g p) v w (omega (arith, few, there)) (λ d q some other. same d q (omega (arith, some)) other) in
            along ps ops (value_of (g p) w) sums (omega (arith, long)) h (omega (arith, few)) (and_parts (is_formed (g p)) (all_formed ps) formed).1 v w
            (λ d q some other. same d q (omega (arith, some)) other) c (ap (λ a. chained a ops (answers ps v)) (sym own) ∙ e) k

    level_alone : (y : Expr-F A B) → reached_in_level x (map-Expr ClockExpr Expr (Unit {0}) Bool (λ _. tt) (is_reached x) (map-Expr A B ClockExpr Expr f g y)) ≡ true
        → level_asked (map-Expr A B ClockExpr Expr f g y) 0 (OfNow x) ≤ 1 → formed_level (map-Expr ClockExpr Expr (Unit {0}) Bool (λ _. tt) is_formed (map-Expr A B ClockExpr Expr f g y)) ≡ true
        → (v w : Views) → SameBut x (level_asked (map-Expr A B ClockExpr Expr f g y)) v w → (c : Value)
        → meaning_of_level (map-Expr ClockExpr Expr (Unit {0}) Meaning (λ _. tt) value_of (map-Expr A B ClockExpr Expr f g y)) v ≡ Is c
        → meaning_of_level (map-Expr ClockExpr Expr (Unit {0}) Meaning (λ _. tt) value_of (map-Expr A B ClockExpr Expr f g y)) w ≡ Is c → (v 0).now x ≡ (w 0).now x
    level_alone (Expr-F.Read n) r few formed v w same c e k = subst (λ z. (v 0).now z ≡ (w 0).now z) (eqb-true n x r) (is_Some ((v 0).now n) ((w 0).now n) c e k)
    level_alone (Expr-F.Chain ps ops) r few formed v w same c e k =
        let reached = and_parts (list_all is_sum ops) (any_reached ps) r in
        let whole = and_parts (length (map is_formed (map g ps)) == suc (length ops)) (all_formed ps) formed in
        chain_alone ps ops (let h = eqb-true (length (map is_formed (map g ps))) (suc (length ops)) whole.0 in let i = length-map (map g ps) is_formed in let j = length-map ps g in omega (arith, h, i, j))
        (sums_of ops reached.0) reached.1 few whole.1 v w same c e k
    level_alone (Expr-F.Neg a) r few formed v w same c e k =
        let (d, one, two) = one_negated (value_of (g a) v) (value_of (g a) w) c e k in all a r few formed v w same d one two
    level_alone (Expr-F.Not a) r few formed v w same c e k =
        let (d, one, two) = one_inverted (value_of (g a) v) (value_of (g a) w) c e k in all a r few formed v w same d one two
    level_alone (Expr-F.Const n) r few formed v w same c e k = absurd (false≢true r)
    level_alone (Expr-F.Relation rel a b) r few formed v w same c e k = absurd (false≢true r)
    level_alone (Expr-F.If cs bs other) r few formed v w same c e k = absurd (false≢true r)
    level_alone (Expr-F.Apply function ps) r few formed v w same c e k = absurd (false≢true r)
    level_alone (Expr-F.Previous n) r few formed v w same c e k = absurd (false≢true r)
    level_alone (Expr-F.FirstTick n) r few formed v w same c e k = absurd (false≢true r)
    level_alone (Expr-F.IntervalTimes n i) r few formed v w same c e k = absurd (false≢true r)
    level_alone (Expr-F.Hold n) r few formed v w same c e k = absurd (false≢true r)
    level_alone (Expr-F.«Expr::Convert» conversion n) r few formed v w same c e k = absurd (false≢true r)
    level_alone (Expr-F.Sample a clock) r few formed v w same c e k = absurd (false≢true r)

    rolled : (y : Expr-F A B) → Alone (roll-Expr (map-Expr A B ClockExpr Expr f g y))
    rolled y r few formed v w same c e k =
        let z = map-Expr A B ClockExpr Expr f g y in
        level_alone y (sym (reached_roll x z) ∙ r) (subst (λ n. n ≤ 1) (asked_roll z 0 (OfNow x)) few) (sym (formed_roll z) ∙ formed) v w
        (λ d q some other. same d q (subst (λ n. 0 < n) (sym (asked_roll z d q)) some) other) c (sym (value_of_roll z v) ∙ e) (sym (value_of_roll z w) ∙ k)

  pub alone : (e : Expr) → Alone e
  alone = ind-Expr (λ c. Unit {0}) Alone (λ a b is. tt) (λ a y is. subst (λ z. Alone (roll-Expr z)) is (rolled (λ c. c.0) (λ e. e.0) (λ e. e.1) y))
