-- A value with which an expression has a value of its shape is of the shape of its name, where the name is reached.
use Rattle.std.proofs.Common.{◌≡◌, refl, ap, sym, subst, ◌∙◌, ℕ, ◌&&◌, ◌||◌, Bool, true, false, List, [], ◌∷◌, map, length, Option, Some, ℤ, arith}
use Rattle.std.specs.List.{list_any, list_all}
use Rattle.std.proofs.lemmas.List.{length-map}
use Rattle.std.proofs.lemmas.Bool.{false≢true, and_parts, eqb-true}
use Rattle.std.proofs.lemmas.Option.{same_Some, none-some}
use Rattle.sync_values.specs.declared.value.Value.{Value}
use Rattle.sync_values.specs.declared.value.Value.TheVariants as value
use Rattle.sync_values.specs.declared.value.Fail.{Fail}
use Rattle.sync_values.specs.declared.value.ChainOp.{ChainOp}
use Rattle.sync_values.specs.declared.value.ChainOp.TheVariants.{Plus, Minus, Times, Over, And, Or}
use Rattle.flat_model.specs.declared.model.NameKind.{NameKind}
use Rattle.flat_model.specs.declared.model.NameKind.TheVariants as kind
use Rattle.flat_model.specs.declared.expression.Expr.{Expr}
use Rattle.flat_model.specs.declared.clock.ClockExpr.{ClockExpr}
use Rattle.flat_model.specs.declared.clock.ClockExpr.TheOpen.{Expr-F}
use Rattle.flat_model.specs.declared.clock.ClockExpr.TheViews.{roll-Expr}
use Rattle.flat_model.specs.declared.clock.ClockExpr.TheFolds.{ind-Expr, fold-roll-Expr, map-Expr}
use Rattle.flat_model.specs.Meaning.{Meaning, meaning_of_level, seen_by, value_of}
use Rattle.flat_model.specs.Occurrences.{is_sum, reached_in_level, is_reached}
use Rattle.flat_model.specs.Operators.{Answer, Is, Fails, Absent, read, joined, chained, chain, negated, inverted}
use Rattle.flat_model.specs.Typing.{Types, valued_type, is_type, chain_type, type_of_operator, type_of, type_of_level}
use Rattle.flat_model.specs.Views.{Views}
use Rattle.flat_model.proofs.Above.{value_of_roll}
use Rattle.flat_model.proofs.Typed.{both, typed_some, is_type_some}
use Rattle.moment_theory.proofs.Sums.{AreSums, chain_start}
use Rattle.solved_use.proofs.Beside.{type_roll}
use Rattle.solved_use.proofs.Shapes.{Shape, IsTypedChain, typed_chain}

fails_is : (k : Fail) (v : Value) → Fails k ≡ Is v → ⊥
fails_is k v e = cc

absent_is : (v : Value) → Absent ≡ Is v → ⊥
absent_is v e = cc

same_Is : (a b : Value) → Is a ≡ Is b → a ≡ b
same_Is a b e = cc

abbrev IsNumber : Answer → Type 0
IsNumber a = (z : ℤ) × (a ≡ Is (value.Int z))

-- the operands of a sum or a difference that has a value are numbers
numbers : (op : ChainOp) (l r : Answer) (v : Value) → is_sum op ≡ true → joined op l r ≡ Is v → IsNumber l × IsNumber r
numbers Plus (Is (value.Int a)) (Is (value.Int b)) v sum e = ((a, refl), (b, refl))
numbers Minus (Is (value.Int a)) (Is (value.Int b)) v sum e = ((a, refl), (b, refl))
numbers Plus (Is (value.Int a)) (Is (value.Bool b)) v sum e = absurd (absent_is v e)
numbers Minus (Is (value.Int a)) (Is (value.Bool b)) v sum e = absurd (absent_is v e)
numbers Plus (Is (value.Bool a)) (Is b) v sum e = absurd (absent_is v e)
numbers Minus (Is (value.Bool a)) (Is b) v sum e = absurd (absent_is v e)
numbers Plus (Is a) (Fails k) v sum e = absurd (fails_is k v e)
numbers Minus (Is a) (Fails k) v sum e = absurd (fails_is k v e)
numbers Plus (Is a) Absent v sum e = absurd (absent_is v e)
numbers Minus (Is a) Absent v sum e = absurd (absent_is v e)
numbers Plus (Fails k) r v sum e = absurd (fails_is k v e)
numbers Minus (Fails k) r v sum e = absurd (fails_is k v e)
numbers Plus Absent r v sum e = absurd (absent_is v e)
numbers Minus Absent r v sum e = absurd (absent_is v e)
numbers Times l r v sum e = absurd (false≢true sum)
numbers Over l r v sum e = absurd (false≢true sum)
numbers And l r v sum e = absurd (false≢true sum)
numbers Or l r v sum e = absurd (false≢true sum)

negated_number : (a : Answer) (v : Value) → negated a ≡ Is v → IsNumber a
negated_number (Is (value.Int z)) v e = (z, refl)
negated_number (Is (value.Bool b)) v e = absurd (absent_is v e)
negated_number (Fails k) v e = absurd (fails_is k v e)
negated_number Absent v e = absurd (absent_is v e)

inverted_truth : (a : Answer) (v : Value) → inverted a ≡ Is v → (b : Bool) × (a ≡ Is (value.Bool b))
inverted_truth (Is (value.Bool b)) v e = (b, refl)
inverted_truth (Is (value.Int z)) v e = absurd (absent_is v e)
inverted_truth (Fails k) v e = absurd (fails_is k v e)
inverted_truth Absent v e = absurd (absent_is v e)

sum_type : (op : ChainOp) (type : NameKind) → is_sum op ≡ true → type_of_operator op ≡ Some type → kind.Integer ≡ type
sum_type Plus type sum is = same_Some kind.Integer type is
sum_type Minus type sum is = same_Some kind.Integer type is
sum_type Times type sum is = absurd (false≢true sum)
sum_type Over type sum is = absurd (false≢true sum)
sum_type And type sum is = absurd (false≢true sum)
sum_type Or type sum is = absurd (false≢true sum)

sums_of : (ops : List ChainOp) → list_all is_sum ops ≡ true → AreSums ops
sums_of [] e = tt
sums_of (op ∷ ops) e = let h = and_parts (is_sum op) (list_all is_sum ops) e in (h.0, sums_of ops h.1)

reached_roll : (x : ℕ) (y : Expr-F ClockExpr Expr) → is_reached x (roll-Expr y) ≡ reached_in_level x (map-Expr ClockExpr Expr (Unit {0}) Bool (λ _. tt) (is_reached x) y)
unfolding is_reached
reached_roll x y = fold-roll-Expr (Unit {0}) Bool (λ _. tt) (reached_in_level x) y

read_some : (o : Option Value) (v u : Value) → o ≡ Some v → read o ≡ Is u → u ≡ v
read_some o v u now is = let h : Is u ≡ Is v = sym is ∙ ap read now in same_Is u v h

module _ (types : Types) (x : ℕ) where
  abbrev pub Shaped : Expr → Type 0
  Shaped e = (type : NameKind) → is_reached x e ≡ true → type_of types e ≡ Some type → (views : Views) (u : Value) → value_of e views ≡ Is u → Shape type u
      → (v : Value) → (views 0).now x ≡ Some v → (own : NameKind) → valued_type (types x) ≡ Some own → Shape own v

  module _ {A B : Type 0} (f : A → ClockExpr) (g : B → Expr) (all : (b : B) → Shaped (g b)) where
    abbrev answers : List B → Views → List Answer
    answers ps v = seen_by v (map value_of (map g ps))

    abbrev any_reached : List B → Bool
    any_reached ps = list_any (λ b. b) (map (is_reached x) (map g ps))

    abbrev are_numbers : List B → Bool
    are_numbers ps = list_all (is_type kind.Integer) (map (type_of types) (map g ps))

    module _ (views : Views) (v : Value) (now : (views 0).now x ≡ Some v) (own : NameKind) (own_is : valued_type (types x) ≡ Some own) where
      at_part : (p : B) → is_reached x (g p) ≡ true → is_type kind.Integer (type_of types (g p)) ≡ true → IsNumber (value_of (g p) views) → Shape own v
      at_part p reached is (z, at) = all p kind.Integer reached (is_type_some kind.Integer _ is) views (value.Int z) at tt v now own own_is

      along : (ps : List B) (ops : List ChainOp) (first : Answer) (u : Value) → AreSums ops → length ps ≡ length ops → any_reached ps ≡ true → are_numbers ps ≡ true
          → chained first ops (answers ps views) ≡ Is u → Shape own v
      along [] ops first u sums long any are e = absurd (false≢true any)
      along (p ∷ ps) [] first u sums long any are e = absurd (omega (arith, long))
      along (p ∷ ps) (op ∷ ops) first u sums long any are e =
          by_reach (is_reached x (g p)) refl any (λ h. along ps ops (joined op first (value_of (g p) views)) u sums.1 (omega (arith, long)) h of.1 e)
        where
          of : (is_type kind.Integer (type_of types (g p)) ≡ true) × (are_numbers ps ≡ true)
          of = both (is_type kind.Integer (type_of types (g p))) (are_numbers ps) are

          start : (w : Value) × (joined op first (value_of (g p) views) ≡ Is w)
          start = chain_start ops (answers ps views) (joined op first (value_of (g p) views)) u sums.1 e

          by_reach : (b : Bool) → is_reached x (g p) ≡ b → b || any_reached ps ≡ true → (any_reached ps ≡ true → Shape own v) → Shape own v
          by_reach true r h rest = at_part p r of.0 (numbers op first (value_of (g p) views) start.0 sums.0 start.1).1
          by_reach false r h rest = rest h

      head : (p q : B) (ps : List B) (op : ChainOp) (ops : List ChainOp) (u : Value) → AreSums (op ∷ ops) → length ps ≡ length ops → any_reached (p ∷ (q ∷ ps)) ≡ true → are_numbers (p ∷ (q ∷ ps)) ≡ true
          → chain (op ∷ ops) (answers (p ∷ (q ∷ ps)) views) ≡ Is u → Shape own v
      head p q ps op ops u sums long any are e = by_reach (is_reached x (g p)) refl any
        where
          of : (is_type kind.Integer (type_of types (g p)) ≡ true) × (are_numbers (q ∷ ps) ≡ true)
          of = both (is_type kind.Integer (type_of types (g p))) (are_numbers (q ∷ ps)) are

          start : (w : Value) × (joined op (value_of (g p) views) (value_of (g q) views) ≡ Is w)
          start = chain_start ops (answers ps views) (joined op (value_of (g p) views) (value_of (g q) views)) u sums.1 e

          by_reach : (b : Bool) → is_reached x (g p) ≡ b → b || any_reached (q ∷ ps) ≡ true → Shape own v
          by_reach true r h = at_part p r of.0 (numbers op (value_of (g p) views) (value_of (g q) views) start.0 sums.0 start.1).0
          by_reach false r h = along (q ∷ ps) (op ∷ ops) (value_of (g p) views) u sums (omega (arith, long)) h of.1 e

      in_chain : (ps : List B) (ops : List ChainOp) (type : NameKind) (u : Value) → list_all is_sum ops && any_reached ps ≡ true → chain_type (map (type_of types) (map g ps)) ops ≡ Some type
          → chain ops (answers ps views) ≡ Is u → Shape own v
      in_chain ps [] type u r is e = absurd (none-some type is)
      in_chain ps (op ∷ ops) type u r is e = by_parts ps (and_parts (list_all is_sum (op ∷ ops)) (any_reached ps) r).1 (typed_chain (map (type_of types) (map g ps)) op ops type is) e
        where
          sums : AreSums (op ∷ ops)
          sums = sums_of (op ∷ ops) (and_parts (list_all is_sum (op ∷ ops)) (any_reached ps) r).0

          long_of : (qs : List B) → length (map (type_of types) (map g qs)) ≡ length qs
          long_of qs = length-map (map g qs) (type_of types) ∙ length-map qs g

          by_parts : (qs : List B) → any_reached qs ≡ true → IsTypedChain (map (type_of types) (map g qs)) op ops type → chain (op ∷ ops) (answers qs views) ≡ Is u → Shape own v
          by_parts [] any typed e = absurd (false≢true any)
          by_parts (p ∷ []) any typed e = absurd (let h = typed.long in let l = long_of (p ∷ []) in omega (arith, h, l))
          by_parts (p ∷ (q ∷ qs)) any typed e =
              head p q qs op ops u sums (let h = typed.long in let l = long_of (p ∷ (q ∷ qs)) in omega (arith, h, l)) any
              (subst (λ t. list_all (is_type t) (map (type_of types) (map g (p ∷ (q ∷ qs)))) ≡ true) (sym (sum_type op type sums.0 typed.operator)) typed.parts_are) e

    level_shaped : (y : Expr-F A B) (type : NameKind) → reached_in_level x (map-Expr ClockExpr Expr (Unit {0}) Bool (λ _. tt) (is_reached x) (map-Expr A B ClockExpr Expr f g y)) ≡ true
        → type_of_level types (map-Expr ClockExpr Expr (Unit {0}) (Option NameKind) (λ _. tt) (type_of types) (map-Expr A B ClockExpr Expr f g y)) ≡ Some type
        → (views : Views) (u : Value) → meaning_of_level (map-Expr ClockExpr Expr (Unit {0}) Meaning (λ _. tt) value_of (map-Expr A B ClockExpr Expr f g y)) views ≡ Is u → Shape type u
        → (v : Value) → (views 0).now x ≡ Some v → (own : NameKind) → valued_type (types x) ≡ Some own → Shape own v
    level_shaped (Expr-F.Read n) type r is views u e shape v now own own_is =
        let same : n ≡ x = eqb-true n x r in
        let kinds : type ≡ own = same_Some type own (sym is ∙ ap (λ z. valued_type (types z)) same ∙ own_is) in
        let values : u ≡ v = read_some ((views 0).now n) v u (ap (λ z. (views 0).now z) same ∙ now) e in
        subst (λ k. Shape k v) kinds (subst (Shape type) values shape)
    level_shaped (Expr-F.Chain ps ops) type r is views u e shape v now own own_is = in_chain views v now own own_is ps ops type u r is e
    level_shaped (Expr-F.Neg a) type r is views u e shape v now own own_is =
        let of = typed_some (is_type kind.Integer (type_of types (g a))) kind.Integer type is in
        let (z, at) = negated_number (value_of (g a) views) u e in
        all a kind.Integer r (is_type_some kind.Integer _ of.0) views (value.Int z) at tt v now own own_is
    level_shaped (Expr-F.Not a) type r is views u e shape v now own own_is =
        let of = typed_some (is_type kind.Boolean (type_of types (g a))) kind.Boolean type is in
        let (b, at) = inverted_truth (value_of (g a) views) u e in
        all a kind.Boolean r (is_type_some kind.Boolean _ of.0) views (value.Bool b) at tt v now own own_is
    level_shaped (Expr-F.Const n) type r is views u e shape v now own own_is = absurd (false≢true r)
    level_shaped (Expr-F.Relation rel a b) type r is views u e shape v now own own_is = absurd (false≢true r)
    level_shaped (Expr-F.If cs bs other) type r is views u e shape v now own own_is = absurd (false≢true r)
    level_shaped (Expr-F.Apply function ps) type r is views u e shape v now own own_is = absurd (false≢true r)
    level_shaped (Expr-F.Previous n) type r is views u e shape v now own own_is = absurd (false≢true r)
    level_shaped (Expr-F.FirstTick n) type r is views u e shape v now own own_is = absurd (false≢true r)
    level_shaped (Expr-F.IntervalTimes n i) type r is views u e shape v now own own_is = absurd (false≢true r)
    level_shaped (Expr-F.Hold n) type r is views u e shape v now own own_is = absurd (false≢true r)
    level_shaped (Expr-F.«Expr::Convert» conversion n) type r is views u e shape v now own own_is = absurd (false≢true r)
    level_shaped (Expr-F.Sample a clock) type r is views u e shape v now own own_is = absurd (false≢true r)

    rolled : (y : Expr-F A B) → Shaped (roll-Expr (map-Expr A B ClockExpr Expr f g y))
    rolled y type r is views u e shape v now own own_is =
        let z = map-Expr A B ClockExpr Expr f g y in
        level_shaped y type (sym (reached_roll x z) ∙ r) (sym (type_roll types z) ∙ is) views u (sym (value_of_roll z views) ∙ e) shape v now own own_is

  pub shaped : (e : Expr) → Shaped e
  shaped = ind-Expr (λ c. Unit {0}) Shaped (λ a b is. tt) (λ a y is. subst (λ z. Shaped (roll-Expr z)) is (rolled (λ c. c.0) (λ e. e.0) (λ e. e.1) y))
