-- Where no parameter waits for itself and nothing fails, each value that is needed is there.
use Rattle.std.proofs.Common.{◌≡◌, refl, ap, sym, ◌∙◌, subst, ℕ, zero, suc, ◌<◌, ◌⊎◌, inl, inr, Bool, true, false, cond, List, [], ◌∷◌, ◌++◌, length, map, filter, Option, Some, None, option_and_then, slice_get, Contains, arith}
use Rattle.sync_values.specs.declared.value.Value.{Value}
use Rattle.mo_order.specs.Graphs.{IsOrder}
use Rattle.mo_order.specs.Values.{Slots}
use Rattle.mo_order.proofs.Places.{get_within, get_inside}
use Rattle.mo_parser.specs.declared.tree.ClassDef.{ClassDef}
use Rattle.class_scopes.specs.Spelled.{Ident, idents, dotted}
use Rattle.class_scopes.specs.Tables.{Numbered, number_of}
use Rattle.class_scopes.specs.Types.{kind_of}
use Rattle.flat_instances.specs.Instances.{Placed, Variable}
use Rattle.parameter_values.specs.Values.{Values, AreValues, is_parameter, value_by, value_expr, value_from, parameter_named}
use Rattle.parameter_values.specs.Slots.{seen, IsTableOfParameters}
use Rattle.parameter_values.specs.Givens.{Valued, valued_of}
use Rattle.parameter_values.proofs.Slots.{numbered}
use Rattle.value_rules.specs.N6 as N6
use Rattle.value_rules.specs.N7 as N7
use Rattle.value_rules.specs.private.Missing.{missing_reads, waiting}
use Rattle.value_rules.proofs.Closed.{closed}
use Rattle.value_rules.proofs.Reading.{read_misses, misses_read, read_below, long_map}
use Rattle.value_rules.proofs.Waiting.{waits_edge}

filter_stands : {A : Type 0} (t : A → Bool) (xs : List A) (k : ℕ) (v : A) → slice_get (filter t xs) k ≡ Some v → (x : ℕ) × (slice_get xs x ≡ Some v) × (t v ≡ true)
filter_stands t [] k v at = absurd (cc at)
filter_stands t (x ∷ xs) k v at = by (t x) refl k at (filter_stands t xs)
  where
    by : (b : Bool) → t x ≡ b → (k : ℕ) → slice_get (cond b (x ∷ filter t xs) (filter t xs)) k ≡ Some v
        → ((k : ℕ) (v : _) → slice_get (filter t xs) k ≡ Some v → (x : ℕ) × (slice_get xs x ≡ Some v) × (t v ≡ true))
        → (y : ℕ) × (slice_get (x ∷ xs) y ≡ Some v) × (t v ≡ true)
    by true e zero at again = let same : x ≡ v = cc at in (0, at, ap t (sym same) ∙ e)
    by true e (suc k) at again = let r = again k v at in (suc r.0, r.1, r.2)
    by false e k at again = let r = again k v at in (suc r.0, r.1, r.2)

module _ (text : List ℕ) (classes : List ClassDef) (all : List Variable) (table : Numbered) (found : Slots) (count : ℕ) (is_table : IsTableOfParameters all table)
    (many : count ≡ length (N6.parameters text classes all)) (are : AreValues text classes all (seen table found)) where
  abbrev values : Values
  values = seen table found

  -- a parameter that has no value
  abbrev IsWithout : ℕ → Variable → Type 0
  IsWithout y one = (slice_get (N6.parameters text classes all) y ≡ Some one) × (value_from text classes values one ≡ None)

  -- what an expression misses is without a value
  without : (placed : Placed) (y : ℕ) → N6.Misses text classes all values placed y → (one : Variable) × IsWithout y one
  without placed y m =
      let below = read_below text table found count placed.scope placed.expr y (misses_read text classes all table found count is_table many placed y m) in
      let there = get_inside (N6.parameters text classes all) y (omega (arith, below, many)) in
      let name = placed.scope ++ dotted (idents text m.path) in
      let at : number_of table name ≡ Some y = is_table name ∙ m.number in
      let named : parameter_named text classes all name ≡ Some there.0 =
      sym (numbered text classes all table is_table name) ∙ ap (option_and_then (slice_get (N6.parameters text classes all))) at ∙ there.1 in
      (there.0, (there.1, by there.0 name named m.none (value_from text classes values there.0) refl))
    where
      by : (one : Variable) (name : Ident) → parameter_named text classes all name ≡ Some one → values name ≡ None → (o : Option Value) → value_from text classes values one ≡ o
          → value_from text classes values one ≡ None
      by one name named none None is = is
      by one name named none (Some w) is = absurd (let has = closed text classes all values are name one w named is in cc (sym none ∙ has))

  -- an expression misses nothing, or some parameter
  decide : (placed : Placed) → ((y : ℕ) → N6.Misses text classes all values placed y → ⊥) ⊎ ((y : ℕ) × N6.Misses text classes all values placed y)
  decide placed = by (missing_reads text table found count placed.scope placed.expr) refl
    where
      by : (l : List ℕ) → missing_reads text table found count placed.scope placed.expr ≡ l
          → ((y : ℕ) → N6.Misses text classes all values placed y → ⊥) ⊎ ((y : ℕ) × N6.Misses text classes all values placed y)
      by [] is = inl (λ y m. let at = subst (λ l. Contains l y) is (misses_read text classes all table found count is_table many placed y m) in omega (arith, at.1))
      by (y ∷ l) is = inr (y, read_misses text classes all table found count is_table many placed y (subst (λ z. Contains z y) (sym is) (0, omega arith, refl)))

  module _ (items : List Valued) (same : items ≡ map (valued_of text classes) (N6.parameters text classes all)) (order : List ℕ)
      (is : IsOrder (map (waiting text table found count) items) order) (typed : N7.AreTyped text classes all) (none : (x : ℕ) → N7.FailsAt text classes all values x → ⊥) where
    place_of : (y : ℕ) (one : Variable) → slice_get (N6.parameters text classes all) y ≡ Some one → (i : ℕ) × (slice_get order i ≡ Some y)
    place_of y one at =
        let below = get_within (N6.parameters text classes all) y one at in
        let one = long_map (waiting text table found count) items in
        let two : length items ≡ length (map (valued_of text classes) (N6.parameters text classes all)) = ap length same in
        let three = long_map (valued_of text classes) (N6.parameters text classes all) in
        is.every y (omega (arith, below, one, two, three))

    -- a parameter without a value waits for another
    next : (y : ℕ) (one : Variable) → IsWithout y one → (z : ℕ) × N6.WaitsFor text classes all values y z
    next y one (at, lacks) = with_expr (value_expr text classes one) refl
      where
        stands : (x : ℕ) × (slice_get all x ≡ Some one) × (is_parameter one ≡ true)
        stands = filter_stands is_parameter all y one at

        with_reads : (expr : Placed) → value_expr text classes one ≡ Some expr
            → ((y : ℕ) → N6.Misses text classes all values expr y → ⊥) ⊎ ((y : ℕ) × N6.Misses text classes all values expr y) → (z : ℕ) × N6.WaitsFor text classes all values y z
        with_reads expr there (inl free) =
            absurd (none stands.0 (record { v = one; expr = expr; stands = stands.1; lacks = N7.Lacks.own expr stands.2 there lacks; reads = free }))
        with_reads expr there (inr m) = (m.0, record { one = one; expr = expr; stands = at; valued = there; none = lacks; misses = m.1 })

        with_expr : (o : Option Placed) → value_expr text classes one ≡ o → (z : ℕ) × N6.WaitsFor text classes all values y z
        with_expr None there = absurd (typed stands.0 one stands.1 stands.2 (sym (ap (value_by text classes values (kind_of text classes one.type)) there) ∙ lacks))
        with_expr (Some expr) there = with_reads expr there (decide expr)

    descends : (fuel i y : ℕ) (one : Variable) → i < fuel → slice_get order i ≡ Some y → IsWithout y one → ⊥
    descends zero i y one less at lacks = omega (arith, less)
    descends (suc fuel) i y one less at lacks =
        let step = next y one lacks in
        let other = without step.1.expr step.0 step.1.misses in
        let there = place_of step.0 other.0 other.1.0 in
        let falls = is.falls i there.0 y step.0 at there.1 (waits_edge text classes all table found count is_table many items same y step.0 step.1) in
        descends fuel there.0 step.0 other.0 (omega (arith, falls, less)) there.1 other.1

    pub has_all : N7.HasAll text classes all values
    has_all x v placed at lacks = by (decide placed)
      where
        by : ((y : ℕ) → N6.Misses text classes all values placed y → ⊥) ⊎ ((y : ℕ) × N6.Misses text classes all values placed y) → ⊥
        by (inl free) = none x (record { v = v; expr = placed; stands = at; lacks = lacks; reads = free })
        by (inr m) =
            let other = without placed m.0 m.1 in
            let there = place_of m.0 other.0 other.1.0 in
            descends (suc there.0) there.0 m.0 other.0 (omega arith) there.1 other.1
