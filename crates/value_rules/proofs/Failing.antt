-- N7, from the first variable of which something fails.
use Rattle.std.proofs.Common.{◌≡◌, refl, ap, sym, ◌∙◌, subst, ℕ, Bool, true, false, ◌||◌, if◌then◌else◌, List, [], ◌∷◌, length, map, Option, Some, None, slice_get, Contains, arith}
use Rattle.std.specs.List.{position_from}
use Rattle.mo_order.specs.Values.{Slots}
use Rattle.mo_parser.specs.declared.tree.ClassDef.{ClassDef}
use Rattle.flat_model.specs.declared.model.NameKind.{NameKind}
use Rattle.class_scopes.specs.Faults.{IsFirstOf, IsFirstPlace}
use Rattle.class_scopes.specs.Tables.{Numbered}
use Rattle.class_scopes.specs.Types.{kind_of}
use Rattle.flat_instances.specs.Instances.{Placed, Variable}
use Rattle.parameter_values.specs.Values.{Values, AreValues, is_parameter, value_by, value_expr}
use Rattle.parameter_values.specs.Slots.{seen, IsTableOfParameters}
use Rattle.value_rules.specs.declared.missing.Needs.{Needs as KeptNeeds}
use Rattle.value_rules.specs.N6 as N6
use Rattle.value_rules.specs.N7 as N7
use Rattle.value_rules.specs.private.Missing.{missing_reads, missing_for, reads_none, fails, either_fails, failing}
use Rattle.value_rules.specs.Needs.{needed, needs_of, own_expr}
use Rattle.value_rules.proofs.Lacking.{IsLacking, lacks_reads, reads_lacks}
use Rattle.value_rules.proofs.Reading.{read_misses, misses_read}
use Rattle.value_rules.proofs.Cycles.{same_values}
use Rattle.value_rules.proofs.Positions.{position_map, found_at, none_at}

either : (a b : Bool) → a || b ≡ true → (b ≡ true → a ≡ true) → a ≡ true
either true b is from = refl
either false b is from = from is

left_true : (a b : Bool) → a ≡ true → a || b ≡ true
left_true a b is = ap (λ z. z || b) is

right_true : (a b : Bool) → b ≡ true → a || b ≡ true
right_true true b is = refl
right_true false b is = is

module _ (text : List ℕ) (classes : List ClassDef) (all : List Variable) (table : Numbered) (found : Slots) (count : ℕ) (is_table : IsTableOfParameters all table)
    (many : count ≡ length (N6.parameters text classes all)) where
  abbrev values : Values
  values = seen table found

  -- an expression has no value, and misses none of a parameter
  pub record Stands (k : Option NameKind) (placed : Option Placed) : Type 0 where
    pub expr : Placed
    pub there : placed ≡ Some expr
    pub none : value_by text classes values k placed ≡ None
    pub reads : (y : ℕ) → N6.Misses text classes all values expr y → ⊥

  fails_stands : (k : Option NameKind) (placed : Option Placed) → fails text table found count (k, placed) ≡ true → Stands k placed
  fails_stands k placed is = by (missing_for text table found count k placed) refl is
    where
      lacking : IsLacking text classes table found count k placed [] → Stands k placed
      lacking l = record {
        expr = l.expr;
        there = l.there;
        none = l.none;
        reads = λ y m.
            let at = misses_read text classes all table found count is_table many l.expr y m in
            let none = subst (λ z. Contains z y) (sym l.same) at in omega (arith, none.1);
      }

      by : (m : Option (List ℕ)) → missing_for text table found count k placed ≡ m → reads_none text table found count m ≡ true → Stands k placed
      by None at is = absurd (cc is)
      by (Some []) at is = lacking (lacks_reads text classes table found count k placed [] at)
      by (Some (y ∷ reads)) at is = absurd (cc is)

  stands_fails : (k : Option NameKind) (placed : Option Placed) (p : Placed) → placed ≡ Some p → value_by text classes values k placed ≡ None
      → ((y : ℕ) → N6.Misses text classes all values p y → ⊥) → fails text table found count (k, placed) ≡ true
  stands_fails k placed p there none reads =
      ap (reads_none text table found count) (reads_lacks text classes table found count k placed p there none)
      ∙ by (missing_reads text table found count p.scope p.expr) (λ y at. reads y (read_misses text classes all table found count is_table many p y at))
    where
      by : (l : List ℕ) → ((y : ℕ) → Contains l y → ⊥) → reads_none text table found count (Some l) ≡ true
      by [] free = refl
      by (y ∷ l) free = absurd (free y (0, omega arith, refl))

  own_is : (v : Variable) (p : Placed) → own_expr text classes v ≡ Some p → (is_parameter v ≡ true) × (value_expr text classes v ≡ Some p)
  own_is v p is = by (is_parameter v) refl is
    where
      by : (b : Bool) → is_parameter v ≡ b → (if b then value_expr text classes v else None) ≡ Some p → (is_parameter v ≡ true) × (value_expr text classes v ≡ Some p)
      by true e is = (e, is)
      by false e is = absurd (cc is)

  is_own : (v : Variable) → is_parameter v ≡ true → own_expr text classes v ≡ value_expr text classes v
  is_own v e = ap (λ b. if b then value_expr text classes v else None) e

  abbrev fails_at : Variable → Bool
  fails_at v = either_fails text table found count (needs_of text classes v)

  fails_failing : (x : ℕ) (v : Variable) → slice_get all x ≡ Some v → fails_at v ≡ true → N7.FailsAt text classes all values x
  fails_failing x v at is = by (fails text table found count (kind_of text classes v.type, own_expr text classes v)) refl is
    where
      own : Stands (kind_of text classes v.type) (own_expr text classes v) → N7.FailsAt text classes all values x
      own s =
          let o = own_is v s.expr s.there in
          record {
            v = v;
            expr = s.expr;
            stands = at;
            lacks = N7.Lacks.own s.expr o.0 o.1 (ap (value_by text classes values (kind_of text classes v.type)) (sym (is_own v o.0)) ∙ s.none);
            reads = s.reads;
          }

      start : Stands (kind_of text classes v.type) v.start → N7.FailsAt text classes all values x
      start s = record { v = v; expr = s.expr; stands = at; lacks = N7.Lacks.start s.expr s.there s.none; reads = s.reads }

      by : (b : Bool) → fails text table found count (kind_of text classes v.type, own_expr text classes v) ≡ b
          → b || fails text table found count (kind_of text classes v.type, v.start) ≡ true → N7.FailsAt text classes all values x
      by true e is = own (fails_stands (kind_of text classes v.type) (own_expr text classes v) e)
      by false e is = start (fails_stands (kind_of text classes v.type) v.start is)

  failing_fails : (x : ℕ) (f : N7.FailsAt text classes all values x) → fails_at f.v ≡ true
  failing_fails x f = by f.expr f.lacks f.reads
    where
      by : (p : Placed) → N7.Lacks text classes all values f.v p → ((y : ℕ) → N6.Misses text classes all values p y → ⊥) → fails_at f.v ≡ true
      by p (N7.Lacks.start q there none) reads =
          right_true (fails text table found count (kind_of text classes f.v.type, own_expr text classes f.v)) _
          (stands_fails (kind_of text classes f.v.type) f.v.start p there none reads)
      by p (N7.Lacks.own q is there none) reads =
          left_true _ (fails text table found count (kind_of text classes f.v.type, f.v.start))
          (stands_fails (kind_of text classes f.v.type) (own_expr text classes f.v) p (is_own f.v is ∙ there)
          (ap (value_by text classes values (kind_of text classes f.v.type)) (is_own f.v is) ∙ none) reads)

  module _ (are : AreValues text classes all values) where
    broken_fails : (x : ℕ) → N7.Breaks text classes all x → N7.FailsAt text classes all values x
    broken_fails x (other, have, failing) = subst (λ v. N7.FailsAt text classes all v x) (same_values text classes all other values have are) failing

    by_place : (place : Option ℕ) → position_from fails_at 0 all ≡ place → IsFirstPlace (N7.Breaks text classes all) place
    by_place None is = λ x broken. let f = broken_fails x broken in none_at fails_at 0 all is x f.v f.stands (failing_fails x f)
    by_place (Some k) is =
        let r = found_at fails_at 0 all k is in
        let same : r.0 ≡ k = omega (arith, r.1) in
        subst (IsFirstOf (N7.Breaks text classes all)) same (record {
          broken = (values, are, fails_failing r.0 r.2.item r.2.stands r.2.passes);
          least = λ other broken. let f = broken_fails other broken in r.2.least other f.v f.stands (failing_fails other f);
        })

    -- the first variable of which something fails is the first that breaks N7
    pub first_failing : (kept : List KeptNeeds) → map needed kept ≡ map (needs_of text classes) all → (place : Option ℕ)
        → place ≡ position_from (failing text table found count) 0 kept → IsFirstPlace (N7.Breaks text classes all) place
    first_failing kept same place is =
        by_place place (sym (
        is ∙ sym (position_map needed (either_fails text table found count) 0 kept)
        ∙ ap (position_from (either_fails text table found count) 0) same
        ∙ position_map (needs_of text classes) (either_fails text table found count) 0 all))
