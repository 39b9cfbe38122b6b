-- The graph of parameters that wait for each other.
use Rattle.std.proofs.Common.{◌≡◌, refl, ap, sym, ◌∙◌, subst, ℕ, ◌<◌, Bool, true, false, List, length, map, Option, Some, None, option_map, is_some, not, slice_get, Contains, arith}
use Rattle.std.proofs.lemmas.Option.{slice_get_within, slice_get-get_or, get_or_from_slice_get, slice_get-map}
use Rattle.mo_order.specs.Graphs.{Graph, IsEdge, IsWithin}
use Rattle.mo_order.specs.Values.{Slots}
use Rattle.mo_parser.specs.declared.tree.ClassDef.{ClassDef}
use Rattle.flat_model.specs.declared.model.NameKind.{NameKind}
use Rattle.class_scopes.specs.Tables.{Numbered}
use Rattle.class_scopes.specs.Types.{kind_of}
use Rattle.flat_instances.specs.Instances.{Placed, Variable}
use Rattle.parameter_values.specs.Values.{Values, value_expr}
use Rattle.parameter_values.specs.Slots.{seen, IsTableOfParameters}
use Rattle.parameter_values.specs.Givens.{Valued, valued_of, value_with}
use Rattle.value_rules.specs.N6 as N6
use Rattle.value_rules.specs.private.Missing.{missing_reads, unless_value, missing_for, or_none, waiting}
use Rattle.value_rules.proofs.Lacking.{IsLacking, lacks_reads, reads_lacks}
use Rattle.value_rules.proofs.Reading.{read_below, read_misses, misses_read, long_map}

-- a number of a list stands at a place
at_place : (xs : List ℕ) (y : ℕ) → Contains xs y → (at : ℕ) × (slice_get xs at ≡ Some y)
at_place xs y (k, within, same) = (k, slice_get-get_or xs k y within ∙ ap Some same)

listed : (xs : List ℕ) (at y : ℕ) → slice_get xs at ≡ Some y → Contains xs y
listed xs at y is = (at, slice_get_within xs at y is, get_or_from_slice_get xs at y y is)

module _ (text : List ℕ) (table : Numbered) (slots : Slots) (count : ℕ) where
  waits_below : (k : Option NameKind) (placed : Option Placed) (y : ℕ) → Contains (or_none text table slots count (missing_for text table slots count k placed)) y → y < count
  waits_below k None y at = absurd (omega (arith, at.1))
  waits_below k (Some p) y at = by (not (is_some (value_with text table slots (k, Some p)))) at
    where
      by : (b : Bool) → Contains (or_none text table slots count (unless_value text table slots count b p)) y → y < count
      by true at = read_below text table slots count p.scope p.expr y at
      by false at = absurd (omega (arith, at.1))

  -- what parameters wait for are parameters
  pub within : (items : List Valued) → count ≡ length items → IsWithin (map (waiting text table slots count) items)
  within items many x y edge = by (slice_get items x) (sym (slice_get-map (waiting text table slots count) items x) ∙ edge.from)
    where
      below : (item : Valued) → waiting text table slots count item ≡ edge.links → y < length (map (waiting text table slots count) items)
      below item is =
          let there = waits_below item.0 item.1 y (subst (λ l. Contains l y) (sym is) (listed edge.links edge.at y edge.to)) in
          let long = long_map (waiting text table slots count) items in
          omega (arith, there, long, many)

      by : (o : Option Valued) → option_map (waiting text table slots count) o ≡ Some edge.links → y < length (map (waiting text table slots count) items)
      by None is = absurd (cc is)
      by (Some item) is = let e : waiting text table slots count item ≡ edge.links = cc is in below item e

module _ (text : List ℕ) (classes : List ClassDef) (all : List Variable) (table : Numbered) (found : Slots) (count : ℕ) (is_table : IsTableOfParameters all table)
    (many : count ≡ length (N6.parameters text classes all)) (items : List Valued) (same : items ≡ map (valued_of text classes) (N6.parameters text classes all)) where
  abbrev values : Values
  values = seen table found

  abbrev wait : Valued → List ℕ
  wait = waiting text table found count

  abbrev graph : Graph
  graph = map wait items

  links_of : (x : ℕ) → slice_get graph x ≡ option_map wait (option_map (valued_of text classes) (slice_get (N6.parameters text classes all) x))
  links_of x =
      slice_get-map wait items x ∙ ap (λ l. option_map wait (slice_get l x)) same
      ∙ ap (option_map wait) (slice_get-map (valued_of text classes) (N6.parameters text classes all) x)

  pub edge_waits : (x y : ℕ) → IsEdge graph x y → N6.WaitsFor text classes all values x y
  edge_waits x y edge = by (slice_get (N6.parameters text classes all) x) refl (sym (links_of x) ∙ edge.from)
    where
      lacking : (v : Variable) → slice_get (N6.parameters text classes all) x ≡ Some v → (reads : List ℕ) → IsLacking text classes table found count (kind_of text classes v.type) (value_expr text classes v) reads
          → reads ≡ edge.links → N6.WaitsFor text classes all values x y
      lacking v at reads l is = record {
        one = v;
        expr = l.expr;
        stands = at;
        valued = l.there;
        none = l.none;
        misses = read_misses text classes all table found count is_table many l.expr y
            (subst (λ z. Contains z y) (sym is ∙ l.same) (listed edge.links edge.at y edge.to));
      }

      with_links : (v : Variable) → slice_get (N6.parameters text classes all) x ≡ Some v → (m : Option (List ℕ))
          → missing_for text table found count (kind_of text classes v.type) (value_expr text classes v) ≡ m
          → or_none text table found count m ≡ edge.links → N6.WaitsFor text classes all values x y
      with_links v at None m is = absurd (let there = subst (λ z. Contains z y) (sym is) (listed edge.links edge.at y edge.to) in omega (arith, there.1))
      with_links v at (Some reads) m is = lacking v at reads (lacks_reads text classes table found count (kind_of text classes v.type) (value_expr text classes v) reads m) is

      by : (o : Option Variable) → slice_get (N6.parameters text classes all) x ≡ o → option_map wait (option_map (valued_of text classes) o) ≡ Some edge.links
          → N6.WaitsFor text classes all values x y
      by None at is = absurd (cc is)
      by (Some v) at is =
          let e : wait (valued_of text classes v) ≡ edge.links = cc is in
          with_links v at (missing_for text table found count (kind_of text classes v.type) (value_expr text classes v)) refl e

  pub waits_edge : (x y : ℕ) → N6.WaitsFor text classes all values x y → IsEdge graph x y
  waits_edge x y w =
      let reads = missing_reads text table found count w.expr.scope w.expr.expr in
      let to = at_place reads y (misses_read text classes all table found count is_table many w.expr y w.misses) in
      record {
        links = reads;
        at = to.0;
        from = links_of x ∙ ap (λ o. option_map wait (option_map (valued_of text classes) o)) w.stands
            ∙ ap (λ m. Some (or_none text table found count m)) (reads_lacks text classes table found count (kind_of text classes w.one.type) (value_expr text classes w.one) w.expr w.valued w.none);
        to = to.1;
      }
