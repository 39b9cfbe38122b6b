-- What is found of the graph and of the variables is the first broken rule.
use Rattle.std.proofs.Common.{◌≡◌, ap, sym, ◌∙◌, ℕ, List, length, map, Option, Some, None}
use Rattle.std.specs.List.{position_from}
use Rattle.mo_order.specs.Graphs.{Graph, IsOrder, IsLeastOnCycle}
use Rattle.mo_order.specs.Values.{Slots}
use Rattle.mo_parser.specs.declared.tree.ClassDef.{ClassDef}
use Rattle.class_scopes.specs.Faults.{IsKept}
use Rattle.class_scopes.specs.Tables.{Numbered}
use Rattle.flat_instances.specs.Instances.{Variable}
use Rattle.parameter_values.specs.Values.{AreValues}
use Rattle.parameter_values.specs.Slots.{seen, IsTableOfParameters}
use Rattle.parameter_values.specs.Givens.{Valued, valued_of}
use Rattle.value_rules.specs.declared.missing.Needs.{Needs as KeptNeeds}
use Rattle.value_rules.specs.declared.faults.ValueFault.TheVariants.{Waiting, Failing}
use Rattle.value_rules.specs.N6 as N6
use Rattle.value_rules.specs.N7 as N7
use Rattle.value_rules.specs.Faults.{IsFirstFault}
use Rattle.value_rules.specs.private.Missing.{waiting, failing}
use Rattle.value_rules.specs.Needs.{needed}
use Rattle.value_rules.proofs.Complete.{has_all}
use Rattle.value_rules.proofs.Cycles.{first_waiting, none_waiting}
use Rattle.value_rules.proofs.Failing.{first_failing}
use Rattle.value_rules.proofs.Reading.{long_map}
use Rattle.value_rules.proofs.Waiting.{edge_waits, waits_edge}

module _ (text : List ℕ) (table : Numbered) (found : Slots) (items : List Valued) (count : ℕ) (size : count ≡ length items) where
  abbrev graph : Graph
  graph = map (waiting text table found count) items

  counted : (classes : List ClassDef) (all : List Variable) → items ≡ map (valued_of text classes) (N6.parameters text classes all) → count ≡ length (N6.parameters text classes all)
  counted classes all same = size ∙ ap length same ∙ long_map (valued_of text classes) (N6.parameters text classes all)

  module _ (kept : List KeptNeeds) where
    pub is_waiting : (x : ℕ) → IsLeastOnCycle graph x → IsFirstFault text table items found (map needed kept) (Some (Waiting x))
    is_waiting x is classes all is_table same needs are =
        let many = counted classes all same in
        first_waiting text classes all (seen table found) are graph
        (edge_waits text classes all table found count is_table many items same) (waits_edge text classes all table found count is_table many items same) x is

    module _ (order : List ℕ) (is : IsOrder graph order) (first : Option ℕ) (at : first ≡ position_from (failing text table found count) 0 kept) where
      no_waiting : (classes : List ClassDef) (all : List Variable) → IsTableOfParameters all table → items ≡ map (valued_of text classes) (N6.parameters text classes all)
          → AreValues text classes all (seen table found) → IsKept (N6.Breaks text classes all)
      no_waiting classes all is_table same are =
          let many = counted classes all same in
          none_waiting text classes all (seen table found) are graph
          (edge_waits text classes all table found count is_table many items same) (waits_edge text classes all table found count is_table many items same) order is

      pub is_failing : (x : ℕ) → first ≡ Some x → IsFirstFault text table items found (map needed kept) (Some (Failing x))
      is_failing x here classes all is_table same needs are =
          let many = counted classes all same in
          (no_waiting classes all is_table same are, first_failing text classes all table found count is_table many are kept needs (Some x) (sym here ∙ at))

      pub is_kept : first ≡ None → IsFirstFault text table items found (map needed kept) None
      is_kept here classes all is_table same needs are =
          let many = counted classes all same in
          let none : IsKept (N7.Breaks text classes all) = first_failing text classes all table found count is_table many are kept needs None (sym here ∙ at) in (
            no_waiting classes all is_table same are,
            none,
            λ typed. has_all text classes all table found count is_table many are items same order is typed (λ x fails. none x (seen table found, are, fails)),
          )
