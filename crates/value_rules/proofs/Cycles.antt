-- N6, from an order of the parameters or the least number on a cycle.
use Rattle.std.proofs.Common.{◌≡◌, refl, sym, subst, ℕ, List, Option, Some, None}
use Rattle.std.proofs.Math.Path.{fun_ext}
use Rattle.sync_values.specs.declared.value.Value.{Value}
use Rattle.mo_order.specs.Graphs.{Graph, IsEdge, Leads, IsOrder, IsLeastOnCycle}
use Rattle.mo_order.proofs.Orders.{never_both}
use Rattle.mo_parser.specs.declared.tree.ClassDef.{ClassDef}
use Rattle.class_scopes.specs.Faults.{IsFirstOf, IsKept}
use Rattle.flat_instances.specs.Instances.{Variable}
use Rattle.parameter_values.specs.Values.{Values, AreValues}
use Rattle.value_rules.specs.N6 as N6

-- the values of a model are one table
same_option : (a b : Option Value) → ((v : Value) → a ≡ Some v → b ≡ Some v) → ((v : Value) → b ≡ Some v → a ≡ Some v) → a ≡ b
same_option (Some v) b to from = sym (to v refl)
same_option None (Some v) to from = from v refl
same_option None None to from = refl

module _ (text : List ℕ) (classes : List ClassDef) (all : List Variable) where
  pub same_values : (a b : Values) → AreValues text classes all a → AreValues text classes all b → a ≡ b
  same_values a b one other =
      fun_ext (λ name. same_option (a name) (b name) (λ v is. (other name v).1 ((one name v).0 is)) (λ v is. (one name v).1 ((other name v).0 is)))

  module _ (values : Values) (are : AreValues text classes all values) (graph : Graph)
      (waits : (x y : ℕ) → IsEdge graph x y → N6.WaitsFor text classes all values x y)
      (edges : (x y : ℕ) → N6.WaitsFor text classes all values x y → IsEdge graph x y) where
    leads_waits : (x y : ℕ) → Leads graph x y → N6.Waits text classes all values x y
    leads_waits x y (Leads.directly a b edge) = N6.Waits.directly x y (waits x y edge)
    leads_waits x y (Leads.through a b c edge more) = N6.Waits.through x b y (waits x b edge) (leads_waits b y more)

    waits_leads : (x y : ℕ) → N6.Waits text classes all values x y → Leads graph x y
    waits_leads x y (N6.Waits.directly a b w) = Leads.directly x y (edges x y w)
    waits_leads x y (N6.Waits.through a b c w more) = Leads.through x b y (edges x b w) (waits_leads b y more)

    cycle_of : (x : ℕ) → N6.Breaks text classes all x → Leads graph x x
    cycle_of x (other, have, cycle) = waits_leads x x (subst (λ v. N6.Waits text classes all v x x) (same_values other values have are) cycle)

    -- the least number on a cycle is the first parameter that breaks N6
    pub first_waiting : (x : ℕ) → IsLeastOnCycle graph x → IsFirstOf (N6.Breaks text classes all) x
    first_waiting x is = record { broken = (values, are, leads_waits x x is.cycle); least = λ other broken. is.least other (cycle_of other broken) }

    -- and where there is an order, none does
    pub none_waiting : (order : List ℕ) → IsOrder graph order → IsKept (N6.Breaks text classes all)
    none_waiting order is x broken = never_both graph order x is (cycle_of x broken)
