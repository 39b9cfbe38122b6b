use Rattle.std.proofs.Common.{rules, ◌≡◌, sym, ap, ◌∙◌, subst, Err, length, map}
use Rattle.mo_order.specs.Graphs.{graph_of, IsWithin, IsOrder, IsLeastOnCycle, Orders, listed}
use Rattle.mo_order.specs.declared.search.OrderEnd.TheVariants.{Cycle}
use Rattle.parameter_values.specs.Givens.{valued}
use Rattle.value_rules.proofs.Reading.{long_map}
use Rattle.value_rules.proofs.Waiting.{within}
use Rattle.value_rules.proofs.faults.first_waiting.Goals as goal

pub ordered-requires : goal.ordered-requires
ordered-requires c =
    let same = ap graph_of c.as_slice.ensures.value ∙ c.in_ok-graph.ensures in
    subst IsWithin (sym same)
    (within c.args.values.now.text.now c.args.values.now.numbers.now c.args.values.now.slots.now (length c.args.parameters.now) (map valued c.args.parameters.now) (sym (long_map valued c.args.parameters.now)))

pub returns-in-Ok : goal.returns-in-Ok
returns-in-Ok c =
    let same = ap graph_of c.as_slice.ensures.value ∙ c.in_ok-graph.ensures in
    let order = c.in-Ok.field-0.items in
    let is : IsOrder (graph_of c.as_slice.result.now) order = subst (λ r. Orders (graph_of c.as_slice.result.now) (listed r)) c.in-Ok.is c.ordered.ensures in
    (order, subst (λ g. IsOrder g order) same is)

pub returns-in-Err-Cycle : goal.returns-in-Err-Cycle
returns-in-Err-Cycle c =
    let same = ap graph_of c.as_slice.ensures.value ∙ c.in_ok-graph.ensures in
    let x = c.in-Err-Cycle.x in
    let ends : c.ordered.result ≡ Err (Cycle x) = search rules in
    let is : IsLeastOnCycle (graph_of c.as_slice.result.now) x = subst (λ r. Orders (graph_of c.as_slice.result.now) (listed r)) ends c.ordered.ensures in
    subst (λ g. IsLeastOnCycle g x) same is
