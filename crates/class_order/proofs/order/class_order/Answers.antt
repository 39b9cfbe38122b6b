use Rattle.std.proofs.Common.{◌≡◌, ◌∙◌, ap, sym, subst, map, length, Some, Err, rules}
use Rattle.mo_order.specs.Graphs.{graph_of, IsWithin, IsOrder, IsLeastOnCycle, Orders}
use Rattle.mo_order.specs.declared.search.OrderEnd.TheVariants.{Cycle}
use Rattle.class_scopes.specs.Faults.{IsFirstOf, IsKept}
use Rattle.class_order.specs.N4 as N4
use Rattle.class_order.specs.Orders.{ArePartsFirst}
use Rattle.class_order.specs.private.Ranks.{AreByPlace, AreRanks, part_graph, class_at, place_at}
use Rattle.class_order.proofs.Ordering as ordering
use Rattle.class_order.proofs.order.class_order.Goals as goal

pub ranks_of-requires : goal.ranks_of-requires
ranks_of-requires c =
    ordering.placed_below c.args.named.now.file.text.now c.args.named.now.file.classes.now c.args.named.now.chosen c.args.named.now.reached.items c.as_slice-found.result.now c.requires
    (subst (AreByPlace c.args.named.now.file.classes.now c.args.named.now.reached.items) (sym c.as_slice-found.ensures.value) c.in_ok-placed.ensures)

pub ordered-requires : goal.ordered-requires
ordered-requires c =
    let text = c.args.named.now.file.text.now in
    let classes = c.args.named.now.file.classes.now in
    let found = c.as_slice-found.result.now in
    let are = subst (AreByPlace classes c.args.named.now.reached.items) (sym c.as_slice-found.ensures.value) c.in_ok-placed.ensures in
    let ranked = subst (AreRanks found (length found)) (sym c.as_slice.ensures.value) c.in_ok-ranks.ensures in
    let same : graph_of c.as_slice-2.result.now ≡ part_graph text classes c.as_slice.result.now found = ap graph_of c.as_slice-2.ensures.value ∙ c.in_ok-graph.ensures in
    subst IsWithin (sym same) (ordering.within text classes c.args.named.now.chosen c.args.named.now.reached.items found c.as_slice.result.now c.requires are ranked)

pub returns-in-Ok : goal.returns-in-Ok
returns-in-Ok c =
    let text = c.args.named.now.file.text.now in
    let classes = c.args.named.now.file.classes.now in
    let found = c.as_slice-found.result.now in
    let are = subst (AreByPlace classes c.args.named.now.reached.items) (sym c.as_slice-found.ensures.value) c.in_ok-placed.ensures in
    let ranked = subst (AreRanks found (length found)) (sym c.as_slice.ensures.value) c.in_ok-ranks.ensures in
    let same : graph_of c.as_slice-2.result.now ≡ part_graph text classes c.as_slice.result.now found = ap graph_of c.as_slice-2.ensures.value ∙ c.in_ok-graph.ensures in
    let is : IsOrder (part_graph text classes c.as_slice.result.now found) c.in-Ok.order.items = subst (λ g. IsOrder g c.in-Ok.order.items) same c.in-Ok.ensures in
    let these = c.in_ok-classes-in-Ok.ensures ∙ ap (map (class_at found)) c.as_slice-in-Ok.ensures.value in
    subst (λ l. IsKept (N4.Breaks text classes (Some c.args.named.now.chosen)) × ArePartsFirst text classes c.args.named.now.chosen l) (sym these)
    (ordering.ordered text classes c.args.named.now.chosen c.args.named.now.reached.items found c.as_slice.result.now c.requires are ranked c.in-Ok.order.items is)

pub returns-in-Err-Cycle : goal.returns-in-Err-Cycle
returns-in-Err-Cycle c =
    let text = c.args.named.now.file.text.now in
    let classes = c.args.named.now.file.classes.now in
    let found = c.as_slice-found.result.now in
    let are = subst (AreByPlace classes c.args.named.now.reached.items) (sym c.as_slice-found.ensures.value) c.in_ok-placed.ensures in
    let ranked = subst (AreRanks found (length found)) (sym c.as_slice.ensures.value) c.in_ok-ranks.ensures in
    let same : graph_of c.as_slice-2.result.now ≡ part_graph text classes c.as_slice.result.now found = ap graph_of c.as_slice-2.ensures.value ∙ c.in_ok-graph.ensures in
    let end : c.in-Err-Cycle.field-0 ≡ Cycle c.in-Err-Cycle.rank = search rules in
    let first : IsLeastOnCycle (graph_of c.as_slice-2.result.now) c.in-Err-Cycle.rank = subst (λ e. Orders (graph_of c.as_slice-2.result.now) (Err e)) end c.in-Err-Cycle.ensures in
    let is : IsLeastOnCycle (part_graph text classes c.as_slice.result.now found) c.in-Err-Cycle.rank = subst (λ g. IsLeastOnCycle g c.in-Err-Cycle.rank) same first in
    let told : place_at found c.in-Err-Cycle.rank ≡ c.place_at.result = cc (c.in-Err-Cycle.rank-is, c.place_at.ensures) in
    subst (IsFirstOf (N4.Breaks text classes (Some c.args.named.now.chosen))) told
    (ordering.first_inside text classes c.args.named.now.chosen c.args.named.now.reached.items found c.as_slice.result.now c.requires are ranked c.in-Err-Cycle.rank is)
