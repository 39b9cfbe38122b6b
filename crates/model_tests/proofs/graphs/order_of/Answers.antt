use Rattle.std.proofs.Common.{◌≡◌, subst, ℕ, ◌<◌, ◌≤◌, ◌⊎◌, inl, inr, length, arith}
use Rattle.std.proofs.lemmas.Bool.{cases_lt}
use Rattle.std.proofs.lemmas.List.{length-map}
use Rattle.mo_order.specs.Graphs.{IsEdge, graph_of}
use Rattle.mo_order.proofs.Places.{get_within}
use Rattle.model_tests.proofs.graphs.order_of.Goals as goal

pub loop-x-preserved : goal.loop-x-preserved
loop-x-preserved g c x y less edge = by (cases_lt x c.loop-x.x)
  where
    by : (x < c.loop-x.x) ⊎ (c.loop-x.x ≤ x) → y < length c.args.graph.now
    by (inl low) = c.loop-x.invariant x y low edge
    by (inr high) =
        let e : x ≡ c.loop-x.x = omega (arith, high, less) in
        c.points_within.ensures y (subst (λ z. IsEdge (graph_of c.args.graph.now) z y) e edge)

pub ordered-requires : goal.ordered-requires
ordered-requires g c x y edge =
    let size = length-map c.args.graph.now (λ links. links.items) in
    let below = get_within (graph_of c.args.graph.now) x edge.links edge.from in
    let less = c.loop-x.invariant x y (omega (arith, below, size)) edge in
    omega (arith, less, size)
