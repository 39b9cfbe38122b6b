use Rattle.std.proofs.Common.{◌≡◌, sym, subst, ℕ, ◌+◌, ◌<◌, ◌≤◌, ◌⊎◌, inl, inr, List, length, Some, slice_get, get_or, arith}
use Rattle.std.proofs.lemmas.Bool.{cases_lt}
use Rattle.std.proofs.lemmas.Option.{slice_get-get_or}
use Rattle.mo_order.proofs.Places.{get_within}
use Rattle.mo_order.proofs.Turning.{links_at}
use Rattle.model_tests.proofs.graphs.points_within.Goals as goal

one_more : (links : List ℕ) (n count : ℕ) → n < length links → ((k y : ℕ) → k < n → slice_get links k ≡ Some y → y < count) → get_or links n 0 < count
    → (k y : ℕ) → k < n + 1 → slice_get links k ≡ Some y → y < count
one_more links n count inside before here k y less at = by (cases_lt k n)
  where
    by : (k < n) ⊎ (n ≤ k) → y < count
    by (inl low) = before k y low at
    by (inr high) =
        let e : k ≡ n = omega (arith, high, less) in
        let f : slice_get links n ≡ Some y = subst (λ i. slice_get links i ≡ Some y) e at in
        let read = slice_get-get_or links n 0 inside in
        let g : y ≡ get_or links n 0 = cc (f, read) in omega (arith, g, here)

pub loop-y-preserved : goal.loop-y-preserved
loop-y-preserved g c = one_more c.as_slice-y-items.result.now c.loop-y.y-index _ (omega arith) c.loop-y.invariant (omega arith)

pub returns : goal.returns
returns g c y edge =
    let from = links_at c.args.graph.now c.args.x c.index-graph-x.result c.as_slice-y-items.result.now c.requires c.index-graph-x.is c.as_slice-y-items.ensures.value in
    let items = c.as_slice-y-items.result.now in
    let e : items ≡ edge.links = cc (from, edge.from) in
    let at : slice_get items edge.at ≡ Some y = subst (λ l. slice_get l edge.at ≡ Some y) (sym e) edge.to in
    let less = get_within items edge.at y at in
    c.loop-y.invariant edge.at y (omega (arith, less)) at
