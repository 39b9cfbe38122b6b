-- A graph with an order has no cycle, and one number is the least on a cycle.
use Rattle.std.proofs.Common.{◌≡◌, ℕ, ◌<◌, List, length, Some, slice_get, arith}
use Rattle.mo_order.specs.Graphs.{Graph, IsEdge, Leads, IsOrder, IsLeastOnCycle, NeverBothLaw, OneNumberLaw}
use Rattle.mo_order.proofs.Places.{get_within}

module _ (graph : Graph) (order : List ℕ) (is : IsOrder graph order) where
  pointing_below : (x y : ℕ) → IsEdge graph x y → x < length graph
  pointing_below x y edge = get_within graph x edge.links edge.from

  leading_below : (x z : ℕ) → Leads graph x z → x < length graph
  leading_below x z (Leads.directly a b edge) = pointing_below x z edge
  leading_below x z (Leads.through a y b edge rest) = pointing_below x y edge

  -- what a chain leads to stands before its begin
  falls_along : (x z i j : ℕ) → Leads graph x z → slice_get order i ≡ Some x → slice_get order j ≡ Some z → j < i
  falls_along x z i j (Leads.directly a b edge) one other = is.falls i j x z one other edge
  falls_along x z i j (Leads.through a y b edge rest) one other =
      let place = is.every y (leading_below y z rest) in
      let first = is.falls i place.0 x y one place.1 edge in
      let next = falls_along y z place.0 j rest place.1 other in
      omega (arith, first, next)

pub never_both : NeverBothLaw
never_both graph order x is cycle =
    let place = is.every x (leading_below graph order is x x cycle) in
    let less = falls_along graph order is x x place.0 place.0 cycle place.1 place.1 in
    omega (arith, less)

pub one_number : OneNumberLaw
one_number graph x y one other =
    let low = one.least y other.cycle in
    let high = other.least x one.cycle in
    omega (arith, low, high)
