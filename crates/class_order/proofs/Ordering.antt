-- An order of ranks, or the least rank on a cycle, tells of classes.
use Rattle.std.proofs.Common.{◌≡◌, refl, ap, sym, ◌∙◌, subst, ℕ, zero, suc, ◌<◌, ◌≤◌, List, length, map, Option, Some, None, slice_get, Contains, arith}
use Rattle.std.proofs.lemmas.Option.{slice_get_within}
use Rattle.mo_order.specs.Graphs.{Graph, IsEdge, Leads, IsWithin, IsOrder, IsLeastOnCycle}
use Rattle.mo_order.proofs.Orders.{never_both}
use Rattle.mo_order.proofs.Places.{get_inside}
use Rattle.mo_parser.specs.declared.tree.ClassDef.{ClassDef}
use Rattle.class_scopes.specs.declared.type_name.TypeName.{TypeName}
use Rattle.class_scopes.specs.declared.type_name.TypeName.TheVariants.{Simple, Foreign, Class}
use Rattle.class_scopes.specs.Faults.{IsFirstOf, IsKept}
use Rattle.class_scopes.specs.Reached.{HasPart, IsReached, AreReached}
use Rattle.class_scopes.specs.Types.{type_of, elements_of}
use Rattle.class_scopes.proofs.Leasts.{into_all, out_of_all}
use Rattle.class_order.specs.declared.ranks.Placed.{Placed}
use Rattle.class_order.specs.Places.{name_at}
use Rattle.class_order.specs.N4 as N4
use Rattle.class_order.specs.Orders.{ArePartsFirst}
use Rattle.class_order.specs.private.Ranks.{placed, AreByPlace, AreRanks, rank_of, part_by, part_in, parts_of, part_graph, class_in, place_in, class_at, place_at}
use Rattle.class_order.proofs.Lists.{stands, listed, get_map, map_get, same_length}

part_typed : (ranks : List ℕ) (type : Option TypeName) (y : ℕ) → Contains (part_by ranks type) y → (part : ℕ) × (type ≡ Some (Class part)) × (rank_of ranks part ≡ y)
part_typed ranks (Some (Class class)) y (zero, within, same) = (class, refl, same)
part_typed ranks (Some (Class class)) y (suc k, within, same) = absurd (omega (arith, within))
part_typed ranks (Some (Simple kind)) y (k, within, same) = absurd (omega (arith, within))
part_typed ranks (Some Foreign) y (k, within, same) = absurd (omega (arith, within))
part_typed ranks None y (k, within, same) = absurd (omega (arith, within))

typed_part : (ranks : List ℕ) (type : Option TypeName) (part : ℕ) → type ≡ Some (Class part) → Contains (part_by ranks type) (rank_of ranks part)
typed_part ranks type part is = subst (λ t. Contains (part_by ranks t) (rank_of ranks part)) (sym is) (0, omega arith, refl)

-- the classes of placed ones are below the number of classes
pub placed_below : (text : List ℕ) (classes : List ClassDef) (chosen : ℕ) (reached : List ℕ) (found : List Placed) → AreReached text classes chosen reached
    → AreByPlace classes reached found → (i : ℕ) (entry : Placed) → slice_get found i ≡ Some entry → entry.class < length classes
placed_below text classes chosen reached found all are i entry at = by (are.only i entry at).0
  where
    by : Contains reached entry.class → entry.class < length classes
    by (k, within, same) = subst (λ c. c < length classes) same (all.below k entry.class within)

module _ (text : List ℕ) (classes : List ClassDef) (chosen : ℕ) (reached : List ℕ) (found : List Placed) (ranks : List ℕ)
    (all : AreReached text classes chosen reached) (are : AreByPlace classes reached found) (ranked : AreRanks found (length found) ranks) where
  abbrev graph : Graph
  graph = part_graph text classes ranks found

  reached_at : (i : ℕ) (entry : Placed) → slice_get found i ≡ Some entry → IsReached text classes chosen entry.class
  reached_at i entry at = by (are.only i entry at).0
    where
      by : Contains reached entry.class → IsReached text classes chosen entry.class
      by (k, within, same) = subst (IsReached text classes chosen) same (all.only k entry.class within)

  -- a reached class stands at its rank
  abbrev AtRank : ℕ → Type 0
  AtRank class = (entry : Placed) × (slice_get found (rank_of ranks class) ≡ Some entry) × (entry.class ≡ class)

  at_rank : (class : ℕ) → IsReached text classes chosen class → AtRank class
  at_rank class from =
      let at = stands found (placed classes class) (are.every class (all.every class from)) in
      ranked at.0 (placed classes class) (slice_get_within found at.0 (placed classes class) at.1) at.1

  -- a link is from a placed class to the rank of one of its parts
  abbrev Link : Placed → ℕ → Type 0
  Link a y = (part : ℕ) × HasPart text classes a.class part × (rank_of ranks part ≡ y)

  link_of : (x y : ℕ) → IsEdge graph x y → (a : Placed) × (slice_get found x ≡ Some a) × Link a y
  link_of x y edge =
      let from = get_map (λ entry. parts_of text classes ranks entry.class) found x edge.links edge.from in
      let to = subst (λ l. slice_get l edge.at ≡ Some y) (sym from.2) edge.to in
      let r = out_of_all (part_in text classes ranks) (elements_of text classes from.0.class) y (listed (parts_of text classes ranks from.0.class) edge.at y to) in
      let p = part_typed ranks (type_of text classes r.0.base) y r.2 in
      (from.0, from.1, (p.0, record { element = r.0; declared = r.1; typed = p.1 }, p.2))

  edge_of : (x part : ℕ) (a : Placed) → slice_get found x ≡ Some a → HasPart text classes a.class part → IsEdge graph x (rank_of ranks part)
  edge_of x part a at has =
      let inside = into_all (part_in text classes ranks) (elements_of text classes a.class) has.element (rank_of ranks part) has.declared
      (typed_part ranks (type_of text classes has.element.base) part has.typed) in
      let to = stands (parts_of text classes ranks a.class) (rank_of ranks part) inside in
      record {
        links = parts_of text classes ranks a.class;
        at = to.0;
        from = map_get (λ entry. parts_of text classes ranks entry.class) found x a at;
        to = to.1;
      }

  -- what it leads to is placed too, and a part
  edge_to : (x y : ℕ) (a : Placed) → IsEdge graph x y → slice_get found x ≡ Some a → (b : Placed) × (slice_get found y ≡ Some b) × HasPart text classes a.class b.class
  edge_to x y a edge at =
      let link = link_of x y edge in
      let same : link.0 ≡ a = cc (link.1, at) in
      let has : HasPart text classes a.class link.2.0 = subst (λ e. HasPart text classes e.class link.2.0) same link.2.1 in
      let there = at_rank link.2.0 (IsReached.part a.class link.2.0 (reached_at x a at) has) in
      (there.0, subst (λ n. slice_get found n ≡ Some there.0) link.2.2 there.1, subst (HasPart text classes a.class) (sym there.2) has)

  pub within : IsWithin graph
  within x y edge =
      let link = link_of x y edge in
      let to = edge_to x y link.0 edge link.1 in
      let below = slice_get_within found y to.0 to.1 in
      let size = same_length (λ entry. parts_of text classes ranks entry.class) found in
      omega (arith, below, size)

  leads_inside : (x y : ℕ) (a b : Placed) → Leads graph x y → slice_get found x ≡ Some a → slice_get found y ≡ Some b → N4.IsInside text classes a.class b.class
  leads_inside x y a b (Leads.directly p q edge) one other =
      let to = edge_to x y a edge one in
      let same : to.0 ≡ b = cc (to.1, other) in
      N4.IsInside.directly a.class b.class (subst (λ e. HasPart text classes a.class e.class) same to.2)
  leads_inside x y a b (Leads.through p q r edge more) one other =
      let to = edge_to x q a edge one in
      N4.IsInside.through a.class to.0.class b.class to.2 (leads_inside q y to.0 b more to.1 other)

  starts : (x y : ℕ) → Leads graph x y → (a : Placed) × (slice_get found x ≡ Some a)
  starts x y (Leads.directly p q edge) = let link = link_of x y edge in (link.0, link.1)
  starts x y (Leads.through p q r edge more) = let link = link_of x q edge in (link.0, link.1)

  edge_between : (x part : ℕ) → IsReached text classes chosen x → HasPart text classes x part → IsEdge graph (rank_of ranks x) (rank_of ranks part)
  edge_between x part from has =
      let at = at_rank x from in
      edge_of (rank_of ranks x) part at.0 at.1 (subst (λ c. HasPart text classes c part) (sym at.2) has)

  inside_leads : (x y : ℕ) → IsReached text classes chosen x → N4.IsInside text classes x y → Leads graph (rank_of ranks x) (rank_of ranks y)
  inside_leads x y from (N4.IsInside.directly class other has) = Leads.directly (rank_of ranks x) (rank_of ranks y) (edge_between x y from has)
  inside_leads x y from (N4.IsInside.through class part other has more) =
      Leads.through (rank_of ranks x) (rank_of ranks part) (rank_of ranks y) (edge_between x part from has)
      (inside_leads part y (IsReached.part x part from has) more)

  reached_from : (root class : ℕ) → Some chosen ≡ Some root → IsReached text classes root class → IsReached text classes chosen class
  reached_from root class named from = let same : root ≡ chosen = cc named in subst (λ r. IsReached text classes r class) same from

  -- the least rank on a cycle is that of the first class inside itself
  first_at : (rank : ℕ) (a : Placed) → slice_get found rank ≡ Some a → IsLeastOnCycle graph rank → IsFirstOf (N4.Breaks text classes (Some chosen)) (place_at found rank)
  first_at rank a at is = record {
    broken = (a.class, (chosen, refl, reached_at rank a at), leads_inside rank rank a a is.cycle at at, ap place_in at ∙ (are.only rank a at).1);
    least = λ other broken. least other broken;
  }
    where
      least : (other : ℕ) → N4.Breaks text classes (Some chosen) other → place_at found rank ≤ other
      least other (class, (root, named, from), inside, place) =
          let mine = reached_from root class named from in
          let low = is.least (rank_of ranks class) (inside_leads class class mine inside) in
          let there = at_rank class mine in
          let less = are.rises rank (rank_of ranks class) a there.0 low at there.1 in
          let e : place_at found rank ≡ a.place = ap place_in at in
          let f : there.0.place ≡ name_at classes class = (are.only (rank_of ranks class) there.0 there.1).1 ∙ ap (name_at classes) there.2 in
          omega (arith, less, e, f, place)

  pub first_inside : (rank : ℕ) → IsLeastOnCycle graph rank → IsFirstOf (N4.Breaks text classes (Some chosen)) (place_at found rank)
  first_inside rank is = let from = starts rank rank is.cycle in first_at rank from.0 from.1 is

  module _ (order : List ℕ) (is : IsOrder graph order) where
    -- where there is an order, no class is inside itself
    none_inside : IsKept (N4.Breaks text classes (Some chosen))
    none_inside other (class, (root, named, from), inside, place) =
        let mine = reached_from root class named from in
        never_both graph order (rank_of ranks class) is (inside_leads class class mine inside)

    -- a class stands in the order
    in_order : (class : ℕ) → IsReached text classes chosen class → (i : ℕ) × (slice_get order i ≡ Some (rank_of ranks class))
    in_order class from =
        let there = at_rank class from in
        let below = slice_get_within found (rank_of ranks class) there.0 there.1 in
        let size = same_length (λ entry. parts_of text classes ranks entry.class) found in
        is.every (rank_of ranks class) (omega (arith, below, size))

    class_there : (i class : ℕ) → IsReached text classes chosen class → slice_get order i ≡ Some (rank_of ranks class)
        → slice_get (map (class_at found) order) i ≡ Some class
    class_there i class from at =
        let there = at_rank class from in
        map_get (class_at found) order i (rank_of ranks class) at ∙ ap Some (ap class_in there.1 ∙ there.2)

    -- what stands in the list of classes is a placed one
    from_order : (i class : ℕ) → slice_get (map (class_at found) order) i ≡ Some class
        → (rank : ℕ) × (slice_get order i ≡ Some rank) × ((a : Placed) × (slice_get found rank ≡ Some a) × (a.class ≡ class))
    from_order i class at =
        let from = get_map (class_at found) order i class at in
        let below = is.only i from.0 from.1 in
        let size = same_length (λ entry. parts_of text classes ranks entry.class) found in
        let there = get_inside found from.0 (omega (arith, below, size)) in
        (from.0, from.1, (there.0, there.1, sym (ap class_in there.1) ∙ from.2))

    parts_first : ArePartsFirst text classes chosen (map (class_at found) order)
    parts_first = record {
      every = λ class from. let at = in_order class from in (at.0, class_there at.0 class from at.1);
      only = λ i class at. let from = from_order i class at in subst (IsReached text classes chosen) from.2.2 (reached_at from.0 from.2.0 from.2.1);
      before = λ i class part at has.
          let from = from_order i class at in
          let mine = subst (IsReached text classes chosen) from.2.2 (reached_at from.0 from.2.0 from.2.1) in
          let edge = edge_of from.0 part from.2.0 from.2.1 (subst (λ c. HasPart text classes c part) (sym from.2.2) has) in
          let theirs = IsReached.part class part mine has in
          let to = in_order part theirs in
          (to.0, is.falls i to.0 from.0 (rank_of ranks part) from.1 to.1 edge, class_there to.0 part theirs to.1);
    }

    pub ordered : IsKept (N4.Breaks text classes (Some chosen)) × ArePartsFirst text classes chosen (map (class_at found) order)
    ordered = (none_inside, parts_first)
