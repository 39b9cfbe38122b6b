-- The nodes with `hold` and the conversions in the terms are just those of the model.
use Rattle.std.proofs.Common.{◌≡◌, refl, ap, subst, sym, ℕ, zero, suc, ◌+◌, List, [], ◌∷◌, length, flat_map, Some, slice_get, Contains, ⊎_elim, arith}
use Rattle.std.proofs.lemmas.List.Elements.{Contains-append_left, Contains-append_right, Contains-append_cases}
use Rattle.flat_model.specs.declared.model.FlatModel.{FlatModel}
use Rattle.mo_connect.specs.declared.Pair.{Pair}
use Rattle.clock_terms.specs.Mentions.{Mention, Stands, Ticks, Samples, Holds, Converts, Gives}
use Rattle.clock_terms.specs.Nodes.{Node, nodes_of}
use Rattle.clock_terms.specs.Listed.{of_nodes}
use Rattle.clock_terms.specs.Gathered.{terms_of}
use Rattle.clock_terms.specs.private.Added.{holds_by, conversions_by}
use Rattle.clock_terms.specs.Said.{numbered, IsHold, IsHolding, IsConversionOf, IsConverted}
use Rattle.clock_terms.proofs.Joining.{here, in_none, in_one, from_flat, to_flat}
use Rattle.clock_terms.proofs.Listing.{holds_are, conversions_are}

-- a member of the list comes from a mention of one of the nodes
record IsBy {X : Type 0} (by : ℕ → ℕ → Mention → List X) (n : ℕ) (nodes : List Node) (x : X) : Type 0 where
  j : ℕ
  node : Node
  is_node : slice_get nodes j ≡ Some node
  mention : Mention
  mentioned : Contains node.mentions mention
  given : Contains (by (n + j) node.equation mention) x

from_nodes : {X : Type 0} (by : ℕ → ℕ → Mention → List X) (n : ℕ) (nodes : List Node) (x : X) → Contains (of_nodes by n nodes) x → IsBy by n nodes x
from_nodes by n [] x h = absurd (in_none x h)
from_nodes by n (node ∷ nodes) x h = ⊎_elim
    (λ own.
    let m = from_flat (by n node.equation) node.mentions x own in
    record { j = 0; node = node; is_node = refl; mention = m.0; mentioned = m.1; given = subst (λ k. Contains (by k node.equation m.0) x) (let e : n ≡ n + 0 = omega arith in e) m.2 })
    (λ later.
    let r = from_nodes by (n + 1) nodes x later in
    record { j = suc r.j; node = r.node; is_node = r.is_node; mention = r.mention; mentioned = r.mentioned; given = subst (λ k. Contains (by k r.node.equation r.mention) x) (let e : n + 1 + r.j ≡ n + suc r.j = omega arith in e) r.given })
    (Contains-append_cases (flat_map (by n node.equation) node.mentions) (of_nodes by (n + 1) nodes) x h)

to_nodes : {X : Type 0} (by : ℕ → ℕ → Mention → List X) (n : ℕ) (nodes : List Node) (j : ℕ) (node : Node) (mention : Mention) (x : X)
    → slice_get nodes j ≡ Some node → Contains node.mentions mention → Contains (by (n + j) node.equation mention) x → Contains (of_nodes by n nodes) x
to_nodes by n [] j node mention x is m h = absurd (cc is)
to_nodes by n (first ∷ nodes) zero node mention x is m h =
    let same : node ≡ first = cc is in
    Contains-append_left (flat_map (by n first.equation) first.mentions) (of_nodes by (n + 1) nodes) x
    (to_flat (by n first.equation) first.mentions mention x
    (subst (λ k. Contains k.mentions mention) same m)
    (subst (λ k. Contains (by k first.equation mention) x) (let e : n + 0 ≡ n = omega arith in e) (subst (λ k. Contains (by (n + 0) k.equation mention) x) same h)))
to_nodes by n (first ∷ nodes) (suc j) node mention x is m h =
    Contains-append_right (flat_map (by n first.equation) first.mentions) (of_nodes by (n + 1) nodes) x
    (to_nodes by (n + 1) nodes j node mention x is m (subst (λ k. Contains (by k node.equation mention) x) (let e : n + suc j ≡ n + 1 + j = omega arith in e) h))

-- ---- nodes with `hold`

by_hold : (n i : ℕ) (m : Mention) (a : ℕ) → Contains (holds_by n i m) a → (a ≡ n) × IsHold m
by_hold n i (Stands x) a h = absurd (in_none a h)
by_hold n i Ticks a h = absurd (in_none a h)
by_hold n i Samples a h = absurd (in_none a h)
by_hold n i (Holds x) a h = (sym (in_one n a h), tt)
by_hold n i (Converts by x) a h = absurd (in_none a h)
by_hold n i (Gives clock) a h = absurd (in_none a h)

hold_by : (n i : ℕ) (m : Mention) → IsHold m → Contains (holds_by n i m) n
hold_by n i (Stands x) h = absurd h
hold_by n i Ticks h = absurd h
hold_by n i Samples h = absurd h
hold_by n i (Holds x) h = here n []
hold_by n i (Converts by x) h = absurd h
hold_by n i (Gives clock) h = absurd h

pub holds_hold : (model : FlatModel) (a : ℕ) → Contains (terms_of model).holds a → IsHolding model a
holds_hold model a h =
    let r = from_nodes holds_by (length model.names) (nodes_of model) a (subst (λ xs. Contains xs a) (holds_are model) h) in
    let q = by_hold (numbered model r.j) r.node.equation r.mention a r.given in
    (r.j, q.0, (r.node, r.is_node, (r.mention, r.mentioned, q.1)))

pub hold_holds : (model : FlatModel) (a : ℕ) → IsHolding model a → Contains (terms_of model).holds a
hold_holds model a (j, e, (node, is, (m, stands, hold))) =
    subst (λ xs. Contains xs a) (sym (holds_are model))
    (to_nodes holds_by (length model.names) (nodes_of model) j node m a is stands
    (subst (λ x. Contains (holds_by (numbered model j) node.equation m) x) (sym e) (hold_by (numbered model j) node.equation m hold)))

-- ---- conversions

by_conversion : (n i : ℕ) (m : Mention) (p : Pair) → Contains (conversions_by n i m) p → (p.a ≡ n) × IsConversionOf p.b m
by_conversion n i (Stands x) p h = absurd (in_none p h)
by_conversion n i Ticks p h = absurd (in_none p h)
by_conversion n i Samples p h = absurd (in_none p h)
by_conversion n i (Holds x) p h = absurd (in_none p h)
by_conversion n i (Converts by x) p h = let e = in_one (record { a = n; b = x }) p h in (ap (λ q. q.a) (sym e), ap (λ q. q.b) (sym e))
by_conversion n i (Gives clock) p h = absurd (in_none p h)

abbrev pair_of : ℕ → ℕ → Pair
pair_of a x = record { a = a; b = x }

conversion_by : (n i : ℕ) (m : Mention) (x : ℕ) → IsConversionOf x m → Contains (conversions_by n i m) (record { a = n; b = x })
conversion_by n i (Stands y) x h = absurd h
conversion_by n i Ticks x h = absurd h
conversion_by n i Samples x h = absurd h
conversion_by n i (Holds y) x h = absurd h
conversion_by n i (Converts by y) x h = subst (λ z. Contains (conversions_by n i (Converts by z)) (pair_of n x)) h (here (pair_of n x) [])
conversion_by n i (Gives clock) x h = absurd h

pub conversions_converted : (model : FlatModel) (a x : ℕ) → Contains (terms_of model).conversions (record { a = a; b = x }) → IsConverted model a x
conversions_converted model a x h =
    let pair : Pair = record { a = a; b = x } in
    let r = from_nodes conversions_by (length model.names) (nodes_of model) pair (subst (λ xs. Contains xs pair) (conversions_are model) h) in
    let q = by_conversion (numbered model r.j) r.node.equation r.mention pair r.given in
    (r.j, q.0, (r.node, r.is_node, (r.mention, r.mentioned, q.1)))

pub converted_conversions : (model : FlatModel) (a x : ℕ) → IsConverted model a x → Contains (terms_of model).conversions (record { a = a; b = x })
converted_conversions model a x (j, e, (node, is, (m, stands, by))) =
    subst (λ xs. Contains xs (record { a = a; b = x })) (sym (conversions_are model))
    (to_nodes conversions_by (length model.names) (nodes_of model) j node m (record { a = a; b = x }) is stands
    (subst (λ n. Contains (conversions_by (numbered model j) node.equation m) (pair_of n x)) (sym e) (conversion_by (numbered model j) node.equation m x by)))
