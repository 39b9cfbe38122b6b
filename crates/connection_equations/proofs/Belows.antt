-- The numbers of pairs, and the pairs of items that are kept.
use Rattle.std.proofs.Common.{◌≡◌, refl, ap, ℕ, zero, suc, ◌<◌, List, [], ◌∷◌, ◌++◌, map, flat_map, Option, Some, None, arith}
use Rattle.std.proofs.lemmas.List.Elements.{All-append}
use Rattle.mo_parser.specs.declared.tree.ClassDef.{ClassDef}
use Rattle.mo_parser.specs.declared.tree.Short.{Short}
use Rattle.mo_parser.specs.declared.tree.TreeEq.{TreeEq}
use Rattle.mo_parser.specs.declared.tree.TreeEq.TheOpen.{TreeEq-F}
use Rattle.mo_parser.specs.declared.tree.TreeEq.TheViews.{out-TreeEq}
use Rattle.mo_connect.specs.declared.Pair.{Pair}
use Rattle.mo_connect.specs.Chain.{AreBelow}
use Rattle.class_scopes.specs.Spelled.{Ident, spelled}
use Rattle.class_scopes.specs.Types.{elements_of, class_equations, short_of}
use Rattle.flat_instances.specs.Instances.{Item, Declared, Own}
use Rattle.flat_instances.specs.Kept.{seen}
use Rattle.flat_instances.specs.declared.item.Item.{Item as KeptItem}
use Rattle.connection_equations.specs.Connections.{NumbersBelow, pair_of, flat_name, member_pair, component_pairs_by, pairs_by, connector_along, equation_pairs_by, equation_pairs, item_pairs, pairs, kept_pairs}

none_below : (count : ℕ) → AreBelow count []
none_below count k d within = absurd (omega (arith, within))

all_flat : {A : Type 0} (count : ℕ) (f : A → List Pair) → ((x : A) → AreBelow count (f x)) → (xs : List A) → AreBelow count (flat_map f xs)
all_flat count f each [] = none_below count
all_flat count f each (x ∷ xs) = All-append (λ pair. (pair.a < count) × (pair.b < count)) (f x) (flat_map f xs) (each x) (all_flat count f each xs)

one_below : (count a b : ℕ) → a < count → b < count → AreBelow count (record { a = a; b = b } ∷ [])
one_below count a b first second zero d within = (first, second)
one_below count a b first second (suc k) d within = absurd (omega (arith, within))

module _ (text : List ℕ) (classes : List ClassDef) (number : Ident → Option ℕ) where
  -- the pairs of items that are kept are those of the items
  pub pairs_seen : (items : List KeptItem) → flat_map (kept_pairs text classes number) items ≡ pairs text classes number (map (seen text classes) items)
  pairs_seen [] = refl
  pairs_seen (item ∷ items) = ap (λ t. kept_pairs text classes number item ++ t) (pairs_seen items)

  module _ (count : ℕ) (below : NumbersBelow count number) where
    pair_below : (a b : Ident) (x y : Option ℕ) → number a ≡ x → number b ≡ y → AreBelow count (pair_of x y)
    pair_below a b (Some x) (Some y) first second = one_below count x y (below a x first) (below b y second)
    pair_below a b (Some x) None first second = none_below count
    pair_below a b None y first second = none_below count

    named_below : (a b : Ident) → AreBelow count (pair_of (number a) (number b))
    named_below a b = pair_below a b (number a) (number b) refl refl

    components_below : (short : Option Short) (connector : ℕ) (a b : Ident) → AreBelow count (component_pairs_by text classes number short connector a b)
    components_below (Some short) connector a b = named_below a b
    components_below None connector a b =
        all_flat count (member_pair text classes number a b) (λ member. named_below (a ++ 46 ∷ spelled text member.name) (b ++ 46 ∷ spelled text member.name))
        (elements_of text classes connector)

    connect_below : (connector : Option ℕ) (a b : Ident) → AreBelow count (pairs_by text classes number connector a b)
    connect_below (Some connector) a b = components_below (short_of text classes connector) connector a b
    connect_below None a b = none_below count

    equation_below : (scope : Ident) (class : ℕ) (equation : TreeEq-F TreeEq) → AreBelow count (equation_pairs_by text classes number scope class equation)
    equation_below scope class (TreeEq-F.Connect a b) = connect_below (connector_along text classes number class a) (flat_name text scope a) (flat_name text scope b)
    equation_below scope class (TreeEq-F.Equal left right) = none_below count
    equation_below scope class (TreeEq-F.When clock inside) = none_below count

    item_below : (item : Item) → AreBelow count (item_pairs text classes number item)
    item_below (Declared v) = none_below count
    item_below (Own scope class) =
        all_flat count (equation_pairs text classes number scope class) (λ equation. equation_below scope class (out-TreeEq equation)) (class_equations text classes class)

    -- the pairs name numbers below the count alone
    pub pairs_below : (items : List Item) → AreBelow count (pairs text classes number items)
    pairs_below items = all_flat count (item_pairs text classes number) item_below items
