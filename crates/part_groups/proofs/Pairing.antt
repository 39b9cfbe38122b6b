-- The pairs of units are those of which the first needs the second.
use Rattle.std.proofs.Common.{◌≡◌, refl, ap, sym, subst, ◌∙◌, ℕ, zero, suc, ◌+◌, ◌<◌, List, [], ◌∷◌, ◌++◌, length, map, get_or, Option, Some, None, slice_get, All, Contains, inl, inr, arith}
use Rattle.std.specs.Prelude.{flat_map, option_map}
use Rattle.std.proofs.lemmas.Bool.{cases_lt}
use Rattle.std.proofs.lemmas.Option.{none-some, same_Some, slice_get-map, slice_get-get_or, slice_get_within}
use Rattle.std.proofs.lemmas.List.Elements.{Contains-append_cases, Contains-append_left, Contains-append_right}
use Rattle.eq_order.specs.declared.uses.Use as answered
use Rattle.eq_order.specs.Order.{use_of}
use Rattle.flat_model.specs.declared.equation.Equation.{Equation}
use Rattle.flat_model.specs.declared.equation.Equation.TheVariants.{Valued, Clocks}
use Rattle.flat_model.specs.declared.model.FlatModel.{FlatModel}
use Rattle.flat_model.specs.Setting.{flattened}
use Rattle.flat_model.specs.Uses.{Use}
use Rattle.mo_connect.specs.declared.Pair.{Pair}
use Rattle.moment_order.specs.declared.stage.Stage.{Stage}
use Rattle.part_groups.specs.Units.{unit_of, EquationNames, AreDistinct, Needs}
use Rattle.part_groups.specs.private.Asking.{names_in, names_of, names_at}
use Rattle.part_groups.specs.private.Owners.{AreUnits, Owns, AreOwners}
use Rattle.part_groups.specs.private.Joining.{pair_with, pairs_for, IsPairOf, ArePairs}
use Rattle.part_groups.proofs.Asked.{names_just, names_whole}
use Rattle.part_groups.proofs.Numbering.{unit_below}

nothing : {A : Type 0} (x : A) → Contains [] x → ⊥
nothing x (i, lt, is) = omega (arith, lt)

in_flat : {X A : Type 0} (f : X → List A) (xs : List X) (y : A) → Contains (flat_map f xs) y → (x : X) × Contains xs x × Contains (f x) y
in_flat f [] y there = absurd (nothing y there)
in_flat f (x ∷ xs) y there = elim (Contains-append_cases (f x) (flat_map f xs) y there) [
  | inl here ↦ (x, (0, omega arith, refl), here)
  | inr later ↦ let (z, (i, lt, is), own) = in_flat f xs y later in (z, (suc i, omega (arith, lt), is), own)
]

to_flat : {X A : Type 0} (f : X → List A) (xs : List X) (x : X) (y : A) → Contains xs x → Contains (f x) y → Contains (flat_map f xs) y
to_flat f [] x y there own = absurd (nothing x there)
to_flat f (z ∷ xs) x y (zero, lt, is) own = Contains-append_left (f z) (flat_map f xs) y (subst (λ w. Contains (f w) y) (sym is) own)
to_flat f (z ∷ xs) x y (suc i, lt, is) own = Contains-append_right (f z) (flat_map f xs) y (to_flat f xs x y (i, omega (arith, lt), is) own)

module _ (equations : List Equation) (owners : List (Option ℕ)) (order : List answered.Use) (units : List (Option ℕ)) where
  pub pairs_more : (at : ℕ) (entry : answered.Use) (unit : Option ℕ) (old new : List Pair) → slice_get order at ≡ Some entry → unit ≡ flattened (slice_get units at) → new ≡ old ++ pairs_for equations owners unit entry
      → ArePairs equations owners order units at old → ArePairs equations owners order units (at + 1) new
  pairs_more at entry unit old new found unit_is is so = record { just = just; whole = whole }
    where
      just : (pair : Pair) → Contains new pair → (i : ℕ) × (i < at + 1) × IsPairOf equations owners order units i pair
      just pair there = elim (Contains-append_cases old (pairs_for equations owners unit entry) pair (subst (λ ps. Contains ps pair) is there)) [
        | inl before ↦ let (i, lt, of) = so.just pair before in (i, omega (arith, lt), of)
        | inr here ↦ (at, omega arith, record { entry = entry; found = found; among = subst (λ u. Contains (pairs_for equations owners u entry) pair) unit_is here })
      ]

      whole : (i : ℕ) (pair : Pair) → i < at + 1 → IsPairOf equations owners order units i pair → Contains new pair
      whole i pair lt of = subst (λ ps. Contains ps pair) (sym is) (elim (cases_lt i at) [
        | inl before ↦ Contains-append_left old (pairs_for equations owners unit entry) pair (so.whole i pair before of)
        | inr past ↦
            let here : i ≡ at = omega (arith, lt, past) in
            let same : of.entry ≡ entry = same_Some of.entry entry (sym of.found ∙ ap (slice_get order) here ∙ found) in
            Contains-append_right old (pairs_for equations owners unit entry) pair
            (subst (λ e. Contains (pairs_for equations owners unit e) pair) same (subst (λ u. Contains (pairs_for equations owners u of.entry) pair) (ap (λ k. flattened (slice_get units k)) here ∙ sym unit_is) of.among))
      ])

-- the names of an equation that may be there
asks_just : (o : Option Equation) (x : ℕ) → Contains (names_at o) x → (equation : Equation) × (o ≡ Some equation) × EquationNames equation x
asks_just None x there = absurd (nothing x there)
asks_just (Some (Clocks left right clause)) x there = absurd (nothing x there)
asks_just (Some (Valued left right clause)) x there = (
  Valued left right clause,
  refl,
  elim (Contains-append_cases (names_in left) (names_in right) x there) [
    | inl one ↦ inl (names_just left x one)
    | inr other ↦ inr (names_just right x other)
  ],
)

asks_whole : (equation : Equation) (x : ℕ) → EquationNames equation x → Contains (names_of equation) x
asks_whole (Valued left right clause) x (inl asks) = Contains-append_left (names_in left) (names_in right) x (names_whole left x asks)
asks_whole (Valued left right clause) x (inr asks) = Contains-append_right (names_in left) (names_in right) x (names_whole right x asks)
asks_whole (Clocks left right clause) x asks = absurd asks

module _ (model : FlatModel) (count total : ℕ) (stages : List Stage) (order : List answered.Use) (units owners : List (Option ℕ)) (pairs : List Pair)
    (are_units : AreUnits count stages units total) (are_owners : AreOwners (length model.names) order units (length order) owners) (are : ArePairs model.equations owners order units (length order) pairs) where
  abbrev uses : List Use
  uses = map use_of order

  use_at : (i : ℕ) (entry : answered.Use) → slice_get order i ≡ Some entry → slice_get uses i ≡ Some (use_of entry)
  use_at i entry found = slice_get-map use_of order i ∙ ap (option_map use_of) found

  of_unit : (i a : ℕ) → flattened (slice_get units i) ≡ Some a → unit_of count stages i ≡ Some a
  of_unit i a is = sym (are_units.each i) ∙ is

  -- what a pair is made of
  record IsMadeOf (pair : Pair) : Type 0 where
    i : ℕ
    j : ℕ
    x : ℕ
    entry : answered.Use
    found : slice_get order i ≡ Some entry
    first : flattened (slice_get units i) ≡ Some pair.a
    asks : Contains (names_at (slice_get model.equations entry.equation)) x
    owns : Owns order units j x pair.b

  made_of : (pair : Pair) → Contains pairs pair → IsMadeOf pair
  made_of pair there = let (i, lt, of) = are.just pair there in by_unit i of.entry of.found (flattened (slice_get units i)) refl of.among
    where
      by_owner : (i : ℕ) (entry : answered.Use) → slice_get order i ≡ Some entry → (a : ℕ) → flattened (slice_get units i) ≡ Some a → (x : ℕ) → Contains (names_at (slice_get model.equations entry.equation)) x
          → (o : Option ℕ) → flattened (slice_get owners x) ≡ o → Contains (pair_with a o) pair → IsMadeOf pair
      by_owner i entry found a first x asks None none there = absurd (nothing pair there)
      by_owner i entry found a first x asks (Some b) owned (suc k, lt, is) = absurd (omega (arith, lt))
      by_owner i entry found a first x asks (Some b) owned (zero, lt, is) =
          let (j, below, owns) = are_owners.own x b owned in
          record { i = i; j = j; x = x; entry = entry; found = found; first = first ∙ ap (λ p. Some p.a) is; asks = asks; owns = subst (Owns order units j x) (ap (λ p. p.b) is) owns }

      by_unit : (i : ℕ) (entry : answered.Use) → slice_get order i ≡ Some entry → (o : Option ℕ) → flattened (slice_get units i) ≡ o → Contains (pairs_for model.equations owners o entry) pair → IsMadeOf pair
      by_unit i entry found None none there = absurd (nothing pair there)
      by_unit i entry found (Some a) first there =
          let (x, asks, own) = in_flat (λ y. pair_with a (flattened (slice_get owners y))) (names_at (slice_get model.equations entry.equation)) pair there in
          by_owner i entry found a first x asks (flattened (slice_get owners x)) refl own

  -- pairs are of units that there are
  pub pairs_below : All (λ pair. (pair.a < total) × (pair.b < total)) pairs
  pairs_below k d within =
      let made = made_of (get_or pairs k d) (k, within, get_or_itself k d within) in
      let first = unit_below count stages made.i (get_or pairs k d).a (of_unit made.i (get_or pairs k d).a made.first) in
      let second = unit_below count stages made.j (get_or pairs k d).b (of_unit made.j (get_or pairs k d).b made.owns.unit) in
      let same = are_units.total_is in
      (omega (arith, first, same), omega (arith, second, same))
    where
      get_or_itself : (k : ℕ) (d : Pair) → k < length pairs → get_or pairs k (get_or pairs k d) ≡ get_or pairs k d
      get_or_itself k d within = same_Some _ _ (sym (slice_get-get_or pairs k (get_or pairs k d) within) ∙ slice_get-get_or pairs k d within)

  -- the first unit of a pair needs the second
  pub pair_needs : (a b : ℕ) → Contains pairs (record { a = a; b = b }) → Needs model.equations count stages uses a b
  pair_needs a b there =
      let made = made_of (record { a = a; b = b }) there in
      let (equation, found, names) = asks_just (slice_get model.equations made.entry.equation) made.x made.asks in
      record {
        i = made.i;
        j = made.j;
        entry = use_of made.entry;
        other = use_of made.owns.entry;
        equation = equation;
        entry_at = use_at made.i made.entry made.found;
        entry_of = of_unit made.i a made.first;
        other_at = use_at made.j made.owns.entry made.owns.found;
        other_of = of_unit made.j b made.owns.unit;
        found = found;
        names = subst (EquationNames equation) (sym made.owns.name) names;
      }

  answered_at : (i : ℕ) (entry : Use) → slice_get uses i ≡ Some entry → (own : answered.Use) × (slice_get order i ≡ Some own) × (use_of own ≡ entry)
  answered_at i entry found = by_option (slice_get order i) refl (sym (slice_get-map use_of order i) ∙ found)
    where
      by_option : (o : Option answered.Use) → slice_get order i ≡ o → option_map use_of o ≡ Some entry → (own : answered.Use) × (slice_get order i ≡ Some own) × (use_of own ≡ entry)
      by_option None none e = absurd (none-some entry e)
      by_option (Some own) there e = (own, there, same_Some (use_of own) entry e)

  -- and where it does, there is a pair
  pub needs_pair : AreDistinct model uses → (a b : ℕ) → Needs model.equations count stages uses a b → Contains pairs (record { a = a; b = b })
  needs_pair distinct a b needs = are.whole needs.i (record { a = a; b = b }) (within order needs.i own own_at) (record { entry = own; found = own_at; among = among })
    where
      own : answered.Use
      own = (answered_at needs.i needs.entry needs.entry_at).0

      own_at : slice_get order needs.i ≡ Some own
      own_at = (answered_at needs.i needs.entry needs.entry_at).1

      own_is : use_of own ≡ needs.entry
      own_is = (answered_at needs.i needs.entry needs.entry_at).2

      within : (xs : List answered.Use) (i : ℕ) (x : answered.Use) → slice_get xs i ≡ Some x → i < length xs
      within xs i x found = slice_get_within xs i x found

      owns : Owns order units needs.j needs.other.name b
      owns = let (other, found, is) = answered_at needs.j needs.other needs.other_at in record { entry = other; found = found; name = ap (λ u. u.name) is; unit = are_units.each needs.j ∙ needs.other_of }

      alone : (j c : ℕ) → needs.j < j → j < length order → Owns order units j needs.other.name c → ⊥
      alone j c after below other =
          let same = distinct.once needs.j j needs.other (use_of other.entry) needs.other_at (use_at j other.entry other.found) (sym other.name) in
          omega (arith, after, same)

      owned : flattened (slice_get owners needs.other.name) ≡ Some b
      owned = are_owners.last needs.j needs.other.name b (within order needs.j owns.entry owns.found) (distinct.named needs.j needs.other needs.other_at) owns alone

      unit : flattened (slice_get units needs.i) ≡ Some a
      unit = are_units.each needs.i ∙ needs.entry_of

      asks : Contains (names_at (slice_get model.equations own.equation)) needs.other.name
      asks = subst (λ o. Contains (names_at o) needs.other.name) (sym (ap (λ u. slice_get model.equations u.equation) own_is ∙ needs.found)) (asks_whole needs.equation needs.other.name needs.names)

      among : Contains (pairs_for model.equations owners (flattened (slice_get units needs.i)) own) (record { a = a; b = b })
      among = subst (λ o. Contains (pairs_for model.equations owners o own) (record { a = a; b = b })) (sym unit)
          (to_flat (λ y. pair_with a (flattened (slice_get owners y))) (names_at (slice_get model.equations own.equation)) needs.other.name (record { a = a; b = b }) asks
          (subst (λ o. Contains (pair_with a o) (record { a = a; b = b })) (sym owned) (0, omega arith, refl)))
