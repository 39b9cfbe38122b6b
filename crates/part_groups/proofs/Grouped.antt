-- Groups are what chains of needs join.
use Rattle.std.proofs.Common.{◌≡◌, refl, ap₂, sym, subst, ◌∙◌, ℕ, suc, ◌<◌, List, [], ◌∷◌, length, map, Option, Some, slice_get, slice_index_or, arith}
use Rattle.std.proofs.lemmas.Option.{slice_get_within, get_or_from_slice_get}
use Rattle.eq_order.specs.declared.uses.Use as answered
use Rattle.eq_order.specs.Order.{use_of}
use Rattle.flat_model.specs.declared.equation.Equation.{Equation}
use Rattle.flat_model.specs.declared.model.FlatModel.{FlatModel}
use Rattle.flat_model.specs.Uses.{Use}
use Rattle.mo_connect.specs.declared.Pair.{Pair}
use Rattle.mo_connect.specs.Chain.{Chain, stay, forward, backward, IsPair}
use Rattle.mo_connect.proofs.Chains.{follow, reversed}
use Rattle.moment_order.specs.declared.stage.Stage.{Stage}
use Rattle.base_partition.specs.private.First.{IsFirst}
use Rattle.part_groups.specs.Groups.{AreJoined, AreGroups}
use Rattle.part_groups.specs.Units.{AreDistinct, Needs}
use Rattle.part_groups.specs.private.Joining.{ArePairs}
use Rattle.part_groups.specs.private.Owners.{AreUnits, AreOwners}
use Rattle.part_groups.proofs.Pairing.{pair_needs, needs_pair}

-- a chain of other steps
moved : (Step Other : ℕ → ℕ → Type 0) → ((x y : ℕ) → Step x y → Other x y) → (x y : ℕ) → Chain Step x y → Chain Other x y
moved Step Other to x y (stay w) = stay w
moved Step Other to x y (forward u v w step more) = forward u v w (to u v step) (moved Step Other to v w more)
moved Step Other to x y (backward u v w step more) = backward u v w (to v u step) (moved Step Other to v w more)

pub are_groups : (model : FlatModel) (count total : ℕ) (stages : List Stage) (order : List answered.Use) (units owners : List (Option ℕ)) (pairs : List Pair)
    → AreUnits count stages units total → AreOwners (length model.names) order units (length order) owners → ArePairs model.equations owners order units (length order) pairs
    → (first : List ℕ) → length first ≡ total → ((x : ℕ) → x < total → IsFirst pairs x (slice_index_or first x 0)) → AreDistinct model (map use_of order) → AreGroups model.equations count stages (map use_of order) first
are_groups model count total stages order units owners pairs are_units are_owners are first size firsts distinct = record {
  each = size ∙ are_units.total_is;
  joined = λ a f found. moved (IsPair pairs) needs just f a (at_place a f found).joined;
  least = λ a b f found chain. (at_place a f found).least b (moved needs (IsPair pairs) whole b a chain);
}
  where
    needs : ℕ → ℕ → Type 0
    needs = Needs model.equations count stages (map use_of order)

    just : (a b : ℕ) → IsPair pairs a b → needs a b
    just = pair_needs model count total stages order units owners pairs are_units are_owners are

    whole : (a b : ℕ) → needs a b → IsPair pairs a b
    whole = needs_pair model count total stages order units owners pairs are_units are_owners are distinct

    at_place : (a f : ℕ) → slice_get first a ≡ Some f → IsFirst pairs a f
    at_place a f found = subst (IsFirst pairs a) (get_or_from_slice_get first a f 0 found) (firsts a (let lt = slice_get_within first a f found in omega (arith, lt, size)))

module _ (equations : List Equation) (count : ℕ) (stages : List Stage) (uses : List Use) where
  abbrev Step : ℕ → ℕ → Type 0
  Step = Needs equations count stages uses

  pub together : (groups : List ℕ) → AreGroups equations count stages uses groups → (a b f g : ℕ) → slice_get groups a ≡ Some f → slice_get groups b ≡ Some g → f ≡ g → AreJoined equations count stages uses a b
  together groups are a b f g one other same =
      follow Step a f b (reversed Step f a (are.joined a f one)) (subst (λ h. Chain Step h b) (sym same) (are.joined b g other))

  pub joined_alike : (groups : List ℕ) → AreGroups equations count stages uses groups → (a b f g : ℕ) → slice_get groups a ≡ Some f → slice_get groups b ≡ Some g → AreJoined equations count stages uses a b → f ≡ g
  joined_alike groups are a b f g one other chain =
      let low = are.least a g f one (follow Step g b a (are.joined b g other) (reversed Step a b chain)) in
      let high = are.least b f g other (follow Step f a b (are.joined a f one) chain) in
      omega (arith, low, high)

  lists_same : (xs ys : List ℕ) → length xs ≡ length ys → ((i f g : ℕ) → slice_get xs i ≡ Some f → slice_get ys i ≡ Some g → f ≡ g) → xs ≡ ys
  lists_same [] [] long same = refl
  lists_same [] (y ∷ ys) long same = absurd (omega (arith, long))
  lists_same (x ∷ xs) [] long same = absurd (omega (arith, long))
  lists_same (x ∷ xs) (y ∷ ys) long same = ap₂ (λ z zs. z ∷ zs) (same 0 x y refl refl) (lists_same xs ys (omega (arith, long)) (λ i. same (suc i)))

  pub one_grouping : (one other : List ℕ) → AreGroups equations count stages uses one → AreGroups equations count stages uses other → one ≡ other
  one_grouping one other first second = lists_same one other (first.each ∙ sym second.each) (λ a f g at_one at_other.
      let low = first.least a g f at_one (second.joined a g at_other) in
      let high = second.least a f g at_other (first.joined a f at_one) in
      omega (arith, low, high))
