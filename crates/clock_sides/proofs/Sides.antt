-- Each side of an equation agrees with the classes.
use Rattle.std.proofs.Common.{◌≡◌, ◌≢◌, ◌∙◌, refl, ap, sym, subst, ℕ, ◌<◌, inl, inr, true, List, slice_get, Option, Some, None, Contains}
use Rattle.std.proofs.lemmas.Option.{none-some}
use Rattle.rational_time.specs.declared.ratio.Ratio.{Ratio}
use Rattle.flat_model.specs.declared.clock.Clocking.{Clocking}
use Rattle.flat_model.specs.declared.evaluate.Vantage.TheVariants.{Left}
use Rattle.flat_model.specs.declared.expression.Expr.{Expr}
use Rattle.flat_model.specs.declared.model.FlatModel.{FlatModel}
use Rattle.flat_model.specs.declared.table.Table.{Table}
use Rattle.flat_model.specs.Asks.{AsksFor, OfNow, OfLast}
use Rattle.flat_model.specs.Clocks.{AreOnOneAxis}
use Rattle.flat_model.specs.Models.{IsModel}
use Rattle.flat_model.specs.Occurrences.{held_count, converted_count}
use Rattle.flat_model.specs.Runnable.{IsUnclocked, IsClocked, IsConvertible, IsSideClocked}
use Rattle.flat_model.specs.Samples.{may_stand}
use Rattle.flat_model.specs.Setting.{Setting, flattened, class_of_equation}
use Rattle.clock_terms.specs.declared.data.Terms.{Terms}
use Rattle.clock_terms.specs.declared.data.Classes.{Classes}
use Rattle.clock_terms.specs.Classing.{AreClassesOf, class_in, is_clocked, partition_in}
use Rattle.clock_terms.specs.Mentions.{Mention, Stands, Ticks, Samples, Holds, Converts, Gives, Cut, seen}
use Rattle.clock_terms.specs.Nodes.{Node, nodes_of, cut_node}
use Rattle.clock_terms.specs.Said.{IsNode, numbered, TakesLast, IsHold}
use Rattle.sub_clock_solve.specs.Solving.{place_of}
use Rattle.clock_check.specs.ClockingOf.{number_in, IsClockingOf}
use Rattle.base_partition.specs.Classified.{NoneMixed}
use Rattle.clock_ready.specs.Laws.{IsSideOwn}
use Rattle.clock_ready.proofs.Fitting.{named}
use Rattle.clock_ready.proofs.Good.{Each, each_at, IsGood, IsGoodNode, model_good}
use Rattle.clock_ready.proofs.Own.{each_contained, name_in_node}
use Rattle.flat_model.specs.Typing.{types_in}
use Rattle.clock_sides.proofs.Lists.{at_of, each_from}
use Rattle.clock_sides.proofs.Counted.{IsStanding, IsHoldOf, held_shown, converted_shown}
use Rattle.clock_sides.proofs.Asked.{sampled_shown, sampled_last_shown}
use Rattle.clock_sides.proofs.Standing.{IsStill, IsStillCut, still}
use Rattle.clock_sides.proofs.Facts.{conversion_needs, number_some, number_none, unclocked_by, variable_class, equation_class, argument, needing, taken, still_node, one_partition, unmarked, node_in, cut_unclocked}

pub standing_is : (y : ℕ) (m : Mention) → IsStanding y m → m ≡ Stands y
standing_is y (Stands x) e = ap (λ z. Stands z) (sym e)
standing_is y Ticks e = absurd e
standing_is y Samples e = absurd e
standing_is y (Holds x) e = absurd e
standing_is y (Converts by x) e = absurd e
standing_is y (Gives clock) e = absurd e

pub hold_is : (z : ℕ) (m : Mention) → IsHoldOf z m → IsHold m × TakesLast z m
hold_is z (Stands x) e = absurd e
hold_is z Ticks e = absurd e
hold_is z Samples e = absurd e
hold_is z (Holds x) e = (tt, e)
hold_is z (Converts by x) e = absurd e
hold_is z (Gives clock) e = absurd e

module _ (model : FlatModel) (terms : Terms) (classes : Classes) (clocking : Clocking) (table : Table) (instants : List Ratio) (is_model : IsModel model) (k : AreClassesOf model classes)
    (apart : NoneMixed model classes) (is : IsClockingOf model terms classes clocking) where
  abbrev s : Setting
  s = record { model = model; clocking = clocking; table = table; instants = instants }

  abbrev class_at : ℕ → ℕ
  class_at j = class_in classes (numbered model j)

  some_place : {A : Type 0} (o : Option A) (c : A) → o ≡ Some c → o ≢ None
  some_place o c e none = none-some c (sym none ∙ e)

  -- the argument of `hold` or of a conversion in a node is clocked
  pub argument_clocked : (j : ℕ) (node : Node) (m : Mention) (z : ℕ) → IsNode model j node → Contains node.mentions m → TakesLast z m → IsClocked s z
  argument_clocked j node m z at c takes =
      some_place (flattened (slice_get clocking.of_name z)) (place_of classes (class_in classes z))
      (variable_class model classes is_model k terms clocking is z (argument model classes is_model k j node m z at c takes)
      ∙ number_some classes (class_in classes z) (taken model classes is_model k j node m z at c takes))

  -- what stands in a part that is cut is unclocked
  pub cut_name_unclocked : (j : ℕ) (node : Node) (y : ℕ) → IsNode model j node → node.cause ≢ None → Contains node.mentions (Stands y) → IsUnclocked s y
  cut_name_unclocked j node y at cause c =
      let types = types_in model.names in
      let good = each_contained (IsGood types) node.mentions (Stands y) (each_at (IsGoodNode types) (nodes_of model) j node (model_good model is_model) at) c in
      let (name, is_named) = named model.names y good.0 good.1 in
      ap (λ o. flattened o) (is.names y name is_named)
      ∙ name_in_node model classes k (λ c x y. apart c (x, y)) j node y name at is_named c
      ∙ number_none classes (class_at j) (cut_unclocked model classes is_model k apart j node at cause)

  -- a conversion stays on one axis and in one base partition
  module _ (axis : (c d : ℕ) → is_clocked classes c ≡ true → is_clocked classes d ≡ true → partition_in classes c ≡ partition_in classes d
      → AreOnOneAxis (slice_get clocking.clocks (place_of classes c)) (slice_get clocking.clocks (place_of classes d))) where
    convertible : (c d : ℕ) (from to : Option ℕ) → is_clocked classes c ≡ true → is_clocked classes d ≡ true → partition_in classes c ≡ partition_in classes d
        → to ≡ Some (place_of classes c) → from ≡ Some (place_of classes d) → IsConvertible s from to
    convertible c d from to clocked also e at_to at_from =
        subst (λ t. IsConvertible s from t) (sym at_to) (subst (λ f. IsConvertible s f (Some (place_of classes c))) (sym at_from)
        (record { axis = axis c d clocked also e; partition = is.partitions d also ∙ ap (λ p. Some p) (sym e) ∙ sym (is.partitions c clocked) }))

    module _ (i j : ℕ) (node : Node) (e : Expr) (at : IsNode model j node) (number : node.equation ≡ i) (none : node.cause ≡ None)
        (within : (m : Mention) → Contains (seen e).mentions m → Contains node.mentions m)
        (cuts : (cut : Cut) → Contains (seen e).cuts cut → Contains (nodes_of model) (cut_node i cut)) where
      own_class : class_of_equation s i ≡ number_in classes (class_at j)
      own_class = equation_class model classes is_model k terms clocking is j node i at number none

      converted_is : (z : ℕ) → 0 < converted_count z e → IsConvertible s (flattened (slice_get clocking.of_name z)) (class_of_equation s i)
      converted_is z some =
          let (m, c, conversion) = converted_shown z e some in
          let here = within m c in
          let both = conversion_needs z m conversion in
          let clocked = needing model classes is_model k j node m at here both.0 in
          let also = taken model classes is_model k j node m z at here both.1 in
          convertible (class_at j) (class_in classes z) (flattened (slice_get clocking.of_name z)) (class_of_equation s i) clocked also
          (one_partition model classes is_model k j node m z at here conversion)
          (own_class ∙ number_some classes (class_at j) clocked)
          (variable_class model classes is_model k terms clocking is z (argument model classes is_model k j node m z at here both.1) ∙ number_some classes (class_in classes z) also)

      held_is : (z : ℕ) → 0 < held_count z e → IsClocked s z × (class_of_equation s i ≡ None)
      held_is z some =
          let (m, c, hold) = held_shown z e some in
          let here = within m c in
          let both = hold_is z m hold in (
            argument_clocked j node m z at here both.1,
            own_class ∙ number_none classes (class_at j)
                (unmarked model classes is_model k apart (numbered model j) (node_in model classes is_model k j node at) (inr (inl (j, refl, (node, at, (m, here, both.0)))))),
          )

      -- a part that is cut from the side is a node of its own
      cut_at : (cut : Cut) → Contains (seen e).cuts cut → (l : ℕ) × IsNode model l (cut_node i cut)
      cut_at cut c = at_of (nodes_of model) (cut_node i cut) (cuts cut c)

      some_cause : (cut : Cut) → (cut_node i cut).cause ≢ None
      some_cause cut e = none-some cut.cause (sym e)

      sampled_is : (y : ℕ) → AsksFor e 1 (OfNow y) → IsUnclocked s y
      sampled_is y some =
          let (cut, c, (m, inside, stands)) = sampled_shown y e some in
          let (l, is_cut) = cut_at cut c in
          cut_name_unclocked l (cut_node i cut) y is_cut (some_cause cut) (subst (λ m. Contains cut.mentions m) (standing_is y m stands) inside)

      sampled_held_is : (z : ℕ) → AsksFor e 1 (OfLast z) → IsClocked s z
      sampled_held_is z some =
          let (cut, c, (m, inside, takes)) = sampled_last_shown z e some in
          let (l, is_cut) = cut_at cut c in
          argument_clocked l (cut_node i cut) m z is_cut inside takes

      plain_is : Each IsStillCut (seen e).cuts
      plain_is = each_from IsStillCut (seen e).cuts (λ cut c.
          let (l, is_cut) = cut_at cut c in
          still_node model classes is_model k l (cut_node i cut) is_cut (cut_unclocked model classes is_model k apart l (cut_node i cut) is_cut (some_cause cut)))

      unclocked_is : class_of_equation s i ≡ None → may_stand e Left ≡ true
      unclocked_is free =
          let quiet = still_node model classes is_model k j node at (unclocked_by classes (class_at j) (sym own_class ∙ free)) in
          (still e).0 (each_from IsStill (seen e).mentions (λ m c. each_contained IsStill node.mentions m quiet (within m c)))

      pub side_clocked : IsSideOwn s i e → IsSideClocked s i e
      side_clocked own = record {
        own = own;
        converted = converted_is;
        held = held_is;
        sampled = sampled_is;
        sampled_held = sampled_held_is;
        plain = (still e).1 plain_is;
        unclocked = unclocked_is;
      }
