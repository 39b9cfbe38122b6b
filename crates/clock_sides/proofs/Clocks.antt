-- Clocked classes of one base partition have clocks on one axis.
use Rattle.std.proofs.Common.{◌≡◌, ◌∙◌, refl, ap, sym, subst, ℕ, suc, ◌+◌, ◌==◌, true, if◌then◌else◌, List, [], ◌∷◌, length, slice_get, flat_map, Some, None, option_map, Contains, ⊎_elim, arith}
use Rattle.std.specs.List.{list_any}
use Rattle.std.proofs.lemmas.Bool.{eq-eqb}
use Rattle.std.proofs.lemmas.Option.{none-some}
use Rattle.std.proofs.lemmas.List.Elements.{Contains-append_cases}
use Rattle.flat_model.specs.declared.clock.Clock.{Clock}
use Rattle.flat_model.specs.declared.clock.Clock.TheVariants.{Periodic, Event}
use Rattle.flat_model.specs.declared.clock.Clocking.{Clocking}
use Rattle.flat_model.specs.declared.clock.Conversion.{Conversion}
use Rattle.flat_model.specs.declared.clock.Conversion.TheVariants.{Sub, Super, Shift, Back, NoClock}
use Rattle.flat_model.specs.declared.model.FlatModel.{FlatModel}
use Rattle.flat_model.specs.Clocks.{AreOnOneAxis}
use Rattle.flat_model.specs.Models.{IsModel}
use Rattle.clock_terms.specs.declared.data.Constructor.{Constructor}
use Rattle.clock_terms.specs.declared.data.Relation.{Relation}
use Rattle.clock_terms.specs.declared.data.Terms.{Terms}
use Rattle.clock_terms.specs.declared.data.Classes.{Classes}
use Rattle.clock_terms.specs.Position.{Progression, progression_of}
use Rattle.clock_terms.specs.Clocking.{Held}
use Rattle.clock_terms.specs.Classing.{AreClassesOf, class_in, is_clocked, partition_in}
use Rattle.clock_terms.specs.Listed.{of_nodes, relation_by, relations_by}
use Rattle.clock_terms.specs.Mentions.{Mention, Stands, Ticks, Samples, Holds, Converts, Gives}
use Rattle.clock_terms.specs.Nodes.{Node, nodes_of}
use Rattle.clock_terms.specs.Said.{AreTermsOf, IsConversionOf}
use Rattle.clock_terms.proofs.Joining.{in_none, in_one, from_flat}
use Rattle.clock_spread.specs.Rounds.{AreGotten}
use Rattle.clock_spread.proofs.Only.{clocking_gives}
use Rattle.sub_clock_solve.specs.Solving.{said_of, place_of}
use Rattle.sub_clock_solve.specs.Standing.{FitTogether}
use Rattle.sub_clock_solve.proofs.Giving.{sources_proper}
use Rattle.clock_check.specs.ClockingOf.{held_in, IsClockingOf}
use Rattle.base_partition.specs.Classified.{NoneBaseMixed, IsSecondOf, is_event, sources_in}
use Rattle.clock_sides.proofs.Axes.{ComesFrom, comes_from, mapped_from}
use Rattle.clock_sides.proofs.Events.{stands_at, one_axis}
use Rattle.clock_sides.proofs.Facts.{one_partition}
use Rattle.clock_sides.proofs.Lists.{both_true}

-- ---- relations come from conversions

pub in_nodes : {X : Type 0} (by : ℕ → ℕ → Mention → List X) (n : ℕ) (nodes : List Node) (x : X) → Contains (of_nodes by n nodes) x
    → (j : ℕ) × (node : Node) × (slice_get nodes j ≡ Some node) × ((m : Mention) × Contains node.mentions m × Contains (by (n + j) node.equation m) x)
in_nodes by n [] x c = absurd (in_none x c)
in_nodes by n (node ∷ nodes) x c = ⊎_elim
    (λ own.
    let f = from_flat (by n node.equation) node.mentions x own in
    (0, node, refl, (f.0, f.1, subst (λ k. Contains (by k node.equation f.0) x) (let e : n ≡ n + 0 = omega arith in e) f.2)))
    (λ later.
    let (j, other, at, (m, within, gives)) = in_nodes by (n + 1) nodes x later in
    (suc j, other, at, (m, within, subst (λ k. Contains (by k other.equation m) x) (let e : n + 1 + j ≡ n + suc j = omega arith in e) gives)))
    (Contains-append_cases (flat_map (by n node.equation) node.mentions) (of_nodes by (n + 1) nodes) x c)

ends_by : (n i : ℕ) (by : Conversion) (x : ℕ) (r : Relation) → Contains (relation_by n i by x) r → (r.result ≡ n) × (r.argument ≡ x)
ends_by n i NoClock x r c = absurd (in_none r c)
ends_by n i (Sub f) x r c = let e = in_one _ r c in (ap (λ r. r.result) (sym e), ap (λ r. r.argument) (sym e))
ends_by n i (Super f) x r c = let e = in_one _ r c in (ap (λ r. r.result) (sym e), ap (λ r. r.argument) (sym e))
ends_by n i (Shift k l) x r c = let e = in_one _ r c in (ap (λ r. r.result) (sym e), ap (λ r. r.argument) (sym e))
ends_by n i (Back k l) x r c = let e = in_one _ r c in (ap (λ r. r.result) (sym e), ap (λ r. r.argument) (sym e))

conversion_by : (n i : ℕ) (m : Mention) (r : Relation) → Contains (relations_by n i m) r → (r.result ≡ n) × IsConversionOf r.argument m
conversion_by n i (Stands x) r c = absurd (in_none r c)
conversion_by n i Ticks r c = absurd (in_none r c)
conversion_by n i Samples r c = absurd (in_none r c)
conversion_by n i (Holds x) r c = absurd (in_none r c)
conversion_by n i (Gives clock) r c = absurd (in_none r c)
conversion_by n i (Converts by x) r c = ends_by n i by x r c

on_axis : (a b : Clock) → (progression_of a).site ≡ (progression_of b).site → AreOnOneAxis (Some a) (Some b)
on_axis (Periodic p s) (Periodic q r) e = tt
on_axis (Periodic p s) (Event b h k) e = absurd (none-some b e)
on_axis (Event a f g) (Periodic q r) e = absurd (none-some a (sym e))
on_axis (Event a f g) (Event b h k) e = cc

module _ (model : FlatModel) (terms : Terms) (classes : Classes) (clocking : Clocking) (is_model : IsModel model) (t : AreTermsOf model terms) (k : AreClassesOf model classes)
    (apart : NoneBaseMixed model classes) (fit : FitTogether terms classes) (is : IsClockingOf model terms classes clocking) where
  abbrev part : ℕ → ℕ
  part c = partition_in classes c

  related : (r : Relation) → Contains terms.relations r → part (class_in classes r.result) ≡ part (class_in classes r.argument)
  related r c =
      let (j, node, at, (m, within, gives)) = in_nodes relations_by (length model.names) (nodes_of model) r (subst (λ l. Contains l r) t.relations c) in
      let (result, conversion) = conversion_by (length model.names + j) node.equation m r gives in
      ap (λ a. part (class_in classes a)) result ∙ one_partition model classes is_model k j node m r.argument at within conversion

  abbrev Comes : ℕ → Progression → Type 0
  Comes c p = ComesFrom (said_of terms classes) part (λ r c y n. related r c) c p

  -- a clocked class has a clock, whose axis is that of a constructor in its base partition
  record HasClock (c : ℕ) : Type 0 where
    clock : Clock
    at : slice_get clocking.clocks (place_of classes c) ≡ Some clock
    progression : Progression
    comes : Comes c progression
    axis : (progression_of clock).site ≡ progression.site

  module _ (held : Held) (gotten : AreGotten (said_of terms classes) held) where
    has_clock : (c : ℕ) → is_clocked classes c ≡ true → HasClock c
    has_clock c clocked =
        let said = said_of terms classes in
        let (p, has, gets) = gotten.clocked c clocked in
        let (q, own, same) = clocking_gives said (held_in classes clocking.clocks) (sources_proper 0 terms.constructors fit.clocks) is.clocks c p gets in
        let o = slice_get clocking.clocks (place_of classes c) in
        let (clock, at, equal) = mapped_from progression_of o q (sym (ap (λ b. if b then option_map progression_of o else None) clocked) ∙ own) in
        record {
          clock = clock;
          at = at;
          progression = p;
          comes = comes_from said part (λ r c y n. related r c) gets.0 c p gets.1;
          axis = ap (λ q. q.site) equal ∙ same.site;
        }

    stands : (c p : ℕ) (clock : Progression) (comes : Comes c clock) → part c ≡ p → stands_at classes p comes.source.node ≡ true
    stands c p clock comes e = both_true (is_clocked classes (class_in classes comes.source.node)) (part (class_in classes comes.source.node) == p)
        comes.clocked (eq-eqb (part (class_in classes comes.source.node)) p (comes.same ∙ e))

    pub clocks_on_axis : (c d : ℕ) → is_clocked classes c ≡ true → is_clocked classes d ≡ true → part c ≡ part d
        → AreOnOneAxis (slice_get clocking.clocks (place_of classes c)) (slice_get clocking.clocks (place_of classes d))
    clocks_on_axis c d clocked also e =
        let a = has_clock c clocked in
        let b = has_clock d also in
        let p = part d in
        let no_other : (second : Constructor) → list_any is_event (sources_in classes p terms.constructors) ≡ true → slice_get (sources_in classes p terms.constructors) 1 ≡ Some second → ⊥
        = λ second event at. apart second.equation (p, subst (λ l. IsSecondOf classes l p second.equation) t.constructors (record { event = event; second = second; is_second = at; equation = refl })) in
        let one = one_axis classes p terms.constructors 0 a.comes.source b.comes.source no_other a.comes.is b.comes.is (stands c p a.progression a.comes e) (stands d p b.progression b.comes refl) in
        subst (λ o. AreOnOneAxis o (slice_get clocking.clocks (place_of classes d))) (sym a.at)
        (subst (λ o. AreOnOneAxis (Some a.clock) o) (sym b.at)
        (on_axis a.clock b.clock (a.axis ∙ sym a.comes.axis ∙ one ∙ b.comes.axis ∙ sym b.axis)))
