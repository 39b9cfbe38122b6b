-- What the tests for mixed classes and base partitions say of the model.
use Rattle.std.proofs.Common.{◌≡◌, refl, subst, sym, ℕ, zero, suc, ◌<◌, ◌==◌, Bool, true, false, ◌&&◌, List, [], ◌∷◌, length, slice_get, Some, None, Contains, arith}
use Rattle.std.proofs.lemmas.Bool.Decides.{nat_tests}
use Rattle.std.proofs.lemmas.List.Elements.{All-contains, filter_passes}
use Rattle.flat_model.specs.declared.model.FlatModel.{FlatModel}
use Rattle.flat_model.specs.declared.place.Place.{Place}
use Rattle.clock_terms.specs.declared.data.Classes.{Classes}
use Rattle.clock_terms.specs.declared.data.Constructor.{Constructor}
use Rattle.clock_terms.specs.Classing.{HasMark, class_in, is_clocked, partition_in}
use Rattle.clock_terms.specs.Listed.{constructors_of}
use Rattle.clock_terms.specs.Said.{IsMarkedClocked}
use Rattle.clock_terms.proofs.Marking.{get_below}
use Rattle.base_partition.specs.declared.group.Grouped.{Grouped}
use Rattle.base_partition.specs.Classified.{IsMixed, NoneMixed, IsMixedAt, is_source, stands_in, sources_in, IsSecondOf, IsBaseMixedAt, AreApart}
use Rattle.base_partition.specs.private.Grouped.{IsGrouped}
use Rattle.base_partition.specs.private.Marks.{IsBoth}
use Rattle.base_partition.specs.private.Sources.{IsFirstMixed}
use Rattle.base_partition.proofs.ClassNumbers.{set_inside}

module _ (model : FlatModel) (grouped : Grouped) (g : IsGrouped model grouped) where
  abbrev classes : Classes
  classes = grouped.classes

  mark_below : (IsMarked : ℕ → Type 0) (c : ℕ) → HasMark model IsMarked (class_in classes) c → c < length g.are.firsts
  mark_below IsMarked c (a, member, marked, e) =
      let r = g.are.numbered_by.found a member in
      let lt = get_below g.are.firsts (class_in classes a) r.0 r.1 in
      omega (arith, lt, e)

  mixed_both : (c : ℕ) → IsMixed model classes c → IsBoth classes.clocked grouped.unclocked c
  mixed_both c m = ((g.are.clocked c (mark_below (IsMarkedClocked model) c m.0)).1 m.0, (g.unclocked c).1 m.1)

  both_mixed : (c : ℕ) → IsBoth classes.clocked grouped.unclocked c → IsMixed model classes c
  both_mixed c b =
      let inside = set_inside classes.clocked c b.0 in
      ((g.are.clocked c (let n = g.are.lengths.clocked in omega (arith, inside, n))).0 b.0, (g.unclocked c).0 b.1)

  pub none_mixed : ((c : ℕ) → IsBoth classes.clocked grouped.unclocked c → c < length classes.clocked → ⊥) → NoneMixed model classes
  none_mixed none c m = let b = mixed_both c m in none c b (set_inside classes.clocked c b.0)

  pub mixed_at : (c : ℕ) (place : Place) → IsBoth classes.clocked grouped.unclocked c → ((d : ℕ) → d < c → IsBoth classes.clocked grouped.unclocked d → ⊥) → slice_get classes.places c ≡ Some place → IsMixedAt model place
  mixed_at c place both least is = record { classes = classes; are = g.are; class = c; least = (both_mixed c both, λ d less m. least d less (mixed_both d m)); is_place = is }

  -- ---- base partitions

  and_left : (a b : Bool) → (a && b) ≡ true → a ≡ true
  and_left true b h = refl
  and_left false b h = h

  and_right : (a b : Bool) → (a && b) ≡ true → b ≡ true
  and_right true b h = h
  and_right false b h = absurd (let e : false ≡ true = h in cc e)

  get_inside : {X : Type 0} (xs : List X) (i : ℕ) (x : X) → slice_get xs i ≡ Some x → Contains xs x
  get_inside [] i x is = absurd (cc is)
  get_inside (y ∷ ys) zero x is = (0, omega arith, (let e : y ≡ x = cc is in e))
  get_inside (y ∷ ys) (suc i) x is = let r = get_inside ys i x is in (suc r.0, (let lt = r.1 in omega (arith, lt)), r.2)

  second_below : (constructors : List Constructor) (p e : ℕ) → IsSecondOf classes constructors p e → p < grouped.bases
  second_below constructors p e s =
      let test = All-contains (λ k. (is_source k && stands_in classes p k) ≡ true) (sources_in classes p constructors) s.second
      (filter_passes (λ k. is_source k && stands_in classes p k) constructors) (get_inside (sources_in classes p constructors) 1 s.second s.is_second) in
      let stands : stands_in classes p s.second ≡ true = and_right (is_source s.second) (stands_in classes p s.second) test in
      let clocked = and_left (is_clocked classes (class_in classes s.second.node)) (partition_in classes (class_in classes s.second.node) == p) stands in
      let match : (partition_in classes (class_in classes s.second.node) == p) ≡ true = and_right (is_clocked classes (class_in classes s.second.node)) (partition_in classes (class_in classes s.second.node) == p) stands in
      let same : partition_in classes (class_in classes s.second.node) ≡ p = grind (arith, nat_tests, match) in
      let lt = g.bases (class_in classes s.second.node) clocked in
      omega (arith, lt, same)

  pub apart : (constructors : List Constructor) → constructors ≡ constructors_of model → NoneMixed model classes → IsFirstMixed classes constructors grouped.bases None → AreApart model classes
  apart constructors is none h = record {
    are = g.are;
    classes_apart = none;
    bases_apart = λ e (p, s). let s' = subst (λ ks. IsSecondOf classes ks p e) (sym is) s in h p e (second_below constructors p e s') s';
  }

  pub base_mixed_at : (constructors : List Constructor) (e : ℕ) → constructors ≡ constructors_of model → NoneMixed model classes → IsFirstMixed classes constructors grouped.bases (Some e) → IsBaseMixedAt model e
  base_mixed_at constructors e is none h = record {
    classes = classes;
    are = g.are;
    classes_apart = none;
    least = (
      (h.0.0, subst (λ ks. IsSecondOf classes ks h.0.0 e) is h.0.2),
      λ d less (p, s). let s' = subst (λ ks. IsSecondOf classes ks p d) (sym is) s in h.1 p d (second_below constructors p d s') less s',
    );
  }
