use Rattle.std.proofs.Common.{rules, ◌≡◌, ℕ, ◌<◌, length, Some, None, slice_get, subst}
use Rattle.base_partition.specs.private.Grouped.{IsGrouped}
use Rattle.base_partition.specs.private.Marks.{IsBoth}
use Rattle.base_partition.specs.private.Sources.{IsFirstMixed}
use Rattle.base_partition.proofs.Answering.{none_mixed, mixed_at, apart, base_mixed_at}
use Rattle.base_partition.proofs.partition.classes.Goals as goal

pub returns-in-Some : goal.returns-in-Some
returns-in-Some c =
    let g : IsGrouped c.args.flat.now c.in_ok-grouped.grouped = search rules in
    let both : IsBoth c.in_ok-grouped.grouped.classes.clocked c.in_ok-grouped.grouped.unclocked c.in-Some.class = search rules in
    let least : (d : ℕ) → d < c.in-Some.class → IsBoth c.in_ok-grouped.grouped.classes.clocked c.in_ok-grouped.grouped.unclocked d → ⊥ = search rules in
    let is : slice_get c.in_ok-grouped.grouped.classes.places c.in-Some.class ≡ Some c.in_ok-place.place = search rules in
    mixed_at c.args.flat.now c.in_ok-grouped.grouped g c.in-Some.class c.in_ok-place.place both least is

pub returns-in-Some-2 : goal.returns-in-Some-2
returns-in-Some-2 c =
    let g : IsGrouped c.args.flat.now c.in_ok-grouped.grouped = search rules in
    let none : (k : ℕ) → IsBoth c.in_ok-grouped.grouped.classes.clocked c.in_ok-grouped.grouped.unclocked k → k < length c.in_ok-grouped.grouped.classes.clocked → ⊥ = search rules in
    let found : IsFirstMixed c.in_ok-grouped.grouped.classes c.args.terms.now.constructors c.in_ok-grouped.grouped.bases c.in_ok-equation.field-0 = search rules in
    let e : c.in_ok-equation.field-0 ≡ Some c.in-Some-2.equation = search rules in
    let h = subst (λ o. IsFirstMixed c.in_ok-grouped.grouped.classes c.args.terms.now.constructors c.in_ok-grouped.grouped.bases o) e found in
    base_mixed_at c.args.flat.now c.in_ok-grouped.grouped g c.args.terms.now.constructors c.in-Some-2.equation c.requires.constructors (none_mixed c.args.flat.now c.in_ok-grouped.grouped g none) h

pub returns : goal.returns
returns c =
    let g : IsGrouped c.args.flat.now c.in_ok-grouped.grouped = search rules in
    let none : (k : ℕ) → IsBoth c.in_ok-grouped.grouped.classes.clocked c.in_ok-grouped.grouped.unclocked k → k < length c.in_ok-grouped.grouped.classes.clocked → ⊥ = search rules in
    let found : IsFirstMixed c.in_ok-grouped.grouped.classes c.args.terms.now.constructors c.in_ok-grouped.grouped.bases c.in_ok-equation.field-0 = search rules in
    let e : c.in_ok-equation.field-0 ≡ None = search rules in
    let h = subst (λ o. IsFirstMixed c.in_ok-grouped.grouped.classes c.args.terms.now.constructors c.in_ok-grouped.grouped.bases o) e found in
    apart c.args.flat.now c.in_ok-grouped.grouped g c.args.terms.now.constructors c.requires.constructors (none_mixed c.args.flat.now c.in_ok-grouped.grouped g none) h
