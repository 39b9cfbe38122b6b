-- Depths of classes from those of their parts.
use Rattle.std.proofs.Common.{◌≡◌, refl, ap, sym, ◌∙◌, subst, ℕ, zero, suc, ◌+◌, ◌<◌, ◌≤◌, ◌⊎◌, inl, inr, max, List, [], ◌∷◌, length, Option, Some, None, slice_get, slice_set, Contains, arith}
use Rattle.std.proofs.lemmas.Bool.{cases_lt}
use Rattle.std.proofs.lemmas.Option.{slice_get_within}
use Rattle.mo_order.proofs.Places.{set_size}
use Rattle.mo_parser.specs.declared.tree.ClassDef.{ClassDef}
use Rattle.mo_parser.specs.declared.tree.Element.{Element}
use Rattle.class_scopes.specs.declared.type_name.TypeName.{TypeName}
use Rattle.class_scopes.specs.declared.type_name.TypeName.TheVariants.{Simple, Foreign, Class}
use Rattle.class_scopes.specs.Faults.{IsFirstOf, IsKept}
use Rattle.class_scopes.specs.Reached.{HasPart, IsReached, AreReached}
use Rattle.class_scopes.specs.Types.{type_of, elements_of}
use Rattle.class_order.specs.Places.{name_at}
use Rattle.class_order.specs.N11 as N11
use Rattle.class_order.specs.N11.{HasDepth}
use Rattle.class_order.specs.Orders.{ArePartsFirst}
use Rattle.class_order.specs.private.Depths.{depth_of, depth_by, depth_in, deepest_in, deepest, IsDepth, AreDepths}
use Rattle.class_order.proofs.Lists.{head_or_tail, in_head, in_tail, set_or}

-- a class of an order is below the number of classes
pub ordered_below : (text : List ℕ) (classes : List ClassDef) (chosen : ℕ) (reached order : List ℕ) → AreReached text classes chosen reached
    → ArePartsFirst text classes chosen order → (i class : ℕ) → slice_get order i ≡ Some class → class < length classes
ordered_below text classes chosen reached order all first i class at = by (all.every class (first.only i class at))
  where
    by : Contains reached class → class < length classes
    by (k, within, same) = subst (λ c. c < length classes) same (all.below k class within)

one_at_least : (depths : List ℕ) (type : Option TypeName) → 1 ≤ depth_by depths type
one_at_least depths (Some (Class class)) = omega arith
one_at_least depths (Some (Simple kind)) = omega arith
one_at_least depths (Some Foreign) = omega arith
one_at_least depths None = omega arith

class_depth : (depths : List ℕ) (type : Option TypeName) (part m : ℕ) → type ≡ Some (Class part) → m ≤ 32 → m ≤ depth_of depths part → suc m ≤ depth_by depths type
class_depth depths type part m is most low =
    subst (λ t. suc m ≤ depth_by depths t) (sym is) (omega (arith, most, low))

module _ (text : List ℕ) (classes : List ClassDef) (depths : List ℕ) where
  at_most : (es : List Element) (e : Element) → Contains es e → depth_in text classes depths e ≤ deepest_in text classes depths es
  at_most [] e at = absurd (omega (arith, at.1))
  at_most (x ∷ es) e at = by (head_or_tail x es e at) (at_most es e)
    where
      by : (x ≡ e) ⊎ Contains es e → (Contains es e → depth_in text classes depths e ≤ deepest_in text classes depths es) → depth_in text classes depths e ≤ max (depth_in text classes depths x) (deepest_in text classes depths es)
      by (inl same) again = let f = ap (depth_in text classes depths) same in omega (arith, f)
      by (inr rest) again = let more = again rest in omega (arith, more)

  -- some component goes as deep as all
  some_goes : (es : List Element) (n : ℕ) → 1 ≤ n → n ≤ deepest_in text classes depths es → (e : Element) × Contains es e × (n ≤ depth_in text classes depths e)
  some_goes [] n one low = absurd (omega (arith, one, low))
  some_goes (x ∷ es) n one low = by (cases_lt (depth_in text classes depths x) n) (some_goes es n one)
    where
      by : (depth_in text classes depths x < n) ⊎ (n ≤ depth_in text classes depths x)
          → (n ≤ deepest_in text classes depths es → (e : Element) × Contains es e × (n ≤ depth_in text classes depths e)) → (e : Element) × Contains (x ∷ es) e × (n ≤ depth_in text classes depths e)
      by (inr here) again = (x, in_head x es, here)
      by (inl less) again =
          let rest : n ≤ deepest_in text classes depths es = omega (arith, less, low) in
          let more = again rest in
          (more.0, in_tail x es more.0 more.1, more.2)

  module _ (x : ℕ) (parts : (part : ℕ) → HasPart text classes x part → IsDepth text classes part (depth_of depths part)) where
    deep : (n class : ℕ) → class ≡ x → n ≤ 33 → HasDepth text classes n class → (1 ≤ n) × (n ≤ deepest text classes depths class)
    deep n class same most (HasDepth.here c element at) =
        let low = at_most (elements_of text classes class) element at in
        let one = one_at_least depths (type_of text classes element.base) in
        (omega arith, omega (arith, low, one))
    deep n class same most (HasDepth.deeper m c part has rest) =
        let mine = subst (λ k. HasPart text classes k part) same has in
        let inner = (parts part mine m (omega (arith, most))).0 rest in
        let here = class_depth depths (type_of text classes has.element.base) part m has.typed (omega (arith, most)) inner.1 in
        let low = at_most (elements_of text classes class) has.element has.declared in
        (omega arith, omega (arith, here, low))

    shallow : (e : Element) → Contains (elements_of text classes x) e → (n : ℕ) → 1 ≤ n → n ≤ 33 → n ≤ 1 → HasDepth text classes n x
    shallow e at n one most low = let same : 1 ≡ n = omega (arith, one, low) in subst (λ k. HasDepth text classes k x) same (HasDepth.here x e at)

    by_type : (e : Element) → Contains (elements_of text classes x) e → (type : Option TypeName) → type_of text classes e.base ≡ type
        → (n : ℕ) → 1 ≤ n → n ≤ 33 → n ≤ depth_by depths type → HasDepth text classes n x
    by_type e at (Some (Simple kind)) is n one most low = shallow e at n one most low
    by_type e at (Some Foreign) is n one most low = shallow e at n one most low
    by_type e at None is n one most low = shallow e at n one most low
    by_type e at (Some (Class part)) is zero one most low = absurd (omega (arith, one))
    by_type e at (Some (Class part)) is (suc zero) one most low = HasDepth.here x e at
    by_type e at (Some (Class part)) is (suc (suc n)) one most low =
        let has : HasPart text classes x part = record { element = e; declared = at; typed = is } in
        HasDepth.deeper (suc n) x part has ((parts part has (suc n) (omega (arith, most))).1 (omega arith, omega (arith, low)))

    pub is_depth : IsDepth text classes x (deepest text classes depths x)
    is_depth n most = (
      λ has. deep n x refl most has,
      λ both. let e = some_goes (elements_of text classes x) n both.0 both.1 in by_type e.0 e.1 (type_of text classes e.0.base) refl n both.0 most e.2,
    )

module _ (text : List ℕ) (classes : List ClassDef) (chosen : ℕ) (order : List ℕ) (first : ArePartsFirst text classes chosen order) where
  pub one_depth : (i x : ℕ) (depths : List ℕ) → AreDepths text classes order i depths → slice_get order i ≡ Some x → x < length classes
      → AreDepths text classes order (i + 1) (slice_set depths x (deepest text classes depths x))
  one_depth i x depths before at within = record {
    size = set_size depths x (deepest text classes depths x) ∙ before.size;
    done = λ k class below there. done k class below there (set_or depths x (deepest text classes depths x) class 0 (let size = before.size in omega (arith, within, size)));
  }
    where
      here : IsDepth text classes x (deepest text classes depths x)
      here = is_depth text classes depths x (λ part has. let j = first.before i x part at has in before.done j.0 part j.1 j.2)

      early : (k class : ℕ) → k < i + 1 → slice_get order k ≡ Some class → (x ≡ class → ⊥) → (k < i) ⊎ (i ≤ k) → k < i
      early k class below there differs (inl less) = less
      early k class below there differs (inr past) =
          let same : i ≡ k = omega (arith, past, below) in
          let this : x ≡ class = cc (at, subst (λ n. slice_get order n ≡ Some class) (sym same) there) in
          absurd (differs this)

      done : (k class : ℕ) → k < i + 1 → slice_get order k ≡ Some class
          → ((x ≡ class) × (depth_of (slice_set depths x (deepest text classes depths x)) class ≡ deepest text classes depths x)) ⊎ ((x ≡ class → ⊥) × (depth_of (slice_set depths x (deepest text classes depths x)) class ≡ depth_of depths class))
          → IsDepth text classes class (depth_of (slice_set depths x (deepest text classes depths x)) class)
      done k class below there (inl same) = subst (IsDepth text classes class) (sym same.1) (subst (λ c. IsDepth text classes c (deepest text classes depths x)) same.0 here)
      done k class below there (inr other) =
          subst (IsDepth text classes class) (sym other.1) (before.done k class (early k class below there other.0 (cases_lt k i)) there)

  module _ (depths : List ℕ) (are : AreDepths text classes order (length order) depths) where
    chosen_depth : IsDepth text classes chosen (depth_of depths chosen)
    chosen_depth = let at = first.every chosen IsReached.itself in are.done at.0 chosen (slice_get_within order at.0 chosen at.1) at.1

    pub none_deep : depth_of depths chosen < 33 → IsKept (N11.Breaks text classes (Some chosen))
    none_deep less place (root, named, has, told) =
        let same : root ≡ chosen = cc named in
        let both = (chosen_depth 33 (omega arith)).0 (subst (HasDepth text classes 33) same has) in
        omega (arith, less, both.1)

    pub first_deep : 33 ≤ depth_of depths chosen → IsFirstOf (N11.Breaks text classes (Some chosen)) (name_at classes chosen)
    first_deep low = record {
      broken = (chosen, refl, (chosen_depth 33 (omega arith)).1 (omega arith, low), refl);
      least = λ other broken. least other broken;
    }
      where
        least : (other : ℕ) → N11.Breaks text classes (Some chosen) other → name_at classes chosen ≤ other
        least other (root, named, has, told) =
            let same : root ≡ chosen = cc named in
            let e = ap (name_at classes) same in omega (arith, e, told)
