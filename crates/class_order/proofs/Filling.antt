-- Marks of classes that have something in them, from those of their parts.
use Rattle.std.proofs.Common.{◌≡◌, ◌↔◌, refl, ap, sym, ◌∙◌, subst, ℕ, ◌+◌, ◌<◌, ◌≤◌, ◌⊎◌, inl, inr, ◌||◌, Bool, true, false, List, length, Option, Some, None, slice_get, slice_set, Contains, arith}
use Rattle.std.specs.List.{list_any}
use Rattle.std.proofs.lemmas.Bool.{cases_lt}
use Rattle.std.proofs.lemmas.Option.{slice_get_within}
use Rattle.mo_order.specs.Marks.{is_marked}
use Rattle.mo_order.proofs.Places.{set_size}
use Rattle.mo_parser.specs.declared.tree.ClassDef.{ClassDef}
use Rattle.mo_parser.specs.declared.tree.Element.{Element}
use Rattle.class_scopes.specs.declared.type_name.TypeName.{TypeName}
use Rattle.class_scopes.specs.declared.type_name.TypeName.TheVariants.{Simple, Foreign, Class}
use Rattle.class_scopes.specs.Reached.{HasPart}
use Rattle.class_scopes.specs.Types.{type_of, elements_of, is_simple}
use Rattle.class_order.specs.Content.{IsFilled, AreFilled}
use Rattle.class_order.specs.Orders.{ArePartsFirst}
use Rattle.class_order.specs.private.Contents.{content_by, has_content, is_filled, AreMarks}
use Rattle.class_order.proofs.Lists.{set_or, any_at, any_of}

left_true : (a b : Bool) → a ≡ true → (a || b) ≡ true
left_true a b is = ap (λ c. c || b) is

right_true : (a b : Bool) → b ≡ true → (a || b) ≡ true
right_true true b is = refl
right_true false b is = is

one_true : (a b : Bool) → (a || b) ≡ true → (a ≡ true) ⊎ (b ≡ true)
one_true true b is = inl refl
one_true false b is = inr is

module _ (text : List ℕ) (classes : List ClassDef) (own marks : List Bool) where
  simple_content : (type : TypeName) → is_simple text classes type ≡ true → content_by text classes marks (Some type) ≡ true
  simple_content (Simple kind) is = is
  simple_content Foreign is = is
  simple_content (Class part) is = left_true (is_simple text classes (Class part)) (is_marked marks part) is

  module _ (x : ℕ) (parts : (part : ℕ) → HasPart text classes x part → is_marked marks part ≡ true ↔ IsFilled text classes own part) where
    by_content : (e : Element) → Contains (elements_of text classes x) e → (type : Option TypeName) → type_of text classes e.base ≡ type
        → content_by text classes marks type ≡ true → IsFilled text classes own x
    by_content e at None is some = absurd (cc some)
    by_content e at (Some (Simple kind)) is some = IsFilled.variable x e (Simple kind) at is some
    by_content e at (Some Foreign) is some = IsFilled.variable x e Foreign at is some
    by_content e at (Some (Class part)) is some = by (one_true (is_simple text classes (Class part)) (is_marked marks part) some)
      where
        by : (is_simple text classes (Class part) ≡ true) ⊎ (is_marked marks part ≡ true) → IsFilled text classes own x
        by (inl simple) = IsFilled.variable x e (Class part) at is simple
        by (inr marked) =
            let has : HasPart text classes x part = record { element = e; declared = at; typed = is } in
            IsFilled.part x part has ((parts part has).0 marked)

    told : (is_marked own x ≡ true) ⊎ (list_any (has_content text classes marks) (elements_of text classes x) ≡ true) → IsFilled text classes own x
    told (inl mine) = IsFilled.itself x mine
    told (inr any) =
        let e = any_of (has_content text classes marks) (elements_of text classes x) any in
        by_content e.0 e.1 (type_of text classes e.0.base) refl e.2

    in_parts : (e : Element) → Contains (elements_of text classes x) e → has_content text classes marks e ≡ true → is_filled text classes own marks x ≡ true
    in_parts e at is =
        right_true (is_marked own x) (list_any (has_content text classes marks) (elements_of text classes x)) (any_at (has_content text classes marks) (elements_of text classes x) e at is)

    tells : (class : ℕ) → class ≡ x → IsFilled text classes own class → is_filled text classes own marks x ≡ true
    tells class same (IsFilled.itself c mine) =
        left_true (is_marked own x) (list_any (has_content text classes marks) (elements_of text classes x)) (subst (λ k. is_marked own k ≡ true) same mine)
    tells class same (IsFilled.variable c e type at typed simple) =
        in_parts e (subst (λ k. Contains (elements_of text classes k) e) same at) (ap (content_by text classes marks) typed ∙ simple_content type simple)
    tells class same (IsFilled.part c part has rest) =
        let mine = subst (λ k. HasPart text classes k part) same has in
        in_parts mine.element mine.declared
        (ap (content_by text classes marks) mine.typed ∙ right_true (is_simple text classes (Class part)) (is_marked marks part) ((parts part mine).1 rest))

    pub are_filled : is_filled text classes own marks x ≡ true ↔ IsFilled text classes own x
    are_filled = (
      λ is. told (one_true (is_marked own x) (list_any (has_content text classes marks) (elements_of text classes x)) is),
      λ filled. tells x refl filled,
    )

module _ (text : List ℕ) (classes : List ClassDef) (chosen : ℕ) (own : List Bool) (order : List ℕ) (first : ArePartsFirst text classes chosen order) where
  pub one_mark : (i x : ℕ) (marks : List Bool) → AreMarks text classes own order i marks → slice_get order i ≡ Some x → x < length classes
      → AreMarks text classes own order (i + 1) (slice_set marks x (is_filled text classes own marks x))
  one_mark i x marks before at within = record {
    size = set_size marks x (is_filled text classes own marks x) ∙ before.size;
    done = λ k class below there. done k class below there (set_or marks x (is_filled text classes own marks x) class false (let size = before.size in omega (arith, within, size)));
  }
    where
      here : is_filled text classes own marks x ≡ true ↔ IsFilled text classes own x
      here = are_filled text classes own marks x (λ part has. let j = first.before i x part at has in before.done j.0 part j.1 j.2)

      early : (k class : ℕ) → k < i + 1 → slice_get order k ≡ Some class → (x ≡ class → ⊥) → (k < i) ⊎ (i ≤ k) → k < i
      early k class below there differs (inl less) = less
      early k class below there differs (inr past) =
          let same : i ≡ k = omega (arith, past, below) in
          let this : x ≡ class = cc (at, subst (λ n. slice_get order n ≡ Some class) (sym same) there) in
          absurd (differs this)

      done : (k class : ℕ) → k < i + 1 → slice_get order k ≡ Some class
          → ((x ≡ class) × (is_marked (slice_set marks x (is_filled text classes own marks x)) class ≡ is_filled text classes own marks x)) ⊎ ((x ≡ class → ⊥) × (is_marked (slice_set marks x (is_filled text classes own marks x)) class ≡ is_marked marks class))
          → is_marked (slice_set marks x (is_filled text classes own marks x)) class ≡ true ↔ IsFilled text classes own class
      done k class below there (inl same) =
          subst (λ b. b ≡ true ↔ IsFilled text classes own class) (sym same.1) (subst (λ c. is_filled text classes own marks x ≡ true ↔ IsFilled text classes own c) same.0 here)
      done k class below there (inr other) =
          subst (λ b. b ≡ true ↔ IsFilled text classes own class) (sym other.1) (before.done k class (early k class below there other.0 (cases_lt k i)) there)

  pub all_filled : (marks : List Bool) → AreMarks text classes own order (length order) marks → AreFilled text classes chosen own marks
  all_filled marks are class from = let at = first.every class from in are.done at.0 class (slice_get_within order at.0 class at.1) at.1
