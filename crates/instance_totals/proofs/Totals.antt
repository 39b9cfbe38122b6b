-- Sums of classes, level by level, are those over their instances.
use Rattle.std.proofs.Common.{◌≡◌, refl, ap, ap₂, sym, ◌∙◌, subst, ℕ, zero, suc, ◌+◌, ◌-◌, ◌<◌, ◌≤◌, ◌⊎◌, inl, inr, min, List, [], ◌∷◌, flat_map, length, Option, Some, None, arith, zero-add}
use Rattle.std.specs.List.{sum_by}
use Rattle.std.proofs.lemmas.Bool.{cases_lt}
use Rattle.std.proofs.lemmas.List.{get_or_past}
use Rattle.std.proofs.lemmas.List.Sums.{sum_by-append}
use Rattle.mo_parser.specs.declared.tree.ClassDef.{ClassDef}
use Rattle.mo_parser.specs.declared.tree.Element.{Element}
use Rattle.mo_parser.specs.declared.tree.Short.{Short}
use Rattle.class_scopes.specs.declared.type_name.TypeName.{TypeName}
use Rattle.class_scopes.specs.declared.type_name.TypeName.TheVariants.{Simple, Foreign, Class}
use Rattle.class_scopes.specs.Spelled.{Ident}
use Rattle.class_scopes.specs.Types.{type_of, elements_of, short_of}
use Rattle.flat_instances.specs.Instances.{Step, Own, in_class, in_type, in_component, items}
use Rattle.instance_totals.specs.Weights as weights
use Rattle.instance_totals.specs.Weights.{number_at}
use Rattle.instance_totals.specs.private.Levels.{class_weight, type_weight, weight, next, total, AreNext, AreTotals}
use Rattle.instance_totals.proofs.Sums.{sum_of_parts, same_sum, capped_sum}

no_elements : (text : List ℕ) (classes : List ClassDef) (class : ℕ) → length classes ≤ class → elements_of text classes class ≡ []
no_elements text [] class past = refl
no_elements text (c ∷ cs) zero past = absurd (omega (arith, past))
no_elements text (c ∷ cs) (suc k) past = no_elements text cs k (omega (arith, past))

module _ (text : List ℕ) (classes : List ClassDef) (variable : ℕ) (own : List ℕ) where
  total-zero : (class : ℕ) → total text classes variable own zero class ≡ 0
  unfolding total
  total-zero class = refl

  total-suc : (n class : ℕ) → total text classes variable own (suc n) class ≡ next text classes variable own (total text classes variable own n) class
  unfolding total
  total-suc n class = refl

  module _ (n : ℕ) (below : (scope : Ident) (path : List Step) (class : ℕ)
      → sum_by (weights.weight variable own) (items text classes n scope path class) ≡ total text classes variable own n class)
      (scope : Ident) (path : List Step) (element : Element) where
    in_long : (part : ℕ) (s : Option Short)
        → sum_by (weights.weight variable own) (in_class text classes (items text classes n) scope path element (Class part) part s)
        ≡ class_weight text classes variable (total text classes variable own n) s part
    in_long part (Some short) = zero-add variable
    in_long part None = below _ _ part

    in_any : (t : Option TypeName) → sum_by (weights.weight variable own) (in_type text classes (items text classes n) scope path element t)
        ≡ type_weight text classes variable (total text classes variable own n) t
    in_any None = refl
    in_any (Some Foreign) = refl
    in_any (Some (Simple kind)) = zero-add variable
    in_any (Some (Class part)) = in_long part (short_of text classes part)

  pub all_items : (n : ℕ) (scope : Ident) (path : List Step) (class : ℕ)
      → sum_by (weights.weight variable own) (items text classes n scope path class) ≡ total text classes variable own n class
  all_items zero scope path class = sym (total-zero class)
  all_items (suc n) scope path class =
      sum_by-append (weights.weight variable own) (flat_map (in_component text classes (items text classes n) scope path) (elements_of text classes class)) (Own scope class ∷ [])
      ∙ ap₂ (λ a b. a + b)
      (sum_of_parts (weights.weight variable own) (in_component text classes (items text classes n) scope path) (elements_of text classes class)
      ∙ same_sum (λ e. sum_by (weights.weight variable own) (in_component text classes (items text classes n) scope path e))
      (weight text classes variable (total text classes variable own n))
      (λ e. in_any n (all_items n) scope path e (type_of text classes e.base)) (elements_of text classes class))
      (zero-add (number_at own class))
      ∙ sym (total-suc n class)

  module _ (most : ℕ) where
    pub none_yet : (numbers : List ℕ) → numbers ≡ [] → AreTotals text classes variable own most 0 numbers
    none_yet numbers none class =
        let total_is = total-zero class in
        let here : number_at numbers class ≡ 0 = ap (λ l. number_at l class) none in
        omega (arith, total_is, here)

    module _ (n : ℕ) (below : List ℕ) (are : AreTotals text classes variable own most n below) where
      part_capped : (s : Option Short) (part : ℕ) → min (class_weight text classes variable (number_at below) s part) most
          ≡ min (class_weight text classes variable (total text classes variable own n) s part) most
      part_capped (Some short) part = refl
      part_capped None part = let here = are part in omega (arith, here)

      type_capped : (t : Option TypeName) → min (type_weight text classes variable (number_at below) t) most
          ≡ min (type_weight text classes variable (total text classes variable own n) t) most
      type_capped None = refl
      type_capped (Some Foreign) = refl
      type_capped (Some (Simple kind)) = refl
      type_capped (Some (Class part)) = part_capped (short_of text classes part) part

      -- the sums with a level more
      pub next_totals : (totals : List ℕ) → AreNext text classes variable own most below totals → AreTotals text classes variable own most (n + 1) totals
      next_totals totals next_are class =
          let more : n + 1 ≡ suc n = omega arith in
          let here = next_are class in
          let same = capped_sum most (weight text classes variable (number_at below)) (weight text classes variable (total text classes variable own n))
          (λ e. type_capped (type_of text classes e.base)) (elements_of text classes class) in
          let whole : total text classes variable own (n + 1) class ≡ next text classes variable own (total text classes variable own n) class =
          ap (λ m. total text classes variable own m class) more ∙ total-suc n class in
          omega (arith, here, same, whole)

    -- where a level more changes nothing, none changes anything
    stays : (n : ℕ) (below : List ℕ) → AreTotals text classes variable own most n below → AreNext text classes variable own most below below
        → (k : ℕ) → AreTotals text classes variable own most (n + k) below
    stays n below are fixed zero =
        let same : n ≡ n + 0 = omega arith in subst (λ m. AreTotals text classes variable own most m below) same are
    stays n below are fixed (suc k) =
        let same : n + k + 1 ≡ n + suc k = omega arith in
        subst (λ m. AreTotals text classes variable own most m below) same (next_totals (n + k) below (stays n below are fixed k) below fixed)

    pub to_the_end : (n levels : ℕ) (below totals : List ℕ) → n ≤ levels → AreTotals text classes variable own most n below
        → AreNext text classes variable own most below totals → totals ≡ below → AreTotals text classes variable own most levels below
    to_the_end n levels below totals le are next_are same =
        let rest : n + (levels - n) ≡ levels = omega (arith, le) in
        subst (λ m. AreTotals text classes variable own most m below) rest
        (stays n below are (subst (AreNext text classes variable own most below) same next_are) (levels - n))

    -- a class that is not there has nothing
    pub all_next : (below totals : List ℕ) → length own ≤ length classes → length totals ≡ length classes
        → ((class : ℕ) → class < length classes → number_at totals class ≡ min (next text classes variable own (number_at below) class) most)
        → AreNext text classes variable own most below totals
    all_next below totals few size each class = by (cases_lt class (length classes))
      where
        by : (class < length classes) ⊎ (length classes ≤ class) → number_at totals class ≡ min (next text classes variable own (number_at below) class) most
        by (inl within) = each class within
        by (inr past) =
            let none : next text classes variable own (number_at below) class ≡ 0 =
            ap (λ es. sum_by (weight text classes variable (number_at below)) es + number_at own class) (no_elements text classes class past)
            ∙ zero-add (number_at own class) ∙ get_or_past own class 0 (omega (arith, few, past)) in
            let here : number_at totals class ≡ 0 = get_or_past totals class 0 (omega (arith, size, past)) in
            omega (arith, none, here)
