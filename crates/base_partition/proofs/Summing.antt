-- What is kept of the constructors of base partitions, with one constructor more.
use Rattle.std.proofs.Common.{◌≡◌, refl, ap, ap₂, subst, sym, ◌∙◌, ℕ, ◌<◌, ◌≤◌, ◌==◌, inl, inr, ◌⊎◌, Bool, true, false, ◌&&◌, ◌||◌, if◌then◌else◌, List, [], ◌∷◌, ◌++◌, length, slice_get, slice_index_or, slice_set, Some, None, Option, arith}
use Rattle.std.specs.List.{list_any}
use Rattle.std.proofs.lemmas.List.{append-nil, get_or-set_same, get_or-set_other, length-set}
use Rattle.std.proofs.lemmas.List.Elements.{filter-append}
use Rattle.std.proofs.lemmas.List.Folds.{list_any-append}
use Rattle.std.proofs.lemmas.Bool.{cases_eq, cases_Bool}
use Rattle.std.proofs.lemmas.Bool.Decides.{nat_tests}
use Rattle.std.specs.Option.{option_map}
use Rattle.clock_terms.specs.declared.data.Classes.{Classes}
use Rattle.clock_terms.specs.declared.data.Constructor.{Constructor}
use Rattle.clock_terms.specs.Classing.{class_in, is_clocked, partition_in}
use Rattle.base_partition.specs.declared.source.Sources.{Sources}
use Rattle.base_partition.specs.Classified.{is_source, is_event, stands_in, sources_in, IsSecondOf}
use Rattle.base_partition.specs.private.Sources.{no_sources, is_some_list, summary, second_with, with_source, AreKept, mixed_in}

some_push : (ks : List Constructor) (k : Constructor) → is_some_list (ks ++ k ∷ []) ≡ true
some_push [] k = refl
some_push (first ∷ ks) k = refl

second_push : (ks : List Constructor) (k : Constructor) → option_map (λ c. c.equation) (slice_get (ks ++ k ∷ []) 1) ≡ second_with (option_map (λ c. c.equation) (slice_get ks 1)) (is_some_list ks) k.equation
second_push [] k = refl
second_push (first ∷ []) k = refl
second_push (first ∷ second ∷ ks) k = refl

or_false : (b : Bool) → (b || false) ≡ b
or_false true = refl
or_false false = refl

event_push : (ks : List Constructor) (k : Constructor) → list_any is_event (ks ++ k ∷ []) ≡ (list_any is_event ks || is_event k)
event_push ks k = list_any-append is_event ks (k ∷ []) ∙ ap (λ b. list_any is_event ks || b) (or_false (is_event k))

pub summary_push : (ks : List Constructor) (k : Constructor) → summary (ks ++ k ∷ []) ≡ with_source (summary ks) k.equation (is_event k)
summary_push ks k =
    ap₂ (λ any second. record { any = any; second = second; at_site = list_any is_event (ks ++ k ∷ []) }) (some_push ks k) (second_push ks k)
    ∙ ap (λ b. record { any = true; second = second_with (option_map (λ c. c.equation) (slice_get ks 1)) (is_some_list ks) k.equation; at_site = b }) (event_push ks k)

-- a constructor of the base partition, and any other
module _ (classes : Classes) (k : Constructor) where
  kept_with : (before : List Constructor) (p : ℕ) → is_source k ≡ true → stands_in classes p k ≡ true
      → summary (sources_in classes p (before ++ k ∷ [])) ≡ with_source (summary (sources_in classes p before)) k.equation (is_event k)
  kept_with before p source stands =
      ap summary (filter-append (λ c. is_source c && stands_in classes p c) before (k ∷ []) ∙ ap (λ ks. sources_in classes p before ++ ks) one)
      ∙ summary_push (sources_in classes p before) k
    where
      one : sources_in classes p (k ∷ []) ≡ k ∷ []
      one = ap₂ (λ a b. if (a && b) then k ∷ [] else []) source stands

  kept_without : (before : List Constructor) (p : ℕ) → (is_source k && stands_in classes p k) ≡ false → summary (sources_in classes p (before ++ k ∷ [])) ≡ summary (sources_in classes p before)
  kept_without before p out =
      ap summary (filter-append (λ c. is_source c && stands_in classes p c) before (k ∷ []) ∙ ap (λ ks. sources_in classes p before ++ ks) one ∙ append-nil (sources_in classes p before))
    where
      one : sources_in classes p (k ∷ []) ≡ []
      one = ap (λ b. if b then k ∷ [] else []) out

  and_false : (b : Bool) → (b && false) ≡ false
  and_false true = refl
  and_false false = refl

  -- one that is inferred, or in a class without a clock, changes nothing
  pub out_kept : (before : List Constructor) (bases : List Sources) → (is_source k ≡ true → is_clocked classes (class_in classes k.node) ≡ true → ⊥) → AreKept classes before bases → AreKept classes (before ++ k ∷ []) bases
  out_kept before bases none h p within = h p within ∙ sym (kept_without before p (out (cases_Bool (is_source k)) (cases_Bool (is_clocked classes (class_in classes k.node)))))
    where
      out : (is_source k ≡ true) ⊎ (is_source k ≡ false) → (is_clocked classes (class_in classes k.node) ≡ true) ⊎ (is_clocked classes (class_in classes k.node) ≡ false) → (is_source k && stands_in classes p k) ≡ false
      out (inl a) (inl b) = absurd (none a b)
      out (inr a) b = ap (λ x. x && stands_in classes p k) a
      out (inl a) (inr b) = ap₂ (λ x y. x && (y && (partition_in classes (class_in classes k.node) == p))) a b

  -- one of another base partition changes nothing in this one
  other_kept : (before : List Constructor) (p : ℕ) → (partition_in classes (class_in classes k.node) ≡ p → ⊥) → summary (sources_in classes p (before ++ k ∷ [])) ≡ summary (sources_in classes p before)
  other_kept before p other =
      let no_match : (partition_in classes (class_in classes k.node) == p) ≡ false = grind (arith, nat_tests, other) in
      kept_without before p
      (ap (λ b. is_source k && (is_clocked classes (class_in classes k.node) && b)) no_match
      ∙ ap (λ b. is_source k && b) (and_false (is_clocked classes (class_in classes k.node)))
      ∙ and_false (is_source k))

  own_stands : (p : ℕ) → is_clocked classes (class_in classes k.node) ≡ true → partition_in classes (class_in classes k.node) ≡ p → stands_in classes p k ≡ true
  own_stands p clocked same =
      let match : (partition_in classes (class_in classes k.node) == p) ≡ true = grind (arith, nat_tests, same) in
      ap₂ (λ a b. a && b) clocked match

  -- its own base partition keeps it
  pub in_kept : (before : List Constructor) (bases : List Sources) → is_source k ≡ true → is_clocked classes (class_in classes k.node) ≡ true
      → (own : ℕ) → partition_in classes (class_in classes k.node) ≡ own → own < length bases
      → AreKept classes before bases → AreKept classes (before ++ k ∷ []) (slice_set bases own (with_source (slice_index_or bases own no_sources) k.equation (is_event k)))
  in_kept before bases source clocked own is inside h p within = elim (cases_eq own p) [
    | inl same ↦
        subst (λ q. slice_index_or (slice_set bases own (with_source (slice_index_or bases own no_sources) k.equation (is_event k))) q no_sources ≡ summary (sources_in classes q (before ++ k ∷ []))) same
        (get_or-set_same bases own (with_source (slice_index_or bases own no_sources) k.equation (is_event k)) no_sources inside
        ∙ ap (λ b. with_source b k.equation (is_event k)) (h own inside)
        ∙ sym (kept_with before own source (own_stands own clocked is)))
    | inr other ↦
        get_or-set_other bases own p (with_source (slice_index_or bases own no_sources) k.equation (is_event k)) no_sources (λ e. other (sym e))
        ∙ h p (let n = length-set bases own (with_source (slice_index_or bases own no_sources) k.equation (is_event k)) in omega (arith, within, n))
        ∙ sym (other_kept before p (λ e. other (sym is ∙ e)))
  ]

  -- and where it is past the list, no base partition of the list has it
  pub past_kept : (before : List Constructor) (bases : List Sources) → length bases ≤ partition_in classes (class_in classes k.node) → AreKept classes before bases → AreKept classes (before ++ k ∷ []) bases
  past_kept before bases past h p within = h p within ∙ sym (other_kept before p (λ e. omega (arith, past, within, e)))

-- what is kept tells of a second one beside an event constructor
pub second_mixed : (classes : Classes) (constructors : List Constructor) (p e : ℕ) → mixed_in (summary (sources_in classes p constructors)) ≡ Some e → IsSecondOf classes constructors p e
second_mixed classes constructors p e h = by_event (list_any is_event (sources_in classes p constructors)) refl h
  where
    some_second : (o : Option Constructor) → slice_get (sources_in classes p constructors) 1 ≡ o → option_map (λ c. c.equation) o ≡ Some e → list_any is_event (sources_in classes p constructors) ≡ true → IsSecondOf classes constructors p e
    some_second None is h event = absurd (cc h)
    some_second (Some k) is h event = record { event = event; second = k; is_second = is; equation = (let same : k.equation ≡ e = cc h in same) }

    by_event : (b : Bool) → list_any is_event (sources_in classes p constructors) ≡ b → (if b then option_map (λ c. c.equation) (slice_get (sources_in classes p constructors) 1) else None) ≡ Some e → IsSecondOf classes constructors p e
    by_event true is h = some_second (slice_get (sources_in classes p constructors) 1) refl h is
    by_event false is h = absurd (cc h)

pub mixed_second : (classes : Classes) (constructors : List Constructor) (p e : ℕ) → IsSecondOf classes constructors p e → mixed_in (summary (sources_in classes p constructors)) ≡ Some e
mixed_second classes constructors p e s =
    ap₂ (λ b o. if b then option_map (λ c. c.equation) o else None) s.event s.is_second ∙ ap Some s.equation
