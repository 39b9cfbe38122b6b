-- A base partition with an event constructor has no other constructor that is not inferred.
use Rattle.std.proofs.Common.{◌≡◌, ◌∙◌, refl, ap, sym, ℕ, ◌+◌, ◌==◌, ◌&&◌, ◌||◌, ◌⊎◌, inl, inr, ⊎_elim, Bool, true, false, if◌then◌else◌, List, [], ◌∷◌, slice_get, Option, Some, None, Contains}
use Rattle.std.specs.List.{list_any, filter}
use Rattle.std.proofs.lemmas.Bool.{false≢true, cases_Bool}
use Rattle.std.proofs.lemmas.Option.{none-some}
use Rattle.clock_terms.specs.declared.data.Constructor.{Constructor}
use Rattle.clock_terms.specs.declared.data.Classes.{Classes}
use Rattle.clock_terms.specs.Classing.{class_in, is_clocked, partition_in}
use Rattle.clock_terms.specs.Source.{Kind, Inferred, Every, AtSite, Other, kind_of, Source, every, at_site, source_before, sources_from}
use Rattle.clock_terms.proofs.Joining.{in_none, cons_cases}
use Rattle.base_partition.specs.Classified.{gives_clock, gives_site, is_source, is_event, stands_in, sources_in}
use Rattle.clock_sides.proofs.Lists.{both_true}

-- the source of a constructor, and the number of the next site
abbrev made : Kind → Constructor → ℕ → Source
made (Every m r) k n = record { node = k.node; equation = k.equation; clock = every m r }
made Inferred k n = record { node = k.node; equation = k.equation; clock = at_site n }
made Other k n = record { node = k.node; equation = k.equation; clock = at_site n }
made AtSite k n = record { node = k.node; equation = k.equation; clock = at_site n }

abbrev next : Kind → ℕ → ℕ
next AtSite n = n + 1
next Inferred n = n
next Other n = n
next (Every m r) n = n

made_or : (kind : Kind) (k : Constructor) (n : ℕ) (rest : ℕ → List Source) (s : Source) → Contains (source_before kind k n rest) s
    → ((gives_clock kind ≡ true) × (made kind k n ≡ s)) ⊎ Contains (rest (next kind n)) s
made_or Inferred k n rest s c = inr c
made_or Other k n rest s c = inr c
made_or (Every m r) k n rest s c = ⊎_elim (λ e. inl (refl, e)) (λ later. inr later) (cons_cases (made (Every m r) k n) (rest n) s c)
made_or AtSite k n rest s c = ⊎_elim (λ e. inl (refl, e)) (λ later. inr later) (cons_cases (made AtSite k n) (rest (n + 1)) s c)

made_node : (kind : Kind) (k : Constructor) (n : ℕ) → (made kind k n).node ≡ k.node
made_node Inferred k n = refl
made_node Other k n = refl
made_node (Every m r) k n = refl
made_node AtSite k n = refl

made_axis : (kind : Kind) (k : Constructor) (n : ℕ) → gives_clock kind ≡ true → gives_site kind ≡ false → (made kind k n).clock.site ≡ None
made_axis Inferred k n c e = absurd (false≢true c)
made_axis Other k n c e = absurd (false≢true c)
made_axis (Every m r) k n c e = refl
made_axis AtSite k n c e = absurd (false≢true (sym e))

module _ (classes : Classes) (p : ℕ) where
  abbrev test : Constructor → Bool
  test k = is_source k && stands_in classes p k

  -- a node has a clocked class of the partition
  abbrev pub stands_at : ℕ → Bool
  stands_at x = is_clocked classes (class_in classes x) && (partition_in classes (class_in classes x) == p)

  none_first : (k : Constructor) (ks : List Constructor) → slice_get (filter test (k ∷ ks)) 0 ≡ None → (test k ≡ false) × (slice_get (filter test ks) 0 ≡ None)
  none_first k ks e = by (test k) e
    where
      by : (b : Bool) → slice_get (if b then k ∷ filter test ks else filter test ks) 0 ≡ None → (b ≡ false) × (slice_get (filter test ks) 0 ≡ None)
      by true e = absurd (none-some k (sym e))
      by false e = (refl, e)

  none_second : (k : Constructor) (ks : List Constructor) → slice_get (filter test (k ∷ ks)) 1 ≡ None
      → (slice_get (filter test ks) 0 ≡ None) ⊎ ((test k ≡ false) × (slice_get (filter test ks) 1 ≡ None))
  none_second k ks e = by (test k) e
    where
      by : (b : Bool) → slice_get (if b then k ∷ filter test ks else filter test ks) 1 ≡ None
          → (slice_get (filter test ks) 0 ≡ None) ⊎ ((b ≡ false) × (slice_get (filter test ks) 1 ≡ None))
      by true e = inl e
      by false e = inr (refl, e)

  no_event : (k : Constructor) (ks : List Constructor) → list_any is_event (filter test (k ∷ ks)) ≡ false
      → (test k ≡ true → is_event k ≡ false) × (list_any is_event (filter test ks) ≡ false)
  no_event k ks e = by (test k) (is_event k) (list_any is_event (filter test ks)) refl refl e
    where
      by : (b event later : Bool) → is_event k ≡ event → list_any is_event (filter test ks) ≡ later → list_any is_event (if b then k ∷ filter test ks else filter test ks) ≡ false
          → (b ≡ true → event ≡ false) × (later ≡ false)
      by false event later is rest e = (λ t. absurd (false≢true t), sym rest ∙ e)
      by true true later is rest e =
          let whole : true ≡ false = sym (ap (λ x. x || list_any is_event (filter test ks)) is) ∙ e in
          absurd (false≢true (sym whole))
      by true false later is rest e = (λ t. refl, sym rest ∙ sym (ap (λ x. x || list_any is_event (filter test ks)) is) ∙ e)

  -- a source of constructor k that stands in the partition is one of those of the partition
  own_passes : (k : Constructor) (n : ℕ) (s : Source) → gives_clock (kind_of k.clock) ≡ true → made (kind_of k.clock) k n ≡ s → stands_at s.node ≡ true → test k ≡ true
  own_passes k n s gives is stands =
      both_true (is_source k) (stands_in classes p k) gives (ap stands_at (sym (made_node (kind_of k.clock) k n) ∙ ap (λ s. s.node) is) ∙ stands)

  none_in : (ks : List Constructor) (n : ℕ) (s : Source) → slice_get (filter test ks) 0 ≡ None → Contains (sources_from n ks) s → stands_at s.node ≡ true → ⊥
  none_in [] n s none c stands = in_none s c
  none_in (k ∷ ks) n s none c stands =
      let h = none_first k ks none in
      ⊎_elim
      (λ own. false≢true (sym h.0 ∙ own_passes k n s own.0 own.1 stands))
      (λ later. none_in ks (next (kind_of k.clock) n) s h.1 later stands)
      (made_or (kind_of k.clock) k n (λ m. sources_from m ks) s c)

  pub one_in : (ks : List Constructor) (n : ℕ) (s t : Source) → slice_get (sources_in classes p ks) 1 ≡ None → Contains (sources_from n ks) s → Contains (sources_from n ks) t
      → stands_at s.node ≡ true → stands_at t.node ≡ true → s ≡ t
  one_in [] n s t none c d stands also = absurd (in_none s c)
  one_in (k ∷ ks) n s t none c d stands also =
      let m = next (kind_of k.clock) n in
      let first = made_or (kind_of k.clock) k n (λ m. sources_from m ks) s c in
      let second = made_or (kind_of k.clock) k n (λ m. sources_from m ks) t d in
      ⊎_elim
      (λ empty. ⊎_elim
      (λ own. ⊎_elim (λ other. sym own.1 ∙ other.1) (λ later. absurd (none_in ks m t empty later also)) second)
      (λ later. absurd (none_in ks m s empty later stands))
      first)
      (λ h. ⊎_elim
      (λ own. absurd (false≢true (sym h.0 ∙ own_passes k n s own.0 own.1 stands)))
      (λ later. ⊎_elim
      (λ own. absurd (false≢true (sym h.0 ∙ own_passes k n t own.0 own.1 also)))
      (λ other. one_in ks m s t h.1 later other stands also)
      second)
      first)
      (none_second k ks none)

  pub plain_in : (ks : List Constructor) (n : ℕ) (s : Source) → list_any is_event (sources_in classes p ks) ≡ false → Contains (sources_from n ks) s → stands_at s.node ≡ true → s.clock.site ≡ None
  plain_in [] n s none c stands = absurd (in_none s c)
  plain_in (k ∷ ks) n s none c stands =
      let h = no_event k ks none in
      ⊎_elim
      (λ own. ap (λ s. s.clock.site) (sym own.1) ∙ made_axis (kind_of k.clock) k n own.0 (h.0 (own_passes k n s own.0 own.1 stands)))
      (λ later. plain_in ks (next (kind_of k.clock) n) s h.1 later stands)
      (made_or (kind_of k.clock) k n (λ m. sources_from m ks) s c)

  -- so all of them go by one axis
  pub one_axis : (ks : List Constructor) (n : ℕ) (s t : Source) → ((second : Constructor) → list_any is_event (sources_in classes p ks) ≡ true → slice_get (sources_in classes p ks) 1 ≡ Some second → ⊥)
      → Contains (sources_from n ks) s → Contains (sources_from n ks) t → stands_at s.node ≡ true → stands_at t.node ≡ true → s.clock.site ≡ t.clock.site
  one_axis ks n s t apart c d stands also = ⊎_elim
      (λ event. by (slice_get (sources_in classes p ks) 1) refl event)
      (λ plain. plain_in ks n s plain c stands ∙ sym (plain_in ks n t plain d also))
      (cases_Bool (list_any is_event (sources_in classes p ks)))
    where
      by : (o : Option Constructor) → slice_get (sources_in classes p ks) 1 ≡ o → list_any is_event (sources_in classes p ks) ≡ true → s.clock.site ≡ t.clock.site
      by None none event = ap (λ s. s.clock.site) (one_in ks n s t none c d stands also)
      by (Some second) is event = absurd (apart second event is)
