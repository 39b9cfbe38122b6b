-- Queues of classes: none, one, and several in turn.
use Rattle.std.proofs.Common.{◌≡◌, ◌∙◌, refl, sym, ap, subst, ℕ, ◌+◌, ◌<◌, ◌⊎◌, inl, inr, ⊎_elim, Bool, true, false, List, [], ◌∷◌, length, take, get_or, slice_index_or, Contains, arith}
use Rattle.std.proofs.lemmas.List.{take_more}
use Rattle.std.proofs.lemmas.List.Elements.{Contains-push, Contains-push_cases, Contains-append_left}
use Rattle.clock_terms.specs.declared.data.Relation.{Relation}
use Rattle.clock_spread.specs.Queue.{marked, Queues, other_end, IsOtherEnd, IsNextTo}

pub queues_none : (Wanted : ℕ → Type 0) (clocked : List Bool) (next : List ℕ) (marks : List Bool) → ((c : ℕ) → Wanted c → ⊥) → Queues Wanted clocked next marks next marks
queues_none Wanted clocked next marks none = record {
  same_length = refl;
  kept = λ c h. h;
  still = λ c h. h;
  all = λ c w t. absurd (none c w);
  listed = λ c t. inl t;
  only = λ c h. inl h;
}

pub queues_same : (Wanted Other : ℕ → Type 0) (clocked : List Bool) (next : List ℕ) (marks : List Bool) (more : List ℕ) (after : List Bool)
    → ((c : ℕ) → Wanted c → Other c) → ((c : ℕ) → Other c → Wanted c) → Queues Wanted clocked next marks more after → Queues Other clocked next marks more after
queues_same Wanted Other clocked next marks more after to from q = record {
  same_length = q.same_length;
  kept = q.kept;
  still = q.still;
  all = λ c w t. q.all c (from c w) t;
  listed = q.listed;
  only = λ c h. ⊎_elim (λ old. inl old) (λ new. inr (new.0, new.1, to c new.2)) (q.only c h);
}

false_or : (b : Bool) → (b ≡ true) ⊎ (b ≡ false)
false_or true = inl refl
false_or false = inr refl

unmarked_before : (Wanted : ℕ → Type 0) (clocked : List Bool) (next : List ℕ) (marks : List Bool) (more : List ℕ) (after : List Bool)
    → Queues Wanted clocked next marks more after → (c : ℕ) → marked after c ≡ false → marked marks c ≡ false
unmarked_before Wanted clocked next marks more after q c e = ⊎_elim (λ t. absurd (clash (sym (q.still c t) ∙ e))) (λ f. f) (false_or (marked marks c))
  where
    clash : true ≡ false → ⊥
    clash e = absurd cc

pub queues_more : (Wanted Other : ℕ → Type 0) (clocked : List Bool) (a : List ℕ) (am : List Bool) (b : List ℕ) (bm : List Bool) (d : List ℕ) (dm : List Bool)
    → Queues Wanted clocked a am b bm → Queues Other clocked b bm d dm → Queues (λ c. Wanted c ⊎ Other c) clocked a am d dm
queues_more Wanted Other clocked a am b bm d dm p q = record {
  same_length = q.same_length ∙ p.same_length;
  kept = λ c h. q.kept c (p.kept c h);
  still = λ c h. q.still c (p.still c h);
  all = λ c w t. ⊎_elim (λ x. q.still c (p.all c x t)) (λ x. q.all c x t) w;
  listed = λ c t. ⊎_elim (λ x. ⊎_elim (λ y. inl y) (λ y. inr (q.kept c y)) (p.listed c x)) (λ x. inr x) (q.listed c t);
  only = λ c h. ⊎_elim
      (λ x. ⊎_elim (λ y. inl y) (λ y. inr (y.0, y.1, inl y.2)) (p.only c x))
      (λ x. inr (unmarked_before Wanted clocked a am b bm p c x.0, x.1, inr x.2))
      (q.only c h);
}

-- the other ends of one relation more
pub ends_more : (class_of : ℕ → ℕ) (d : ℕ) (rs : List Relation) (i : ℕ) (e : Relation) → i < length rs → (c : ℕ)
    → IsOtherEnd class_of d (take i rs) c ⊎ (c ≡ other_end class_of d (get_or rs i e)) → IsOtherEnd class_of d (take (i + 1) rs) c
ends_more class_of d rs i e within c (inl (r, h, is)) = (r, rw (take_more rs i e within) (Contains-append_left (take i rs) (get_or rs i e ∷ []) r h), is)
ends_more class_of d rs i e within c (inr is) = (get_or rs i e, rw (take_more rs i e within) (Contains-push (take i rs) (get_or rs i e)), sym is)

pub more_ends : (class_of : ℕ → ℕ) (d : ℕ) (rs : List Relation) (i : ℕ) (e : Relation) → i < length rs → (c : ℕ)
    → IsOtherEnd class_of d (take (i + 1) rs) c → IsOtherEnd class_of d (take i rs) c ⊎ (c ≡ other_end class_of d (get_or rs i e))
more_ends class_of d rs i e within c (r, h, is) = ⊎_elim
    (λ old. inl (r, old, is))
    (λ new. inr (sym is ∙ ap (λ z. other_end class_of d z) (sym new)))
    (Contains-push_cases (take i rs) (get_or rs i e) r (subst (λ l. Contains l r) (take_more rs i e within) h))

pub next_more : (class_of : ℕ → ℕ) (lists : List (List Relation)) (last : List ℕ) (i e : ℕ) → i < length last → (c : ℕ)
    → IsNextTo class_of lists (take i last) c ⊎ IsOtherEnd class_of (get_or last i e) (slice_index_or lists (get_or last i e) []) c → IsNextTo class_of lists (take (i + 1) last) c
next_more class_of lists last i e within c (inl (d, h, is)) = (d, rw (take_more last i e within) (Contains-append_left (take i last) (get_or last i e ∷ []) d h), is)
next_more class_of lists last i e within c (inr is) = (get_or last i e, rw (take_more last i e within) (Contains-push (take i last) (get_or last i e)), is)

pub more_next : (class_of : ℕ → ℕ) (lists : List (List Relation)) (last : List ℕ) (i e : ℕ) → i < length last → (c : ℕ)
    → IsNextTo class_of lists (take (i + 1) last) c → IsNextTo class_of lists (take i last) c ⊎ IsOtherEnd class_of (get_or last i e) (slice_index_or lists (get_or last i e) []) c
more_next class_of lists last i e within c (d, h, is) = ⊎_elim
    (λ old. inl (d, old, is))
    (λ new. inr (subst (λ z. IsOtherEnd class_of z (slice_index_or lists z []) c) (sym new) is))
    (Contains-push_cases (take i last) (get_or last i e) d (subst (λ l. Contains l d) (take_more last i e within) h))

-- one loop's step
pub ends_step : (class_of : ℕ → ℕ) (d : ℕ) (rs : List Relation) (i : ℕ) (e : Relation) (clocked : List Bool) (a : List ℕ) (am : List Bool) (b : List ℕ) (bm : List Bool) (n : List ℕ) (nm : List Bool) (end : ℕ)
    → i < length rs → end ≡ other_end class_of d (get_or rs i e) → Queues (IsOtherEnd class_of d (take i rs)) clocked a am b bm → Queues (λ c. c ≡ end) clocked b bm n nm
    → Queues (IsOtherEnd class_of d (take (i + 1) rs)) clocked a am n nm
ends_step class_of d rs i e clocked a am b bm n nm end within is p q =
    queues_same (λ c. IsOtherEnd class_of d (take i rs) c ⊎ (c ≡ end)) (IsOtherEnd class_of d (take (i + 1) rs)) clocked a am n nm
    (λ c h. ends_more class_of d rs i e within c (⊎_elim (λ x. inl x) (λ x. inr (x ∙ is)) h))
    (λ c h. ⊎_elim (λ x. inl x) (λ x. inr (x ∙ sym is)) (more_ends class_of d rs i e within c h))
    (queues_more (IsOtherEnd class_of d (take i rs)) (λ c. c ≡ end) clocked a am b bm n nm p q)

pub next_step : (class_of : ℕ → ℕ) (lists : List (List Relation)) (last : List ℕ) (i e : ℕ) (clocked : List Bool) (a : List ℕ) (am : List Bool) (b : List ℕ) (bm : List Bool) (n : List ℕ) (nm : List Bool)
    → i < length last → Queues (IsNextTo class_of lists (take i last)) clocked a am b bm
    → Queues (IsOtherEnd class_of (get_or last i e) (slice_index_or lists (get_or last i e) [])) clocked b bm n nm
    → Queues (IsNextTo class_of lists (take (i + 1) last)) clocked a am n nm
next_step class_of lists last i e clocked a am b bm n nm within p q =
    queues_same (λ c. IsNextTo class_of lists (take i last) c ⊎ IsOtherEnd class_of (get_or last i e) (slice_index_or lists (get_or last i e) []) c) (IsNextTo class_of lists (take (i + 1) last)) clocked a am n nm
    (next_more class_of lists last i e within) (more_next class_of lists last i e within)
    (queues_more (IsNextTo class_of lists (take i last)) (IsOtherEnd class_of (get_or last i e) (slice_index_or lists (get_or last i e) [])) clocked a am b bm n nm p q)

pub no_ends : (class_of : ℕ → ℕ) (d : ℕ) (rs : List Relation) (c : ℕ) → IsOtherEnd class_of d (take 0 rs) c → ⊥
no_ends class_of d rs c (r, (k, within, is), e) = absurd (omega (arith, within))

pub no_next : (class_of : ℕ → ℕ) (lists : List (List Relation)) (last : List ℕ) (c : ℕ) → IsNextTo class_of lists (take 0 last) c → ⊥
no_next class_of lists last c (d, (k, within, is), e) = absurd (omega (arith, within))
