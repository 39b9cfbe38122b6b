-- A round of spreading leads from what stands for the clocks of one round to what stands for those of the next.
use Rattle.std.proofs.Common.{◌≡◌, ◌≢◌, ◌∙◌, refl, sym, ap, subst, ℕ, zero, suc, ◌+◌, ◌<◌, ◌≤◌, ◌==◌, ◌↔◌, ◌⊎◌, inl, inr, ⊎_elim, Bool, true, false, ◌&&◌, ◌||◌, if◌then◌else◌, List, [], ◌∷◌, Option, Some, None, filter, arith, All, Contains, length, get_or, slice_index_or}
use Rattle.std.proofs.lemmas.List.{get_or_default}
use Rattle.std.proofs.lemmas.List.Elements.{All-contains, All-tail}
use Rattle.std.proofs.lemmas.Bool.{eqb-true, eqb-false, eq-eqb}
use Rattle.clock_terms.specs.declared.data.Relation.{Relation}
use Rattle.clock_terms.specs.Position.{Progression}
use Rattle.clock_terms.specs.Clocking.{Said, Held}
use Rattle.clock_spread.specs.declared.offers.Found.{Found}
use Rattle.clock_spread.specs.declared.offers.Found.TheVariants.{Not, Kept, Lost}
use Rattle.clock_spread.specs.Rounds.{is_given, first_some, if_clocked, offered}
use Rattle.clock_spread.specs.Found.{Agrees, Agree, IsExact, IsFineFound, NoneLost, found_of, class_in, touches, HasEnds}
use Rattle.clock_spread.specs.Queue.{marked, unmarked, Queues, other_end, IsNextTo}
use Rattle.clock_spread.specs.Turn.{Commits, said_by, following, AreTouching, Stands, after_more, AreProper, AreLost, IsFirstLost, Settles}
use Rattle.clock_spread.proofs.Spreading.{IsBetween, offered_from, offered_some, offered_touching}
use Rattle.clock_spread.proofs.Losing.{following_proper, kept_fine, exact_lost}

by_test : {P : Type 0} (b : Bool) → (b ≡ true → P) → (b ≡ false → P) → P
by_test true f g = f refl
by_test false f g = g refl

none_some : {A : Type 0} {a : A} → None ≡ Some a → ⊥
none_some e = absurd cc

true_false : {b : Bool} → b ≡ true → b ≡ false → ⊥
true_false e f = absurd cc

some_or_none : (o : Option Progression) → ((p : Progression) × (o ≡ Some p)) ⊎ (o ≡ None)
some_or_none None = inr refl
some_or_none (Some p) = inl (p, refl)

-- ---- what is kept, and whether there is a clock
kept_some : (f : Found) (o : Option Progression) → f ≢ Not → Agrees f o → (p : Progression) × (o ≡ Some p)
kept_some Not o n h = absurd (n refl)
kept_some (Kept g) o n h = (h.0, h.1)
kept_some Lost o n h = h

kept_none : (f : Found) (o : Option Progression) → o ≡ None → Agrees f o → f ≡ Not
kept_none Not o e h = refl
kept_none (Kept g) o e h = absurd (none_some (sym e ∙ h.1))
kept_none Lost o e h = absurd (none_some (sym e ∙ h.1))

kept_is : (f : Found) (o : Option Progression) (p : Progression) → o ≡ Some p → Agrees f o → f ≢ Not
kept_is f o p e h n = absurd (none_some (sym (subst (λ x. Agrees x o) n h) ∙ e))

not_kept : (f : Found) (o : Option Progression) → f ≡ Not → Agrees f o → o ≡ None
not_kept f o n h = subst (λ x. Agrees x o) n h

-- ---- relations that touch a class
contains_filter : {X : Type 0} (p : X → Bool) (xs : List X) (x : X) → Contains xs x → p x ≡ true → Contains (filter p xs) x
contains_filter p [] x (k, within, is) t = absurd (omega (arith, within))
contains_filter p (y ∷ ys) x (zero, within, is) t = first (p y) (subst (λ z. p z ≡ true) (sym is) t)
  where
    first : (b : Bool) → b ≡ true → Contains (if b then y ∷ filter p ys else filter p ys) x
    first true e = (0, omega arith, is)
    first false e = absurd cc
contains_filter p (y ∷ ys) x (suc k, within, is) t = later (p y) (contains_filter p ys x (k, omega (arith, within), is) t)
  where
    later : (b : Bool) → Contains (filter p ys) x → Contains (if b then y ∷ filter p ys else filter p ys) x
    later true (j, lt, e) = (suc j, omega (arith, lt), e)
    later false h = h

filter_contains : {X : Type 0} (p : X → Bool) (xs : List X) (x : X) → Contains (filter p xs) x → Contains xs x × (p x ≡ true)
filter_contains p [] x (k, within, is) = absurd (omega (arith, within))
filter_contains p (y ∷ ys) x h = cases (λ w. filter_contains p ys x w) (p y) refl h
  where
    later : (Contains (filter p ys) x → Contains ys x × (p x ≡ true)) → Contains (filter p ys) x → Contains (y ∷ ys) x × (p x ≡ true)
    later again w = let r = again w in ((suc r.0.0, omega (arith, r.0.1), r.0.2), r.1)

    cases : (Contains (filter p ys) x → Contains ys x × (p x ≡ true)) → (b : Bool) → p y ≡ b → Contains (if b then y ∷ filter p ys else filter p ys) x → Contains (y ∷ ys) x × (p x ≡ true)
    cases again true e (zero, within, is) = ((0, omega arith, is), subst (λ z. p z ≡ true) is e)
    cases again true e (suc j, within, is) = later again (j, omega (arith, within), is)
    cases again false e w = later again w

both_true : (a b : Bool) → (a && b) ≡ true → (a ≡ true) × (b ≡ true)
both_true true b e = (refl, e)
both_true false b e = absurd cc

or_true : (a b : Bool) → (a || b) ≡ true → (a ≡ true) ⊎ (b ≡ true)
or_true true b e = inl refl
or_true false b e = inr e

is_or : (a b : Bool) → (a ≡ true) ⊎ (b ≡ true) → (a || b) ≡ true
is_or true b h = refl
is_or false b (inl e) = absurd cc
is_or false b (inr e) = e

is_both : (a b : Bool) → a ≡ true → b ≡ true → (a && b) ≡ true
is_both true b e f = f
is_both false b e f = absurd cc

-- a relation that touches d leads to its other end
between_end : (class_of : ℕ → ℕ) (d : ℕ) (r : Relation) → touches class_of d r ≡ true → IsBetween class_of r (other_end class_of d r) d
between_end class_of d r t = by_test (class_of r.result == d)
    (λ e. record {
      given = given;
      ends = inr (subst (λ b. class_of r.argument ≡ (if b then class_of r.argument else class_of r.result)) (sym e) refl, eqb-true (class_of r.result) d e);
    })
    (λ f. record {
      given = given;
      ends = inl (subst (λ b. class_of r.result ≡ (if b then class_of r.argument else class_of r.result)) (sym f) refl, eqb-true (class_of r.argument) d (second f));
    })
  where
    given : is_given r.by ≡ true
    given = ⊎_elim (λ e. (both_true (is_given r.by) (class_of r.result == d) e).0) (λ e. (both_true (is_given r.by) (class_of r.argument == d) e).0)
        (or_true (is_given r.by && class_of r.result == d) (is_given r.by && class_of r.argument == d) t)

    second : (class_of r.result == d) ≡ false → (class_of r.argument == d) ≡ true
    second f = ⊎_elim (λ e. absurd (true_false (both_true (is_given r.by) (class_of r.result == d) e).1 f)) (λ e. (both_true (is_given r.by) (class_of r.argument == d) e).1)
        (or_true (is_given r.by && class_of r.result == d) (is_given r.by && class_of r.argument == d) t)

between_touches : (class_of : ℕ → ℕ) (c d : ℕ) (r : Relation) → IsBetween class_of r c d → touches class_of d r ≡ true
between_touches class_of c d r b = is_or (is_given r.by && class_of r.result == d) (is_given r.by && class_of r.argument == d)
    (⊎_elim (λ e. inr (is_both (is_given r.by) (class_of r.argument == d) b.given (eq-eqb (class_of r.argument) d e.1)))
    (λ e. inl (is_both (is_given r.by) (class_of r.result == d) b.given (eq-eqb (class_of r.result) d e.1))) b.ends)

end_between : (class_of : ℕ → ℕ) (c d : ℕ) (r : Relation) → IsBetween class_of r c d → (c ≡ d → ⊥) → other_end class_of d r ≡ c
end_between class_of c d r b apart = by_test (class_of r.result == d)
    (λ e. subst (λ x. (if x then class_of r.argument else class_of r.result) ≡ c) (sym e)
    (⊎_elim (λ h. absurd (apart (sym h.0 ∙ eqb-true (class_of r.result) d e))) (λ h. h.0) b.ends))
    (λ f. subst (λ x. (if x then class_of r.argument else class_of r.result) ≡ c) (sym f)
    (⊎_elim (λ h. h.0) (λ h. absurd (eqb-false (class_of r.result) d f h.1)) b.ends))

if_clocked_is : (b : Bool) (o : Option Progression) (p : Progression) → if_clocked b o ≡ Some p → (b ≡ true) × (o ≡ Some p)
if_clocked_is true o p e = (refl, e)
if_clocked_is false o p e = absurd (none_some e)

first_none : (a b : Option Progression) → first_some a b ≡ None → a ≡ None
first_none None b e = refl
first_none (Some a) b e = absurd (none_some (sym e))

first_of_none : (a b : Option Progression) → a ≡ None → first_some a b ≡ b
first_of_none None b e = refl
first_of_none (Some a) b e = absurd (none_some (sym e))

first_of_some : (a b : Option Progression) (p : Progression) → a ≡ Some p → first_some a b ≡ a
first_of_some None b p e = absurd (none_some e)
first_of_some (Some a) b p e = refl

clocked_is : (b : Bool) (o : Option Progression) → b ≡ true → if_clocked b o ≡ o
clocked_is true o e = refl
clocked_is false o e = absurd cc

module _ (class_of : List ℕ) (clocked : List Bool) (relations : List Relation) (lists : List (List Relation)) (held : Held) (found found' news : List Found) (marks marks' : List Bool) (last next : List ℕ)
    (s : Stands class_of clocked relations lists held found marks last)
    (t : AreTouching class_of relations lists)
    (below_last : All (λ d. d < length lists) last)
    (q : Queues (IsNextTo (class_in class_of) lists last) clocked [] marks next marks')
    (takes : (k : ℕ) → k < length next → Agrees (found_of news k) (offered (class_in class_of) held (slice_index_or lists (slice_index_or next k 0) []) (slice_index_or next k 0)))
    (m : Commits (length next) next news found found')
    (below : All (λ c. c < length lists) next) where
  abbrev said : Said
  said = said_by class_of clocked relations

  abbrev after : Held
  after = following said held

  abbrev offers : ℕ → Option Progression
  offers c = offered (class_in class_of) held relations c

  place : (c : ℕ) → Contains next c → (k : ℕ) × (k < length next) × (slice_index_or next k 0 ≡ c)
  place c (k, within, is) = (k, within, get_or_default next k 0 c within ∙ is)

  queued : (c : ℕ) → Contains next c → (marked marks c ≡ false) × (marked clocked c ≡ true) × IsNextTo (class_in class_of) lists last c
  queued c h = ⊎_elim (λ none. absurd (omega (arith, none.1))) (λ r. r) (q.only c h)

  inside : (c k : ℕ) → k < length next → slice_index_or next k 0 ≡ c → Contains next c
  inside c k within is = (k, within, get_or_default next k c 0 within ∙ is)

  -- at a queued class stands what it is offered
  new_agrees : (c : ℕ) → Contains next c → Agrees (found_of found' c) (offers c)
  new_agrees c h = ⊎_elim
      (λ (k, within, is, f).
      let bound : c < length lists = subst (λ x. x < length lists) is (below k 0 within) in
      let at : Agrees (found_of news k) (offered (class_in class_of) held (slice_index_or lists c []) c) =
      subst (λ x. Agrees (found_of news k) (offered (class_in class_of) held (slice_index_or lists x []) x)) is (takes k within) in
      let all : offered (class_in class_of) held (slice_index_or lists c []) c ≡ offers c =
      ap (λ l. offered (class_in class_of) held l c) (t c bound) ∙ offered_touching (class_in class_of) held relations c in
      subst (λ x. Agrees x (offers c)) (sym f) (subst (λ o. Agrees (found_of news k) o) all at))
      (λ (none, f). let p = place c h in absurd (none p.0 p.1 p.2))
      (m c)

  old_stays : (c : ℕ) → (Contains next c → ⊥) → found_of found' c ≡ found_of found c
  old_stays c out = ⊎_elim (λ (k, within, is, f). absurd (out (inside c k within is))) (λ (none, f). f) (m c)

  new_held : (c : ℕ) → Contains next c → held c ≡ None
  new_held c h = not_kept (found_of found c) (held c) (s.has_not c (queued c h).0) (s.agree c)

  new_after : (c : ℕ) → Contains next c → after c ≡ offers c
  new_after c h = first_of_none (held c) (if_clocked (marked clocked c) (offers c)) (new_held c h) ∙ clocked_is (marked clocked c) (offers c) (queued c h).1

  -- a class that is not queued keeps what it has
  old_after : (c : ℕ) → (Contains next c → ⊥) → after c ≡ held c
  old_after c out = ⊎_elim
      (λ (p, e). first_of_some (held c) (if_clocked (marked clocked c) (offers c)) p e)
      (λ e. ⊎_elim
      (λ (p, takes_it). absurd (none_of p e takes_it))
      (λ none. none ∙ sym e)
      (some_or_none (after c)))
      (some_or_none (held c))
    where
      none_of : (p : Progression) → held c ≡ None → after c ≡ Some p → ⊥
      none_of p e takes_it =
          let new = if_clocked_is (marked clocked c) (offers c) p (sym (first_of_none (held c) (if_clocked (marked clocked c) (offers c)) e) ∙ takes_it) in
          ⊎_elim
          (λ old. s.has c old (kept_none (found_of found c) (held c) e (s.agree c)))
          (λ h. out h)
          (q.listed c (q.all c (s.covers c p e takes_it) new.0))

  queued_or_not : (c : ℕ) → Contains next c ⊎ (Contains next c → ⊥)
  queued_or_not c = by_test (marked marks' c)
      (λ is. ⊎_elim
      (λ old. inr (λ h. true_false old (queued c h).0))
      (λ h. inl h)
      (q.listed c is))
      (λ isnt. inr (λ h. true_false (let r = queued c h in q.all c r.2 r.1) isnt))

  pub agree_next : Agree found' after
  agree_next c = ⊎_elim
      (λ h. subst (λ o. Agrees (found_of found' c) o) (sym (new_after c h)) (new_agrees c h))
      (λ out. subst (λ o. Agrees (found_of found' c) o) (sym (old_after c out)) (subst (λ f. Agrees f (held c)) (sym (old_stays c out)) (s.agree c)))
      (queued_or_not c)

  -- a queued class is offered a clock
  new_some : (c : ℕ) → Contains next c → (p : Progression) × (offers c ≡ Some p)
  new_some c h =
      let (d, in_last, (r, touching, is)) = (queued c h).2 in
      let bound : d < length lists = All-contains (λ d. d < length lists) last d below_last in_last in
      let (x, has) = kept_some (found_of found d) (held d) (All-contains (λ d. found_of found d ≢ Not) last d s.last_has in_last) (s.agree d) in
      let (within, touch) = filter_contains (touches (class_in class_of) d) relations r (subst (λ l. Contains l r) (t d bound) touching) in
      let between : IsBetween (class_in class_of) r c d = subst (λ z. IsBetween (class_in class_of) r z d) is (between_end (class_in class_of) d r touch) in
      offered_some (class_in class_of) held relations r c d x within between has (new_held c h)

  new_kept : (c : ℕ) → Contains next c → found_of found' c ≢ Not
  new_kept c h = let o = new_some c h in kept_is (found_of found' c) (offers c) o.0 o.1 (new_agrees c h)

  pub has_next : (c : ℕ) → marked marks' c ≡ true → found_of found' c ≢ Not
  has_next c is = ⊎_elim
      (λ old. λ e. s.has c old (sym (old_stays c (λ h. true_false old (queued c h).0)) ∙ e))
      (λ h. new_kept c h)
      (q.listed c is)

  pub has_not_next : (c : ℕ) → marked marks' c ≡ false → found_of found' c ≡ Not
  has_not_next c isnt = ⊎_elim
      (λ h. absurd (true_false (let r = queued c h in q.all c r.2 r.1) isnt))
      (λ out. old_stays c out ∙ s.has_not c (by_test (marked marks c) (λ old. absurd (true_false (q.still c old) isnt)) (λ f. f)))
      (queued_or_not c)

  pub last_has_next : All (λ d. found_of found' d ≢ Not) next
  last_has_next k d within = new_kept (slice_index_or next k d) (k, within, get_or_default next k (slice_index_or next k d) d within)

  -- what takes a clock in the round after takes it from a queued class
  pub covers_next : (c : ℕ) (p : Progression) → after c ≡ None → following said after c ≡ Some p → IsNextTo (class_in class_of) lists next c
  covers_next c p none takes_it =
      let new = if_clocked_is (marked clocked c) (offered (class_in class_of) after relations c) p (sym (first_of_none (after c) (if_clocked (marked clocked c) (offered (class_in class_of) after relations c)) none) ∙ takes_it) in
      let (r, within, (d, between, (x, has))) = offered_from (class_in class_of) after relations c p new.1 in
      let held_c : held c ≡ None = first_none (held c) (if_clocked (marked clocked c) (offers c)) none in
      ⊎_elim
      (λ h.
      let place_d = place d h in
      let bound : d < length lists = subst (λ y. y < length lists) place_d.2 (below place_d.0 0 place_d.1) in
      let apart : c ≡ d → ⊥ = λ e. none_some (sym none ∙ ap after e ∙ has) in (
        d,
        h,
        (
          r,
          subst (λ l. Contains l r) (sym (t d bound)) (contains_filter (touches (class_in class_of) d) relations r within (between_touches (class_in class_of) c d r between)),
          end_between (class_in class_of) c d r between apart,
        ),
      ))
      (λ out.
      let o = offered_some (class_in class_of) held relations r c d x within between (sym (old_after d out) ∙ has) held_c in
      let got : after c ≡ Some o.0 = first_of_none (held c) (if_clocked (marked clocked c) (offers c)) held_c ∙ clocked_is (marked clocked c) (offers c) new.0 ∙ o.1 in
      absurd (none_some (sym none ∙ got)))
      (queued_or_not d)

  pub stands_next : Stands class_of clocked relations lists after found' marks' next
  stands_next = record { agree = agree_next; has = has_next; has_not = has_not_next; last_has = last_has_next; covers = covers_next }

  -- what is lost after the round is what took too fine a clock in it
  pub lost_next : AreProper held → NoneLost found → All IsFineFound found'
      → ((k : ℕ) → k < length next → IsExact (found_of news k) (offered (class_in class_of) held (slice_index_or lists (slice_index_or next k 0) []) (slice_index_or next k 0)))
      → AreLost said held found' next
  lost_next proper none fine exact = record {
    listed = listed;
    too_fine = λ c e. let h = listed c e in
        let (p, is, over) = exact_lost (found_of found' c) (offers c) e (new_exact c h) in
        (p, (new_held c h, new_after c h ∙ is), over);
    lost = λ c. λ (p, new, over). kept_fine (found_of found' c) (after c) p (fine_at found' fine c) (agree_next c) new.1 (following_proper said held proper c p new.1) over;
  }
    where
      listed : (c : ℕ) → found_of found' c ≡ Lost → Contains next c
      listed c e = ⊎_elim (λ h. h) (λ out. absurd (none c (sym (old_stays c out) ∙ e))) (queued_or_not c)

      new_exact : (c : ℕ) → Contains next c → IsExact (found_of found' c) (offers c)
      new_exact c h = ⊎_elim
          (λ (k, within, is, f).
          let bound : c < length lists = subst (λ x. x < length lists) is (below k 0 within) in
          let at : IsExact (found_of news k) (offered (class_in class_of) held (slice_index_or lists c []) c) =
          subst (λ x. IsExact (found_of news k) (offered (class_in class_of) held (slice_index_or lists x []) x)) is (exact k within) in
          let all : offered (class_in class_of) held (slice_index_or lists c []) c ≡ offers c =
          ap (λ l. offered (class_in class_of) held l c) (t c bound) ∙ offered_touching (class_in class_of) held relations c in
          subst (λ x. IsExact x (offers c)) (sym f) (subst (λ o. IsExact (found_of news k) o) all at))
          (λ (none, f). let p = place c h in absurd (none p.0 p.1 p.2))
          (m c)

      fine_at : (fs : List Found) → All IsFineFound fs → (c : ℕ) → IsFineFound (found_of fs c)
      fine_at [] h c = tt
      fine_at (f ∷ fs) h zero = h 0 f (omega arith)
      fine_at (f ∷ fs) h (suc c) = fine_at fs (All-tail IsFineFound f fs h) c

-- what is queued is a class
pub next_below : (class_of : List ℕ) (lists : List (List Relation)) (last : List ℕ) (clocked marks : List Bool) (next : List ℕ) (marks' : List Bool) (n : ℕ)
    → Queues (IsNextTo (class_in class_of) lists last) clocked [] marks next marks' → All (All (HasEnds class_of)) lists → All (λ c. c < n) class_of → All (λ d. d < length lists) last → All (λ c. c < n) next
next_below class_of lists last clocked marks next marks' n q ends classes below k e within =
    let c = slice_index_or next k e in
    let r = ⊎_elim (λ none. absurd (omega (arith, none.1))) (λ r. r) (q.only c (k, within, get_or_default next k c e within)) in
    end_below c r.2
  where
    end_below : (c : ℕ) → IsNextTo (class_in class_of) lists last c → c < n
    end_below c (d, in_last, (r, touching, is)) =
        let bound : d < length lists = All-contains (λ d. d < length lists) last d below in_last in
        let has : HasEnds class_of r = All-contains (HasEnds class_of) (slice_index_or lists d []) r (ends d [] bound) touching in
        subst (λ x. x < n) is (by_test (class_in class_of r.result == d)
        (λ e. subst (λ b. (if b then class_in class_of r.argument else class_in class_of r.result) < n) (sym e) (classes r.argument 0 has.1))
        (λ f. subst (λ b. (if b then class_in class_of r.argument else class_in class_of r.result) < n) (sym f) (classes r.result 0 has.0)))

-- ---- rounds end

fewer_or_same : (a b : List Bool) → length b ≡ length a → ((c : ℕ) → marked a c ≡ true → marked b c ≡ true) → unmarked b ≤ unmarked a
fewer_or_same [] [] e h = omega arith
fewer_or_same [] (y ∷ b) e h = absurd (omega (arith, e))
fewer_or_same (x ∷ a) [] e h = absurd (omega (arith, e))
fewer_or_same (true ∷ a) (true ∷ b) e h = fewer_or_same a b (omega (arith, e)) (λ c t. h (suc c) t)
fewer_or_same (true ∷ a) (false ∷ b) e h = absurd (true_false (h 0 refl) refl)
fewer_or_same (false ∷ a) (true ∷ b) e h = let r = fewer_or_same a b (omega (arith, e)) (λ c t. h (suc c) t) in omega (arith, r)
fewer_or_same (false ∷ a) (false ∷ b) e h = let r = fewer_or_same a b (omega (arith, e)) (λ c t. h (suc c) t) in omega (arith, r)

pub fewer : (a b : List Bool) (k : ℕ) → length b ≡ length a → ((c : ℕ) → marked a c ≡ true → marked b c ≡ true) → marked a k ≡ false → marked b k ≡ true → unmarked b < unmarked a
fewer [] [] k e h f t = absurd (true_false t refl)
fewer [] (y ∷ b) k e h f t = absurd (omega (arith, e))
fewer (x ∷ a) [] k e h f t = absurd (omega (arith, e))
fewer (false ∷ a) (true ∷ b) zero e h f t = let r = fewer_or_same a b (omega (arith, e)) (λ c t. h (suc c) t) in omega (arith, r)
fewer (true ∷ a) (y ∷ b) zero e h f t = absurd (true_false refl f)
fewer (false ∷ a) (false ∷ b) zero e h f t = absurd (true_false t refl)
fewer (true ∷ a) (true ∷ b) (suc k) e h f t = fewer a b k (omega (arith, e)) (λ c t. h (suc c) t) f t
fewer (true ∷ a) (false ∷ b) (suc k) e h f t = absurd (true_false (h 0 refl) refl)
fewer (false ∷ a) (true ∷ b) (suc k) e h f t = let r = fewer a b k (omega (arith, e)) (λ c t. h (suc c) t) f t in omega (arith, r)
fewer (false ∷ a) (false ∷ b) (suc k) e h f t = let r = fewer a b k (omega (arith, e)) (λ c t. h (suc c) t) f t in omega (arith, r)

pub fewer_left : (Wanted : ℕ → Type 0) (clocked marks : List Bool) (next : List ℕ) (marks' : List Bool) → Queues Wanted clocked [] marks next marks' → unmarked marks' + length next ≤ unmarked marks + length next
fewer_left Wanted clocked marks next marks' q = let r = fewer_or_same marks marks' q.same_length q.still in omega (arith, r)

pub fewer_where : (Wanted : ℕ → Type 0) (clocked marks : List Bool) (next : List ℕ) (marks' : List Bool) → Queues Wanted clocked [] marks next marks' → 0 < length next → unmarked marks' < unmarked marks
fewer_where Wanted clocked marks next marks' q some =
    let c = get_or next 0 0 in
    let r = ⊎_elim (λ none. absurd (omega (arith, none.1))) (λ r. r) (q.only c (0, some, get_or_default next 0 c 0 some)) in
    fewer marks marks' c q.same_length q.still r.0 (q.all c r.2 r.1)

-- what is left of a round when there is nothing to take from
pub settles : (class_of : List ℕ) (clocked : List Bool) (relations : List Relation) (lists : List (List Relation)) (held : Held) (found : List Found) (marks : List Bool) (last : List ℕ)
    → length last ≡ 0 → (rounds : ℕ) → Stands class_of clocked relations lists (after_more (said_by class_of clocked relations) held rounds) found marks last
    → (lost : Option ℕ) → IsFirstLost (said_by class_of clocked relations) held rounds lost → (lost ≡ None → NoneLost found) → Settles (said_by class_of clocked relations) held found lost
settles class_of clocked relations lists held found marks last empty rounds s lost first kept = record {
  first = first;
  kept = kept;
  rounds = rounds;
  agree = s.agree;
  still = λ c. still c (some_or_none (now c)) (some_or_none (following (said_by class_of clocked relations) now c));
}
  where
    now : Held
    now = after_more (said_by class_of clocked relations) held rounds

    still : (c : ℕ) → ((p : Progression) × (now c ≡ Some p)) ⊎ (now c ≡ None) → ((p : Progression) × (following (said_by class_of clocked relations) now c ≡ Some p)) ⊎ (following (said_by class_of clocked relations) now c ≡ None)
        → following (said_by class_of clocked relations) now c ≡ now c
    still c (inl (p, e)) o = first_of_some (now c) (if_clocked (marked clocked c) (offered (class_in class_of) now relations c)) p e
    still c (inr e) (inl (p, new)) = let (d, in_last, more) = s.covers c p e new in absurd (omega (arith, in_last.1, empty))
    still c (inr e) (inr none) = none ∙ sym e

-- ---- what is kept at first stands for the clocks that are given
not_if_none : (f : Found) → (f ≢ Not → ⊥) → f ≡ Not
not_if_none Not h = refl
not_if_none (Kept g) h = absurd (h (λ e. absurd cc))
not_if_none Lost h = absurd (h (λ e. absurd cc))

pub stands_start : (class_of : List ℕ) (clocked : List Bool) (relations : List Relation) (lists : List (List Relation)) (held : Held) (found : List Found) (marks : List Bool) (first : List ℕ)
    → Agree found held → ((c : ℕ) → (marked marks c ≡ true) ↔ (found_of found c ≢ Not)) → ((c : ℕ) → Contains first c ↔ (marked marks c ≡ true))
    → AreTouching class_of relations lists → All (HasEnds class_of) relations → All (λ c. c < length lists) class_of
    → Stands class_of clocked relations lists held found marks first
stands_start class_of clocked relations lists held found marks first agree marks_are first_is touching ends classes = record {
  agree = agree;
  has = λ c t. (marks_are c).0 t;
  has_not = λ c f. not_if_none (found_of found c) (λ some. true_false ((marks_are c).1 some) f);
  last_has = λ k d within. (marks_are (slice_index_or first k d)).0 ((first_is (slice_index_or first k d)).0 (k, within, get_or_default first k (slice_index_or first k d) d within));
  covers = λ c p none takes_it.
      let offers = offered (class_in class_of) held relations c in
      let new = if_clocked_is (marked clocked c) offers p (sym (first_of_none (held c) (if_clocked (marked clocked c) offers) none) ∙ takes_it) in
      let (r, within, (d, between, (x, has))) = offered_from (class_in class_of) held relations c p new.1 in
      let there : Contains first d = (first_is d).1 ((marks_are d).1 (kept_is (found_of found d) (held d) x has (agree d))) in
      let apart : c ≡ d → ⊥ = λ e. none_some (sym none ∙ ap held e ∙ has) in
      let end = All-contains (HasEnds class_of) relations r ends within in
      let bound : d < length lists = ⊎_elim (λ e. subst (λ y. y < length lists) e.1 (classes r.argument 0 end.1)) (λ e. subst (λ y. y < length lists) e.1 (classes r.result 0 end.0)) between.ends in (
        d,
        there,
        (
          r,
          subst (λ l. Contains l r) (sym (touching d bound)) (contains_filter (touches (class_in class_of) d) relations r within (between_touches (class_in class_of) c d r between)),
          end_between (class_in class_of) c d r between apart,
        ),
      );
}
