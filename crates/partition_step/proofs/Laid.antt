-- Uses laid out one by one.
use Rattle.std.proofs.Common.{◌≡◌, refl, ap, ◌∙◌, sym, subst, ℕ, zero, suc, ◌+◌, ◌<◌, ◌≤◌, Bool, List, [], ◌∷◌, ◌++◌, length, map, take, get_or, length-set, Some, None, is_none, slice_get, slice_set, ◌⊎◌, inl, inr, arith}
use Rattle.std.proofs.lemmas.Bool.{cases_eq}
use Rattle.std.proofs.lemmas.Option.{none-some, same_Some, slice_get-get_or}
use Rattle.flat_model.specs.declared.clock.Clock.{Clock}
use Rattle.flat_model.specs.declared.clock.Clocking.{Clocking}
use Rattle.flat_model.specs.declared.clock.Elapsed.{Elapsed}
use Rattle.flat_model.specs.declared.clock.Moment.{Moment}
use Rattle.eq_order.specs.declared.uses.Use.{Use}
use Rattle.eq_order.specs.Order.{use_of}
use Rattle.moment_theory.specs.Free.{IsReachedBy}
use Rattle.tree_step.specs.declared.frame.ClockNow.{ClockNow}
use Rattle.tree_step.specs.declared.taking.Entry.{Entry}
use Rattle.partition_step.specs.declared.part.ClassKept.{ClassKept}
use Rattle.partition_step.specs.private.Laying.{class_in, clock_in, new_class, entry_of, IsOpened, AreLaidOut, AreOnce}
use Rattle.partition_step.specs.private.Stepping.{elapsed_at, shown_clock, shown_from, shown_at}
use Rattle.partition_step.proofs.Lists.{WrittenTo, written_next, set_same, set_other}

-- ---- lists that grow

append_front : {A : Type 0} (xs ys : List A) (j : ℕ) (x : A) → slice_get xs j ≡ Some x → slice_get (xs ++ ys) j ≡ Some x
append_front [] ys j x found = absurd (none-some x found)
append_front (y ∷ xs) ys zero x found = found
append_front (y ∷ xs) ys (suc j) x found = append_front xs ys j x found

append_last : {A : Type 0} (xs : List A) (x : A) → slice_get (xs ++ x ∷ []) (length xs) ≡ Some x
append_last [] x = refl
append_last (y ∷ xs) x = append_last xs x

append_cases : {A : Type 0} (xs : List A) (y : A) (j : ℕ) (x : A) → slice_get (xs ++ y ∷ []) j ≡ Some x → (slice_get xs j ≡ Some x) ⊎ ((j ≡ length xs) × (x ≡ y))
append_cases [] y zero x found = inr (refl, sym (same_Some y x found))
append_cases [] y (suc j) x found = absurd (none-some x found)
append_cases (z ∷ xs) y zero x found = inl found
append_cases (z ∷ xs) y (suc j) x found = elim (append_cases xs y j x found) [ inl here ↦ inl here | inr last ↦ inr (ap suc last.0, last.1) ]

append_long : {A : Type 0} (xs : List A) (x : A) → length (xs ++ x ∷ []) ≡ length xs + 1
append_long [] x = refl
append_long (y ∷ xs) x = let rest = append_long xs x in omega (arith, rest)

pub map_next : {A B : Type 0} (f : A → B) (xs : List A) (i : ℕ) (x : A) → slice_get xs i ≡ Some x → map f (take (i + 1) xs) ≡ map f (take i xs) ++ f x ∷ []
map_next f [] i x found = absurd (none-some x found)
map_next f (y ∷ xs) zero x found = ap (λ z. f z ∷ []) (same_Some y x found)
map_next f (y ∷ xs) (suc i) x found =
    let step : suc i + 1 ≡ suc (i + 1) = omega arith in
    ap (λ n. map f (take n (y ∷ xs))) step ∙ ap (λ zs. f y ∷ zs) (map_next f xs i x found)

pub map_whole : {A B : Type 0} (f : A → B) (xs : List A) (i : ℕ) → length xs ≤ i → map f (take i xs) ≡ map f xs
map_whole f [] zero le = refl
map_whole f [] (suc i) le = refl
map_whole f (y ∷ xs) zero le = absurd (omega (arith, le))
map_whole f (y ∷ xs) (suc i) le = ap (λ zs. f y ∷ zs) (map_whole f xs i (omega (arith, le)))

-- ---- what is shown of one more class

pub told_next : (ticks : ℕ → Bool) (moment : Moment) (classes : List ClassKept) (old now : List ClockNow) (j : ℕ) (kept : ClassKept) (d : ClockNow) (t f : Bool) (i : Elapsed) → WrittenTo (shown_at ticks moment classes) old j now → j < length now
    → slice_get classes j ≡ Some kept → d ≡ get_or now j d → t ≡ ticks kept.class → f ≡ is_none kept.ticked → i ≡ elapsed_at kept.clock kept.ticked moment d.interval
    → WrittenTo (shown_at ticks moment classes) old (j + 1) (slice_set now j (record { ticks = t; first = f; interval = i }))
told_next ticks moment classes old now j kept d t f i written lt found d_is t_is f_is i_is =
    let told : record { ticks = t; first = f; interval = i } ≡ shown_clock ticks moment kept d = λ k. record { ticks = t_is k; first = f_is k; interval = i_is k } in
    written_next (shown_at ticks moment classes) old now j (record { ticks = t; first = f; interval = i }) d written lt
    (told ∙ ap (shown_clock ticks moment kept) d_is ∙ ap (λ o. shown_from ticks moment o (get_or now j d)) (sym found))

-- ---- one more use

module _ (clocking : Clocking) (uses : List Use) (i : ℕ) (entries : List Entry) (classes : List ClassKept) (laid : AreLaidOut clocking uses i entries classes) (new_use : Use) (found : slice_get uses i ≡ Some new_use) where
  abbrev kept : ClassKept
  kept = new_class clocking (class_in clocking new_use.equation)

  module _ (place : ℕ) (after : List ClassKept) (stays : (j : ℕ) (k : ClassKept) → slice_get classes j ≡ Some k → slice_get after j ≡ Some k) (there : slice_get after place ≡ Some kept)
      (fresh : (j : ℕ) (k : ClassKept) → slice_get after j ≡ Some k → (n : ℕ) × (taken : Use) × (slice_get uses n ≡ Some taken) × (k ≡ new_class clocking (class_in clocking taken.equation))) where
    lay_with : AreLaidOut clocking uses (i + 1) (entries ++ entry_of new_use place ∷ []) after
    lay_with = record {
      size = let size = laid.size in let long = append_long entries (entry_of new_use place) in omega (arith, size, long);
      each = λ j entry entry_found. elim (append_cases entries (entry_of new_use place) j entry entry_found) [
        | inl here ↦ let (taken, taken_found, is, class) = laid.each j entry here in (taken, taken_found, is, stays entry.clock (new_class clocking (class_in clocking taken.equation)) class)
        | inr last ↦ (
          new_use,
          ap (slice_get uses) (last.0 ∙ laid.size) ∙ found,
          last.1 ∙ ap (λ e. entry_of new_use e.clock) (sym last.1),
          ap (λ e. slice_get after e.clock) last.1 ∙ there,
        )
      ];
      fresh = fresh;
    }

  pub lay_next : (place : ℕ) (after : List ClassKept) → IsOpened classes kept after place → AreLaidOut clocking uses (i + 1) (entries ++ entry_of new_use place ∷ []) after
  lay_next place after (inl ((old, old_found, same), after_is)) =
      let (n, taken, taken_found, old_is) = laid.fresh place old old_found in
      let class : class_in clocking taken.equation ≡ class_in clocking new_use.equation = ap (λ k. k.class) (sym old_is) ∙ same in
      lay_with place after
      (λ j k at. ap (λ ks. slice_get ks j) after_is ∙ at)
      (ap (λ ks. slice_get ks place) after_is ∙ old_found ∙ ap Some (old_is ∙ ap (new_class clocking) class))
      (λ j k at. laid.fresh j k (ap (λ ks. slice_get ks j) (sym after_is) ∙ at))
  lay_next place after (inr (place_is, after_is)) =
      lay_with place after
      (λ j k at. ap (λ ks. slice_get ks j) after_is ∙ append_front classes (kept ∷ []) j k at)
      (ap (λ ks. slice_get ks place) after_is ∙ ap (slice_get (classes ++ kept ∷ [])) place_is ∙ append_last classes kept)
      (λ j k at. elim (append_cases classes kept j k (ap (λ ks. slice_get ks j) (sym after_is) ∙ at)) [
        | inl here ↦ laid.fresh j k here
        | inr last ↦ (i, new_use, found, last.1)
      ])

pub lay_turn : (clocking : Clocking) (uses : List Use) (i : ℕ) (entries : List Entry) (classes : List ClassKept) → AreLaidOut clocking uses i entries classes → (d : Use) → i < length uses
    → (class : ℕ) (clock : Clock) (place : ℕ) (after : List ClassKept) (more : List Entry) → class ≡ class_in clocking (get_or uses i d).equation → clock ≡ clock_in clocking class
    → IsOpened classes (record { class = class; clock = clock; ticked = None }) after place → more ≡ entries ++ entry_of (get_or uses i d) place ∷ [] → AreLaidOut clocking uses (i + 1) more after
lay_turn clocking uses i entries classes laid d lt class clock place after more class_is clock_is opened more_is =
    let kept_is : record { class = class; clock = clock; ticked = None } ≡ new_class clocking (class_in clocking (get_or uses i d).equation) =
    λ k. record { class = class_is k; clock = (clock_is ∙ ap (clock_in clocking) class_is) k; ticked = None } in
    subst (λ es. AreLaidOut clocking uses (i + 1) es after) (sym more_is)
    (lay_next clocking uses i entries classes laid (get_or uses i d) (slice_get-get_or uses i d lt) place after (subst (λ k. IsOpened classes k after place) kept_is opened))

pub lay_first : (clocking : Clocking) (uses : List Use) → AreLaidOut clocking uses 0 [] []
lay_first clocking uses = record { size = refl; each = λ j entry found. absurd (none-some entry found); fresh = λ j k found. absurd (none-some k found) }

-- ---- places of names

pub record PlacedTo (uses : List Use) (old : List ℕ) (i : ℕ) (now : List ℕ) : Type 0 where
  pub own : AreOnce uses → (j : ℕ) (entry : Use) → j < i → slice_get uses j ≡ Some entry → entry.name < length old → slice_get now entry.name ≡ Some j
  pub rest : (x : ℕ) → (IsReachedBy x (map use_of uses) → ⊥) → slice_get now x ≡ slice_get old x
  pub size : length now ≡ length old

pub placed_first : (uses : List Use) (old : List ℕ) → PlacedTo uses old 0 old
placed_first uses old = record { own = λ once j entry lt found within. absurd (omega (arith, lt)); rest = λ x other. refl; size = refl }

reached_at : (uses : List Use) (i : ℕ) (u : Use) → slice_get uses i ≡ Some u → IsReachedBy u.name (map use_of uses)
reached_at [] i u found = absurd (none-some u found)
reached_at (first ∷ uses) zero u found = inl (ap (λ d. d.name) (sym (same_Some first u found)))
reached_at (first ∷ uses) (suc i) u found = inr (reached_at uses i u found)

pub placed_next : (uses : List Use) (old now : List ℕ) (i : ℕ) (u : Use) → PlacedTo uses old i now → slice_get uses i ≡ Some u → PlacedTo uses old (i + 1) (slice_set now u.name i)
placed_next uses old now i u placed found = record {
  own = λ once j entry lt entry_found within. elim (cases_eq j i) [
    | inl here ↦
        let same : entry ≡ u = same_Some entry u (sym entry_found ∙ ap (slice_get uses) here ∙ found) in
        subst (λ k. slice_get (slice_set now u.name i) k ≡ Some j) (sym (ap (λ d. d.name) same))
        (set_same now u.name i (let size = placed.size in let below : u.name < length old = subst (λ k. k < length old) (ap (λ d. d.name) same) within in omega (arith, size, below)) ∙ ap Some (sym here))
    | inr other ↦ set_other now u.name entry.name i (λ same. other (once j i entry u entry_found found same)) ∙ placed.own once j entry (omega (arith, lt, other)) entry_found within
  ];
  rest = λ x other. set_other now u.name x i (λ same. other (subst (λ k. IsReachedBy k (map use_of uses)) (sym same) (reached_at uses i u found))) ∙ placed.rest x other;
  size = length-set now u.name i ∙ placed.size;
}

pub placed_turn : (uses : List Use) (old now : List ℕ) (i : ℕ) (d : Use) (new : List ℕ) → PlacedTo uses old i now → i < length uses → new ≡ slice_set now (get_or uses i d).name i → PlacedTo uses old (i + 1) new
placed_turn uses old now i d new placed lt is = subst (PlacedTo uses old (i + 1)) (sym is) (placed_next uses old now i (get_or uses i d) placed (slice_get-get_or uses i d lt))
