-- Slots that were stepped one after the other, or in two parts.
use Rattle.std.proofs.Common.{◌≡◌, refl, ap, sym, ◌∙◌, subst, ℕ, ◌+◌, ◌-◌, ◌<◌, ◌≤◌, ◌⊎◌, inl, inr, List, ◌++◌, length, get_or, set, arith, length-append, length-set}
use Rattle.std.proofs.lemmas.Bool.{cases_lt}
use Rattle.std.proofs.lemmas.List.{get_or-set_same, get_or-set_other, get_or_default, get_or_append_left, get_or-append_right}
use Rattle.fork_steps.specs.declared.slot.Slot.{Slot}
use Rattle.fork_steps.specs.Stepping.{IsReady, AreReady, IsStepped, AreStepped}

-- the slots before a place were stepped, and the others are unchanged
pub record AreSteppedTo {T : Type 0} (stepped : T → T → Type 0) (place : ℕ) (old new : List (Slot T)) : Type 0 where
  pub long : length new ≡ length old
  pub ahead : (i : ℕ) (d : Slot T) → place ≤ i → get_or new i d ≡ get_or old i d
  pub each : (i : ℕ) (d : Slot T) → i < place → IsStepped stepped (get_or old i d) (get_or new i d)

module _ {T : Type 0} (stepped : T → T → Type 0) where
  pub stepped_none : (old : List (Slot T)) → AreSteppedTo stepped 0 old old
  stepped_none old = record { long = refl; ahead = λ i d le. refl; each = λ i d lt. absurd (omega (arith, lt)) }

  pub stepped_next : (old now : List (Slot T)) (k : ℕ) (e slot : Slot T) → AreSteppedTo stepped k old now → k < length now → IsStepped stepped (get_or now k e) slot
      → AreSteppedTo stepped (k + 1) old (set now k slot)
  stepped_next old now k e slot before lt is = record {
    long = length-set now k slot ∙ before.long;
    ahead = λ i d le. get_or-set_other now k i slot d (λ same. omega (arith, same, le)) ∙ before.ahead i d (omega (arith, le));
    each = λ i d less. by_place i d (cases_lt i k) less;
  }
    where
      here : (d : Slot T) → IsStepped stepped (get_or old k d) slot
      here d = subst (λ x. IsStepped stepped x slot) (get_or_default now k e d lt ∙ before.ahead k d (omega arith)) is

      by_place : (i : ℕ) (d : Slot T) → (i < k) ⊎ (k ≤ i) → i < k + 1 → IsStepped stepped (get_or old i d) (get_or (set now k slot) i d)
      by_place i d (inl low) less = subst (IsStepped stepped (get_or old i d)) (sym (get_or-set_other now k i slot d (λ same. omega (arith, same, low)))) (before.each i d low)
      by_place i d (inr high) less =
          let same : k ≡ i = omega (arith, high, less) in
          subst (λ j. IsStepped stepped (get_or old j d) (get_or (set now k slot) j d)) same (subst (IsStepped stepped (get_or old k d)) (sym (get_or-set_same now k slot d lt)) (here d))

  pub stepped_all : (old new : List (Slot T)) (k : ℕ) → length old ≤ k → AreSteppedTo stepped k old new → AreStepped stepped old new
  stepped_all old new k le are = record { long = are.long; each = λ i d lt. are.each i d (omega (arith, le, lt)) }

  -- the slot at a place is ready
  pub ready_at : (can : T → Type 0) (old now : List (Slot T)) (k : ℕ) (e : Slot T) → AreReady can old → AreSteppedTo stepped k old now → k < length now → IsReady can (get_or now k e)
  ready_at can old now k e ready before lt =
      let long = before.long in subst (IsReady can) (sym (before.ahead k e (omega arith))) (ready k e (omega (arith, lt, long)))

  -- two parts that were stepped are the whole
  pub stepped_both : (old new a b x y : List (Slot T)) → old ≡ a ++ b → new ≡ x ++ y → AreStepped stepped a x → AreStepped stepped b y → AreStepped stepped old new
  stepped_both old new a b x y old_is new_is front back =
      subst (λ o. AreStepped stepped o new) (sym old_is) (subst (AreStepped stepped (a ++ b)) (sym new_is) (record { long = both_long; each = λ i d lt. by_part i d lt (cases_lt i (length a)) }))
    where
      both_long : length (x ++ y) ≡ length (a ++ b)
      both_long = let f = front.long in let g = back.long in omega (arith, length-append x y, length-append a b, f, g)

      by_part : (i : ℕ) (d : Slot T) → i < length (a ++ b) → (i < length a) ⊎ (length a ≤ i) → IsStepped stepped (get_or (a ++ b) i d) (get_or (x ++ y) i d)
      by_part i d lt (inl low) =
          let f = front.long in
          subst (λ o. IsStepped stepped o (get_or (x ++ y) i d)) (sym (get_or_append_left a b d i low))
          (subst (IsStepped stepped (get_or a i d)) (sym (get_or_append_left x y d i (omega (arith, low, f)))) (front.each i d low))
      by_part i d lt (inr high) =
          let f = front.long in
          let whole = length-append a b in
          let right_x : get_or (x ++ y) i d ≡ get_or y (i - length a) d = get_or-append_right x y (length a) i d f high in
          let right_a : get_or (a ++ b) i d ≡ get_or b (i - length a) d = get_or-append_right a b (length a) i d refl high in
          subst (λ o. IsStepped stepped o (get_or (x ++ y) i d)) (sym right_a) (subst (IsStepped stepped (get_or b (i - length a) d)) (sym right_x) (back.each (i - length a) d (omega (arith, high, lt, whole))))

pub ready_front : {T : Type 0} (can : T → Type 0) (old a b : List (Slot T)) → old ≡ a ++ b → AreReady can old → AreReady can a
ready_front can old a b is ready i d lt = subst (IsReady can) (ap (λ o. get_or o i d) is ∙ get_or_append_left a b d i lt) (ready i d (omega (arith, lt, ap length is, length-append a b)))

pub ready_back : {T : Type 0} (can : T → Type 0) (old a b : List (Slot T)) → old ≡ a ++ b → AreReady can old → AreReady can b
ready_back can old a b is ready i d lt =
    let far : get_or (a ++ b) (length a + i) d ≡ get_or b (length a + i - length a) d = get_or-append_right a b (length a) (length a + i) d refl (omega arith) in
    let near : get_or b (length a + i - length a) d ≡ get_or b i d = ap (λ j. get_or b j d) (omega arith) in
    subst (IsReady can) (ap (λ o. get_or o (length a + i) d) is ∙ far ∙ near) (ready (length a + i) d (omega (arith, lt, ap length is, length-append a b)))
