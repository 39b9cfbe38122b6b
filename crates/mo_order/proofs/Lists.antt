-- Rules that are answered for all values find one list of values.
use Rattle.std.proofs.Common.{◌≡◌, refl, ap, sym, ◌∙◌, subst, ℕ, zero, suc, ◌<◌, ◌⊎◌, inl, inr, List, [], ◌∷◌, length, Option, Some, None, slice_get, slice_set, arith}
use Rattle.sync_values.specs.declared.value.Value.{Value}
use Rattle.mo_order.specs.declared.queue.Given.{Given}
use Rattle.mo_order.specs.declared.queue.Given.TheVariants.{Gives, Waits, Never}
use Rattle.mo_order.specs.Values.{Slots, Rules, Larger, Answers, nothing, IsFound, AreAll, AreAnswered, OneListLaw}
use Rattle.mo_order.proofs.Places.{get_within, set_size, set_back}
use Rattle.mo_order.proofs.Queueing.{larger_self, no_value, long}

-- what is given from some values is given from all larger ones
grows : (rules : Rules) (a b : Slots) (x : ℕ) (v : Value) → AreAnswered rules → x < length a → Larger a b → rules a x ≡ Some v → rules b x ≡ Some v
grows rules a b x v are below larger gives = by told.0 told.1
  where
    told : (given : Given) × Answers rules a x given
    told = are a x below

    by : (given : Given) → Answers rules a x given → rules b x ≡ Some v
    by (Gives w) tells =
        let here = tells a (larger_self a) in
        let same : w ≡ v = cc (here, gives) in tells b larger ∙ ap Some same
    by (Waits m) tells = let here = tells.1 a (larger_self a) tells.0 in absurd (cc (here, gives))
    by Never tells = let here = tells a (larger_self a) in absurd (cc (here, gives))

module _ (rules : Rules) (count : ℕ) (are : AreAnswered rules) (all : Slots) (is : AreAll rules count all) where
  -- one value more that is found is there too
  found_more : (old : Slots) (x : ℕ) (v : Value) → Larger old all → rules old x ≡ Some v → slice_get old x ≡ Some None → Larger (slice_set old x (Some v)) all
  found_more old x v inner gives none = record { size = inner.size ∙ sym (set_size old x (Some v)); keeps = λ y w at. keeps y w (set_back old x (Some v) y (Some w) at) }
    where
      below : x < length old
      below = get_within old x None none

      given : slice_get all x ≡ Some (Some v)
      given = let size = is.size in let same = inner.size in is.closed x v (omega (arith, below, size, same)) (grows rules old all x v are below inner gives)

      keeps : (y : ℕ) (w : Value) → ((x ≡ y) × (Some v ≡ Some w)) ⊎ (slice_get old y ≡ Some (Some w)) → slice_get all y ≡ Some (Some w)
      keeps y w (inl this) = let e : v ≡ w = cc this.1 in ap (slice_get all) (sym this.0) ∙ given ∙ ap (λ u. Some (Some u)) e
      keeps y w (inr there) = inner.keeps y w there

  -- all that is found is in a list to which nothing can be added
  found_in : (slots : Slots) → IsFound rules count slots → Larger slots all
  found_in slots (IsFound.start) = record { size = is.size ∙ sym (long count None); keeps = λ x v at. absurd (no_value count x v at) }
  found_in slots (IsFound.more old x v found gives none) = found_more old x v (found_in old found) gives none

-- lists with the values of each other are equal
same_lists : (a b : Slots) → Larger a b → Larger b a → a ≡ b
same_lists [] [] one other = refl
same_lists [] (t ∷ b) one other = absurd (let size = one.size in omega (arith, size))
same_lists (s ∷ a) [] one other = absurd (let size = one.size in omega (arith, size))
same_lists (s ∷ a) (t ∷ b) one other = ap (λ u. u ∷ a) (first s t refl refl) ∙ ap (λ rest. t ∷ rest) (same_lists a b (inside s t a b one) (inside t s b a other))
  where
    inside : (p q : Option Value) (xs ys : Slots) → Larger (p ∷ xs) (q ∷ ys) → Larger xs ys
    inside p q xs ys larger = record { size = (let size = larger.size in omega (arith, size)); keeps = λ x v at. larger.keeps (suc x) v at }

    first : (p q : Option Value) → s ≡ p → t ≡ q → s ≡ t
    first None None e f = e ∙ sym f
    first (Some v) q e f = let at = one.keeps zero v (ap Some e) in sym (cc at)
    first None (Some w) e f = let at = other.keeps zero w (ap Some f) in cc at

pub one_list : OneListLaw
one_list rules count a b are one other =
    same_lists a b (found_in rules count are b other a one.found) (found_in rules count are a one b other.found)
