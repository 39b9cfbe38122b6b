-- The units of uses, one after the other.
use Rattle.std.proofs.Common.{◌≡◌, refl, ap, ap₂, sym, subst, ◌∙◌, ℕ, zero, suc, ◌+◌, ◌<◌, nat_lt, Bool, true, false, List, [], ◌∷◌, ◌++◌, length, take, Option, Some, None, slice_get, if◌then◌else◌, inl, inr, arith}
use Rattle.std.specs.Prelude.{count_by, cond}
use Rattle.std.proofs.lemmas.Bool.{cases_lt}
use Rattle.std.proofs.lemmas.Bool.{ltb-true}
use Rattle.std.proofs.lemmas.Option.{none-some, same_Some, slice_get_past, slice_get_within, get_or_from_slice_get}
use Rattle.std.proofs.lemmas.List.{take_all}
use Rattle.std.proofs.lemmas.List.Sums.{sum_by_more, sum_by-cons, sum_by-take-le}
use Rattle.flat_model.specs.Setting.{flattened}
use Rattle.moment_order.specs.declared.stage.Stage.{Stage}
use Rattle.moment_order.specs.declared.stage.Stage.TheVariants.{Pure, Partition, Waiting}
use Rattle.part_groups.specs.Units.{is_waiting, waiting_before, unit_in, unit_of, unit_count}
use Rattle.part_groups.specs.private.Owners.{AreUnits}

pub get_push_last : {A : Type 0} (xs : List A) (y : A) (i : ℕ) → length xs ≡ i → slice_get (xs ++ y ∷ []) i ≡ Some y
get_push_last [] y zero is = refl
get_push_last [] y (suc i) is = absurd (omega (arith, is))
get_push_last (x ∷ xs) y zero is = absurd (omega (arith, is))
get_push_last (x ∷ xs) y (suc i) is = get_push_last xs y i (omega (arith, is))

pub get_push_before : {A : Type 0} (xs : List A) (y : A) (i : ℕ) → i < length xs → slice_get (xs ++ y ∷ []) i ≡ slice_get xs i
get_push_before [] y i lt = absurd (omega (arith, lt))
get_push_before (x ∷ xs) y zero lt = refl
get_push_before (x ∷ xs) y (suc i) lt = get_push_before xs y i (omega (arith, lt))

one_waits : (stage : Stage) → count_by is_waiting (stage ∷ []) ≡ cond (is_waiting stage) 1 0
one_waits stage = sum_by-cons (λ s. cond (is_waiting s) 1 0) stage [] ∙ omega arith

pub waiting_more : (stages : List Stage) (i : ℕ) (stage : Stage) → slice_get stages i ≡ Some stage → waiting_before stages (i + 1) ≡ waiting_before stages i + count_by is_waiting (stage ∷ [])
waiting_more stages i stage found =
    sum_by_more (λ s. cond (is_waiting s) 1 0) stages i stage (slice_get_within stages i stage found)
    ∙ ap (λ s. waiting_before stages i + cond (is_waiting s) 1 0) (get_or_from_slice_get stages i stage stage found)
    ∙ ap (λ n. waiting_before stages i + n) (sym (one_waits stage))

-- the units of the first stages, and the next one
pub record UnitsTo (count : ℕ) (stages : List Stage) (i : ℕ) (of_use : List (Option ℕ)) (next : ℕ) : Type 0 where
  pub size : length of_use ≡ i
  pub next_is : next ≡ count + waiting_before stages i
  pub each : (j : ℕ) → j < i → slice_get of_use j ≡ Some (unit_of count stages j)

pub units_more : (count : ℕ) (stages : List Stage) (i next after : ℕ) (stage : Stage) (unit : Option ℕ) (old new : List (Option ℕ)) → slice_get stages i ≡ Some stage → UnitsTo count stages i old next
    → unit ≡ unit_in count next (Some stage) → new ≡ old ++ unit ∷ [] → after ≡ next + count_by is_waiting (stage ∷ []) → UnitsTo count stages (i + 1) new after
units_more count stages i next after stage unit old new found so unit_is new_is after_is = record {
  size = ap length new_is ∙ longer old ∙ (let size = so.size in omega (arith, size));
  next_is = after_is ∙ ap (λ n. n + count_by is_waiting (stage ∷ [])) so.next_is ∙ (let more = waiting_more stages i stage found in omega (arith, more));
  each = λ j lt. elim (cases_lt j i) [
    | inl before ↦ ap (λ us. slice_get us j) new_is ∙ get_push_before old unit j (let size = so.size in omega (arith, before, size)) ∙ so.each j before
    | inr behind ↦ subst (λ k. slice_get new k ≡ Some (unit_of count stages k)) (let same : i ≡ j = omega (arith, lt, behind) in same) here
  ];
}
  where
    longer : (us : List (Option ℕ)) → length (us ++ unit ∷ []) ≡ suc (length us)
    longer [] = omega arith
    longer (u ∷ us) = ap suc (longer us)

    here : slice_get new i ≡ Some (unit_of count stages i)
    here = ap (λ us. slice_get us i) new_is ∙ get_push_last old unit i so.size ∙ ap Some (unit_is ∙ ap₂ (unit_in count) so.next_is (sym found))

pub units_all : (count : ℕ) (stages : List Stage) (i : ℕ) (of_use : List (Option ℕ)) (total : ℕ) → UnitsTo count stages i of_use total → i ≡ length stages → AreUnits count stages of_use total
units_all count stages i of_use total so all = record {
  each = λ j. elim (cases_lt j i) [
    | inl within ↦ ap flattened (so.each j within)
    | inr past ↦ ap flattened (slice_get_past of_use j (let size = so.size in omega (arith, past, size))) ∙ sym (ap (unit_in count (count + waiting_before stages j)) (slice_get_past stages j (omega (arith, past, all))))
  ];
  total_is = so.next_is ∙ ap (λ ss. count + count_by is_waiting ss) (take_whole stages i all);
}
  where
    take_whole : (ss : List Stage) (n : ℕ) → n ≡ length ss → take n ss ≡ ss
    take_whole ss n is = take_all n ss (omega (arith, is))

-- a unit is one of those that there are
pub unit_below : (count : ℕ) (stages : List Stage) (i a : ℕ) → unit_of count stages i ≡ Some a → a < unit_count count stages
unit_below count stages i a is = by_stage (slice_get stages i) refl is
  where
    by_part : (k : ℕ) (b : Bool) → nat_lt k count ≡ b → (if b then Some k else None) ≡ Some a → a < unit_count count stages
    by_part k true less e = let lt = ltb-true k count less in let same = same_Some k a e in omega (arith, lt, same)
    by_part k false less e = absurd (none-some a e)

    by_stage : (o : Option Stage) → slice_get stages i ≡ o → unit_in count (count + waiting_before stages i) o ≡ Some a → a < unit_count count stages
    by_stage None found e = absurd (none-some a e)
    by_stage (Some Pure) found e = absurd (none-some a e)
    by_stage (Some (Partition k)) found e = by_part k (nat_lt k count) refl e
    by_stage (Some Waiting) found e =
        let more = waiting_more stages i Waiting found in
        let one = one_waits Waiting in
        let less = sum_by-take-le (λ s. cond (is_waiting s) 1 0) stages (i + 1) in
        let same = same_Some (count + waiting_before stages i) a e in
        omega (arith, more, one, less, same)
