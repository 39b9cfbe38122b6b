-- Pieces taken by themselves from one base are taken one behind the other.
use Rattle.std.proofs.Common.{◌≡◌, refl, ap, ◌∙◌, sym, subst, ℕ, zero, suc, ◌+◌, ◌<◌, List, [], ◌∷◌, ◌++◌, Some, None, slice_get, ◌⊎◌, inl, inr, arith}
use Rattle.std.proofs.lemmas.Option.{none-some, same_Some}
use Rattle.flat_model.specs.declared.equation.Equation.TheVariants.{Valued}
use Rattle.flat_model.specs.Assignment.{Assignment}
use Rattle.flat_model.specs.Given.{Row}
use Rattle.flat_model.specs.Setting.{Setting}
use Rattle.flat_model.specs.Uses.{Use}
use Rattle.moment_theory.specs.Division.{joined}
use Rattle.moment_theory.specs.Free.{IsReachedBy, IsFree, AreFree, IsOrdered}
use Rattle.moment_theory.specs.Pieces.{Needs, AreApart, AreTakenAlone, AreBeside}
use Rattle.moment_theory.specs.Taken.{AreInputs, AreTaken}
use Rattle.moment_theory.proofs.Apart.{HoldsNeeds, append_taken}
use Rattle.moment_theory.proofs.Beside as beside
use Rattle.moment_theory.proofs.Beside.{HasEach, Together, all_beside, reached_either, reached_first, reached_second, regroup}
use Rattle.moment_theory.proofs.Facts.{UseFacts, facts_of_use, free_uses}
use Rattle.moment_theory.proofs.FromRunnable.{facts_of}
use Rattle.moment_theory.proofs.GivenByOrder.{inputs_clear, inputs_sound}
use Rattle.moment_theory.proofs.Members.{IsMember, member_contains, member_reached}
use Rattle.moment_theory.proofs.Ordered.{IsFreeUse, AreFreeUses}
use Rattle.moment_theory.proofs.Running.{IsReady}
use Rattle.moment_theory.proofs.Settled.{model}
use Rattle.moment_theory.proofs.Taking.{over, unchanged, taken_sound}
use Rattle.moment_theory.proofs.Transfer as transfer
use Rattle.moment_theory.proofs.Transfer.{IsSound}

-- ---- parts of a free order

fewer_free : (s : Setting) (entry : Use) (later fewer : List Use) → ((y : ℕ) → IsReachedBy y fewer → IsReachedBy y later) → IsFree s entry later → IsFree s entry fewer
fewer_free s entry later fewer within free = record {
  reads = λ y reads reached. free.reads y reads (within y reached);
  sites = λ class y asks reads reached. free.sites class y asks reads (elim reached [
    | inl is ↦ inl is
    | inr h ↦ inr (within y h)
  ]);
  once = λ reached. free.once (within entry.name reached);
}

pub free_front : (s : Setting) (xs ys : List Use) → AreFree s (xs ++ ys) → AreFree s xs
free_front s [] ys free = tt
free_front s (x ∷ xs) ys free = (fewer_free s x (xs ++ ys) xs (λ y h. reached_first xs ys y h) free.0, free_front s xs ys free.1)

pub free_back : (s : Setting) (xs ys : List Use) → AreFree s (xs ++ ys) → AreFree s ys
free_back s [] ys free = free
free_back s (x ∷ xs) ys free = free_back s xs ys free.1

-- what the front reaches, the back does not
pub reached_twice : (s : Setting) (xs ys : List Use) → AreFree s (xs ++ ys) → (y : ℕ) → IsReachedBy y xs → IsReachedBy y ys → ⊥
reached_twice s [] ys free y one two = one
reached_twice s (x ∷ xs) ys free y (inl is) two = free.0.once (subst (λ z. IsReachedBy z (xs ++ ys)) is (reached_second xs ys y two))
reached_twice s (x ∷ xs) ys free y (inr one) two = reached_twice s xs ys free.1 y one two

from_zero : (k : ℕ) → k ≡ 0 + k
from_zero k = omega arith

-- the needs of a use, in the words of the definition
needs_of : (s : Setting) (entry : Use) (later : List Use) (free : IsFreeUse s entry later) (y : ℕ) → transfer.Needs s entry later free y → Needs s entry y
needs_of s entry later free y (inl (other, inl reads)) = inl (other, (Valued free.left free.right free.clause, free.equation_is, inl reads))
needs_of s entry later free y (inl (other, inr reads)) = inl (other, (Valued free.left free.right free.clause, free.equation_is, inr reads))
needs_of s entry later free y (inr (inl reads)) = inr (_, inl refl, reads)
needs_of s entry later free y (inr (inr (z, asks, reads))) = inr (_, inr (Valued free.left free.right free.clause, z, free.equation_is, asks, refl), reads)

module _ (s : Setting) (uses first rest : List Use) (pieces : List (List Use)) (is : IsOrdered s uses (first ++ (joined pieces ++ rest))) (apart : AreApart s pieces)
    (S : Assignment) (m : ℕ) (inputs base : Row) (are : AreInputs s m inputs) (taken : AreTaken s S m first inputs base) (owns : ℕ → Row) (alone : AreTakenAlone s S m base owns pieces) where
  abbrev order : List Use
  order = first ++ (joined pieces ++ rest)

  abbrev settled : IsReady s order
  settled = model s uses order is

  facts_in : (entry : Use) → IsMember entry order → UseFacts s entry
  facts_in entry member = facts_of_use s uses is.uses_are.uses_are entry (is.same.only entry (member_contains entry order member))

  back_free : AreFree s (joined pieces ++ rest)
  back_free = free_back s first (joined pieces ++ rest) is.free

  pieces_free : AreFree s (joined pieces)
  pieces_free = free_front s (joined pieces) rest back_free

  member_of : (xs ys : List Use) (entry : Use) → IsMember entry ys → IsMember entry (xs ++ ys)
  member_of [] ys entry h = h
  member_of (x ∷ xs) ys entry h = inr (member_of xs ys entry h)

  member_front : (xs ys : List Use) (entry : Use) → IsMember entry xs → IsMember entry (xs ++ ys)
  member_front [] ys entry h = absurd h
  member_front (x ∷ xs) ys entry (inl at) = inl at
  member_front (x ∷ xs) ys entry (inr h) = inr (member_front xs ys entry h)

  facts_first : (entry : Use) → IsMember entry first → UseFacts s entry
  facts_first entry member = facts_in entry (member_front first (joined pieces ++ rest) entry member)

  facts_pieces : (entry : Use) → IsMember entry (joined pieces) → UseFacts s entry
  facts_pieces entry member = facts_in entry (member_of first (joined pieces ++ rest) entry (member_front (joined pieces) rest entry member))

  first_order : AreFreeUses s first
  first_order = free_uses s (facts_of s is.runs) first facts_first (free_front s first (joined pieces ++ rest) is.free)

  base_sound : IsSound s (over s settled.unclocked S m base) m
  base_sound = taken_sound s settled.unclocked S m first inputs base first_order (inputs_clear s settled.unclocked settled.inputs S m first first_order inputs are) taken
      (inputs_sound s settled.unclocked settled.inputs S m first first_order inputs are)

  -- the base has no value of what the pieces reach
  base_clear : (y : ℕ) → IsReachedBy y (joined pieces) → base y ≡ None
  base_clear y reached =
      let later : IsReachedBy y (joined pieces ++ rest) = reached_first (joined pieces) rest y reached in
      unchanged s settled.unclocked S m first inputs base taken y (λ h. reached_twice s first (joined pieces ++ rest) is.free y h later)
      ∙ inputs_clear s settled.unclocked settled.inputs S m order settled.order inputs are y (reached_second first (joined pieces ++ rest) y later)

  -- what a piece reaches or needs
  abbrev N : ℕ → ℕ → Type 0
  N i y = (piece : List Use) × (entry : Use) × (slice_get pieces i ≡ Some piece) × IsMember entry piece × ((y ≡ entry.name) ⊎ Needs s entry y)

  holds_needs : (i : ℕ) (piece : List Use) → slice_get pieces i ≡ Some piece → (us : List Use) → ((entry : Use) → IsMember entry us → IsMember entry piece) → (free : AreFreeUses s us) → HoldsNeeds s (N i) us free
  holds_needs i piece found [] within free = tt
  holds_needs i piece found (entry ∷ us) within free = (
    (piece, entry, found, within entry (inl refl), inl refl),
    (λ y needs. (piece, entry, found, within entry (inl refl), inr (needs_of s entry us free.0 y needs))),
    holds_needs i piece found us (λ e h. within e (inr h)) free.1,
  )

  abbrev Apart : ℕ → List Use → List (List Use) → Type 0
  Apart = beside.AreApart s settled.unclocked S m base base_sound N owns

  same_place : (i j : ℕ) (xs ys : List Use) → slice_get pieces i ≡ Some xs → slice_get pieces j ≡ Some ys → i ≡ j → xs ≡ ys
  same_place i j xs ys one two same = same_Some xs ys (sym one ∙ ap (slice_get pieces) same ∙ two)

  -- a name of an earlier piece
  abbrev IsEarlier : ℕ → ℕ → Type 0
  IsEarlier i y = (j : ℕ) × (other : List Use) × (j < i) × (slice_get pieces j ≡ Some other) × IsReachedBy y other

  not_earlier : (i : ℕ) (y : ℕ) → N i y → IsEarlier i y → ⊥
  not_earlier i y (piece, entry, found, member, asks) (j, other, lt, there, reached) =
      apart i j piece other entry y (λ e. omega (arith, e, lt)) found there (member_contains entry piece member) asks reached

  apart_from : (i : ℕ) (others : List Use) (ps : List (List Use)) → ((y : ℕ) → IsReachedBy y others → IsEarlier i y) → ((k : ℕ) → slice_get ps k ≡ slice_get pieces (i + k))
      → AreFree s (others ++ joined ps) → ((entry : Use) → IsMember entry (others ++ joined ps) → UseFacts s entry) → ((y : ℕ) → IsReachedBy y (others ++ joined ps) → base y ≡ None) → Apart i others ps
  apart_from i others [] earlier places free known clear = tt
  apart_from i others (piece ∷ ps) earlier places free known clear = (
    record {
      order = own_order;
      clear = λ y reached. clear y (reached_second others (piece ++ joined ps) y (reached_first piece (joined ps) y reached));
      holds = holds_needs i piece found piece (λ entry h. h) own_order;
      own = λ y reached. let (entry, member, same) = member_reached piece y reached in (piece, entry, found, member, inl same);
      apart = λ y needs reached. not_earlier i y needs (earlier y reached);
      distinct = λ y reached reached_other.
          let (entry, member, same) = member_reached piece y reached in not_earlier i y (piece, entry, found, member, inl same) (earlier y reached_other);
      order_all = free_uses s (facts_of s is.runs) (others ++ piece) (λ entry member. known entry (subst (IsMember entry) (regroup others piece (joined ps)) (member_front (others ++ piece) (joined ps) entry member)))
          (free_front s (others ++ piece) (joined ps) grouped);
      clear_all = λ y reached. clear y (subst (IsReachedBy y) (regroup others piece (joined ps)) (reached_first (others ++ piece) (joined ps) y reached));
    },
    apart_from (suc i) (others ++ piece) ps (λ y reached. elim (reached_either others piece y reached) [
      | inl h ↦ let (j, other, lt, there, at) = earlier y h in (j, other, omega (arith, lt), there, at)
      | inr h ↦ (i, piece, omega arith, found, h)
    ]) (λ k. places (suc k) ∙ ap (slice_get pieces) (let e : i + suc k ≡ suc i + k = omega arith in e))
        grouped
        (λ entry member. known entry (subst (IsMember entry) (regroup others piece (joined ps)) member))
        (λ y reached. clear y (subst (IsReachedBy y) (regroup others piece (joined ps)) reached)),
  )
    where
      found : slice_get pieces i ≡ Some piece
      found = ap (slice_get pieces) (let e : i ≡ i + 0 = omega arith in e) ∙ sym (places 0)

      grouped : AreFree s ((others ++ piece) ++ joined ps)
      grouped = subst (AreFree s) (sym (regroup others piece (joined ps))) free

      own_order : AreFreeUses s piece
      own_order = free_uses s (facts_of s is.runs) piece
          (λ entry member. known entry (member_of others (piece ++ joined ps) entry (member_front piece (joined ps) entry member)))
          (free_front s piece (joined ps) (free_back s others (piece ++ joined ps) free))

  alone_from : (i : ℕ) (ps : List (List Use)) → ((k : ℕ) → slice_get ps k ≡ slice_get pieces (i + k)) → beside.AreAlone s settled.unclocked S m base base_sound N owns i ps
  alone_from i [] places = tt
  alone_from i (piece ∷ ps) places = (
    alone i piece (ap (slice_get pieces) (let e : i ≡ i + 0 = omega arith in e) ∙ sym (places 0)),
    alone_from (suc i) ps (λ k. places (suc k) ∙ ap (slice_get pieces) (let e : i + suc k ≡ suc i + k = omega arith in e)),
  )

  each_at : (i : ℕ) (ps : List (List Use)) (row : Row) → HasEach s settled.unclocked S m base base_sound N owns i ps row → (k : ℕ) (piece : List Use) (y : ℕ) → slice_get ps k ≡ Some piece → IsReachedBy y piece → row y ≡ owns (i + k) y
  each_at i [] row each k piece y found reached = absurd (none-some piece found)
  each_at i (p ∷ ps) row each zero piece y found reached =
      let same : p ≡ piece = same_Some p piece found in
      each.0 y (subst (IsReachedBy y) (sym same) reached) ∙ ap (λ n. owns n y) (let e : i ≡ i + 0 = omega arith in e)
  each_at i (p ∷ ps) row each (suc k) piece y found reached =
      each_at (suc i) ps row each.1 k piece y found reached ∙ ap (λ n. owns n y) (let e : suc i + k ≡ i + suc k = omega arith in e)

  together : Together s settled.unclocked S m base base_sound N owns 0 [] base pieces
  together = all_beside s settled.unclocked S m base base_sound N owns 0 pieces [] tt (λ y h. absurd h) base (λ y. refl)
      (apart_from 0 [] pieces (λ y h. absurd h) (λ k. ap (slice_get pieces) (from_zero k)) pieces_free facts_pieces base_clear) (alone_from 0 pieces (λ k. ap (slice_get pieces) (from_zero k)))

  pub pieces_beside : (row : Row) × AreTaken s S m (first ++ joined pieces) inputs row × AreBeside base owns pieces row
  pieces_beside = (
    together.row,
    append_taken s S m first (joined pieces) inputs base together.row taken together.taken,
    record {
      own = λ i piece y found reached. each_at 0 pieces together.row together.each i piece y found reached ∙ ap (λ n. owns n y) (sym (from_zero i));
      rest = together.kept;
    },
  )
