-- Free orders put together, and parts of them.
use Rattle.std.proofs.Common.{◌≡◌, refl, sym, subst, ℕ, suc, ◌<◌, List, [], ◌∷◌, ◌++◌, Some, slice_get, ◌⊎◌, inl, inr, arith}
use Rattle.std.proofs.lemmas.Bool.{cases_eq}
use Rattle.flat_model.specs.Setting.{Setting}
use Rattle.flat_model.specs.Uses.{Use}
use Rattle.moment_theory.specs.Division.{joined}
use Rattle.moment_theory.specs.Free.{IsReachedBy, IsFree, AreFree}
use Rattle.moment_theory.specs.Pieces.{Needs}
use Rattle.moment_theory.proofs.Beside.{reached_either, reached_second}
use Rattle.moment_theory.proofs.Members.{IsMember, member_reached, reached_member}
use Rattle.moment_join.proofs.Fronts.{reached_piece}

-- what a use needs or reaches
abbrev pub Touches : Setting → Use → ℕ → Type 0
Touches s entry y = (y ≡ entry.name) ⊎ Needs s entry y

-- nothing of some uses touches what others reach
abbrev pub Clear : Setting → List Use → List Use → Type 0
Clear s xs ys = (entry : Use) (y : ℕ) → IsMember entry xs → Touches s entry y → IsReachedBy y ys → ⊥

free_more : (s : Setting) (entry : Use) (xs ys : List Use) → IsFree s entry xs → ((y : ℕ) → Touches s entry y → IsReachedBy y ys → ⊥) → IsFree s entry (xs ++ ys)
free_more s entry xs ys free clear = record {
  reads = λ y reads reached. elim (reached_either xs ys y reached) [
    | inl own ↦ free.reads y reads own
    | inr other ↦ elim (cases_eq y entry.name) [
      | inl same ↦ clear y (inl same) other
      | inr apart ↦ clear y (inr (inl (apart, reads))) other
    ]
  ];
  sites = λ class y asks reads reached. elim reached [
    | inl same ↦ free.sites class y asks reads (inl same)
    | inr behind ↦ elim (reached_either xs ys y behind) [
      | inl own ↦ free.sites class y asks reads (inr own)
      | inr other ↦ clear y (inr (inr (class, asks, reads))) other
    ]
  ];
  once = λ reached. elim (reached_either xs ys entry.name reached) [
    | inl own ↦ free.once own
    | inr other ↦ clear entry.name (inl refl) other
  ];
}

pub free_append : (s : Setting) (xs ys : List Use) → AreFree s xs → AreFree s ys → Clear s xs ys → AreFree s (xs ++ ys)
free_append s [] ys one two clear = two
free_append s (x ∷ xs) ys (free, one) two clear = (
  free_more s x xs ys free (λ y touches reached. clear x y (inl refl) touches reached),
  free_append s xs ys one two (λ entry y member touches reached. clear entry y (inr member) touches reached),
)

-- what a front touches, what is behind it does not reach
pub front_clear : (s : Setting) (xs ys : List Use) → AreFree s (xs ++ ys) → Clear s xs ys
front_clear s [] ys free entry y member touches reached = absurd member
front_clear s (x ∷ xs) ys free entry y (inr member) touches reached = front_clear s xs ys free.1 entry y member touches reached
front_clear s (x ∷ xs) ys free entry y (inl is) touches reached = own (subst (λ e. Touches s e y) (sym is) touches)
  where
    own : Touches s x y → ⊥
    own (inl same) = free.0.once (subst (λ z. IsReachedBy z (xs ++ ys)) same (reached_second xs ys y reached))
    own (inr (inl (apart, reads))) = free.0.reads y reads (reached_second xs ys y reached)
    own (inr (inr (class, asks, reads))) = free.0.sites class y asks reads (inr (reached_second xs ys y reached))

-- a use that is free of some is free of fewer
pub free_of_fewer : (s : Setting) (entry : Use) (more fewer : List Use) → ((y : ℕ) → IsReachedBy y fewer → IsReachedBy y more) → IsFree s entry more → IsFree s entry fewer
free_of_fewer s entry more fewer within free = record {
  reads = λ y reads reached. free.reads y reads (within y reached);
  sites = λ class y asks reads reached. free.sites class y asks reads (elim reached [
    | inl same ↦ inl same
    | inr behind ↦ inr (within y behind)
  ]);
  once = λ reached. free.once (within entry.name reached);
}

-- lists of which none touches what a later one reaches, one behind the other
pub joined_free : (s : Setting) (xss : List (List Use)) → ((i : ℕ) (xs : List Use) → slice_get xss i ≡ Some xs → AreFree s xs)
    → ((i j : ℕ) (xs ys : List Use) → i < j → slice_get xss i ≡ Some xs → slice_get xss j ≡ Some ys → Clear s xs ys) → AreFree s (joined xss)
joined_free s [] each clear = tt
joined_free s (xs ∷ xss) each clear = free_append s xs (joined xss) (each 0 xs refl) (joined_free s xss (λ i ys at. each (suc i) ys at) (λ i j ys zs lt at there. clear (suc i) (suc j) ys zs (omega (arith, lt)) at there))
    (λ entry y member touches reached. let (j, ys, at, own) = reached_piece xss y reached in clear 0 (suc j) xs ys (omega arith) refl at entry y member touches own)

-- what uses reach, more of them do
pub reach_within : (xs ys : List Use) → ((entry : Use) → IsMember entry xs → IsMember entry ys) → (y : ℕ) → IsReachedBy y xs → IsReachedBy y ys
reach_within xs ys within y reached =
    let (entry, member, same) = member_reached xs y reached in
    subst (λ z. IsReachedBy z ys) (sym same) (reached_member ys entry (within entry member))
