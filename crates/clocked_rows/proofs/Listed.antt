-- Facts of all or some elements of a list that is written out.
use Rattle.std.proofs.Common.{◌≡◌, refl, subst, ℕ, zero, suc, ◌<◌, ◌⊎◌, inl, inr, List, [], ◌∷◌, length, arith, All, Any}
use Rattle.std.specs.List.{slice_index_or}
use Rattle.rational_time.specs.declared.ratio.Ratio.{Ratio}
use Rattle.rational_time.specs.Fraction.{Same, AtMost}
use Rattle.flat_model.specs.declared.clock.Clock.{Clock}
use Rattle.flat_model.specs.Moments.{TicksAt, IsDue, IsRising, AreInstants}

-- P of the first or of a later one
abbrev pub Among : {A : Type 0} → (A → Type 0) → List A → Type 0
Among P [] = ⊥
Among P (a ∷ rest) = P a ⊎ Among P rest

-- P of the first and of all later ones
abbrev pub Every : {A : Type 0} → (A → Type 0) → List A → Type 0
Every P [] = Unit {0}
Every P (a ∷ rest) = P a × Every P rest

all : {A : Type 0} (P : A → Type 0) (xs : List A) → Every P xs → All P xs
all P [] every k d lt = absurd (omega arith)
all P (a ∷ rest) every zero d lt = every.0
all P (a ∷ rest) every (suc k) d lt = all P rest every.1 k d (omega arith)

among : {A : Type 0} (P : A → Type 0) (xs : List A) (k : ℕ) (a : A) → k < length xs → slice_index_or xs k a ≡ a → P a → Among P xs
among P [] k a lt e p = absurd (omega arith)
among P (x ∷ xs) zero a lt e p = inl (subst P (let f : a ≡ x = cc in f) p)
among P (x ∷ xs) (suc k) a lt e p = inr (among P xs k a (omega arith) e p)

from_any : {A : Type 0} (P : A → Type 0) (xs : List A) → Any P xs → Among P xs
from_any P xs (k, a, lt, e, p) = among P xs k a lt e p

some : {A : Type 0} (P : A → Type 0) (xs : List A) → Among P xs → Any P xs
some P [] none = absurd none
some P (a ∷ rest) (inl p) = (0, a, omega arith, refl, p)
some P (a ∷ rest) (inr q) = let (k, x, lt, e, p) = some P rest q in (suc k, x, omega (arith, lt), e, p)

-- why an instant is due, and every reason why one could be
module _ (clocks : List Clock) (rows : List Ratio) (stop : Ratio) (instants : List Ratio) where
  abbrev pub Cause : Ratio → Type 0
  Cause t = (t.num ≡ 0) ⊎ Among (Same t) rows ⊎ Among (TicksAt t) clocks

  due : (t : Ratio) → AtMost t stop × Cause t → IsDue clocks rows stop t
  due t (within, cause) = record {
    within = within;
    cause = elim cause [ inl zero_is ↦ inl zero_is | inr (inl row) ↦ inr (inl (some (Same t) rows row)) | inr (inr tick) ↦ inr (inr (some (TicksAt t) clocks tick)) ];
  }

  cause_of : (t : Ratio) → IsDue clocks rows stop t → Cause t
  cause_of t d = elim d.cause [ inl zero_is ↦ inl zero_is | inr (inl row) ↦ inr (inl (from_any (Same t) rows row)) | inr (inr tick) ↦ inr (inr (from_any (TicksAt t) clocks tick)) ]

  every_due : (ts : List Ratio) → Every (λ t. AtMost t stop × Cause t) ts → Every (IsDue clocks rows stop) ts
  every_due [] every = tt
  every_due (t ∷ ts) every = (due t every.0, every_due ts every.1)

  pub are_instants : IsRising instants → Every (λ t. AtMost t stop × Cause t) instants → ((t : Ratio) → AtMost t stop → Cause t → Among (Same t) instants) → AreInstants clocks rows stop instants
  are_instants rising every listed = record {
    rising = rising;
    due = all (IsDue clocks rows stop) instants (every_due instants every);
    all = λ t d. some (Same t) instants (listed t d.within (cause_of t d));
  }
