-- Any number of pieces, each taken by itself from one base, are taken one behind the other.
use Rattle.std.proofs.Common.{◌≡◌, refl, ap, ◌∙◌, sym, subst, ℕ, suc, List, [], ◌∷◌, ◌++◌, ◌⊎◌, inl, inr}
use Rattle.flat_model.specs.Assignment.{Assignment}
use Rattle.flat_model.specs.Setting.{Setting}
use Rattle.flat_model.specs.Uses.{Use}
use Rattle.flat_model.specs.Given.{Row}
use Rattle.flat_model.proofs.OneSolution.{AreSitesUnclocked}
use Rattle.moment_theory.specs.Division.{joined}
use Rattle.moment_theory.specs.Free.{IsReachedBy}
use Rattle.moment_theory.proofs.Ordered.{AreFreeUses}
use Rattle.moment_theory.specs.Taken.{AreTaken}
use Rattle.moment_theory.proofs.Transfer.{IsSound}
use Rattle.moment_theory.proofs.Taking.{IsClear, over}
use Rattle.moment_theory.proofs.Apart.{HoldsNeeds, beside}

pub reached_either : (a b : List Use) (y : ℕ) → IsReachedBy y (a ++ b) → IsReachedBy y a ⊎ IsReachedBy y b
reached_either [] b y h = inr h
reached_either (first ∷ a) b y (inl is) = inl (inl is)
reached_either (first ∷ a) b y (inr h) = elim (reached_either a b y h) [
  | inl own ↦ inl (inr own)
  | inr other ↦ inr other
]

pub reached_first : (a b : List Use) (y : ℕ) → IsReachedBy y a → IsReachedBy y (a ++ b)
reached_first [] b y h = absurd h
reached_first (first ∷ a) b y (inl is) = inl is
reached_first (first ∷ a) b y (inr h) = inr (reached_first a b y h)

pub reached_second : (a b : List Use) (y : ℕ) → IsReachedBy y b → IsReachedBy y (a ++ b)
reached_second [] b y h = h
reached_second (first ∷ a) b y h = inr (reached_second a b y h)

pub regroup : (a b c : List Use) → (a ++ b) ++ c ≡ a ++ (b ++ c)
regroup [] b c = refl
regroup (first ∷ a) b c = ap (λ r. first ∷ r) (regroup a b c)

bare_end : (a : List Use) → a ++ [] ≡ a
bare_end [] = refl
bare_end (first ∷ a) = ap (λ r. first ∷ r) (bare_end a)

module _ (s : Setting) (unclocked : AreSitesUnclocked s) (S : Assignment) (m : ℕ) (base : Row) (sound : IsSound s (over s unclocked S m base) m) (N : ℕ → ℕ → Type 0) (owns : ℕ → Row) where
  -- a piece needs nothing that those before it reach, and reaches nothing that they reach
  pub record IsApart (i : ℕ) (others piece : List Use) : Type 0 where
    pub order : AreFreeUses s piece
    pub clear : IsClear piece base
    pub holds : HoldsNeeds s (N i) piece order
    pub own : (y : ℕ) → IsReachedBy y piece → N i y
    pub apart : (y : ℕ) → N i y → IsReachedBy y others → ⊥
    pub distinct : (y : ℕ) → IsReachedBy y piece → IsReachedBy y others → ⊥
    pub order_all : AreFreeUses s (others ++ piece)
    pub clear_all : IsClear (others ++ piece) base

  abbrev pub AreApart : ℕ → List Use → List (List Use) → Type 0
  AreApart i others [] = Unit {0}
  AreApart i others (piece ∷ pieces) = IsApart i others piece × AreApart (suc i) (others ++ piece) pieces

  -- each was taken by itself
  abbrev pub AreAlone : ℕ → List (List Use) → Type 0
  AreAlone i [] = Unit {0}
  AreAlone i (piece ∷ pieces) = AreTaken s S m piece base (owns i) × AreAlone (suc i) pieces

  -- a row with the values of each
  abbrev pub HasEach : ℕ → List (List Use) → Row → Type 0
  HasEach i [] row = Unit {0}
  HasEach i (piece ∷ pieces) row = ((y : ℕ) → IsReachedBy y piece → row y ≡ owns i y) × HasEach (suc i) pieces row

  not_later : (i : ℕ) (others : List Use) (pieces : List (List Use)) → AreApart i others pieces → (y : ℕ) → IsReachedBy y others → IsReachedBy y (joined pieces) → ⊥
  not_later i others [] apart y here later = later
  not_later i others (piece ∷ pieces) (first, rest) y here later = elim (reached_either piece (joined pieces) y later) [
    | inl own ↦ first.distinct y own here
    | inr further ↦ not_later (suc i) (others ++ piece) pieces rest y (reached_first others piece y here) further
  ]

  pub record Together (i : ℕ) (others : List Use) (there : Row) (pieces : List (List Use)) : Type 0 where
    pub row : Row
    pub taken : AreTaken s S m (others ++ joined pieces) base row
    pub each : HasEach i pieces row
    pub kept : (y : ℕ) → (IsReachedBy y (joined pieces) → ⊥) → row y ≡ there y

  pub all_beside : (i : ℕ) (pieces : List (List Use)) (others : List Use) → AreFreeUses s others → IsClear others base → (there : Row) → AreTaken s S m others base there
      → AreApart i others pieces → AreAlone i pieces → Together i others there pieces
  all_beside i [] others order clear there taken apart alone = record {
    row = there;
    taken = subst (λ uses. AreTaken s S m uses base there) (sym (bare_end others)) taken;
    each = tt;
    kept = λ y not. refl;
  }
  all_beside i (piece ∷ pieces) others order clear there taken (first, rest) (own, alone) =
      let step = beside s unclocked S m base sound others piece order first.order clear first.clear (N i) first.holds first.apart first.distinct there (owns i) taken own in
      let later = all_beside (suc i) pieces (others ++ piece) first.order_all first.clear_all step.row step.taken rest alone in record {
        row = later.row;
        taken = subst (λ uses. AreTaken s S m uses base later.row) (regroup others piece (joined pieces)) later.taken;
        each = (
          λ y reached. later.kept y (not_later (suc i) (others ++ piece) pieces rest y (reached_second others piece y reached)) ∙ sym (step.as_alone y (first.own y reached)),
          later.each,
        );
        kept = λ y not. later.kept y (λ h. not (reached_second piece (joined pieces) y h)) ∙ step.others_kept y (λ h. not (reached_first piece (joined pieces) y h));
      }
