-- Uses taken one behind the other: where they are cut, and that what they leave is one row.
use Rattle.std.proofs.Common.{◌≡◌, refl, ap, ◌∙◌, sym, subst, ℕ, suc, List, [], ◌∷◌, ◌++◌, Some, slice_get, ◌⊎◌, inl, inr}
use Rattle.std.proofs.Math.Path.{fun_ext}
use Rattle.std.proofs.lemmas.Bool.{cases_eq}
use Rattle.std.proofs.lemmas.Option.{same_Some}
use Rattle.sync_values.specs.declared.value.Value.{Value}
use Rattle.flat_model.specs.Assignment.{Assignment}
use Rattle.flat_model.specs.Given.{Row, with_row, Solves}
use Rattle.flat_model.specs.Assignment.{IsOfKind}
use Rattle.flat_model.specs.Setting.{Setting}
use Rattle.flat_model.specs.Uses.{Use}
use Rattle.moment_theory.specs.Division.{joined}
use Rattle.moment_theory.specs.Free.{IsReachedBy}
use Rattle.moment_theory.specs.Taken.{put, Gives, IsTaken, AreTaken}
use Rattle.moment_theory.proofs.Beside.{reached_either}

module _ (s : Setting) (S : Assignment) (m : ℕ) where
  one_value : (entry : Use) (row : Row) (v w : Value) → Gives s S m row entry v → Gives s S m row entry w → v ≡ w
  one_value entry row v w g h =
      let names : g.name ≡ h.name = same_Some g.name h.name (sym g.can.name_is ∙ h.can.name_is) in
      let equations : g.equation ≡ h.equation = same_Some g.equation h.equation (sym g.can.equation_is ∙ h.can.equation_is) in
      h.only.only v (subst (λ n. IsOfKind n.kind v) names g.only.typed) (subst (λ q. Solves s (with_row S m row) m entry.equation q entry.name v) equations g.only.solves)

  one_taken : (entry : Use) (row a b : Row) → IsTaken s S m entry row a → IsTaken s S m entry row b → (y : ℕ) → a y ≡ b y
  one_taken entry row a b (inl (v, g, e)) (inl (w, h, f)) y = e y ∙ ap (λ z. put row entry.name z y) (one_value entry row v w g h) ∙ sym (f y)
  one_taken entry row a b (inl (v, g, e)) (inr (none, f)) y = absurd (none v g)
  one_taken entry row a b (inr (none, e)) (inl (w, h, f)) y = absurd (none w h)
  one_taken entry row a b (inr (none, e)) (inr (other, f)) y = e y ∙ sym (f y)

  -- uses leave one row
  pub taken_once : (uses : List Use) (row a b : Row) → AreTaken s S m uses row a → AreTaken s S m uses row b → (y : ℕ) → a y ≡ b y
  taken_once [] row a b one two y = one y ∙ sym (two y)
  taken_once (entry ∷ uses) row a b (n, step, rest) (k, other, more) y =
      taken_once uses n a b rest (subst (λ r. AreTaken s S m uses r b) (fun_ext (λ z. one_taken entry row k n other step z)) more) y

  split_taken : (xs ys : List Use) (row last : Row) → AreTaken s S m (xs ++ ys) row last → (mid : Row) × AreTaken s S m xs row mid × AreTaken s S m ys mid last
  split_taken [] ys row last taken = (row, (λ y. refl), taken)
  split_taken (x ∷ xs) ys row last (n, step, rest) = let (mid, one, two) = split_taken xs ys n last rest in (mid, (n, step, one), two)

  -- the uses behind some go on from the row that those left
  pub taken_behind : (xs ys : List Use) (row mid last : Row) → AreTaken s S m (xs ++ ys) row last → AreTaken s S m xs row mid → AreTaken s S m ys mid last
  taken_behind xs ys row mid last whole front =
      let (there, one, two) = split_taken xs ys row last whole in
      subst (λ r. AreTaken s S m ys r last) (fun_ext (taken_once xs row there mid one front)) two

-- a name is reached by some uses, or not
pub reached_or : (uses : List Use) (y : ℕ) → IsReachedBy y uses ⊎ (IsReachedBy y uses → ⊥)
reached_or [] y = inr (λ h. h)
reached_or (first ∷ uses) y = elim (cases_eq y first.name) [
  | inl is ↦ inl (inl is)
  | inr other ↦ elim (reached_or uses y) [
    | inl there ↦ inl (inr there)
    | inr none ↦ inr (λ h. elim h [
      | inl is ↦ other is
      | inr there ↦ none there
    ])
  ]
]

-- what the pieces reach is reached by one of them
pub reached_piece : (pieces : List (List Use)) (y : ℕ) → IsReachedBy y (joined pieces) → (i : ℕ) × (piece : List Use) × (slice_get pieces i ≡ Some piece) × IsReachedBy y piece
reached_piece [] y reached = absurd reached
reached_piece (first ∷ pieces) y reached = elim (reached_either first (joined pieces) y reached) [
  | inl own ↦ (0, first, refl, own)
  | inr later ↦ let (i, piece, found, there) = reached_piece pieces y later in (suc i, piece, found, there)
]
