-- The names that are gathered from both sides of an equation are all that it reads.
use Rattle.std.proofs.Common.{◌≡◌, ap, ◌∙◌, sym, subst, ℕ, zero, suc, ◌+◌, ◌≤◌, List, [], ◌∷◌, ◌++◌, length, Some, slice_get, ◌⊎◌, inl, inr, arith, refl}
use Rattle.std.proofs.lemmas.Option.{none-some, same_Some}
use Rattle.flat_model.specs.declared.equation.Equation.{Equation}
use Rattle.flat_model.specs.declared.expression.Expr.{Expr}
use Rattle.flat_model.specs.Occurrences.{bare_count, held_count, converted_count}
use Rattle.flat_model.proofs.Links.{asked_bare, asked_last}
use Rattle.eq_order.proofs.Reading.{is_there}
use Rattle.tree_step.specs.declared.changed.Reads.{Reads}
use Rattle.tree_step.specs.declared.taking.Entry.{Entry}
use Rattle.tree_step.specs.Changed.{HasSideReads, HasReads, AreReadsOf}
use Rattle.eq_orient.specs.Gathered.{count_of}

-- a list with every name of a side tells it
pub tell_side : (side : Expr) (reads : Reads) → ((x : ℕ) → bare_count x side ≤ count_of x reads.bare) → ((x : ℕ) → held_count x side + converted_count x side ≤ count_of x reads.held) → HasSideReads side reads
tell_side side reads bare held = (
  λ y asks. is_there y reads.bare (let count = asked_bare y side in let le = bare y in omega (arith, asks, count, le)),
  λ z asks. is_there z reads.held (let count = asked_last z side in let le = held z in omega (arith, asks, count, le)),
)

pushed_at : {A : Type 0} (xs : List A) (y x : A) (i : ℕ) → slice_get (xs ++ y ∷ []) i ≡ Some x → (slice_get xs i ≡ Some x) ⊎ ((i ≡ length xs) × (x ≡ y))
pushed_at [] y x zero at = inr (refl, same_Some x y (sym at))
pushed_at [] y x (suc i) at = absurd (none-some x at)
pushed_at (z ∷ xs) y x zero at = inl at
pushed_at (z ∷ xs) y x (suc i) at = elim (pushed_at xs y x i at) [
  | inl earlier ↦ inl earlier
  | inr here ↦ inr (ap suc here.0, here.1)
]

pub pushed_long : {A : Type 0} (xs : List A) (y : A) → length (xs ++ y ∷ []) ≡ length xs + 1
pushed_long [] y = refl
pushed_long (z ∷ xs) y = let rest = pushed_long xs y in omega (arith, rest)

-- one more use
pub reads_more : (equations : List Equation) (entries : List Entry) (reads : List Reads) (next : Reads) (entry : Entry) (i : ℕ) → length reads ≡ i → slice_get entries i ≡ Some entry
    → ((equation : Equation) → slice_get equations entry.equation ≡ Some equation → HasReads equation next) → AreReadsOf equations entries reads → AreReadsOf equations entries (reads ++ next ∷ [])
reads_more equations entries reads next entry i long at tells are j other own equation other_at own_at found = elim (pushed_at reads next own j own_at) [
  | inl earlier ↦ are j other own equation other_at earlier found
  | inr here ↦
      let same : entry ≡ other = same_Some entry other (sym at ∙ ap (slice_get entries) (sym long ∙ sym here.0) ∙ other_at) in
      subst (HasReads equation) (sym here.1) (tells equation (ap (λ e. slice_get equations e.equation) same ∙ found))
]
