-- The rows of a window, of which one is written.
use Rattle.std.proofs.Common.{◌≡◌, ◌≢◌, refl, ap, ◌∙◌, sym, subst, ℕ, ◌<◌, true, false, is_some, List, length, get_or, Option, Some, None, slice_get, slice_set, inl, inr}
use Rattle.std.proofs.lemmas.Bool.{cases_eq, false≢true}
use Rattle.std.proofs.lemmas.List.{with_items_is}
use Rattle.std.proofs.lemmas.Option.{none-some, slice_get-get_or}
use Rattle.std.specs.Global.{Global}
use Rattle.std.specs.Vec.{with_items}
use Rattle.std.specs.declared.vec.Vec.{Vec}
use Rattle.sync_values.specs.declared.value.Value.{Value}
use Rattle.partition_step.specs.Writing.{IsWritten}
use Rattle.partition_step.proofs.Lists.{set_same, set_other}
use Rattle.share_window.specs.Windows.{row_from}

pub some_not_none : {A : Type 0} (o : Option A) → is_some o ≡ true → o ≡ None → ⊥
some_not_none None some none = false≢true some
some_not_none (Some a) some none = none-some a (sym none)

pub none_of : {A : Type 0} (o : Option A) → is_some o ≡ false → o ≡ None
none_of None none = refl
none_of (Some a) none = absurd (false≢true (sym none))

module _ (rows : List (Vec (Option Value) Global)) (done : ℕ) (default : Vec (Option Value) Global) (write : ℕ → Option Value → Option Value) (values : List (Option Value)) (within : done < length rows)
    (written : IsWritten write (get_or rows done default).items values) where
  abbrev row : Vec (Option Value) Global
  row = get_or rows done default

  abbrev next : List (Vec (Option Value) Global)
  next = slice_set rows done (with_items row values)

  was : slice_get rows done ≡ Some row
  was = slice_get-get_or rows done default within

  is : slice_get next done ≡ Some (with_items row values)
  is = set_same rows done (with_items row values) within

  items : (with_items row values).items ≡ values
  items = with_items_is row values (written.size ∙ sym row.ok.0)

  pub row_here : IsWritten write (row_from (slice_get rows done)) (row_from (slice_get next done))
  row_here =
      subst (λ o. IsWritten write (row_from o) (row_from (slice_get next done))) (sym was)
      (subst (λ o. IsWritten write row.items (row_from o)) (sym is) (subst (IsWritten write row.items) (sym items) written))

  pub row_away : (j : ℕ) → j ≢ done → row_from (slice_get next j) ≡ row_from (slice_get rows j)
  row_away j away = ap row_from (set_other rows done j (with_items row values) away)

  pub row_wide : (j : ℕ) → length (row_from (slice_get next j)) ≡ length (row_from (slice_get rows j))
  row_wide j = elim (cases_eq j done) [
    | inl here ↦ subst (λ k. length (row_from (slice_get next k)) ≡ length (row_from (slice_get rows k))) (sym here) row_here.size
    | inr away ↦ ap length (row_away j away)
  ]
