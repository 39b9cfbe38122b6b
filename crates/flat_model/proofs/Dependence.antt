-- The value of an expression rests on what it asks for, and on nothing else.
use Rattle.std.proofs.Common.{◌≡◌, ap, subst, ℕ, zero, suc, ◌+◌, ◌<◌, inl, inr, arith}
use Rattle.flat_model.specs.declared.expression.Expr.{Expr}
use Rattle.flat_model.specs.Asks.{Asking, OfNow, OfLast, OfPrevious, OfFirst, OfInterval, AsksFor}
use Rattle.flat_model.specs.Meaning.{value_of}
use Rattle.flat_model.specs.Occurrences.{bare_count, held_count, converted_count, sample_count}
use Rattle.flat_model.specs.Views.{Views, before}
use Rattle.flat_model.proofs.Asks.{SameAt, value_rests_on_asked}
use Rattle.flat_model.proofs.Links.{asked_bare, asked_last, asked_earlier, either_some}

-- two views agree on what an expression asks for
abbrev pub AgreeOn : Expr → Views → Views → Type 0
AgreeOn e v w = (d : ℕ) (q : Asking) → AsksFor e d q → SameAt v w d q

-- views that agree on it give it one answer
pub value_rests : (e : Expr) (v w : Views) → AgreeOn e v w → value_of e v ≡ value_of e w
value_rests e v w agree = value_rests_on_asked e v w agree

-- views that agree on the names that are counted, on the clock, and where there is a `sample` on all that is earlier
pub record AgreeCounted (e : Expr) (v w : Views) : Type 0 where
  pub now : (x : ℕ) → 0 < bare_count x e → (v 0).now x ≡ (w 0).now x
  pub held : (x : ℕ) → 0 < held_count x e → (v 0).last x ≡ (w 0).last x
  pub converted : (x : ℕ) → 0 < converted_count x e → (v 0).last x ≡ (w 0).last x
  pub sampled : 0 < sample_count e → before v ≡ before w
  pub previous : (x : ℕ) → (v 0).previous x ≡ (w 0).previous x
  pub first : (v 0).first ≡ (w 0).first
  pub interval : (v 0).interval ≡ (w 0).interval

same_view : (v w : Views) (d : ℕ) (q : Asking) → v d ≡ w d → SameAt v w d q
same_view v w d (OfNow x) e = ap (λ view. view.now x) e
same_view v w d (OfLast x) e = ap (λ view. view.last x) e
same_view v w d (OfPrevious x) e = ap (λ view. view.previous x) e
same_view v w d OfFirst e = ap (λ view. view.first) e
same_view v w d OfInterval e = ap (λ view. view.interval) e

-- they agree on what it asks for
pub counted_agree : (e : Expr) (v w : Views) → AgreeCounted e v w → AgreeOn e v w
counted_agree e v w counts zero (OfNow x) some = counts.now x (subst (λ n. 0 < n) (asked_bare x e) some)
counted_agree e v w counts zero (OfLast x) some = elim (either_some (held_count x e) (converted_count x e) (subst (λ n. 0 < n) (asked_last x e) some)) [
  | inl held ↦ counts.held x held
  | inr converted ↦ counts.converted x converted
]
counted_agree e v w counts zero (OfPrevious x) some = counts.previous x
counted_agree e v w counts zero OfFirst some = counts.first
counted_agree e v w counts zero OfInterval some = counts.interval
counted_agree e v w counts (suc d) q some = same_view v w (suc d) q
    (subst (λ k. v k ≡ w k) (let e : d + 1 ≡ suc d = omega arith in e) (ap (λ views. views d) (counts.sampled (asked_earlier e d q some))))
