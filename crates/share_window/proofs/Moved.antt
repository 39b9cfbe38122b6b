-- What is so of an assignment is so of one that agrees with it.
use Rattle.std.proofs.Common.{◌≡◌, refl, ◌∙◌, sym, subst, ℕ, ◌<◌, List, Option, Some, arith}
use Rattle.flat_model.specs.declared.table.Left.{Left}
use Rattle.flat_model.specs.Assignment.{Assignment}
use Rattle.flat_model.specs.Given.{Row, with_row}
use Rattle.flat_model.specs.Meets.{HasValueAtTicks}
use Rattle.flat_model.specs.Operators.{Answer, Is, Fails, Absent}
use Rattle.flat_model.specs.Setting.{Setting, class_of_name, site_answer, class_ticks, name_ticks}
use Rattle.flat_model.specs.Uses.{Use}
use Rattle.flat_model.proofs.Above.{Above}
use Rattle.flat_model.proofs.Agreement.{SameUpTo, class_ticks_same, tick_before_same, previous_same}
use Rattle.flat_model.proofs.OneSolution.{AreSitesUnclocked}
use Rattle.flat_model.proofs.Sites.{site_up}
use Rattle.moment_theory.specs.Going.{AgreeBefore}
use Rattle.moment_theory.proofs.Rows.{row_now, below_same}
use Rattle.partition_step.specs.Parts.{IsTickedAt, StandsFor}
use Rattle.partition_step.specs.declared.part.Part.{Part}
use Rattle.partition_step.proofs.Resting.{keeps_same}
use Rattle.share_run.specs.Standing.{Holding, IsLeftBeside, IsShareBefore}
use Rattle.side_theory.specs.Typed.{AreValuedAt}
use Rattle.window_plan.specs.Moments.{AnswersAs}

above_both : (a b : Answer) → Above a b → Above b a → a ≡ b
above_both (Is v) b one two = sym one
above_both (Fails kind) b one two = sym one
above_both Absent (Is v) one two = two
above_both Absent (Fails kind) one two = two
above_both Absent Absent one two = refl

-- a site answers alike over the same values of a moment
pub answers_alike : (s : Setting) → AreSitesUnclocked s → (S T : Assignment) (m : ℕ) → ((y : ℕ) → S y m ≡ T y m) → (site : ℕ) → site_answer s S site m ≡ site_answer s T site m
answers_alike s unclocked S T m same site = above_both (site_answer s S site m) (site_answer s T site m)
    (site_up s S T site m unclocked (λ e y found some. below_same (S y m) (T y m) (same y)))
    (site_up s T S site m unclocked (λ e y found some. below_same (T y m) (S y m) (sym (same y))))

-- over one row sites answer alike whatever comes before
pub over_row : (s : Setting) → AreSitesUnclocked s → (S T : Assignment) (m : ℕ) (row : Row) (site : ℕ) → site_answer s (with_row S m row) site m ≡ site_answer s (with_row T m row) site m
over_row s unclocked S T m row = answers_alike s unclocked (with_row S m row) (with_row T m row) m (λ y. row_now S m row y ∙ sym (row_now T m row y))

pub answers_moved : (s : Setting) → AreSitesUnclocked s → (S T : Assignment) (m : ℕ) (row : Row) → ((y : ℕ) → S y m ≡ T y m) → AnswersAs s S m row → AnswersAs s T m row
answers_moved s unclocked S T m row same answers site = over_row s unclocked T S m row site ∙ answers site ∙ answers_alike s unclocked S T m same site

pub valued_moved : (s : Setting) (S T : Assignment) (m : ℕ) → SameUpTo S T m → AreValuedAt s S m → AreValuedAt s T m
valued_moved s S T m same valued = record {
  names = λ x name found.
      subst (HasValueAtTicks name.kind (name_ticks s T x m)) (same x m (omega arith))
      (subst (λ b. HasValueAtTicks name.kind b (S x m)) (class_ticks_same s S T (class_of_name s x) m m same (omega arith)) (valued.names x name found));
}

module _ (s : Setting) (S T : Assignment) (n : ℕ) (agrees : AgreeBefore S T n) where
  ticks_before : (class : Option ℕ) (j : ℕ) → j < n → class_ticks s S class j ≡ class_ticks s T class j
  ticks_before class j lt = class_ticks_same s S T class j j (λ x k le. agrees x k (omega (arith, lt, le))) (omega arith)

  stands_moved : (part : Part) → StandsFor s S n part → StandsFor s T n part
  stands_moved part stands = record {
    values = λ i cell found. keeps_same s S T n agrees cell.name cell.kept (stands.values i cell found);
    ticks = λ j kept found. subst (λ o. IsTickedAt s o kept.ticked)
        (tick_before_same (class_ticks s S (Some kept.class)) (class_ticks s T (Some kept.class)) n (λ k lt. ticks_before (Some kept.class) k lt)) (stands.ticks j kept found);
  }

  left_moved : (others : List Use) (left : Left) → IsLeftBeside s others S n left → IsLeftBeside s others T n left
  left_moved others left is = record {
    wide = is.wide;
    long = is.long;
    now = λ y k own later. is.now y k own later ∙ agrees y k (omega (arith, later));
    last = λ x own valued. is.last x own valued ∙ previous_same (name_ticks s S x) (name_ticks s T x) (S x) (T x) _ n (λ j lt. ticks_before (class_of_name s x) j lt) (λ j lt. agrees x j lt);
  }

  -- what a share has rests on what comes before alone
  pub before_moved : (uses others : List Use) (h : Holding) → IsShareBefore s uses others S n h → IsShareBefore s uses others T n h
  before_moved uses others h is = record {
    settled = is.settled;
    room = is.room;
    slots_are = is.slots_are;
    owners_are = is.owners_are;
    left_is = left_moved others h.left is.left_is;
    stand = λ i slot found. stands_moved slot.piece.part (is.stand i slot found);
  }
