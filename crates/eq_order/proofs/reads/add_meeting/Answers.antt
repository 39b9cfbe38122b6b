use Rattle.std.proofs.Common.{◌≡◌, ◌∙◌, ap, sym, subst, ◌↔◌, ◌⊎◌, ◌<◌, ◌+◌, ℕ, true, get_or, take_all, length, slice_get}
use Rattle.std.specs.List.{Contains}
use Rattle.flat_model.specs.Setting.{class_of_name, flattened}
use Rattle.flat_model.specs.Uses.{ClassesMeet}
use Rattle.eq_order.specs.private.Reaching.{is_waiting}
use Rattle.eq_order.proofs.Reading.{AreAdded, added_skip, added_push}
use Rattle.eq_order.proofs.reads.add_meeting.Goals as goal
use Rattle.eq_order.proofs.reads.add_meeting.Goals.{then-waits+then-classes_meet+in_ok-push, then-waits+else-classes_meet, else-waits}

pub loop-name-preserved : goal.loop-name-preserved
loop-name-preserved c = λ s same.
    let old = c.args.names.now.items in
    let converted = c.args.converted.now in
    let n = c.loop-name.name-index in
    let reached = c.args.reached.now in
    let Meets : ℕ → Type 0 = λ y. ClassesMeet s c.args.class (class_of_name s y) in
    let before : AreAdded old converted reached Meets n c.loop-name.names.items = c.loop-name.invariant s same in
    let within : n < length converted = c.loop-name-test.true in
    elim c.if-waits.branch [
      | then-waits+then-classes_meet+in_ok-push w ↦
          let class = w.class_at-other.ensures ∙ (ap (λ all. flattened (slice_get all (get_or converted n 0))) w.as_slice.ensures ∙ ap (λ k. flattened (slice_get k.of_name (get_or converted n 0))) (sym same)) in
          let meets : Meets (get_or converted n 0) = subst (λ o. ClassesMeet s c.args.class o) class ((w.classes_meet.ensures s same).0 w.if-classes_meet.true) in
          added_push old converted reached Meets n c.loop-name.names.items c.if-waits.names.items within (sym c.waits.ensures ∙ w.if-waits.true) meets
          (ap (λ v. v.items) w.names-is ∙ w.in_ok-push.ensures.items) before
      | then-waits+else-classes_meet w ↦
          let class = w.class_at-other.ensures ∙ (ap (λ all. flattened (slice_get all (get_or converted n 0))) w.as_slice.ensures ∙ ap (λ k. flattened (slice_get k.of_name (get_or converted n 0))) (sym same)) in
          subst (AreAdded old converted reached Meets (n + 1)) (sym (ap (λ v. v.items) w.names-is))
          (added_skip old converted reached Meets n c.loop-name.names.items within
          (λ waits meets. let yes : w.classes_meet.result ≡ true = (w.classes_meet.ensures s same).1 (subst (λ o. ClassesMeet s c.args.class o) (sym class) meets) in cc (yes, w.if-classes_meet.false)) before)
      | else-waits w ↦
          subst (AreAdded old converted reached Meets (n + 1)) (sym (ap (λ v. v.items) w.names-is))
          (added_skip old converted reached Meets n c.loop-name.names.items within (λ waits meets. cc (waits, c.waits.ensures, w.if-waits.false)) before)
    ]

pub returns : goal.returns
returns c = λ s same x.
    subst (λ ys. Contains c.loop-name.names.items x ↔ (Contains c.args.names.now.items x ⊎ (Contains ys x × (is_waiting c.args.reached.now x ≡ true) × ClassesMeet s c.args.class (class_of_name s x))))
    (take_all c.loop-name.name-index c.args.converted.now c.loop-name-test.false) (c.loop-name.invariant s same x)
