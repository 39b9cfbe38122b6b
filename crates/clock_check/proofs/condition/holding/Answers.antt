use Rattle.std.proofs.Common.{rules, ◌≡◌, ◌∙◌, ◌↔◌, ◌++◌, ℕ, true, false, sym, ap, subst, length, take, drop, slice_index_or}
use Rattle.std.proofs.Math.Seq.{take-append_seam}
use Rattle.clock_check.specs.private.Holding.{HasHold}
use Rattle.clock_check.proofs.Marks.{AreMarked, marked_from_none}
use Rattle.clock_check.proofs.condition.holding.Goals as goal

pub returns-clause-marks : goal.returns-clause-marks
returns-clause-marks c =
    let items : c.deref_mut.result.now ≡ c.in_ok-marks.marks.items = search rules in
    let size : c.in_ok-marks.marks.len ≡ length c.mark.new.marks = search rules in
    let same : take c.in_ok-marks.marks.len (c.mark.new.marks ++ drop (length c.mark.new.marks) c.in_ok-marks.marks.items) ≡ c.mark.new.marks =
    ap (λ n. take n (c.mark.new.marks ++ drop (length c.mark.new.marks) c.in_ok-marks.marks.items)) size ∙ take-append_seam c.mark.new.marks (drop (length c.mark.new.marks) c.in_ok-marks.marks.items) in
    let marked = subst (λ l. AreMarked l c.args.class_of.now c.args.holds.now c.mark.new.marks) items c.mark.ensures.marks in
    subst (λ l. (k : ℕ) → (slice_index_or l k false ≡ true) ↔ HasHold c.args.class_of.now c.args.holds.now k) (sym same)
    (marked_from_none c.in_ok-marks.marks.items c.mark.new.marks c.args.class_of.now c.args.holds.now c.in_ok-marks.ensures.none marked)
