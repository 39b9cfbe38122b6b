use Rattle.std.proofs.Common.{◌∙◌, sym, subst, arith}
use Rattle.std.proofs.lemmas.Bool.Decides.{Decides-eqb}
use Rattle.std.proofs.lemmas.Slice.Eq.{slice_eq-Decides}
use Rattle.instance_totals.specs.private.Levels.{AreNext}
use Rattle.instance_totals.proofs.Totals.{none_yet, next_totals, to_the_end}
use Rattle.instance_totals.proofs.weighing.Weighing.totals.Goals as goal

pub loop-level-init : goal.loop-level-init
loop-level-init c =
    none_yet c.args.self.now.file.now.text.now c.args.self.now.file.now.classes.now c.args.self.now.variable c.args.self.now.own.now c.args.self.now.most
    c.new-below.result.items c.new-below.ensures.items

pub loop-level-preserved : goal.loop-level-preserved
loop-level-preserved c =
    let text = c.args.self.now.file.now.text.now in
    let classes = c.args.self.now.file.now.classes.now in
    let are = subst (λ below. AreNext text classes c.args.self.now.variable c.args.self.now.own.now c.args.self.now.most below c.in_ok-totals.totals.items) c.as_slice.ensures.value c.in_ok-totals.ensures in
    next_totals text classes c.args.self.now.variable c.args.self.now.own.now c.args.self.now.most c.loop-level.level c.loop-level.below.items c.loop-level.invariant
    c.in_ok-totals.totals.items are

pub returns-then-eq : goal.returns-then-eq
returns-then-eq c =
    let text = c.args.self.now.file.now.text.now in
    let classes = c.args.self.now.file.now.classes.now in
    let are = subst (λ below. AreNext text classes c.args.self.now.variable c.args.self.now.own.now c.args.self.now.most below c.in_ok-totals.totals.items) c.as_slice.ensures.value c.in_ok-totals.ensures in
    let same = sym c.as_slice-in-loop-level.ensures.value ∙ (slice_eq-Decides Decides-eqb _ _ _ c.eq.ensures).0 c.if-eq.true ∙ c.as_slice-in-loop-level-2.ensures.value in
    to_the_end text classes c.args.self.now.variable c.args.self.now.own.now c.args.self.now.most c.loop-level.level 33 c.loop-level.below.items c.in_ok-totals.totals.items
    (omega arith) c.loop-level.invariant are same
