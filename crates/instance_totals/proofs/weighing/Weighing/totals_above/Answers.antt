use Rattle.std.proofs.Common.{◌≡◌, ℕ, rules, is_ok, true, min, length, arith}
use Rattle.instance_totals.specs.Weights.{number_at}
use Rattle.instance_totals.specs.private.Levels.{next}
use Rattle.instance_totals.proofs.Sums.{size_pushed, one_pushed}
use Rattle.instance_totals.proofs.Totals.{all_next}
use Rattle.instance_totals.proofs.weighing.Weighing.totals_above.Goals as goal

pub loop-class-preserved : goal.loop-class-preserved
loop-class-preserved c =
    let text = c.args.self.now.file.now.text.now in
    let classes = c.args.self.now.file.now.classes.now in
    let good : is_ok c.push.result ≡ true = search rules in
    let added = rw good at c.push.ensures.items in
    let value = λ (class : ℕ). min (next text classes c.args.self.now.variable c.args.self.now.own.now (number_at c.args.below.now) class) c.args.self.now.most in
    record {
      size = size_pushed 0 value c.loop-class.totals.items c.push.new.self.items _ c.loop-class.class added c.loop-class.invariant.size;
      each = one_pushed 0 value c.loop-class.totals.items c.push.new.self.items _ c.loop-class.class added c.loop-class.invariant.size c.loop-class.invariant.each c.total_in.ensures;
    }

pub returns : goal.returns
returns c =
    let end : c.loop-class.class ≡ length c.args.self.now.file.now.classes.now = omega arith in
    all_next c.args.self.now.file.now.text.now c.args.self.now.file.now.classes.now c.args.self.now.variable c.args.self.now.own.now c.args.self.now.most c.args.below.now
    c.loop-class.totals.items c.requires (omega (arith, end, c.loop-class.invariant.size)) (λ class lt. c.loop-class.invariant.each class (omega (arith, end, lt)))
