use Rattle.std.proofs.Common.{◌≡◌, ℕ, rules, is_ok, true, min, length, arith}
use Rattle.class_sizes.specs.Equations.{equations_at, own_equations}
use Rattle.class_sizes.proofs.Absent.{all_counted}
use Rattle.class_sizes.proofs.equations.equation_counts.Goals as goal
use Rattle.instance_totals.proofs.Sums.{size_pushed, one_pushed}

pub loop-class-preserved : goal.loop-class-preserved
loop-class-preserved c =
    let text = c.args.file.now.text.now in
    let classes = c.args.file.now.classes.now in
    let good : is_ok c.push.result ≡ true = search rules in
    let added = rw good at c.push.ensures.items in
    let value = λ (class : ℕ). min (own_equations text classes class) c.args.most in
    record {
      size = size_pushed 0 value c.loop-class.counts.items c.push.new.self.items _ c.loop-class.class added c.loop-class.invariant.size;
      each = one_pushed 0 value c.loop-class.counts.items c.push.new.self.items _ c.loop-class.class added c.loop-class.invariant.size c.loop-class.invariant.each
          (rw (← c.equations_of.ensures) c.count_of.ensures);
    }

pub returns-clause-size : goal.returns-clause-size
returns-clause-size c = omega (arith, c.loop-class.invariant.size)

pub returns-clause-counts : goal.returns-clause-counts
returns-clause-counts c =
    let end : c.loop-class.class ≡ length c.args.file.now.classes.now = omega arith in
    all_counted c.args.file.now.text.now c.args.file.now.classes.now equations_at c.args.most c.loop-class.counts.items
    (omega (arith, end, c.loop-class.invariant.size)) (λ class lt. c.loop-class.invariant.each class (omega (arith, end, lt)))
