use Rattle.std.proofs.Common.{◌≡◌, ℕ, rules, is_ok, true, false, length, arith}
use Rattle.class_sizes.specs.Owners.{gives, has_own}
use Rattle.class_sizes.proofs.Absent.{all_marked}
use Rattle.class_sizes.proofs.owning.owners.Goals as goal
use Rattle.instance_totals.proofs.Sums.{size_pushed, one_pushed}

pub loop-class-preserved : goal.loop-class-preserved
loop-class-preserved c =
    let text = c.args.scopes.now.named.file.text.now in
    let classes = c.args.scopes.now.named.file.classes.now in
    let good : is_ok c.push.result ≡ true = search rules in
    let added = rw good at c.push.ensures.items in
    let value = λ (class : ℕ). has_own text classes class in
    record {
      size = size_pushed false value c.loop-class.marks.items c.push.new.self.items _ c.loop-class.class added c.loop-class.invariant.size;
      each = one_pushed false value c.loop-class.marks.items c.push.new.self.items _ c.loop-class.class added c.loop-class.invariant.size c.loop-class.invariant.each
          (rw (← c.equations_of.ensures) c.any_gives-mark.ensures);
    }

pub returns : goal.returns
returns c =
    let end : c.loop-class.class ≡ length c.args.scopes.now.named.file.classes.now = omega arith in
    all_marked c.args.scopes.now.named.file.text.now c.args.scopes.now.named.file.classes.now (gives c.args.scopes.now.named.file.text.now c.args.scopes.now.named.file.classes.now)
    c.loop-class.marks.items (omega (arith, end, c.loop-class.invariant.size)) (λ class lt. c.loop-class.invariant.each class (omega (arith, end, lt)))
