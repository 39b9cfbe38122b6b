use Rattle.std.proofs.Common.{◌≡◌, ℕ, rules, is_ok, true, min, length, arith}
use Rattle.class_sizes.specs.Tokens.{tokens_at, own_tokens}
use Rattle.class_sizes.proofs.Absent.{all_counted}
use Rattle.class_sizes.proofs.tokens.token_counts.Goals as goal
use Rattle.instance_totals.proofs.Sums.{size_pushed, one_pushed}

pub loop-class-preserved : goal.loop-class-preserved
loop-class-preserved c =
    let text = c.args.file.now.text.now in
    let classes = c.args.file.now.classes.now in
    let good : is_ok c.push.result ≡ true = search rules in
    let added = rw good at c.push.ensures.items in
    let value = λ (class : ℕ). min (own_tokens text classes c.args.starts.now.tokens.now class) c.args.most in
    record {
      size = size_pushed 0 value c.loop-class.counts.items c.push.new.self.items _ c.loop-class.class added c.loop-class.invariant.size;
      each = one_pushed 0 value c.loop-class.counts.items c.push.new.self.items _ c.loop-class.class added c.loop-class.invariant.size c.loop-class.invariant.each
          (rw (← c.equations_of.ensures) c.tokens_of.ensures);
    }

pub returns : goal.returns
returns c =
    let end : c.loop-class.class ≡ length c.args.file.now.classes.now = omega arith in
    all_counted c.args.file.now.text.now c.args.file.now.classes.now (tokens_at c.args.starts.now.tokens.now) c.args.most c.loop-class.counts.items
    (omega (arith, end, c.loop-class.invariant.size)) (λ class lt. c.loop-class.invariant.each class (omega (arith, end, lt)))
