use Rattle.std.proofs.Common.{rules, ◌≡◌, sym, subst, ◌∙◌, ◌<◌, length, ◌+◌, get_or}
use Rattle.class_scopes.specs.Tables.{Declares}
use Rattle.argument_rules.proofs.Repeats.{IsSeen, seen_old, seen_new}
use Rattle.argument_rules.proofs.paths.repeated.Goals as goal
use Rattle.argument_rules.proofs.paths.repeated.Goals.{then-not-branch, else-not-branch}

pub loop-number-preserved : goal.loop-number-preserved
loop-number-preserved c =
    let leaves = c.args.leaves.now in
    let i = c.loop-number.number in
    let within : i < length leaves = search rules in
    let x = c.index-leaves-number.result in
    let is : x ≡ get_or leaves i x = c.index-leaves-number.is in
    elim c.if-not-branch.branch [
      | then-not-branch w ↦
          let told = subst (λ b. Declares c.loop-number.seen c.as_slice.result.now i b c.declare.new.self) w.if-not-branch.true c.in_ok-declare.ensures.declared in
          subst (λ r. IsSeen leaves (i + 1) c.declare.new.self r) (sym (w.least-is ∙ w.lesser-least.ensures))
          (seen_old leaves i x within is c.loop-number.seen c.declare.new.self c.as_slice.result.now c.loop-number.least c.as_slice.ensures.value c.loop-number.invariant told)
      | else-not-branch w ↦
          let told = subst (λ b. Declares c.loop-number.seen c.as_slice.result.now i b c.declare.new.self) w.if-not-branch.false c.in_ok-declare.ensures.declared in
          subst (λ r. IsSeen leaves (i + 1) c.declare.new.self r) (sym w.least-is)
          (seen_new leaves i x within is c.loop-number.seen c.declare.new.self c.as_slice.result.now c.loop-number.least c.as_slice.ensures.value c.loop-number.invariant told)
    ]
