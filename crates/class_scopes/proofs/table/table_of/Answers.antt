use Rattle.std.proofs.Common.{rules, ◌≡◌, refl, sym, subst, ◌∙◌, ◌<◌, length, ◌+◌, get_or}
use Rattle.std.proofs.lemmas.List.{get_or_default}
use Rattle.mo_parser.specs.declared.tree.Span.{Span}
use Rattle.class_scopes.specs.Tables.{Declares}
use Rattle.class_scopes.proofs.Numbers.{IsTabled, tabled_old, tabled_new}
use Rattle.class_scopes.proofs.table.table_of.Goals as goal
use Rattle.class_scopes.proofs.table.table_of.Goals.{then-not-branch, else-not-branch}

pub loop-number-preserved : goal.loop-number-preserved
loop-number-preserved c =
    let spans = c.args.spans.now in
    let i = c.loop-number.number in
    let within : i < length spans = search rules in
    let x : Span = get_or spans i (record { at = 0; end = 0 }) in
    let is : x ≡ get_or spans i x = get_or_default spans i (record { at = 0; end = 0 }) x within in
    elim c.if-not-branch.branch [
      | then-not-branch w ↦
          let told = subst (λ b. Declares c.loop-number.table c.spelled.result.now i b c.declare.new.self) w.if-not-branch.true c.in_ok-declare.ensures.declared in
          subst (λ r. IsTabled c.args.text.now spans (i + 1) c.declare.new.self r) (sym (w.repeated-is ∙ w.lesser-repeated.ensures))
          (tabled_old c.args.text.now spans i x within is c.loop-number.table c.declare.new.self c.spelled.result.now i c.loop-number.repeated c.spelled.ensures refl c.loop-number.invariant told)
      | else-not-branch w ↦
          let told = subst (λ b. Declares c.loop-number.table c.spelled.result.now i b c.declare.new.self) w.if-not-branch.false c.in_ok-declare.ensures.declared in
          subst (λ r. IsTabled c.args.text.now spans (i + 1) c.declare.new.self r) (sym w.repeated-is)
          (tabled_new c.args.text.now spans i x within is c.loop-number.table c.declare.new.self c.spelled.result.now i c.loop-number.repeated c.spelled.ensures refl c.loop-number.invariant told)
    ]
