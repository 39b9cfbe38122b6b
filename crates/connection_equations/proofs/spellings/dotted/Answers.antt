use Rattle.std.proofs.Common.{◌∙◌, ap, ◌++◌, map, arith}
use Rattle.class_scopes.specs.Spelled.{spelled, dotted}
use Rattle.connection_equations.proofs.Dots.{dots_start}
use Rattle.connection_equations.proofs.spellings.dotted.Goals as goal

pub loop-part-init : goal.loop-part-init
loop-part-init c =
    let start = dots_start (spelled c.args.text.now) c.as_slice.result.now c.extend_from_slice.new.self.items _ (omega (arith, c.in-len1-up.len_at_least))
    (c.in_ok-extend_from_slice.ensures.items ∙ ap (λ z. z ++ c.spelled.result.now) c.new-name.ensures.items ∙ c.spelled.ensures) in
    start ∙ ap (λ p. dotted (map (spelled c.args.text.now) p)) c.as_slice.ensures
