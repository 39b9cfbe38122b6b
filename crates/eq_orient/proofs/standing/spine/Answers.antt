use Rattle.std.proofs.Common.{◌≡◌, ◌+◌, ap, sym, subst, ◌∙◌}
use Rattle.flat_model.specs.Occurrences.{bare_count}
use Rattle.eq_orient.specs.Spine.{tally, IsSpineOf}
use Rattle.eq_orient.proofs.Tallies.{is_one, stands_once}
use Rattle.eq_orient.proofs.standing.spine.Goals as goal

pub returns-in_default-both : goal.returns-in_default-both
returns-in_default-both c = λ side spine.
    let m = bare_count c.args.name c.in-Valued.left in let n = bare_count c.args.name c.in-Valued.right in
    let total = c.both.ensures m n c.standing_in.ensures c.standing_in-2.ensures in
    let one = stands_once c.args.name c.in-Valued.left c.in-Valued.right c.in-Valued.clause side (subst (λ e. IsSpineOf c.args.name e side) c.in-Valued.is spine) in
    c.in_default-both.not-Once (total ∙ ap tally one)

pub returns-then-reached_in : goal.returns-then-reached_in
returns-then-reached_in c =
    let m = bare_count c.args.name c.in-Valued.left in let n = bare_count c.args.name c.in-Valued.right in
    let total : tally (m + n) ≡ c.both.result = sym (c.both.ensures m n c.standing_in.ensures c.standing_in-2.ensures) in
    rw c.in-Valued.is (is_one (m + n) (total ∙ c.in-Once.is), sym c.reached_in.ensures ∙ c.if-reached_in.true)

pub returns-then-reached_in-2 : goal.returns-then-reached_in-2
returns-then-reached_in-2 c =
    let m = bare_count c.args.name c.in-Valued.left in let n = bare_count c.args.name c.in-Valued.right in
    let total : tally (m + n) ≡ c.both.result = sym (c.both.ensures m n c.standing_in.ensures c.standing_in-2.ensures) in
    rw c.in-Valued.is (is_one (m + n) (total ∙ c.in-Once.is), sym c.reached_in-2.ensures ∙ c.if-reached_in-2.true)
