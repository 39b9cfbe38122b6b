use Rattle.std.proofs.Common.{arith, ◌+◌, sym, subst, ◌∙◌, refl}
use Rattle.flat_model.specs.Occurrences.{held_count, converted_count}
use Rattle.eq_orient.specs.Spine.{Lags}
use Rattle.eq_orient.proofs.Tallies.{is_none, is_some}
use Rattle.eq_orient.proofs.standing.lags.Goals as goal

pub returns-in-Never : goal.returns-in-Never
returns-in-Never c =
    let x = c.args.name in let l = c.in-Valued.left in let r = c.in-Valued.right in
    let total = c.both.ensures (held_count x l + held_count x r) (converted_count x l + converted_count x r)
    (c.both-held.ensures (held_count x l) (held_count x r) c.standing_in.ensures c.standing_in-2.ensures)
    (c.both-converted.ensures (converted_count x l) (converted_count x r) c.standing_in-3.ensures c.standing_in-4.ensures) in
    let none = is_none (held_count x l + held_count x r + (converted_count x l + converted_count x r)) (sym total ∙ c.in-Never.is) in
    (λ e. cc e, λ lags. absurd (omega (arith, none, subst (Lags x) c.in-Valued.is lags)))

pub returns-in_default-both : goal.returns-in_default-both
returns-in_default-both c =
    let x = c.args.name in let l = c.in-Valued.left in let r = c.in-Valued.right in
    let total = c.both.ensures (held_count x l + held_count x r) (converted_count x l + converted_count x r)
    (c.both-held.ensures (held_count x l) (held_count x r) c.standing_in.ensures c.standing_in-2.ensures)
    (c.both-converted.ensures (converted_count x l) (converted_count x r) c.standing_in-3.ensures c.standing_in-4.ensures) in
    let some = is_some (held_count x l + held_count x r + (converted_count x l + converted_count x r)) (λ e. c.in_default-both.not-Never (total ∙ e)) in
    (λ e. subst (Lags x) (sym c.in-Valued.is) some, λ lags. refl)
