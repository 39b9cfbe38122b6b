use Rattle.std.proofs.Common.{◌⊎◌, sym, subst}
use Rattle.clock_spread.specs.Least.{IsLeastOf, IsNumberIn}
use Rattle.clock_spread.proofs.Leasts.{least_both, least_left}
use Rattle.sub_clock_solve.specs.private.Failing.{Differs, FailsGiven}
use Rattle.sub_clock_solve.proofs.conflict.conflict.Goals as goal

pub returns-in-Some : goal.returns-in-Some
returns-in-Some c = λ held sources agree proper are own.
    let P = IsNumberIn (λ s. s.equation) (Differs c.args.class_of.now held) sources in
    let Q = IsNumberIn (λ r. r.equation) (FailsGiven c.args.class_of.now held) c.args.relations.now in
    subst (λ o. IsLeastOf (λ e. P e ⊎ Q e) o) (sym c.lesser.ensures)
    (least_both P Q c.source_conflict-of_sources.result c.in-Some.equation (c.source_conflict-of_sources.ensures held sources agree proper are own) (c.in-Some.ensures held agree proper))

pub returns-in-None : goal.returns-in-None
returns-in-None c = λ held sources agree proper are own.
    let P = IsNumberIn (λ s. s.equation) (Differs c.args.class_of.now held) sources in
    let Q = IsNumberIn (λ r. r.equation) (FailsGiven c.args.class_of.now held) c.args.relations.now in
    least_left P Q c.source_conflict-of_sources.result (c.source_conflict-of_sources.ensures held sources agree proper are own) (c.in-None.ensures held agree proper)
