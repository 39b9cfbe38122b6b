use Rattle.std.proofs.Common.{refl, subst}
use Rattle.clock_spread.specs.Found.{Agrees}
use Rattle.clock_spread.proofs.Spreading.{kept_onward, lost_onward}
use Rattle.clock_spread.proofs.Losing.{lost_exact}
use Rattle.clock_spread.proofs.offers.onward.Goals as goal

pub returns-in-Some-clause-agrees : goal.returns-in-Some-clause-agrees
returns-in-Some-clause-agrees c = λ o a.
    kept_onward c.args.by c.in-Kept.grid c.in-Some.grid o c.requires.given (subst (λ f. Agrees f o) c.in-Kept.is a) c.in-Some.ensures.value

pub returns-in-None-clause-agrees : goal.returns-in-None-clause-agrees
returns-in-None-clause-agrees c = λ o a.
    let h = subst (λ f. Agrees f o) c.in-Kept.is a in lost_onward c.args.by h.0 o h.1

pub returns-in-Lost-clause-agrees : goal.returns-in-Lost-clause-agrees
returns-in-Lost-clause-agrees c = λ o a.
    let h = subst (λ f. Agrees f o) c.in-Lost.is a in lost_onward c.args.by h.0 o h.1

pub returns-in-None-clause-exact : goal.returns-in-None-clause-exact
returns-in-None-clause-exact c = λ some o a.
    lost_exact c.args.by c.in-Kept.grid o c.requires.given (subst (λ f. Agrees f o) c.in-Kept.is a) (c.in-None.ensures.none.0 refl)
