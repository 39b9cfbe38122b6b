use Rattle.std.proofs.Common.{◌≡◌, subst, sym, eqb-true}
use Rattle.std.specs.Int.{IsGcd}
use Rattle.rational_time.proofs.Factors.{coprime_one}
use Rattle.rational_time.proofs.tens.is_apart.Goals as goal

pub returns : goal.returns
returns c = λ one.
    let rest : c.without_other_fives-rest.result ≡ 1 = eqb-true _ _ one in
    c.without_other_twos-odd.ensures.apart (c.without_other_fives-rest.ensures (subst (λ z. IsGcd c.args.num z 1) (sym rest) (coprime_one c.args.num)))
