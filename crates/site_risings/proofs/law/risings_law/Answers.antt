use Rattle.site_risings.proofs.RisingLaw.{noted_at_moment, lows_kept}
use Rattle.site_risings.proofs.law.risings_law.Goals as goal

pub returns : goal.returns
returns c = λ s S n answers low are old taken can new kept noted. (noted_at_moment s S n answers low are old taken can new kept noted, lows_kept s S n answers low are old taken can new kept noted)
