use Rattle.share_join.proofs.Telling.{run_moment}
use Rattle.share_join.proofs.law.moment_law.Goals as goal

pub returns : goal.returns
returns c = λ s uses pure shares U m inputs base lasts last first tolds run alone at here site site_told.
    run_moment s uses pure shares U m inputs base lasts last first tolds run alone at here site site_told
