use Rattle.std.proofs.Common.{map}
use Rattle.flat_model.specs.Values.{value_in}
use Rattle.share_join.proofs.Telling.{run_moment}
use Rattle.share_moments.specs.Sharing.{share_of}
use Rattle.share_moments.proofs.Took.{run_beside}
use Rattle.share_moments.proofs.law.run_law.Goals as goal

pub returns : goal.returns
returns c = λ s uses pure holdings are U m alone at here inputs base inputs_are taken first first_told site site_told plan lasts tolds took last joins.
    run_moment s uses pure (map share_of holdings) U m inputs (value_in base) (λ i. value_in (lasts i)) last first tolds
    (run_beside s uses pure holdings are U m inputs base inputs_are taken first first_told plan lasts tolds took last joins) alone at here site site_told
