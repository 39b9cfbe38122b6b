use Rattle.std.proofs.Common.{◌≡◌, true, map}
use Rattle.flat_model.specs.Counters.{all_fit}
use Rattle.flat_model.specs.RawModels.{constants_fit}
use Rattle.clock_tests.proofs.expressions.Reader.+raw.Given as goal

abbrev pub invariant-parts-loop-part : goal.invariant-parts-loop-part
invariant-parts-loop-part l = all_fit (map constants_fit l.found) ≡ true
