use Rattle.std.proofs.Common.{◌≡◌, min, take}
use Rattle.std.specs.List.{sum_by}
use Rattle.class_sizes.specs.Tokens.{tokens_at}
use Rattle.class_sizes.proofs.tokens.tokens_of.Given as goal

abbrev pub invariant-loop-equation : goal.invariant-loop-equation
invariant-loop-equation l = l.count ≡ min (sum_by (tokens_at l.starts.tokens.now) (take l.equation-index l.equations)) l.most
