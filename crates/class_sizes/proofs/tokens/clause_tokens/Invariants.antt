use Rattle.std.proofs.Common.{◌≡◌, min, take}
use Rattle.std.specs.List.{sum_by}
use Rattle.class_sizes.specs.Tokens.{inside_tokens}
use Rattle.class_sizes.proofs.tokens.clause_tokens.Given as goal

abbrev pub invariant-loop-equation : goal.invariant-loop-equation
invariant-loop-equation l = l.count ≡ min (sum_by (inside_tokens l.starts.tokens.now) (take l.equation-index l.inside)) l.most
