use Rattle.std.proofs.Common.{arith}
use Rattle.mo_connect.proofs.Links.{root_pushed}
use Rattle.mo_connect.proofs.forest.roots.Goals as goal

pub loop-x-preserved : goal.loop-x-preserved
loop-x-preserved c = record {
  size = omega (arith, c.in_ok-push.ensures.len, c.loop-x.invariant.size);
  roots = λ y. rw c.in_ok-push.ensures.items (root_pushed c.loop-x.parents.items c.loop-x.x y (omega (arith, c.loop-x.parents.ok, c.loop-x.invariant.size)) (c.loop-x.invariant.roots y));
}

pub returns-clause-roots : goal.returns-clause-roots
returns-clause-roots c = c.loop-x.invariant.roots
