use Rattle.std.proofs.Common.{arith}
use Rattle.mo_connect.proofs.Links.{moved, kept_twice, join_links}
use Rattle.mo_connect.proofs.forest.join.Goals as goal

pub returns-clause-links : goal.returns-clause-links
returns-clause-links c = λ pairs links.
    let first = c.find_root-first in
    let second = c.find_root-second in
    let kept = second.ensures.kept in
    rw (c.max.ensures, c.min.ensures) (join_links second.new.parents c.args.pair first.result second.result
    (kept.roots first.result first.ensures.root) second.ensures.root
    (kept.onward c.args.pair.a first.result first.ensures.linked) second.ensures.linked
    (omega arith) (omega arith) pairs
    (moved pairs c.args.parents.now second.new.parents (kept_twice c.args.parents.now first.new.parents second.new.parents first.ensures.kept kept) links))
