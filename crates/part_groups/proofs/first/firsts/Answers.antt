use Rattle.std.proofs.Common.{rules, ◌≡◌, length, drop}
use Rattle.base_partition.specs.private.First.{AllMarked}
use Rattle.base_partition.proofs.Least.{least_of, written_back}
use Rattle.part_groups.proofs.first.firsts.Goals as goal

pub returns-clause-firsts : goal.returns-clause-firsts
returns-clause-firsts c =
    let size : c.in_ok-first.first.len ≡ length c.mark_all.new.first = search rules in
    let lists : c.as_slice.result.now ≡ c.in-Ok.classes = search rules in
    let start : c.deref_mut.result.now ≡ c.in_ok-first.first.items = search rules in
    let marked : AllMarked (length c.in-Ok.classes) c.in-Ok.classes c.in_ok-first.first.items c.mark_all.new.first = rw (lists, start) at c.mark_all.ensures.marks in
    rw (written_back c.in_ok-first.first.len c.mark_all.new.first (drop (length c.mark_all.new.first) c.in_ok-first.first.items) size)
    (least_of c.args.count c.args.pairs.now c.in-Ok.classes c.in_ok-first.first.items c.mark_all.new.first c.in-Ok.ensures.classes marked c.in_ok-first.ensures.own)
