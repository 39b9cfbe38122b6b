use Rattle.std.proofs.Common.{rules, ◌≡◌, ◌<◌, length}
use Rattle.clock_spread.specs.Found.{class_in}
use Rattle.clock_spread.specs.Queue.{Queues}
use Rattle.clock_spread.proofs.Queueing.{ends_step}
use Rattle.clock_spread.proofs.queue.add_ends.Goals as goal

pub loop-relation-preserved : goal.loop-relation-preserved
loop-relation-preserved c =
    let within : c.loop-relation.relation-index < length c.args.touching.now = search rules in
    let added : Queues (λ x. x ≡ c.end_of.result) c.args.clocked.now c.loop-relation.next.items c.loop-relation.marks c.add.new.next.items c.add.new.marks = search rules in
    ends_step (class_in c.args.class_of.now) c.args.class c.args.touching.now c.loop-relation.relation-index _ c.args.clocked.now c.args.next.now.items c.args.marks.now
    c.loop-relation.next.items c.loop-relation.marks c.add.new.next.items c.add.new.marks c.end_of.result within c.end_of.ensures c.loop-relation.invariant added
