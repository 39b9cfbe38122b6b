use Rattle.std.proofs.Common.{rules, ◌<◌, length}
use Rattle.clock_check.proofs.Placing.{partition_more, partition_same}
use Rattle.clock_check.proofs.parts.partitions.Goals as goal
use Rattle.clock_check.proofs.parts.partitions.Goals.{then-is_clocked+in_ok-push, else-is_clocked}

pub loop-class-preserved : goal.loop-class-preserved
loop-class-preserved c =
    let within : c.loop-class.class < length c.args.clocked.now = search rules in
    elim c.if-is_clocked.branch [
      | then-is_clocked+in_ok-push w ↦
          partition_more c.args.clocked.now c.args.partition.now c.loop-class.list c.if-is_clocked.list c.loop-class.class within (search rules) (search rules) c.loop-class.invariant
      | else-is_clocked w ↦
          partition_same c.args.clocked.now c.args.partition.now c.loop-class.list c.if-is_clocked.list c.loop-class.class within (search rules) (search rules) c.loop-class.invariant
    ]
