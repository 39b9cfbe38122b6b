use Rattle.flat_instances.specs.Instances.{instances}
use Rattle.filled_instances.proofs.Counting.{from_start}
use Rattle.filled_instances.proofs.walk.filled_instances.Goals as goal

pub returns : goal.returns
unfolding instances
returns c =
    from_start c.args.file.now.text.now c.args.file.now.classes.now c.args.own.now c.args.class 33 c.new-found.result.items c.items.new.found.items c.as_slice.result.now c.none-modifiers.result
    c.new-found.ensures.items c.as_slice.ensures c.none-modifiers.ensures c.in_ok-items.ensures
