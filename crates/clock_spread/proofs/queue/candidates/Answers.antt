use Rattle.std.proofs.Common.{rules, ◌≡◌, ◌∙◌, ◌<◌, length, get_or, slice_index_or, [], subst}
use Rattle.std.proofs.lemmas.List.{get_or_default}
use Rattle.clock_spread.specs.Found.{class_in}
use Rattle.clock_spread.specs.Queue.{Queues, IsOtherEnd}
use Rattle.clock_spread.proofs.Queueing.{next_step}
use Rattle.clock_spread.proofs.queue.candidates.Goals as goal

pub loop-class-preserved : goal.loop-class-preserved
loop-class-preserved c =
    let within : c.loop-class.class-index < length c.args.last.now = search rules in
    let list : c.as_slice.result.now ≡ slice_index_or c.args.lists.now (get_or c.args.last.now c.loop-class.class-index 0) [] =
    c.as_slice.ensures ∙ c.index-lists-class.is ∙ get_or_default c.args.lists.now (get_or c.args.last.now c.loop-class.class-index 0) c.index-lists-class.result [] (c.requires.last c.loop-class.class-index 0 within) in
    let added : Queues (IsOtherEnd (class_in c.args.class_of.now) (get_or c.args.last.now c.loop-class.class-index 0) c.as_slice.result.now)
    c.args.clocked.now c.loop-class.next.items c.loop-class.marks c.add_ends.new.next.items c.add_ends.new.marks = c.in_ok-add_ends.ensures in
    next_step (class_in c.args.class_of.now) c.args.lists.now c.args.last.now c.loop-class.class-index 0 c.args.clocked.now [] c.args.marks.now
    c.loop-class.next.items c.loop-class.marks c.add_ends.new.next.items c.add_ends.new.marks within c.loop-class.invariant
    (subst (λ l. Queues (IsOtherEnd (class_in c.args.class_of.now) (get_or c.args.last.now c.loop-class.class-index 0) l)
    c.args.clocked.now c.loop-class.next.items c.loop-class.marks c.add_ends.new.next.items c.add_ends.new.marks) list added)
