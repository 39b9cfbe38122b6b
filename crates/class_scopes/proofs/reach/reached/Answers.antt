use Rattle.std.proofs.Common.{rules, ◌≡◌, refl, ◌<◌, [], length, Some, false, subst, sym, replicate, arith, slice_get}
use Rattle.std.proofs.lemmas.Option.{slice_get_read}
use Rattle.class_scopes.specs.Reached.{IsReached}
use Rattle.class_scopes.specs.private.Reaching.{AreListed}
use Rattle.class_scopes.proofs.Marks.{count_most, marked, none_listed, closed_more, are_reached}
use Rattle.class_scopes.proofs.reach.reached.Goals as goal

pub loop-turn-init : goal.loop-turn-init
loop-turn-init c =
    let text = c.args.file.now.text.now in
    let classes = c.args.file.now.classes.now in
    let clear : c.in_ok-seen.seen.items ≡ replicate (length classes) false = search rules in
    let empty : c.new-reached.result.items ≡ [] = c.new-reached.ensures.items in
    let none = subst (λ s. AreListed text classes c.args.chosen s c.new-reached.result.items) (sym clear)
    (subst (AreListed text classes c.args.chosen (replicate (length classes) false)) (sym empty) (none_listed text classes c.args.chosen (length classes) refl)) in
    let all = marked text classes c.args.chosen c.args.chosen c.in_ok-seen.seen.items c.mark.new.seen.items c.new-reached.result.items c.mark.new.reached.items
    none IsReached.itself (omega (arith, none.size, c.requires)) c.in_ok-mark.ensures in
    record {
      are = all.are;
      start = all.here;
      closed = λ k class below. absurd (omega (arith, below));
    }

pub returns-then-turn-len : goal.returns-then-turn-len
returns-then-turn-len c =
    are_reached c.args.file.now.text.now c.args.file.now.classes.now c.args.chosen c.loop-turn.seen.items c.loop-turn.reached.items c.loop-turn.turn
    c.loop-turn.invariant.are c.loop-turn.invariant.start c.loop-turn.invariant.closed (search rules)

pub loop-turn-preserved : goal.loop-turn-preserved
loop-turn-preserved c =
    let text = c.args.file.now.text.now in
    let classes = c.args.file.now.classes.now in
    let grows = c.in_ok-mark_parts.ensures.grows in
    let within : c.loop-turn.turn < length c.loop-turn.reached.items = search rules in
    let class = c.index-class.result.now in
    let at : slice_get c.loop-turn.reached.items c.loop-turn.turn ≡ Some class = slice_get_read c.loop-turn.reached.items (length c.loop-turn.reached.items) c.loop-turn.turn class refl within c.index-class.ensures in
    record {
      are = grows.are;
      start = grows.keeps c.args.chosen c.loop-turn.invariant.start;
      closed = closed_more text classes c.args.chosen c.loop-turn.seen.items c.mark_parts.new.seen.items c.loop-turn.reached.items c.mark_parts.new.reached.items c.loop-turn.turn class
          c.loop-turn.invariant.closed at c.in_ok-mark_parts.ensures.parts grows.keeps grows.front;
    }

pub returns : goal.returns
returns c =
    let all = c.loop-turn.invariant in
    let most = count_most c.loop-turn.seen.items in
    are_reached c.args.file.now.text.now c.args.file.now.classes.now c.args.chosen c.loop-turn.seen.items c.loop-turn.reached.items c.loop-turn.turn
    all.are all.start all.closed (omega (arith, all.are.counted, all.are.size, most))
