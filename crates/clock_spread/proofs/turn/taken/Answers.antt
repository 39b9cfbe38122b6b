use Rattle.std.proofs.Common.{rules, ◌≡◌, ◌∙◌, ◌<◌, length, get_or, slice_index_or, [], subst, sym, true, All}
use Rattle.std.proofs.lemmas.List.{get_or_default}
use Rattle.clock_spread.specs.Found.{class_in, touches}
use Rattle.clock_spread.proofs.turn.taken.Goals as goal

pub take-requires-clause-touches : goal.take-requires-clause-touches
take-requires-clause-touches c =
    let within : c.loop-class.class-index < length c.args.next.now = search rules in
    let class = get_or c.args.next.now c.loop-class.class-index 0 in
    let inside : class < length c.args.lists.now = c.requires.next c.loop-class.class-index 0 within in
    let list : c.as_slice.result.now ≡ slice_index_or c.args.lists.now class [] =
    c.as_slice.ensures ∙ c.index-lists-class.is ∙ get_or_default c.args.lists.now class c.index-lists-class.result [] inside in
    subst (λ l. All (λ r. touches (class_in c.args.class_of.now) class r ≡ true) l) (sym list) (c.requires.touches class inside)
