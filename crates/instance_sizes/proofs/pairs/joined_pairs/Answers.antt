use Rattle.std.proofs.Common.{◌∙◌, ap, min, length, arith}
use Rattle.class_scopes.specs.Tables.{number_of}
use Rattle.connection_equations.specs.Connections.{kept_pairs}
use Rattle.class_sizes.proofs.Counts.{one_added, all_added}
use Rattle.instance_sizes.proofs.Naming.{pairs_counted, all_by_now}
use Rattle.instance_sizes.proofs.pairs.joined_pairs.Goals as goal

pub loop-item-preserved : goal.loop-item-preserved
loop-item-preserved c =
    let text = c.args.joiner.now.scopes.now.named.file.text.now in
    let classes = c.args.joiner.now.scopes.now.named.file.classes.now in
    let number = number_of c.args.joiner.now.names.now in
    one_added (λ item. length (kept_pairs text classes number item)) c.args.items.now c.loop-item.item-index c.item-item.result (omega arith) c.item-item.is 65537
    c.loop-item.count c.in_ok-item_pairs.field-0 c.added-count.result c.loop-item.invariant c.in_ok-item_pairs.ensures c.added-count.ensures

pub returns : goal.returns
returns c =
    let text = c.args.joiner.now.scopes.now.named.file.text.now in
    let classes = c.args.joiner.now.scopes.now.named.file.classes.now in
    let number = number_of c.args.joiner.now.names.now in
    all_added (λ item. length (kept_pairs text classes number item)) c.args.items.now c.loop-item.item-index (omega arith) 65537 c.loop-item.count c.loop-item.invariant
    ∙ ap (λ n. min n 65537) (pairs_counted text classes number c.args.items.now)

pub returns-then-count-eq-MANY_EQUATIONS : goal.returns-then-count-eq-MANY_EQUATIONS
returns-then-count-eq-MANY_EQUATIONS c =
    let text = c.args.joiner.now.scopes.now.named.file.text.now in
    let classes = c.args.joiner.now.scopes.now.named.file.classes.now in
    let number = number_of c.args.joiner.now.names.now in
    all_by_now (λ item. length (kept_pairs text classes number item)) c.args.items.now c.loop-item.item-index 65537 c.loop-item.count c.loop-item.invariant c.if-count-eq-MANY_EQUATIONS.true
    ∙ ap (λ n. min n 65537) (pairs_counted text classes number c.args.items.now)
