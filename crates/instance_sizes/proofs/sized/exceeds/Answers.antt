use Rattle.std.proofs.Common.{map}
use Rattle.flat_instances.specs.Kept.{seen}
use Rattle.instance_sizes.proofs.Deciding.{more_equations, more_or_not}
use Rattle.instance_sizes.proofs.sized.exceeds.Goals as goal

pub returns-then-equations-eq-MANY_EQUATIONS : goal.returns-then-equations-eq-MANY_EQUATIONS
returns-then-equations-eq-MANY_EQUATIONS c =
    let text = c.args.measure.now.scopes.now.named.file.text.now in
    let classes = c.args.measure.now.scopes.now.named.file.classes.now in
    let tokens = c.args.measure.now.starts.now.tokens.now in
    more_equations text classes tokens (map (seen text classes) c.args.items.now) c.size-size.result.equations c.in_ok-pairs.pairs c.added-equations.result
    c.size-size.ensures.equations_are c.in_ok-pairs.ensures c.added-equations.ensures c.if-equations-eq-MANY_EQUATIONS.true

pub returns : goal.returns
returns c =
    let text = c.args.measure.now.scopes.now.named.file.text.now in
    let classes = c.args.measure.now.scopes.now.named.file.classes.now in
    let tokens = c.args.measure.now.starts.now.tokens.now in
    more_or_not text classes tokens (map (seen text classes) c.args.items.now) c.size-size.result.equations c.in_ok-pairs.pairs c.added-equations.result
    c.size-size.ensures.equations_are c.in_ok-pairs.ensures c.added-equations.ensures c.size-size.result.tokens
    c.size-size.ensures.tokens_are c.if-equations-eq-MANY_EQUATIONS.false
