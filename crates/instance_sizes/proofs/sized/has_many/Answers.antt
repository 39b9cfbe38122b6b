use Rattle.instance_sizes.proofs.Deciding.{many_names, many_or_few}
use Rattle.instance_sizes.proofs.sized.has_many.Goals as goal

pub returns-then-total-eq-MANY_EQUATIONS : goal.returns-then-total-eq-MANY_EQUATIONS
returns-then-total-eq-MANY_EQUATIONS c =
    many_names c.args.file.now.text.now c.args.file.now.classes.now c.args.class c.as_slice.result.now c.in_ok-total.total c.as_slice.ensures c.in_ok-total.ensures
    c.if-total-eq-MANY_EQUATIONS.true

pub returns : goal.returns
returns c =
    many_or_few c.args.file.now.text.now c.args.file.now.classes.now c.args.class c.as_slice.result.now c.in_ok-total.total c.as_slice.ensures c.in_ok-total.ensures
    c.if-total-eq-MANY_EQUATIONS.false c.args.equations.now c.requires c.in_ok-total-2.total c.in_ok-total-2.ensures
