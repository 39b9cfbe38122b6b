use Rattle.std.proofs.Common.{option_map}
use Rattle.class_scopes.specs.Reached.{chosen_by}
use Rattle.mo_flatten.proofs.Staged.{names_end}
use Rattle.mo_flatten.proofs.rules.scoped.Goals as goal

pub with_scopes-requires : goal.with_scopes-requires
with_scopes-requires c =
    (c.args.text.now, c.args.classes.now, chosen_by c.args.text.now c.args.classes.now (option_map (λ name. name.now) c.args.class), c.in-Ok.ensures)

pub returns-in-Ok : goal.returns-in-Ok
returns-in-Ok c =
    c.with_scopes.ensures c.args.text.now c.args.classes.now (chosen_by c.args.text.now c.args.classes.now (option_map (λ name. name.now) c.args.class)) c.in-Ok.ensures

pub returns-in-Err : goal.returns-in-Err
returns-in-Err c = names_end c.args.text.now c.args.classes.now (chosen_by c.args.text.now c.args.classes.now (option_map (λ name. name.now) c.args.class)) c.in-Err.end c.in-Err.ensures
