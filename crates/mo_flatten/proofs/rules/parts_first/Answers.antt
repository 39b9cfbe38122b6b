use Rattle.mo_flatten.proofs.Staged.{order_end, keeps_four}
use Rattle.mo_flatten.proofs.rules.parts_first.Goals as goal

pub returns-in-Ok : goal.returns-in-Ok
returns-in-Ok c =
    let named = c.args.scopes.now.named in
    (c.in-Ok.ensures.1, keeps_four named.file.text.now named.file.classes.now named.chosen c.requires.keeps c.in-Ok.ensures.0)

pub returns-in-Err : goal.returns-in-Err
returns-in-Err c =
    let named = c.args.scopes.now.named in
    order_end named.file.text.now named.file.classes.now named.chosen c.requires.keeps c.in-Err.end c.in-Err.ensures
