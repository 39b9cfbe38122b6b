use Rattle.item_sizes.proofs.Measuring.{own_sized}
use Rattle.item_sizes.proofs.measure.Measure.item_size.Goals as goal

pub returns-in-Own : goal.returns-in-Own
returns-in-Own c =
    own_sized c.args.self.now.scopes.now.named.file.text.now c.args.self.now.scopes.now.named.file.classes.now c.args.self.now.starts.now.tokens.now c.args.item.now _ _
    c.args.self.now.equations.now c.args.self.now.tokens.now c.number_at.result c.number_at-in-Own.result c.in-Own.is c.args.self.now.counted c.number_at.ensures c.number_at-in-Own.ensures
