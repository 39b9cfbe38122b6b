use Rattle.std.proofs.Common.{refl, option_map}
use Rattle.flat_instances.specs.Kept.{placed_in}
use Rattle.item_sizes.proofs.Measuring.{variable_sized}
use Rattle.item_sizes.proofs.measure.Measure.variable_size.Goals as goal

pub returns : goal.returns
returns c =
    let name = c.args.variable.now.name in
    variable_sized c.args.self.now.scopes.now.named.file.text.now c.args.self.now.scopes.now.named.file.classes.now c.args.self.now.starts.now.tokens.now c.args.variable.now
    c.is_fixed-fixed.result (option_map (placed_in name) c.args.variable.now.binding) (option_map (placed_in name) c.start_of-start.result) c.binding_equations.result c.binding_tokens-tokens.result
    c.given_tokens.result c.added.result c.is_fixed-fixed.ensures refl c.start_of-start.ensures (c.binding_equations.ensures name) (c.binding_tokens-tokens.ensures name)
    (c.given_tokens.ensures name) c.added.ensures
