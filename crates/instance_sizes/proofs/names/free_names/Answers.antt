use Rattle.std.proofs.Common.{◌∙◌, ap, flat_map, arith}
use Rattle.std.proofs.lemmas.List.{take_all}
use Rattle.instance_sizes.specs.private.Measures.{free_name}
use Rattle.instance_sizes.proofs.Naming.{names_all}
use Rattle.instance_sizes.proofs.names.free_names.Goals as goal

pub returns : goal.returns
returns c text classes =
    c.loop-item.invariant ∙ ap (flat_map free_name) (take_all c.loop-item.item-index c.args.items.now (omega arith)) ∙ names_all text classes c.args.items.now
