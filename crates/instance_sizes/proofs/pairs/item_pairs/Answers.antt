use Rattle.std.proofs.Common.{◌∙◌, ap, length}
use Rattle.class_scopes.specs.Tables.{number_of}
use Rattle.instance_sizes.proofs.Naming.{one_item}
use Rattle.instance_sizes.proofs.pairs.item_pairs.Goals as goal

pub returns : goal.returns
returns c =
    c.len.ensures ∙ ap length c.in_ok-pairs.ensures
    ∙ one_item c.args.joiner.now.scopes.now.named.file.text.now c.args.joiner.now.scopes.now.named.file.classes.now (number_of c.args.joiner.now.names.now) c.args.item.now c.from_ref.result.now
    c.from_ref.ensures.value
