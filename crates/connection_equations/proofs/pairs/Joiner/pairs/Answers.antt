use Rattle.std.proofs.Common.{◌∙◌, ap, flat_map, arith}
use Rattle.std.proofs.lemmas.List.{take_all}
use Rattle.class_scopes.specs.Tables.{number_of}
use Rattle.connection_equations.specs.Connections.{kept_pairs}
use Rattle.connection_equations.proofs.Belows.{pairs_seen}
use Rattle.connection_equations.proofs.pairs.Joiner.pairs.Goals as goal

pub returns : goal.returns
returns c =
    let text = c.args.self.now.scopes.now.named.file.text.now in
    let classes = c.args.self.now.scopes.now.named.file.classes.now in
    let number = number_of c.args.self.now.names.now in
    c.loop-item.invariant ∙ ap (flat_map (kept_pairs text classes number)) (take_all c.loop-item.item-index c.args.items.now (omega arith))
    ∙ pairs_seen text classes number c.args.items.now
