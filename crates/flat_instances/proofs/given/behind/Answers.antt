use Rattle.std.proofs.Common.{◌∙◌, sym, ◌<◌, map, length, arith}
use Rattle.std.proofs.lemmas.List.{length-map}
use Rattle.flat_instances.proofs.Givings.{empty_behind}
use Rattle.flat_instances.proofs.given.behind.Goals as goal

pub returns-in-empty : goal.returns-in-empty
returns-in-empty c =
    let short : length (map (λ name. name.now) c.loop-part.rest.now) < 1 = omega (arith, length-map c.loop-part.rest.now (λ name. name.now), c.in-empty.len_below) in
    sym (empty_behind c.args.text.now c.args.parts.now c.loop-part.part-index (map (λ name. name.now) c.loop-part.rest.now) (omega arith) short) ∙ c.loop-part.invariant
