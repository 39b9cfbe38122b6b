use Rattle.std.proofs.Common.{rules, ◌≡◌, ◌<◌, length, get_or, ◌∙◌}
use Rattle.clock_terms.specs.Mentions.{seen}
use Rattle.clock_terms.specs.Gathered.{with_mentions}
use Rattle.clock_terms.proofs.Mentioned.{with_part}
use Rattle.clock_terms.proofs.walk.+walk.Goals as goal

pub walk_all-loop-part-preserved : goal.walk_all-loop-part-preserved
walk_all-loop-part-preserved t c =
    let is : c.part-item.result ≡ get_or c.args.parts.now c.loop-part.part-index c.part-item.result = search rules in
    let within : c.loop-part.part-index < length c.args.parts.now = search rules in
    let added : c.walk.new.terms ≡ with_mentions c.args.names.now c.args.at c.loop-part.terms (seen c.part-item.result).mentions = search rules in
    with_part c.args.names.now c.args.at c.loop-part.terms c.walk.new.terms c.args.parts.now c.loop-part.part-index c.part-item.result within is added ∙ c.loop-part.invariant
