use Rattle.std.proofs.Common.{◌∙◌, ap₂, ◌-◌}
use Rattle.source_tokens.proofs.Counts.{piece_counts}
use Rattle.source_tokens.proofs.starts.Starts.count.Goals as goal

pub returns : goal.returns
returns c = c.saturating_sub.ensures ∙ ap₂ (λ a b. a - b) c.before-2.ensures c.before-3.ensures ∙ piece_counts c.args.self.now.tokens.now c.args.at c.args.end
