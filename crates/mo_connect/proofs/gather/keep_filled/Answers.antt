use Rattle.std.proofs.Common.{rules}
use Rattle.std.proofs.lemmas.List.Elements.{filter_from_retain}
use Rattle.mo_connect.specs.private.Gathered.{is_filled}
use Rattle.mo_connect.proofs.gather.keep_filled.Goals as goal

pub returns : goal.returns
returns c = filter_from_retain _ is_filled (λ p list stays q says. search rules) _ _ _ c.retain.ensures.filtered
