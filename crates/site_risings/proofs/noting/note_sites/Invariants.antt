use Rattle.site_risings.specs.Risings.{NotedTo}
use Rattle.site_risings.proofs.noting.note_sites.Given as goal

abbrev pub invariant-loop-site : goal.invariant-loop-site
invariant-loop-site g l = NotedTo l.answers l.fn.low (g.P.TickSource.planned l.fn.plan) l.site (g.P.TickSource.planned l.plan) l.low
