use Rattle.std.proofs.Common.{◌≡◌, take, drop, length, []}
use Rattle.clock_terms.specs.Nodes.{nodes_from}
use Rattle.clock_terms.specs.Gathered.{with_nodes}
use Rattle.clock_terms.specs.private.Leads.{AreLeads, HaveBegun}
use Rattle.clock_terms.proofs.gather.all_terms.Given as goal

abbrev pub invariant-loop-i : goal.invariant-loop-i
invariant-loop-i l =
    (with_nodes l.fn.names l.terms (nodes_from l.fn.clauses (take l.i l.fn.equations) (drop l.i l.fn.equations)) ≡ with_nodes l.fn.names l.fn.terms (nodes_from l.fn.clauses [] l.fn.equations))
    × AreLeads l.fn.names l.terms.nodes l.leads
    × HaveBegun (take l.i l.fn.equations) l.leads
    × (length l.leads ≡ length l.fn.leads)
