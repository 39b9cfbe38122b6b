use Rattle.std.proofs.Common.{rules, ◌≡◌, length, None, [], ◌∷◌, ◌++◌}
use Rattle.clock_terms.specs.Gathered.{with_clause, next_number}
use Rattle.clock_terms.specs.private.Leads.{leads_with}
use Rattle.clock_terms.proofs.Leading.{own_leads}
use Rattle.clock_terms.proofs.node.own_node.Goals as goal

pub returns-clause-leads : goal.returns-clause-leads
returns-clause-leads c =
    let en : c.in_ok-at.at.node ≡ next_number c.args.names.now c.args.terms.now = search rules in
    let eu : c.lead.new.terms ≡ with_clause (length c.args.names.now) c.in_ok-at.at.node c.args.clause c.args.terms.now = search rules in
    let es : c.push.new.self ≡ c.lead.new.terms.nodes ++ record { equation = c.args.equation; cause = None; clause = c.args.clause } ∷ [] = search rules in
    let el : c.lead.new.leads ≡ leads_with c.args.leads.now c.in_ok-at.at.node c.args.clause = search rules in
    own_leads c.args.names.now c.args.terms.now c.lead.new.terms c.push.new.self c.args.leads.now c.lead.new.leads c.in_ok-at.at.node c.args.equation c.args.clause c.requires.below c.requires.leads en eu es el
