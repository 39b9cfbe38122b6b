use Rattle.std.proofs.Common.{rules, ◌≡◌, None}
use Rattle.std.specs.Option.{option_copied}
use Rattle.clock_terms.specs.Mentions.{clock_mentions, clock_cuts}
use Rattle.clock_terms.specs.Nodes.{side_mentions, side_cuts}
use Rattle.flat_model.specs.Models.{clause_of}
use Rattle.clock_terms.specs.Gathered.{with_mentions, with_cuts, with_place, next_number}
use Rattle.clock_terms.specs.private.Leads.{clock_at, AreLeads}
use Rattle.clock_terms.proofs.Leading.{of_equation, lead_leads, equation_leads, on_ok}
use Rattle.clock_terms.proofs.gather.equation_terms.Goals as goal

pub own_node-requires-clause-leads : goal.own_node-requires-clause-leads
own_node-requires-clause-leads c =
    let e : c.lead_parts.new.terms ≡ with_cuts c.args.names.now c.args.number c.args.terms.now (clock_cuts (option_copied c.leading-clock.result)) = search rules in
    lead_leads c.args.names.now c.args.number c.args.terms.now c.lead_parts.new.terms (clock_cuts (option_copied c.leading-clock.result)) c.args.leads.now c.requires.leads e

pub returns-clause-terms : goal.returns-clause-terms
returns-clause-terms c =
    let clock = clock_at c.args.clauses.now c.args.leads.now (clause_of c.args.equation.now) in
    let e₁ : c.lead_parts.new.terms ≡ with_cuts c.args.names.now c.args.number c.args.terms.now (clock_cuts (clock_at c.args.clauses.now c.args.leads.now (clause_of c.args.equation.now))) = search rules in
    let en : c.in_ok-at.at.node ≡ next_number c.args.names.now c.lead_parts.new.terms = search rules in
    let ee : c.in_ok-at.at.equation ≡ c.args.number = search rules in
    let e₂ : c.own_node.new.terms ≡ with_place c.args.names.now c.args.number None (clause_of c.args.equation.now) c.lead_parts.new.terms = search rules in
    let e₃ : c.lead_walk.new.terms ≡ with_mentions c.args.names.now c.in_ok-at.at c.own_node.new.terms (clock_mentions (clock_at c.args.clauses.now c.args.leads.now (clause_of c.args.equation.now))) = search rules in
    let e₄ : c.sides_walk.new.terms ≡ with_mentions c.args.names.now c.in_ok-at.at c.lead_walk.new.terms (side_mentions c.args.equation.now) = search rules in
    on_ok _ _ c.side_parts.result
    (λ e₅. of_equation c.args.names.now c.args.number c.args.terms.now c.lead_parts.new.terms c.own_node.new.terms c.lead_walk.new.terms c.sides_walk.new.terms c.side_parts.new.terms c.in_ok-at.at clock c.args.equation.now e₁ en ee e₂ e₃ e₄ e₅)
    c.side_parts.ensures

pub returns-clause-leads : goal.returns-clause-leads
returns-clause-leads c =
    let h : AreLeads c.args.names.now c.own_node.new.terms.nodes c.own_node.new.leads = search rules in
    let e₃ : c.lead_walk.new.terms ≡ with_mentions c.args.names.now c.in_ok-at.at c.own_node.new.terms (clock_mentions (option_copied c.leading-clock.result)) = search rules in
    let e₄ : c.sides_walk.new.terms ≡ with_mentions c.args.names.now c.in_ok-at.at c.lead_walk.new.terms (side_mentions c.args.equation.now) = search rules in
    on_ok _ _ c.side_parts.result
    (λ e₅. equation_leads c.args.names.now c.args.number c.own_node.new.terms c.lead_walk.new.terms c.sides_walk.new.terms c.side_parts.new.terms c.in_ok-at.at (clock_mentions (option_copied c.leading-clock.result)) (side_mentions c.args.equation.now) (side_cuts c.args.equation.now) c.own_node.new.leads h e₃ e₄ e₅)
    c.side_parts.ensures
