use Rattle.std.proofs.Common.{rules, ◌≡◌, ◌+◌, ◌<◌, length, [], ◌∷◌, ◌++◌, take, drop, get_or, ap, subst, sym, ◌∙◌}
use Rattle.std.proofs.lemmas.List.{take_more}
use Rattle.clock_terms.specs.Nodes.{nodes_of_equation, nodes_from}
use Rattle.flat_model.specs.Models.{clause_of}
use Rattle.clock_terms.specs.Gathered.{with_nodes, IsClauseBelow}
use Rattle.clock_terms.specs.private.Leads.{clock_at, AreLeads, HaveBegun}
use Rattle.clock_terms.proofs.Leading.{equation_more, same_clock, length_taken}
use Rattle.clock_terms.proofs.gather.all_terms.Goals as goal

pub loop-i-preserved : goal.loop-i-preserved
loop-i-preserved c =
    let i = c.loop-i.i in
    let equations = c.args.equations.now in
    let equation = c.index-equations-i.result in
    let within : c.loop-i.i < length c.args.equations.now = search rules in
    let is : c.index-equations-i.result ≡ get_or c.args.equations.now c.loop-i.i c.index-equations-i.result = search rules in
    let number : c.in-Ok.number ≡ c.loop-i.i = search rules in
    let below : IsClauseBelow (length c.loop-i.leads) (clause_of c.index-equations-i.result) = search rules in
    let e : c.equation_terms.new.terms ≡ with_nodes c.args.names.now c.loop-i.terms (nodes_of_equation (clock_at c.args.clauses.now c.loop-i.leads (clause_of c.index-equations-i.result)) c.in-Ok.number c.index-equations-i.result) = search rules in
    let more : take (i + 1) equations ≡ take i equations ++ equation ∷ [] = take_more equations i equation within ∙ ap (λ x. take i equations ++ x ∷ []) (sym is) in
    let leads : AreLeads c.args.names.now c.equation_terms.new.terms.nodes c.equation_terms.new.leads = search rules in
    let begun : HaveBegun (take c.loop-i.i c.args.equations.now ++ c.index-equations-i.result ∷ []) c.equation_terms.new.leads = search rules in
    let size : length c.equation_terms.new.leads ≡ length c.args.leads.now = search rules in
    let clock = same_clock c.args.clauses.now (take i equations) c.loop-i.leads (clause_of equation) below c.loop-i.invariant.2 in (
      ap (λ before. with_nodes c.args.names.now c.equation_terms.new.terms (nodes_from c.args.clauses.now before (drop (i + 1) equations))) more
          ∙ equation_more c.args.names.now c.args.clauses.now c.loop-i.terms c.equation_terms.new.terms equations i equation (clock_at c.args.clauses.now c.loop-i.leads (clause_of equation)) (take i equations) within is
          (length_taken i equations within) clock (e ∙ ap (λ k. with_nodes c.args.names.now c.loop-i.terms (nodes_of_equation (clock_at c.args.clauses.now c.loop-i.leads (clause_of equation)) k equation)) number)
          ∙ c.loop-i.invariant.0,
      leads,
      subst (λ before. HaveBegun before c.equation_terms.new.leads) (sym more) begun,
      size,
    )
