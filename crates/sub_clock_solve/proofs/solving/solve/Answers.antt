use Rattle.std.proofs.Common.{rules, ◌≡◌, [], sym, subst}
use Rattle.sub_clock_solve.specs.Solving.{IsSolution}
use Rattle.sub_clock_solve.proofs.Fitting.{some_classes, no_classes, some_length}
use Rattle.sub_clock_solve.proofs.solving.solve.Goals as goal

pub returns-then-is_empty : goal.returns-then-is_empty
returns-then-is_empty c =
    let empty : c.args.classes.now.clocked ≡ [] = search rules in
    let list : c.new.result ≡ [] = search rules in
    subst (λ l. IsSolution c.args.terms.now c.args.classes.now l) (sym list) (no_classes c.args.terms.now c.args.classes.now empty c.requires)

pub solve_some-requires : goal.solve_some-requires
solve_some-requires c =
    let some = some_length c.args.classes.now.clocked (λ e. absurd (search (rules, c.is_empty.ensures.1 (search (rules, e))))) in
    some_classes c.args.terms.now c.args.classes.now some c.requires
