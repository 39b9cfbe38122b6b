use Rattle.std.proofs.Common.{rules, ◌∙◌, ◌^◌, sym}
use Rattle.std.proofs.lemmas.List.Elements.{All-contains}
use Rattle.clock_terms.specs.Position.{IsFine}
use Rattle.clock_check.proofs.Lacking.{lacks_law}
use Rattle.clock_check.proofs.factor.lacks_factor.Goals as goal

pub fits-requires-clause-derived : goal.fits-requires-clause-derived
fits-requires-clause-derived c = All-contains (IsFine (2 ^ 40)) c.args.grids.now c.in-Some.derived c.requires.fine (c.in-Some.ensures.within)

pub fits-requires-clause-argument : goal.fits-requires-clause-argument
fits-requires-clause-argument c = All-contains (IsFine (2 ^ 40)) c.args.grids.now c.in-Some-grid_of_class.argument c.requires.fine (c.in-Some-grid_of_class.ensures.within)

pub returns : goal.returns
returns c = λ clocked are.
    lacks_law c.args.class_of.now clocked c.args.grids.now c.args.relation c.in-Some.derived c.in-Some-grid_of_class.argument c.fits.result (c.is_inferred.ensures.0 (search rules))
    (sym (c.grid_of_class.ensures.grid clocked are) ∙ c.in-Some.is) (sym (c.grid_of_class-2.ensures.grid clocked are) ∙ c.in-Some-grid_of_class.is) c.fits.ensures
