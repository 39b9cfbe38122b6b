use Rattle.std.proofs.Common.{rules, arith, ◌∙◌, ◌<◌, ◌≤◌, ◌^◌, sym, subst, length, get_or}
use Rattle.clock_terms.specs.Position.{IsFine}
use Rattle.clock_spread.specs.Found.{class_in}
use Rattle.sub_clock_solve.proofs.Seeds.{IsSeeded, seed_agree, seed_fine, seed_kept, seed_all_of}
use Rattle.sub_clock_solve.proofs.seed.seed_all.Goals as goal

pub loop-given-preserved : goal.loop-given-preserved
loop-given-preserved c =
    let i = c.loop-given.given-index in
    let given = c.given-item.result in
    let within : c.loop-given.given-index < length c.args.givens.now = search rules in
    let fine : IsFine (2 ^ 40) given.grid = subst (λ g. IsFine (2 ^ 40) g.grid) (sym c.given-item.is) (c.requires.fine i given within) in
    let seeds : IsSeeded c.args.clocked.now (class_in c.args.class_of.now given.node) given.grid c.loop-given.found c.seed.new.found = c.seed.ensures.seeds in
    let at : IsSeeded c.args.clocked.now (class_in c.args.class_of.now (get_or c.args.givens.now i given).node) (get_or c.args.givens.now i given).grid c.loop-given.found c.seed.new.found =
    subst (λ g. IsSeeded c.args.clocked.now (class_in c.args.class_of.now g.node) g.grid c.loop-given.found c.seed.new.found) c.given-item.is seeds in
    record {
      length = c.seed.ensures.length ∙ c.loop-given.invariant.length;
      fine = seed_fine c.args.clocked.now (class_in c.args.class_of.now given.node) given.grid c.loop-given.found c.seed.new.found fine seeds c.loop-given.invariant.fine;
      kept = seed_kept c.args.clocked.now (class_in c.args.class_of.now given.node) given.grid c.loop-given.found c.seed.new.found seeds c.loop-given.invariant.kept;
      agree = λ sources are. seed_agree c.args.class_of.now c.args.clocked.now sources c.args.givens.now i given c.loop-given.found c.seed.new.found are within at (c.loop-given.invariant.agree sources are);
    }

pub returns-clause-agree : goal.returns-clause-agree
returns-clause-agree c = λ sources are.
    let past : length c.args.givens.now ≤ c.loop-given.given-index = omega arith in
    seed_all_of c.args.class_of.now c.args.clocked.now sources c.args.givens.now c.loop-given.given-index c.loop-given.found are past (c.loop-given.invariant.agree sources are)
