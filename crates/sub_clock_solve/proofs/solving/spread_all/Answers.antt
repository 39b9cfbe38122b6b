use Rattle.std.proofs.Common.{rules, ◌≡◌, ◌∙◌, ◌++◌, sym, ap, subst, length, take, drop}
use Rattle.std.proofs.Math.Seq.{take-append_seam}
use Rattle.clock_spread.specs.Found.{Agree, NoneLost}
use Rattle.clock_spread.specs.Turn.{said_by, Settles}
use Rattle.sub_clock_solve.specs.private.Seeding.{start_of}
use Rattle.sub_clock_solve.proofs.Rounding.{start_proper}
use Rattle.sub_clock_solve.proofs.Seeds.{start_fine}
use Rattle.sub_clock_solve.proofs.solving.spread_all.Goals as goal

pub returns-clause-start : goal.returns-clause-start
returns-clause-start c = λ sources are proper.
    start_fine c.args.class_of.now c.args.clocked.now sources c.in_ok-found.found.items c.in_ok-found.ensures.fine c.in_ok-found.ensures.kept (c.in_ok-found.ensures.agree sources are) proper

pub returns-clause-settles : goal.returns-clause-settles
returns-clause-settles c = λ sources are proper.
    let items : c.deref_mut.result.now ≡ c.in_ok-found.found.items = search rules in
    let start = start_of c.args.class_of.now c.args.clocked.now sources in
    let size : c.in_ok-found.found.len ≡ length c.spread.new.found = search rules in
    let same : take c.in_ok-found.found.len (c.spread.new.found ++ drop (length c.spread.new.found) c.in_ok-found.found.items) ≡ c.spread.new.found =
    ap (λ n. take n (c.spread.new.found ++ drop (length c.spread.new.found) c.in_ok-found.found.items)) size ∙ take-append_seam c.spread.new.found (drop (length c.spread.new.found) c.in_ok-found.found.items) in
    let settles = c.in_ok-lost.ensures.settles start (subst (λ l. Agree l start) (sym items) (c.in_ok-found.ensures.agree sources are)) (start_proper c.args.class_of.now c.args.clocked.now sources proper)
    (subst (λ l. NoneLost l) (sym items) c.in_ok-found.ensures.kept) in
    subst (λ l. Settles (said_by c.args.class_of.now c.args.clocked.now c.args.relations.now) start l c.in_ok-lost.lost) (sym same) settles
