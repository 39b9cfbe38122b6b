use Rattle.std.proofs.Common.{rules, ◌≡◌, ◌∙◌, ◌+◌, ◌<◌, ◌^◌, sym, ap, subst, None, length, take, All}
use Rattle.rational_time.specs.Multiple.{HasMultipleBelow}
use Rattle.clock_terms.specs.Source.{sources_of}
use Rattle.clock_terms.specs.Least.{IsLeast}
use Rattle.sub_clock_solve.specs.Grain.{denominators}
use Rattle.sub_clock_solve.specs.private.Gathering.{kept_grids}
use Rattle.sub_clock_solve.specs.Solving.{said_of, FailsAt, IsSolution}
use Rattle.sub_clock_solve.proofs.Giving.{given_nodes, all_fine}
use Rattle.sub_clock_solve.proofs.Rounding.{final_agree, final_proper}
use Rattle.sub_clock_solve.proofs.Ending.{past_at, grids, ends, solved, conflict_none}
use Rattle.sub_clock_solve.proofs.solving.fitting.Goals as goal

pub returns-in-Some : goal.returns-in-Some
returns-in-Some c =
    let clocked : c.as_slice-clocked.result.now ≡ c.args.classes.now.clocked = search rules in
    let facts = subst (λ l. (c.in-Some.class < length l)
    × HasMultipleBelow (2 ^ 40) (denominators (kept_grids (take c.in-Some.class c.args.found.now) (take c.in-Some.class l)))
    × (HasMultipleBelow (2 ^ 40) (denominators (kept_grids (take (c.in-Some.class + 1) c.args.found.now) (take (c.in-Some.class + 1) l))) → ⊥)) clocked (c.in-Some.ensures {u = tt}) in
    past_at c.args.terms.now c.args.classes.now c.args.found.now c.requires.spread c.requires.known c.in-Some.class facts.0 facts.1 facts.2

pub conflict-requires-clause-nodes : goal.conflict-requires-clause-nodes
conflict-requires-clause-nodes c =
    let class_of : c.as_slice-class_of.result.now ≡ c.args.classes.now.class_of = search rules in
    subst (λ l. All (λ given. given.node < length l) c.args.givens.now) (sym class_of)
    (given_nodes (λ n. n < length c.args.classes.now.class_of) c.args.terms.now.constructors c.args.givens.now c.requires.fit.nodes c.requires.givens)

pub conflict-requires-clause-givens : goal.conflict-requires-clause-givens
conflict-requires-clause-givens c = all_fine c.args.givens.now (sources_of c.args.terms.now.constructors) c.requires.givens

pub returns-in-Some-conflict : goal.returns-in-Some-conflict
returns-in-Some-conflict c =
    let terms = c.args.terms.now in
    let classes = c.args.classes.now in
    let found = c.args.found.now in
    let class_of : c.as_slice-class_of.result.now ≡ c.args.classes.now.class_of = search rules in
    let relations : c.as_slice.result.now ≡ c.args.terms.now.relations = search rules in
    let clocked : c.as_slice-clocked.result.now ≡ c.args.classes.now.clocked = search rules in
    let held = ends terms classes found c.requires.spread c.requires.known in
    let fails = c.in-Some-conflict.ensures {u = tt} held (sources_of terms.constructors) (final_agree terms classes found None c.requires.spread) (final_proper terms classes found None c.requires.spread) c.requires.givens c.requires.spread.proper in
    let least : IsLeast (FailsAt (said_of terms classes) held) c.in-Some-conflict.equation = rw (class_of, relations) at fails in
    let fine : HasMultipleBelow (2 ^ 40) (denominators (kept_grids found classes.clocked)) = rw clocked at (c.in_default.ensures {u = tt}) in
    let whole = solved terms classes found c.requires.spread c.requires.known in (
      (held, grids terms classes found c.requires.spread c.requires.known, whole, fine, least),
      conflict_none (said_of terms classes) held c.in-Some-conflict.equation c.requires.spread.proper whole.gotten least.0,
    )

pub returns : goal.returns
returns c =
    let terms = c.args.terms.now in
    let classes = c.args.classes.now in
    let found = c.args.found.now in
    let class_of : c.as_slice-class_of.result.now ≡ c.args.classes.now.class_of = search rules in
    let relations : c.as_slice.result.now ≡ c.args.terms.now.relations = search rules in
    let clocked : c.as_slice-clocked.result.now ≡ c.args.classes.now.clocked = search rules in
    let held = ends terms classes found c.requires.spread c.requires.known in
    let none = c.in_default-conflict.ensures {u = tt} held (sources_of terms.constructors) (final_agree terms classes found None c.requires.spread) (final_proper terms classes found None c.requires.spread) c.requires.givens c.requires.spread.proper in
    let fine : HasMultipleBelow (2 ^ 40) (denominators (kept_grids found classes.clocked)) = rw clocked at (c.in_default.ensures {u = tt}) in
    let own : c.in_ok-gathered.field-0 ≡ kept_grids found classes.clocked = (c.in_ok-gathered.ensures {u = tt}) ∙ ap (λ l. kept_grids found l) clocked in
    subst (λ l. IsSolution terms classes l) (sym own)
    (held, solved terms classes found c.requires.spread c.requires.known, fine, (let h = rw (class_of, relations) at none in h))
