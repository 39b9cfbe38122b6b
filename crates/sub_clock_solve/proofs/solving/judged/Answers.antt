use Rattle.std.proofs.Common.{rules, ◌≡◌, subst}
use Rattle.sub_clock_solve.specs.private.Spreading.{IsSpread}
use Rattle.sub_clock_solve.proofs.Ending.{unknown_answer, lost_answer}
use Rattle.sub_clock_solve.proofs.solving.judged.Goals as goal

pub returns-in-Some : goal.returns-in-Some
returns-in-Some c =
    let clocked : c.as_slice.result.now ≡ c.args.classes.now.clocked = search rules in
    let found : c.deref.result.now ≡ c.args.all.now.found.items = search rules in
    unknown_answer c.args.terms.now c.args.classes.now c.args.all.now.found.items c.args.all.now.lost c.requires.spread c.in-Some.class (rw (clocked, found) at (c.in-Some.ensures {u = tt}))

pub returns-in-Some-lost : goal.returns-in-Some-lost
returns-in-Some-lost c =
    let clocked : c.as_slice.result.now ≡ c.args.classes.now.clocked = search rules in
    let found : c.deref.result.now ≡ c.args.all.now.found.items = search rules in
    let none = rw (clocked, found) at (c.in_default-first_unknown.ensures {u = tt}) in
    lost_answer c.args.terms.now c.args.classes.now c.args.all.now.found.items c.in-Some-lost.class
    (subst (λ o. IsSpread c.args.terms.now c.args.classes.now c.args.all.now.found.items o) c.in-Some-lost.is c.requires.spread)
    (λ k t e. none k (t, e))
