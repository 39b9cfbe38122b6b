use Rattle.std.proofs.Common.{rules, ◌≡◌, ◌+◌, ◌++◌, ◌∷◌, [], None, sym, subst}
use Rattle.sub_clock_solve.specs.private.Given.{IsStep}
use Rattle.sub_clock_solve.proofs.Giving.{every_step, site_step, given_of}
use Rattle.sub_clock_solve.proofs.given.add.Goals as goal

pub returns-then-is_none : goal.returns-then-is_none
returns-then-is_none c =
    let items : c.push.new.self.items ≡ c.args.givens.now.items ++ given_of c.args.constructor.now c.in-Some.grid ∷ [] = search rules in
    let none : c.in-Some.grid.site ≡ None = search rules in
    subst (λ l. IsStep c.args.constructor.now c.args.site c.args.givens.now.items c.args.site l) (sym items)
    (every_step c.args.constructor.now c.args.site c.in-Some.grid c.args.givens.now.items (c.in-Some.ensures {u = tt}) none)

pub returns : goal.returns
returns c =
    let items : c.push.new.self.items ≡ c.args.givens.now.items ++ given_of c.args.constructor.now c.in-Some.grid ∷ [] = search rules in
    let some : c.in-Some.grid.site ≡ None → ⊥ = λ e. absurd (search rules) in
    let next : c.in-Some-checked_add.next ≡ c.args.site + 1 = search rules in
    subst (λ n. IsStep c.args.constructor.now c.args.site c.args.givens.now.items n c.push.new.self.items) (sym next)
    (subst (λ l. IsStep c.args.constructor.now c.args.site c.args.givens.now.items (c.args.site + 1) l) (sym items)
    (site_step c.args.constructor.now c.args.site c.in-Some.grid c.args.givens.now.items (c.in-Some.ensures {u = tt}) some))
