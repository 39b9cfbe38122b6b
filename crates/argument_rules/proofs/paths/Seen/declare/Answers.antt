use Rattle.std.proofs.Common.{rules, ◌≡◌, None}
use Rattle.class_scopes.proofs.Numbers.{inserted, none_of, rows}
use Rattle.class_scopes.specs.Tables.{number_of}
use Rattle.argument_rules.proofs.paths.Seen.declare.Goals as goal

pub returns-clause-declared : goal.returns-clause-declared
returns-clause-declared c =
    let none : number_of c.args.self.now c.args.path.now ≡ None = none_of _ (search rules) in
    let key = c.in_ok-key.key in
    let items = c.in_ok-key.ensures.items in
    let here : number_of (rows c.self.inside.numbers.entries) key.items ≡ None = rw (items, c.self.view_is) none in
    let all = inserted c.self.inside.numbers.entries key c.args.number here in
    (none, rw (c.in_ok-insert.ensures.entries, ← items, ← c.self.view_is) all)
