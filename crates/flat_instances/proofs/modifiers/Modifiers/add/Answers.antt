use Rattle.std.proofs.Common.{rules, ◌≡◌, is_ok, true}
use Rattle.flat_instances.proofs.Listing.{listed_more}
use Rattle.flat_instances.proofs.modifiers.Modifiers.add.Goals as goal

pub returns : goal.returns
returns c =
    let good : is_ok c.push.result ≡ true = search rules in
    listed_more (λ list. list.items) c.args.name.now c.args.modifier c.args.self.now.lists c.swap_remove.new.self c.insert.new.self c.swap_remove.result c.new.result c.unwrap_or-list.result c.push.new.self
    c.swap_remove.ensures.updates c.in_ok-insert.ensures.updates c.swap_remove.ensures.value c.unwrap_or-list.ensures c.new.ensures.items (rw good at c.push.ensures.items)
