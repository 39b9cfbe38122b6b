use Rattle.std.proofs.Common.{rules, ◌≡◌, is_ok, true}
use Rattle.flat_instances.proofs.Walking.{declares}
use Rattle.flat_instances.proofs.walk.Walk.declare.Goals as goal

pub returns : goal.returns
returns c path force =
    let good : is_ok c.push.result ≡ true = search rules in
    let added = rw good at c.push.ensures.items in
    declares c.args.self.now.file.now.text.now c.args.self.now.file.now.classes.now c.args.found.now.items c.push.new.self.items _ _ (c.in_ok-declared.ensures path force) added
