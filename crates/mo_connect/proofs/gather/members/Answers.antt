use Rattle.std.proofs.Common.{rules, ◌≡◌, [], ◌∷◌, ◌++◌, length, get_or, arith, ap, sym, ◌∙◌}
use Rattle.mo_connect.specs.private.Links.{parent_of}
use Rattle.mo_connect.proofs.Links.{parent_at}
use Rattle.mo_connect.proofs.Members.{root_added, member_added}
use Rattle.mo_connect.proofs.gather.members.Goals as goal
use Rattle.mo_connect.proofs.gather.members.Goals.{then-root-x+in_ok-add, else-root-x}

pub loop-x-preserved : goal.loop-x-preserved
loop-x-preserved c =
    let pushed : c.push.new.self.items ≡ c.loop-x.lists.items ++ [] ∷ [] = c.in_ok-push.ensures.items ∙ ap (λ list. c.loop-x.lists.items ++ list ∷ []) c.new.ensures in
    let size : length c.loop-x.lists.items ≡ c.loop-x.x = search rules in
    let read : get_or c.args.parents.now c.loop-x.x 0 ≡ parent_of c.args.parents.now c.loop-x.x = parent_at c.args.parents.now c.loop-x.x (omega arith) in
    let falls = c.requires.falls c.loop-x.x in
    record {
      size = elim c.if-root-x.branch [ then-root-x+in_ok-add w ↦ search rules | else-root-x w ↦ search rules ];
      members = elim c.if-root-x.branch [
        | then-root-x+in_ok-add w ↦ member_added c.args.parents.now c.loop-x.x (get_or c.args.parents.now c.loop-x.x 0) c.loop-x.lists.items c.push.new.self.items c.if-root-x.lists.items
            w.index_mut.result.now w.add.new.list pushed w.index_mut.ensures.value w.in_ok-add.ensures (ap (λ lists. lists.items) w.lists-is)
            c.requires.flat (sym read) w.if-root-x.true size c.loop-x.invariant.members
        | else-root-x w ↦ root_added c.args.parents.now c.loop-x.x c.loop-x.lists.items c.if-root-x.lists.items (ap (λ lists. lists.items) w.lists-is ∙ pushed)
            (omega (arith, read, falls, w.if-root-x.false)) c.loop-x.invariant.members
      ];
    }

pub returns-clause-members : goal.returns-clause-members
returns-clause-members c = let end : c.loop-x.x ≡ c.args.count = omega arith in rw (← end) c.loop-x.invariant.members
