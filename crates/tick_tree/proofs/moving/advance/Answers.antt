use Rattle.std.proofs.Common.{ℕ, ◌+◌, ◌<◌, length, get_or, arith}
use Rattle.tick_tree.specs.Tree.{leaf_of}
use Rattle.tick_tree.proofs.Roots.{root_least, left_less, moved_law, not_below, above_all}
use Rattle.tick_tree.proofs.moving.advance.Goals as goal

pub loop-nodes-smaller : goal.loop-nodes-smaller
loop-nodes-smaller c =
    let due = c.due_leaf-leaf.ensures.due in
    let positive = c.requires.rising c.due_leaf-leaf.result (omega (arith, c.due_leaf-leaf.ensures.within, c.loop-nodes.invariant.long, c.requires.long)) in
    left_less c.args.limit (length c.args.steps.now) c.due_leaf-leaf.result (leaf_of c.loop-nodes.nodes) (leaf_of c.put.new.nodes)
    (omega (arith, c.due_leaf-leaf.ensures.within, c.loop-nodes.invariant.long, c.requires.long))
    (omega (arith, c.put.ensures.own, c.moved_on.ensures, due, c.loop-nodes-test.true, positive, c.requires.below))
    (omega (arith, due, c.loop-nodes-test.true, c.requires.below)) c.put.ensures.others

pub returns-clause-leaves : goal.returns-clause-leaves
returns-clause-leaves c j lt =
    let inv = c.loop-nodes.invariant in
    let old = λ (i : ℕ) (within : i < length c.args.steps.now). root_least c.args.nodes.now c.requires.tree i (omega (arith, c.requires.long)) in
    let all = λ (i : ℕ) (within : i + i < length c.loop-nodes.nodes). let small : i < length c.args.steps.now = omega (arith, within, inv.long, c.requires.long) in not_below _ _ _ _ (old i small) (inv.leaves i small) in
    let root = above_all c.loop-nodes.nodes inv.tree (get_or c.args.nodes.now 1 0) (omega (arith, inv.long, c.requires.long, c.requires.some)) all in
    let new = root_least c.loop-nodes.nodes inv.tree j (omega (arith, inv.long, c.requires.long)) in
    let other = c.loop-nodes-test.false in
    moved_law _ _ _ _ (omega (arith, root, new)) (λ same. other (omega (arith, root, new, same))) (inv.leaves j lt)
