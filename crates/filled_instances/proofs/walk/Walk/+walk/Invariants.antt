use Rattle.std.proofs.Common.{◌≡◌, ◌+◌, ◌-◌, ◌*◌, ◌++◌, List, map, flat_map, take}
use Rattle.flat_instances.specs.Instances.{Step}
use Rattle.flat_instances.specs.Kept.{seen}
use Rattle.flat_instances.specs.Force.{AreInForce}
use Rattle.filled_instances.specs.private.Counted.{component_counts}
use Rattle.filled_instances.proofs.walk.Walk.+walk.Given as goal

abbrev pub decreases-items : goal.decreases-items
decreases-items l = 2 * l.levels

abbrev pub decreases-component : goal.decreases-component
decreases-component l = 2 * l.levels + 1

abbrev pub invariant-items-loop-element : goal.invariant-items-loop-element
invariant-items-loop-element l =
    let text = l.self.file.now.text.now in
    let classes = l.self.file.now.classes.now in
    (path : List Step) → AreInForce text l.scope path l.modifiers
    → map (seen text classes) l.found.items
    ≡ map (seen text classes) l.initial.found.items ++ flat_map (λ e. component_counts text classes l.self.own.now (l.levels - 1) l.scope e path) (take l.element-index l.element-items)
