use Rattle.std.proofs.Common.{rules, ◌≡◌, ◌∙◌, ap, sym, subst, ◌++◌, ◌-◌, map, arith, is_ok, true, Some, None}
use Rattle.class_scopes.proofs.Marks.{on_ok}
use Rattle.class_scopes.specs.Types.{type_of, short_of}
use Rattle.class_scopes.specs.declared.type_name.TypeName.TheVariants.{Class}
use Rattle.flat_instances.specs.Kept.{seen}
use Rattle.flat_instances.specs.Force.{AreInForce, stepped}
use Rattle.flat_instances.specs.private.Walks.{component_items, class_items, AddsAlong}
use Rattle.flat_instances.proofs.Walking.{added_more, all_items, inner_items, own_added, none_behind}
use Rattle.flat_instances.proofs.walk.Walk.+walk.Goals as goal

pub items-loop-element-preserved : goal.items-loop-element-preserved
items-loop-element-preserved t c path force =
    let text = c.args.self.now.file.now.text.now in
    let classes = c.args.self.now.file.now.classes.now in
    added_more (λ e. component_items text classes (c.args.levels - 1) c.args.scope.now e path) c.elements_of-element-items.result.now
    c.loop-element.element-index c.element-item.result (omega arith) c.element-item.is
    (map (seen text classes) c.args.found.now.items) (map (seen text classes) c.loop-element.found.items) (map (seen text classes) c.component.new.found.items)
    (c.loop-element.invariant path force) (c.in_ok-component.ensures path force)

pub items-returns : goal.items-returns
items-returns t c path force =
    let text = c.args.self.now.file.now.text.now in
    let classes = c.args.self.now.file.now.classes.now in
    let good : is_ok c.push.result ≡ true = search rules in
    let added = rw good at c.push.ensures.items in
    all_items text classes c.args.levels c.args.scope.now path c.args.class c.loop-element.element-index c.elements_of-element-items.result.now
    (map (seen text classes) c.args.found.now.items) (map (seen text classes) c.loop-element.found.items) (map (seen text classes) c.push.new.self.items)
    (omega arith) c.elements_of-element-items.ensures (omega arith) (c.loop-element.invariant path force)
    (own_added text classes c.loop-element.found.items c.push.new.self.items c.args.scope.now _ c.args.class c.in_ok-from_bytes.ensures added)

pub component-returns-in_ok-inner-in-Some-Class : goal.component-returns-in_ok-inner-in-Some-Class
component-returns-in_ok-inner-in-Some-Class t c =
    let text = c.args.self.now.file.now.text.now in
    let classes = c.args.self.now.file.now.classes.now in
    let scope = c.args.scope.now in
    let element = c.args.element.now in
    let class = c.in-Some-Class.class in
    let inside = c.in_ok-inner-in-Some-Class in
    let typed : type_of text classes element.base ≡ Some (Class class) = search rules in
    let long : short_of text classes class ≡ None = none_behind _ _ (search rules) c.short_of.ensures in
    on_ok c.items.result
    (AddsAlong text classes c.as_slice.result.now inside.modifiers (class_items text classes c.args.levels c.as_slice.result.now class) c.args.found.now.items c.items.new.found.items)
    (AddsAlong text classes scope c.args.modifiers.now (component_items text classes c.args.levels scope element) c.args.found.now.items c.items.new.found.items)
    (λ added path force.
    let along = stepped scope path element in
    let inner = c.as_slice.ensures.value ∙ inside.ensures.scope in
    let here = subst (λ s. AreInForce text s along inside.modifiers) (sym c.as_slice.ensures.value) (inside.ensures.force path force) in
    added along here ∙ ap (λ more. map (seen text classes) c.args.found.now.items ++ more) (inner_items text classes c.args.levels scope path element class c.as_slice.result.now typed long inner))
    c.items.ensures
