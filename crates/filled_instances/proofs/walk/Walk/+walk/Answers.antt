use Rattle.std.proofs.Common.{rules, Contains, ◌≡◌, ◌∙◌, ap, sym, subst, ◌++◌, ◌-◌, [], ◌∷◌, map, filter, arith, is_ok, true, false, Some, None, OnOk}
use Rattle.std.proofs.lemmas.List.{append-nil}
use Rattle.mo_order.specs.Marks.{is_marked}
use Rattle.class_scopes.proofs.Marks.{on_ok}
use Rattle.class_scopes.specs.Types.{type_of, short_of}
use Rattle.class_scopes.specs.declared.type_name.TypeName.TheVariants.{Class}
use Rattle.flat_instances.specs.Kept.{seen}
use Rattle.flat_instances.specs.Force.{AreInForce, stepped}
use Rattle.flat_instances.specs.private.Walks.{Adds, AddsAlong}
use Rattle.flat_instances.proofs.Walking.{added_more, inner_items, none_behind}
use Rattle.filled_instances.specs.Counting.{counts}
use Rattle.filled_instances.specs.private.Counted.{component_counts, class_counts, own_items}
use Rattle.filled_instances.proofs.Counting.{filled_in, unmarked, all_counted}
use Rattle.filled_instances.proofs.walk.Walk.+walk.Goals as goal

pub component-returns-in_ok-inner-in-Some-Class : goal.component-returns-in_ok-inner-in-Some-Class
component-returns-in_ok-inner-in-Some-Class t c =
    let text = c.args.self.now.file.now.text.now in
    let classes = c.args.self.now.file.now.classes.now in
    let own = c.args.self.now.own.now in
    let scope = c.args.scope.now in
    let element = c.args.element.now in
    let class = c.in-Some-Class.class in
    let inside = c.in_ok-inner-in-Some-Class in
    let typed : type_of text classes element.base ≡ Some (Class class) = search rules in
    let long : short_of text classes class ≡ None = none_behind _ _ (search rules) c.short_of.ensures in
    on_ok c.items.result
    (AddsAlong text classes c.as_slice.result.now inside.modifiers (class_counts text classes own c.args.levels c.as_slice.result.now class) c.args.found.now.items c.items.new.found.items)
    (AddsAlong text classes scope c.args.modifiers.now (component_counts text classes own c.args.levels scope element) c.args.found.now.items c.items.new.found.items)
    (λ added path force.
    let along = stepped scope path element in
    let inner = c.as_slice.ensures.value ∙ inside.ensures.scope in
    let here = subst (λ s. AreInForce text s along inside.modifiers) (sym c.as_slice.ensures.value) (inside.ensures.force path force) in
    added along here ∙ ap (λ more. map (seen text classes) c.args.found.now.items ++ filter (counts own) more) (inner_items text classes c.args.levels scope path element class c.as_slice.result.now typed long inner))
    c.items.ensures

pub component-returns-else-is_marked : goal.component-returns-else-is_marked
component-returns-else-is_marked t c path force =
    let text = c.args.self.now.file.now.text.now in
    let classes = c.args.self.now.file.now.classes.now in
    let own = c.args.self.now.own.now in
    let marks = c.args.self.now.marks.now in
    let typed : type_of text classes c.args.element.now.base ≡ Some (Class c.in-Some-Class.class) = search rules in
    let long : short_of text classes c.in-Some-Class.class ≡ None = none_behind _ _ (search rules) c.short_of.ensures in
    let none : is_marked marks c.in-Some-Class.class ≡ false = search rules in
    let nothing = unmarked text classes own marks c.args.levels c.args.scope.now path c.args.element.now c.in-Some-Class.class typed long none c.requires in
    sym (ap (λ more. map (seen text classes) c.args.found.now.items ++ more) nothing ∙ append-nil (map (seen text classes) c.args.found.now.items))

pub items-loop-element-preserved : goal.items-loop-element-preserved
items-loop-element-preserved t c path force =
    let text = c.args.self.now.file.now.text.now in
    let classes = c.args.self.now.file.now.classes.now in
    let own = c.args.self.now.own.now in
    added_more (λ e. component_counts text classes own (c.args.levels - 1) c.args.scope.now e path) c.elements_of-element-items.result.now
    c.loop-element.element-index c.element-item.result (omega arith) c.element-item.is
    (map (seen text classes) c.args.found.now.items) (map (seen text classes) c.loop-element.found.items) (map (seen text classes) c.component.new.found.items)
    (c.loop-element.invariant path force) (c.in_ok-component.ensures path force)

pub items-component-requires : goal.items-component-requires
items-component-requires t c =
    let text = c.args.self.now.file.now.text.now in
    let classes = c.args.self.now.file.now.classes.now in
    let inside : Contains c.elements_of-element-items.result.now c.element-item.result = (c.loop-element.element-index, omega arith, sym c.element-item.is) in
    let at = subst (λ es. Contains es c.element-item.result) c.elements_of-element-items.ensures inside in
    (omega (arith, c.decreases), filled_in text classes c.args.self.now.own.now c.args.self.now.marks.now c.args.class c.element-item.result at c.requires)

pub items-returns : goal.items-returns
items-returns t c =
    let text = c.args.self.now.file.now.text.now in
    let classes = c.args.self.now.file.now.classes.now in
    let own = c.args.self.now.own.now in
    on_ok c.own_equations.result
    (Adds text classes c.loop-element.found.items (own_items own c.args.scope.now c.args.class) c.own_equations.new.found.items)
    (AddsAlong text classes c.args.scope.now c.args.modifiers.now (class_counts text classes own c.args.levels c.args.scope.now c.args.class) c.args.found.now.items c.own_equations.new.found.items)
    (λ added path force. all_counted text classes own c.args.levels c.args.scope.now path c.args.class c.loop-element.element-index c.elements_of-element-items.result.now
    (map (seen text classes) c.args.found.now.items) (map (seen text classes) c.loop-element.found.items) (map (seen text classes) c.own_equations.new.found.items)
    (omega arith) c.elements_of-element-items.ensures (omega arith) (c.loop-element.invariant path force) added)
    c.own_equations.ensures
