use Rattle.std.proofs.Common.{rules, ◌≡◌, ◌<◌, length, Some, arith}
use Rattle.class_scopes.specs.declared.type_name.TypeName.TheVariants.{Class}
use Rattle.class_scopes.specs.Types.{type_of}
use Rattle.class_scopes.proofs.Marks.{on_ok, marked, part_marked, type_within}
use Rattle.class_scopes.proofs.reach.mark_part.Goals as goal

pub mark-requires : goal.mark-requires
mark-requires c =
    let typed : type_of c.args.file.now.text.now c.args.file.now.classes.now c.args.element.now.base ≡ Some (Class c.in-Some-Class.part) = search rules in
    let below = type_within c.args.file.now.text.now c.args.file.now.classes.now c.args.element.now.base c.in-Some-Class.part typed in
    omega (arith, below, c.requires.listed.size)

pub returns-in-Some-Class-clause-grows : goal.returns-in-Some-Class-clause-grows
returns-in-Some-Class-clause-grows c =
    let text = c.args.file.now.text.now in
    let classes = c.args.file.now.classes.now in
    let typed : type_of text classes c.args.element.now.base ≡ Some (Class c.in-Some-Class.part) = search rules in
    let below = type_within text classes c.args.element.now.base c.in-Some-Class.part typed in
    let within : c.in-Some-Class.part < length c.args.seen.now.items = omega (arith, below, c.requires.listed.size) in
    on_ok c.mark.result _ _ (λ told. (part_marked text classes c.args.chosen c.args.element.now c.args.seen.now.items c.mark.new.seen.items c.args.reached.now.items c.mark.new.reached.items c.in-Some-Class.part typed
    (marked text classes c.args.chosen c.in-Some-Class.part c.args.seen.now.items c.mark.new.seen.items c.args.reached.now.items c.mark.new.reached.items c.requires.listed (c.requires.part c.in-Some-Class.part typed) within told)).0) c.mark.ensures

pub returns-in-Some-Class-clause-marked : goal.returns-in-Some-Class-clause-marked
returns-in-Some-Class-clause-marked c =
    let text = c.args.file.now.text.now in
    let classes = c.args.file.now.classes.now in
    let typed : type_of text classes c.args.element.now.base ≡ Some (Class c.in-Some-Class.part) = search rules in
    let below = type_within text classes c.args.element.now.base c.in-Some-Class.part typed in
    let within : c.in-Some-Class.part < length c.args.seen.now.items = omega (arith, below, c.requires.listed.size) in
    on_ok c.mark.result _ _ (λ told. (part_marked text classes c.args.chosen c.args.element.now c.args.seen.now.items c.mark.new.seen.items c.args.reached.now.items c.mark.new.reached.items c.in-Some-Class.part typed
    (marked text classes c.args.chosen c.in-Some-Class.part c.args.seen.now.items c.mark.new.seen.items c.args.reached.now.items c.mark.new.reached.items c.requires.listed (c.requires.part c.in-Some-Class.part typed) within told)).1) c.mark.ensures
