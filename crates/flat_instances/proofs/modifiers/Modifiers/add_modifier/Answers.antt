use Rattle.std.proofs.Common.{refl, arith}
use Rattle.class_scopes.proofs.Marks.{on_ok}
use Rattle.flat_instances.proofs.Forces.{parts_split, no_parts, modifier_added, modifier_bare}
use Rattle.flat_instances.proofs.modifiers.Modifiers.add_modifier.Goals as goal

pub returns-in-empty : goal.returns-in-empty
returns-in-empty c =
    on_ok c.add_args.result _ _
    (modifier_bare c.args.text.now c.args.modifier c.args.self.now c.add_args.new.self (no_parts c.args.modifier.parts.now c.in-empty.len_below))
    c.add_args.ensures

pub returns-in-len1-up : goal.returns-in-len1-up
returns-in-len1-up c =
    on_ok c.add_named.result _ _
    (modifier_added c.args.text.now _ _ c.args.modifier _ c.args.self.now c.add_named.new.self
    (parts_split c.args.modifier.parts.now _ (omega (arith, c.in-len1-up.len_at_least))) refl refl refl refl)
    c.add_named.ensures
