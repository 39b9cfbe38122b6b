use Rattle.std.proofs.Common.{◌∙◌, refl, sym, arith}
use Rattle.class_scopes.proofs.Marks.{on_ok}
use Rattle.flat_instances.proofs.Forces.{parts_split, no_parts, arg_added, bare_added, args_none, args_more, args_all}
use Rattle.flat_instances.proofs.modifiers.Modifiers.+add.Goals as goal

pub add_args-loop-arg-init : goal.add_args-loop-arg-init
add_args-loop-arg-init t c = args_none c.args.text.now c.args.scope c.args.self.now

pub add_args-loop-arg-preserved : goal.add_args-loop-arg-preserved
add_args-loop-arg-preserved t c =
    args_more c.args.text.now c.args.scope c.args.args.now c.loop-arg.arg-index c.arg-item.result (omega arith) c.arg-item.is c.args.self.now c.loop-arg.self c.add_arg.new.self
    c.loop-arg.invariant c.in_ok-add_arg.ensures

pub add_args-returns : goal.add_args-returns
add_args-returns t c = args_all c.args.text.now c.args.scope c.args.args.now c.loop-arg.arg-index c.args.self.now c.loop-arg.self (omega arith) c.loop-arg.invariant

pub add_arg-returns-in-empty : goal.add_arg-returns-in-empty
add_arg-returns-in-empty t c =
    on_ok c.add_args.result _ _
    (bare_added c.args.text.now c.args.scope c.args.arg.now c.as_slice-in-empty.result.now c.args.self.now c.add_args.new.self
    (sym c.as_slice.ensures ∙ no_parts c.as_slice.result.now c.in-empty.len_below) c.as_slice-in-empty.ensures)
    c.add_args.ensures

pub add_arg-returns-in-len1-up : goal.add_arg-returns-in-len1-up
add_arg-returns-in-len1-up t c =
    on_ok c.add_named.result _ _
    (arg_added c.args.text.now c.args.scope c.args.arg.now _ _ _ c.args.self.now c.add_named.new.self
    (sym c.as_slice.ensures ∙ parts_split c.as_slice.result.now _ (omega (arith, c.in-len1-up.len_at_least))) refl refl c.as_slice-in-len1-up.ensures c.as_ref.ensures.value)
    c.add_named.ensures
