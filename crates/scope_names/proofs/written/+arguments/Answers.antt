use Rattle.std.proofs.Common.{◌∙◌, ap₂, sym, map, ◌++◌}
use Rattle.class_scopes.specs.Places.{in_option}
use Rattle.scope_names.specs.Written.{names_in, names_in_arg, joined}
use Rattle.scope_names.proofs.WrittenNodes.{names-Arg, adds_then}
use Rattle.scope_names.proofs.written.+arguments.Goals as goal

pub names_in_arg-returns : goal.names_in_arg-returns
names_in_arg-returns t c =
    adds_then c.names_in_value.result _ _ _ _ _ _
    (names-Arg c.args.arg.now ∙ ap₂ (λ args value. joined (map names_in_arg args) ++ in_option names_in value) (sym c.as_slice.ensures) (sym c.as_ref.ensures.value))
    c.in_ok-names_in_args.ensures c.names_in_value.ensures
