use Rattle.std.proofs.Common.{ap, sym, ◌∙◌, map, slice_get}
use Rattle.class_scopes.specs.declared.end.NameCode.TheVariants as code
use Rattle.flat_answer.specs.declared.end.FlattenEnd.TheVariants.{Fault}
use Rattle.flat_instances.specs.Instances.{variables}
use Rattle.flat_instances.specs.Kept.{seen}
use Rattle.mo_flatten.specs.private.Named.{end_of, place_of}
use Rattle.mo_flatten.proofs.Faulted.{variable_placed, parameter_placed}
use Rattle.mo_flatten.proofs.faults.value_end.Goals as goal

pub returns-in_ok-place-in-Waiting : goal.returns-in_ok-place-in-Waiting
returns-in_ok-place-in-Waiting c text classes =
    ap (λ p. Fault code.N6 p) (c.in_ok-place-in-Waiting.ensures ∙ ap (λ names. place_of (slice_get names c.in-Waiting.x)) c.as_slice.ensures.value
    ∙ parameter_placed text classes c.args.items.now c.in_ok-names-in-Waiting.names.items c.in-Waiting.x c.in_ok-names-in-Waiting.ensures)
    ∙ ap (end_of text classes (variables text classes (map (seen text classes) c.args.items.now))) (sym c.in-Waiting.is)

pub returns-in_ok-place-in-Failing : goal.returns-in_ok-place-in-Failing
returns-in_ok-place-in-Failing c text classes =
    ap (λ p. Fault code.N7 p) (c.in_ok-place-in-Failing.ensures ∙ ap (λ names. place_of (slice_get names c.in-Failing.x)) c.as_slice-in-Failing.ensures.value
    ∙ variable_placed text classes c.args.items.now c.in_ok-names-in-Failing.names.items c.in-Failing.x c.in_ok-names-in-Failing.ensures)
    ∙ ap (end_of text classes (variables text classes (map (seen text classes) c.args.items.now))) (sym c.in-Failing.is)
