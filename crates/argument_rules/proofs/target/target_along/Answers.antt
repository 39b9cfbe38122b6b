use Rattle.std.proofs.Common.{rules, ◌≡◌, ◌∙◌, sym, ap, ◌+◌, ◌<◌, ◌≤◌, ◌==◌, length, get_or, true, arith}
use Rattle.std.proofs.lemmas.List.{get_or_default}
use Rattle.mo_parser.specs.declared.tree.Span.{Span}
use Rattle.class_scopes.specs.Types.{is_simple, kind_of}
use Rattle.argument_rules.specs.Targets.{attribute}
use Rattle.argument_rules.proofs.Checks.{simple_at, ends_by}
use Rattle.argument_rules.proofs.target.target_along.Goals as goal

pub returns-then-is_simple : goal.returns-then-is_simple
returns-then-is_simple c =
    let text = c.args.scopes.now.named.file.text.now in
    let classes = c.args.scopes.now.named.file.classes.now in
    let parts = c.args.parts.now in
    let i = c.loop-number.number in
    let type = c.loop-number.type_name in
    let x : Span = get_or parts i (record { at = 0; end = 0 }) in
    let within : i < length parts = search rules in
    let is : x ≡ get_or parts i x = get_or_default parts i (record { at = 0; end = 0 }) x within in
    let simple : is_simple text classes type ≡ true = sym c.is_simple.ensures ∙ c.if-is_simple.true in
    let more : i + 1 ≤ length parts = omega (arith, within) in
    c.attribute.ensures ∙ ap (λ n. attribute (kind_of text classes type) n (i + 1 == length parts)) c.spelled-name.ensures
    ∙ sym (simple_at text classes parts i x within is type (i + 1 == length parts) simple (ends_by text parts (i + 1) more)) ∙ c.loop-number.invariant
