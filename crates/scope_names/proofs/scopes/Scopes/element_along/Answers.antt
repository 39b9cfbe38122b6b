use Rattle.std.proofs.Common.{rules, ◌≡◌, ◌∙◌, sym, ap, ◌+◌, ◌<◌, length, map, drop, get_or, Some, None, option_and_then}
use Rattle.std.specs.Option.{option_copied}
use Rattle.std.proofs.lemmas.List.{get_or_default}
use Rattle.mo_parser.specs.declared.tree.Span.{Span}
use Rattle.class_scopes.specs.Spelled.{spelled}
use Rattle.scope_names.specs.Scopes.{element_named, element_along, class_of}
use Rattle.scope_names.proofs.Scoped.{along_next}
use Rattle.scope_names.proofs.scopes.Scopes.element_along.Goals as goal

pub returns-in_err-class : goal.returns-in_err-class
returns-in_err-class c =
    let text = c.args.self.now.named.file.text.now in
    let classes = c.args.self.now.named.file.classes.now in
    let parts = c.args.parts.now in
    let i = c.loop-number.number in
    let x : Span = get_or parts i (record { at = 0; end = 0 }) in
    let within : i < length parts = search rules in
    let is : x ≡ get_or parts i x = get_or_default parts i (record { at = 0; end = 0 }) x within in
    let more : i + 1 < length parts = search rules in
    let named : element_named text classes c.loop-number.class (spelled text x) ≡ Some c.in_ok-element.element.now = search rules in
    let none : class_of text classes c.in_ok-element.element.now ≡ None = search rules in
    let empty : option_copied c.from_residual-in_err-class.result ≡ None = search rules in
    empty ∙ sym (along_next text classes parts i x within is c.loop-number.class c.in_ok-element.element.now named more
    ∙ ap (option_and_then (element_along text classes (map (spelled text) (drop (i + 1) parts)))) none) ∙ c.loop-number.invariant

pub loop-number-preserved : goal.loop-number-preserved
loop-number-preserved c =
    let text = c.args.self.now.named.file.text.now in
    let classes = c.args.self.now.named.file.classes.now in
    let parts = c.args.parts.now in
    let i = c.loop-number.number in
    let x : Span = get_or parts i (record { at = 0; end = 0 }) in
    let within : i < length parts = search rules in
    let is : x ≡ get_or parts i x = get_or_default parts i (record { at = 0; end = 0 }) x within in
    let more : i + 1 < length parts = search rules in
    let named : element_named text classes c.loop-number.class (spelled text x) ≡ Some c.in_ok-element.element.now = search rules in
    let next : class_of text classes c.in_ok-element.element.now ≡ Some c.in_ok-class.class = search rules in
    sym (along_next text classes parts i x within is c.loop-number.class c.in_ok-element.element.now named more
    ∙ ap (option_and_then (element_along text classes (map (spelled text) (drop (i + 1) parts)))) next) ∙ c.loop-number.invariant
