use Rattle.std.proofs.Common.{rules, ◌≡◌, ap, sym, ◌∙◌, true, false, Some, option_map}
use Rattle.parameter_values.specs.Outcomes.{outcome}
use Rattle.value_rules.specs.private.Missing.{is_no_value, missing_reads}
use Rattle.value_rules.proofs.Evaluated.{missing_is}
use Rattle.value_rules.proofs.missing.missing_of.Goals as goal

pub returns-then-not-is_no_value : goal.returns-then-not-is_no_value
returns-then-not-is_no_value c =
    let text = c.args.values.now.text.now in
    let table = c.args.values.now.numbers.now in
    let slots = c.args.values.now.slots.now in
    let need = c.args.need.now in
    let expr = c.in-Some.expr.now in
    let off : c.is_no_value.result ≡ false = search rules in
    let told = c.in_ok-outcome.ensures ∙ ap (λ s. outcome text table slots s expr) c.as_bytes.ensures in
    let none : is_no_value need.kind (outcome text table slots need.scope expr) ≡ false = ap (is_no_value need.kind) (sym told) ∙ sym c.is_no_value.ensures ∙ off in
    sym (missing_is text table slots c.args.count need.kind _ need.scope expr (ap (option_map (λ e. record { scope = need.scope; expr = e.now })) c.in-Some.is) false none)

pub returns : goal.returns
returns c =
    let text = c.args.values.now.text.now in
    let table = c.args.values.now.numbers.now in
    let slots = c.args.values.now.slots.now in
    let need = c.args.need.now in
    let expr = c.in-Some.expr.now in
    let on : c.is_no_value.result ≡ true = search rules in
    let told = c.in_ok-outcome.ensures ∙ ap (λ s. outcome text table slots s expr) c.as_bytes.ensures in
    let none : is_no_value need.kind (outcome text table slots need.scope expr) ≡ true = ap (is_no_value need.kind) (sym told) ∙ sym c.is_no_value.ensures ∙ on in
    ap Some (c.in_ok-reads.ensures ∙ ap (λ s. missing_reads text table slots c.args.count s expr) c.as_bytes-2.ensures)
    ∙ sym (missing_is text table slots c.args.count need.kind _ need.scope expr (ap (option_map (λ e. record { scope = need.scope; expr = e.now })) c.in-Some.is) true none)
