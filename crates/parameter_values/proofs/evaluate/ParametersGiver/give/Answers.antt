use Rattle.std.proofs.Common.{refl, ◌≡◌, ◌∙◌, ap, map, slice_get, Some, None, option_map}
use Rattle.std.proofs.Common.{length}
use Rattle.std.proofs.lemmas.Option.{slice_get_read}
use Rattle.parameter_values.specs.Outcomes.{outcome}
use Rattle.parameter_values.specs.Givens.{valued, given_of, rules_by}
use Rattle.parameter_values.proofs.GivenValues.{expr_tells, zero_tells, kept_at, told_as}
use Rattle.parameter_values.proofs.evaluate.ParametersGiver.give.Goals as goal

pub returns-in_ok-outcome-in-Some-expr : goal.returns-in_ok-outcome-in-Some-expr
returns-in_ok-outcome-in-Some-expr c =
    let text = c.args.self.now.text.now in
    let table = c.args.self.now.numbers.now in
    let items = c.args.self.now.items.now in
    let p = c.in-Some.parameter.now in
    let at : slice_get items c.args.x ≡ Some p = let l = c.in-Some.ensures.lookup in slice_get_read items (length items) c.args.x p refl l.3.0 l.1 in
    let is : option_map (λ expr. record { scope = p.scope; expr = expr.now }) p.expr ≡ Some (record { scope = p.scope; expr = c.in-Some-expr.expr.now }) =
    ap (option_map (λ expr. record { scope = p.scope; expr = expr.now })) c.in-Some-expr.is in
    told_as (rules_by text table (map valued items)) c.args.values.now c.args.x c.given_of.result _
    (c.given_of.ensures ∙ ap (given_of p.kind) (c.in_ok-outcome-in-Some-expr.ensures ∙ ap (λ s. outcome text table c.args.values.now s c.in-Some-expr.expr.now) c.as_bytes.ensures))
    (expr_tells text table (map valued items) c.args.values.now c.args.x p.kind p.scope c.in-Some-expr.expr.now (kept_at items c.args.x p _ at is))

pub returns-in-None : goal.returns-in-None
returns-in-None c =
    let text = c.args.self.now.text.now in
    let table = c.args.self.now.numbers.now in
    let items = c.args.self.now.items.now in
    let p = c.in-Some.parameter.now in
    let at : slice_get items c.args.x ≡ Some p = let l = c.in-Some.ensures.lookup in slice_get_read items (length items) c.args.x p refl l.3.0 l.1 in
    told_as (rules_by text table (map valued items)) c.args.values.now c.args.x c.given_zero.result _ c.given_zero.ensures
    (zero_tells text table (map valued items) c.args.values.now c.args.x p.kind (kept_at items c.args.x p None at (ap (option_map (λ expr. record { scope = p.scope; expr = expr.now })) c.in-None.is)))
