use Rattle.std.proofs.Common.{◌≡◌, ◌∷◌, ap, ◌∙◌, rules, w64, to_z, of_z}
use Rattle.input_table.proofs.Numbers.{is_minus, is_plus, is_plain}
use Rattle.input_table.proofs.fields.integer_of.Goals as goal

pub returns-then-first-eq45 : goal.returns-then-first-eq45
returns-then-first-eq45 c =
    let n = c.in_ok-size.ensures in
    let text : c.args.text.now ≡ 45 ∷ c.in-Some.digits.now = c.in-Some.ensures.cases.0 ∙ ap (λ b. b ∷ c.in-Some.digits.now) c.if-first-eq45.true in
    let whole : to_z w64 (of_z w64 c.signed.result) ≡ c.signed.result = search rules in
    rw (whole, c.signed.ensures) (is_minus c.args.text.now c.in-Some.digits.now c.in_ok-size.size text n.0 n.1 n.2 n.3)

pub returns-then-first-eq43 : goal.returns-then-first-eq43
returns-then-first-eq43 c =
    let n = c.in_ok-size-2.ensures in
    let text : c.args.text.now ≡ 43 ∷ c.in-Some.digits.now = c.in-Some.ensures.cases.0 ∙ ap (λ b. b ∷ c.in-Some.digits.now) c.if-first-eq43.true in
    let whole : to_z w64 (of_z w64 c.signed-then-first-eq43.result) ≡ c.signed-then-first-eq43.result = search rules in
    rw (whole, c.signed-then-first-eq43.ensures) (is_plus c.args.text.now c.in-Some.digits.now c.in_ok-size-2.size text n.0 n.1 n.2 n.3)

pub returns : goal.returns
returns c =
    let n = c.in_ok-size-3.ensures in
    let whole : to_z w64 (of_z w64 c.signed-2.result) ≡ c.signed-2.result = search rules in
    rw (whole, c.signed-2.ensures) (is_plain c.args.text.now c.in_ok-size-3.size n.0 n.1 n.2 n.3)
