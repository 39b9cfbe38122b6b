use Rattle.std.proofs.Common.{rules, arith, ◌≡◌, ◌∙◌, ap, sym, true, false, ◌<◌, length, get_or, leb-true}
use Rattle.rational_time.specs.declared.ratio.Ratio.{Ratio}
use Rattle.rational_time.specs.Fraction.{at_most}
use Rattle.moment_inputs.proofs.Searching.{row_found}
use Rattle.moment_inputs.proofs.search.is_row.Goals as goal

pub returns-then-next-times : goal.returns-then-next-times
returns-then-next-times c =
    let e : Ratio = c.index-times-row.result in
    let within : c.args.row < length c.args.times.now = omega arith in
    let passes : c.is_at_most.result ≡ true = search rules in
    let here : at_most (get_or c.args.times.now c.args.row e) c.args.at ≡ true = ap (λ u. at_most u c.args.at) (sym c.index-times-row.is) ∙ sym c.is_at_most.ensures ∙ passes in
    λ past. row_found c.args.times.now c.args.at c.args.row e e c.requires within here (λ lt. let le = leb-true _ _ past in absurd (omega (arith, le, lt)))

pub returns-else-next-times : goal.returns-else-next-times
returns-else-next-times c =
    let e : Ratio = c.index-times-row.result in
    let f : Ratio = c.index-times-next.result in
    let within : c.args.row < length c.args.times.now = omega arith in
    let passes : c.is_at_most.result ≡ true = search rules in
    let here : at_most (get_or c.args.times.now c.args.row e) c.args.at ≡ true = ap (λ u. at_most u c.args.at) (sym c.index-times-row.is) ∙ sym c.is_at_most.ensures ∙ passes in
    λ isnt.
    let fails : c.is_at_most-else-next-times.result ≡ false = search rules in
    row_found c.args.times.now c.args.at c.args.row e f c.requires within here (λ lt. ap (λ u. at_most u c.args.at) (sym c.index-times-next.is) ∙ sym c.is_at_most-else-next-times.ensures ∙ fails)
