use Rattle.std.proofs.Common.{rules, ap, sym, ◌∙◌, ◌≡◌, ◌≢◌, w64, pos, int_rem, FitsSigned, Ok}
use Rattle.std.proofs.lemmas.Int.{to_z-of_z}
use Rattle.sync_values.specs.Arithmetic.{exact_rem}
use Rattle.sync_values.proofs.Remainders.{rem_exact, answered}
use Rattle.sync_values.proofs.arithmetic.rem.Goals as goal

pub returns : goal.returns
returns c =
    let left = c.wrapping_rem.result in
    let is : left ≡ int_rem c.args.a c.args.b = search rules in
    let fits : FitsSigned w64 left = search rules in
    let some : c.args.b ≢ pos 0 = search rules in
    ap Ok (to_z-of_z w64 left fits) ∙ sym (answered c.args.b (exact_rem c.args.a c.args.b) left some (rem_exact c.args.a c.args.b ∙ sym is) fits)
