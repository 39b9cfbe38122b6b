use Rattle.std.proofs.Common.{◌≡◌, ap, ◌∙◌, [], ◌∷◌, ◌++◌, rules}
use Rattle.flat_model.specs.Trace.{is_column}
use Rattle.print_tests.proofs.FourNames.{are_four}
use Rattle.print_tests.proofs.models.four.Goals as goal

pub returns : goal.returns
returns g c =
    let a = c.name.result in
    let b = c.name-2.result in
    let d = c.name-3.result in
    let e = c.name-4.result in
    let one : c.push.new.self ≡ a ∷ [] = search rules in
    let two : c.push-2.new.self ≡ c.push.new.self ++ b ∷ [] = search rules in
    let three : c.push-3.new.self ≡ c.push-2.new.self ++ d ∷ [] = search rules in
    let last : c.push-4.new.self ≡ c.push-3.new.self ++ e ∷ [] = search rules in
    let all : c.push-4.new.self ≡ a ∷ b ∷ d ∷ e ∷ [] = last ∙ ap (λ xs. xs ++ e ∷ []) (three ∙ ap (λ xs. xs ++ d ∷ []) (two ∙ ap (λ xs. xs ++ b ∷ []) one)) in
    let are = are_four c.push-4.new.self a b d e all c.name.ensures.name c.name-2.ensures.name c.name-3.ensures.name c.name-4.ensures.name
    (ap is_column c.name.ensures.kind) (ap is_column c.name-2.ensures.kind) (ap is_column c.name-3.ensures.kind) (ap is_column c.name-4.ensures.kind) in record {
      few = are.few;
      names = are.each;
      columns = are.columns;
    }
