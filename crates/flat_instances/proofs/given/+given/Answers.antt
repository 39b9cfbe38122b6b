use Rattle.std.proofs.Common.{◌∙◌, sym, ap, ◌<◌, map, option_map, length, arith}
use Rattle.std.proofs.lemmas.List.{length-map}
use Rattle.flat_instances.proofs.Givings.{given-none, given-own, given-nested, names_lent, found-is}
use Rattle.flat_instances.proofs.given.+given.Goals as goal

pub given_by-returns-in-None : goal.given_by-returns-in-None
given_by-returns-in-None t c =
    let is = found-is c.args.text.now c.args.arg.now (map (λ name. name.now) c.args.path.now) c.as_slice.result.now c.as_slice.ensures c.behind.result c.behind.ensures in
    sym (given-none c.args.text.now c.args.arg.now (map (λ name. name.now) c.args.path.now) (option_map names_lent c.behind.result) is (ap (option_map names_lent) c.in-None.is))

pub given_by-returns-in-Some-empty : goal.given_by-returns-in-Some-empty
given_by-returns-in-Some-empty t c =
    let left = c.in-Some-empty.field-0 in
    let short : length (names_lent left) < 1 = omega (arith, length-map left.now (λ name. name.now), c.in-Some-empty.len_below) in
    let is = found-is c.args.text.now c.args.arg.now (map (λ name. name.now) c.args.path.now) c.as_slice.result.now c.as_slice.ensures c.behind.result c.behind.ensures in
    c.as_ref.ensures.value ∙ sym (given-own c.args.text.now c.args.arg.now (map (λ name. name.now) c.args.path.now) (option_map names_lent c.behind.result) is
    (names_lent left) (ap (option_map names_lent) c.in-Some-empty.is) short)

pub given_by-returns-in-Some : goal.given_by-returns-in-Some
given_by-returns-in-Some t c =
    let left = c.in-Some.rest in
    let long : 0 < length (names_lent left) = omega (arith, length-map left.now (λ name. name.now), c.in-Some.len_at_least) in
    let is = found-is c.args.text.now c.args.arg.now (map (λ name. name.now) c.args.path.now) c.as_slice.result.now c.as_slice.ensures c.behind.result c.behind.ensures in
    let nested = given-nested c.args.text.now c.args.arg.now (map (λ name. name.now) c.args.path.now) (option_map names_lent c.behind.result) is
    (names_lent left) (ap (option_map names_lent) c.in-Some.is) long in
    (rw c.as_slice-in-Some.ensures at c.given_in.ensures) ∙ sym nested
