use Rattle.std.proofs.Common.{◌∙◌, ◌<◌, map, length, arith}
use Rattle.std.proofs.lemmas.List.{length-map}
use Rattle.flat_instances.proofs.Givings.{names_lent}
use Rattle.flat_instances.proofs.Forces.{gives_none, gives_own, gives_nested}
use Rattle.flat_instances.proofs.modifier.gives.Goals as goal

pub returns-in-None : goal.returns-in-None
returns-in-None c = gives_none c.args.text.now c.args.modifier (map (λ name. name.now) c.args.path.now) c.behind.result c.behind.ensures c.in-None.is

pub returns-in-Some-empty : goal.returns-in-Some-empty
returns-in-Some-empty c =
    let left = c.in-Some-empty.field-0 in
    let short : length (names_lent left) < 1 = omega (arith, length-map left.now (λ name. name.now), c.in-Some-empty.len_below) in
    gives_own c.args.text.now c.args.modifier (map (λ name. name.now) c.args.path.now) c.behind.result c.behind.ensures left c.in-Some-empty.is short

pub returns-in-Some : goal.returns-in-Some
returns-in-Some c =
    let left = c.in-Some.rest in
    let long : 0 < length (names_lent left) = omega (arith, length-map left.now (λ name. name.now), c.in-Some.len_at_least) in
    c.given_in.ensures ∙ gives_nested c.args.text.now c.args.modifier (map (λ name. name.now) c.args.path.now) c.behind.result c.behind.ensures left c.in-Some.is long
