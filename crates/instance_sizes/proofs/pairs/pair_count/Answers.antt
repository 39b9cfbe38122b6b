use Rattle.std.proofs.Common.{◌≡◌, ◌∙◌, ap, map, min, length, arith}
use Rattle.flat_instances.specs.Instances.{variables}
use Rattle.flat_instances.specs.Kept.{seen}
use Rattle.connection_equations.specs.Connections.{pairs}
use Rattle.connection_equations.proofs.Tabled.{table_below}
use Rattle.instance_sizes.specs.Counts.{named}
use Rattle.instance_sizes.proofs.Naming.{names_few, numbers_in}
use Rattle.instance_sizes.proofs.pairs.pair_count.Goals as goal

pub overflow_cast-count : goal.overflow_cast-count
overflow_cast-count c =
    let text = c.args.scopes.now.named.file.text.now in
    let classes = c.args.scopes.now.named.file.classes.now in
    let all = map (seen text classes) c.args.items.now in
    let names_are : c.as_slice-names.result.now ≡ map (λ v. v.name) (named text classes all) = c.as_slice-names.ensures.value ∙ c.in_ok-found.ensures text classes in
    let few = names_few c.as_slice-names.result.now (variables text classes all) names_are in
    omega (arith, few, c.requires)

pub invariant_of-joiner : goal.invariant_of-joiner
invariant_of-joiner c =
    let text = c.args.scopes.now.named.file.text.now in
    let classes = c.args.scopes.now.named.file.classes.now in
    let all = map (seen text classes) c.args.items.now in
    let names_are : c.as_slice-names.result.now ≡ map (λ v. v.name) (named text classes all) = c.as_slice-names.ensures.value ∙ c.in_ok-found.ensures text classes in
    let few = names_few c.as_slice-names.result.now (variables text classes all) names_are in
    record {
      few = omega (arith, few, c.requires);
      below = table_below c.as_slice-names.result.now c.in_ok-table.table (length c.as_slice-names.result.now) c.in_ok-table.ensures (omega arith);
    }

pub returns : goal.returns
returns c =
    let text = c.args.scopes.now.named.file.text.now in
    let classes = c.args.scopes.now.named.file.classes.now in
    let all = map (seen text classes) c.args.items.now in
    let names_are : c.as_slice-names.result.now ≡ map (λ v. v.name) (named text classes all) = c.as_slice-names.ensures.value ∙ c.in_ok-found.ensures text classes in
    c.in_ok-pairs.ensures
    ∙ ap (λ number. min (length (pairs text classes number all)) 65537) (numbers_in text classes c.as_slice-names.result.now c.in_ok-table.table all c.in_ok-table.ensures names_are)
