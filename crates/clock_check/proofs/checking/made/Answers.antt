use Rattle.std.proofs.Common.{arith, ◌∙◌, sym, ap, subst, length}
use Rattle.clock_check.specs.ClockingOf.{AreSites}
use Rattle.clock_check.proofs.Conditions.{node_count}
use Rattle.clock_check.proofs.Parting.{names_at, nodes_at, parted_count, parted_each}
use Rattle.clock_check.proofs.checking.made.Goals as goal

pub of_name-requires : goal.of_name-requires
of_name-requires c =
    let all = node_count c.args.flat.now c.args.terms.now c.args.classes.now c.requires.terms c.requires.classes in
    let names = ap length c.as_slice-names.ensures in
    let class_of = ap length c.as_slice-class_of.ensures in
    omega (arith, all, names, class_of)

pub of_equation-requires : goal.of_equation-requires
of_equation-requires c =
    let all = node_count c.args.flat.now c.args.terms.now c.args.classes.now c.requires.terms c.requires.classes in
    let names = ap length c.as_slice-names.ensures in
    let class_of = ap length c.as_slice-class_of.ensures in
    let nodes = ap length c.as_slice.ensures in
    omega (arith, all, names, class_of, nodes)

pub partitions-requires : goal.partitions-requires
partitions-requires c =
    ap length c.as_slice-3.ensures ∙ c.requires.classes.lengths.partition ∙ sym c.requires.classes.lengths.clocked ∙ sym (ap length c.as_slice-2.ensures)

pub returns : goal.returns
returns c = record {
  names = names_at c.args.numbers.now c.in_ok-of_name.field-0 c.as_slice-names.result.now c.args.flat.now.names c.as_slice-class_of.result.now c.args.classes.now.class_of c.as_slice-names.ensures c.as_slice-class_of.ensures (c.in_ok-of_name.ensures {u = tt});
  equations = nodes_at c.args.numbers.now c.in_ok-of_equation.field-0 (length c.as_slice-names.result.now) (length c.args.flat.now.names) c.as_slice-class_of.result.now c.args.classes.now.class_of c.as_slice.result.now c.args.terms.now.nodes
      (ap length c.as_slice-names.ensures) c.as_slice-class_of.ensures c.as_slice.ensures (c.in_ok-of_equation.ensures {u = tt});
  partition_count = parted_count c.as_slice-2.result.now c.args.classes.now.clocked c.in_ok-partitions.field-0 c.as_slice-2.ensures c.in_ok-partitions.ensures.length;
  partitions = parted_each c.as_slice-2.result.now c.args.classes.now.clocked c.as_slice-3.result.now c.args.classes.now.partition c.in_ok-partitions.field-0 c.as_slice-2.ensures c.as_slice-3.ensures c.in_ok-partitions.ensures.each;
  clocks = c.in_ok-clocks.ensures {u = tt};
  sites = subst (λ l. AreSites l c.in_ok-sites.field-0) c.as_slice-4.ensures (c.in_ok-sites.ensures {u = tt});
}
