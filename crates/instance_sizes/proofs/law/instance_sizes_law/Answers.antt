use Rattle.instance_sizes.proofs.Laws as laws
use Rattle.instance_sizes.proofs.law.instance_sizes_law.Goals as goal

pub returns : goal.returns
returns c = record {
  same_variables = laws.same_variables;
  same_groups = laws.same_groups;
  same_pairs = laws.same_pairs;
  few_names = laws.few_names;
  few_equations = laws.few_equations;
  one_place = laws.one_place;
}
