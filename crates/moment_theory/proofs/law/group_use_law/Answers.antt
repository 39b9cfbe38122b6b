use Rattle.moment_theory.proofs.FromRunnable.{facts_of}
use Rattle.moment_theory.proofs.GroupUses.{only_within, none_within}
use Rattle.moment_theory.proofs.law.group_use_law.Goals as goal

pub returns : goal.returns
returns c = λ s group S T m runs same entry within equation name. record {
  only = λ v can only. only_within s (facts_of s runs).unclocked group S T m same entry within equation name v can only;
  none = λ can none. none_within s (facts_of s runs).unclocked group S T m same entry within equation name can none;
}
