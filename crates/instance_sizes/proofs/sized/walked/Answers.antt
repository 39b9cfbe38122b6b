use Rattle.std.proofs.Common.{◌∙◌, ap}
use Rattle.mo_order.specs.Marks.{is_marked}
use Rattle.flat_instances.specs.Instances.{instances}
use Rattle.instance_sizes.proofs.Answering.{parts_kept}
use Rattle.instance_sizes.proofs.sized.walked.Goals as goal

pub returns : goal.returns
returns c =
    let text = c.args.scopes.now.named.file.text.now in
    let classes = c.args.scopes.now.named.file.classes.now in
    c.in_ok-items.ensures
    ∙ parts_kept text classes c.as_slice-own.result.now (λ class. ap (λ own. is_marked own class) c.as_slice-own.ensures.value ∙ c.in_ok-owners.ensures class)
    (instances text classes c.args.scopes.now.named.chosen)
