use Rattle.std.proofs.Common.{◌∙◌, ap, sym, min, []}
use Rattle.flat_instances.specs.Instances.{instances}
use Rattle.instance_totals.specs.Weights.{number_at}
use Rattle.instance_totals.proofs.Totals.{all_items}
use Rattle.instance_totals.proofs.weighing.Weighing.total.Goals as goal

pub returns : goal.returns
unfolding instances
returns c =
    let text = c.args.self.now.file.now.text.now in
    let classes = c.args.self.now.file.now.classes.now in
    c.number_at.ensures ∙ ap (λ l. number_at l c.args.class) c.as_slice.ensures.value ∙ c.in_ok-totals.ensures c.args.class
    ∙ ap (λ n. min n c.args.self.now.most) (sym (all_items text classes c.args.self.now.variable c.args.self.now.own.now 33 [] [] c.args.class))
