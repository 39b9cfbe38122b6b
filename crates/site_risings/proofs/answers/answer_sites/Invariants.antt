use Rattle.flat_model.specs.Values.{truth_in, views_of}
use Rattle.flat_model.specs.Meaning.{value_of}
use Rattle.site_risings.proofs.Answering.{TellsBelow, AreAnsweredBelow}
use Rattle.site_risings.proofs.answers.answer_sites.Given as goal

abbrev pub invariant-loop-site : goal.invariant-loop-site
invariant-loop-site l = record {
  answered : AreAnsweredBelow (λ condition. truth_in (value_of condition (views_of l.now))) l.sites l.site l.answers;
  failing : TellsBelow l.now l.sites l.site l.failing;
}
