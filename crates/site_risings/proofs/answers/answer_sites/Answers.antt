use Rattle.std.proofs.Common.{rules, arith, ◌≡◌, ◌∙◌, ◌≤◌, length, ap}
use Rattle.flat_model.specs.Values.{truth_in, views_of}
use Rattle.flat_model.specs.Meaning.{value_of}
use Rattle.site_risings.proofs.Answering.{there, tells_next, tells_end, answered_none, answered_next, answered_end}
use Rattle.site_risings.proofs.answers.answer_sites.Goals as goal

pub loop-site-init : goal.loop-site-init
loop-site-init c = record {
  answered = answered_none (λ condition. truth_in (value_of condition (views_of c.args.now.now))) c.args.sites.now c.args.answers.now c.requires.long;
  failing = λ site kind lt fails. absurd (omega (arith, lt));
}

pub loop-site-preserved : goal.loop-site-preserved
loop-site-preserved c =
    let (condition, found) = there c.args.sites.now c.loop-site.site c.loop-site-test.true in record {
      answered = answered_next (λ condition. truth_in (value_of condition (views_of c.args.now.now))) c.args.sites.now c.loop-site.site c.loop-site.answers condition found c.truth.result
          (c.truth.ensures ∙ ap truth_in (c.found_at-found.ensures condition found)) c.loop-site.invariant.answered;
      failing = tells_next c.args.now.now c.args.sites.now c.loop-site.site condition found c.loop-site.failing c.first_of-failing.result c.failure_at.result (c.failure_at.ensures condition found) c.first_of-failing.ensures.some c.first_of-failing.ensures.none c.loop-site.invariant.failing;
    }

pub returns-clause-answers : goal.returns-clause-answers
returns-clause-answers c =
    let all : length c.args.sites.now ≤ c.loop-site.site = search rules in
    answered_end (λ condition. truth_in (value_of condition (views_of c.args.now.now))) c.args.sites.now c.loop-site.site c.loop-site.answers all c.loop-site.invariant.answered

pub returns-clause-failing : goal.returns-clause-failing
returns-clause-failing c =
    let all : length c.args.sites.now ≤ c.loop-site.site = search rules in
    tells_end c.args.now.now c.args.sites.now c.loop-site.site c.loop-site.failing all c.loop-site.invariant.failing
