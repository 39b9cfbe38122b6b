use Rattle.std.proofs.Common.{◌≡◌, refl, ap, ◌∙◌, subst, length, map}
use Rattle.flat_model.specs.Values.{truth_in, views_of}
use Rattle.flat_model.specs.Meaning.{value_of}
use Rattle.moment_body.proofs.Written.{whole_back}
use Rattle.partition_step.specs.Writing.{IsWritten}
use Rattle.site_risings.specs.SiteFailures.{TellsFirst}
use Rattle.window_plan.proofs.Filled.{may_note, written_fills}
use Rattle.window_plan.proofs.planning.fill_moment.Goals as goal

pub note_sites-requires : goal.note_sites-requires
note_sites-requires g c =
    may_note c.args.model.now c.args.at (record { plan = g.P.TickSource.planned c.args.plan.now; pure = c.args.pure.now; low = c.args.low.now; moment = c.args.moment.now }) c.requires
    c.take-moment.new.now c.answer_sites-moment.new.answers (c.answer_sites-moment.ensures.answers ∙ ap (map (λ condition. truth_in (value_of condition (views_of c.take-moment.new.now)))) c.as_slice.ensures)

pub returns-clause-fills : goal.returns-clause-fills
returns-clause-fills g c =
    let moment = c.args.moment.now in
    let base_long : length c.take-moment.new.now ≡ length moment.base.items = c.take-moment.ensures.long ∙ c.fill_inputs.ensures.long ∙ ap length c.as_mut_slice-base.ensures.value in
    let answers_long : length c.answer_sites-moment.new.answers ≡ length moment.answers.items = c.answer_sites-moment.auto.answers ∙ ap length c.as_mut_slice-answers.ensures.value in
    let row_long : length c.ask_ticks.new.ticks ≡ length moment.ticks.items = c.ask_ticks.ensures.size ∙ ap length c.as_mut_slice.ensures.value in
    written_fills c.args.model.now c.args.at (record { plan = g.P.TickSource.planned c.args.plan.now; pure = c.args.pure.now; low = c.args.low.now; moment = moment }) _ (record {
      inputs = c.fill_inputs.new.now;
      base = c.take-moment.new.now;
      answers = c.answer_sites-moment.new.answers;
      row = c.ask_ticks.new.ticks;
      inputs_long = c.fill_inputs.ensures.long ∙ ap length c.as_mut_slice-base.ensures.value;
      base_long = c.take-moment.ensures.long;
      answers_long = answers_long;
      base_is = whole_back moment.base.len moment.base.items c.take-moment.new.now moment.base.ok.0 base_long;
      answers_is = whole_back moment.answers.len moment.answers.items c.answer_sites-moment.new.answers moment.answers.ok.0 answers_long;
      row_is = whole_back moment.ticks.len moment.ticks.items c.ask_ticks.new.ticks moment.ticks.ok.0 row_long;
      at_is = refl;
      holds = c.fill_inputs.ensures.inputs;
      same = c.take-moment.ensures.same;
      takes = c.take-moment.ensures.takes;
      answered = c.answer_sites-moment.ensures.answers ∙ ap (map (λ condition. truth_in (value_of condition (views_of c.take-moment.new.now)))) c.as_slice.ensures;
      tells = subst (λ sites. TellsFirst c.take-moment.new.now sites c.answer_sites-moment.result) c.as_slice.ensures c.answer_sites-moment.ensures.failing;
      noted = c.note_sites.ensures;
      ticks = g.P.Ticking.ticks c.note_sites.new.plan;
      ticks_told = subst (λ old. IsWritten (λ class was. g.P.Ticking.ticks c.note_sites.new.plan class) old c.ask_ticks.new.ticks) c.as_mut_slice.ensures.value c.ask_ticks.ensures;
      ticks_are = λ class. g.met.P.TickSource.ticks_are c.note_sites.new.plan class;
    })
