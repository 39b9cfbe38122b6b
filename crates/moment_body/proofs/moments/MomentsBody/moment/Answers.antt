use Rattle.std.proofs.Common.{rules, ◌≡◌, refl, ap, ◌∙◌, length, map, None}
use Rattle.std.specs.Vec.{with_items}
use Rattle.flat_model.specs.Values.{value_in}
use Rattle.moment_join.specs.Told.{earlier}
use Rattle.moment_moves.specs.Moments.{fault_of}
use Rattle.moment_body.specs.declared.sheet.Sheet.{Sheet}
use Rattle.moment_body.proofs.Called.{fault_told, may_note, may_take_rest, may_keep, moves_well, moves_badly}
use Rattle.moment_body.proofs.Moving.{Noted}
use Rattle.moment_body.proofs.Written.{IsWritten, whole_back}
use Rattle.moment_body.proofs.moments.MomentsBody.moment.Goals as goal

pub note_sites-requires : goal.note_sites-requires
note_sites-requires g c =
    let s = c.args.self.now.steps in
    may_note (g.T.Steps.stages s) (g.T.Steps.stands s) c.args.self.now.model c.args.self.now.sheet (g.P.TickSource.planned c.args.plan.now) c.args.at c.requires.there
    c.take_pure-first.new.now c.as_slice.result.now c.as_slice.ensures c.answer_sites-site.new.answers c.answer_sites-site.ensures.answers c.as_mut_slice-low.result.now c.as_mut_slice-low.ensures.value

pub take_rest-behind-requires : goal.take_rest-behind-requires
take_rest-behind-requires g c =
    let s = c.args.self.now.steps in
    let found : Noted (g.T.Steps.stages s) (g.T.Steps.stands s) (g.T.Steps.based c.take_pure-first.new.self) c.args.self.now.model c.args.self.now.sheet (g.P.TickSource.planned c.args.plan.now) c.args.at = record {
      old = c.as_mut_slice-now.result.now;
      inputs = c.fill_inputs.new.now;
      base = c.take_pure-first.new.now;
      first = c.take_pure-first.result;
      sites = c.as_slice.result.now;
      answers = c.answer_sites-site.new.answers;
      low = c.as_mut_slice-low.result.now;
      plan = g.P.TickSource.planned c.note_sites.new.plan;
      lows = c.note_sites.new.low;
      site = c.answer_sites-site.result;
      old_is = c.as_mut_slice-now.ensures.value;
      inputs_long = c.fill_inputs.auto.now;
      base_long = c.take_pure-first.auto.now;
      sites_is = c.as_slice.ensures;
      low_is = c.as_mut_slice-low.ensures.value;
      fills = c.fill_inputs.ensures;
      takes = c.take_pure-first.ensures.takes;
      answered = c.answer_sites-site.ensures.answers;
      tells = c.answer_sites-site.ensures.failing;
      noted = c.note_sites.ensures;
    } in
    may_take_rest (g.T.Steps.stages s) (g.T.Steps.stands s) (g.T.Steps.based c.take_pure-first.new.self) c.args.self.now.model c.args.self.now.sheet (g.P.TickSource.planned c.args.plan.now) c.args.at found
    (g.P.Ticking.ticks c.note_sites.new.plan) (λ class. g.met.P.TickSource.ticks_are c.note_sites.new.plan class) (g.T.Steps.stages c.take_pure-first.new.self) c.take_pure-first.ensures.same c.requires.there

pub keep-requires : goal.keep-requires
keep-requires g c =
    let s = c.args.self.now.steps in
    let found : Noted (g.T.Steps.stages s) (g.T.Steps.stands s) (g.T.Steps.based c.take_pure-first.new.self) c.args.self.now.model c.args.self.now.sheet (g.P.TickSource.planned c.args.plan.now) c.args.at = record {
      old = c.as_mut_slice-now.result.now;
      inputs = c.fill_inputs.new.now;
      base = c.take_pure-first.new.now;
      first = c.take_pure-first.result;
      sites = c.as_slice.result.now;
      answers = c.answer_sites-site.new.answers;
      low = c.as_mut_slice-low.result.now;
      plan = g.P.TickSource.planned c.note_sites.new.plan;
      lows = c.note_sites.new.low;
      site = c.answer_sites-site.result;
      old_is = c.as_mut_slice-now.ensures.value;
      inputs_long = c.fill_inputs.auto.now;
      base_long = c.take_pure-first.auto.now;
      sites_is = c.as_slice.ensures;
      low_is = c.as_mut_slice-low.ensures.value;
      fills = c.fill_inputs.ensures;
      takes = c.take_pure-first.ensures.takes;
      answered = c.answer_sites-site.ensures.answers;
      tells = c.answer_sites-site.ensures.failing;
      noted = c.note_sites.ensures;
    } in
    let told : fault_of c.args.at c.answer_sites-site.result (earlier c.take_pure-first.result c.take_rest-behind.result) ≡ c.fault_of.result =
    fault_told c.args.at c.answer_sites-site.result c.take_pure-first.result c.take_rest-behind.result c.earlier.result c.fault_of.result c.earlier.ensures c.fault_of.ensures in
    let none : c.fault_of.result ≡ None = search rules in
    may_keep (g.T.Steps.stages s) (g.T.Steps.stands s) (g.T.Steps.based c.take_pure-first.new.self) c.args.self.now.model c.args.self.now.sheet (g.P.TickSource.planned c.args.plan.now) c.args.at found
    (g.P.Ticking.ticks c.note_sites.new.plan) (λ class. g.met.P.TickSource.ticks_are c.note_sites.new.plan class) (g.T.Steps.stages c.take_pure-first.new.self) c.take_pure-first.ensures.same
    (g.T.Steps.ended c.take_rest-behind.new.self) c.take_rest-behind.new.now c.take_rest-behind.auto.now c.take_rest-behind.result c.take_rest-behind.ensures.takes
    (told ∙ none) (g.T.Steps.stages c.take_rest-behind.new.self) c.take_rest-behind.ensures.same c.requires.there

pub returns-in-Some : goal.returns-in-Some
returns-in-Some g c =
    let s = c.args.self.now.steps in
    let found : Noted (g.T.Steps.stages s) (g.T.Steps.stands s) (g.T.Steps.based c.take_pure-first.new.self) c.args.self.now.model c.args.self.now.sheet (g.P.TickSource.planned c.args.plan.now) c.args.at = record {
      old = c.as_mut_slice-now.result.now;
      inputs = c.fill_inputs.new.now;
      base = c.take_pure-first.new.now;
      first = c.take_pure-first.result;
      sites = c.as_slice.result.now;
      answers = c.answer_sites-site.new.answers;
      low = c.as_mut_slice-low.result.now;
      plan = g.P.TickSource.planned c.note_sites.new.plan;
      lows = c.note_sites.new.low;
      site = c.answer_sites-site.result;
      old_is = c.as_mut_slice-now.ensures.value;
      inputs_long = c.fill_inputs.auto.now;
      base_long = c.take_pure-first.auto.now;
      sites_is = c.as_slice.ensures;
      low_is = c.as_mut_slice-low.ensures.value;
      fills = c.fill_inputs.ensures;
      takes = c.take_pure-first.ensures.takes;
      answered = c.answer_sites-site.ensures.answers;
      tells = c.answer_sites-site.ensures.failing;
      noted = c.note_sites.ensures;
    } in
    let told : fault_of c.args.at c.answer_sites-site.result (earlier c.take_pure-first.result c.take_rest-behind.result) ≡ c.fault_of.result =
    fault_told c.args.at c.answer_sites-site.result c.take_pure-first.result c.take_rest-behind.result c.earlier.result c.fault_of.result c.earlier.ensures c.fault_of.ensures in
    let sheet = c.args.self.now.sheet in
    let left : Sheet = record sheet { now = with_items sheet.now c.take_rest-behind.new.now; answers = with_items sheet.answers c.answer_sites-site.new.answers; low = with_items sheet.low c.note_sites.new.low } in
    record {
      moves = moves_badly (g.T.Steps.stages s) (g.T.Steps.stands s) (g.T.Steps.based c.take_pure-first.new.self) c.args.self.now.model c.args.self.now.sheet (g.P.TickSource.planned c.args.plan.now) c.args.at found
          (g.P.Ticking.ticks c.note_sites.new.plan) (λ class. g.met.P.TickSource.ticks_are c.note_sites.new.plan class) (g.T.Steps.stages c.take_pure-first.new.self) c.take_pure-first.ensures.same
          (g.T.Steps.ended c.take_rest-behind.new.self) c.take_rest-behind.new.now c.take_rest-behind.auto.now c.take_rest-behind.result c.take_rest-behind.ensures.takes
          c.in-Some.fault (told ∙ c.in-Some.is) (g.T.Steps.stages c.take_rest-behind.new.self) (g.T.Steps.stands c.take_rest-behind.new.self) left sheet.row.items;
    }

pub returns : goal.returns
returns g c =
    let s = c.args.self.now.steps in
    let found : Noted (g.T.Steps.stages s) (g.T.Steps.stands s) (g.T.Steps.based c.take_pure-first.new.self) c.args.self.now.model c.args.self.now.sheet (g.P.TickSource.planned c.args.plan.now) c.args.at = record {
      old = c.as_mut_slice-now.result.now;
      inputs = c.fill_inputs.new.now;
      base = c.take_pure-first.new.now;
      first = c.take_pure-first.result;
      sites = c.as_slice.result.now;
      answers = c.answer_sites-site.new.answers;
      low = c.as_mut_slice-low.result.now;
      plan = g.P.TickSource.planned c.note_sites.new.plan;
      lows = c.note_sites.new.low;
      site = c.answer_sites-site.result;
      old_is = c.as_mut_slice-now.ensures.value;
      inputs_long = c.fill_inputs.auto.now;
      base_long = c.take_pure-first.auto.now;
      sites_is = c.as_slice.ensures;
      low_is = c.as_mut_slice-low.ensures.value;
      fills = c.fill_inputs.ensures;
      takes = c.take_pure-first.ensures.takes;
      answered = c.answer_sites-site.ensures.answers;
      tells = c.answer_sites-site.ensures.failing;
      noted = c.note_sites.ensures;
    } in
    let told : fault_of c.args.at c.answer_sites-site.result (earlier c.take_pure-first.result c.take_rest-behind.result) ≡ c.fault_of.result =
    fault_told c.args.at c.answer_sites-site.result c.take_pure-first.result c.take_rest-behind.result c.earlier.result c.fault_of.result c.earlier.ensures c.fault_of.ensures in
    let none : c.fault_of.result ≡ None = search rules in
    let sheet = c.args.self.now.sheet in
    let left : Sheet = record sheet { now = with_items sheet.now c.take_rest-behind.new.now; answers = with_items sheet.answers c.answer_sites-site.new.answers; low = with_items sheet.low c.note_sites.new.low; row = with_items sheet.row c.fill_row.new.row } in
    let now_long : length c.take_rest-behind.new.now ≡ length sheet.now.items = c.take_rest-behind.auto.now ∙ c.take_pure-first.auto.now ∙ c.fill_inputs.auto.now ∙ ap length c.as_mut_slice-now.ensures.value in
    let answers_long : length c.answer_sites-site.new.answers ≡ length sheet.answers.items = c.answer_sites-site.auto.answers ∙ ap length c.as_mut_slice-answers.ensures.value in
    let low_long : length c.note_sites.new.low ≡ length sheet.low.items = c.note_sites.auto.low ∙ ap length c.as_mut_slice-low.ensures.value in
    let row_long : length c.fill_row.new.row ≡ length sheet.row.items = c.fill_row.auto.row ∙ ap length c.as_mut_slice.ensures.value in
    let written : IsWritten sheet left c.take_rest-behind.new.now c.note_sites.new.low = record {
      columns = refl;
      now = ap length (whole_back sheet.now.len sheet.now.items c.take_rest-behind.new.now sheet.now.ok.0 now_long) ∙ now_long;
      answers = ap length (whole_back sheet.answers.len sheet.answers.items c.answer_sites-site.new.answers sheet.answers.ok.0 answers_long) ∙ answers_long;
      low = ap length (whole_back sheet.low.len sheet.low.items c.note_sites.new.low sheet.low.ok.0 low_long) ∙ low_long;
      low_is = whole_back sheet.low.len sheet.low.items c.note_sites.new.low sheet.low.ok.0 low_long;
      row_is = whole_back sheet.row.len sheet.row.items c.fill_row.new.row sheet.row.ok.0 row_long ∙ c.fill_row.ensures ∙ ap (λ l. map (λ x. value_in c.take_rest-behind.new.now x) l) c.as_slice-2.ensures;
    } in
    record {
      moves = moves_well (g.T.Steps.stages s) (g.T.Steps.stands s) (g.T.Steps.based c.take_pure-first.new.self) c.args.self.now.model c.args.self.now.sheet (g.P.TickSource.planned c.args.plan.now) c.args.at found
          (g.P.Ticking.ticks c.note_sites.new.plan) (λ class. g.met.P.TickSource.ticks_are c.note_sites.new.plan class) (g.T.Steps.stages c.take_pure-first.new.self) c.take_pure-first.ensures.same
          (g.T.Steps.ended c.take_rest-behind.new.self) c.take_rest-behind.new.now c.take_rest-behind.auto.now c.take_rest-behind.result c.take_rest-behind.ensures.takes
          (told ∙ none) (g.T.Steps.stages c.take_rest-behind.new.self) c.take_rest-behind.ensures.same (g.T.Steps.stages c.keep.new.self) c.keep.ensures.same (g.T.Steps.stands c.keep.new.self) c.keep.ensures.keeps left written;
    }
