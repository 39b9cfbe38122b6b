use Rattle.std.proofs.Common.{arith, ◌≡◌, ◌∙◌, ◌<◌, ◌&&◌, refl, ap, ap₂, sym, None, false, length, get_or}
use Rattle.std.proofs.lemmas.Bool.{and_parts}
use Rattle.site_risings.specs.Risings.{is_high, is_low, answer_of, was_low}
use Rattle.site_risings.proofs.NotedMore.{can_rise, noted_next, answer_at, low_at, was_same}
use Rattle.site_risings.proofs.noting.note_sites.Goals as goal

pub note_site-requires : goal.note_site-requires
note_site-requires g c =
    let k = c.loop-site.site in
    let lt : k < length c.args.answers.now = c.loop-site-test.true in
    let wide : length c.loop-site.low ≡ length c.args.low.now = c.loop-site.invariant.wide in
    let long = c.requires.long in
    let same = c.requires.wide in
    let here : get_or c.loop-site.low k false ≡ was_low c.args.low.now k = low_at c.loop-site.low k false (omega (arith, lt, wide, long, same)) ∙ was_same c.loop-site.low c.args.low.now k (c.loop-site.invariant.still k (omega arith)) in
    λ both. can_rise c.args.answers.now c.args.low.now (g.P.TickSource.planned c.args.plan.now) c.requires k (g.P.TickSource.planned c.loop-site.plan) c.loop-site.low c.loop-site.invariant lt (sym here ∙ (and_parts _ _ both).1)

pub loop-site-preserved : goal.loop-site-preserved
loop-site-preserved g c =
    let k = c.loop-site.site in
    let lt : k < length c.args.answers.now = c.loop-site-test.true in
    let wide : length c.loop-site.low ≡ length c.args.low.now = c.loop-site.invariant.wide in
    let long = c.requires.long in
    let same = c.requires.wide in
    let here : get_or c.loop-site.low k false ≡ was_low c.args.low.now k = low_at c.loop-site.low k false (omega (arith, lt, wide, long, same)) ∙ was_same c.loop-site.low c.args.low.now k (c.loop-site.invariant.still k (omega arith)) in
    let answer : get_or c.args.answers.now k None ≡ answer_of c.args.answers.now k = answer_at c.args.answers.now k None lt in
    noted_next c.args.answers.now c.args.low.now (g.P.TickSource.planned c.args.plan.now) c.requires k (g.P.TickSource.planned c.loop-site.plan) (g.P.TickSource.planned c.note_site.new.plan) c.loop-site.low c.loop-site.invariant lt
    c.is_answer.result (c.is_answer.ensures.low refl ∙ ap is_low answer) (is_high (get_or c.args.answers.now k None) && get_or c.loop-site.low k false) (ap₂ (λ a b. is_high a && b) answer here) c.note_site.ensures
