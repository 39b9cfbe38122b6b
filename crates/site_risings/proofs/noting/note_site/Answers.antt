use Rattle.std.proofs.Common.{◌≡◌, ◌∙◌, refl, sym, true}
use Rattle.std.proofs.lemmas.Bool.{and_from}
use Rattle.site_risings.specs.Risings.{is_high}
use Rattle.site_risings.proofs.noting.note_site.Goals as goal

pub rise-requires : goal.rise-requires
rise-requires g c =
    let high : is_high c.args.answer ≡ true = sym (c.is_answer.ensures.high refl) ∙ c.if-is_answer.true in
    let low : c.args.low ≡ true = c.if-low.true in
    c.requires (and_from _ _ high low)
