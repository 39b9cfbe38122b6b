use Rattle.std.proofs.Common.{◌∙◌, ap, sym, is_some}
use Rattle.flat_answer.specs.Inputs.{outer_names}
use Rattle.flat_names.proofs.Tabled.{is_tabled}
use Rattle.flat_names.proofs.names.Namer.is_outer.Goals as goal

pub returns : goal.returns
returns c =
    let text = c.args.self.now.file.now.text.now in
    let classes = c.args.self.now.file.now.classes.now in
    c.is_some.ensures ∙ ap is_some c.number.ensures ∙ is_tabled (outer_names text classes c.args.self.now.chosen) c.args.self.now.outer.now c.args.name.now c.args.self.now.tabled
