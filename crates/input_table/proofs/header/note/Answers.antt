use Rattle.std.proofs.Common.{◌∙◌, ap}
use Rattle.input_table.specs.private.Finding.{number_of}
use Rattle.input_table.proofs.Found.{Entries, insert_found}
use Rattle.input_table.proofs.header.note.Goals as goal

pub returns : goal.returns
returns c other =
    ap (λ (es : Entries). number_of other es) c.in_ok-insert.ensures.entries ∙ insert_found other c.args.found.now.entries c.args.text c.args.number
