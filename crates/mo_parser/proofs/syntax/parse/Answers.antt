use Rattle.std.proofs.Common.{◌≡◌, rules}
use Rattle.mo_parser.specs.reading.Outcomes.{Deep, Read, Stuck}
use Rattle.mo_parser.specs.reading.Classes.{file}
use Rattle.mo_parser.proofs.Faults.{longer_refused, refused_answer, stuck_refused, too_deep}
use Rattle.mo_parser.proofs.fits.Classes.{fits_file}
use Rattle.mo_parser.proofs.syntax.parse.Goals as goal

pub returns-then-is_end : goal.returns-then-is_end
returns-then-is_end c =
    let is : file c.args.text.now 64 c.args.tokens.now ≡ Read c.in-Ok.tree c.file.new.tokens = search rules in
    (c.file.new.tokens, (fits_file c.args.text.now {n = 64}).sound c.in-Ok.tree c.args.tokens.now c.file.new.tokens is, search rules)

pub returns-else-is_end : goal.returns-else-is_end
returns-else-is_end c =
    let is : file c.args.text.now 64 c.args.tokens.now ≡ Read c.in-Ok.tree c.file.new.tokens = search rules in
    refused_answer c.args.text.now 64 c.args.tokens.now c.file.new.tokens c.peek-else-is_end.result c.refused.result (longer_refused c.args.text.now 64 c.in-Ok.tree c.args.tokens.now c.file.new.tokens is (search rules)) (search rules) (search rules)

pub returns-in-Err-Stuck : goal.returns-in-Err-Stuck
returns-in-Err-Stuck c =
    let is : file c.args.text.now 64 c.args.tokens.now ≡ Stuck c.file.new.tokens = search rules in
    refused_answer c.args.text.now 64 c.args.tokens.now c.file.new.tokens c.peek-in-Err-Stuck.result c.refused-in-Err-Stuck.result (stuck_refused c.args.text.now 64 c.args.tokens.now c.file.new.tokens is) (search rules) (search rules)

pub returns-in-Err-Deep : goal.returns-in-Err-Deep
returns-in-Err-Deep c =
    let is : file c.args.text.now 64 c.args.tokens.now ≡ Deep c.file.new.tokens = search rules in
    (c.file.new.tokens, search rules, too_deep c.args.text.now 64 c.args.tokens.now c.file.new.tokens is)
