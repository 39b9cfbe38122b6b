use Rattle.std.proofs.Common.{◌≡◌, rules}
use Rattle.input_table.specs.private.Reading.{last_time}
use Rattle.input_table.proofs.Cells.{last_in_range}
use Rattle.input_table.proofs.rows.last_of.Goals as goal

pub returns-clause-range : goal.returns-clause-range
returns-clause-range c all =
    let is : c.copied.result ≡ last_time c.args.times.now = search rules in
    last_in_range c.args.times.now c.copied.result is all
