use Rattle.std.proofs.Common.{◌<◌, ◌≤◌, length, arith}
use Rattle.flat_names.proofs.Tabled.{itself, table_next, table_all}
use Rattle.flat_names.proofs.table.text_table.Goals as goal

pub loop-number-preserved : goal.loop-number-preserved
loop-number-preserved c =
    let within : c.loop-number.number < length c.args.names.now = omega arith in
    table_next itself c.args.names.now c.loop-number.number c.index-names-number.result within c.index-names-number.is c.loop-number.table c.declare.new.self
    c.loop-number.invariant c.as_bytes.result.now _ c.as_bytes.ensures c.in_ok-declare.ensures.declared

pub returns : goal.returns
returns c =
    let past : length c.args.names.now ≤ c.loop-number.number = omega arith in
    table_all c.args.names.now c.loop-number.number c.loop-number.table past c.loop-number.invariant
