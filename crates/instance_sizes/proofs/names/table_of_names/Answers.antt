use Rattle.std.proofs.Common.{◌<◌, ◌≤◌, length, subst, arith}
use Rattle.std.proofs.lemmas.List.{take_all}
use Rattle.class_scopes.specs.Tables.{IsTableOf}
use Rattle.instance_sizes.proofs.Naming.{table_next}
use Rattle.instance_sizes.proofs.names.table_of_names.Goals as goal

pub loop-number-preserved : goal.loop-number-preserved
loop-number-preserved c =
    let within : c.loop-number.number < length c.args.names.now = omega arith in
    table_next c.args.names.now c.loop-number.number c.index-names-number.result within c.index-names-number.is c.loop-number.table c.declare.new.self
    c.loop-number.invariant c.as_bytes.result.now _ c.as_bytes.ensures c.in_ok-declare.ensures.declared

pub returns : goal.returns
returns c =
    let past : length c.args.names.now ≤ c.loop-number.number = omega arith in
    subst (λ n. IsTableOf n c.loop-number.table) (take_all c.loop-number.number c.args.names.now past) c.loop-number.invariant
