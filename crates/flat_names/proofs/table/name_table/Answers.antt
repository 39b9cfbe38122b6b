use Rattle.std.proofs.Common.{◌≡◌, ◌+◌, ◌<◌, ◌≤◌, true, false, length, map, take, sym, subst, AllPairs, arith}
use Rattle.std.proofs.lemmas.List.{take_all}
use Rattle.class_scopes.specs.Tables.{IsTableOf}
use Rattle.flat_names.proofs.Tabled.{table_next, table_told}
use Rattle.flat_names.proofs.Apart.{Differ, decided, next}
use Rattle.flat_names.proofs.table.name_table.Goals as goal

pub returns-clause-table : goal.returns-clause-table
returns-clause-table c =
    let past : length c.args.names.now ≤ c.loop-number.number = omega arith in
    subst (λ n. IsTableOf (map (λ name. name.text) n) c.loop-number.table) (take_all c.loop-number.number c.args.names.now past) c.loop-number.invariant.table

pub returns-clause-apart : goal.returns-clause-apart
returns-clause-apart c =
    let past : length c.args.names.now ≤ c.loop-number.number = omega arith in
    decided c.args.names.now c.loop-number.number c.loop-number.apart past c.loop-number.invariant.apart c.loop-number.invariant.alike

pub loop-number-preserved : goal.loop-number-preserved
loop-number-preserved c =
    let within : c.loop-number.number < length c.args.names.now = omega arith in
    let told = table_told (λ name. name.text) c.args.names.now c.loop-number.number c.index-names-number.result within c.index-names-number.is c.loop-number.table c.declare.new.self
    c.loop-number.invariant.table c.as_bytes.result.now _ c.as_bytes.ensures c.in_ok-added.ensures.declared in
    let more = next c.args.names.now c.loop-number.number c.index-names-number.result within c.index-names-number.is c.loop-number.apart c.in_ok-added.added told
    c.loop-number.invariant.apart c.loop-number.invariant.alike in
    record {
      table = table_next (λ name. name.text) c.args.names.now c.loop-number.number c.index-names-number.result within c.index-names-number.is c.loop-number.table c.declare.new.self
          c.loop-number.invariant.table c.as_bytes.result.now _ c.as_bytes.ensures c.in_ok-added.ensures.declared;
      apart = subst (λ b. b ≡ true → AllPairs Differ (take (c.loop-number.number + 1) c.args.names.now)) (sym c.both-apart.ensures) more.0;
      alike = subst (λ b. b ≡ false → AllPairs Differ c.args.names.now → ⊥) (sym c.both-apart.ensures) more.1;
    }
