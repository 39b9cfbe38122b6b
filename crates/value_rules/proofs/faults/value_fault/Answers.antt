use Rattle.std.proofs.Common.{sym, subst, length, map}
use Rattle.parameter_values.specs.Givens.{valued}
use Rattle.value_rules.specs.private.Missing.{waiting, IsFirstWaiting}
use Rattle.value_rules.proofs.Reading.{long_map}
use Rattle.value_rules.proofs.Verdicts.{is_waiting, is_failing, is_kept}
use Rattle.value_rules.proofs.faults.value_fault.Goals as goal

pub returns-in-Some : goal.returns-in-Some
returns-in-Some c =
    let text = c.args.text.now in
    let table = c.args.numbers.now in
    let found = c.args.found.now in
    let count = length c.args.parameters.now in
    let items = map valued c.args.parameters.now in
    is_waiting text table found items count (sym (long_map valued c.args.parameters.now)) c.args.variables.now c.in-Some.x
    (subst (IsFirstWaiting (map (waiting text table found count) items)) c.in-Some.is c.in_ok-waiting.ensures)

pub returns-in-Some-failing : goal.returns-in-Some-failing
returns-in-Some-failing c =
    let text = c.args.text.now in
    let table = c.args.numbers.now in
    let found = c.args.found.now in
    let count = length c.args.parameters.now in
    let items = map valued c.args.parameters.now in
    let order = subst (IsFirstWaiting (map (waiting text table found count) items)) c.in-None.is c.in_ok-waiting.ensures in
    is_failing text table found items count (sym (long_map valued c.args.parameters.now)) c.args.variables.now order.0 order.1 c.in_ok-failing-in-None.failing c.in_ok-failing-in-None.ensures
    c.in-Some-failing.x c.in-Some-failing.is

pub returns-in-None-failing : goal.returns-in-None-failing
returns-in-None-failing c =
    let text = c.args.text.now in
    let table = c.args.numbers.now in
    let found = c.args.found.now in
    let count = length c.args.parameters.now in
    let items = map valued c.args.parameters.now in
    let order = subst (IsFirstWaiting (map (waiting text table found count) items)) c.in-None.is c.in_ok-waiting.ensures in
    is_kept text table found items count (sym (long_map valued c.args.parameters.now)) c.args.variables.now order.0 order.1 c.in_ok-failing-in-None.failing c.in_ok-failing-in-None.ensures c.in-None-failing.is
