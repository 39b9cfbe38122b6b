use Rattle.std.proofs.Common.{◌≡◌, flat_map, map, take}
use Rattle.value_rules.specs.private.Missing.{missing_read}
use Rattle.value_rules.proofs.missing.missing_reads.Given as goal

abbrev pub invariant-loop-path : goal.invariant-loop-path
invariant-loop-path l = l.found.items ≡ flat_map (missing_read l.values.text.now l.values.numbers.now l.values.slots.now l.count l.scope) (map (λ path. path.now) (take l.path-index l.path-items))
