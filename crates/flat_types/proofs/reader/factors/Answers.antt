use Rattle.flat_types.specs.Callees.{callee}
use Rattle.flat_types.specs.Readings.{reading}
use Rattle.flat_types.proofs.Forms.{no_call_product}
use Rattle.flat_types.proofs.Nodes.{reading-Call}
use Rattle.std.proofs.Common.{map}
use Rattle.flat_types.proofs.reader.factors.Goals as goal

pub returns-in-Call : goal.returns-in-Call
returns-in-Call c = λ names. rw (c.in-Call.is, reading-Call names c.in-Call.field-0 c.in-Call.field-1) (no_call_product names (callee c.in-Call.field-0) (map (reading names) c.in-Call.field-1))
