use Rattle.std.proofs.Common.{◌≡◌, drop}
use Rattle.clock_terms.specs.Clocking.{Held}
use Rattle.clock_spread.specs.Rounds.{offered}
use Rattle.clock_spread.specs.Found.{Agree, class_in}
use Rattle.clock_spread.proofs.offers.take.Given as goal

abbrev pub invariant-loop-relation : goal.invariant-loop-relation
invariant-loop-relation l =
    (held : Held) → Agree l.fn.found held → offered (class_in l.fn.class_of) held (drop l.relation-index l.fn.touching) l.fn.class ≡ offered (class_in l.fn.class_of) held l.fn.touching l.fn.class
