-- A line is as it was once what it printed is let go.
use Rattle.std.specs.Prelude.{◌≡◌, ⊤}
use Rattle.std.specs.Borrow.{follows_so, MutBor, Fml}
use mathlib.Core.Option.{none}
use Rattle.trace_print.specs.Room.{Room}
use Rattle.trace_print.specs.contracts.line.Line.{the_row}

abbrev pub KeepsRoom : MutBor Room → Fml
KeepsRoom line = follows_so the_row the_row line.ghost_name none (λ _ _. ⊤) (λ last. last ≡ line.now)
