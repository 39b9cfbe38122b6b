-- A sink in memory.
use Rattle.std.specs.Prelude.{ℕ, ◌+◌, ◌++◌, ◌||◌, min, Bool, List, [], length, take, nat_lt, if◌then◌else◌}
use Rattle.outside_io.specs.Counts.{next, is_listed}
use Rattle.outside_io.specs.declared.sink.Put.{Put}
use Rattle.outside_io.specs.declared.sink.Put.TheVariants.{Taken, Failed}

-- its text, the most bytes that the text may have, the most bytes that a put takes, the numbers of the
-- puts that are to fail, and how many puts there were and how many failed
pub record MemorySink : Type 0 where
  pub text : List ℕ
  pub room : ℕ
  pub chunk : ℕ
  pub failing : List ℕ
  pub puts : ℕ
  pub faults : ℕ

-- a sink without text, on which nothing was put yet
abbrev pub new_sink : ℕ → ℕ → List ℕ → MemorySink
new_sink room chunk failing =
    record { text = []; room = room; chunk = chunk; failing = failing; puts = 0; faults = 0 }

-- how many bytes of a piece a put takes, where it does not fail
abbrev pub share : MemorySink → List ℕ → ℕ
share sink piece = min sink.chunk (length piece)

-- a put fails where its number is listed, and where the text would be longer than the room
abbrev pub fails : MemorySink → List ℕ → Bool
fails sink piece = is_listed sink.failing (next sink.puts) || nat_lt sink.room (length sink.text + share sink piece)

-- what a put of a piece answers
abbrev pub put_answer : MemorySink → List ℕ → Put
put_answer sink piece = if fails sink piece then Failed else Taken (share sink piece)

-- the sink after a put of a piece
abbrev pub after_put : MemorySink → List ℕ → MemorySink
after_put sink piece =
    if fails sink piece
    then record sink { puts = next sink.puts; faults = next sink.faults }
    else record sink { puts = next sink.puts; text = sink.text ++ take (share sink piece) piece }
