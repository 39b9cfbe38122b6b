-- What is put on the sinks.
use Rattle.std.specs.Prelude.{◌≡◌, ◌⊎◌, ◌≢◌, ℕ, List, []}
use Rattle.outside_io.specs.Texts.{grown, GrewByPrefix}
use Rattle.command_words.specs.Lines.{usage_line}
use Rattle.command_answer.specs.declared.status.Status.{Status}
use Rattle.command_answer.specs.declared.status.Status.TheVariants.{Done, WriteFault}
use Rattle.command_answer.specs.Calls.{Written, WriteRose, read_fault, no_memory}
use Rattle.command_answer.specs.Stages.{Answer, refused, usage_answer}
use Rattle.command_stages.specs.declared.end.End.{End}
use Rattle.command_stages.specs.declared.end.End.TheVariants.{Usage, Refused, ReadFault, NoMemory}

-- the answer of what ended a command early
abbrev pub answer_of : End → Answer
answer_of (Usage fault) = usage_answer (usage_line fault)
answer_of (Refused code place) = refused code place
answer_of (ReadFault name) = read_fault name.now
answer_of NoMemory = no_memory

-- a line was put whole, or the sink failed in its midst
abbrev pub PutsLine : Status → List ℕ → Status → Written → Type 0
PutsLine status line result sink = ((result ≡ status) × (sink.new ≡ grown line sink.old)) ⊎ ((result ≡ WriteFault) × WriteRose sink × GrewByPrefix line sink.old sink.new)

-- a text was put whole, or the sink failed in its midst
abbrev pub PrintsText : List ℕ → Status → Written → Type 0
PrintsText text result sink = ((result ≡ Done) × (sink.new ≡ grown text sink.old)) ⊎ ((result ≡ WriteFault) × (text ≢ []) × WriteRose sink × GrewByPrefix text sink.old sink.new)
