-- What is proved of a call of the program: its answer, and why each other end comes. This project's own.
use Rattle.std.specs.Prelude.{◌≡◌, ◌≢◌, ◌≤◌, ◌⊎◌, ℕ, List}
use Rattle.command_words.specs.Answer.{IsUsage}
use Rattle.command_words.specs.declared.command.UsageFault.{UsageFault}
use Rattle.command_answer.specs.declared.status.Status.{Status}
use Rattle.command_answer.specs.declared.status.Status.TheVariants.{Usage, ReadFault, WriteFault, NoMemory}
use Rattle.command_answer.specs.Actions.{IsAnswer}
use Rattle.command_answer.specs.Calls.{Outside, KnowsFiles, ReadRose, WriteRose, GrewBoth, EndsWith, files_of, IsNamed, IsQuiet, IsRight, Answers}
use Rattle.command_answer.specs.Stages.{Answer}
use Rattle.command_stages.specs.Reading.{KeepsShelf}

-- the call of the program on these words, over the files and the two sinks of an outside, ends with this status
pub record TopCall (words : List (List ℕ)) (o : Outside) (status : Status) : Type 0 where
  -- where the files are known and no count of faults rose, the call gives the answer to the words, or memory was refused and out stayed
  pub complete : KnowsFiles o → IsQuiet words o → Answers words o status ⊎ ((status ≡ NoMemory) × (o.out.new ≡ o.out.old))
  -- and whatever answer the words have is the one that is printed, unless memory was refused
  pub printed : KnowsFiles o → IsQuiet words o → status ≢ NoMemory → (answer : Answer) → IsAnswer (files_of o) words answer → (status ≡ answer.status) × GrewBoth o.out o.err answer.out answer.err
  -- where the files are known each status but those of a fault outside and of memory is an answer, also where a count rose
  pub only : KnowsFiles o → (status ≢ ReadFault) → (status ≢ WriteFault) → (status ≢ NoMemory) → Answers words o status
  -- whether or not the files are known, the call ends with an answer to what was read, or a sink failed in the midst of it
  pub ends : EndsWith (IsRight words o) o status
  -- refused words are answered as such, unless memory was refused or err failed
  pub refuses : (fault : UsageFault) → IsUsage words fault → (status ≡ Usage) ⊎ (status ≡ NoMemory) ⊎ WriteRose o.err
  -- only refused words are answered as such
  pub usage : status ≡ Usage → (fault : UsageFault) × IsUsage words fault
  -- a fault of reading comes only where a read of a file that the words name failed
  pub read_fault : status ≡ ReadFault → (name : List ℕ) × IsNamed words o name × ReadRose o name
  -- a fault of writing comes only where a put on out or err failed
  pub write_fault : status ≡ WriteFault → WriteRose o.out ⊎ WriteRose o.err
  -- where memory was refused out stayed
  pub no_memory : status ≡ NoMemory → o.out.new ≡ o.out.old
  -- the files stay, and no count of faults falls
  pub shelf : KeepsShelf o.held o.held_after o.empty o.empty_after o.faults o.faults_after
  pub counts : (o.out.before ≤ o.out.after) × (o.err.before ≤ o.err.after)
