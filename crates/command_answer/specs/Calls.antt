-- What a call does on the outside: it ends with the right answer, or a file or a sink failed. This project's own.
use Rattle.std.specs.Prelude.{◌≡◌, ◌≢◌, ℕ, ◌⊎◌, Bool, List, [], ◌++◌, Option, Some, codes}
use Rattle.outside_io.specs.Counts.{Rose}
use Rattle.outside_io.specs.Files.{Files, Known, known, IsWhole}
use Rattle.outside_io.specs.Texts.{grown, GrewByPrefix}
use Rattle.command_words.specs.Answer.{IsCommand, IsUsage}
use Rattle.command_words.specs.Choice.{Choice}
use Rattle.command_words.specs.declared.command.UsageFault.{UsageFault}
use Rattle.command_answer.specs.declared.status.Status.{Status}
use Rattle.command_answer.specs.declared.status.Status.TheVariants.{Usage, ReadFault, WriteFault, NoMemory}
use Rattle.command_answer.specs.Actions.{actions, model_file, IsAnswer}
use Rattle.command_answer.specs.Stages.{Answer, Stage}

-- the text of a sink, where it is known, and its count of faults, before and after a call
pub record Written : Type 0 where
  pub old : Option (List ℕ)
  pub new : Option (List ℕ)
  pub before : ℕ
  pub after : ℕ

-- the held files, where they are known, whether other names are read as empty files, how often reads of each name failed,
-- and the two sinks, before and after a call
pub record Outside : Type 0 where
  pub held : Option Files
  pub held_after : Option Files
  pub empty : Bool
  pub empty_after : Bool
  pub faults : List ℕ → ℕ
  pub faults_after : List ℕ → ℕ
  pub out : Written
  pub err : Written

-- the files, as they are known
abbrev pub files_of : Outside → List ℕ → Known
files_of o = known o.held o.empty

-- the files of the shelf are known
abbrev pub KnowsFiles : Outside → Type 0
KnowsFiles o = (files : Files) × (o.held ≡ Some files)

-- a read of the name failed in the call, or a put on the sink
abbrev pub ReadRose : Outside → List ℕ → Type 0
ReadRose o name = Rose (o.faults name) (o.faults_after name)

abbrev pub WriteRose : Written → Type 0
WriteRose sink = Rose sink.before sink.after

-- out and err grew by these texts
pub record GrewBoth (out err : Written) (out_text err_text : List ℕ) : Type 0 where
  pub out_grew : out.new ≡ grown out_text out.old
  pub err_grew : err.new ≡ grown err_text err.old

-- out failed in the midst of its text, and nothing was put on err
pub record FailedOnOut (out err : Written) (out_text : List ℕ) : Type 0 where
  pub rose : WriteRose out
  pub some : out_text ≢ []
  pub out_grew : GrewByPrefix out_text out.old out.new
  pub err_stayed : err.new ≡ err.old

-- out has its whole text, and err failed in the midst of its line
pub record FailedOnErr (out err : Written) (out_text err_text : List ℕ) : Type 0 where
  pub rose : WriteRose err
  pub some : err_text ≢ []
  pub out_grew : out.new ≡ grown out_text out.old
  pub err_grew : GrewByPrefix err_text err.old err.new

-- a file that could not be read
abbrev pub read_fault : List ℕ → Answer
read_fault name = record { status = ReadFault; out = []; err = codes "read fault: " ++ name ++ codes "\n" }

-- memory was refused before the run began
abbrev pub no_memory : Answer
no_memory = record { status = NoMemory; out = []; err = codes "no memory\n" }

-- a file that is read in the call: whole, or its count rose
unfoldable pub reads_in : Outside → List ℕ → Stage (List ℕ)
reads_in o name = record { makes = λ bytes. IsWhole (files_of o name) bytes; ends = λ answer. ReadRose o name × (answer ≡ read_fault name) }

-- the call ends with a right answer, or a sink failed in the midst of it
pub data EndsWith (Right : Answer → Type 0) (o : Outside) (status : Status) : Type 0 where
  whole : (a : Answer) → Right a → status ≡ a.status → GrewBoth o.out o.err a.out a.err → EndsWith Right o status
  out_failed : (a : Answer) → Right a → status ≡ WriteFault → FailedOnOut o.out o.err a.out → EndsWith Right o status
  err_failed : (a : Answer) → Right a → status ≡ WriteFault → FailedOnErr o.out o.err a.out a.err → EndsWith Right o status

module _ (words : List (List ℕ)) (o : Outside) where
  -- the words name this file as MODEL or as FILE
  abbrev pub IsNamed : List ℕ → Type 0
  IsNamed name = (c : Choice) × IsCommand words c × ((model_file c.mode c.model ≡ Some name) ⊎ (c.table ≡ Some name))

  -- no count rose
  pub record IsQuiet : Type 0 where
    pub reads : (name : List ℕ) → IsNamed name → ReadRose o name → ⊥
    pub outs : WriteRose o.out → ⊥
    pub errs : WriteRose o.err → ⊥

  -- the answer over what was read, or want of memory
  abbrev pub IsRight : Answer → Type 0
  IsRight answer = (actions (reads_in o) words).ends answer ⊎ (answer ≡ no_memory)

  -- out and err grew by the texts of an answer
  abbrev pub Answers : Status → Type 0
  Answers status = (a : Answer) × IsAnswer (files_of o) words a × (status ≡ a.status) × GrewBoth o.out o.err a.out a.err

  -- a call on the outside
  pub record Call (status : Status) : Type 0 where
    pub ends : EndsWith IsRight o status
    -- refused words are answered as such, unless memory was refused or err failed
    pub usage : (fault : UsageFault) → IsUsage words fault → (status ≡ Usage) ⊎ (status ≡ NoMemory) ⊎ WriteRose o.err
    -- where the files are known and no count rose, the answer, or memory was refused and out stayed
    pub complete : KnowsFiles o → IsQuiet → Answers status ⊎ ((status ≡ NoMemory) × (o.out.new ≡ o.out.old))
    -- where the files are known, each other end is an answer, also where a count rose
    pub only : KnowsFiles o → (status ≢ ReadFault) → (status ≢ WriteFault) → (status ≢ NoMemory) → Answers status

-- a call that ends so does all this
abbrev pub CallLaw : Type 0
CallLaw = (words : List (List ℕ)) (o : Outside) (status : Status) → EndsWith (IsRight words o) o status → Call words o status

-- where the files are known, no count rose and memory was found, what a call prints is the only answer
abbrev pub PrintedLaw : Type 0
PrintedLaw = (words : List (List ℕ)) (o : Outside) (status : Status) → Call words o status → KnowsFiles o → IsQuiet words o → status ≢ NoMemory
    → (a : Answer) → IsAnswer (files_of o) words a → (status ≡ a.status) × GrewBoth o.out o.err a.out a.err
