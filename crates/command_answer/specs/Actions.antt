-- The answer of a command: what it does, stage by stage, up to the one that ends it. This project's own.
use Rattle.std.specs.Prelude.{◌≡◌, ℕ, ◌≤◌, ◌⊎◌, List, [], length, Option, Some, None}
use Rattle.outside_io.specs.Files.{Known, File}
use Rattle.sync_values.specs.declared.value.Fail.{Fail}
use Rattle.command_words.specs.Choice.{Choice}
use Rattle.command_words.specs.declared.command.Mode.{Mode}
use Rattle.command_words.specs.declared.command.Mode.TheVariants.{Run, Flat, Clocks, Stress}
use Rattle.flat_model.specs.declared.model.FlatModel.{FlatModel}
use Rattle.flat_model.specs.declared.clock.Clocking.{Clocking}
use Rattle.flat_model.specs.declared.fault.FaultPlace.{FaultPlace}
use Rattle.flat_model.specs.declared.table.Table.{Table}
use Rattle.flat_model.specs.declared.place.Place.TheVariants as place
use Rattle.flat_model.specs.Assignment.{Assignment}
use Rattle.flat_model.specs.Faults.{IsFirstFault}
use Rattle.flat_model.specs.Meets.{Meets}
use Rattle.flat_model.specs.Runs.{IsWholeRun, IsFaultedRun}
use Rattle.flat_model.specs.Setting.{Setting}
use Rattle.flat_model.specs.Trace.{trace_text}
use Rattle.trace_print.specs.Modes.{flat_text, clocks_text}
use Rattle.stress_sums.specs.Sums.{stress_lines}
use Rattle.stress_text.specs.Text.{stress_text}
use Rattle.mo_lexer.specs.Tokens.{model_limit}
use Rattle.input_table.specs.Tables.{table_limit}
use Rattle.command_answer.specs.declared.status.Status.TheVariants.{Done, Faulted}
use Rattle.command_answer.specs.Layers.{asked, few, lexed, parsed, flattened, typed, termed, classed, solved, checked, ordered, tabled, untabled, counted, timed}
use Rattle.command_answer.specs.Stages.{Answer, Stage, ◌>>=◌, ◌>>◌, always, ends_with, printed}

-- a run puts its whole trace on out, or the rows before its first fault
abbrev pub Runs : Setting → Answer → Type 0
Runs s answer = ((answer.status ≡ Done) × IsWholeRun s answer.out answer.err) ⊎ ((answer.status ≡ Faulted) × IsFaultedRun s answer.out answer.err)

-- no other assignment gives another answer: one that meets the model at all moments has this trace and no fault, and none meets it up to a moment at which something is the first to fail
pub record IsAlone (s : Setting) (answer : Answer) : Type 0 where
  pub trace : (T : Assignment) → Meets s T (length s.instants) → (answer.status ≡ Done) × (answer.out ≡ trace_text s.model.names T s.instants)
  pub fault : (S T : Assignment) (n : ℕ) (place : FaultPlace) (kind : Fail) → n ≤ length s.instants → IsFirstFault s S n place kind → Meets s T n → ⊥

-- the answer of a run
abbrev pub RunsAlone : Setting → Answer → Type 0
RunsAlone s answer = Runs s answer × IsAlone s answer

-- the answer of a stress is that of its run, with what the rows add up to in their place
pub record Stresses (members : ℕ) (s : Setting) (answer : Answer) : Type 0 where
  pub run : Answer
  pub runs : RunsAlone s run
  -- of a run to its last moment the lines are printed, and each assignment that meets the model gives the same
  pub done : run.status ≡ Done → (S : Assignment) → Meets s S (length s.instants) → answer ≡ printed (stress_lines members s.model.names S (length s.instants))
  -- a fault is told alone
  pub faulted : run.status ≡ Faulted → answer ≡ record { status = Faulted; out = []; err = run.err }

-- the file that MODEL names; the stress model is in none
abbrev pub model_file : Mode → List ℕ → Option (List ℕ)
model_file (Stress members) model = None
model_file mode model = Some model

-- the only clocking of a model
unfoldable pub clocking_of : FlatModel → Stage Clocking
clocking_of flat = do
  terms ← termed flat
  classes ← classed flat
  grids ← solved terms classes
  checked flat terms classes grids

module _ (reads : List ℕ → Stage (List ℕ)) where
  -- the text of a model, that of a file or that of the stress model
  unfoldable pub source_in : Mode → List ℕ → Stage (List ℕ)
  source_in (Stress members) model = always (λ text. text ≡ stress_text members)
  source_in mode model = reads model

  -- the flat model that a command asks for
  unfoldable pub model_of : Choice → Stage FlatModel
  model_of c = do
    text ← source_in c.mode c.model
    few model_limit place.Model text
    tokens ← lexed text
    tree ← parsed text tokens
    raw ← flattened text tree c.class
    typed raw

  -- the table of its inputs
  unfoldable pub table_of : FlatModel → Option (List ℕ) → Stage Table
  table_of flat None = untabled flat
  table_of flat (Some file) = do
    bytes ← reads file
    few table_limit place.Table bytes
    tabled flat bytes

  -- the setting of its run
  unfoldable pub setting_of : Choice → FlatModel → Stage Setting
  setting_of c flat = do
    clocking ← clocking_of flat
    order ← ordered flat clocking
    table ← table_of flat c.table
    counted clocking table c.stop
    instants ← timed clocking table c.stop
    always (λ s. s ≡ record { model = flat; clocking = clocking; table = table; instants = instants })

  -- what is done with it in each mode
  unfoldable pub in_mode : Mode → Choice → FlatModel → Stage (Unit {0})
  in_mode Flat c flat = ends_with (λ answer. answer ≡ printed (flat_text flat))
  in_mode Clocks c flat = do
    clocking ← clocking_of flat
    ends_with (λ answer. answer ≡ printed (clocks_text flat clocking))
  in_mode Run c flat = do
    s ← setting_of c flat
    ends_with (RunsAlone s)
  in_mode (Stress members) c flat = do
    s ← setting_of c flat
    ends_with (Stresses members s)

  -- the order of actions
  unfoldable pub actions : List (List ℕ) → Stage (Unit {0})
  actions words = do
    c ← asked words
    flat ← model_of c
    in_mode c.mode c flat

-- files that are read as they are known
unfoldable pub known_files : (List ℕ → Known) → List ℕ → Stage (List ℕ)
known_files known name = always (λ bytes. known name ≡ File bytes)

-- the answer of words, over the files that are known
abbrev pub IsAnswer : (List ℕ → Known) → List (List ℕ) → Answer → Type 0
IsAnswer known words answer = (actions (known_files known) words).ends answer

-- two answers of words, over the files that are known, are one
abbrev pub OneAnswerLaw : Type 0
OneAnswerLaw = (known : List ℕ → Known) (words : List (List ℕ)) (a b : Answer) → IsAnswer known words a → IsAnswer known words b → a ≡ b
