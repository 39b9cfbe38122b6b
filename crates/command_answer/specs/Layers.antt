-- Each layer of the program as a stage: what it makes of what it is given, or the first rule that is broken there. This project's own.
use Rattle.std.specs.Prelude.{◌≡◌, ℕ, ◌<◌, ◌≤◌, List, Option, length, Result}
use Rattle.rational_time.specs.declared.ratio.Ratio.{Ratio}
use Rattle.command_words.specs.Choice.{Choice}
use Rattle.command_words.specs.Answer as command
use Rattle.mo_lexer.specs.declared.token.Token.{Token}
use Rattle.mo_lexer.specs.Tokens.{Lexes}
use Rattle.mo_parser.specs.declared.tree.Tree.{Tree}
use Rattle.mo_parser.specs.grammar.Faults as grammar
use Rattle.flat_model.specs.declared.model.FlatModel.{FlatModel}
use Rattle.flat_model.specs.declared.raw.RawModel.{RawModel}
use Rattle.flat_model.specs.declared.clock.Clocking.{Clocking}
use Rattle.flat_model.specs.declared.table.Table.{Table}
use Rattle.flat_model.specs.declared.place.Place.{Place}
use Rattle.flat_model.specs.Moments.{AreInstants}
use Rattle.flat_model.specs.Setting.{Setting}
use Rattle.class_scopes.specs.Reached.{chosen_by}
use Rattle.flat_answer.specs.Answers as flattening
use Rattle.flat_types.specs.Typed as types
use Rattle.clock_terms.specs.declared.data.Terms.{Terms}
use Rattle.clock_terms.specs.declared.data.Classes.{Classes}
use Rattle.clock_terms.specs.declared.data.Grid.{Grid}
use Rattle.clock_terms.specs.Said.{AreTermsOf}
use Rattle.base_partition.specs.Classified.{Classifies}
use Rattle.sub_clock_solve.specs.Solving.{Solves}
use Rattle.clock_check.specs.Checking.{Checks}
use Rattle.eq_order.specs.declared.ends.OrderEnd.{OrderEnd}
use Rattle.eq_order.specs.declared.uses.Use.{Use}
use Rattle.eq_order.specs.Order as orders
use Rattle.input_table.specs.Tables as tables
use Rattle.tick_plan.specs.NewPlan.{IsCounted}
use Rattle.trace_print.specs.declared.code.Code.TheVariants.{L0}
use Rattle.command_answer.specs.Stages.{Stage, layer, always, refused}
use Rattle.command_answer.specs.Told.{told_usage, told_lexical, told_syntax, told_names, told_types, told_classes, told_clocks, told_checks, told_order, told_table, told_plan}

-- what words ask for, or the line on what is wrong with them
unfoldable pub asked : List (List ℕ) → Stage Choice
asked words = layer (command.IsAnswer words) told_usage

-- the bytes are not more than a limit: L0
unfoldable pub few : ℕ → Place → List ℕ → Stage (Unit {0})
few limit at bytes = record { makes = λ x. length bytes ≤ limit; ends = λ answer. (limit < length bytes) × (answer ≡ refused L0 at) }

-- the tokens of a text: L1 to L4
unfoldable pub lexed : List ℕ → Stage (List Token)
lexed text = layer (Lexes text) (told_lexical text)

-- the tree that they spell, at most 64 levels deep: S1 to S3
unfoldable pub parsed : List ℕ → List Token → Stage Tree
parsed text tokens = layer (grammar.Answers text 64 tokens) (told_syntax text)

-- the flat model of the chosen class, or of the last one: N1 to N11
unfoldable pub flattened : List ℕ → Tree → Option (List ℕ) → Stage RawModel
flattened text tree class = layer (flattening.Answers text tree.classes (chosen_by text tree.classes class)) told_names

-- the same with its types: Y1 to Y5
unfoldable pub typed : RawModel → Stage FlatModel
typed raw = layer (types.Answers raw) told_types

-- the terms of its clocks
unfoldable pub termed : FlatModel → Stage Terms
termed flat = always (AreTermsOf flat)

-- its classes: C1, then C7
unfoldable pub classed : FlatModel → Stage Classes
classed flat = layer (Classifies flat) told_classes

-- the clocks of the classes: C2, C3, then C4
unfoldable pub solved : Terms → Classes → Stage (List Grid)
solved terms classes = layer (Solves terms classes) (told_clocks classes)

-- the clocking that they make: C5, C6, C8, C9, then C10
unfoldable pub checked : FlatModel → Terms → Classes → List Grid → Stage Clocking
checked flat terms classes grids = layer (Checks flat terms classes grids) (told_checks classes)

-- an order rests on a model and its clocking, whatever the table and the instants
abbrev pub Orders : FlatModel → Clocking → Result (List Use) OrderEnd → Type 0
Orders flat clocking result = (s : Setting) → s.model ≡ flat → s.clocking ≡ clocking → orders.Answers s result

-- the order in which the names are reached: Q1 to Q4
unfoldable pub ordered : FlatModel → Clocking → Stage (List Use)
ordered flat clocking = layer (Orders flat clocking) told_order

-- the table of a file: I1 to I7
unfoldable pub tabled : FlatModel → List ℕ → Stage Table
tabled flat bytes = layer (tables.Answers flat.names (tables.records_of bytes)) told_table

-- the one row where no file is given: I2
unfoldable pub untabled : FlatModel → Stage Table
untabled flat = layer (tables.AnswersNone flat.names) told_table

-- the rows and ticks up to a stop are not too many: P1
unfoldable pub counted : Clocking → Table → Ratio → Stage (Unit {0})
counted clocking table stop = layer (IsCounted clocking.clocks table.times stop) told_plan

-- the instants of a run up to a stop
unfoldable pub timed : Clocking → Table → Ratio → Stage (List Ratio)
timed clocking table stop = always (AreInstants clocking.clocks table.times stop)
