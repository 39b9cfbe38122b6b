-- What ends a command early, as its answer. This project's own.
use Rattle.std.specs.Prelude.{◌≡◌, Option, Some, None}
use Rattle.command_words.specs.Lines.{usage_line}
use Rattle.flat_model.specs.declared.place.Place.TheVariants.{Equation, Plan}
use Rattle.flat_answer.specs.declared.end.FlattenEnd.{FlattenEnd}
use Rattle.flat_answer.specs.declared.end.FlattenEnd.TheVariants as flatten
use Rattle.flat_types.specs.declared.ends.TypeEnd.{TypeEnd}
use Rattle.flat_types.specs.declared.ends.TypeEnd.TheVariants as type
use Rattle.base_partition.specs.declared.kinds.ClassEnd.{ClassEnd}
use Rattle.base_partition.specs.declared.kinds.ClassEnd.TheVariants as class
use Rattle.eq_order.specs.declared.ends.OrderEnd.{OrderEnd}
use Rattle.eq_order.specs.declared.ends.OrderEnd.TheVariants as order
use Rattle.input_table.specs.declared.ends.TableEnd.{TableEnd}
use Rattle.input_table.specs.declared.ends.TableEnd.TheVariants as table
use Rattle.tick_plan.specs.declared.plan_end.PlanEnd.{PlanEnd}
use Rattle.tick_plan.specs.declared.plan_end.PlanEnd.TheVariants as plan
use Rattle.trace_print.specs.declared.code.Code.TheVariants.{C1, C7, P1}
use Rattle.trace_print.specs.Refusals.{IsShort}
use Rattle.command_answer.specs.Codes.{code_of_name, code_of_type, code_of_order, code_of_table}
use Rattle.command_answer.specs.Stages.{Answer, Stage, refused, usage_answer}
use Rattle.command_answer.specs.Calls.{read_fault}
use Rattle.command_stages.specs.declared.end.End.{End}
use Rattle.command_stages.specs.declared.end.End.TheVariants.{Usage, Refused, ReadFault, NoMemory}

-- the answer of an end; want of memory is free, and is told no answer here
abbrev pub told_end : End → Option Answer
told_end (Usage fault) = Some (usage_answer (usage_line fault))
told_end (Refused code place) = Some (refused code place)
told_end (ReadFault name) = Some (read_fault name.now)
told_end NoMemory = None

-- an end is told as an end of a layer is, unless it is want of memory
abbrev pub IsToldBy : Option Answer → End → Type 0
IsToldBy told end = (answer : Answer) → told_end end ≡ Some answer → told ≡ Some answer

-- the command ends in the stage, with the answer of this end, unless memory was refused
abbrev pub Halts : {A : Type 0} → Stage A → End → Type 0
Halts stage end = (answer : Answer) → told_end end ≡ Some answer → stage.ends answer

-- the place of a broken rule is short enough for a line
abbrev pub IsPrintable : End → Type 0
IsPrintable (Refused code place) = IsShort place
IsPrintable end = Unit {0}

-- how the ends of the layers end a command
abbrev pub of_names : FlattenEnd → End
of_names (flatten.Fault code at) = Refused (code_of_name code) at
of_names flatten.NoMemory = NoMemory

abbrev pub of_types : TypeEnd → End
of_types (type.Fault code i) = Refused (code_of_type code) (Equation i)
of_types type.NoMemory = NoMemory

abbrev pub of_classes : ClassEnd → End
of_classes (class.Mixed at) = Refused C1 at
of_classes (class.BaseMixed i) = Refused C7 (Equation i)
of_classes class.NoMemory = NoMemory

abbrev pub of_order : OrderEnd → End
of_order (order.Fault code at) = Refused (code_of_order code) at
of_order order.NoMemory = NoMemory

abbrev pub of_table : TableEnd → End
of_table (table.Fault code at) = Refused (code_of_table code) at
of_table table.NoMemory = NoMemory

abbrev pub of_plan : PlanEnd → End
of_plan (plan.TooMany count) = Refused P1 Plan
of_plan plan.NoMemory = NoMemory
