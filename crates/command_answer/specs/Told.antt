-- How the ends of the layers are told: each broken rule by its code and its place. Want of memory is free, and is told no answer here. This project's own.
use Rattle.std.specs.Prelude.{ℕ, List, Option, Some, None, option_map, slice_get}
use Rattle.command_words.specs.Lines.{usage_line}
use Rattle.command_words.specs.declared.command.UsageFault.{UsageFault}
use Rattle.mo_lexer.specs.declared.fault.LexEnd.{LexEnd}
use Rattle.mo_lexer.specs.declared.fault.LexEnd.TheVariants as lex
use Rattle.mo_parser.specs.declared.syntax.ParseEnd.{ParseEnd}
use Rattle.mo_parser.specs.declared.syntax.ParseEnd.TheVariants as syntax
use Rattle.flat_model.specs.declared.place.Place.TheVariants.{Equation, Plan}
use Rattle.flat_answer.specs.declared.end.FlattenEnd.{FlattenEnd}
use Rattle.flat_answer.specs.declared.end.FlattenEnd.TheVariants as flatten
use Rattle.flat_answer.specs.Places.{place_at}
use Rattle.flat_types.specs.declared.ends.TypeEnd.{TypeEnd}
use Rattle.flat_types.specs.declared.ends.TypeEnd.TheVariants as type
use Rattle.clock_terms.specs.declared.data.Classes.{Classes}
use Rattle.base_partition.specs.declared.kinds.ClassEnd.{ClassEnd}
use Rattle.base_partition.specs.declared.kinds.ClassEnd.TheVariants as class
use Rattle.sub_clock_solve.specs.declared.kinds.SolveEnd.{SolveEnd}
use Rattle.sub_clock_solve.specs.declared.kinds.SolveEnd.TheVariants as solve
use Rattle.clock_check.specs.declared.kinds.CheckEnd.{CheckEnd}
use Rattle.clock_check.specs.declared.kinds.CheckEnd.TheVariants as check
use Rattle.eq_order.specs.declared.ends.OrderEnd.{OrderEnd}
use Rattle.eq_order.specs.declared.ends.OrderEnd.TheVariants as order
use Rattle.input_table.specs.declared.ends.TableEnd.{TableEnd}
use Rattle.input_table.specs.declared.ends.TableEnd.TheVariants as table
use Rattle.tick_plan.specs.declared.plan_end.PlanEnd.{PlanEnd}
use Rattle.tick_plan.specs.declared.plan_end.PlanEnd.TheVariants as plan
use Rattle.trace_print.specs.declared.code.Code.{Code}
use Rattle.trace_print.specs.declared.code.Code.TheVariants.{C1, C2, C3, C4, C5, C6, C7, C8, C9, C10, P1}
use Rattle.command_answer.specs.Codes.{code_of_lexical, code_of_syntax, code_of_name, code_of_type, code_of_order, code_of_table}
use Rattle.command_answer.specs.Stages.{Answer, refused, usage_answer}

-- words that are refused
abbrev pub told_usage : UsageFault → Option Answer
told_usage fault = Some (usage_answer (usage_line fault))

-- L1 to L4, at a byte of the text
abbrev pub told_lexical : List ℕ → LexEnd → Option Answer
told_lexical text (lex.Fault code at) = Some (refused (code_of_lexical code) (place_at text at))
told_lexical text lex.NoMemory = None

-- S1 to S3, at the first byte of a token
abbrev pub told_syntax : List ℕ → ParseEnd → Option Answer
told_syntax text (syntax.Fault code at) = Some (refused (code_of_syntax code) (place_at text at))
told_syntax text syntax.NoMemory = None

-- N1 to N11
abbrev pub told_names : FlattenEnd → Option Answer
told_names (flatten.Fault code at) = Some (refused (code_of_name code) at)
told_names flatten.NoMemory = None

-- Y1 to Y5, at an equation
abbrev pub told_types : TypeEnd → Option Answer
told_types (type.Fault code i) = Some (refused (code_of_type code) (Equation i))
told_types type.NoMemory = None

-- a rule that a class breaks, at the place of the class
abbrev pub at_class : Code → Classes → ℕ → Option Answer
at_class code classes c = option_map (refused code) (slice_get classes.places c)

-- C1 and C7
abbrev pub told_classes : ClassEnd → Option Answer
told_classes (class.Mixed at) = Some (refused C1 at)
told_classes (class.BaseMixed i) = Some (refused C7 (Equation i))
told_classes class.NoMemory = None

-- C2, C3 and C4
abbrev pub told_clocks : Classes → SolveEnd → Option Answer
told_clocks classes (solve.Unknown c) = at_class C2 classes c
told_clocks classes (solve.TooFine c) = at_class C3 classes c
told_clocks classes (solve.Conflict i) = Some (refused C4 (Equation i))
told_clocks classes solve.NoMemory = None

-- C5, C6, C8, C9 and C10
abbrev pub told_checks : Classes → CheckEnd → Option Answer
told_checks classes (check.Factor i) = Some (refused C5 (Equation i))
told_checks classes (check.EarlyStart c) = at_class C6 classes c
told_checks classes (check.NotOnEvent c) = at_class C8 classes c
told_checks classes (check.EventFactor c) = at_class C9 classes c
told_checks classes (check.HoldInCondition i) = Some (refused C10 (Equation i))
told_checks classes check.NoMemory = None

-- Q1 to Q4
abbrev pub told_order : OrderEnd → Option Answer
told_order (order.Fault code at) = Some (refused (code_of_order code) at)
told_order order.NoMemory = None

-- I1 to I7
abbrev pub told_table : TableEnd → Option Answer
told_table (table.Fault code at) = Some (refused (code_of_table code) at)
told_table table.NoMemory = None

-- P1
abbrev pub told_plan : PlanEnd → Option Answer
told_plan (plan.TooMany count) = Some (refused P1 Plan)
told_plan plan.NoMemory = None
