-- The codes of the stages as those that are printed.
use Rattle.mo_lexer.specs.declared.fault.LexCode.{LexCode}
use Rattle.mo_lexer.specs.declared.fault.LexCode.TheVariants as lex
use Rattle.mo_parser.specs.declared.syntax.SyntaxCode.{SyntaxCode}
use Rattle.mo_parser.specs.declared.syntax.SyntaxCode.TheVariants as syntax
use Rattle.class_scopes.specs.declared.end.NameCode.{NameCode}
use Rattle.class_scopes.specs.declared.end.NameCode.TheVariants as name
use Rattle.flat_types.specs.declared.ends.TypeCode.{TypeCode}
use Rattle.flat_types.specs.declared.ends.TypeCode.TheVariants as type
use Rattle.eq_order.specs.declared.ends.OrderCode.{OrderCode}
use Rattle.eq_order.specs.declared.ends.OrderCode.TheVariants as order
use Rattle.input_table.specs.declared.ends.TableCode.{TableCode}
use Rattle.input_table.specs.declared.ends.TableCode.TheVariants as table
use Rattle.trace_print.specs.declared.code.Code.{Code}
use Rattle.trace_print.specs.declared.code.Code.TheVariants as code

abbrev pub code_of_lexical : LexCode → Code
code_of_lexical lex.L1 = code.L1
code_of_lexical lex.L2 = code.L2
code_of_lexical lex.L3 = code.L3
code_of_lexical lex.L4 = code.L4

abbrev pub code_of_syntax : SyntaxCode → Code
code_of_syntax syntax.S1 = code.S1
code_of_syntax syntax.S2 = code.S2
code_of_syntax syntax.S3 = code.S3

abbrev pub code_of_name : NameCode → Code
code_of_name name.N1 = code.N1
code_of_name name.N2 = code.N2
code_of_name name.N3 = code.N3
code_of_name name.N4 = code.N4
code_of_name name.N5 = code.N5
code_of_name name.N6 = code.N6
code_of_name name.N7 = code.N7
code_of_name name.N8 = code.N8
code_of_name name.N9 = code.N9
code_of_name name.N10 = code.N10
code_of_name name.N11 = code.N11

abbrev pub code_of_type : TypeCode → Code
code_of_type type.Y1 = code.Y1
code_of_type type.Y2 = code.Y2
code_of_type type.Y3 = code.Y3
code_of_type type.Y4 = code.Y4
code_of_type type.Y5 = code.Y5

abbrev pub code_of_order : OrderCode → Code
code_of_order order.Q1 = code.Q1
code_of_order order.Q2 = code.Q2
code_of_order order.Q3 = code.Q3
code_of_order order.Q4 = code.Q4

abbrev pub code_of_table : TableCode → Code
code_of_table table.I1 = code.I1
code_of_table table.I2 = code.I2
code_of_table table.I3 = code.I3
code_of_table table.I4 = code.I4
code_of_table table.I5 = code.I5
code_of_table table.I6 = code.I6
code_of_table table.I7 = code.I7
