-- The functions and operators that are called by name.
use Rattle.std.specs.Prelude.{ℕ, Bool, ◌||◌, List, codes, Option, Some, None, option_map, if◌then◌else◌}
use Rattle.std.specs.Option.{unwrap_or}
use Rattle.std.specs.Str.{bytes_eq}
use Rattle.flat_model.specs.declared.expression.Fun.{Fun}
use Rattle.flat_model.specs.declared.expression.Fun.TheVariants as fun
use Rattle.flat_types.specs.declared.callee.Callee.{Callee}
use Rattle.flat_types.specs.declared.callee.Callee.TheVariants.{Arithmetic, Integer, Interval, Operator, Sample, Clock, LeftOut, Unknown}
use Rattle.flat_types.specs.declared.callee.Operator as op
use Rattle.flat_types.specs.declared.callee.Operator.TheVariants as operator

-- the arithmetic functions. MLS 3.6, chapter 3, "Built-in Intrinsic Operators with Function Syntax"
abbrev pub function_called : List ℕ → Option Fun
function_called name =
    if bytes_eq name (codes "div") then Some fun.Div else
    if bytes_eq name (codes "mod") then Some fun.Mod else
    if bytes_eq name (codes "rem") then Some fun.Rem else
    if bytes_eq name (codes "abs") then Some fun.Abs else
    if bytes_eq name (codes "min") then Some fun.Min else
    if bytes_eq name (codes "max") then Some fun.Max else None

-- the operators that take names. MLS 3.6, chapter 16, "Clocked State Variables", "Partitioning Operators"
abbrev pub operator_called : List ℕ → Option op.Operator
operator_called name =
    if bytes_eq name (codes "previous") then Some operator.Previous else
    if bytes_eq name (codes "hold") then Some operator.Hold else
    if bytes_eq name (codes "noClock") then Some operator.NoClock else
    if bytes_eq name (codes "subSample") then Some operator.SubSample else
    if bytes_eq name (codes "superSample") then Some operator.SuperSample else
    if bytes_eq name (codes "shiftSample") then Some operator.ShiftSample else
    if bytes_eq name (codes "backSample") then Some operator.BackSample else
    if bytes_eq name (codes "firstTick") then Some operator.FirstTick else None

-- functions of the language that are left out, whatever they are called with. This project's own
abbrev pub is_left_out : List ℕ → Bool
is_left_out name =
    bytes_eq name (codes "pre") || bytes_eq name (codes "edge") || bytes_eq name (codes "change") || bytes_eq name (codes "delay") || bytes_eq name (codes "noEvent") || bytes_eq name (codes "smooth")

-- the other operators of clocks, and what this project leaves out
abbrev pub other_called : List ℕ → Callee
other_called name =
    if bytes_eq name (codes "sample") then Sample else
    if bytes_eq name (codes "Clock") then Clock else
    if bytes_eq name (codes "integer") then Integer else
    if bytes_eq name (codes "interval") then Interval else
    if is_left_out name then LeftOut else Unknown

-- what a name calls
abbrev pub callee : List ℕ → Callee
callee name = unwrap_or (option_map (λ it. Arithmetic it) (function_called name)) (unwrap_or (option_map (λ it. Operator it) (operator_called name)) (other_called name))
