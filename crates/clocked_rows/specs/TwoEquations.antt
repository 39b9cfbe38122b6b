-- Two equations that fail at one instant: `when Clock(1) then a = previous(a) + 1; b = div(1, previous(b)); end when;`, where a starts with 9223372036854775807 and b with 0.
use Rattle.std.specs.Prelude.{◌≡◌, false, List, [], ◌∷◌, Some, None, pos, codes}
use Rattle.sync_values.specs.declared.value.Value.TheVariants as value
use Rattle.sync_values.specs.declared.value.Fail.TheVariants.{Divide, TooLarge}
use Rattle.sync_values.specs.declared.value.ChainOp.TheVariants.{Plus}
use Rattle.flat_model.specs.declared.clock.Clock.TheVariants.{Periodic}
use Rattle.flat_model.specs.declared.clock.ClockExpr.TheVariants.{Rational}
use Rattle.flat_model.specs.declared.clock.Moment.TheVariants.{At}
use Rattle.flat_model.specs.declared.model.NameKind.TheVariants as kind
use Rattle.flat_model.specs.declared.model.FlatName.{FlatName}
use Rattle.flat_model.specs.declared.equation.Equation.TheVariants.{Valued}
use Rattle.flat_model.specs.declared.expression.Expr.{Expr}
use Rattle.flat_model.specs.declared.expression.Expr.TheVariants.{Const, Read, Chain, Apply, Previous}
use Rattle.flat_model.specs.declared.expression.Fun.TheVariants.{Div}
use Rattle.flat_model.specs.declared.fault.FaultPlace.TheVariants as place
use Rattle.flat_model.specs.Assignment.{Assignment}
use Rattle.flat_model.specs.Setting.{Setting}
use Rattle.flat_model.specs.Meets.{Meets}
use Rattle.flat_model.specs.Trace.{trace_text}
use Rattle.flat_model.specs.Runs.{fault_line}
use Rattle.flat_model.specs.Uses.{Use}
use Rattle.flat_model.specs.Faults.{EquationFails, IsFirstToFail, IsFirstFault}
use Rattle.clocked_rows.specs.Instants.{whole}

-- previous(a) + 1 and div(1, previous(b))
abbrev pub next : Expr
next = Chain (Previous 0 ∷ Const (value.Int (pos 1)) ∷ []) (Plus ∷ [])

abbrev pub quotient : Expr
quotient = Apply Div (Const (value.Int (pos 1)) ∷ Previous 1 ∷ [])

abbrev pub a : FlatName
a = record { text = codes "a"; kind = kind.Integer; input = false; start = value.Int (pos 9223372036854775807) }

abbrev pub b : FlatName
b = record { text = codes "b"; kind = kind.Integer; input = false; start = value.Int (pos 0) }

abbrev pub setting : Setting
setting = record {
  model = record { names = a ∷ b ∷ []; equations = Valued (Read 0) next (Some 0) ∷ Valued (Read 1) quotient (Some 0) ∷ []; clauses = Rational 1 1 ∷ [] };
  clocking = record {
    of_name = Some 0 ∷ Some 0 ∷ [];
    of_equation = Some 0 ∷ Some 0 ∷ [];
    clocks = Periodic (whole 1) (whole 0) ∷ [];
    partitions = 0 ∷ [];
    sites = [];
  };
  table = record { times = whole 0 ∷ []; columns = []; cells = [] };
  instants = whole 0 ∷ [];
}

-- nothing has a value
abbrev pub values : Assignment
values x m = None

-- each equation reaches the name on its left
abbrev pub uses : List Use
uses = record { equation = 0; name = 0 } ∷ record { equation = 1; name = 1 } ∷ []

-- the first fault is that of the first equation
abbrev pub IsFault : Type 0
IsFault = IsFirstFault setting values 1 (place.Equation 0) TooLarge

-- the second fails too, and is not the first
abbrev pub IsSecondNotFirst : Type 0
IsSecondNotFirst = EquationFails setting values uses 1 1 Divide × (IsFirstToFail setting values uses 1 (place.Equation 1) Divide → ⊥)

abbrev pub IsLine : Type 0
IsLine = fault_line (At (whole 0)) (place.Equation 0) TooLarge ≡ codes "fault too-large at 0 in equation 1\n"

-- the trace of the instants before, which are none
abbrev pub IsPrinted : Type 0
IsPrinted = trace_text setting.model.names values [] ≡ codes "time,a,b\n"

-- nothing meets the model through the instant 0
abbrev pub IsMetByNone : Type 0
IsMetByNone = (S : Assignment) → Meets setting S 1 → ⊥
