-- An equation that no Integer of 64 bits meets: `when Clock(1) then x - 1 = 9223372036854775807; end when;`.
use Rattle.std.specs.Prelude.{◌≡◌, false, [], ◌∷◌, Some, None, pos, codes}
use Rattle.sync_values.specs.declared.value.Value.TheVariants as value
use Rattle.sync_values.specs.declared.value.Fail.TheVariants.{TooLarge}
use Rattle.sync_values.specs.declared.value.ChainOp.TheVariants.{Minus}
use Rattle.flat_model.specs.declared.clock.Clock.TheVariants.{Periodic}
use Rattle.flat_model.specs.declared.clock.ClockExpr.TheVariants.{Rational}
use Rattle.flat_model.specs.declared.clock.Moment.TheVariants.{At}
use Rattle.flat_model.specs.declared.model.NameKind.TheVariants as kind
use Rattle.flat_model.specs.declared.equation.Equation.TheVariants.{Valued}
use Rattle.flat_model.specs.declared.expression.Expr.TheVariants.{Const, Read, Chain}
use Rattle.flat_model.specs.declared.fault.FaultPlace.TheVariants as place
use Rattle.flat_model.specs.Assignment.{Assignment}
use Rattle.flat_model.specs.Setting.{Setting}
use Rattle.flat_model.specs.Meets.{Meets}
use Rattle.flat_model.specs.Trace.{trace_text}
use Rattle.flat_model.specs.Runs.{fault_line}
use Rattle.flat_model.specs.Faults.{IsFirstFault}
use Rattle.clocked_rows.specs.Instants.{whole}

abbrev pub setting : Setting
setting = record {
  model = record {
    names = record { text = codes "x"; kind = kind.Integer; input = false; start = value.Int (pos 0) } ∷ [];
    equations = Valued (Chain (Read 0 ∷ Const (value.Int (pos 1)) ∷ []) (Minus ∷ [])) (Const (value.Int (pos 9223372036854775807))) (Some 0) ∷ [];
    clauses = Rational 1 1 ∷ [];
  };
  clocking = record {
    of_name = Some 0 ∷ [];
    of_equation = Some 0 ∷ [];
    clocks = Periodic (whole 1) (whole 0) ∷ [];
    partitions = 0 ∷ [];
    sites = [];
  };
  table = record { times = whole 0 ∷ []; columns = []; cells = [] };
  instants = whole 0 ∷ [];
}

-- x has no value
abbrev pub values : Assignment
values x m = None

-- the first fault is at the instant 0, since the number that would meet the equation, 2^63, is no value
abbrev pub IsFault : Type 0
IsFault = IsFirstFault setting values 1 (place.Equation 0) TooLarge

abbrev pub IsLine : Type 0
IsLine = fault_line (At (whole 0)) (place.Equation 0) TooLarge ≡ codes "fault too-large at 0 in equation 1\n"

-- the trace of the instants before, which are none
abbrev pub IsPrinted : Type 0
IsPrinted = trace_text setting.model.names values [] ≡ codes "time,x\n"

-- nothing meets the model through the instant 0
abbrev pub IsMetByNone : Type 0
IsMetByNone = (S : Assignment) → Meets setting S 1 → ⊥
