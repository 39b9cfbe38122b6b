-- A counter that outgrows 64 bits: `when Clock(1, 2) then x = previous(x) + 1; end when;`, where x starts with 9223372036854775806.
use Rattle.std.specs.Prelude.{◌≡◌, zero, suc, false, [], ◌∷◌, Some, None, pos, codes}
use Rattle.sync_values.specs.declared.value.Value.TheVariants as value
use Rattle.sync_values.specs.declared.value.Fail.TheVariants.{TooLarge}
use Rattle.sync_values.specs.declared.value.ChainOp.TheVariants.{Plus}
use Rattle.flat_model.specs.declared.clock.Clock.TheVariants.{Periodic}
use Rattle.flat_model.specs.declared.clock.ClockExpr.TheVariants.{Rational}
use Rattle.flat_model.specs.declared.model.NameKind.TheVariants as kind
use Rattle.flat_model.specs.declared.equation.Equation.TheVariants.{Valued}
use Rattle.flat_model.specs.declared.expression.Expr.TheVariants.{Const, Read, Chain, Previous}
use Rattle.flat_model.specs.declared.fault.FaultPlace.TheVariants as place
use Rattle.flat_model.specs.Assignment.{Assignment}
use Rattle.flat_model.specs.Setting.{Setting}
use Rattle.flat_model.specs.Meets.{Meets}
use Rattle.flat_model.specs.Trace.{trace_text}
use Rattle.flat_model.specs.Faults.{IsFirstFault}
use Rattle.clocked_rows.specs.Instants.{whole, half}

abbrev pub setting : Setting
setting = record {
  model = record {
    names = record { text = codes "x"; kind = kind.Integer; input = false; start = value.Int (pos 9223372036854775806) } ∷ [];
    equations = Valued (Read 0) (Chain (Previous 0 ∷ Const (value.Int (pos 1)) ∷ []) (Plus ∷ [])) (Some 0) ∷ [];
    clauses = Rational 1 2 ∷ [];
  };
  clocking = record {
    of_name = Some 0 ∷ [];
    of_equation = Some 0 ∷ [];
    clocks = Periodic half (whole 0) ∷ [];
    partitions = 0 ∷ [];
    sites = [];
  };
  table = record { times = whole 0 ∷ []; columns = []; cells = [] };
  instants = whole 0 ∷ half ∷ whole 1 ∷ [];
}

-- x is the greatest Integer at the instant 0, and has no value later
abbrev pub values : Assignment
values zero (suc zero) = Some (value.Int (pos 9223372036854775807))
values x m = None

-- the first fault is at the instant 1/2
abbrev pub IsFault : Type 0
IsFault = IsFirstFault setting values 2 (place.Equation 0) TooLarge

-- the trace of the instants before
abbrev pub IsPrinted : Type 0
IsPrinted = trace_text setting.model.names values (whole 0 ∷ []) ≡ codes "time,x\n0,9223372036854775807\n"

-- nothing meets the model through the instant 1/2
abbrev pub IsMetByNone : Type 0
IsMetByNone = (S : Assignment) → Meets setting S 2 → ⊥
