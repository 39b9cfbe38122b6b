-- The interval and the first tick of a clock: `when Clock(3, 2) then n = integer(interval(n) * 1000); f = firstTick(); end when;`.
use Rattle.std.specs.Prelude.{◌≡◌, zero, suc, true, false, [], ◌∷◌, Some, None, pos, codes}
use Rattle.sync_values.specs.declared.value.Value.TheVariants as value
use Rattle.flat_model.specs.declared.clock.Clock.TheVariants.{Periodic}
use Rattle.flat_model.specs.declared.clock.ClockExpr.TheVariants.{Rational}
use Rattle.flat_model.specs.declared.model.NameKind.TheVariants as kind
use Rattle.flat_model.specs.declared.equation.Equation.TheVariants.{Valued}
use Rattle.flat_model.specs.declared.expression.Expr.TheVariants.{Read, FirstTick, IntervalTimes}
use Rattle.flat_model.specs.Moments.{AreInstants}
use Rattle.flat_model.specs.Assignment.{Assignment}
use Rattle.flat_model.specs.Setting.{Setting}
use Rattle.flat_model.specs.Meets.{MeetsAt, Meets}
use Rattle.flat_model.specs.Trace.{trace_text}
use Rattle.flat_model.specs.Given.{with_value}
use Rattle.clocked_rows.specs.Instants.{whole, three_halves}

abbrev pub setting : Setting
setting = record {
  model = record {
    names =
        record { text = codes "n"; kind = kind.Integer; input = false; start = value.Int (pos 0) } ∷
        record { text = codes "f"; kind = kind.Boolean; input = false; start = value.Bool false } ∷ [];
    equations = Valued (Read 0) (IntervalTimes (Some 0) 1000) (Some 0) ∷ Valued (Read 1) (FirstTick None) (Some 0) ∷ [];
    clauses = Rational 3 2 ∷ [];
  };
  clocking = record {
    of_name = Some 0 ∷ Some 0 ∷ [];
    of_equation = Some 0 ∷ Some 0 ∷ [];
    clocks = Periodic three_halves (whole 0) ∷ [];
    partitions = 0 ∷ [];
    sites = [];
  };
  table = record { times = whole 0 ∷ []; columns = []; cells = [] };
  instants = whole 0 ∷ three_halves ∷ [];
}

-- the interval is the period, at the first tick too
abbrev pub values : Assignment
values zero (suc m) = Some (value.Int (pos 1500))
values (suc zero) (suc zero) = Some (value.Bool true)
values (suc zero) (suc (suc m)) = Some (value.Bool false)
values x m = None

-- the instants up to 3/2
abbrev pub HasInstants : Type 0
HasInstants = AreInstants setting.clocking.clocks setting.table.times three_halves setting.instants

abbrev pub IsMet : Type 0
IsMet = Meets setting values 2

abbrev pub IsPrinted : Type 0
IsPrinted = trace_text setting.model.names values setting.instants ≡ codes "time,n,f\n0,1500,true\n3/2,1500,false\n"

-- an interval that is 0 at the first tick does not meet it
abbrev pub IsOtherRefused : Type 0
IsOtherRefused = MeetsAt setting (with_value values 1 0 (value.Int (pos 0))) 1 → ⊥
