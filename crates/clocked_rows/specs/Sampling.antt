-- A sample of an input: `y = sample(u, Clock(1));`, where the input u is 5 from 0 on and 7 from 1 on.
use Rattle.std.specs.Prelude.{◌≡◌, zero, suc, true, false, [], ◌∷◌, Some, None, pos, codes}
use Rattle.sync_values.specs.declared.value.Value.TheVariants as value
use Rattle.flat_model.specs.declared.clock.Clock.TheVariants.{Periodic}
use Rattle.flat_model.specs.declared.clock.ClockExpr.TheVariants.{Rational}
use Rattle.flat_model.specs.declared.model.NameKind.TheVariants as kind
use Rattle.flat_model.specs.declared.equation.Equation.TheVariants.{Valued}
use Rattle.flat_model.specs.declared.expression.Expr.TheVariants.{Read, Sample}
use Rattle.flat_model.specs.Moments.{AreInstants}
use Rattle.flat_model.specs.Assignment.{Assignment}
use Rattle.flat_model.specs.Setting.{Setting}
use Rattle.flat_model.specs.Meets.{MeetsAt, Meets}
use Rattle.flat_model.specs.Trace.{trace_text}
use Rattle.flat_model.specs.Given.{with_value}
use Rattle.clocked_rows.specs.Instants.{whole}

abbrev pub setting : Setting
setting = record {
  model = record {
    names =
        record { text = codes "u"; kind = kind.Integer; input = true; start = value.Int (pos 0) } ∷
        record { text = codes "y"; kind = kind.Integer; input = false; start = value.Int (pos 0) } ∷ [];
    equations = Valued (Read 1) (Sample (Read 0) (Some (Rational 1 1))) None ∷ [];
    clauses = [];
  };
  clocking = record {
    of_name = None ∷ Some 0 ∷ [];
    of_equation = Some 0 ∷ [];
    clocks = Periodic (whole 1) (whole 0) ∷ [];
    partitions = 0 ∷ [];
    sites = [];
  };
  table = record { times = whole 0 ∷ whole 1 ∷ []; columns = 0 ∷ []; cells = value.Int (pos 5) ∷ value.Int (pos 7) ∷ [] };
  instants = whole 0 ∷ whole 1 ∷ whole 2 ∷ [];
}

-- u steps at the instant 1, and y at the instant 2: at 1 it has u's value just before
abbrev pub values : Assignment
values zero zero = Some (value.Int (pos 5))
values zero (suc zero) = Some (value.Int (pos 5))
values zero (suc (suc m)) = Some (value.Int (pos 7))
values (suc zero) zero = None
values (suc zero) (suc zero) = Some (value.Int (pos 5))
values (suc zero) (suc (suc zero)) = Some (value.Int (pos 5))
values (suc zero) (suc (suc (suc m))) = Some (value.Int (pos 7))
values (suc (suc x)) m = None

-- the instants up to 2
abbrev pub HasInstants : Type 0
HasInstants = AreInstants setting.clocking.clocks setting.table.times (whole 2) setting.instants

abbrev pub IsMet : Type 0
IsMet = Meets setting values 3

abbrev pub IsPrinted : Type 0
IsPrinted = trace_text setting.model.names values setting.instants ≡ codes "time,u,y\n0,5,5\n1,7,5\n2,7,7\n"

-- a sample that reads at the instant 1 the value at this instant does not meet it
abbrev pub IsOtherRefused : Type 0
IsOtherRefused = MeetsAt setting (with_value values 2 1 (value.Int (pos 7))) 2 → ⊥

-- an input with another value than the table's does not meet it
abbrev pub IsOtherInputRefused : Type 0
IsOtherInputRefused = MeetsAt setting (with_value values 3 0 (value.Int (pos 8))) 3 → ⊥
