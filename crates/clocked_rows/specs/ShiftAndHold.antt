-- A shifted clock and a hold: `when Clock(1) then a = 1; end when; b = shiftSample(a, 1, 2); y = hold(b);`, where b starts with 7.
use Rattle.std.specs.Prelude.{◌≡◌, zero, suc, false, [], ◌∷◌, Some, None, pos, codes}
use Rattle.sync_values.specs.declared.value.Value.TheVariants as value
use Rattle.flat_model.specs.declared.clock.Clock.TheVariants.{Periodic}
use Rattle.flat_model.specs.declared.clock.ClockExpr.TheVariants.{Rational}
use Rattle.flat_model.specs.declared.clock.Conversion.TheVariants.{Shift}
use Rattle.flat_model.specs.declared.model.NameKind.TheVariants as kind
use Rattle.flat_model.specs.declared.equation.Equation.TheVariants.{Valued}
use Rattle.flat_model.specs.declared.expression.Expr.TheVariants.{Const, Read, Hold, Convert}
use Rattle.flat_model.specs.Moments.{AreInstants}
use Rattle.flat_model.specs.Assignment.{Assignment}
use Rattle.flat_model.specs.Setting.{Setting}
use Rattle.flat_model.specs.Meets.{MeetsAt, Meets}
use Rattle.flat_model.specs.Trace.{trace_text}
use Rattle.flat_model.specs.Given.{with_value}
use Rattle.clocked_rows.specs.Instants.{whole, half}

abbrev pub setting : Setting
setting = record {
  model = record {
    names =
        record { text = codes "a"; kind = kind.Integer; input = false; start = value.Int (pos 0) } ∷
        record { text = codes "b"; kind = kind.Integer; input = false; start = value.Int (pos 7) } ∷
        record { text = codes "y"; kind = kind.Integer; input = false; start = value.Int (pos 0) } ∷ [];
    equations =
        Valued (Read 0) (Const (value.Int (pos 1))) (Some 0) ∷
        Valued (Read 1) (Convert (Shift 1 2) 0) None ∷
        Valued (Read 2) (Hold 1) None ∷ [];
    clauses = Rational 1 1 ∷ [];
  };
  clocking = record {
    of_name = Some 0 ∷ Some 1 ∷ None ∷ [];
    of_equation = Some 0 ∷ Some 1 ∷ None ∷ [];
    clocks = Periodic (whole 1) (whole 0) ∷ Periodic (whole 1) half ∷ [];
    partitions = 0 ∷ 0 ∷ [];
    sites = [];
  };
  table = record { times = whole 0 ∷ []; columns = []; cells = [] };
  instants = whole 0 ∷ half ∷ [];
}

-- b has a's value half a second later, and y has b's start until then
abbrev pub values : Assignment
values zero (suc zero) = Some (value.Int (pos 1))
values (suc zero) (suc (suc zero)) = Some (value.Int (pos 1))
values (suc (suc zero)) zero = Some (value.Int (pos 7))
values (suc (suc zero)) (suc zero) = Some (value.Int (pos 7))
values (suc (suc zero)) (suc (suc m)) = Some (value.Int (pos 1))
values x m = None

-- the instants up to 1/2
abbrev pub HasInstants : Type 0
HasInstants = AreInstants setting.clocking.clocks setting.table.times half setting.instants

abbrev pub IsMet : Type 0
IsMet = Meets setting values 2

abbrev pub IsPrinted : Type 0
IsPrinted = trace_text setting.model.names values setting.instants ≡ codes "time,a,b,y\n0,1,,7\n1/2,,1,1\n"

-- a hold that is 0 before the first tick does not meet it
abbrev pub IsOtherRefused : Type 0
IsOtherRefused = MeetsAt setting (with_value values 1 2 (value.Int (pos 0))) 1 → ⊥
