-- Two clocks with nothing between them: `when Clock(1, 3) then a = previous(a) + 1; end when; when Clock(1, 2) then b = noClock(a) + 10; end when;`.
use Rattle.std.specs.Prelude.{◌≡◌, zero, suc, false, [], ◌∷◌, Some, None, pos, codes}
use Rattle.sync_values.specs.declared.value.Value.TheVariants as value
use Rattle.sync_values.specs.declared.value.ChainOp.TheVariants.{Plus}
use Rattle.flat_model.specs.declared.clock.Clock.TheVariants.{Periodic}
use Rattle.flat_model.specs.declared.clock.ClockExpr.TheVariants.{Rational}
use Rattle.flat_model.specs.declared.clock.Conversion.TheVariants.{NoClock}
use Rattle.flat_model.specs.declared.model.NameKind.TheVariants as kind
use Rattle.flat_model.specs.declared.equation.Equation.TheVariants.{Valued}
use Rattle.flat_model.specs.declared.expression.Expr.TheVariants.{Const, Read, Chain, Previous, Convert}
use Rattle.flat_model.specs.Moments.{AreInstants}
use Rattle.flat_model.specs.Assignment.{Assignment}
use Rattle.flat_model.specs.Setting.{Setting}
use Rattle.flat_model.specs.Meets.{MeetsAt, Meets}
use Rattle.flat_model.specs.Trace.{trace_text}
use Rattle.flat_model.specs.Given.{with_value}
use Rattle.clocked_rows.specs.Instants.{whole, half, third, two_thirds}

abbrev pub setting : Setting
setting = record {
  model = record {
    names =
        record { text = codes "a"; kind = kind.Integer; input = false; start = value.Int (pos 0) } ∷
        record { text = codes "b"; kind = kind.Integer; input = false; start = value.Int (pos 0) } ∷ [];
    equations =
        Valued (Read 0) (Chain (Previous 0 ∷ Const (value.Int (pos 1)) ∷ []) (Plus ∷ [])) (Some 0) ∷
        Valued (Read 1) (Chain (Convert NoClock 0 ∷ Const (value.Int (pos 10)) ∷ []) (Plus ∷ [])) (Some 1) ∷ [];
    clauses = Rational 1 3 ∷ Rational 1 2 ∷ [];
  };
  clocking = record {
    of_name = Some 0 ∷ Some 1 ∷ [];
    of_equation = Some 0 ∷ Some 1 ∷ [];
    clocks = Periodic third (whole 0) ∷ Periodic half (whole 0) ∷ [];
    partitions = 0 ∷ 0 ∷ [];
    sites = [];
  };
  table = record { times = whole 0 ∷ []; columns = []; cells = [] };
  instants = whole 0 ∷ third ∷ half ∷ two_thirds ∷ whole 1 ∷ [];
}

-- a counts the thirds, and b follows a's last value every half
abbrev pub values : Assignment
values zero (suc zero) = Some (value.Int (pos 1))
values zero (suc (suc zero)) = Some (value.Int (pos 2))
values zero (suc (suc (suc (suc zero)))) = Some (value.Int (pos 3))
values zero (suc (suc (suc (suc (suc zero))))) = Some (value.Int (pos 4))
values (suc zero) (suc zero) = Some (value.Int (pos 11))
values (suc zero) (suc (suc (suc zero))) = Some (value.Int (pos 12))
values (suc zero) (suc (suc (suc (suc (suc zero))))) = Some (value.Int (pos 14))
values x m = None

-- the instants up to 1
abbrev pub HasInstants : Type 0
HasInstants = AreInstants setting.clocking.clocks setting.table.times (whole 1) setting.instants

abbrev pub IsMet : Type 0
IsMet = Meets setting values 5

abbrev pub IsPrinted : Type 0
IsPrinted = trace_text setting.model.names values setting.instants ≡ codes "time,a,b\n0,1,11\n1/3,2,\n1/2,,12\n2/3,3,\n1,4,14\n"

-- a value of a's tick before the last one does not meet it
abbrev pub IsOtherRefused : Type 0
IsOtherRefused = MeetsAt setting (with_value values 3 1 (value.Int (pos 11))) 3 → ⊥
