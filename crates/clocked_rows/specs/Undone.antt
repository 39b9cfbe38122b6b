-- A name behind two signs: `when Clock(1) then 10 - (x + 3) = previous(x); end when;`.
use Rattle.std.specs.Prelude.{◌≡◌, zero, suc, false, [], ◌∷◌, Some, None, pos, codes}
use Rattle.sync_values.specs.declared.value.Value.TheVariants as value
use Rattle.sync_values.specs.declared.value.ChainOp.TheVariants.{Plus, Minus}
use Rattle.flat_model.specs.declared.clock.Clock.TheVariants.{Periodic}
use Rattle.flat_model.specs.declared.clock.ClockExpr.TheVariants.{Rational}
use Rattle.flat_model.specs.declared.model.NameKind.TheVariants as kind
use Rattle.flat_model.specs.declared.equation.Equation.TheVariants.{Valued}
use Rattle.flat_model.specs.declared.expression.Expr.TheVariants.{Const, Read, Chain, Previous}
use Rattle.flat_model.specs.Moments.{AreInstants}
use Rattle.flat_model.specs.Assignment.{Assignment}
use Rattle.flat_model.specs.Setting.{Setting}
use Rattle.flat_model.specs.Meets.{MeetsAt, Meets}
use Rattle.flat_model.specs.Trace.{trace_text}
use Rattle.flat_model.specs.Given.{with_value}
use Rattle.clocked_rows.specs.Instants.{whole}

abbrev pub setting : Setting
setting = record {
  model = record {
    names = record { text = codes "x"; kind = kind.Integer; input = false; start = value.Int (pos 0) } ∷ [];
    equations =
        Valued (Chain (Const (value.Int (pos 10)) ∷ Chain (Read 0 ∷ Const (value.Int (pos 3)) ∷ []) (Plus ∷ []) ∷ []) (Minus ∷ [])) (Previous 0) (Some 0) ∷ [];
    clauses = Rational 1 1 ∷ [];
  };
  clocking = record {
    of_name = Some 0 ∷ [];
    of_equation = Some 0 ∷ [];
    clocks = Periodic (whole 1) (whole 0) ∷ [];
    partitions = 0 ∷ [];
    sites = [];
  };
  table = record { times = whole 0 ∷ []; columns = []; cells = [] };
  instants = whole 0 ∷ whole 1 ∷ whole 2 ∷ [];
}

-- x is 7 less its value of the tick before, from the start 0 on
abbrev pub values : Assignment
values zero (suc zero) = Some (value.Int (pos 7))
values zero (suc (suc zero)) = Some (value.Int (pos 0))
values zero (suc (suc (suc zero))) = Some (value.Int (pos 7))
values x m = None

-- the instants up to 2
abbrev pub HasInstants : Type 0
HasInstants = AreInstants setting.clocking.clocks setting.table.times (whole 2) setting.instants

abbrev pub IsMet : Type 0
IsMet = Meets setting values 3

abbrev pub IsPrinted : Type 0
IsPrinted = trace_text setting.model.names values setting.instants ≡ codes "time,x\n0,7\n1,0\n2,7\n"

-- a value of x with the sign of a sum does not meet it
abbrev pub IsOtherRefused : Type 0
IsOtherRefused = MeetsAt setting (with_value values 2 0 (value.Int (pos 14))) 2 → ⊥
