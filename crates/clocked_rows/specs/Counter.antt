-- A counter: `when Clock(1, 2) then x = previous(x) + 1; end when;`.
use Rattle.std.specs.Prelude.{◌≡◌, zero, suc, false, [], ◌∷◌, Some, None, pos, codes}
use Rattle.sync_values.specs.declared.value.Value.TheVariants as value
use Rattle.sync_values.specs.declared.value.ChainOp.TheVariants.{Plus}
use Rattle.flat_model.specs.declared.clock.Clock.TheVariants.{Periodic}
use Rattle.flat_model.specs.declared.clock.ClockExpr.TheVariants.{Rational}
use Rattle.flat_model.specs.declared.model.NameKind.TheVariants as kind
use Rattle.flat_model.specs.declared.equation.Equation.TheVariants.{Valued}
use Rattle.flat_model.specs.declared.expression.Expr.TheVariants.{Const, Read, Chain, Previous}
use Rattle.flat_model.specs.Moments.{AreInstants}
use Rattle.flat_model.specs.Assignment.{Assignment}
use Rattle.flat_model.specs.Setting.{Setting}
use Rattle.flat_model.specs.Meets.{MeetsAt, Meets}
use Rattle.flat_model.specs.Trace.{trace_text}
use Rattle.flat_model.specs.Given.{with_value}
use Rattle.clocked_rows.specs.Instants.{whole, half}

abbrev pub setting : Setting
setting = record {
  model = record {
    names = record { text = codes "x"; kind = kind.Integer; input = false; start = value.Int (pos 0) } ∷ [];
    equations = Valued (Read 0) (Chain (Previous 0 ∷ Const (value.Int (pos 1)) ∷ []) (Plus ∷ [])) (Some 0) ∷ [];
    clauses = Rational 1 2 ∷ [];
  };
  clocking = record {
    of_name = Some 0 ∷ [];
    of_equation = Some 0 ∷ [];
    clocks = Periodic half (whole 0) ∷ [];
    partitions = 0 ∷ [];
    sites = [];
  };
  table = record { times = whole 0 ∷ []; columns = []; cells = [] };
  instants = whole 0 ∷ half ∷ whole 1 ∷ [];
}

-- x is 1, 2 and 3 at its three ticks
abbrev pub values : Assignment
values zero zero = None
values zero (suc k) = Some (value.Int (pos (suc k)))
values (suc x) m = None

-- the instants up to 1
abbrev pub HasInstants : Type 0
HasInstants = AreInstants setting.clocking.clocks setting.table.times (whole 1) setting.instants

abbrev pub IsMet : Type 0
IsMet = Meets setting values 3

abbrev pub IsPrinted : Type 0
IsPrinted = trace_text setting.model.names values setting.instants ≡ codes "time,x\n0,1\n1/2,2\n1,3\n"

-- a counter that stands still at 1/2 does not meet it
abbrev pub IsOtherRefused : Type 0
IsOtherRefused = MeetsAt setting (with_value values 2 0 (value.Int (pos 1))) 2 → ⊥
