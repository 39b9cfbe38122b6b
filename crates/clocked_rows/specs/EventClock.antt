-- A counter on an event clock, and every second of its values: `when Clock(u > 3) then n = previous(n) + 1; end when; h = subSample(n, 2);`, where the input u is 1, 5, 6, 0 and 9 from the instants 0 to 4 on.
use Rattle.std.specs.Prelude.{◌≡◌, ℕ, ◌↔◌, zero, suc, true, false, [], ◌∷◌, Some, None, pos, codes}
use Rattle.sync_values.specs.declared.value.Value.TheVariants as value
use Rattle.sync_values.specs.declared.value.Rel.TheVariants.{Greater}
use Rattle.sync_values.specs.declared.value.ChainOp.TheVariants.{Plus}
use Rattle.flat_model.specs.declared.clock.Clock.TheVariants as clock
use Rattle.flat_model.specs.declared.clock.ClockExpr.TheVariants.{Event}
use Rattle.flat_model.specs.declared.clock.Conversion.TheVariants.{Sub}
use Rattle.flat_model.specs.declared.model.NameKind.TheVariants as kind
use Rattle.flat_model.specs.declared.model.FlatName.{FlatName}
use Rattle.flat_model.specs.declared.equation.Equation.{Equation}
use Rattle.flat_model.specs.declared.equation.Equation.TheVariants.{Valued}
use Rattle.flat_model.specs.declared.expression.Expr.{Expr}
use Rattle.flat_model.specs.declared.expression.Expr.TheVariants.{Const, Read, Chain, Relation, Previous, Convert}
use Rattle.flat_model.specs.Moments.{AreInstants}
use Rattle.flat_model.specs.Assignment.{Assignment}
use Rattle.flat_model.specs.Setting.{Setting}
use Rattle.flat_model.specs.Meets.{MeetsAt, Meets}
use Rattle.flat_model.specs.Trace.{trace_text}
use Rattle.flat_model.specs.Plan.{HasPlan}
use Rattle.flat_model.specs.Given.{with_value}
use Rattle.clocked_rows.specs.Instants.{whole}

-- u > 3
abbrev pub condition : Expr
condition = Relation Greater (Read 0) (Const (value.Int (pos 3)))

abbrev pub u : FlatName
u = record { text = codes "u"; kind = kind.Integer; input = true; start = value.Int (pos 0) }

abbrev pub n : FlatName
n = record { text = codes "n"; kind = kind.Integer; input = false; start = value.Int (pos 0) }

abbrev pub h : FlatName
h = record { text = codes "h"; kind = kind.Integer; input = false; start = value.Int (pos 0) }

abbrev pub counting : Equation
counting = Valued (Read 1) (Chain (Previous 1 ∷ Const (value.Int (pos 1)) ∷ []) (Plus ∷ [])) (Some 0)

abbrev pub halving : Equation
halving = Valued (Read 2) (Convert (Sub 2) 1) None

abbrev pub setting : Setting
setting = record {
  model = record {
    names = u ∷ n ∷ h ∷ [];
    equations = counting ∷ halving ∷ [];
    clauses = Event condition ∷ [];
  };
  clocking = record {
    of_name = None ∷ Some 0 ∷ Some 1 ∷ [];
    of_equation = Some 0 ∷ Some 1 ∷ [];
    clocks = clock.Event 0 1 0 ∷ clock.Event 0 2 0 ∷ [];
    partitions = 0 ∷ 0 ∷ [];
    sites = condition ∷ [];
  };
  table = record {
    times = whole 0 ∷ whole 1 ∷ whole 2 ∷ whole 3 ∷ whole 4 ∷ [];
    columns = 0 ∷ [];
    cells = value.Int (pos 1) ∷ value.Int (pos 5) ∷ value.Int (pos 6) ∷ value.Int (pos 0) ∷ value.Int (pos 9) ∷ [];
  };
  instants = whole 0 ∷ whole 1 ∷ whole 2 ∷ whole 3 ∷ whole 4 ∷ [];
}

-- the condition becomes true at the instants 1 and 4, at the first of which h ticks too
abbrev pub values : Assignment
values zero zero = Some (value.Int (pos 1))
values zero (suc zero) = Some (value.Int (pos 1))
values zero (suc (suc zero)) = Some (value.Int (pos 5))
values zero (suc (suc (suc zero))) = Some (value.Int (pos 6))
values zero (suc (suc (suc (suc zero)))) = Some (value.Int (pos 0))
values zero (suc (suc (suc (suc (suc zero))))) = Some (value.Int (pos 9))
values (suc zero) (suc (suc zero)) = Some (value.Int (pos 1))
values (suc zero) (suc (suc (suc (suc (suc zero))))) = Some (value.Int (pos 2))
values (suc (suc zero)) (suc (suc zero)) = Some (value.Int (pos 1))
values x m = None

-- the instants up to 4
abbrev pub HasInstants : Type 0
HasInstants = AreInstants setting.clocking.clocks setting.table.times (whole 4) setting.instants

abbrev pub IsMet : Type 0
IsMet = Meets setting values 5

abbrev pub IsPrinted : Type 0
IsPrinted = trace_text setting.model.names values setting.instants ≡ codes "time,u,n,h\n0,1,,\n1,5,1,1\n2,6,,\n3,0,,\n4,9,2,\n"

-- a clock that ticks also at the instant 2, where the condition is still true, does not meet it
abbrev pub IsOtherRefused : Type 0
IsOtherRefused = MeetsAt setting (with_value values 3 1 (value.Int (pos 2))) 3 → ⊥

-- the plan up to 4 counts each of its two event clocks at each of its five rows, and the rows
abbrev pub HasCount : Type 0
HasCount = (count : ℕ) → HasPlan setting (whole 4) count ↔ (count ≡ 15)
