-- An event clock behind a factor and a shift, and an interval between rises: `when Clock(u > 3) then n = previous(n) + 1; d = integer(interval(n) * 10); end when; s = subSample(n, 3); m = shiftSample(s, 1, 3);`, where the input u is 1, 5, 6, 0 and 9 from the instants 0 to 4 on.
use Rattle.std.specs.Prelude.{◌≡◌, zero, suc, true, false, [], ◌∷◌, Some, None, pos, codes}
use Rattle.sync_values.specs.declared.value.Value.TheVariants as value
use Rattle.sync_values.specs.declared.value.Rel.TheVariants.{Greater}
use Rattle.sync_values.specs.declared.value.ChainOp.TheVariants.{Plus}
use Rattle.flat_model.specs.declared.clock.Clock.TheVariants as clock
use Rattle.flat_model.specs.declared.clock.ClockExpr.TheVariants.{Event}
use Rattle.flat_model.specs.declared.clock.Conversion.TheVariants.{Sub, Shift}
use Rattle.flat_model.specs.declared.model.NameKind.TheVariants as kind
use Rattle.flat_model.specs.declared.model.FlatName.{FlatName}
use Rattle.flat_model.specs.declared.equation.Equation.{Equation}
use Rattle.flat_model.specs.declared.equation.Equation.TheVariants.{Valued}
use Rattle.flat_model.specs.declared.expression.Expr.{Expr}
use Rattle.flat_model.specs.declared.expression.Expr.TheVariants.{Const, Read, Chain, Relation, Previous, IntervalTimes, Convert}
use Rattle.flat_model.specs.Moments.{AreInstants}
use Rattle.flat_model.specs.Assignment.{Assignment}
use Rattle.flat_model.specs.Setting.{Setting}
use Rattle.flat_model.specs.Meets.{MeetsAt, Meets}
use Rattle.flat_model.specs.Trace.{trace_text}
use Rattle.flat_model.specs.Given.{with_value}
use Rattle.clocked_rows.specs.Instants.{whole}

-- u > 3
abbrev pub condition : Expr
condition = Relation Greater (Read 0) (Const (value.Int (pos 3)))

abbrev pub u : FlatName
u = record { text = codes "u"; kind = kind.Integer; input = true; start = value.Int (pos 0) }

abbrev pub n : FlatName
n = record { text = codes "n"; kind = kind.Integer; input = false; start = value.Int (pos 0) }

abbrev pub d : FlatName
d = record { text = codes "d"; kind = kind.Integer; input = false; start = value.Int (pos 0) }

abbrev pub s : FlatName
s = record { text = codes "s"; kind = kind.Integer; input = false; start = value.Int (pos 0) }

abbrev pub m : FlatName
m = record { text = codes "m"; kind = kind.Integer; input = false; start = value.Int (pos 0) }

abbrev pub counting : Equation
counting = Valued (Read 1) (Chain (Previous 1 ∷ Const (value.Int (pos 1)) ∷ []) (Plus ∷ [])) (Some 0)

abbrev pub measuring : Equation
measuring = Valued (Read 2) (IntervalTimes (Some 1) 10) (Some 0)

abbrev pub thinning : Equation
thinning = Valued (Read 3) (Convert (Sub 3) 1) None

abbrev pub shifting : Equation
shifting = Valued (Read 4) (Convert (Shift 1 3) 3) None

abbrev pub setting : Setting
setting = record {
  model = record {
    names = u ∷ n ∷ d ∷ s ∷ m ∷ [];
    equations = counting ∷ measuring ∷ thinning ∷ shifting ∷ [];
    clauses = Event condition ∷ [];
  };
  clocking = record {
    of_name = None ∷ Some 0 ∷ Some 0 ∷ Some 1 ∷ Some 2 ∷ [];
    of_equation = Some 0 ∷ Some 0 ∷ Some 1 ∷ Some 2 ∷ [];
    clocks = clock.Event 0 1 0 ∷ clock.Event 0 3 0 ∷ clock.Event 0 3 1 ∷ [];
    partitions = 0 ∷ 0 ∷ 0 ∷ [];
    sites = condition ∷ [];
  };
  table = record {
    times = whole 0 ∷ whole 1 ∷ whole 2 ∷ whole 3 ∷ whole 4 ∷ [];
    columns = 0 ∷ [];
    cells = value.Int (pos 1) ∷ value.Int (pos 5) ∷ value.Int (pos 6) ∷ value.Int (pos 0) ∷ value.Int (pos 9) ∷ [];
  };
  instants = whole 0 ∷ whole 1 ∷ whole 2 ∷ whole 3 ∷ whole 4 ∷ [];
}

-- the condition rises at the instants 1 and 4, three seconds apart: s ticks at the first, and m at the second, one later
abbrev pub values : Assignment
values zero zero = Some (value.Int (pos 1))
values zero (suc zero) = Some (value.Int (pos 1))
values zero (suc (suc zero)) = Some (value.Int (pos 5))
values zero (suc (suc (suc zero))) = Some (value.Int (pos 6))
values zero (suc (suc (suc (suc zero)))) = Some (value.Int (pos 0))
values zero (suc (suc (suc (suc (suc zero))))) = Some (value.Int (pos 9))
values (suc zero) (suc (suc zero)) = Some (value.Int (pos 1))
values (suc zero) (suc (suc (suc (suc (suc zero))))) = Some (value.Int (pos 2))
values (suc (suc zero)) (suc (suc zero)) = Some (value.Int (pos 0))
values (suc (suc zero)) (suc (suc (suc (suc (suc zero))))) = Some (value.Int (pos 30))
values (suc (suc (suc zero))) (suc (suc zero)) = Some (value.Int (pos 1))
values (suc (suc (suc (suc zero)))) (suc (suc (suc (suc (suc zero))))) = Some (value.Int (pos 1))
values x k = None

-- the instants up to 4
abbrev pub HasInstants : Type 0
HasInstants = AreInstants setting.clocking.clocks setting.table.times (whole 4) setting.instants

abbrev pub IsMet : Type 0
IsMet = Meets setting values 5

abbrev pub IsPrinted : Type 0
IsPrinted = trace_text setting.model.names values setting.instants ≡ codes "time,u,n,d,s,m\n0,1,,,,\n1,5,1,0,1,\n2,6,,,,\n3,0,,,,\n4,9,2,30,,1\n"

-- an interval that is 0 at the second tick does not meet it
abbrev pub IsOtherRefused : Type 0
IsOtherRefused = MeetsAt setting (with_value values 5 2 (value.Int (pos 0))) 5 → ⊥
