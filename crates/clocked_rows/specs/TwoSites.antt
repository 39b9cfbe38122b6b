-- Two conditions that fail at one instant: `when Clock(div(6, u) > 2) then a = previous(a) + 1; end when; when Clock(div(7, u) > 2) then b = previous(b) + 1; end when;`, where the input u is 6, 2 and 0 from the instants 0 to 2 on.
use Rattle.std.specs.Prelude.{◌≡◌, zero, suc, true, false, List, [], ◌∷◌, Some, None, pos, codes}
use Rattle.sync_values.specs.declared.value.Value.TheVariants as value
use Rattle.sync_values.specs.declared.value.Fail.TheVariants.{Divide}
use Rattle.sync_values.specs.declared.value.Rel.TheVariants.{Greater}
use Rattle.sync_values.specs.declared.value.ChainOp.TheVariants.{Plus}
use Rattle.flat_model.specs.declared.clock.Clock.TheVariants as clock
use Rattle.flat_model.specs.declared.clock.ClockExpr.TheVariants.{Event}
use Rattle.flat_model.specs.declared.clock.Moment.TheVariants.{At}
use Rattle.flat_model.specs.declared.model.NameKind.TheVariants as kind
use Rattle.flat_model.specs.declared.model.FlatName.{FlatName}
use Rattle.flat_model.specs.declared.equation.Equation.{Equation}
use Rattle.flat_model.specs.declared.equation.Equation.TheVariants.{Valued}
use Rattle.flat_model.specs.declared.expression.Expr.{Expr}
use Rattle.flat_model.specs.declared.expression.Expr.TheVariants.{Const, Read, Chain, Relation, Previous, Apply}
use Rattle.flat_model.specs.declared.expression.Fun.TheVariants.{Div}
use Rattle.flat_model.specs.declared.fault.FaultPlace.TheVariants as place
use Rattle.flat_model.specs.Assignment.{Assignment}
use Rattle.flat_model.specs.Setting.{Setting}
use Rattle.flat_model.specs.Meets.{Meets, MeetsBefore}
use Rattle.flat_model.specs.Trace.{trace_text}
use Rattle.flat_model.specs.Runs.{fault_line}
use Rattle.flat_model.specs.Uses.{Use}
use Rattle.flat_model.specs.Faults.{SiteFails, IsFirstToFail}
use Rattle.clocked_rows.specs.Instants.{whole}

-- div(6, u) > 2 and div(7, u) > 2
abbrev pub first_condition : Expr
first_condition = Relation Greater (Apply Div (Const (value.Int (pos 6)) ∷ Read 0 ∷ [])) (Const (value.Int (pos 2)))

abbrev pub second_condition : Expr
second_condition = Relation Greater (Apply Div (Const (value.Int (pos 7)) ∷ Read 0 ∷ [])) (Const (value.Int (pos 2)))

abbrev pub a : FlatName
a = record { text = codes "a"; kind = kind.Integer; input = false; start = value.Int (pos 0) }

abbrev pub b : FlatName
b = record { text = codes "b"; kind = kind.Integer; input = false; start = value.Int (pos 0) }

abbrev pub first_count : Equation
first_count = Valued (Read 1) (Chain (Previous 1 ∷ Const (value.Int (pos 1)) ∷ []) (Plus ∷ [])) (Some 0)

abbrev pub second_count : Equation
second_count = Valued (Read 2) (Chain (Previous 2 ∷ Const (value.Int (pos 1)) ∷ []) (Plus ∷ [])) (Some 1)

abbrev pub setting : Setting
setting = record {
  model = record {
    names =
        record { text = codes "u"; kind = kind.Integer; input = true; start = value.Int (pos 0) } ∷
        a ∷ b ∷ [];
    equations = first_count ∷ second_count ∷ [];
    clauses = Event first_condition ∷ Event second_condition ∷ [];
  };
  clocking = record {
    of_name = None ∷ Some 0 ∷ Some 1 ∷ [];
    of_equation = Some 0 ∷ Some 1 ∷ [];
    clocks = clock.Event 0 1 0 ∷ clock.Event 1 1 0 ∷ [];
    partitions = 0 ∷ 1 ∷ [];
    sites = first_condition ∷ second_condition ∷ [];
  };
  table = record { times = whole 0 ∷ whole 1 ∷ whole 2 ∷ []; columns = 0 ∷ []; cells = value.Int (pos 6) ∷ value.Int (pos 2) ∷ value.Int (pos 0) ∷ [] };
  instants = whole 0 ∷ whole 1 ∷ whole 2 ∷ [];
}

-- both conditions rise at the instant 1, and at 2 both divide by 0
abbrev pub values : Assignment
values zero zero = Some (value.Int (pos 6))
values zero (suc zero) = Some (value.Int (pos 6))
values zero (suc (suc zero)) = Some (value.Int (pos 2))
values zero (suc (suc (suc m))) = Some (value.Int (pos 0))
values (suc zero) (suc (suc zero)) = Some (value.Int (pos 1))
values (suc (suc zero)) (suc (suc zero)) = Some (value.Int (pos 1))
values x m = None

abbrev pub IsMetBefore : Type 0
IsMetBefore = MeetsBefore setting values 3

-- the first condition is the first to fail at the instant 2, whatever the uses
abbrev pub IsFirst : Type 0
IsFirst = (uses : List Use) → IsFirstToFail setting values uses 3 (place.Site 0) Divide

-- the second fails too, and is not the first
abbrev pub IsSecondNotFirst : Type 0
IsSecondNotFirst = SiteFails setting values 3 1 Divide × ((uses : List Use) → IsFirstToFail setting values uses 3 (place.Site 1) Divide → ⊥)

abbrev pub IsLine : Type 0
IsLine = fault_line (At (whole 2)) (place.Site 0) Divide ≡ codes "fault divide at 2 in clock 1\n"

-- the trace of the instants before
abbrev pub IsPrinted : Type 0
IsPrinted = trace_text setting.model.names values (whole 0 ∷ whole 1 ∷ []) ≡ codes "time,u,a,b\n0,6,,\n1,2,1,1\n"

-- nothing meets the model through the instant 2
abbrev pub IsMetByNone : Type 0
IsMetByNone = (S : Assignment) → Meets setting S 3 → ⊥
