-- Two base partitions, of which the second fails: `when Clock(1, 2) then a = previous(a) + 1; end when; when Clock(1, 3) then b = div(12, previous(b) - 1); end when;`, where a starts with 0 and b with 7.
use Rattle.std.specs.Prelude.{◌≡◌, zero, suc, false, [], ◌∷◌, Some, None, pos, codes}
use Rattle.sync_values.specs.declared.value.Value.TheVariants as value
use Rattle.sync_values.specs.declared.value.Fail.TheVariants.{Divide}
use Rattle.sync_values.specs.declared.value.ChainOp.TheVariants.{Plus, Minus}
use Rattle.flat_model.specs.declared.clock.Clock.TheVariants.{Periodic}
use Rattle.flat_model.specs.declared.clock.ClockExpr.TheVariants.{Rational}
use Rattle.flat_model.specs.declared.clock.Moment.TheVariants.{At}
use Rattle.flat_model.specs.declared.model.NameKind.TheVariants as kind
use Rattle.flat_model.specs.declared.model.FlatName.{FlatName}
use Rattle.flat_model.specs.declared.equation.Equation.TheVariants.{Valued}
use Rattle.flat_model.specs.declared.expression.Expr.{Expr}
use Rattle.flat_model.specs.declared.expression.Expr.TheVariants.{Const, Read, Chain, Apply, Previous}
use Rattle.flat_model.specs.declared.expression.Fun.TheVariants.{Div}
use Rattle.flat_model.specs.declared.fault.FaultPlace.TheVariants as place
use Rattle.flat_model.specs.Moments.{AreInstants}
use Rattle.flat_model.specs.Assignment.{Assignment}
use Rattle.flat_model.specs.Setting.{Setting}
use Rattle.flat_model.specs.Meets.{Meets}
use Rattle.flat_model.specs.Trace.{trace_text}
use Rattle.flat_model.specs.Runs.{fault_line}
use Rattle.flat_model.specs.Faults.{IsFirstFault}
use Rattle.clocked_rows.specs.Instants.{whole, half, third, two_thirds}

-- previous(a) + 1 and div(12, previous(b) - 1)
abbrev pub next : Expr
next = Chain (Previous 0 ∷ Const (value.Int (pos 1)) ∷ []) (Plus ∷ [])

abbrev pub quotient : Expr
quotient = Apply Div (Const (value.Int (pos 12)) ∷ Chain (Previous 1 ∷ Const (value.Int (pos 1)) ∷ []) (Minus ∷ []) ∷ [])

abbrev pub a : FlatName
a = record { text = codes "a"; kind = kind.Integer; input = false; start = value.Int (pos 0) }

abbrev pub b : FlatName
b = record { text = codes "b"; kind = kind.Integer; input = false; start = value.Int (pos 7) }

abbrev pub setting : Setting
setting = record {
  model = record { names = a ∷ b ∷ []; equations = Valued (Read 0) next (Some 0) ∷ Valued (Read 1) quotient (Some 1) ∷ []; clauses = Rational 1 2 ∷ Rational 1 3 ∷ [] };
  clocking = record {
    of_name = Some 0 ∷ Some 1 ∷ [];
    of_equation = Some 0 ∷ Some 1 ∷ [];
    clocks = Periodic half (whole 0) ∷ Periodic third (whole 0) ∷ [];
    partitions = 0 ∷ 1 ∷ [];
    sites = [];
  };
  table = record { times = whole 0 ∷ []; columns = []; cells = [] };
  instants = whole 0 ∷ third ∷ half ∷ two_thirds ∷ whole 1 ∷ [];
}

abbrev pub HasInstants : Type 0
HasInstants = AreInstants setting.clocking.clocks setting.table.times (whole 1) setting.instants

-- b is 2, 12 and 1 at 0, 1/3 and 2/3; a is 1 and 2 at 0 and 1/2
abbrev pub values : Assignment
values zero (suc zero) = Some (value.Int (pos 1))
values zero (suc (suc (suc zero))) = Some (value.Int (pos 2))
values (suc zero) (suc zero) = Some (value.Int (pos 2))
values (suc zero) (suc (suc zero)) = Some (value.Int (pos 12))
values (suc zero) (suc (suc (suc (suc zero)))) = Some (value.Int (pos 1))
values x m = None

-- both clocks tick at the instant 1; b divides by 0 there, and a does not fail
abbrev pub IsFault : Type 0
IsFault = IsFirstFault setting values 5 (place.Equation 1) Divide

abbrev pub IsLine : Type 0
IsLine = fault_line (At (whole 1)) (place.Equation 1) Divide ≡ codes "fault divide at 1 in equation 2\n"

-- the trace of the instants before
abbrev pub IsPrinted : Type 0
IsPrinted = trace_text setting.model.names values (whole 0 ∷ third ∷ half ∷ two_thirds ∷ []) ≡ codes "time,a,b\n0,1,2\n1/3,,12\n1/2,2,\n2/3,,1\n"

-- nothing meets the model through the instant 1
abbrev pub IsMetByNone : Type 0
IsMetByNone = (S : Assignment) → Meets setting S 5 → ⊥
