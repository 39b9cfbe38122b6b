-- A condition that reads what has no value: `y = div(1, u); when Clock(div(6, u) > y) then n = previous(n) + 1; end when; h = hold(n);`, where the input u is 0.
use Rattle.std.specs.Prelude.{◌≡◌, zero, suc, true, false, List, [], ◌∷◌, Some, None, pos, codes}
use Rattle.sync_values.specs.declared.value.Value.TheVariants as value
use Rattle.sync_values.specs.declared.value.Fail.TheVariants.{Divide}
use Rattle.sync_values.specs.declared.value.Rel.TheVariants.{Greater}
use Rattle.sync_values.specs.declared.value.ChainOp.TheVariants.{Plus}
use Rattle.flat_model.specs.declared.clock.Clock.TheVariants as clock
use Rattle.flat_model.specs.declared.clock.ClockExpr.TheVariants.{Event}
use Rattle.flat_model.specs.declared.clock.Moment.TheVariants.{Initial}
use Rattle.flat_model.specs.declared.model.NameKind.TheVariants as kind
use Rattle.flat_model.specs.declared.model.FlatName.{FlatName}
use Rattle.flat_model.specs.declared.equation.Equation.{Equation}
use Rattle.flat_model.specs.declared.equation.Equation.TheVariants.{Valued}
use Rattle.flat_model.specs.declared.expression.Expr.{Expr}
use Rattle.flat_model.specs.declared.expression.Expr.TheVariants.{Const, Read, Chain, Relation, Previous, Apply, Hold}
use Rattle.flat_model.specs.declared.expression.Fun.TheVariants.{Div}
use Rattle.flat_model.specs.declared.fault.FaultPlace.TheVariants as place
use Rattle.flat_model.specs.Assignment.{Assignment}
use Rattle.flat_model.specs.Setting.{Setting}
use Rattle.flat_model.specs.Runs.{fault_line}
use Rattle.flat_model.specs.Uses.{Use}
use Rattle.flat_model.specs.Given.{CanUse}
use Rattle.flat_model.specs.Faults.{IsFirstToFail}
use Rattle.clocked_rows.specs.Instants.{whole}

-- div(6, u) > y
abbrev pub condition : Expr
condition = Relation Greater (Apply Div (Const (value.Int (pos 6)) ∷ Read 0 ∷ [])) (Read 1)

abbrev pub y : FlatName
y = record { text = codes "y"; kind = kind.Integer; input = false; start = value.Int (pos 0) }

abbrev pub dividing : Equation
dividing = Valued (Read 1) (Apply Div (Const (value.Int (pos 1)) ∷ Read 0 ∷ [])) None

abbrev pub holding : Equation
holding = Valued (Read 3) (Hold 2) None

abbrev pub setting : Setting
setting = record {
  model = record {
    names =
        record { text = codes "u"; kind = kind.Integer; input = true; start = value.Int (pos 0) } ∷ y ∷
        record { text = codes "n"; kind = kind.Integer; input = false; start = value.Int (pos 0) } ∷
        record { text = codes "h"; kind = kind.Integer; input = false; start = value.Int (pos 0) } ∷ [];
    equations = dividing ∷ Valued (Read 2) (Chain (Previous 2 ∷ Const (value.Int (pos 1)) ∷ []) (Plus ∷ [])) (Some 0) ∷ holding ∷ [];
    clauses = Event condition ∷ [];
  };
  clocking = record {
    of_name = None ∷ None ∷ Some 0 ∷ None ∷ [];
    of_equation = None ∷ Some 0 ∷ None ∷ [];
    clocks = clock.Event 0 1 0 ∷ [];
    partitions = 0 ∷ [];
    sites = condition ∷ [];
  };
  table = record { times = whole 0 ∷ []; columns = 0 ∷ []; cells = value.Int (pos 0) ∷ [] };
  instants = whole 0 ∷ [];
}

-- at Initial u alone has a value
abbrev pub values : Assignment
values zero m = Some (value.Int (pos 0))
values (suc x) m = None

-- each equation reaches the name on its left
abbrev pub uses : List Use
uses = record { equation = 0; name = 1 } ∷ record { equation = 1; name = 2 } ∷ record { equation = 2; name = 3 } ∷ []

-- the equation of y is the first to fail there: the site, which fails to divide too, reads y, and y has no value
abbrev pub IsFirst : Type 0
IsFirst = IsFirstToFail setting values uses 0 (place.Equation 0) Divide

-- it is not known whether n's clock ticks, so that n has no last value, and the equation of h does not count
abbrev pub IsHeldUnknown : Type 0
IsHeldUnknown = (name : FlatName) → CanUse setting values 0 (record { equation = 2; name = 3 }) holding name → ⊥

abbrev pub IsLine : Type 0
IsLine = fault_line Initial (place.Equation 0) Divide ≡ codes "fault divide at initial in equation 1\n"
